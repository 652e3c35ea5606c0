-- How a list is searched for what a list of pieces stands for: first what is before a run, and then from each item on what is after it.
use Rattle.std.specs.Prelude.{◌≡◌, ℕ, Bool, true, false, List, [], ◌∷◌, Option, Some, None}
use Rattle.std.specs.Borrow.{Bor}
use Rattle.std.specs.Str.{chars}
use Rattle.path_globs.specs.NormalForm.{components}
use Rattle.path_globs.specs.Wildcards.{stand_for}
use Rattle.path_globs.specs.declared.wildcards.Front.{Front}
use Rattle.path_globs.specs.declared.wildcards.Front.TheVariants as front
use Rattle.path_globs.specs.declared.wildcards.Turn.{Turn}
use Rattle.path_globs.specs.declared.wildcards.Turn.TheVariants as turn

-- the components of what is left of a path, if anything is
abbrev pub components_left : Option (Bor (List ℕ)) → List (List ℕ)
components_left None = []
components_left (Some path) = components path.now

-- the characters of what is left of a text
abbrev pub characters : Bor (List ℕ) → List ℕ
characters text = chars text.now

module _ {P A : Type 0} (is_run : P → Bool) (stands_for : P → A → Bool) where
  -- the first piece stands for a run, and these are after it
  pub record AtRun (ps after : List P) : Type 0 where
    pub piece : P
    pub is : ps ≡ piece ∷ after
    pub run : is_run piece ≡ true

  -- the first piece stands for the first item, and these are after them
  pub record AtOne (ps : List P) (xs : List A) (after : List P) (left : List A) : Type 0 where
    pub piece : P
    pub item : A
    pub pieces : ps ≡ piece ∷ after
    pub items : xs ≡ item ∷ left
    pub one : is_run piece ≡ false
    pub stands : stands_for piece item ≡ true

  -- each piece stands for one item, from these pieces and items (the indices) up to those
  pub data Past (qs : List P) (ys : List A) : List P → List A → Type 0 where
    here : Past qs ys qs ys
    on : (p : P) (x : A) (ps : List P) (xs : List A) → is_run p ≡ false → stands_for p x ≡ true → Past qs ys ps xs → Past qs ys (p ∷ ps) (x ∷ xs)

  -- up to the first run each piece stands for one item, and these are after the run
  pub record BeforeRun (ps : List P) (xs : List A) (after : List P) (left : List A) : Type 0 where
    pub piece : P
    pub run : is_run piece ≡ true
    pub past : Past (piece ∷ after) left ps xs

  -- what is left is seen by functions
  module _ {T : Type 0} (pieces : T → List P) (items : T → List A) where
    -- what a turn at these pieces and items is
    abbrev pub Turns : List P → List A → Turn T → Type 0
    Turns ps xs turn.Ends = (ps ≡ []) × (xs ≡ [])
    Turns ps xs (turn.Run after) = AtRun ps (pieces after)
    Turns ps xs (turn.One after left) = AtOne ps xs (pieces after) (items left)
    Turns ps xs turn.Fails = stand_for is_run stands_for ps xs ≡ false

    -- what stands in front, up to the first run
    abbrev pub Fronts : List P → List A → Front T → Type 0
    Fronts ps xs front.Ends = stand_for is_run stands_for ps xs ≡ true
    Fronts ps xs (front.Run after left) = BeforeRun ps xs (pieces after) (items left)
    Fronts ps xs front.Fails = stand_for is_run stands_for ps xs ≡ false
