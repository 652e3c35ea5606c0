-- The names of an accepted source are free.
use Rattle.std.proofs.Common.{◌≡◌, ◌≢◌, ℕ, Bool, true, false, ◌||◌, List, [], ◌∷◌, refl, sym, ap, ◌∙◌}
use Rattle.std.specs.List.{list_any}
use Rattle.std.specs.Str.{bytes_eq}
use Rattle.std.proofs.lemmas.Bool.{or_parts}
use Rattle.std.proofs.lemmas.Slice.Eq.{bytes_eq-Decides}
use Rattle.js_terms.specs.declared.place.Pos.{Pos}
use Rattle.js_scopes.specs.declared.mention.Mention.{Mention}
use Rattle.js_scopes.specs.declared.mention.Mention.TheVariants as mention
use Rattle.js_scopes.specs.Reserved.{is_among, is_reserved, strict_words, refused_names, own_name}
use Rattle.js_scopes.specs.Checks.{reserved_if, reserved_among}
use Rattle.js_layout.proofs.FineNames.{Calm, left_none, calm_right}
use Rattle.cov_rewritten.specs.Whole.{says}
use Rattle.js_suits.proofs.Suited.{Each, nil, cons, N}
use Rattle.js_suits.specs.Settings.{Home, Outside, Within, Setting, IsOther}

none_reserved : (b : Bool) (at : Pos) → reserved_if b at ≡ [] → b ≡ false
none_reserved true at h = absurd cc
none_reserved false at h = refl

not_own : (w : List ℕ) → is_reserved false w ≡ false → bytes_eq w own_name ≡ false
unfolding is_reserved
not_own w h = (or_parts (is_among strict_words w || is_among refused_names w) _ h).1

pub calm_own : (xs : List Mention) → Calm false xs → list_any (says own_name) xs ≡ false
calm_own [] h = refl
calm_own (mention.Variable at w ∷ xs) h =
    let a = not_own w (none_reserved (is_reserved false w) at (left_none (reserved_if (is_reserved false w) at) (reserved_among false xs) h)) in
    ap (λ b. b || list_any (says own_name) xs) a ∙ calm_own xs (calm_right false (mention.Variable at w ∷ []) xs h)
calm_own (mention.Label at w ∷ xs) h = calm_own xs (calm_right false (mention.Label at w ∷ []) xs h)
calm_own (mention.Member w ∷ xs) h = calm_own xs h
calm_own (mention.Required w ∷ xs) h = calm_own xs h

apart : (w n : List ℕ) → bytes_eq w n ≡ false → w ≢ n
apart w n h e = let t = (bytes_eq-Decides w n).1 e in absurd (let z : false ≡ true = sym h ∙ t in cc)

-- no variable has the name of the home's function
abbrev pub Apart : (ℕ → List ℕ) → Home → List Mention → Type 0
Apart name (Outside part) xs = Unit {0}
Apart name (Within file) xs = list_any (says (name file)) xs ≡ false

module _ (c : Setting) where
  other : (h : Home) (at : Pos) (w : List ℕ) (xs : List Mention) → Apart c.name h (mention.Variable at w ∷ xs) → IsOther c.name h w
  other (Outside part) at w xs a = tt
  other (Within file) at w xs a = apart w (c.name file) (or_parts (bytes_eq w (c.name file)) (list_any (says (c.name file)) xs) a).0

  rest : (h : Home) (x : Mention) (xs : List Mention) → Apart c.name h (x ∷ xs) → Apart c.name h xs
  rest (Outside part) x xs a = tt
  rest (Within file) x xs a = (or_parts (says (c.name file) x) (list_any (says (c.name file)) xs) a).1

  pub free_names : (h : Home) (xs : List Mention) → list_any (says own_name) xs ≡ false → Apart c.name h xs → Each (N c h) xs
  free_names h [] own a = nil
  free_names h (mention.Variable at w ∷ xs) own a =
      let o = or_parts (bytes_eq w own_name) (list_any (says own_name) xs) own in
      cons (record { other = other h at w xs a; not_global = apart w own_name o.0 }) (free_names h xs o.1 (rest h (mention.Variable at w) xs a))
  free_names h (mention.Label at w ∷ xs) own a = cons tt (free_names h xs own (rest h (mention.Label at w) xs a))
  free_names h (mention.Member w ∷ xs) own a = cons tt (free_names h xs own (rest h (mention.Member w) xs a))
  free_names h (mention.Required w ∷ xs) own a = cons tt (free_names h xs own (rest h (mention.Required w) xs a))
