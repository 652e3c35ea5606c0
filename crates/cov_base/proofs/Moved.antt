-- Text on its way to a sink: several steps are one.
use Rattle.std.proofs.Common.{◌≡◌, ◌∙◌, ℕ, ◌+◌, List, [], ◌++◌, length, take, Option, refl, sym, ap, subst, arith, append-nil, append_assoc}
use Rattle.std.proofs.lemmas.List.{length-append, take-append-le}
use Rattle.std.proofs.Math.Seq.{take-append-add}
use Rattle.cov_base.specs.Sink.{after_more, TakesPrefix}
use Rattle.cov_base.specs.Pieces.{Moves}
use Rattle.cov_base.proofs.Taken.{after_more-append, after_more-nil}

-- what is held alone
pub moves_nothing : (text : List ℕ) (taken : Option (List ℕ)) → Moves text text taken taken
moves_nothing text taken = record { gone = []; split = refl; taken = sym (after_more-nil taken) }

pub moves_all : (text : List ℕ) (before after : Option (List ℕ)) → after ≡ after_more before text → Moves text [] before after
moves_all text before after all = record { gone = text; split = sym (append-nil text); taken = all }

-- more text is held
pub moves_put : (text held more : List ℕ) (before after : Option (List ℕ)) → Moves text held before after → Moves (text ++ more) (held ++ more) before after
moves_put text held more before after moved = record {
  gone = moved.gone;
  split = ap (λ t. t ++ more) moved.split ∙ append_assoc moved.gone held more;
  taken = moved.taken;
}

module _ (text held : List ℕ) (before mid after : Option (List ℕ)) (first : Moves text held before mid) where
  -- one step after another
  pub moves_on : (last : List ℕ) → Moves held last mid after → Moves text last before after
  moves_on last second = record {
    gone = first.gone ++ second.gone;
    split = first.split ∙ ap (λ t. first.gone ++ t) second.split ∙ sym (append_assoc first.gone second.gone last);
    taken = second.taken ∙ ap (λ t. after_more t second.gone) first.taken ∙ after_more-append before first.gone second.gone;
  }

  -- or one that was cut off
  pub prefix_on : TakesPrefix mid after held → TakesPrefix before after text
  prefix_on cut = (
    length first.gone + cut.0,
    (let all : length text ≡ length first.gone + length held = ap length first.split ∙ length-append first.gone held in
        let within = cut.1 in omega arith),
    cut.2
        ∙ ap (λ t. after_more t (take cut.0 held)) first.taken
        ∙ after_more-append before first.gone (take cut.0 held)
        ∙ ap (after_more before) (sym (take-append-add first.gone held cut.0) ∙ ap (take (length first.gone + cut.0)) (sym first.split)),
  )

-- a prefix is one of a longer text
pub prefix_longer : (before after : Option (List ℕ)) (text more : List ℕ) → TakesPrefix before after text → TakesPrefix before after (text ++ more)
prefix_longer before after text more cut = (
  cut.0,
  (let within = cut.1 in let all = length-append text more in omega arith),
  cut.2 ∙ ap (after_more before) (sym (take-append-le cut.0 text more cut.1)),
)

-- nothing is a prefix
pub prefix_none : (taken : Option (List ℕ)) (text : List ℕ) → TakesPrefix taken taken text
prefix_none taken text = (0, omega arith, sym (after_more-nil taken))

-- what is gone is one
pub moves_prefix : (text held : List ℕ) (before after : Option (List ℕ)) → Moves text held before after → TakesPrefix before after text
moves_prefix text held before after moved = prefix_on text held before after after moved (prefix_none after held)

-- ---- bytes that are put one part after another

module _ (held bytes done rest now : List ℕ) (before mid after : Option (List ℕ)) (split : bytes ≡ done ++ rest) (so_far : Moves (held ++ done) now before mid) where
  pub put_cut : TakesPrefix mid after now → TakesPrefix before after (held ++ bytes)
  put_cut cut =
      subst (TakesPrefix before after) (append_assoc held done rest ∙ ap (λ t. held ++ t) (sym split))
      (prefix_longer before after (held ++ done) rest (prefix_on (held ++ done) now before mid after so_far cut))

  pub put_more : (next some all : List ℕ) → Moves now next mid after → all ≡ next ++ some → Moves (held ++ (done ++ some)) all before after
  put_more next some all step is =
      subst (λ text. Moves text all before after) (append_assoc held done some)
      (subst (λ more. Moves ((held ++ done) ++ some) more before after) (sym is)
      (moves_put (held ++ done) next some before after (moves_on (held ++ done) now before mid after so_far next step)))
