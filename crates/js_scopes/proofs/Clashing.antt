-- What is seen of a name answers whether one more clashes with those before.
use Rattle.std.proofs.Common.{◌≡◌, ◌∙◌, refl, ap, Bool, true, false, ◌||◌, ◌&&◌, List, [], ◌∷◌, if◌then◌else◌}
use Rattle.std.specs.List.{list_any}
use Rattle.std.specs.Str.{bytes_eq}
use Rattle.js_scopes.specs.Declarations.{Declared}
use Rattle.js_scopes.specs.Scopes.{clash, clashes}
use Rattle.js_scopes.specs.declared.binding.Binding.{Binding}
use Rattle.js_scopes.specs.declared.binding.Binding.TheVariants as binding
use Rattle.js_scopes.specs.declared.seen.Seen.{Seen}
use Rattle.js_scopes.specs.private.Seen.{nothing_seen, seen_among, seen_clashes, with_binding}

or_true : (b : Bool) → (b || true) ≡ true
or_true true = refl
or_true false = refl

or_left : (b c : Bool) → b ≡ true → (b || c) ≡ true
or_left true c holds = refl
or_left false c holds = absurd cc

one_more : (how later : Binding) (seen : Seen) → seen_clashes (with_binding how seen) later ≡ (clashes how later || seen_clashes seen later)
one_more binding.Parameter binding.Parameter seen = refl
one_more binding.Parameter binding.CatchName seen = refl
one_more binding.Parameter binding.Lexical seen = refl
one_more binding.Parameter binding.Var seen = refl
one_more binding.CatchName binding.Parameter seen = refl
one_more binding.CatchName binding.CatchName seen = refl
one_more binding.CatchName binding.Lexical seen = or_left (seen.parameter || true || seen.lexical) seen.var (or_left (seen.parameter || true) seen.lexical (or_true seen.parameter))
one_more binding.CatchName binding.Var seen = refl
one_more binding.Lexical binding.Parameter seen = refl
one_more binding.Lexical binding.CatchName seen = refl
one_more binding.Lexical binding.Lexical seen = or_left (seen.parameter || seen.catch_name || true) seen.var (or_true (seen.parameter || seen.catch_name))
one_more binding.Lexical binding.Var seen = or_true seen.catch_name
one_more binding.Var binding.Parameter seen = refl
one_more binding.Var binding.CatchName seen = refl
one_more binding.Var binding.Lexical seen = or_true (seen.parameter || seen.catch_name || seen.lexical)
one_more binding.Var binding.Var seen = refl

nothing_clashes : (how : Binding) → seen_clashes nothing_seen how ≡ false
nothing_clashes binding.Parameter = refl
nothing_clashes binding.CatchName = refl
nothing_clashes binding.Lexical = refl
nothing_clashes binding.Var = refl

pub seen_answers : (d : Declared) (names : List Declared) → seen_clashes (seen_among d.name names) d.how ≡ list_any (clash d) names
seen_answers d [] = nothing_clashes d.how
seen_answers d (e ∷ es) = by (bytes_eq d.name e.name) (seen_answers d es)
  where
    by : (same : Bool) → seen_clashes (seen_among d.name es) d.how ≡ list_any (clash d) es
        → seen_clashes (if same then with_binding e.how (seen_among d.name es) else seen_among d.name es) d.how ≡ ((same && clashes e.how d.how) || list_any (clash d) es)
    by true rest = one_more e.how d.how (seen_among d.name es) ∙ ap (λ b. clashes e.how d.how || b) rest
    by false rest = rest
