-- Names that come one after another.
use Rattle.std.proofs.Common.{◌≡◌, ℕ, ◌+◌, ◌<◌, Bool, List, [], ◌∷◌, ◌++◌, Option, map, drop, length, get_or, sym, ap, ◌∙◌, append_assoc}
use Rattle.std.proofs.lemmas.List.{map-append, drop_more}
use Rattle.js_value.specs.declared.value.Value.{Value}
use Rattle.js_value.specs.State.{Binding}
use Rattle.js_heap.specs.declared.environment.Binding.{Binding as HeapBinding}
use Rattle.js_heap.specs.Environment.{plain_binding}

-- what is left of a list is an item and the rest
pub unrolled : {A : Type 0} (xs : List A) (i : ℕ) (x : A) → i < length xs → x ≡ get_or xs i x → drop i xs ≡ x ∷ drop (i + 1) xs
unrolled xs i x below is = drop_more xs i x below ∙ ap (λ y. y ∷ drop (i + 1) xs) (sym is)

-- a name was put at the end, before the rest
pub pushed : (names more : List HeapBinding) (b : HeapBinding) (x : Binding) (rest : List Binding) → more ≡ names ++ b ∷ [] → plain_binding b ≡ x →
    map plain_binding more ++ rest ≡ map plain_binding names ++ x ∷ rest
pushed names more b x rest is same =
    ap (λ bs. map plain_binding bs ++ rest) is ∙ ap (λ bs. bs ++ rest) (map-append plain_binding names (b ∷ []))
    ∙ append_assoc (map plain_binding names) (plain_binding b ∷ []) rest ∙ ap (λ y. map plain_binding names ++ y ∷ rest) same

-- a binding by its parts
abbrev binding_of : List ℕ → Option Value → Bool → Binding
binding_of name value constant = record { name = name; value = value; constant = constant }

pub same_binding : (name : List ℕ) (value : Option Value) (constant : Bool) (b : Binding) → name ≡ b.name → value ≡ b.value → constant ≡ b.constant →
    record { name = name; value = value; constant = constant } ≡ b
same_binding name value constant b n v k =
    ap (λ x. binding_of x value constant) n ∙ ap (λ x. binding_of b.name x constant) v ∙ ap (binding_of b.name b.value) k
