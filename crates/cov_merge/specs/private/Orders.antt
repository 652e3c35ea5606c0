-- The orders of keys are total, and tell apart what has not the same key.
use Rattle.std.specs.Prelude.{◌≡◌, ◌==◌, ◌&&◌, Bool, nat_eq, List, [], ◌∷◌, Option, Some, None, refl}
use mathlib.Core.Path.{ap, ◌∙◌}
use Rattle.std.specs.Option.{option_cmp, option_eq}
use Rattle.std.specs.Ordering.{nat_cmp, is_eq, eq_by_cmp, ordering_then}
use Rattle.std.specs.declared.cmp.Ordering.{Ordering}
use Rattle.std.specs.declared.cmp.Ordering.TheVariants.{Less, Equal, Greater}
use Rattle.std.specs.Cmp.{IsTotalOrder, on_total, then_total, nat_cmp_total, unsigned_tied}
use Rattle.std.specs.Cmp.Lexicographic.{slice_cmp, pointwise, options_total, lists_total}
use Rattle.cov_object.specs.declared.location.Position.{Position}
use Rattle.cov_object.specs.declared.location.Location.{Location}
use Rattle.cov_object.specs.declared.file.StatementCoverage.{StatementCoverage}
use Rattle.cov_object.specs.declared.file.FunctionCoverage.{FunctionCoverage}
use Rattle.cov_object.specs.declared.file.PathCoverage.{PathCoverage}
use Rattle.cov_object.specs.Branch.{BranchCoverage}
use Rattle.cov_merge.specs.Same.{same_position, same_location, same_text}
use Rattle.cov_merge.specs.Kinds.{statements, functions, branches}
use Rattle.cov_merge.specs.private.Order.{position_cmp, location_cmp, path_cmp, statement_cmp, function_cmp, branch_cmp}

-- ---- each is a total order

position_total : IsTotalOrder position_cmp
position_total = then_total (on_total (λ (p : Position). p.line) nat_cmp_total) (on_total (λ (p : Position). p.column) (options_total nat_cmp_total))

pub location_total : IsTotalOrder location_cmp
location_total = then_total (on_total (λ (l : Location). l.start) (options_total position_total)) (on_total (λ (l : Location). l.end) (options_total position_total))

pub statement_total : IsTotalOrder statement_cmp
statement_total = on_total (λ (s : StatementCoverage). s.location) location_total

pub function_total : IsTotalOrder function_cmp
function_total = then_total (on_total (λ (f : FunctionCoverage). f.declaration) location_total) (on_total (λ (f : FunctionCoverage). f.location) location_total)

path_total : IsTotalOrder path_cmp
path_total = on_total (λ (p : PathCoverage). p.location) location_total

pub branch_total : IsTotalOrder branch_cmp
branch_total =
    then_total (on_total (λ (b : BranchCoverage). b.kind) (lists_total nat_cmp_total))
    (then_total (on_total (λ (b : BranchCoverage). b.location) location_total) (on_total (λ (b : BranchCoverage). b.paths) (lists_total path_total)))

-- ---- equal is what is the same

both_equal : (p q : Ordering) (s t : Bool) → is_eq p ≡ s → is_eq q ≡ t → is_eq (ordering_then p q) ≡ (s && t)
both_equal Less q s t e h = ap (λ b. b && t) e
both_equal Equal q s t e h = h ∙ ap (λ b. b && t) e
both_equal Greater q s t e h = ap (λ b. b && t) e

option_tells : {X : Type 0} (R : X → X → Ordering) (E : X → X → Bool) → ((x y : X) → is_eq (R x y) ≡ E x y) → (a b : Option X) → is_eq (option_cmp R a b) ≡ option_eq E a b
option_tells R E h None None = refl
option_tells R E h None (Some y) = refl
option_tells R E h (Some x) None = refl
option_tells R E h (Some x) (Some y) = h x y

pub list_tells : {X : Type 0} (R : X → X → Ordering) (E : X → X → Bool) → ((x y : X) → is_eq (R x y) ≡ E x y) → (a b : List X) → is_eq (slice_cmp R a b) ≡ pointwise E a b
list_tells R E h [] [] = refl
list_tells R E h [] (y ∷ ys) = refl
list_tells R E h (x ∷ xs) [] = refl
list_tells R E h (x ∷ xs) (y ∷ ys) = both_equal (R x y) (slice_cmp R xs ys) (E x y) (pointwise E xs ys) (h x y) (list_tells R E h xs ys)

position_tells : (a b : Position) → is_eq (position_cmp a b) ≡ same_position a b
position_tells a b =
    both_equal (nat_cmp a.line b.line) (option_cmp nat_cmp a.column b.column) (a.line == b.line) (option_eq nat_eq a.column b.column)
    (unsigned_tied a.line b.line) (option_tells nat_cmp nat_eq unsigned_tied a.column b.column)

pub location_tells : (a b : Location) → is_eq (location_cmp a b) ≡ same_location a b
location_tells a b =
    both_equal (option_cmp position_cmp a.start b.start) (option_cmp position_cmp a.end b.end) (option_eq same_position a.start b.start) (option_eq same_position a.end b.end)
    (option_tells position_cmp same_position position_tells a.start b.start) (option_tells position_cmp same_position position_tells a.end b.end)

pub statement_tells : (a b : StatementCoverage) → eq_by_cmp statement_cmp a b ≡ statements.same a b
statement_tells a b = location_tells a.location b.location

pub function_tells : (a b : FunctionCoverage) → eq_by_cmp function_cmp a b ≡ functions.same a b
function_tells a b =
    both_equal (location_cmp a.declaration b.declaration) (location_cmp a.location b.location) (same_location a.declaration b.declaration) (same_location a.location b.location)
    (location_tells a.declaration b.declaration) (location_tells a.location b.location)

path_tells : (a b : PathCoverage) → is_eq (path_cmp a b) ≡ same_location a.location b.location
path_tells a b = location_tells a.location b.location

pub branch_tells : (a b : BranchCoverage) → eq_by_cmp branch_cmp a b ≡ branches.same a b
branch_tells a b =
    both_equal (slice_cmp nat_cmp a.kind b.kind) _ (same_text a.kind b.kind) _
    (list_tells nat_cmp nat_eq unsigned_tied a.kind b.kind)
    (both_equal (location_cmp a.location b.location) (slice_cmp path_cmp a.paths b.paths) (same_location a.location b.location) (pointwise (λ p q. same_location p.location q.location) a.paths b.paths)
    (location_tells a.location b.location) (list_tells path_cmp (λ p q. same_location p.location q.location) path_tells a.paths b.paths))
