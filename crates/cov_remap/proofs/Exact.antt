-- Entries with the same key are sent alike.
use Rattle.std.proofs.Common.{◌≡◌, ℕ, zero, suc, ◌&&◌, ◌⊎◌, inl, inr, nat_eq, ◌==◌, Bool, true, false, List, [], ◌∷◌, map, Option, Some, None, refl, sym, ap, ◌∙◌, eqb-true}
use Rattle.std.specs.Option.{option_eq, option_map, option_and_then}
use Rattle.std.specs.Prelude.{is_some}
use Rattle.std.specs.List.{filter_map, cons_option}
use Rattle.std.specs.Cmp.{IsEquivalence, and_equiv, on_equiv, nat_eq_equiv}
use Rattle.std.specs.Cmp.Lexicographic.{pointwise, options_equiv, lists_equiv}
use Rattle.cov_object.specs.declared.location.Position.{Position}
use Rattle.cov_object.specs.declared.location.Location.{Location}
use Rattle.cov_object.specs.declared.file.StatementCoverage.{StatementCoverage}
use Rattle.cov_object.specs.declared.file.FunctionCoverage.{FunctionCoverage}
use Rattle.cov_object.specs.declared.file.PathCoverage.{PathCoverage}
use Rattle.cov_object.specs.Branch.{BranchCoverage, settled, settled_paths}
use Rattle.cov_merge.specs.Same.{same_position, same_location, same_text}
use Rattle.cov_merge.specs.Laws.{count_at}
use Rattle.cov_remap.specs.declared.sent.Part.{Part}
use Rattle.source_map.specs.declared.place.Parts.{Parts}
use Rattle.cov_remap.specs.Sent.{traced, traced_in, send_statement, send_function, send_location, send_path, send_branch, Sending, sending_statements, sending_functions, sending_branches}
use Rattle.cov_remap.proofs.Settled.{locations_of, counts_of, settled_locations, settled-locations, settled-counts}

-- ---- what is the same is equal

both_true : (a b : Bool) → (a && b) ≡ true → (a ≡ true) × (b ≡ true)
both_true true b h = (refl, h)
both_true false b h = cc

clash : {G : Type 0} → false ≡ true → G
clash e = cc

option-exact : {X : Type 0} (E : X → X → Bool) → ((a b : X) → E a b ≡ true → a ≡ b) → (a b : Option X) → option_eq E a b ≡ true → a ≡ b
option-exact E exact None None h = refl
option-exact E exact None (Some b) h = clash h
option-exact E exact (Some a) None h = clash h
option-exact E exact (Some a) (Some b) h = ap Some (exact a b h)

list-exact : {X : Type 0} (E : X → X → Bool) → ((a b : X) → E a b ≡ true → a ≡ b) → (a b : List X) → pointwise E a b ≡ true → a ≡ b
list-exact E exact [] [] h = refl
list-exact E exact [] (b ∷ bs) h = clash h
list-exact E exact (a ∷ as_) [] h = clash h
list-exact E exact (a ∷ as_) (b ∷ bs) h =
    let parts = both_true (E a b) (pointwise E as_ bs) h in
    ap (λ x. x ∷ as_) (exact a b parts.0) ∙ ap (λ xs. b ∷ xs) (list-exact E exact as_ bs parts.1)

nat-exact : (a b : ℕ) → nat_eq a b ≡ true → a ≡ b
nat-exact a b h = eqb-true a b h

pub text-exact : (a b : List ℕ) → same_text a b ≡ true → a ≡ b
text-exact a b h = list-exact nat_eq nat-exact a b h

abbrev place : ℕ → Option ℕ → Position
place line column = record { line = line; column = column }

position-exact : (a b : Position) → same_position a b ≡ true → a ≡ b
position-exact a b h =
    let parts = both_true (a.line == b.line) (option_eq nat_eq a.column b.column) h in
    ap (λ line. place line a.column) (nat-exact a.line b.line parts.0) ∙ ap (place b.line) (option-exact nat_eq nat-exact a.column b.column parts.1)

abbrev from_to : Option Position → Option Position → Location
from_to start end = record { start = start; end = end }

location-exact : (a b : Location) → same_location a b ≡ true → a ≡ b
location-exact a b h =
    let parts = both_true (option_eq same_position a.start b.start) (option_eq same_position a.end b.end) h in
    ap (λ start. from_to start a.end) (option-exact same_position position-exact a.start b.start parts.0) ∙ ap (from_to b.start) (option-exact same_position position-exact a.end b.end parts.1)

position_equiv : IsEquivalence same_position
position_equiv = and_equiv (on_equiv (λ (p : Position). p.line) nat_eq_equiv) (on_equiv (λ (p : Position). p.column) (options_equiv nat_eq_equiv))

location_equiv : IsEquivalence same_location
location_equiv = and_equiv (on_equiv (λ (l : Location). l.start) (options_equiv position_equiv)) (on_equiv (λ (l : Location). l.end) (options_equiv position_equiv))

-- ---- how the entries of one key are sent

-- one of them: the number of its source, and an entry that has the key of this one, and whose counts stand at these places
pub record Kept {T : Type 0} (sending : Sending T) (number : ℕ) (like : T) (at : ℕ → ℕ) (from : T) (sent : Option (ℕ × T)) : Type 0 where
  pub entry : T
  pub is : sent ≡ Some (number, entry)
  pub same : (key : T) → sending.kind.same entry key ≡ sending.kind.same like key
  pub counts : (n : ℕ) → count_at n (sending.kind.counts entry) ≡ count_at (at n) (sending.kind.counts from)

pub record AllKept {T : Type 0} (sending : Sending T) (send : T → Option (ℕ × T)) (k : T) : Type 0 where
  pub number : ℕ
  pub like : T
  pub at : ℕ → ℕ
  pub each : (e : T) → sending.kind.same e k ≡ true → Kept sending number like at e (send e)

abbrev pub AllDropped : {T : Type 0} → Sending T → (T → Option (ℕ × T)) → T → Type 0
AllDropped {T} sending send k = (e : T) → sending.kind.same e k ≡ true → send e ≡ None

abbrev pub Follows : {T : Type 0} → Sending T → (T → Option (ℕ × T)) → T → Type 0
Follows sending send k = AllDropped sending send k ⊎ AllKept sending send k

pub record IsSendable {T : Type 0} (sending : Sending T) : Type 0 where
  pub equiv : IsEquivalence sending.kind.same
  pub follows : (map : Parts) (k : T) → Follows sending (sending.send map) k

-- ---- statements

abbrev statement_to : StatementCoverage → Option Part → Option (ℕ × StatementCoverage)
statement_to e o = option_map (λ part. (part.source, record { location = part.location; count = e.count })) o

statement-by : (parts : Parts) (k : StatementCoverage) (o : Option Part) → traced parts k.location ≡ o → Follows sending_statements (send_statement parts) k
statement-by parts k None is = inl (λ e s. ap (λ l. statement_to e (traced parts l)) (location-exact e.location k.location s) ∙ ap (statement_to e) is)
statement-by parts k (Some part) is = inr (record {
  number = part.source;
  like = record { location = part.location; count = 0 };
  at = λ n. n;
  each = λ e s. record {
    entry = record { location = part.location; count = e.count };
    is = ap (λ l. statement_to e (traced parts l)) (location-exact e.location k.location s) ∙ ap (statement_to e) is;
    same = λ key. refl;
    counts = λ n. refl;
  };
})

pub statements_sendable : IsSendable sending_statements
statements_sendable = record {
  equiv = on_equiv (λ (s : StatementCoverage). s.location) location_equiv;
  follows = λ parts k. statement-by parts k (traced parts k.location) refl;
}

-- ---- functions

abbrev function_to : Parts → FunctionCoverage → Option Part → Option (ℕ × FunctionCoverage)
function_to parts e o = option_and_then (λ part. option_map (λ body. (part.source, record { name = e.name; declaration = part.location; location = body; count = e.count })) (traced_in parts part.source e.location)) o

abbrev body_to : FunctionCoverage → Part → Option Location → Option (ℕ × FunctionCoverage)
body_to e part o = option_map (λ body. (part.source, record { name = e.name; declaration = part.location; location = body; count = e.count })) o

function-is : (parts : Parts) (e k : FunctionCoverage) (o : Option Part) → traced parts k.declaration ≡ o → sending_functions.kind.same e k ≡ true → send_function parts e ≡ function_to parts e o
function-is parts e k o is s =
    let parts_of = both_true (same_location e.declaration k.declaration) (same_location e.location k.location) s in
    ap (λ l. function_to parts e (traced parts l)) (location-exact e.declaration k.declaration parts_of.0) ∙ ap (function_to parts e) is

body-is : (parts : Parts) (e k : FunctionCoverage) (part : Part) (o : Option Location) → traced_in parts part.source k.location ≡ o → sending_functions.kind.same e k ≡ true → function_to parts e (Some part) ≡ body_to e part o
body-is parts e k part o is s =
    let parts_of = both_true (same_location e.declaration k.declaration) (same_location e.location k.location) s in
    ap (λ l. body_to e part (traced_in parts part.source l)) (location-exact e.location k.location parts_of.1) ∙ ap (body_to e part) is

function-by-body : (parts : Parts) (k : FunctionCoverage) (part : Part) (o : Option Location) → traced parts k.declaration ≡ Some part → traced_in parts part.source k.location ≡ o → Follows sending_functions (send_function parts) k
function-by-body parts k part None is body = inl (λ e s. function-is parts e k (Some part) is s ∙ body-is parts e k part None body s)
function-by-body parts k part (Some location) is body = inr (record {
  number = part.source;
  like = record { name = k.name; declaration = part.location; location = location; count = 0 };
  at = λ n. n;
  each = λ e s. record {
    entry = record { name = e.name; declaration = part.location; location = location; count = e.count };
    is = function-is parts e k (Some part) is s ∙ body-is parts e k part (Some location) body s;
    same = λ key. refl;
    counts = λ n. refl;
  };
})

function-by : (parts : Parts) (k : FunctionCoverage) (o : Option Part) → traced parts k.declaration ≡ o → Follows sending_functions (send_function parts) k
function-by parts k None is = inl (λ e s. function-is parts e k None is s)
function-by parts k (Some part) is = function-by-body parts k part (traced_in parts part.source k.location) is refl

pub functions_sendable : IsSendable sending_functions
functions_sendable = record {
  equiv = and_equiv (on_equiv (λ (f : FunctionCoverage). f.declaration) location_equiv) (on_equiv (λ (f : FunctionCoverage). f.location) location_equiv);
  follows = λ parts k. function-by parts k (traced parts k.declaration) refl;
}

-- ---- branches

abbrev same_path : PathCoverage → PathCoverage → Bool
same_path p q = same_location p.location q.location

paths-exact : (ps qs : List PathCoverage) → pointwise same_path ps qs ≡ true → locations_of ps ≡ locations_of qs
paths-exact [] [] h = refl
paths-exact [] (q ∷ qs) h = clash h
paths-exact (p ∷ ps) [] h = clash h
paths-exact (p ∷ ps) (q ∷ qs) h =
    let parts = both_true (same_path p q) (pointwise same_path ps qs) h in
    ap (λ l. l ∷ locations_of ps) (location-exact p.location q.location parts.0) ∙ ap (λ rest. q.location ∷ rest) (paths-exact ps qs parts.1)

-- only the locations of paths are compared
same-locations : (ps qs : List PathCoverage) → pointwise same_path ps qs ≡ pointwise same_location (locations_of ps) (locations_of qs)
same-locations [] [] = refl
same-locations [] (q ∷ qs) = refl
same-locations (p ∷ ps) [] = refl
same-locations (p ∷ ps) (q ∷ qs) = ap (λ b. same_path p q && b) (same-locations ps qs)

abbrev sent_paths : Parts → ℕ → List PathCoverage → List PathCoverage
sent_paths parts number paths = filter_map (send_path parts number) paths

sent-by : (o : Option Location) (count : ℕ) (rest : List PathCoverage) (others : List Location) → locations_of rest ≡ others →
    locations_of (cons_option (option_map (λ location. record { location = location; count = count }) o) rest) ≡ cons_option o others
sent-by None count rest others e = e
sent-by (Some location) count rest others e = ap (λ ls. location ∷ ls) e

sent-locations : (parts : Parts) (number : ℕ) (paths : List PathCoverage) → locations_of (sent_paths parts number paths) ≡ filter_map (send_location parts number) (locations_of paths)
sent-locations parts number [] = refl
sent-locations parts number (path ∷ paths) =
    sent-by (send_location parts number path.location) path.count (sent_paths parts number paths) (filter_map (send_location parts number) (locations_of paths)) (sent-locations parts number paths)

-- where the count of a path that stays stood before
abbrev kept_at : List Bool → ℕ → ℕ
kept_at [] n = n
kept_at (false ∷ stays) n = suc (kept_at stays n)
kept_at (true ∷ stays) zero = 0
kept_at (true ∷ stays) (suc n) = suc (kept_at stays n)

count-none : (n : ℕ) → count_at n [] ≡ 0
count-none n = refl

kept-by : (o : Option Location) (path : PathCoverage) (rest : List PathCoverage) (counts : List ℕ) (stays : List Bool) (n : ℕ) →
    ((m : ℕ) → count_at m (counts_of rest) ≡ count_at (kept_at stays m) counts) →
    count_at n (counts_of (cons_option (option_map (λ location. record { location = location; count = path.count }) o) rest)) ≡ count_at (kept_at (is_some o ∷ stays) n) (path.count ∷ counts)
kept-by None path rest counts stays n each = each n
kept-by (Some location) path rest counts stays zero each = refl
kept-by (Some location) path rest counts stays (suc n) each = each n

sent-counts : (parts : Parts) (number : ℕ) (paths : List PathCoverage) (n : ℕ) →
    count_at n (counts_of (sent_paths parts number paths)) ≡ count_at (kept_at (map (λ l. is_some (send_location parts number l)) (locations_of paths)) n) (counts_of paths)
sent-counts parts number [] n = refl
sent-counts parts number (path ∷ paths) n =
    kept-by (send_location parts number path.location) path (sent_paths parts number paths) (counts_of paths) (map (λ l. is_some (send_location parts number l)) (locations_of paths)) n (sent-counts parts number paths)

abbrev branch_to : Parts → BranchCoverage → Option Part → Option (ℕ × BranchCoverage)
branch_to parts e o = option_map (λ part. (part.source, settled (record { kind = e.kind; location = part.location; paths = sent_paths parts part.source e.paths }))) o

branch-parts : (e k : BranchCoverage) → sending_branches.kind.same e k ≡ true → (e.kind ≡ k.kind) × (e.location ≡ k.location) × (locations_of e.paths ≡ locations_of k.paths)
branch-parts e k s =
    let one = both_true (same_text e.kind k.kind) (same_location e.location k.location && pointwise same_path e.paths k.paths) s in
    let two = both_true (same_location e.location k.location) (pointwise same_path e.paths k.paths) one.1 in
    (text-exact e.kind k.kind one.0, location-exact e.location k.location two.0, paths-exact e.paths k.paths two.1)

branch-is : (parts : Parts) (e k : BranchCoverage) (o : Option Part) → traced parts k.location ≡ o → sending_branches.kind.same e k ≡ true → send_branch parts e ≡ branch_to parts e o
branch-is parts e k o is s = ap (λ l. branch_to parts e (traced parts l)) (branch-parts e k s).1 ∙ ap (branch_to parts e) is

-- the paths of a branch of this kind here, as they are sent
abbrev settled_sent : Parts → List ℕ → Part → List PathCoverage → List PathCoverage
settled_sent parts kind part paths = settled_paths kind part.location (sent_paths parts part.source paths)

settled-sent : (parts : Parts) (kind : List ℕ) (part : Part) (paths : List PathCoverage) →
    locations_of (settled_sent parts kind part paths) ≡ settled_locations kind part.location (filter_map (send_location parts part.source) (locations_of paths))
settled-sent parts kind part paths =
    settled-locations kind part.location (sent_paths parts part.source paths)
    ∙ ap (settled_locations kind part.location) (sent-locations parts part.source paths)

same-sent : (parts : Parts) (kind : List ℕ) (part : Part) (ps qs others : List PathCoverage) → locations_of ps ≡ locations_of qs →
    pointwise same_path (settled_sent parts kind part ps) others ≡ pointwise same_path (settled_sent parts kind part qs) others
same-sent parts kind part ps qs others e =
    same-locations (settled_sent parts kind part ps) others
    ∙ ap (λ ls. pointwise same_location ls (locations_of others))
    (settled-sent parts kind part ps ∙ ap (λ ls. settled_locations kind part.location (filter_map (send_location parts part.source) ls)) e ∙ sym (settled-sent parts kind part qs))
    ∙ sym (same-locations (settled_sent parts kind part qs) others)

branch-by : (parts : Parts) (k : BranchCoverage) (o : Option Part) → traced parts k.location ≡ o → Follows sending_branches (send_branch parts) k
branch-by parts k None is = inl (λ e s. branch-is parts e k None is s)
branch-by parts k (Some part) is = inr (record {
  number = part.source;
  like = settled (record { kind = k.kind; location = part.location; paths = sent_paths parts part.source k.paths });
  at = kept_at (map (λ l. is_some (send_location parts part.source l)) (locations_of k.paths));
  each = λ e s. record {
    entry = settled (record { kind = e.kind; location = part.location; paths = sent_paths parts part.source e.paths });
    is = branch-is parts e k (Some part) is s;
    same = λ key.
        ap (λ text. same_text text key.kind && (same_location part.location key.location && pointwise same_path (settled_sent parts text part e.paths) key.paths)) (branch-parts e k s).0
        ∙ ap (λ b. same_text k.kind key.kind && (same_location part.location key.location && b)) (same-sent parts k.kind part e.paths k.paths key.paths (branch-parts e k s).2);
    counts = λ n.
        ap (count_at n) (settled-counts e.kind part.location (sent_paths parts part.source e.paths))
        ∙ sent-counts parts part.source e.paths n
        ∙ ap (λ ls. count_at (kept_at (map (λ l. is_some (send_location parts part.source l)) ls) n) (counts_of e.paths)) (branch-parts e k s).2;
  };
})

pub branches_sendable : IsSendable sending_branches
branches_sendable = record {
  equiv = and_equiv (on_equiv (λ (b : BranchCoverage). b.kind) (lists_equiv nat_eq_equiv))
      (and_equiv (on_equiv (λ (b : BranchCoverage). b.location) location_equiv) (on_equiv (λ (b : BranchCoverage). b.paths) (lists_equiv (on_equiv (λ (p : PathCoverage). p.location) location_equiv))));
  follows = λ parts k. branch-by parts k (traced parts k.location) refl;
}
