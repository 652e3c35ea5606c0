-- Lists of parts that are compiled one after another.
use Rattle.std.proofs.Common.{◌≡◌, ℕ, zero, suc, ◌<◌, ◌≤◌, List, [], ◌∷◌, ◌++◌, length, drop, get_or, ◌-◌, refl, sym, ap, subst, ◌∙◌, arith, append_assoc, append-nil}
use Rattle.js_tree.specs.Codes.{Code}
use Rattle.js_tree.specs.Linked.{Numbers, Linked, kept, two}
use Rattle.js_code.specs.declared.node.Node.{Node}
use Rattle.js_code.specs.declared.node.Node.TheVariants.{End, More}
use Rattle.js_code.specs.declared.node.ListKind.{ListKind}
use Rattle.js_code.specs.Part.{Part, before, end_of}
use Rattle.js_code.specs.Node.{Reader}
use Rattle.js_code.specs.Code.{reader}
use Rattle.js_code.specs.private.Push.{Compiling, Grows}
use Rattle.js_code.specs.private.Compiled.{IfWhole, Kept, Pushed, built, Adds, Compiled, chained, AllBelow, Chained, Kind, all_before, codes_of, AreParts, no_parts, more_parts, Lists}
use Rattle.js_code.proofs.Reading.{grows_refl, grows_trans}
use Rattle.js_code.proofs.Kept.{kept_one}
use Rattle.js_code.proofs.Made.{adds_none, adds_both, adds_on}

-- Chains

pub below_on : (n m : ℕ) → n ≤ m → (places : List ℕ) → AllBelow n places → AllBelow m places
below_on n m l [] b = tt
below_on n m l (place ∷ places) b = (let q = b.0 in omega arith, below_on n m l places b.1)

-- the place in a list
below_at : (n : ℕ) (places : List ℕ) (i : ℕ) → AllBelow n places → i < length places → get_or places i 0 < n
below_at n [] i b l = absurd (omega arith)
below_at n (x ∷ xs) zero b l = b.0
below_at n (x ∷ xs) (suc i) b l = below_at n xs i b.1 (omega arith)

places_from : (xs : List ℕ) (i : ℕ) → i < length xs → drop i xs ≡ get_or xs i 0 ∷ drop (suc i) xs
places_from [] i l = absurd (omega arith)
places_from (x ∷ xs) zero l = refl
places_from (x ∷ xs) (suc i) l = places_from xs i (omega arith)

-- the list from one place on, when the list after it is there
pub chain_step : (old now new : Compiling) (kind : ListKind) (places : List ℕ) (index rest place : ℕ) →
    Grows old.nodes now.nodes → AllBelow (length old.nodes) places →
    reader now.nodes rest ≡ chained (reader old.nodes) kind (drop index places) →
    0 < index → index ≤ length places → Pushed now new place (built (More kind (get_or places (index - 1) 0) rest)) →
    reader new.nodes place ≡ chained (reader old.nodes) kind (drop (index - 1) places)
chain_step old now new kind places zero rest place g b r low high p = absurd (omega arith)
chain_step old now new kind places (suc i) rest place g b r low high p =
    let s : suc i - 1 ≡ i = omega arith in
    let is : drop (suc i - 1) places ≡ get_or places (suc i - 1) 0 ∷ drop (suc i) places = rw s (places_from places i (omega arith)) in
    p.read
    ∙ ap (λ x. before kind x (reader now.nodes rest)) (g.same (get_or places (suc i - 1) 0) (below_at (length old.nodes) places (suc i - 1) b (omega arith)))
    ∙ ap (before kind (reader old.nodes (get_or places (suc i - 1) 0))) r
    ∙ sym (ap (chained (reader old.nodes) kind) is)

pub chained_end : (t : Reader) (kind : ListKind) (places : List ℕ) → chained t kind (drop (length places) places) ≡ end_of kind
chained_end t kind [] = refl
chained_end t kind (x ∷ xs) = chained_end t kind xs

pub first_placed : (old now : Compiling) (places : List ℕ) (index : ℕ) → Grows old.nodes now.nodes → AllBelow (length old.nodes) places →
    0 < index → index ≤ length places → get_or places (index - 1) 0 < length now.nodes
first_placed old now places index g b low high =
    let l = below_at (length old.nodes) places (index - 1) b (omega arith) in let q = g.longer in omega arith

pub chained_whole : (part : Part) (t : Reader) (kind : ListKind) (places : List ℕ) (index : ℕ) → index ≤ 0 → part ≡ chained t kind (drop index places) → part ≡ chained t kind places
chained_whole part t kind places zero l r = r
chained_whole part t kind places (suc i) l r = absurd (omega arith)

pub chain_begins : {old new : Compiling} {kind : ListKind} (places : List ℕ) {place : ℕ} → Kept old new (Pushed old new place (built (End kind))) → Kept old new (Chained old new kind (drop (length places) places) place)
chain_begins {old = old} {kind = kind} places pushed = kept_one pushed (λ p. record {
  grows = p.grows;
  placed = p.placed;
  read = p.read ∙ sym (chained_end (reader old.nodes) kind places);
  functions = p.functions;
})

pub chain_below : {old now : Compiling} {kind : ListKind} (places : List ℕ) {index rest : ℕ} → IfWhole old (AllBelow (length old.nodes) places) → Kept old now (Chained old now kind (drop index places) rest) →
    0 < index → index ≤ length places → IfWhole now ((get_or places (index - 1) 0 < length now.nodes) × (rest < length now.nodes))
chain_below {old = old} {now = now} places {index = index} below k low high w = (
  first_placed old now places index (k.kept w).grows (below (k.whole w)) low high,
  (k.kept w).placed,
)

pub chain_goes_on : {old now new : Compiling} {kind : ListKind} (places : List ℕ) {index rest place : ℕ} → IfWhole old (AllBelow (length old.nodes) places) → Kept old now (Chained old now kind (drop index places) rest) →
    0 < index → index ≤ length places → Kept now new (Pushed now new place (built (More kind (get_or places (index - 1) 0) rest))) → Kept old new (Chained old new kind (drop (index - 1) places) place)
chain_goes_on {old = old} {now = now} {new = new} {kind = kind} places {index = index} {rest = rest} {place = place} below k low high pushed = record {
  whole = λ w. k.whole (pushed.whole w);
  kept = λ w. let h = k.kept (pushed.whole w) in let p = pushed.kept w in record {
    grows = grows_trans old.nodes now.nodes new.nodes h.grows p.grows;
    placed = p.placed;
    read = chain_step old now new kind places index rest place h.grows (below (k.whole (pushed.whole w))) h.read low high p;
    functions = p.functions ∙ h.functions;
  };
}

pub chain_ends : {old now : Compiling} {kind : ListKind} (places : List ℕ) {index rest : ℕ} → index ≤ 0 → Kept old now (Chained old now kind (drop index places) rest) → Kept old now (Chained old now kind places rest)
chain_ends {old = old} {now = now} {kind = kind} places {index = index} {rest = rest} low k = kept_one k (λ h. record {
  grows = h.grows;
  placed = h.placed;
  read = chained_whole (reader now.nodes rest) (reader old.nodes) kind places index low h.read;
  functions = h.functions;
})

-- Parts one after another

parts_on : {T : Type 0} (put : T → Part) (old new : List Node) → Grows old new → (places : List ℕ) (xs : List T) → AreParts put old places xs → AreParts put new places xs
parts_on put old new g [] [] no_parts = no_parts
parts_on put old new g [] (x ∷ xs) a = elim a [ ]
parts_on put old new g (place ∷ places) [] a = elim a [ ]
parts_on put old new g (place ∷ places) (x ∷ xs) (more_parts _ _ _ _ l r rest) =
    more_parts place x places xs (let q = g.longer in omega arith) (g.same place l ∙ r) (parts_on put old new g places xs rest)

parts_push : {T : Type 0} (put : T → Part) (nodes : List Node) (places : List ℕ) (xs : List T) (place : ℕ) (x : T) → AreParts put nodes places xs →
    place < length nodes → reader nodes place ≡ put x → AreParts put nodes (places ++ place ∷ []) (xs ++ x ∷ [])
parts_push put nodes [] [] place x no_parts l r = more_parts place x [] [] l r no_parts
parts_push put nodes [] (y ∷ ys) place x a l r = elim a [ ]
parts_push put nodes (p ∷ ps) [] place x a l r = elim a [ ]
parts_push put nodes (p ∷ ps) (y ∷ ys) place x (more_parts _ _ _ _ m q rest) l r =
    more_parts p y (ps ++ place ∷ []) (ys ++ x ∷ []) m q (parts_push put nodes ps ys place x rest l r)

parts_below : {T : Type 0} (put : T → Part) (nodes : List Node) (places : List ℕ) (xs : List T) → AreParts put nodes places xs → AllBelow (length nodes) places
parts_below put nodes [] [] no_parts = tt
parts_below put nodes [] (x ∷ xs) a = elim a [ ]
parts_below put nodes (p ∷ ps) [] a = elim a [ ]
parts_below put nodes (p ∷ ps) (x ∷ xs) (more_parts _ _ _ _ l r rest) = (l, parts_below put nodes ps xs rest)

-- how a kind of list is put together
pub record IsKind {T L : Type 0} (kind : Kind T L) : Type 0 where
  pub ends : end_of kind.kind ≡ kind.puts kind.none
  pub joins : (x : T) (xs : L) → before kind.kind (kind.put x) (kind.puts xs) ≡ kind.puts (kind.more x xs)
  pub codes_none : kind.all_codes kind.none ≡ []
  pub codes_more : (x : T) (xs : L) → kind.all_codes (kind.more x xs) ≡ kind.codes x ++ kind.all_codes xs

module _ {T L : Type 0} (kind : Kind T L) (is : IsKind kind) where
  before_push : (xs : List T) (x : T) (ys : L) → all_before kind (xs ++ x ∷ []) ys ≡ all_before kind xs (kind.more x ys)
  before_push [] x ys = refl
  before_push (z ∷ zs) x ys = ap (kind.more z) (before_push zs x ys)

  codes_push : (xs : List T) (x : T) → codes_of kind (xs ++ x ∷ []) ≡ codes_of kind xs ++ kind.codes x
  codes_push [] x = append-nil (kind.codes x)
  codes_push (z ∷ zs) x = ap (λ cs. kind.codes z ++ cs) (codes_push zs x) ∙ sym (append_assoc (kind.codes z) (codes_of kind zs) (kind.codes x))

  codes_all : (xs : List T) → kind.all_codes (all_before kind xs kind.none) ≡ codes_of kind xs
  codes_all [] = is.codes_none
  codes_all (x ∷ xs) = is.codes_more x (all_before kind xs kind.none) ∙ ap (λ cs. kind.codes x ++ cs) (codes_all xs)

  chained_parts : (nodes : List Node) (places : List ℕ) (xs : List T) → AreParts kind.put nodes places xs →
      chained (reader nodes) kind.kind places ≡ kind.puts (all_before kind xs kind.none)
  chained_parts nodes [] [] no_parts = is.ends
  chained_parts nodes [] (x ∷ xs) a = elim a [ ]
  chained_parts nodes (p ∷ ps) [] a = elim a [ ]
  chained_parts nodes (p ∷ ps) (x ∷ xs) (more_parts _ _ _ _ l r rest) =
      ap (λ y. before kind.kind y (chained (reader nodes) kind.kind ps)) r ∙ ap (before kind.kind (kind.put x)) (chained_parts nodes ps xs rest) ∙ is.joins x (all_before kind xs kind.none)

  pub list_begins : (code : Compiling) (link : Numbers → Linked L) → Lists kind code code [] link link
  list_begins code link = record {
    grows = grows_refl code.nodes;
    progress = λ k first. record {
      parts = [];
      are = no_parts;
      next = k;
      counted = first;
      adds = adds_none code code refl;
      tree = refl;
      after = refl;
    };
  }

  pub list_goes_on : (old now new : Compiling) (places : List ℕ) (place : ℕ) (whole : Numbers → Linked L) (first : Numbers → Linked T) (rest : Numbers → Linked L) →
      Lists kind old now places whole (λ k. two kind.more (first k) rest) → Compiled kind.put kind.codes now new place first →
      Lists kind old new (places ++ place ∷ []) whole rest
  list_goes_on old now new places place whole first rest l c = record {
    grows = grows_trans old.nodes now.nodes new.nodes l.grows c.grows;
    progress = λ k at. let p = l.progress k at in let d = c.done p.next p.counted in record {
      parts = p.parts ++ (first p.next).tree ∷ [];
      are = parts_push kind.put new.nodes places p.parts place (first p.next).tree (parts_on kind.put now.nodes new.nodes c.grows places p.parts p.are) c.placed d.read;
      next = (first p.next).next;
      counted = d.next;
      adds = let Q : List Code → Type 0 = λ cs. Adds old new cs in
          subst Q (sym (codes_push p.parts (first p.next).tree)) (adds_both old now new _ _ p.adds c.grows d.adds);
      tree = p.tree ∙ sym (before_push p.parts (first p.next).tree (rest (first p.next).next).tree);
      after = p.after;
    };
  }

  pub list_places : (old now : Compiling) (places : List ℕ) (whole left : Numbers → Linked L) (k : Numbers) → k.code ≡ length old.functions →
      Lists kind old now places whole left → AllBelow (length now.nodes) places
  list_places old now places whole left k at l = let p = l.progress k at in parts_below kind.put now.nodes places p.parts p.are

  pub list_ends : (old now new : Compiling) (places : List ℕ) (place : ℕ) (whole : Numbers → Linked L) → Lists kind old now places whole (λ k. kept kind.none k) →
      Chained now new kind.kind places place → Compiled kind.puts kind.all_codes old new place whole
  list_ends old now new places place whole l c = record {
    grows = grows_trans old.nodes now.nodes new.nodes l.grows c.grows;
    placed = c.placed;
    done = λ k at. let p = l.progress k at in record {
      read = c.read ∙ chained_parts now.nodes places p.parts p.are ∙ ap kind.puts (sym p.tree);
      next = ap (λ n. n.code) p.after ∙ p.counted ∙ sym (ap length c.functions);
      adds = let Q : List Code → Type 0 = λ cs. Adds old new cs in
          subst Q (sym (ap kind.all_codes p.tree ∙ codes_all p.parts)) (adds_on old now new _ p.adds c.grows c.functions);
    };
  }

-- a place that is held comes to the list
pub held : {T L : Type 0} {kind : Kind T L} {old now new : Compiling} {after : List ℕ} {whole left : Numbers → Linked L} (places : List ℕ) (place : ℕ) → (new ≡ now) × (after ≡ places ++ place ∷ []) →
    Lists kind old now (places ++ place ∷ []) whole left → Lists kind old new after whole left
held {kind = kind} {old = old} {now = now} {after = after} {whole = whole} {left = left} places place h l =
    let P : List ℕ → Type 0 = λ ps. Lists kind old now ps whole left in
    let Q : Compiling → Type 0 = λ s. Lists kind old s after whole left in
    subst Q (sym h.0) (subst P (sym h.1) l)
