-- What a node makes of parts that were compiled one after another, by how many they are.
use Rattle.std.proofs.Common.{◌≡◌, ℕ, ◌<◌, List, [], ◌∷◌, ◌++◌, length, sym, ap, subst, ◌∙◌, arith, append_assoc, append-nil}
use Rattle.js_tree.specs.Codes.{Code}
use Rattle.js_tree.specs.Linked.{Numbers, Linked, kept, made, two, three, four}
use Rattle.js_code.specs.declared.node.Node.{Node}
use Rattle.js_code.specs.Part.{Part}
use Rattle.js_code.specs.Node.{Reader}
use Rattle.js_code.specs.Code.{reader}
use Rattle.js_code.specs.private.Push.{Compiling, Grows}
use Rattle.js_code.specs.private.Compiled.{Pushed, AreCodes, no_codes, more_codes, Adds, Done, Compiled}
use Rattle.js_code.proofs.Reading.{grows_trans}

-- Codes are read on when there are more nodes

pub codes_on : (old new : List Node) → Grows old new → (places : List ℕ) (codes : List Code) → AreCodes old places codes → AreCodes new places codes
codes_on old new g [] [] no_codes = no_codes
codes_on old new g [] (code ∷ codes) a = elim a [ ]
codes_on old new g (place ∷ places) [] a = elim a [ ]
codes_on old new g (place ∷ places) (code ∷ codes) (more_codes _ _ _ _ l r rest) =
    more_codes place code places codes (let q = g.longer in omega arith) (g.same place l ∙ r) (codes_on old new g places codes rest)

codes_both : (nodes : List Node) (ps qs : List ℕ) (cs ds : List Code) → AreCodes nodes ps cs → AreCodes nodes qs ds → AreCodes nodes (ps ++ qs) (cs ++ ds)
codes_both nodes [] qs [] ds no_codes b = b
codes_both nodes [] qs (c ∷ cs) ds a b = elim a [ ]
codes_both nodes (p ∷ ps) qs [] ds a b = elim a [ ]
codes_both nodes (p ∷ ps) qs (c ∷ cs) ds (more_codes _ _ _ _ l r rest) b = more_codes p c (ps ++ qs) (cs ++ ds) l r (codes_both nodes ps qs cs ds rest b)

pub adds_none : (old new : Compiling) → new.functions ≡ old.functions → Adds old new []
adds_none old new e = record { places = []; is = e ∙ sym (append-nil old.functions); are = no_codes }

pub adds_both : (a b c : Compiling) (cs ds : List Code) → Adds a b cs → Grows b.nodes c.nodes → Adds b c ds → Adds a c (cs ++ ds)
adds_both a b c cs ds x g y = record {
  places = x.places ++ y.places;
  is = y.is ∙ ap (λ fs. fs ++ y.places) x.is ∙ append_assoc a.functions x.places y.places;
  are = codes_both c.nodes x.places y.places cs ds (codes_on b.nodes c.nodes g x.places cs x.are) y.are;
}

pub adds_on : (a b c : Compiling) (cs : List Code) → Adds a b cs → Grows b.nodes c.nodes → c.functions ≡ b.functions → Adds a c cs
adds_on a b c cs x g e = record {
  places = x.places;
  is = e ∙ x.is;
  are = codes_on b.nodes c.nodes g x.places cs x.are;
}

-- numbers that are threaded alike
pub compiled_as : {T : Type 0} (put : T → Part) (codes : T → List Code) (old new : Compiling) (place : ℕ) (l m : Numbers → Linked T) → ((k : Numbers) → l k ≡ m k) →
    Compiled put codes old new place l → Compiled put codes old new place m
compiled_as {T} put codes old new place l m e c = record {
  grows = c.grows;
  placed = c.placed;
  done = λ k first. let Q : Linked T → Type 0 = λ x. Done put codes old new place x in subst Q (e k) (c.done k first);
}

-- A node of no parts

module _ {T : Type 0} (put : T → Part) (codes : T → List Code) (old new : Compiling) (place : ℕ) (part : Reader → Part) (p : Pushed old new place part) where
  pub leaf : (x : T) → ((t : Reader) → part t ≡ put x) → codes x ≡ [] → Compiled put codes old new place (λ k. kept x k)
  leaf x is none = record {
    grows = p.grows;
    placed = p.placed;
    done = λ k first. record {
      read = p.read ∙ is (reader old.nodes);
      next = first ∙ sym (ap length p.functions);
      adds = let Q : List Code → Type 0 = λ cs. Adds old new cs in subst Q (sym none) (adds_none old new p.functions);
    };
  }

-- A node of parts

module _ {A T : Type 0} (puta : A → Part) (put : T → Part) (codesa : A → List Code) (codes : T → List Code)
    (s0 s1 s2 : Compiling) (pa place : ℕ) (part : Reader → Part) (la : Numbers → Linked A) where
  pub one : Compiled puta codesa s0 s1 pa la → Pushed s1 s2 place part → (f : A → T) →
      ((t : Reader) (a : A) → t pa ≡ puta a → part t ≡ put (f a)) → ((k : Numbers) → codes (f (la k).tree) ≡ codesa (la k).tree) →
      Compiled put codes s0 s2 place (λ k. made f (la k))
  one x p f is same = record {
    grows = grows_trans s0.nodes s1.nodes s2.nodes x.grows p.grows;
    placed = p.placed;
    done = λ k first. let d = x.done k first in record {
      read = p.read ∙ is (reader s1.nodes) (la k).tree d.read;
      next = d.next ∙ sym (ap length p.functions);
      adds = let Q : List Code → Type 0 = λ cs. Adds s0 s2 cs in
          subst Q (sym (same k)) (adds_on s0 s1 s2 (codesa (la k).tree) d.adds p.grows p.functions);
    };
  }

module _ {A B T : Type 0} (puta : A → Part) (putb : B → Part) (put : T → Part) (codesa : A → List Code) (codesb : B → List Code) (codes : T → List Code)
    (s0 s1 s2 s3 : Compiling) (pa pb place : ℕ) (part : Reader → Part) (la : Numbers → Linked A) (lb : Numbers → Linked B) where
  pub two_parts : Compiled puta codesa s0 s1 pa la → Compiled putb codesb s1 s2 pb lb → Pushed s2 s3 place part → (f : A → B → T) →
      ((t : Reader) (a : A) (b : B) → t pa ≡ puta a → t pb ≡ putb b → part t ≡ put (f a b)) →
      ((a : A) (b : B) → codes (f a b) ≡ codesa a ++ codesb b) →
      Compiled put codes s0 s3 place (λ k. two f (la k) lb)
  two_parts x y p f is same = record {
    grows = grows_trans s0.nodes s1.nodes s3.nodes x.grows (grows_trans s1.nodes s2.nodes s3.nodes y.grows p.grows);
    placed = p.placed;
    done = λ k first. let d = x.done k first in let e = y.done (la k).next d.next in record {
      read = p.read ∙ is (reader s2.nodes) (la k).tree (lb (la k).next).tree (y.grows.same pa x.placed ∙ d.read) e.read;
      next = e.next ∙ sym (ap length p.functions);
      adds = let Q : List Code → Type 0 = λ cs. Adds s0 s3 cs in
          subst Q (sym (same (la k).tree (lb (la k).next).tree))
          (adds_on s0 s2 s3 _ (adds_both s0 s1 s2 (codesa (la k).tree) (codesb (lb (la k).next).tree) d.adds y.grows e.adds) p.grows p.functions);
    };
  }

module _ {A B C T : Type 0} (puta : A → Part) (putb : B → Part) (putc : C → Part) (put : T → Part)
    (codesa : A → List Code) (codesb : B → List Code) (codesc : C → List Code) (codes : T → List Code)
    (s0 s1 s2 s3 s4 : Compiling) (pa pb pc place : ℕ) (part : Reader → Part) (la : Numbers → Linked A) (lb : Numbers → Linked B) (lc : Numbers → Linked C) where
  pub three_parts : Compiled puta codesa s0 s1 pa la → Compiled putb codesb s1 s2 pb lb → Compiled putc codesc s2 s3 pc lc → Pushed s3 s4 place part → (f : A → B → C → T) →
      ((t : Reader) (a : A) (b : B) (c : C) → t pa ≡ puta a → t pb ≡ putb b → t pc ≡ putc c → part t ≡ put (f a b c)) →
      ((a : A) (b : B) (c : C) → codes (f a b c) ≡ codesa a ++ codesb b ++ codesc c) →
      Compiled put codes s0 s4 place (λ k. three f (la k) lb lc)
  three_parts x y z p f is same =
      let later = grows_trans s1.nodes s2.nodes s3.nodes y.grows z.grows in
      record {
        grows = grows_trans s0.nodes s1.nodes s4.nodes x.grows (grows_trans s1.nodes s3.nodes s4.nodes later p.grows);
        placed = p.placed;
        done = λ k first.
            let d = x.done k first in
            let e = y.done (la k).next d.next in
            let g = z.done (lb (la k).next).next e.next in
            record {
              read = p.read ∙ is (reader s3.nodes) (la k).tree (lb (la k).next).tree (lc (lb (la k).next).next).tree
                  (later.same pa x.placed ∙ d.read) (z.grows.same pb y.placed ∙ e.read) g.read;
              next = g.next ∙ sym (ap length p.functions);
              adds = let Q : List Code → Type 0 = λ cs. Adds s0 s4 cs in
                  subst Q (sym (same (la k).tree (lb (la k).next).tree (lc (lb (la k).next).next).tree))
                  (adds_on s0 s3 s4 _ (adds_both s0 s2 s3 _ (codesc (lc (lb (la k).next).next).tree)
                  (adds_both s0 s1 s2 (codesa (la k).tree) (codesb (lb (la k).next).tree) d.adds y.grows e.adds) z.grows g.adds) p.grows p.functions);
            };
      }

module _ {A B C D T : Type 0} (puta : A → Part) (putb : B → Part) (putc : C → Part) (putd : D → Part) (put : T → Part)
    (codesa : A → List Code) (codesb : B → List Code) (codesc : C → List Code) (codesd : D → List Code) (codes : T → List Code)
    (s0 s1 s2 s3 s4 s5 : Compiling) (pa pb pc pd place : ℕ) (part : Reader → Part)
    (la : Numbers → Linked A) (lb : Numbers → Linked B) (lc : Numbers → Linked C) (ld : Numbers → Linked D) where
  pub four_parts : Compiled puta codesa s0 s1 pa la → Compiled putb codesb s1 s2 pb lb → Compiled putc codesc s2 s3 pc lc → Compiled putd codesd s3 s4 pd ld → Pushed s4 s5 place part →
      (f : A → B → C → D → T) →
      ((t : Reader) (a : A) (b : B) (c : C) (d : D) → t pa ≡ puta a → t pb ≡ putb b → t pc ≡ putc c → t pd ≡ putd d → part t ≡ put (f a b c d)) →
      ((a : A) (b : B) (c : C) (d : D) → codes (f a b c d) ≡ codesa a ++ codesb b ++ codesc c ++ codesd d) →
      Compiled put codes s0 s5 place (λ k. four f (la k) lb lc ld)
  four_parts x y z w p f is same =
      let last = grows_trans s2.nodes s3.nodes s4.nodes z.grows w.grows in
      let later = grows_trans s1.nodes s2.nodes s4.nodes y.grows last in
      record {
        grows = grows_trans s0.nodes s1.nodes s5.nodes x.grows (grows_trans s1.nodes s4.nodes s5.nodes later p.grows);
        placed = p.placed;
        done = λ k first.
            let d = x.done k first in
            let e = y.done (la k).next d.next in
            let g = z.done (lb (la k).next).next e.next in
            let h = w.done (lc (lb (la k).next).next).next g.next in
            record {
              read = p.read ∙ is (reader s4.nodes) (la k).tree (lb (la k).next).tree (lc (lb (la k).next).next).tree (ld (lc (lb (la k).next).next).next).tree
                  (later.same pa x.placed ∙ d.read) (last.same pb y.placed ∙ e.read) (w.grows.same pc z.placed ∙ g.read) h.read;
              next = h.next ∙ sym (ap length p.functions);
              adds = let Q : List Code → Type 0 = λ cs. Adds s0 s5 cs in
                  subst Q (sym (same (la k).tree (lb (la k).next).tree (lc (lb (la k).next).next).tree (ld (lc (lb (la k).next).next).next).tree))
                  (adds_on s0 s4 s5 _ (adds_both s0 s3 s4 _ (codesd (ld (lc (lb (la k).next).next).next).tree)
                  (adds_both s0 s2 s3 _ (codesc (lc (lb (la k).next).next).tree)
                  (adds_both s0 s1 s2 (codesa (la k).tree) (codesb (lb (la k).next).tree) d.adds y.grows e.adds) z.grows g.adds) w.grows h.adds) p.grows p.functions);
            };
      }

-- a place stands on when there are more nodes
pub placed_on : (place : ℕ) (old new : List Node) → place < length old → Grows old new → place < length new
placed_on place old new l g = let q = g.longer in omega (arith, l, q)
