-- A place reads as what its node is built of, and goes on so when there are more nodes.
use Rattle.std.proofs.Common.{◌≡◌, Bool, false, ◌⊎◌, inl, inr, ℕ, zero, suc, ◌<◌, ◌≤◌, List, [], ◌∷◌, ◌++◌, length, slice_get, refl, sym, ap, subst, ◌∙◌, arith, append_assoc, length-append, append-nil}
use Rattle.js_code.specs.declared.node.Node.{Node}
use Rattle.js_code.specs.declared.node.Node.TheVariants.{Missing}
use Rattle.js_code.specs.Node.{Reader, build, PartsBelow, ScopeHolds}
use Rattle.js_code.specs.Code.{node_or, node_at, reader_to, reader, IsOrdered, ScopesHold, Extends}
use Rattle.js_code.specs.private.Push.{Compiling, Grows}
use Rattle.js_code.specs.private.Compiled.{IfWhole, Kept, Pushed, Stands, built}
use Rattle.js_code.proofs.Same.{build_same, scope_same}

-- lists with the same nodes up to n are read alike there, at any depths that are enough
deep : (xs ys : List Node) → IsOrdered xs → (n : ℕ) → ((i : ℕ) → i < n → node_at xs i ≡ node_at ys i) → (d e i : ℕ) → i < n → i < d → i < e → reader_to d xs i ≡ reader_to e ys i
deep xs ys o n h zero e i l a b = absurd (omega arith)
deep xs ys o n h (suc d) zero i l a b = absurd (omega arith)
deep xs ys o n h (suc d) (suc e) i l a b =
    build_same (reader_to d xs) (reader_to e ys) i (node_at xs i) (λ j k. deep xs ys o n h d e j (omega arith) (omega arith) (omega arith)) (o.each i)
    ∙ ap (build (reader_to e ys)) (h i l)

-- Each place is built of what its parts are read as
pub part_is : (nodes : List Node) → IsOrdered nodes → (i : ℕ) → reader nodes i ≡ build (reader nodes) (node_at nodes i)
unfolding reader
part_is nodes o i =
    build_same (reader_to i nodes) (reader nodes) i (node_at nodes i) (λ a l. deep nodes nodes o i (λ j k. refl) i (suc a) a l l (omega arith)) (o.each i)

-- More nodes change nothing that was read before

get_front : (xs ys : List Node) (i : ℕ) → i < length xs → slice_get xs i ≡ slice_get (xs ++ ys) i
get_front [] ys i l = absurd (omega arith)
get_front (x ∷ xs) ys zero l = refl
get_front (x ∷ xs) ys (suc i) l = get_front xs ys i (omega arith)

pub node_at_kept : (nodes more : List Node) (i : ℕ) → i < length nodes → node_at nodes i ≡ node_at (nodes ++ more) i
node_at_kept nodes more i l = ap node_or (get_front nodes more i l)

pub kept : (nodes more : List Node) → IsOrdered nodes → (i : ℕ) → i < length nodes → reader nodes i ≡ reader (nodes ++ more) i
unfolding reader
kept nodes more o i l = deep nodes (nodes ++ more) o (length nodes) (λ j k. node_at_kept nodes more j k) (suc i) (suc i) i l (omega arith) (omega arith)

-- Growing

grown : (old more : List Node) → IsOrdered old → Grows old (old ++ more)
grown old more o = record {
  extends = record { more = more; is = refl };
  longer = rw length-append (omega arith);
  same = λ i l. sym (kept old more o i l);
}

pub grows_refl : (nodes : List Node) → Grows nodes nodes
grows_refl nodes = record {
  extends = record { more = []; is = sym (append-nil nodes) };
  longer = omega arith;
  same = λ i l. refl;
}

extends_trans : (a b c : List Node) → Extends a b → Extends b c → Extends a c
extends_trans a b c g h = record { more = g.more ++ h.more; is = h.is ∙ ap (λ xs. xs ++ h.more) g.is ∙ append_assoc a g.more h.more }

pub grows_trans : (a b c : List Node) → Grows a b → Grows b c → Grows a c
grows_trans a b c g h = record {
  extends = extends_trans a b c g.extends h.extends;
  longer = let p = g.longer in let q = h.longer in omega arith;
  same = λ i l. h.same i (let p = g.longer in omega arith) ∙ g.same i l;
}

-- a node that is put at the end is at the old length, and no other place changes
at_end : (xs : List Node) (node : Node) → node_at (xs ++ node ∷ []) (length xs) ≡ node
at_end [] node = refl
at_end (x ∷ xs) node = at_end xs node

at_each : (P : Node → Type 0) (xs : List Node) (node : Node) (i : ℕ) → P (node_at xs i) → (i ≡ length xs → P node) → P (node_at (xs ++ node ∷ []) i)
at_each P [] node zero old here = here refl
at_each P [] node (suc i) old here = old
at_each P (x ∷ xs) node zero old here = old
at_each P (x ∷ xs) node (suc i) old here = at_each P xs node i old (λ e. here (ap suc e))

ordered_push : (old : List Node) (node : Node) → IsOrdered old → PartsBelow (length old) node → IsOrdered (old ++ node ∷ [])
ordered_push old node o p = record {
  each = λ i. at_each (PartsBelow i) old node i (o.each i) (λ e. let Q : ℕ → Type 0 = λ n. PartsBelow n node in subst Q (sym e) p);
}

end_placed : (old : List Node) (node : Node) → length old < length (old ++ node ∷ [])
end_placed [] node = omega arith
end_placed (x ∷ xs) node = let p = end_placed xs node in omega arith

grows_push : (old new : List Node) (node : Node) → new ≡ old ++ node ∷ [] → IsOrdered old → Grows old new
grows_push old new node e o = let Q : List Node → Type 0 = λ xs. Grows old xs in subst Q (sym e) (grown old (node ∷ []) o)

read_push : (old : List Node) (node : Node) → IsOrdered old → PartsBelow (length old) node → reader (old ++ node ∷ []) (length old) ≡ build (reader old) node
read_push old node o p =
    part_is _ (ordered_push old node o p) (length old) ∙ ap (build (reader (old ++ node ∷ []))) (at_end old node)
    ∙ build_same _ _ (length old) node (λ i l. sym (kept old (node ∷ []) o i l)) p

-- where there are no nodes

pub ordered_none : (nodes : List Node) → nodes ≡ [] → IsOrdered nodes
ordered_none nodes none = let Q : List Node → Type 0 = λ xs. IsOrdered xs in subst Q (sym none) (record { each = λ i. tt })

pub scopes_none : (nodes : List Node) → nodes ≡ [] → ScopesHold nodes
scopes_none nodes none = let Q : List Node → Type 0 = λ xs. ScopesHold xs in subst Q (sym none) (record { each = λ i. tt })

-- it tells its scope, and so do the others

no_node : (xs : List Node) (i : ℕ) → length xs ≤ i → node_at xs i ≡ Missing
no_node [] i l = refl
no_node (x ∷ xs) zero l = absurd (omega arith)
no_node (x ∷ xs) (suc i) l = no_node xs i (omega arith)

old_scope : (old : List Node) (node : Node) → IsOrdered old → ScopesHold old → (i : ℕ) → i < length old → ScopeHolds (reader (old ++ node ∷ [])) (node_at old i)
old_scope old node o s i l = scope_same _ _ i (node_at old i) (λ a b. kept old (node ∷ []) o a (omega (arith, l, b))) (o.each i) (s.each i)

past_scope : (old : List Node) (t : Reader) (i : ℕ) → length old ≤ i → ScopeHolds t (node_at old i)
past_scope old t i l = let Q : Node → Type 0 = λ n. ScopeHolds t n in subst Q (sym (no_node old i l)) tt

less_step : (i n : ℕ) → (i < n) ⊎ (n ≤ i) → (suc i < suc n) ⊎ (suc n ≤ suc i)
less_step i n (inl l) = inl (omega (arith, l))
less_step i n (inr l) = inr (omega (arith, l))

less_or : (i n : ℕ) → (i < n) ⊎ (n ≤ i)
less_or i zero = inr (omega arith)
less_or zero (suc n) = inl (omega arith)
less_or (suc i) (suc n) = less_step i n (less_or i n)

each_scope : (old : List Node) (node : Node) → IsOrdered old → ScopesHold old → (i : ℕ) → (i < length old) ⊎ (length old ≤ i) → ScopeHolds (reader (old ++ node ∷ [])) (node_at old i)
each_scope old node o s i (inl l) = old_scope old node o s i l
each_scope old node o s i (inr l) = past_scope old (reader (old ++ node ∷ [])) i l

scopes_push : (old : List Node) (node : Node) → IsOrdered old → ScopesHold old → PartsBelow (length old) node → ScopeHolds (reader old) node → ScopesHold (old ++ node ∷ [])
scopes_push old node o s p q = record {
  each = λ i. at_each (ScopeHolds (reader (old ++ node ∷ []))) old node i
      (each_scope old node o s i (less_or i (length old)))
      (λ e. scope_same _ _ (length old) node (λ a b. kept old (node ∷ []) o a b) p q);
}

pub pushed : (old new : Compiling) (node : Node) (place : ℕ) → new.nodes ≡ old.nodes ++ node ∷ [] → new.functions ≡ old.functions → place ≡ length old.nodes →
    IsOrdered old.nodes → PartsBelow (length old.nodes) node → Pushed old new place (built node)
pushed old new node place e f at o p = record {
  grows = grows_push old.nodes new.nodes node e o;
  placed = rw (e, at) (end_placed old.nodes node);
  read = rw (e, at) (read_push old.nodes node o p);
  functions = f;
}

-- the code that is compiled, as its contracts see it

pub stands_at : (now : Compiling) (inside : List Node) (functions : List ℕ) (wanting : Bool) → record { nodes = inside; functions = functions; wanting = wanting } ≡ now → IsOrdered inside → ScopesHold inside →
    (place : ℕ) {nodes : List Node} {node : Node} → nodes ≡ inside → node ≡ node_at nodes place → Stands now.nodes place node
stands_at now inside functions wanting view o s place {node = node} is e =
    let Q : Compiling → Type 0 = λ now. Stands now.nodes place node in
    let R : Node → Type 0 = λ n. Stands inside place n in
    subst Q view (subst R (sym (e ∙ ap (λ xs. node_at xs place) is)) (record { read = part_is inside o place; below = o.each place; scope = s.each place }))

pub push_holds : (now : Compiling) (inside : List Node) (functions : List ℕ) (wanting : Bool) → record { nodes = inside; functions = functions; wanting = wanting } ≡ now → (new : List Node) (node : Node) → new ≡ inside ++ node ∷ [] →
    wanting ≡ false → IsOrdered inside → ScopesHold inside → IfWhole now (PartsBelow (length now.nodes) node) → IfWhole now (ScopeHolds (reader now.nodes) node) → IsOrdered new × ScopesHold new
push_holds now inside functions wanting view new node e w o s p q =
    let Q : Compiling → Type 0 = λ now. IfWhole now (PartsBelow (length now.nodes) node) → IfWhole now (ScopeHolds (reader now.nodes) node) → IsOrdered new × ScopesHold new in
    subst Q view (λ p q. let R : List Node → Type 0 = λ xs. IsOrdered xs × ScopesHold xs in
    subst R (sym e) (ordered_push inside node o (p w), scopes_push inside node o s (p w) (q w))) p q

pub push_kept : (now : Compiling) (inside : List Node) (functions : List ℕ) (wanting : Bool) → record { nodes = inside; functions = functions; wanting = wanting } ≡ now → (new : List Node) (node : Node) (place : ℕ) → new ≡ inside ++ node ∷ [] →
    place ≡ length inside → IsOrdered inside → IfWhole now (PartsBelow (length now.nodes) node) →
    Kept now (record { nodes = new; functions = functions; wanting = wanting }) (Pushed now (record { nodes = new; functions = functions; wanting = wanting }) place (built node))
push_kept now inside functions wanting view new node place e at o p =
    let after : Compiling = record { nodes = new; functions = functions; wanting = wanting } in
    let Q : Compiling → Type 0 = λ now. IfWhole now (PartsBelow (length now.nodes) node) → Kept now after (Pushed now after place (built node)) in
    subst Q view (λ p. record {
      whole = λ w. w;
      kept = λ w. pushed (record { nodes = inside; functions = functions; wanting = wanting }) after node place e refl at o (p w);
    }) p
