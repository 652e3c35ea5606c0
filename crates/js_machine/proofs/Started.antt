-- A file starts.
use Rattle.std.proofs.Common.{◌≡◌, ℕ, ◌+◌, false, List, [], ◌∷◌, ◌++◌, map, refl, sym, subst, ap, ◌∙◌, codes, Option}
use Rattle.std.proofs.lemmas.List.{map-append, length-append, length-set}
use Rattle.js_tree.specs.Plain as P
use Rattle.js_value.specs.State.{Store, Heap as Heaps, Cached, Requiring, ObjectKind, Property}
use Rattle.js_value.specs.Objects.{next_object, new_object, define}
use Rattle.js_value.specs.Realm.{global_environment, object}
use Rattle.js_value.specs.Environments.{next_environment}
use Rattle.js_value.specs.Running.{on_heap}
use Rattle.js_heap.specs.declared.heap.Heap.{Heap}
use Rattle.js_heap.specs.Heap.{heap_of}
use Rattle.js_code.specs.declared.node.Node.{Node}
use Rattle.js_code.specs.declared.code.FileCode.{FileCode}
use Rattle.js_code.specs.declared.scopes.BodyScope.{BodyScope}
use Rattle.js_code.specs.Part.{as_stmts}
use Rattle.js_code.specs.Code.{reader}
use Rattle.js_code.specs.Program.{ReadsFile, file_stmts}
use Rattle.js_code.specs.Scopes.{file_scope}
use Rattle.js_meaning.specs.Effects.{Comp, act, handle}
use Rattle.js_meaning.specs.Files as F
use Rattle.js_meaning.specs.Meaning as M
use Rattle.js_meaning.specs.Program.{Source, Sources}
use Rattle.js_meaning.specs.Scopes.{body_made, body_scope, scope_made, variable_of}
use Rattle.js_machine.specs.declared.state.CachedFile.{CachedFile}
use Rattle.js_machine.specs.declared.state.RequiringFile.{RequiringFile}
use Rattle.js_machine.specs.declared.state.State.{State}
use Rattle.js_machine.specs.private.Scopes.{EntersBody}
use Rattle.js_machine.specs.private.State.{plain_cached, plain_requiring, store_in, Becomes, Turns}
use Rattle.js_machine.proofs.Acts.{acts}
use Rattle.js_machine.proofs.Entered.{enters_within}
use Rattle.js_machine.proofs.Stores.{act_becomes, heap_becomes}

-- how many objects there are
pub next_new : (kind : ObjectKind) (parent : Option ℕ) (h : Heaps) → next_object (new_object kind parent h) ≡ next_object h + 1
next_new kind parent h = length-append h.objects _

pub next_define : (o : ℕ) (p : Property) (h : Heaps) → next_object (define o p h) ≡ next_object h
next_define o p h = length-set h.objects o _

-- what comes to the cache, and to the objects `require`
pub cached_more : (xs ys : List CachedFile) (x : CachedFile) (path : List ℕ) (n : ℕ) → ys ≡ xs ++ x ∷ [] → x.path ≡ path → x.object.index ≡ n →
    map plain_cached ys ≡ map plain_cached xs ++ record { path = path; object = n } ∷ []
cached_more xs ys x path n is named at =
    let same : plain_cached x ≡ record { path = path; object = n } = rw (named, at) refl in
    ap (map plain_cached) is ∙ map-append plain_cached xs (x ∷ []) ∙ ap (λ (c : Cached). map plain_cached xs ++ c ∷ []) same

pub requiring_more : (xs ys : List RequiringFile) (x : RequiringFile) (path : List ℕ) (n : ℕ) → ys ≡ xs ++ x ∷ [] → x.function.index ≡ n → x.path ≡ path →
    map plain_requiring ys ≡ map plain_requiring xs ++ record { function = n; path = path } ∷ []
requiring_more xs ys x path n is at named =
    let same : plain_requiring x ≡ record { function = n; path = path } = rw (at, named) refl in
    ap (map plain_requiring) is ∙ map-append plain_requiring xs (x ∷ []) ∙ ap (λ (r : Requiring). map plain_requiring xs ++ r ∷ []) same

-- the names of a file's objects
pub file_scope_is : (n exports require own : ℕ) (h : Heaps) → exports ≡ n → require ≡ n + 2 → own ≡ n + 1 →
    scope_made (variable_of (object exports) (codes "exports") ∷ variable_of (object require) (codes "require") ∷ variable_of (object own) (codes "module") ∷ []) global_environment h
    ≡ F.file_made n h
file_scope_is n exports require own h x y z = rw (x, y, z) refl

-- one after another
turns_on : (c d e : Comp) (a b h : Heap) → Turns c a d b → Turns d b e h → Turns c a e h
turns_on c d e a b h x y = record {
  same = λ base. record { same = λ inside n next. (x.same base).same inside n next ∙ (y.same base).same inside n next };
}

module _ (p : Sources) where
  -- what is done in the environment of a file's objects
  abbrev in_file : P.Stmts → ℕ → Comp
  in_file xs e = act (on_heap (body_made F.file_names (body_scope xs) e)) (λ s. handle (M.comp_stmts p xs e) F.after_call)

  file_is : (tree : P.File) (exports : ℕ) → M.within (F.file_made exports) (in_file (file_stmts tree)) ≡ F.comp_file p tree exports
  file_is (P.MakeFile xs comments) exports = refl

  in_file_turns : (xs : P.Stmts) (scope : BodyScope) (e inner : ℕ) (a b : Heap) (d : Comp) → scope ≡ file_scope xs → EntersBody scope e (heap_of a) inner (heap_of b) →
      d ≡ handle (M.comp_stmts p xs inner) F.after_call → Turns (in_file xs e) a d b
  in_file_turns xs scope e inner a b d is enters means =
      let w : EntersBody (file_scope xs) e (heap_of a) inner (heap_of b) = subst (λ (s : BodyScope). EntersBody s e (heap_of a) inner (heap_of b)) is enters in
      acts a b (body_made F.file_names (body_scope xs) e) (λ h. handle (M.comp_stmts p xs e) F.after_call) d w.1 (means ∙ ap (λ i. handle (M.comp_stmts p xs i) F.after_call) w.0)

  -- from the heap that has the objects of the file on
  pub file_turns : (nodes : List Node) (file : FileCode) (of : Source) (exports e inner : ℕ) (a b h : Heap) → ReadsFile nodes file of →
      heap_of b ≡ F.file_made exports (heap_of a) → e ≡ next_environment (heap_of a) → EntersBody file.scope e (heap_of b) inner (heap_of h) →
      Turns (F.comp_file p of.tree exports) a (handle (M.comp_stmts p (as_stmts (reader nodes file.statements)) inner) F.after_call) h
  file_turns nodes file of exports e inner a b h reads made at enters =
      let d = handle (M.comp_stmts p (as_stmts (reader nodes file.statements)) inner) F.after_call in
      subst (λ c. Turns c a d h) (file_is of.tree exports)
      (turns_on _ (in_file (file_stmts of.tree) e) d a b h
      (enters_within (F.file_made exports) e a b (in_file (file_stmts of.tree)) made at)
      (in_file_turns (file_stmts of.tree) file.scope e inner b h d reads.scope enters (ap (λ xs. handle (M.comp_stmts p xs inner) F.after_call) (sym reads.statements.1))))

-- the store when the objects of a file are there
module _ (base : Store) (s u : State) (of : Source) (file : ℕ) (heap : heap_of u.heap ≡ F.file_objects (heap_of s.heap)) (output : u.output.items ≡ s.output.items)
    (cache : map plain_cached u.cache.items ≡ map plain_cached s.cache.items ++ record { path = of.path; object = next_object (heap_of s.heap) + 1 } ∷ [])
    (requiring : map plain_requiring u.requiring.items ≡ map plain_requiring s.requiring.items ++ record { function = next_object (heap_of s.heap) + 2; path = of.path } ∷ [])
    (starts : u.starts.items ≡ s.starts.items ++ file ∷ []) (counted : of.counted ≡ false) where
  begun : store_in base u ≡ F.begin of file (store_in base s)
  begun = rw (heap, output, cache, requiring, starts, counted) refl

  pub starts_file : (p : Sources) (d : Comp) (h : Heap) → Turns (F.comp_file p of.tree (next_object (heap_of s.heap))) u.heap d h →
      Becomes (F.run_source p of file) (store_in base s) d (store_in base (record u { heap = h }))
  starts_file p d h turns =
      act_becomes (F.begin of file) (λ t. F.comp_file p of.tree (next_object t.heap)) (store_in base s) (store_in base u) (store_in base (record u { heap = h })) d begun
      (heap_becomes (F.comp_file p of.tree (next_object (heap_of s.heap))) d u h base turns)
