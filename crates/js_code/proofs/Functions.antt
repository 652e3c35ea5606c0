-- Functions, whose numbers come before their parts and whose codes come after them.
use Rattle.std.proofs.Common.{◌≡◌, ℕ, zero, suc, ◌<◌, ◌≤◌, true, false, Option, List, [], ◌∷◌, ◌++◌, length, refl, sym, ap, subst, ◌∙◌, arith, append_assoc, length-append}
use Rattle.std.specs.Prelude.{set}
use Rattle.js_tree.specs.Plain as P
use Rattle.js_tree.specs.Codes as trees
use Rattle.js_tree.specs.Codes.{Code, Ordinary, OfMethod, Arrow}
use Rattle.js_tree.specs.Linked as linked
use Rattle.js_tree.specs.Linked.{Unmarked, Numbers, Linked, two, after_code}
use Rattle.js_terms.specs.declared.place.Loc.{Loc}
use Rattle.js_code.specs.declared.node.Node.TheVariants as node
use Rattle.js_code.specs.declared.node.Node.{Node}
use Rattle.js_code.specs.Part.{Part, ACode, AProperty, AnExpr, SomeParams, SomeStmts, as_code, as_expr, as_params, as_property_key, as_stmts}
use Rattle.js_code.specs.Node.{Reader, function_of}
use Rattle.js_code.specs.Code.{reader}
use Rattle.js_code.specs.private.Push.{Compiling, Grows}
use Rattle.js_code.specs.private.Compiled.{Noted, Reserved, Pushed, built, AreCodes, more_codes, Adds, Compiled, an_ordinary, code_part, arrow_expression_part, arrow_block_part, CompilesExpr, CompilesFunction, CompilesParams, CompilesProperty, CompilesPropertyKey, CompilesStmts}
use Rattle.js_code.proofs.Reading.{grows_trans}
use Rattle.js_code.proofs.Made.{adds_both, adds_on}

-- What an arrow function reads as, and the functions in a code

abbrev pub code_functions : Code → List Code
code_functions (trees.Ordinary function) = trees.functions_function function
code_functions (trees.OfMethod (P.MakeFunction number params body)) =
    trees.OfMethod (P.MakeFunction number params body) ∷ (trees.functions_params params ++ trees.functions_function_body body)
code_functions (trees.Arrow number params body) = trees.Arrow number params body ∷ (trees.functions_params params ++ trees.functions_concise_body body)

abbrev pub link_arrow : P.Params → P.ConciseBody → Numbers → Linked Code
link_arrow params body k = two (trees.Arrow k.code) (linked.link_params Unmarked params (after_code k)) (linked.link_concise_body Unmarked body)

pub record CompilesArrow (old new : Compiling) (place : ℕ) (params : P.Params) (body : P.ConciseBody) : Type 0 where
  pub compiled : Compiled ACode code_functions old new place (link_arrow params body)

set_after : (xs : List ℕ) (x y : ℕ) (ys : List ℕ) → set (xs ++ x ∷ ys) (length xs) y ≡ xs ++ y ∷ ys
set_after [] x y ys = refl
set_after (z ∷ zs) x y ys = ap (λ w. z ∷ w) (set_after zs x y ys)

-- what comes between the two adds its functions after it
noted_adds : (s0 s1 s2 s3 : Compiling) (number place : ℕ) (code : Code) (cs : List Code) → Reserved s0 s1 number → Adds s1 s2 cs → Noted s2 s3 number place →
    place < length s3.nodes → reader s3.nodes place ≡ ACode code → Adds s0 s3 (code ∷ cs)
noted_adds s0 s1 s2 s3 number place code cs r a n l is = record {
  places = place ∷ a.places;
  is = n.functions
      ∙ ap (λ fs. set fs number place) (a.is ∙ ap (λ fs. fs ++ a.places) r.functions ∙ append_assoc s0.functions (0 ∷ []) a.places)
      ∙ ap (λ i. set (s0.functions ++ 0 ∷ a.places) i place) r.numbered
      ∙ set_after s0.functions 0 place a.places;
  are = more_codes place code a.places cs l is (let Q : List Node → Type 0 = λ nodes. AreCodes nodes a.places cs in subst Q (sym n.nodes) a.are);
}

reserved_next : (s0 s1 : Compiling) (number : ℕ) → Reserved s0 s1 number → (k : Numbers) → k.code ≡ length s0.functions → (after_code k).code ≡ length s1.functions
reserved_next s0 s1 number r k first = let q = ap length r.functions ∙ length-append s0.functions (0 ∷ []) in omega (arith, first, q)

set_length : (xs : List ℕ) (i y : ℕ) → length (set xs i y) ≡ length xs
set_length [] i y = refl
set_length (x ∷ xs) zero y = refl
set_length (x ∷ xs) (suc i) y = ap suc (set_length xs i y)

grows_noted : (s0 s1 : Compiling) (number place : ℕ) → Noted s0 s1 number place → (old : List Node) → Grows old s0.nodes → Grows old s1.nodes
grows_noted s0 s1 number place n old g = let Q : List Node → Type 0 = λ nodes. Grows old nodes in subst Q (sym n.nodes) g

grows_reserved : (s0 s1 : Compiling) (number : ℕ) → Reserved s0 s1 number → (new : List Node) → Grows s1.nodes new → Grows s0.nodes new
grows_reserved s0 s1 number r new g = let Q : List Node → Type 0 = λ nodes. Grows nodes new in subst Q r.nodes g

module _ {A B T : Type 0} (puta : A → Part) (putb : B → Part) (put : T → Part) (codesa : A → List Code) (codesb : B → List Code) (codes : T → List Code)
    (s0 s1 s2 s3 s4 s5 : Compiling) (number pa pb place : ℕ) (part : Reader → Part) (la : Numbers → Linked A) (lb : Numbers → Linked B) where
  -- the code of two parts
  pub function_made : Reserved s0 s1 number → Compiled puta codesa s1 s2 pa la → Compiled putb codesb s2 s3 pb lb → Pushed s3 s4 place part → Noted s4 s5 number place →
      (f : ℕ → A → B → T) (c : T → Code) → ((x : T) → put x ≡ ACode (c x)) →
      ((t : Reader) (a : A) (b : B) → t pa ≡ puta a → t pb ≡ putb b → part t ≡ put (f number a b)) →
      ((n : ℕ) (a : A) (b : B) → codes (f n a b) ≡ c (f n a b) ∷ (codesa a ++ codesb b)) →
      Compiled put codes s0 s5 place (λ k. two (f k.code) (la (after_code k)) lb)
  function_made r x y p n f c puts is same =
      let inner = grows_trans s1.nodes s2.nodes s4.nodes x.grows (grows_trans s2.nodes s3.nodes s4.nodes y.grows p.grows) in
      let whole = grows_noted s4 s5 number place n s0.nodes (grows_reserved s0 s1 number r s4.nodes inner) in
      let placed : place < length s5.nodes = let Q : List Node → Type 0 = λ nodes. place < length nodes in subst Q (sym n.nodes) p.placed in
      record {
        grows = whole;
        placed = placed;
        done = λ k first.
            let d = x.done (after_code k) (reserved_next s0 s1 number r k first) in
            let e = y.done (la (after_code k)).next d.next in
            let tree = f k.code (la (after_code k)).tree (lb (la (after_code k)).next).tree in
            let read : reader s5.nodes place ≡ put tree =
            ap (λ nodes. reader nodes place) n.nodes ∙ p.read
            ∙ is (reader s3.nodes) (la (after_code k)).tree (lb (la (after_code k)).next).tree (y.grows.same pa x.placed ∙ d.read) e.read
            ∙ ap (λ i. put (f i (la (after_code k)).tree (lb (la (after_code k)).next).tree)) (r.numbered ∙ sym first)
            in
            let before : Adds s1 s4 (codesa (la (after_code k)).tree ++ codesb (lb (la (after_code k)).next).tree) =
            adds_on s1 s3 s4 _ (adds_both s1 s2 s3 _ _ d.adds y.grows e.adds) p.grows p.functions
            in
            record {
              read = read;
              next = e.next ∙ sym (ap length n.functions ∙ set_length s4.functions number place ∙ ap length p.functions);
              adds = let Q : List Code → Type 0 = λ cs. Adds s0 s5 cs in
                  subst Q (sym (same k.code (la (after_code k)).tree (lb (la (after_code k)).next).tree))
                  (noted_adds s0 s1 s4 s5 number place (c tree) _ r before n placed (read ∙ puts tree));
            };
      }

pub function_compiled : {s0 s1 s2 s3 s4 s5 : Compiling} {number pa pb place : ℕ} {bloc : Option Loc} {ps : P.Params} {xs : P.Stmts} {f : P.Function} →
    CompilesParams s1 s2 pa ps → CompilesStmts s2 s3 pb xs → Pushed s3 s4 place (code_part false number pa bloc pb) → Reserved s0 s1 number → Noted s4 s5 number place →
    f ≡ P.MakeFunction 0 ps (P.MakeFunctionBody bloc xs) → CompilesFunction s0 s5 place f
function_compiled {s0 = s0} {s1 = s1} {s2 = s2} {s3 = s3} {s4 = s4} {s5 = s5} {number = number} {pa = pa} {pb = pb} {place = place} {bloc = bloc} {ps = ps} {xs = xs} x y p r n is = record {
  compiled = λ loc name.
      let Q : P.Function → Type 0 = λ f. Compiled an_ordinary trees.functions_function s0 s5 place (linked.link_function Unmarked loc name f) in subst Q (sym is)
      (function_made SomeParams SomeStmts an_ordinary trees.functions_params trees.functions_stmts trees.functions_function s0 s1 s2 s3 s4 s5 number pa pb place (code_part false number pa bloc pb)
      (linked.link_params Unmarked ps) (linked.link_stmts Unmarked xs) r x.compiled y.compiled p n (λ i a b. P.MakeFunction i a (P.MakeFunctionBody bloc b)) (λ f. Ordinary f) (λ f. refl)
      (λ t a b h g. ap (λ p. ACode (Ordinary (P.MakeFunction number (as_params p) (P.MakeFunctionBody bloc (as_stmts (t pb)))))) h
      ∙ ap (λ p. ACode (Ordinary (P.MakeFunction number a (P.MakeFunctionBody bloc (as_stmts p))))) g)
      (λ i a b. refl));
}

pub arrow_expression_compiled : {s0 s1 s2 s3 s4 s5 : Compiling} {number pa pb place : ℕ} {ps : P.Params} {e : P.Expr} →
    CompilesParams s1 s2 pa ps → CompilesExpr s2 s3 pb e → Pushed s3 s4 place (arrow_expression_part number pa pb) →
    Reserved s0 s1 number → Noted s4 s5 number place → CompilesArrow s0 s5 place ps (P.ExpressionBody e)
arrow_expression_compiled {s0 = s0} {s1 = s1} {s2 = s2} {s3 = s3} {s4 = s4} {s5 = s5} {number = number} {pa = pa} {pb = pb} {place = place} {ps = ps} {e = e} x y p r n = record {
  compiled =
      function_made SomeParams AnExpr ACode trees.functions_params trees.functions_expr code_functions s0 s1 s2 s3 s4 s5 number pa pb place (arrow_expression_part number pa pb)
      (linked.link_params Unmarked ps) (linked.link_expr Unmarked linked.Alone e) r x.compiled (y.compiled linked.Alone) p n (λ i a b. Arrow i a (P.ExpressionBody b)) (λ c. c) (λ c. refl)
      (λ t a b h g. ap (λ p. ACode (Arrow number (as_params p) (P.ExpressionBody (as_expr (t pb))))) h ∙ ap (λ p. ACode (Arrow number a (P.ExpressionBody (as_expr p)))) g)
      (λ i a b. refl);
}

pub arrow_block_compiled : {s0 s1 s2 s3 s4 s5 : Compiling} {number pa pb place : ℕ} {bloc : Option Loc} {ps : P.Params} {xs : P.Stmts} {b : P.FunctionBody} →
    CompilesParams s1 s2 pa ps → CompilesStmts s2 s3 pb xs → Pushed s3 s4 place (arrow_block_part number pa bloc pb) →
    Reserved s0 s1 number → Noted s4 s5 number place → b ≡ P.MakeFunctionBody bloc xs → CompilesArrow s0 s5 place ps (P.BlockBody b)
arrow_block_compiled {s0 = s0} {s1 = s1} {s2 = s2} {s3 = s3} {s4 = s4} {s5 = s5} {number = number} {pa = pa} {pb = pb} {place = place} {bloc = bloc} {ps = ps} {xs = xs} x y p r n is =
    let Q : P.FunctionBody → Type 0 = λ b. CompilesArrow s0 s5 place ps (P.BlockBody b) in subst Q (sym is) (record {
      compiled =
          (function_made SomeParams SomeStmts ACode trees.functions_params trees.functions_stmts code_functions s0 s1 s2 s3 s4 s5 number pa pb place (arrow_block_part number pa bloc pb)
          (linked.link_params Unmarked ps) (linked.link_stmts Unmarked xs) r x.compiled y.compiled p n (λ i a b. Arrow i a (P.BlockBody (P.MakeFunctionBody bloc b))) (λ c. c) (λ c. refl)
          (λ t a b h g. ap (λ p. ACode (Arrow number (as_params p) (P.BlockBody (P.MakeFunctionBody bloc (as_stmts (t pb)))))) h
          ∙ ap (λ p. ACode (Arrow number a (P.BlockBody (P.MakeFunctionBody bloc (as_stmts p))))) g)
          (λ i a b. refl));
    })

-- a method: its number comes before those in its key
method_at : (s0 s1 s2 s3 s4 s5 s6 s7 : Compiling) (number kp pa pb fp place old : ℕ) (loc bloc : Option Loc) (key : P.PropertyKey) (ps : P.Params) (xs : P.Stmts) →
    Reserved s0 s1 number → CompilesPropertyKey s1 s2 kp key → CompilesParams s2 s3 pa ps → CompilesStmts s3 s4 pb xs →
    Pushed s4 s5 fp (code_part true number pa bloc pb) → Noted s5 s6 number fp → Pushed s6 s7 place (built (node.Method loc kp fp)) →
    CompilesProperty s0 s7 place (P.Method loc key (P.MakeFunction old ps (P.MakeFunctionBody bloc xs)))
method_at s0 s1 s2 s3 s4 s5 s6 s7 number kp pa pb fp place old loc bloc key ps xs r x y z p n q =
    let later = grows_trans s2.nodes s3.nodes s4.nodes y.compiled.grows z.compiled.grows in
    let after = grows_trans s2.nodes s4.nodes s5.nodes later p.grows in
    let inner = grows_trans s1.nodes s2.nodes s5.nodes x.compiled.grows after in
    let noted = grows_noted s5 s6 number fp n s0.nodes (grows_reserved s0 s1 number r s5.nodes inner) in
    let placed : fp < length s6.nodes = let Q : List Node → Type 0 = λ nodes. fp < length nodes in subst Q (sym n.nodes) p.placed in
    let key_on = grows_noted s5 s6 number fp n s2.nodes after in
    record {
      compiled = record {
        grows = grows_trans s0.nodes s6.nodes s7.nodes noted q.grows;
        placed = q.placed;
        done = λ k first.
            let d = x.compiled.done (after_code k) (reserved_next s0 s1 number r k first) in
            let e = y.compiled.done (linked.link_property_key Unmarked key (after_code k)).next d.next in
            let lps = linked.link_params Unmarked ps (linked.link_property_key Unmarked key (after_code k)).next in
            let g = z.compiled.done lps.next e.next in
            let lxs = linked.link_stmts Unmarked xs lps.next in
            let function = P.MakeFunction k.code lps.tree (P.MakeFunctionBody bloc lxs.tree) in
            let code : reader s6.nodes fp ≡ ACode (OfMethod function) =
            ap (λ nodes. reader nodes fp) n.nodes ∙ p.read
            ∙ ap (λ p. ACode (OfMethod (P.MakeFunction number (as_params p) (P.MakeFunctionBody bloc (as_stmts (reader s4.nodes pb)))))) (z.compiled.grows.same pa y.compiled.placed ∙ e.read)
            ∙ ap (λ p. ACode (OfMethod (P.MakeFunction number lps.tree (P.MakeFunctionBody bloc (as_stmts p))))) g.read
            ∙ ap (λ i. ACode (OfMethod (P.MakeFunction i lps.tree (P.MakeFunctionBody bloc lxs.tree)))) (r.numbered ∙ sym first)
            in
            let before = adds_on s1 s4 s5 _ (adds_both s1 s3 s4 _ _ (adds_both s1 s2 s3 _ _ d.adds y.compiled.grows e.adds) z.compiled.grows g.adds) p.grows p.functions in
            record {
              read = q.read ∙ ap (λ p. AProperty (P.Method loc (as_property_key p) (function_of (as_code (reader s6.nodes fp))))) (key_on.same kp x.compiled.placed ∙ d.read)
                  ∙ ap (λ p. AProperty (P.Method loc (linked.link_property_key Unmarked key (after_code k)).tree (function_of (as_code p)))) code;
              next = g.next ∙ sym (ap length q.functions ∙ ap length n.functions ∙ set_length s5.functions number fp ∙ ap length p.functions);
              adds = adds_on s0 s6 s7 _ (noted_adds s0 s1 s5 s6 number fp (OfMethod function) _ r before n placed code) q.grows q.functions;
            };
      };
    }

pub method_made : (s7 : Compiling) {s0 s1 s2 s3 s4 s5 s6 : Compiling} {number kp pa pb fp : ℕ} {loc bloc : Option Loc} {key : P.PropertyKey} {ps : P.Params} {xs : P.Stmts} {e : P.Property} {place : ℕ} →
    CompilesPropertyKey s1 s2 kp key → CompilesParams s2 s3 pa ps → CompilesStmts s3 s4 pb xs → Pushed s4 s5 fp (code_part true number pa bloc pb) →
    Pushed s6 s7 place (built (node.Method loc kp fp)) → Reserved s0 s1 number → Noted s5 s6 number fp →
    e ≡ P.Method loc key (P.MakeFunction 0 ps (P.MakeFunctionBody bloc xs)) → CompilesProperty s0 s7 place e
method_made s7 {s0 = s0} {s1 = s1} {s2 = s2} {s3 = s3} {s4 = s4} {s5 = s5} {s6 = s6} {number = number} {kp = kp} {pa = pa} {pb = pb} {fp = fp} {loc = loc} {bloc = bloc} {key = key} {ps = ps} {xs = xs} {e = e} {place = place} x y z p q h n is =
    let Q : P.Property → Type 0 = λ e. CompilesProperty s0 s7 place e in
    subst Q (sym is) (method_at s0 s1 s2 s3 s4 s5 s6 s7 number kp pa pb fp place 0 loc bloc key ps xs h x y z p n q)

-- places stand on when a function's place is told
pub on_noted : {old new : List Node} {place : ℕ} → new ≡ old → place < length old → place < length new
on_noted {place = place} e l = let Q : List Node → Type 0 = λ nodes. place < length nodes in subst Q (sym e) l

pub method_below : {old new : List Node} {place a b c : ℕ} → new ≡ old → place < a → a ≤ b → b ≤ c → c ≤ length old → place < length new
method_below e l g h i = on_noted e (omega (arith, l, g, h, i))
