-- A statement that ends with an `if` without an `else` isn't followed by `else`.
use Rattle.std.proofs.Common.{◌≡◌, Bool, true, false, not, ◌&&◌, List, [], ◌∷◌, ◌++◌, Option, Some, None, codes, if◌then◌else◌, refl, sym, ap, subst, ◌∙◌}
use Rattle.std.proofs.lemmas.Bool.{true≢false, and_parts}
use Rattle.js_terms.specs.declared.place.Loc.{Loc}
use Rattle.js_terms.specs.declared.operators.VariableKind.{VariableKind}
use Rattle.js_tree.specs.Plain.{Stmt, MaybeExpr}
use Rattle.js_tree.specs.Plain as tree
use Rattle.js_text.specs.Token.{Token}
use Rattle.js_reading.specs.declared.choice.Choice.{Choice}
use Rattle.js_reading.specs.declared.choice.Choice.TheVariants as choice
use Rattle.js_reading.specs.declared.form.Form.{Form}
use Rattle.js_reading.specs.declared.form.Form.TheVariants as form
use Rattle.js_reading.specs.Slots.{Slot, Sign, Text, Expr_, Stmt_, Stmts_, Items_, Place_, By, Piece, AnExpr, AStmt, TheStmts, AWord, APlace, AKind, Missing, IsIn, IsOf, Branch, Pass, Go}
use Rattle.js_reading.specs.Productions.{word, is_word, slots, statements, as_it_is, statement}
use Rattle.js_reading.specs.Choices.{branch}
use Rattle.js_reading.specs.Makes.{is_target, is_async, is_const, one_more_declarator, declarators_of, variables_of, maybe, for_with, for_of, for_declared, for_parts, declaration_of, function_of, switch_of, cases_of, build}
use Rattle.js_reading.specs.Sentences.{Spells, SpellsSlots}
use Rattle.js_reading.specs.Sentences
use Rattle.js_reading.proofs.sentences.Branches.{branches, each, among}
use Rattle.js_reading.proofs.sentences.Shapes.{find_all}
use Rattle.js_layout.specs.Printable.{ends_open}

-- ---- the last piece

-- it is no statement, or one that ends with an `if` without an `else`; where there is no piece, as said
abbrev pub last_open : Bool → List Piece → Bool
last_open b [] = b
last_open b (AStmt s ∷ ps) = last_open (ends_open s) ps
last_open b (p ∷ ps) = last_open true ps

one_closed : (p : Piece) (ps : List Piece) → ((b : Bool) → last_open b ps ≡ false) → (b : Bool) → last_open b (p ∷ ps) ≡ false
one_closed (AStmt s) ps h b = h (ends_open s)
one_closed p ps h b = h true

some_closed : (qs ps : List Piece) → ((b : Bool) → last_open b ps ≡ false) → (b : Bool) → last_open b (qs ++ ps) ≡ false
some_closed [] ps h b = h b
some_closed (q ∷ qs) ps h b = one_closed q (qs ++ ps) (some_closed qs ps h) b

-- ---- slots that end with a statement

-- choices that do
abbrev ends : Choice → Bool
ends choice.Else = true
ends choice.Head = true
ends choice.AfterBound = true
ends choice.AfterTarget = true
ends c = false

abbrev tail_ok : List Slot → Bool
tail_ok [] = false
tail_ok (Stmt_ ∷ []) = true
tail_ok (Stmt_ ∷ s ∷ ss) = tail_ok (s ∷ ss)
tail_ok (By c ∷ []) = ends c
tail_ok (By c ∷ s ∷ ss) = not (ends c) && tail_ok (s ∷ ss)
tail_ok (s ∷ ss) = tail_ok ss

-- slots in which no statement stands
abbrev plain : List Slot → Bool
plain [] = true
plain (Stmt_ ∷ ss) = false
plain (By c ∷ ss) = not (ends c) && plain ss
plain (s ∷ ss) = plain ss

both_true : (x y : Bool) → x ≡ true → y ≡ true → (x && y) ≡ true
both_true x y h k = ap (λ b. b && y) h ∙ k

plain_tail : (rs : List Slot) (s : Slot) (ss : List Slot) → plain rs ≡ true → tail_ok (s ∷ ss) ≡ true → tail_ok (rs ++ s ∷ ss) ≡ true
plain_tail [] s ss h k = k
plain_tail (Stmt_ ∷ rs) s ss h k = absurd (true≢false (sym h))
plain_tail (By c ∷ []) s ss h k = both_true (not (ends c)) (tail_ok (s ∷ ss)) (and_parts (not (ends c)) true h).0 k
plain_tail (By c ∷ r ∷ rs) s ss h k = let both = and_parts (not (ends c)) (plain (r ∷ rs)) h in both_true (not (ends c)) (tail_ok (r ∷ (rs ++ s ∷ ss))) both.0 (plain_tail (r ∷ rs) s ss both.1 k)
plain_tail (Sign j ∷ rs) s ss h k = plain_tail rs s ss h k
plain_tail (Text c ∷ rs) s ss h k = plain_tail rs s ss h k
plain_tail (Expr_ w ∷ rs) s ss h k = plain_tail rs s ss h k
plain_tail (Stmts_ ∷ rs) s ss h k = plain_tail rs s ss h k
plain_tail (Items_ p ∷ rs) s ss h k = plain_tail rs s ss h k
plain_tail (Place_ ∷ rs) s ss h k = plain_tail rs s ss h k

abbrev plain_branch : Branch → Bool
plain_branch (Go qs s rs) = plain (s ∷ rs)
plain_branch b = true

abbrev tail_branch : Branch → Bool
tail_branch (Go qs s rs) = tail_ok (s ∷ (rs ++ []))
tail_branch b = true

plain_branches : (c : Choice) → not (ends c) ≡ true → each plain_branch (branches c) ≡ true
plain_branches choice.Else h = absurd (true≢false (sym h))
plain_branches choice.Head h = absurd (true≢false (sym h))
plain_branches choice.AfterBound h = absurd (true≢false (sym h))
plain_branches choice.AfterTarget h = absurd (true≢false (sym h))
plain_branches c h = refl

tail_branches : (c : Choice) → ends c ≡ true → each tail_branch (branches c) ≡ true
tail_branches choice.Else h = refl
tail_branches choice.Head h = refl
tail_branches choice.AfterBound h = refl
tail_branches choice.AfterTarget h = refl
tail_branches c h = absurd (true≢false (sym h))

-- slots that a choice leads to, before others or none
plain_chosen : (c : Choice) (t : Token) (qs : List Piece) (r : Slot) (rs : List Slot) (s : Slot) (ss : List Slot) → branch c t ≡ Go qs r rs → tail_ok (By c ∷ s ∷ ss) ≡ true → tail_ok (r ∷ (rs ++ s ∷ ss)) ≡ true
plain_chosen c t qs r rs s ss e h =
    let both = and_parts (not (ends c)) (tail_ok (s ∷ ss)) h in
    plain_tail (r ∷ rs) s ss (subst (λ (b : Branch). plain_branch b ≡ true) e (among c t plain_branch (plain_branches c both.0))) both.1

tail_chosen : (c : Choice) (t : Token) (qs : List Piece) (r : Slot) (rs : List Slot) → branch c t ≡ Go qs r rs → ends c ≡ true → tail_ok (r ∷ (rs ++ [])) ≡ true
tail_chosen c t qs r rs e h = subst (λ (b : Branch). tail_branch b ≡ true) e (among c t tail_branch (tail_branches c h))

-- before `else` one is taken
abbrev goes : Branch → Bool
goes (Go qs s rs) = true
goes b = false

else_goes : (t : Token) → is_word (codes "else") t ≡ true → goes (branch choice.Else t) ≡ true
else_goes t h = by_test (is_word (codes "else") t) h
  where
    by_test : (b : Bool) → b ≡ true → goes (if b then Go [] (word (codes "else")) (Stmt_ ∷ []) else Pass (Missing ∷ [])) ≡ true
    by_test true e = refl
    by_test false e = absurd (true≢false (sym e))

never_passed : (c : Choice) (t : Token) (qs : List Piece) → branch c t ≡ Pass qs → ends c ≡ true → is_word (codes "else") t ≡ true → ⊥
never_passed choice.Else t qs e h n = true≢false (sym (subst (λ (b : Branch). goes b ≡ true) e (else_goes t n)))
never_passed choice.Head t qs e h n = true≢false (sym (subst (λ (b : Branch). goes b ≡ true) e (among choice.Head t goes refl)))
never_passed choice.AfterBound t qs e h n = true≢false (sym (subst (λ (b : Branch). goes b ≡ true) e (among choice.AfterBound t goes refl)))
never_passed choice.AfterTarget t qs e h n = true≢false (sym (subst (λ (b : Branch). goes b ≡ true) e (among choice.AfterTarget t goes refl)))
never_passed c t qs e h n = true≢false (sym h)

-- ---- what a statement's production makes

abbrev heads : Form → Bool
heads form.Expression = true
heads form.Labelled = true
heads form.Block = true
heads (form.Variables k) = true
heads form.FunctionDeclaration = true
heads form.Empty = true
heads form.If = true
heads form.For = true
heads form.While = true
heads form.DoWhile = true
heads form.Continue = true
heads form.Break = true
heads form.Return = true
heads form.Switch = true
heads form.Throw = true
heads form.Try = true
heads form.Debugger = true
heads f = false

-- those that end with a statement
abbrev tails : Form → Bool
tails form.Labelled = true
tails form.If = true
tails form.For = true
tails form.While = true
tails f = false

tail_slots : (f : Form) → tails f ≡ true → tail_ok (slots f) ≡ true
tail_slots form.Labelled h = refl
tail_slots form.If h = refl
tail_slots form.For h = refl
tail_slots form.While h = refl
tail_slots f h = absurd (true≢false (sym h))

-- it ends with such an `if` where its last part does
abbrev Closes : Form → List Piece → Option Piece → Type 0
Closes f ps (Some (AStmt s)) = (tails f ≡ true → last_open true ps ≡ false) → ends_open s ≡ false
Closes f ps o = Unit {0}

variables_close : (l : Loc) (k : VariableKind) (ps : List Piece) (o : Option (tree.Declarators × List Piece)) → Closes (form.Variables k) ps (variables_of l k o)
variables_close l k ps None = tt
variables_close l k ps (Some (ds, [])) = λ h. refl
variables_close l k ps (Some (ds, r ∷ rest)) = tt

declaration_closes : (make : tree.Function → Stmt) (ps : List Piece) (o : Option tree.Function) → ((f : tree.Function) → ends_open (make f) ≡ false) → Closes form.FunctionDeclaration ps (declaration_of make o)
declaration_closes make ps None same = tt
declaration_closes make ps (Some f) same = λ h. same f

for_with_closes : (l : Loc) (x : tree.ForInit) (s : Stmt) (ps : List Piece) (y z : Option MaybeExpr) → last_open true ps ≡ ends_open s → Closes form.For ps (for_with l x s y z)
for_with_closes l x s ps (Some y) (Some z) e = λ h. sym e ∙ h refl
for_with_closes l x s ps None z e = tt
for_with_closes l x s ps (Some y) None e = tt

-- one piece before the last, and two
before_one : (b : Bool) (q : Piece) (s : Stmt) → last_open b (q ∷ AStmt s ∷ []) ≡ ends_open s
before_one b (AStmt r) s = refl
before_one b q s = refl

before_two : (b : Bool) (p q : Piece) (s : Stmt) → last_open b (p ∷ q ∷ AStmt s ∷ []) ≡ ends_open s
before_two b (AStmt r) q s = before_one (ends_open r) q s
before_two b p q s = before_one true q s

for_of_closes : (l : Loc) (x : tree.ForInit) (ps rest : List Piece) → last_open true ps ≡ last_open true rest → Closes form.For ps (for_of l x rest)
for_of_closes l x ps (p ∷ q ∷ AStmt s ∷ []) e = for_with_closes l x s ps (maybe p) (maybe q) (e ∙ before_two true p q s)
for_of_closes l x ps rest e = tt

-- the last piece is that of those after the declarators
abbrev SameLast : List Piece → Option (tree.Declarators × List Piece) → Type 0
SameLast ps None = Unit {0}
SameLast ps (Some (ds, rest)) = last_open true ps ≡ last_open true rest

one_same : (d : tree.Declarator) (qs ps : List Piece) (o : Option (tree.Declarators × List Piece)) → last_open true qs ≡ last_open true ps → SameLast ps o → SameLast qs (one_more_declarator d o)
one_same d qs ps None e h = tt
one_same d qs ps (Some (ds, rest)) e h = e ∙ h

declarators_same : (due : Bool) (ps : List Piece) → SameLast ps (declarators_of due ps)
declarators_same true (AWord w l ∷ Missing ∷ ps) = tt
declarators_same false (AWord w l ∷ Missing ∷ ps) = one_same _ (AWord w l ∷ Missing ∷ ps) ps (declarators_of false ps) refl (declarators_same false ps)
declarators_same true (AWord w l ∷ AnExpr i e ∷ APlace m ∷ ps) = one_same _ (AWord w l ∷ AnExpr i e ∷ APlace m ∷ ps) ps (declarators_of true ps) refl (declarators_same true ps)
declarators_same false (AWord w l ∷ AnExpr i e ∷ APlace m ∷ ps) = one_same _ (AWord w l ∷ AnExpr i e ∷ APlace m ∷ ps) ps (declarators_of false ps) refl (declarators_same false ps)
declarators_same true ps = refl
declarators_same false ps = refl

for_declared_closes : (l : Loc) (k : VariableKind) (qs ps : List Piece) (o : Option (tree.Declarators × List Piece)) → last_open true qs ≡ last_open true ps → SameLast ps o → Closes form.For qs (for_declared l k o)
for_declared_closes l k qs ps None e h = tt
for_declared_closes l k qs ps (Some (ds, rest)) e h = for_of_closes l (tree.InitDeclaration k ds) qs rest (e ∙ h)

if_closes : (b : Bool) (f : Form) (ps : List Piece) (o : Option Piece) → Closes f ps o → Closes f ps (if b then o else None)
if_closes true f ps o h = h
if_closes false f ps o h = tt

for_closes : (l : Loc) (ps : List Piece) → Closes form.For ps (for_parts l ps)
for_closes l (AKind k ∷ AWord w m ∷ IsIn ∷ AnExpr i e ∷ AStmt s ∷ []) = λ h. h refl
for_closes l (AKind k ∷ AWord w m ∷ IsOf ∷ AnExpr i e ∷ AStmt s ∷ []) = λ h. h refl
for_closes l (AnExpr j x ∷ IsIn ∷ AnExpr i e ∷ AStmt s ∷ []) = if_closes (is_target x) form.For (AnExpr j x ∷ IsIn ∷ AnExpr i e ∷ AStmt s ∷ []) (Some (AStmt (tree.ForIn (Some l) (tree.TargetExpression x) e s))) (λ h. h refl)
for_closes l (AnExpr j x ∷ IsOf ∷ AnExpr i e ∷ AStmt s ∷ []) = if_closes (is_target x && not (is_async x)) form.For (AnExpr j x ∷ IsOf ∷ AnExpr i e ∷ AStmt s ∷ []) (Some (AStmt (tree.ForOf (Some l) (tree.TargetExpression x) e s))) (λ h. h refl)
for_closes l (AKind k ∷ ps) = for_declared_closes l k (AKind k ∷ ps) ps (declarators_of (is_const k) ps) refl (declarators_same (is_const k) ps)
for_closes l (AnExpr j x ∷ ps) = for_of_closes l (tree.InitExpression x) (AnExpr j x ∷ ps) ps refl
for_closes l (Missing ∷ ps) = for_of_closes l tree.NoInit (Missing ∷ ps) ps refl
for_closes l ps = tt

closes_made : (f : Form) (l : Loc) (ps : List Piece) → heads f ≡ true → Closes f ps (build f l ps)
closes_made form.Expression l (AnExpr i e ∷ []) is = λ h. refl
closes_made form.Expression l ps is = tt
closes_made form.Labelled l (AnExpr i (tree.IdentifierReference m w) ∷ AStmt s ∷ []) is = λ h. h refl
closes_made form.Labelled l ps is = tt
closes_made form.Block l (TheStmts ss ∷ []) is = λ h. refl
closes_made form.Block l ps is = tt
closes_made (form.Variables k) l ps is = variables_close l k ps (declarators_of (is_const k) ps)
closes_made form.FunctionDeclaration l (AWord w m ∷ ps) is = declaration_closes _ (AWord w m ∷ ps) (function_of ps) (λ f. refl)
closes_made form.FunctionDeclaration l ps is = tt
closes_made form.Empty l [] is = λ h. refl
closes_made form.Empty l ps is = tt
closes_made form.If l (AnExpr i c ∷ AStmt s ∷ Missing ∷ []) is = λ h. h refl
closes_made form.If l (AnExpr i c ∷ AStmt s ∷ AStmt r ∷ []) is = λ h. h refl
closes_made form.If l ps is = tt
closes_made form.For l ps is = for_closes l ps
closes_made form.While l (AnExpr i c ∷ AStmt s ∷ []) is = λ h. h refl
closes_made form.While l ps is = tt
closes_made form.DoWhile l (AStmt s ∷ AnExpr i c ∷ []) is = λ h. refl
closes_made form.DoWhile l ps is = tt
closes_made form.Continue l (Missing ∷ []) is = λ h. refl
closes_made form.Continue l (AWord w m ∷ []) is = λ h. refl
closes_made form.Continue l ps is = tt
closes_made form.Break l (Missing ∷ []) is = λ h. refl
closes_made form.Break l (AWord w m ∷ []) is = λ h. refl
closes_made form.Break l ps is = tt
closes_made form.Return l (Missing ∷ []) is = λ h. refl
closes_made form.Return l (AnExpr i e ∷ []) is = λ h. refl
closes_made form.Return l ps is = tt
closes_made form.Switch l (AnExpr i e ∷ ps) is = elim (cases_of false ps) as (λ o. Closes form.Switch (AnExpr i e ∷ ps) (switch_of l e o)) [ None ↦ tt | Some cs ↦ (λ h. refl) ]
closes_made form.Switch l ps is = tt
closes_made form.Throw l (AnExpr i e ∷ []) is = λ h. refl
closes_made form.Throw l ps is = tt
closes_made form.Try l (TheStmts b ∷ TheStmts f ∷ []) is = λ h. refl
closes_made form.Try l (TheStmts b ∷ Missing ∷ TheStmts c ∷ Missing ∷ []) is = λ h. refl
closes_made form.Try l (TheStmts b ∷ AWord w m ∷ TheStmts c ∷ Missing ∷ []) is = λ h. refl
closes_made form.Try l (TheStmts b ∷ Missing ∷ TheStmts c ∷ TheStmts f ∷ []) is = λ h. refl
closes_made form.Try l (TheStmts b ∷ AWord w m ∷ TheStmts c ∷ TheStmts f ∷ []) is = λ h. refl
closes_made form.Try l ps is = tt
closes_made form.Debugger l [] is = λ h. refl
closes_made form.Debugger l ps is = tt
closes_made f l ps is = absurd (true≢false (sym is))

-- ---- before an `else`

abbrev open_piece : Piece → Bool
open_piece (AStmt s) = ends_open s
open_piece p = false

headed_form : (t : Token) (f : Form) → statement t ≡ Some f → heads f ≡ true
headed_form t f h = (find_all heads as_it_is statements t f refl h).0

mutual
  pub spelled_closed : {p : Piece} {l : Loc} {ts : List Token} {next : Token} → Spells p l ts next → is_word (codes "else") next ≡ true → open_piece p ≡ false
  spelled_closed (Sentences.leaf t none is) n = refl
  spelled_closed (Sentences.prefixed f t is d made) n = refl
  spelled_closed (Sentences.headed f {ps = ps} {l = l} t is d made) n =
      subst (Closes f ps) made (closes_made f _ ps (headed_form t f is)) (λ tail. tail_closed d (tail_slots f tail) n true)
  spelled_closed (Sentences.joined f t is are low da d made) n = refl
  spelled_closed (Sentences.expression {ps = ps} {l = l} t none d made) n = subst (Closes form.Expression ps) made (closes_made form.Expression _ ps refl) (λ tail. absurd (true≢false (sym tail)))
  spelled_closed (Sentences.labelled {ps = ps} {l = l} t none d made) n = subst (Closes form.Labelled ps) made (closes_made form.Labelled _ ps refl) (λ tail. tail_closed d refl n true)

  tail_closed : {ss : List Slot} {ps : List Piece} {l m : Loc} {us : List Token} {next : Token} → SpellsSlots ss ps l m us next → tail_ok ss ≡ true → is_word (codes "else") next ≡ true → (b : Bool) → last_open b ps ≡ false
  tail_closed Sentences.done e n b = absurd (true≢false (sym e))
  tail_closed (Sentences.sign t is d) e n b = tail_closed d e n b
  tail_closed (Sentences.text {p = p} {ps = ps} t is d) e n b = one_closed p ps (tail_closed d e n) b
  tail_closed (Sentences.expr fit de go d) e n b = tail_closed d e n true
  tail_closed (Sentences.stmt {ss = []} none ds Sentences.done) e n b = spelled_closed ds n
  tail_closed (Sentences.stmt {s = s} {ss = r ∷ rs} none ds d) e n b = tail_closed d e n (ends_open s)
  tail_closed (Sentences.stmts ds closed d) e n b = tail_closed d e n true
  tail_closed (Sentences.items t ds is d) e n b = tail_closed d e n true
  tail_closed (Sentences.place d) e n b = tail_closed d e n true
  tail_closed (Sentences.passed {c = c} {qs = qs} {ss = []} {next = next} is Sentences.done) e n b = absurd (never_passed c next qs is e n)
  tail_closed (Sentences.passed {c = c} {qs = qs} {ss = s ∷ ss} {ps = ps} is d) e n b = some_closed qs ps (tail_closed d (and_parts (not (ends c)) (tail_ok (s ∷ ss)) e).1 n) b
  tail_closed (Sentences.chosen {c = c} {qs = qs} {s = r} {rs = rs} {ss = []} {ps = ps} is d) e n b = some_closed qs ps (tail_closed d (tail_chosen c _ qs r rs is e) n) b
  tail_closed (Sentences.chosen {c = c} {qs = qs} {s = r} {rs = rs} {ss = s ∷ ss} {ps = ps} is d) e n b = some_closed qs ps (tail_closed d (plain_chosen c _ qs r rs s ss is e) n) b
