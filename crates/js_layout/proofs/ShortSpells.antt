-- All that tokens spell is charged no more than eight for each byte of their spellings: by induction over the sentence.
use Rattle.std.proofs.Common.{◌≡◌, ℕ, ◌+◌, ◌*◌, ◌≤◌, nat_le, Bool, true, List, [], ◌∷◌, ◌++◌, length, Some, refl, ap, subst, arith}
use Rattle.std.proofs.lemmas.Bool.{leb-true}
use Rattle.js_terms.specs.declared.place.Loc.{Loc}
use Rattle.js_tree.specs.Plain.{Exprs, Stmts, File, MakeFile}
use Rattle.js_text.specs.Token.{Kind, Token, spelling}
use Rattle.js_text.specs.Token as T
use Rattle.js_text.specs.declared.punctuator.Punctuator.{Punctuator}
use Rattle.js_text.specs.declared.punctuator.Punctuator.TheVariants as P
use Rattle.js_reading.specs.Spans.{through}
use Rattle.js_reading.specs.declared.choice.Choice.{Choice}
use Rattle.js_reading.specs.declared.choice.Choice.TheVariants as choice
use Rattle.js_reading.specs.declared.form.Form.TheVariants as form
use Rattle.js_reading.specs.Slots.{Slot, Piece, AnExpr, Branch, Pass, Go}
use Rattle.js_reading.specs.Productions.{slots}
use Rattle.js_reading.specs.Choices.{branch}
use Rattle.js_reading.specs.Sentences.{Spells, SpellsSlots, SpellsItems, SpellsStmts, Sentence}
use Rattle.js_reading.specs.Sentences
use Rattle.js_reading.proofs.sentences.Branches.{branches, each, among}
use Rattle.js_spelling.proofs.Alone.{some_spelling}
use Rattle.js_layout.proofs.ShortSizes.{size_expr, size_stmt, size_stmts}
use Rattle.js_layout.proofs.ShortPieces.{bulk, bulk_append, size_items, sizes_items, cost, costs, costs_append, allowance, paid, paid_append, debt, debt_append, Pays}
use Rattle.js_layout.proofs.ShortParts.{directives_size}
use Rattle.js_layout.proofs.ShortMade.{short_made}
use Rattle.js_layout.proofs.ShortTokens.{AreAmple, first_ample, last_ample, LeafPays, leaf_pays, PiecePays, piece_pays}

-- ---- what a choice leaves is paid by the signs that it leads to

abbrev right_branch : Choice → Branch → Bool
right_branch c (Pass qs) = nat_le (costs qs + allowance c) 0
right_branch c (Go qs s rs) = nat_le (costs qs + (allowance c + debt (s ∷ rs))) (paid (s ∷ rs))
right_branch c b = true

right_branches : (c : Choice) → each (right_branch c) (branches c) ≡ true
right_branches choice.Semicolon = refl
right_branches c = refl

passed_right : (c : Choice) (t : Token) (qs : List Piece) → branch c t ≡ Pass qs → costs qs + allowance c ≤ 0
passed_right c t qs h = leb-true (costs qs + allowance c) 0 (subst (λ (b : Branch). right_branch c b ≡ true) h (among c t (right_branch c) (right_branches c)))

chosen_right : (c : Choice) (t : Token) (qs : List Piece) (s : Slot) (rs : List Slot) → branch c t ≡ Go qs s rs → costs qs + (allowance c + debt (s ∷ rs)) ≤ paid (s ∷ rs)
chosen_right c t qs s rs h = leb-true (costs qs + (allowance c + debt (s ∷ rs))) (paid (s ∷ rs)) (subst (λ (b : Branch). right_branch c b ≡ true) h (among c t (right_branch c) (right_branches c)))

-- ---- sentences

kind_length : (j k : Kind) → j ≡ k → length (spelling j) ≡ length (spelling k)
kind_length j k e = ap (λ (x : Kind). length (spelling x)) e

mark_long : (k : Kind) (p : Punctuator) → k ≡ T.Punctuator p → 1 ≤ length (spelling k)
mark_long k p e = omega (arith, kind_length k (T.Punctuator p) e, some_spelling p)

abbrev PaidBy : List Slot → List Piece → List Token → Type 0
PaidBy ss ps us = costs ps + paid ss ≤ 8 * bulk us + debt ss

mutual
  spelled_short : {p : Piece} {l : Loc} {ts : List Token} {next : Token} → Spells p l ts next → AreAmple ts → Pays (8 * bulk ts) (Some p)
  spelled_short (Sentences.leaf {e = e} t none is) h = let le : size_expr e + 2 ≤ 8 * length (spelling t.kind) = subst (LeafPays (8 * length (spelling t.kind))) is (leaf_pays t.kind t.loc h.0) in omega (arith, le)
  spelled_short (Sentences.prefixed f {ps = ps} {l = l} {ts = ts} t is d made) h = subst (Pays (8 * bulk (t ∷ ts))) made (short_made f (through t.loc l) ps (8 * bulk (t ∷ ts)) (slots_short d h))
  spelled_short (Sentences.headed f {ps = ps} {l = l} {ts = ts} t is d made) h = subst (Pays (8 * bulk (t ∷ ts))) made (short_made f (through t.loc l) ps (8 * bulk (t ∷ ts)) (slots_short d h))
  spelled_short (Sentences.joined f {n = n} {ss = ss} {ps = ps} {i = i} {a = a} {la = la} {l = l} {ta = ta} {ts = ts} t is are low da d made) h =
      let first : size_expr a + 2 ≤ 8 * bulk ta = spelled_short da (first_ample ta (t ∷ ts) h) in
      let rest : PaidBy ss ps (t ∷ ts) = slots_short d (last_ample ta (t ∷ ts) h) in
      let pay : paid (slots f) ≡ paid ss = ap paid are in
      let owe : debt (slots f) ≡ debt ss = ap debt are in
      subst (Pays (8 * bulk (ta ++ t ∷ ts))) made (short_made f (through la l) (AnExpr i a ∷ ps) (8 * bulk (ta ++ t ∷ ts)) (omega (arith, first, rest, pay, owe, bulk_append ta (t ∷ ts))))
  spelled_short (Sentences.expression {ps = ps} {l = l} t {ts = ts} none d made) h = subst (Pays (8 * bulk (t ∷ ts))) made (short_made form.Expression (through t.loc l) ps (8 * bulk (t ∷ ts)) (slots_short d h))
  spelled_short (Sentences.labelled {ps = ps} {l = l} t {ts = ts} none d made) h = subst (Pays (8 * bulk (t ∷ ts))) made (short_made form.Labelled (through t.loc l) ps (8 * bulk (t ∷ ts)) (slots_short d h))

  slots_short : {ss : List Slot} {ps : List Piece} {l m : Loc} {us : List Token} {next : Token} → SpellsSlots ss ps l m us next → AreAmple us → PaidBy ss ps us
  slots_short Sentences.done h = omega arith
  slots_short (Sentences.sign {k = k} {ss = ss} {ps = ps} {us = us} t is d) h =
      let rest : PaidBy ss ps us = slots_short d h.1 in omega (arith, rest, kind_length t.kind k is)
  slots_short (Sentences.text {c = c} {p = p} {ss = ss} {ps = ps} {us = us} t is d) h =
      let rest : PaidBy ss ps us = slots_short d h.1 in
      let le : cost p ≤ 8 * length (spelling t.kind) = subst (PiecePays (8 * length (spelling t.kind))) is (piece_pays c t.kind t.loc h.0) in
      omega (arith, rest, le)
  slots_short (Sentences.expr {e = e} {ss = ss} {ps = ps} {te = te} {us = us} fit de go d) h =
      let rest : PaidBy ss ps us = slots_short d (last_ample te us h) in
      let le : size_expr e + 2 ≤ 8 * bulk te = spelled_short de (first_ample te us h) in
      omega (arith, rest, le, bulk_append te us)
  slots_short (Sentences.stmt {s = s} {ss = ss} {ps = ps} {ts = ts} {us = us} none ds d) h =
      let rest : PaidBy ss ps us = slots_short d (last_ample ts us h) in
      let le : size_stmt s ≤ 8 * bulk ts = spelled_short ds (first_ample ts us h) in
      omega (arith, rest, le, bulk_append ts us)
  slots_short (Sentences.stmts {xs = xs} {ss = ss} {ps = ps} {ts = ts} {us = us} ds closed d) h =
      let rest : PaidBy ss ps us = slots_short d (last_ample ts us h) in
      let le : size_stmts xs ≤ 8 * bulk ts = stmts_short ds (first_ample ts us h) in
      omega (arith, rest, le, bulk_append ts us)
  slots_short (Sentences.items {p = p} {xs = xs} {ss = ss} {ps = ps} {ts = ts} {us = us} t ds is d) h =
      let rest : PaidBy ss ps us = slots_short d (last_ample ts (t ∷ us) h).1 in
      let le : size_items xs ≤ 8 * bulk ts = items_short ds (first_ample ts (t ∷ us) h) in
      omega (arith, rest, le, mark_long t.kind p is, bulk_append ts (t ∷ us))
  slots_short (Sentences.place {ss = ss} {ps = ps} {us = us} d) h = let rest : PaidBy ss ps us = slots_short d h in omega (arith, rest)
  slots_short (Sentences.passed {c = c} {qs = qs} {ss = ss} {ps = ps} {us = us} is d) h =
      let rest : PaidBy ss ps us = slots_short d h in omega (arith, rest, passed_right c _ qs is, costs_append qs ps)
  slots_short (Sentences.chosen {c = c} {qs = qs} {s = s} {rs = rs} {ss = ss} {ps = ps} {us = us} is d) h =
      let rest : PaidBy (s ∷ (rs ++ ss)) ps us = slots_short d h in
      omega (arith, rest, chosen_right c _ qs s rs is, costs_append qs ps, paid_append (s ∷ rs) ss, debt_append (s ∷ rs) ss)

  items_short : {b : Bool} {xs : Exprs} {ts : List Token} {next : Token} → SpellsItems b xs ts next → AreAmple ts → size_items xs ≤ 8 * bulk ts
  items_short Sentences.no_item h = omega arith
  items_short (Sentences.last_item {e = e} {ts = ts} high d end) h = let le : size_expr e + 2 ≤ 8 * bulk ts = spelled_short d h in omega (arith, le)
  items_short (Sentences.more_items {e = e} {xs = xs} {ts = ts} {us = us} comma high d is ds) h =
      let first : size_expr e + 2 ≤ 8 * bulk ts = spelled_short d (first_ample ts (comma ∷ us) h) in
      let rest : size_items xs ≤ 8 * bulk us = items_short ds (last_ample ts (comma ∷ us) h).1 in
      omega (arith, first, rest, sizes_items xs, mark_long comma.kind P.Comma is, bulk_append ts (comma ∷ us))

  stmts_short : {xs : Stmts} {l m : Loc} {ts : List Token} {next : Token} → SpellsStmts xs l m ts next → AreAmple ts → size_stmts xs ≤ 8 * bulk ts
  stmts_short Sentences.no_statement h = omega arith
  stmts_short (Sentences.more_statements {s = s} {ss = ss} {ts = ts} {us = us} d ds) h =
      let first : size_stmt s ≤ 8 * bulk ts = spelled_short d (first_ample ts us h) in
      let rest : size_stmts ss ≤ 8 * bulk us = stmts_short ds (last_ample ts us h) in
      omega (arith, first, rest, bulk_append ts us)

-- ---- a file

abbrev pub size_file : File → ℕ
size_file (MakeFile ss comments) = size_stmts ss

pub sentence_short : {file : File} {tokens : List Token} → Sentence file tokens → AreAmple tokens → size_file file ≤ 8 * bulk tokens
sentence_short (Sentences.file {ss = ss} {ts = ts} end is d none) h =
    omega (arith, directives_size ss, stmts_short d (first_ample ts (end ∷ []) h), bulk_append ts (end ∷ []))
