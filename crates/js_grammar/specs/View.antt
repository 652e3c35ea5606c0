-- The grammar's slots, signs and branches that those of the code are.
use Rattle.std.specs.Prelude.{ℕ, List, [], ◌∷◌, Option, Some, None, codes}
use Rattle.js_text.specs.Token.{Kind}
use Rattle.js_text.specs.Token as T
use Rattle.js_reading.specs.Slots as slots
use Rattle.js_grammar.specs.declared.slot.ProductionWord.{ProductionWord}
use Rattle.js_grammar.specs.declared.slot.ProductionWord.TheVariants as w
use Rattle.js_grammar.specs.declared.slot.Sign.{Sign}
use Rattle.js_grammar.specs.declared.slot.Sign.TheVariants as sign
use Rattle.js_grammar.specs.declared.slot.Wanted.{Wanted}
use Rattle.js_grammar.specs.declared.slot.Wanted.TheVariants as wanted
use Rattle.js_grammar.specs.declared.slot.Slot.{Slot}
use Rattle.js_grammar.specs.declared.slot.Slot.TheVariants as slot
use Rattle.js_grammar.specs.declared.slot.Marker.{Marker}
use Rattle.js_grammar.specs.declared.slot.Marker.TheVariants as marker
use Rattle.js_grammar.specs.declared.slot.Branch.{Branch}
use Rattle.js_grammar.specs.declared.slot.Branch.TheVariants as branch

-- how a word is spelled
abbrev pub spelled : ProductionWord → List ℕ
spelled w.Break = codes "break"
spelled w.Case = codes "case"
spelled w.Catch = codes "catch"
spelled w.Const = codes "const"
spelled w.Continue = codes "continue"
spelled w.Debugger = codes "debugger"
spelled w.Default = codes "default"
spelled w.Delete = codes "delete"
spelled w.Do = codes "do"
spelled w.Else = codes "else"
spelled w.Finally = codes "finally"
spelled w.For = codes "for"
spelled w.Function = codes "function"
spelled w.If = codes "if"
spelled w.In = codes "in"
spelled w.InstanceOf = codes "instanceof"
spelled w.Let = codes "let"
spelled w.New = codes "new"
spelled w.Of = codes "of"
spelled w.Return = codes "return"
spelled w.Switch = codes "switch"
spelled w.Throw = codes "throw"
spelled w.Try = codes "try"
spelled w.TypeOf = codes "typeof"
spelled w.Var = codes "var"
spelled w.Void = codes "void"
spelled w.While = codes "while"

abbrev pub plain_sign : Sign → Kind
plain_sign (sign.Mark p) = T.Punctuator p
plain_sign (sign.Word word) = T.Word (spelled word)

abbrev pub plain_wanted : Wanted → slots.Wanted
plain_wanted (wanted.Level n) = slots.Level n
plain_wanted (wanted.WithoutIn n) = slots.WithoutIn n
plain_wanted wanted.Callee = slots.Callee

abbrev pub plain_slot : Slot → slots.Slot
plain_slot (slot.Sign s) = slots.Sign (plain_sign s)
plain_slot (slot.Text class) = slots.Text class
plain_slot (slot.Expr w) = slots.Expr_ (plain_wanted w)
plain_slot slot.Stmt = slots.Stmt_
plain_slot slot.Stmts = slots.Stmts_
plain_slot (slot.Items p) = slots.Items_ p
plain_slot slot.Place = slots.Place_
plain_slot (slot.By choice) = slots.By choice

abbrev pub plain_slots : List Slot → List slots.Slot
plain_slots [] = []
plain_slots (s ∷ ss) = plain_slot s ∷ plain_slots ss

abbrev pub plain_marker : Marker → slots.Piece
plain_marker marker.Missing = slots.Missing
plain_marker marker.Computed = slots.IsComputed
plain_marker marker.Method = slots.IsMethod
plain_marker marker.In = slots.IsIn
plain_marker marker.Of = slots.IsOf
plain_marker (marker.Kind k) = slots.AKind k

abbrev pub plain_markers : Option Marker → List slots.Piece
plain_markers None = []
plain_markers (Some m) = plain_marker m ∷ []

abbrev pub plain_branch : Branch → slots.Branch
plain_branch branch.Refuse = slots.Refuse
plain_branch (branch.Pass m) = slots.Pass (plain_markers m)
plain_branch (branch.Go m s rest) = slots.Go (plain_markers m) (plain_slot s) (plain_slots rest.now)

-- the slots of a production after the token that tells it, or after its expression
abbrev pub after_told : List slots.Slot → List slots.Slot
after_told [] = []
after_told (slots.Expr_ n ∷ slots.Sign k ∷ ss) = ss
after_told (s ∷ ss) = ss
