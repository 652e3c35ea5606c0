-- The end of a text, where a file goes on with it, ends the file.
use Rattle.std.proofs.Common.{◌≡◌, Bool, true, false, List, ◌∷◌, Some, None, refl, sym, subst}
use Rattle.std.proofs.lemmas.Bool.{true≢false}
use Rattle.js_text.specs.Token.{Token, Kind, End}
use Rattle.js_reading.specs.Kinds.{is_kind}
use Rattle.js_reading.specs.Slots.{Piece, Class, BoundName, AnyName, Key, FirstText, LaterText}
use Rattle.js_reading.specs.Productions.{piece_of}
use Rattle.js_reading.specs.Turns.{Frame, InExpression, Config, Finished, Start, want, begin, turn, run}
use Rattle.js_reading.proofs.sentences.Firsts.{remade}
use Rattle.js_reading.proofs.sentences.KindsLemmas.{kind_is}
use Rattle.js_reading.proofs.sentences.Rows.{sign_kind}
use Rattle.js_reading.proofs.sentences.Ways.{Ways, turn_way, come_to}
use Rattle.js_reading.proofs.goals.Asking.{no_shift, leads_nowhere}

-- the file is whole
abbrev pub is_finished : Config → Bool
is_finished (Finished ss) = true
is_finished c = false

abbrev ended : Token → Token
ended t = remade t End

want_nothing : (t : Token) (fs : List Frame) → want (ended t) fs ≡ None
want_nothing t fs = refl

begin_nothing : (t : Token) (fs : List Frame) → begin (ended t) fs ≡ None
begin_nothing t fs = want_nothing t (InExpression t.loc ∷ fs)

clash : {A : Type 0} {p : Piece} → None ≡ Some p → A
clash h = absurd cc

no_piece : {A : Type 0} (c : Class) (p : Piece) (t : Token) → piece_of c End t.loc ≡ Some p → A
no_piece BoundName p t h = clash h
no_piece AnyName p t h = clash h
no_piece Key p t h = clash h
no_piece FirstText p t h = clash h
no_piece LaterText p t h = clash h

no_end : {A : Type 0} (k : Kind) → sign_kind k ≡ true → is_kind k End ≡ true → A
no_end k s h = absurd (true≢false (sym (subst (λ x. sign_kind x ≡ true) (sym (kind_is k End h)) s)))

end_ways : (t : Token) (b : Bool) → Ways (ended t) b (λ d. is_finished d ≡ true)
end_ways t b = record {
  by_want = λ fs d fr h. leads_nowhere (want_nothing t fs) h;
  by_begin = λ fs d fr h. leads_nowhere (begin_nothing t fs) h;
  by_sign = λ k f w ss ps fs is c fine fr. no_end k is c;
  by_text = λ c p f w ss ps fs e m x fine fr. no_piece c p t e;
  by_comma = λ fs c fr. absurd (true≢false (sym c));
  by_end = λ ss c. refl;
}

ends : (ts : List Token) (t : Token) (c d : Config) → run Start ts ≡ Some c → turn c (ended t) ≡ Some d → is_finished d ≡ true
ends ts t c d ran h = turn_way c d (end_ways t _) (λ i e l fs x fr g. no_shift (ended t) i e l fs x refl g) (λ p f w ss ps fs e fin fr. no_piece LaterText p t e) (come_to ts c ran) h

pub end_finishes : (ts : List Token) (t : Token) (c d : Config) → run Start ts ≡ Some c → turn c t ≡ Some d → t.kind ≡ End → is_finished d ≡ true
end_finishes ts t c d ran h is = ends ts t c d ran (subst (λ k. turn c (remade t k) ≡ Some d) is h)
