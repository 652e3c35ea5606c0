-- Steps one after another, each of which does what it does unless memory is wanting.
use Rattle.std.proofs.Common.{◌≡◌, true, sym, ◌∙◌}
use Rattle.std.proofs.lemmas.Bool.{true≢false}
use Rattle.js_code.specs.private.Push.{Compiling}
use Rattle.js_code.specs.private.Compiled.{Kept}

pub kept_one : {s0 s1 : Compiling} {A Q : Type 0} → Kept s0 s1 A → (A → Q) → Kept s0 s1 Q
kept_one a f = record { whole = λ w. a.whole w; kept = λ w. f (a.kept w) }

pub kept_two : {s0 s1 s2 : Compiling} {A B Q : Type 0} → Kept s0 s1 A → Kept s1 s2 B → (A → B → Q) → Kept s0 s2 Q
kept_two a b f = record { whole = λ w. a.whole (b.whole w); kept = λ w. f (a.kept (b.whole w)) (b.kept w) }

pub kept_three : {s0 s1 s2 s3 : Compiling} {A B C Q : Type 0} → Kept s0 s1 A → Kept s1 s2 B → Kept s2 s3 C → (A → B → C → Q) → Kept s0 s3 Q
kept_three a b c f = record { whole = λ w. a.whole (b.whole (c.whole w)); kept = λ w. f (a.kept (b.whole (c.whole w))) (b.kept (c.whole w)) (c.kept w) }

pub kept_four : {s0 s1 s2 s3 s4 : Compiling} {A B C D Q : Type 0} → Kept s0 s1 A → Kept s1 s2 B → Kept s2 s3 C → Kept s3 s4 D → (A → B → C → D → Q) → Kept s0 s4 Q
kept_four a b c d f = record { whole = λ w. a.whole (b.whole (c.whole (d.whole w))); kept = λ w. f (a.kept (b.whole (c.whole (d.whole w)))) (b.kept (c.whole (d.whole w))) (c.kept (d.whole w)) (d.kept w) }

pub kept_five : {s0 s1 s2 s3 s4 s5 : Compiling} {A B C D E Q : Type 0} → Kept s0 s1 A → Kept s1 s2 B → Kept s2 s3 C → Kept s3 s4 D → Kept s4 s5 E → (A → B → C → D → E → Q) → Kept s0 s5 Q
kept_five a b c d e f = record { whole = λ w. a.whole (b.whole (c.whole (d.whole (e.whole w)))); kept = λ w. f (a.kept (b.whole (c.whole (d.whole (e.whole w))))) (b.kept (c.whole (d.whole (e.whole w)))) (c.kept (d.whole (e.whole w))) (d.kept (e.whole w)) (e.kept w) }

pub kept_six : {s0 s1 s2 s3 s4 s5 s6 : Compiling} {A B C D E F Q : Type 0} → Kept s0 s1 A → Kept s1 s2 B → Kept s2 s3 C → Kept s3 s4 D → Kept s4 s5 E → Kept s5 s6 F → (A → B → C → D → E → F → Q) → Kept s0 s6 Q
kept_six a b c d e g f = record { whole = λ w. a.whole (b.whole (c.whole (d.whole (e.whole (g.whole w))))); kept = λ w. f (a.kept (b.whole (c.whole (d.whole (e.whole (g.whole w)))))) (b.kept (c.whole (d.whole (e.whole (g.whole w))))) (c.kept (d.whole (e.whole (g.whole w)))) (d.kept (e.whole (g.whole w))) (e.kept (g.whole w)) (g.kept w) }

pub kept_seven : {s0 s1 s2 s3 s4 s5 s6 s7 : Compiling} {A B C D E F G Q : Type 0} → Kept s0 s1 A → Kept s1 s2 B → Kept s2 s3 C → Kept s3 s4 D → Kept s4 s5 E → Kept s5 s6 F → Kept s6 s7 G → (A → B → C → D → E → F → G → Q) → Kept s0 s7 Q
kept_seven a b c d e g h f = record { whole = λ w. a.whole (b.whole (c.whole (d.whole (e.whole (g.whole (h.whole w)))))); kept = λ w. f (a.kept (b.whole (c.whole (d.whole (e.whole (g.whole (h.whole w))))))) (b.kept (c.whole (d.whole (e.whole (g.whole (h.whole w)))))) (c.kept (d.whole (e.whole (g.whole (h.whole w))))) (d.kept (e.whole (g.whole (h.whole w)))) (e.kept (g.whole (h.whole w))) (g.kept (h.whole w)) (h.kept w) }

-- where memory is wanting
pub lacking : {old new : Compiling} {P : Type 0} → new.wanting ≡ true → Kept old new P
lacking e = record { whole = λ w. absurd (true≢false (sym e ∙ w)); kept = λ w. absurd (true≢false (sym e ∙ w)) }
