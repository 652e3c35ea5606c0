-- `this` is no name.
use Rattle.std.proofs.Common.{◌≡◌, ◌≢◌, ℕ, true, false, codes, refl, sym, ap, ◌∙◌}
use Rattle.js_text.specs.Word.{reserved_word}
use Rattle.js_reading.specs.Kinds.{is_keyword}
use Rattle.js_suits.specs.Laws.{NamesFree}
use Rattle.js_suits.specs.Settings.{Home, Outside, Within, Setting, IsOther}

this_keyword : is_keyword (codes "this") ≡ true
unfolding is_keyword reserved_word
this_keyword = refl

module _ (c : Setting) (free : (file : ℕ) → is_keyword (c.name file) ≡ false) where
  other : (h : Home) → IsOther c.name h (codes "this")
  other (Outside part) = tt
  other (Within file) = λ e. absurd (let z : true ≡ false = sym this_keyword ∙ ap is_keyword e ∙ free file in cc)

not_global : codes "this" ≢ codes "globalThis"
not_global e = absurd (let z = e in cc)

pub names_free : NamesFree
names_free c free = record { this = λ h. record { other = other c free h; not_global = not_global } }
