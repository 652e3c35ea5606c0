-- Bytes that are refused for a cause are no source.
use Rattle.std.proofs.Common.{◌≡◌, ℕ, ◌<◌, ◌≤◌, List, length, None, Some, false, Ok, Err, IfOk, IfErr, refl, ap, arith}
use Rattle.std.specs.Prelude.{Result}
use Rattle.js_tree.specs.Plain.{File}
use Rattle.js_tree.specs.Height.{height_file}
use Rattle.js_text.specs.Limits.{source_limits}
use Rattle.js_text.specs.declared.text.TextFault.{TextFault}
use Rattle.js_text.specs.declared.text.TextFault.TheVariants as text
use Rattle.js_parser.specs.Refused.{Because}
use Rattle.js_parser.specs.declared.refused.Refusal.{Refusal}
use Rattle.js_parser.specs.declared.refused.Refusal.TheVariants as refusal
use Rattle.js_scopes.specs.Accepted.{Accepted}
use Rattle.js_scopes.specs.Checks.{first_fault}
use Rattle.cov_sources.specs.Refused.{IsNoText, IsRefused}
use Rattle.cov_sources.specs.declared.why.Why.{Why}
use Rattle.cov_sources.specs.declared.why.Why.TheVariants as why

no_text : (fault : TextFault) (bytes : List ℕ) (tree : File) → IsNoText fault bytes → Accepted bytes tree → ⊥
no_text (text.TooLong count) bytes tree is source =
    let longer : source_limits.bytes < length bytes = is.0 in
    let within : length bytes ≤ source_limits.bytes = source.within in omega arith
no_text (text.NotUtf8 at) bytes tree is source = is.1 source.utf8
no_text text.Memory bytes tree is source = absurd is

unread : (cause : Refusal) (bytes : List ℕ) (at : ℕ) (tree : File) → Because cause bytes at source_limits.height → (cause ≡ refusal.Memory → ⊥) → Accepted bytes tree → ⊥
unread refusal.Syntax bytes at tree is other source = is.0.none tree source.reads
unread (refusal.Unsupported form) bytes at tree is other source = is.none tree source.reads
unread refusal.TooDeep bytes at tree is other source =
    let high : source_limits.height < height_file tree = is.higher tree source.reads in
    let low : height_file tree ≤ source_limits.height = source.low in omega arith
unread refusal.Memory bytes at tree is other source = absurd (other refl)

pub unaccepted : (because : Why) (bytes : List ℕ) → IsRefused because bytes → (tree : File) → Accepted bytes tree → ⊥
unaccepted (why.NoText fault) bytes is tree source = no_text fault bytes tree is source
unaccepted (why.Unread refused place) bytes is tree source = unread refused.why bytes refused.at tree is.refuses is.caused source
unaccepted (why.Broken broken) bytes is tree source =
    let same : first_fault false tree ≡ first_fault false is.tree = ap (first_fault false) (is.only tree source.reads) in
    let breaks : first_fault false is.tree ≡ Some broken = is.breaks in
    let unbroken : first_fault false tree ≡ None = source.unbroken in cc

-- the same of an answer, which want of memory may come before
pub none_accepted : {Source Want : Type 0} (bytes : List ℕ) (result : Result (Result Source Why) Want) → IfOk result (λ answer. IfErr answer (λ why. IsRefused why bytes)) →
    IfOk result (λ answer. IfErr answer (λ why. (tree : File) → Accepted bytes tree → ⊥))
none_accepted bytes (Ok (Ok source)) is = tt
none_accepted bytes (Ok (Err because)) is = unaccepted because bytes is
none_accepted bytes (Err want) is = tt
