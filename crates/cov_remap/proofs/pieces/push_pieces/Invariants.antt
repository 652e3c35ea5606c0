use Rattle.std.proofs.Common.{◌≡◌, ◌++◌, length}
use Rattle.std.specs.Option.{option_map}
use Rattle.std.specs.List.{filter_map}
use Rattle.cov_remap.specs.Sent.{sent}
use Rattle.cov_remap.specs.Remapped.{pieces_of}
use Rattle.cov_remap.proofs.pieces.push_pieces.Given as goal

abbrev pub invariant-entries : goal.invariant-entries
invariant-entries g l =
    l.pieces.items ++ filter_map (λ entry. option_map (λ to. g.T.Sends.sending.alone to.0 to.1) (sent g.T.Sends.sending l.file.path l.map entry.1)) l.rest
    ≡ l.fn.pieces.items ++ pieces_of g.T.Sends.sending l.file l.map

abbrev pub decreases-entries : goal.decreases-entries
decreases-entries g l = length l.rest
