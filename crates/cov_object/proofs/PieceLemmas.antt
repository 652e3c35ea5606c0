-- The text of an object, from its members.
use Rattle.std.proofs.Common.{◌≡◌, List, ℕ, ◌++◌, Bool, true, append_assoc}
use Rattle.serde_json.specs.Data.{Data, Members, member}
use Rattle.serde_json.specs.Written.{members_text}
use Rattle.cov_object.specs.private.Piece.{member_text}

-- a member's text, and then that of those after it
pub members_text-member : (later : Bool) (k : List ℕ) (d : Data) (ms : Members) → members_text later (member k d ms) ≡ member_text later k d ++ members_text true ms
members_text-member later k d ms = simp append_assoc
