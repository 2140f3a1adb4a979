-- How long the bodies of parts and of abortion reports are.
use Rattle.std.proofs.Common.{◌≡◌, ◌+◌, length, arith, length-append, ℕ}
use Rattle.lpt_packet.specs.Names.{Name}
use Rattle.lpt_part.specs.declared.reason.Reason.{Reason}
use Rattle.lpt_part.specs.Aborts.{abort_body}
use Rattle.lpt_part.specs.Parts.{Piece, body_of}

-- a part's body has four octets before the part's
pub length-body_of : (q : Piece) → length (body_of q) ≡ length q.octets + 4
unfolding body_of
length-body_of q = omega (arith, length-append {A = ℕ})

-- the body of an abortion report has three octets
pub length-abort_body : (id : ℕ) (reason : Reason) → length (abort_body id reason) ≡ 3
unfolding abort_body
length-abort_body id reason = omega (arith, length-append {A = ℕ})
