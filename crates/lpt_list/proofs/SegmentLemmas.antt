-- Segments.
use Rattle.std.proofs.Common.{◌≡◌, ℕ, ◌≤◌, nat_lt, Bool, true, false, if◌then◌else◌, List, length, Result, Err, arith, refl}
use Rattle.std.proofs.lemmas.Bool.Decides.{nat_tests}
use Rattle.lpt_packet.specs.declared.fault.PacketFault.{PacketFault}
use Rattle.lpt_packet.specs.declared.fault.PacketFault.TheVariants.{Short, Segmented}
use Rattle.lpt_packet.specs.Packets.{Sight, verdict}
use Rattle.lpt_layout.specs.Packets.{verdict_as}

not-short : (t : Bool) (v : Result Sight PacketFault)
    → (if t then Err Short else v) ≡ Err Segmented
    → t ≡ false
not-short true v e = absurd cc
not-short false v e = refl

-- a segment has as many octets as a header and one more
pub segment-long : (b : List ℕ) → verdict b ≡ Err Segmented → 7 ≤ length b
unfolding verdict
segment-long b e =
    let long : nat_lt (length b) 7 ≡ false = not-short (nat_lt (length b) 7) _ e in
    grind (arith, nat_tests)

-- the same of a packet that may have no packet error control
pub segment-long-as : (has : Bool) (b : List ℕ) → verdict_as has b ≡ Err Segmented → 7 ≤ length b
unfolding verdict_as
segment-long-as true b e = segment-long b e
segment-long-as false b e =
    let long : nat_lt (length b) 7 ≡ false = not-short (nat_lt (length b) 7) _ e in
    grind (arith, nat_tests)
