use Rattle.std.proofs.Common.{◌≡◌, ◌≤◌, ◌-◌, drop, length}
use Rattle.lpt_stream.specs.Ending.{EndsAt}
use Rattle.lpt_stream.specs.Pieces.{ends_in_packet}
use Rattle.lpt_stream.proofs.ending.ends_in_packet.Given as goal

-- no packet stands behind fewer of them
abbrev pub invariant-loop-at : goal.invariant-loop-at
invariant-loop-at l = record {
  kept : EndsAt l.at l.ends l.octets;
  few : l.at ≤ length l.octets;
  so_far : ends_in_packet l.octets ≡ ends_in_packet (drop l.at l.octets);
}

abbrev pub decreases-loop-at : goal.decreases-loop-at
decreases-loop-at l = length l.octets - l.at
