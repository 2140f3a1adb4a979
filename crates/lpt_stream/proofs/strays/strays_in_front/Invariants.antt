use Rattle.std.proofs.Common.{◌≡◌, ◌≤◌, ◌+◌, ◌-◌, drop}
use Rattle.lpt_stream.specs.Marked.{Marked}
use Rattle.lpt_stream.specs.Strays.{strays_in}
use Rattle.lpt_stream.proofs.strays.strays_in_front.Given as goal

-- so many stand in front, and then those that follow
abbrev pub invariant-loop-count : goal.invariant-loop-count
invariant-loop-count l = record {
  marked : Marked l.count l.marks l.room l.octets;
  few : l.count ≤ l.most;
  so_far : strays_in l.is_end l.octets ≡ l.count + strays_in l.is_end (drop l.count l.octets);
}

abbrev pub decreases-loop-count : goal.decreases-loop-count
decreases-loop-count l = l.most - l.count
