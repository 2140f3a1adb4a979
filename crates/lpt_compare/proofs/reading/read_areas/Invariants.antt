-- What was read, with what is still to be read, is what all the octets are read as.
use Rattle.std.proofs.Common.{◌≡◌, ◌-◌}
use Rattle.lpt_memory.specs.Fields.{all_areas}
use Rattle.lpt_memory.proofs.LoopLemmas.{with_front}
use Rattle.lpt_compare.specs.Checks.{one_area}
use Rattle.lpt_compare.proofs.reading.read_areas.Given as goal

abbrev pub invariant-loop : goal.invariant-loop
invariant-loop l =
    with_front l.areas.items (all_areas one_area (l.count - l.counter) l.rest)
    ≡ all_areas one_area l.count l.octets
