-- What was read, with what is still to be read, is what all the octets are read as.
use Rattle.std.proofs.Common.{◌≡◌, ◌-◌, map}
use Rattle.lpt_memory.specs.Requests.{front_load_area}
use Rattle.lpt_memory.specs.Fields.{all_areas}
use Rattle.lpt_memory.proofs.LoopLemmas.{with_front}
use Rattle.lpt_extract.specs.ReportsInside.{load_area}
use Rattle.lpt_extract.proofs.report.read_areas.Given as goal

abbrev pub invariant-loop : goal.invariant-loop
invariant-loop l =
    with_front (map load_area l.areas.items) (all_areas front_load_area (l.count - l.counter) l.rest)
    ≡ all_areas front_load_area l.count l.octets
