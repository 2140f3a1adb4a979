-- What was read, with what is still to be read, is what all the octets are read as.
use Rattle.std.proofs.Common.{◌≡◌, ◌-◌, ◌≤◌, drop, length, map}
use Rattle.lpt_memory.specs.Requests.{front_load_area}
use Rattle.lpt_memory.specs.Fields.{all_areas}
use Rattle.lpt_memory.specs.Seen.{load_area, AreWithin}
use Rattle.lpt_memory.proofs.LoopLemmas.{with_front}
use Rattle.lpt_memory.proofs.reading.stored_areas.Given as goal

abbrev pub invariant-loop : goal.invariant-loop
invariant-loop l = record {
  at : l.at ≤ length l.body;
  within : AreWithin (length l.body) l.areas.items;
  read :
      with_front (map (load_area l.body) l.areas.items)
      (all_areas front_load_area (l.count - l.counter) (drop l.at l.body))
      ≡ all_areas front_load_area l.count (drop l.from l.body);
}
