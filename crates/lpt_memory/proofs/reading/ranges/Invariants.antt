-- What was read, with what is still to be read, is what all the octets are read as.
use Rattle.std.proofs.Common.{◌≡◌, ◌-◌, length}
use Rattle.lpt_memory.specs.Requests.{front_range}
use Rattle.lpt_memory.specs.Fields.{all_areas}
use Rattle.lpt_memory.proofs.LoopLemmas.{with_front}
use Rattle.lpt_memory.proofs.reading.ranges.Given as goal

abbrev pub invariant-loop : goal.invariant-loop
invariant-loop l = record {
  counted : length l.ranges.items ≡ l.counter;
  read :
      with_front l.ranges.items (all_areas front_range (l.count - l.counter) l.rest)
      ≡ all_areas front_range l.count l.bytes;
}
