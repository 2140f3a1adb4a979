-- What was found, with what is left to be read, is what is found in all.
use Rattle.std.proofs.Common.{◌≡◌, ◌+◌, ◌-◌, ◌≤◌, drop, length, option_map, None, IfSome}
use Rattle.lpt_memory.specs.Fields.{all_areas}
use Rattle.lpt_memory.specs.Requests.{front_load_area}
use Rattle.lpt_c.specs.Dumps.{place_in, area_placed}
use Rattle.lpt_c.proofs.DumpLemmas.{left}
use Rattle.lpt_c.proofs.dumps.find_area.Given as goal

abbrev pub invariant-loop-k : goal.invariant-loop-k
invariant-loop-k l = record {
  inside : l.at ≤ length l.body;
  within : IfSome l.found (λ p. p.at + p.len ≤ length l.body);
  passed : l.found ≡ None → l.k ≤ l.number;
  first : l.k ≤ l.number → l.found ≡ None;
  read :
      left front_load_area (option_map (place_in l.body) l.found) l.at (l.number - l.k)
      (l.areas - l.k) (drop l.at l.body)
      ≡ option_map (area_placed 2 l.number) (all_areas front_load_area l.areas (drop 2 l.body));
}
