-- What is left is short enough, and its spelling behind the body so far is the whole body's.
use Rattle.std.proofs.Common.{◌≡◌, ◌+◌, ◌≤◌, ◌<◌, ◌^◌, ◌++◌, drop, length, map, sum_by}
use Rattle.std.specs.List.{flat_map, AllByRecursion}
use Rattle.lpt_memory.specs.Spellings.{load_area_text, area_stored, load_text}
use Rattle.lpt_memory.proofs.writing.load_body.Given as goal

abbrev pub invariant-loop-area : goal.invariant-loop-area
invariant-loop-area l = record {
  short : sum_by (λ a. 8 + length a.octets) (drop l.area-index l.areas) ≤ 65527;
  body :
      l.body.items ++ flat_map load_area_text (map area_stored (drop l.area-index l.areas))
      ≡ load_text l.memory l.areas;
  addresses :
      AllByRecursion (λ a. a.address < 2 ^ 32) (drop l.area-index l.areas)
      → AllByRecursion (λ a. a.address < 2 ^ 32) l.areas;
}
