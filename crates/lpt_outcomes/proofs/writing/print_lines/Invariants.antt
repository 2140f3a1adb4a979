-- The lines up to the place.
use Rattle.std.proofs.Common.{◌≡◌, take}
use Rattle.std.specs.BTreeMap.{get}
use Rattle.std.specs.List.{flat_map}
use Rattle.std.specs.Map.{count_at}
use Rattle.std.specs.String.{string_bytes}
use Rattle.lpt_outcomes.specs.Keys.{key_cmp, key_of}
use Rattle.lpt_outcomes.specs.Lines.{line_of}
use Rattle.lpt_outcomes.proofs.writing.print_lines.Given as goal

abbrev pub invariant-loop-asked : goal.invariant-loop-asked
invariant-loop-asked l =
    string_bytes l.text
    ≡ flat_map (λ a. line_of l.form (count_at (get key_cmp l.counts) (key_of a)) a)
    (take l.asked-index l.requests)
