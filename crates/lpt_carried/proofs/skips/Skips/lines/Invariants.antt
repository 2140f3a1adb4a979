-- The lines so far are those of the topics that were gone through.
use Rattle.std.proofs.Common.{◌≡◌, map, take}
use Rattle.std.specs.List.{filter_map}
use Rattle.std.specs.String.{string_bytes}
use Rattle.lpt_carried.specs.Told.{line_of, topics}
use Rattle.lpt_carried.proofs.skips.Skips.lines.Given as goal

abbrev pub invariant-loop-topic : goal.invariant-loop-topic
invariant-loop-topic l =
    map string_bytes l.lines.items
    ≡ filter_map (line_of l.wanted l.source l.from l.self) (take l.topic-index topics)
