use Rattle.std.proofs.Common.{◌≡◌, ◌++◌, List, take}
use Rattle.std.specs.Io.KnownBytes.{Appends}
use Rattle.lpt_memory.specs.declared.request.Area.{Area}
use Rattle.lpt_extract.specs.declared.notice.Notice.{Notice}
use Rattle.lpt_extract.specs.Extracts.{written_first}
use Rattle.lpt_extract.specs.ExtractsInside.{areas_given, told_of, HeldAreas}
use Rattle.lpt_extract.specs.Notices.{Hears}
use Rattle.lpt_extract.proofs.taking.take_areas.Given as goal

-- the areas so far were taken
abbrev pub invariant-loop-seen : goal.invariant-loop-seen
invariant-loop-seen g l = record {
  held : (before : List Area) (ns : List Notice) → HeldAreas l.wanted.at before ns l.fn.holding
      → HeldAreas l.wanted.at (before ++ areas_given (take l.seen-index l.areas))
      (ns ++ told_of l.memory l.place (take l.seen-index l.areas)) l.holding;
  wrote : Appends (g.K.Sink.contents l.fn.out) (g.K.Sink.contents l.out)
      (written_first l.wanted.at (areas_given (take l.seen-index l.areas)));
  heard : Hears (g.L.Listener.heard l.fn.listener) (g.L.Listener.heard l.listener)
      (told_of l.memory l.place (take l.seen-index l.areas));
  writer : g.K.Sink.failed l.out ≡ g.K.Sink.failed l.fn.out;
}
