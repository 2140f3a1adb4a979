use Rattle.std.proofs.Common.{◌≡◌, take}
use Rattle.std.specs.Io.KnownBytes.{Appends}
use Rattle.std.specs.List.{flat_map}
use Rattle.lpt_script.specs.Scripts.{show_text}
use Rattle.lpt_tool.proofs.threads.show_kept.Given as goal

-- what the lines so far show was written, and no write has failed
abbrev pub invariant-loop-show : goal.invariant-loop-show
invariant-loop-show g l =
    Appends (g.K.Sink.contents l.fn.out) (g.K.Sink.contents l.out) (flat_map (λ s. show_text s l.world) (take l.show-index l.fn.kept))
    × (g.K.Sink.failed l.out ≡ g.K.Sink.failed l.fn.out)
