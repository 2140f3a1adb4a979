use Rattle.std.proofs.Common.{◌≡◌, take}
use Rattle.std.specs.Io.KnownBytes.{Appends}
use Rattle.lpt_script_text.specs.Printing.{release_text}
use Rattle.std.specs.List.{flat_map}
use Rattle.lpt_script.proofs.showing.put_releases.Given as goal

abbrev pub invariant-loop-release : goal.invariant-loop-release
invariant-loop-release g l =
    Appends (g.K.Sink.contents l.fn.out) (g.K.Sink.contents l.out) (flat_map (release_text l.fn.source) (take l.release-index l.fn.releases))
    × (g.K.Sink.failed l.out ≡ g.K.Sink.failed l.fn.out)
