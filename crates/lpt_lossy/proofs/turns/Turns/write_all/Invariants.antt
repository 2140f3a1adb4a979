use Rattle.std.proofs.Common.{◌≡◌, map, take}
use Rattle.std.specs.List.{concat}
use Rattle.std.specs.Io.KnownBytes.{Appends}
use Rattle.lpt_lossy.proofs.turns.Turns.write_all.Given as goal

-- the turns so far were written
abbrev pub invariant-loop-turn : goal.invariant-loop-turn
invariant-loop-turn g l = record {
  wrote : Appends (g.K.Sink.contents l.fn.out) (g.K.Sink.contents l.out)
      (concat (map (λ v. v.items) (take l.turn-index l.self.turns.items)));
  told : g.K.Sink.failed l.out ≡ g.K.Sink.failed l.fn.out;
}
