use Rattle.std.proofs.Common.{drop}
use Rattle.lpt_spacecraft.proofs.FlightLemmas.{TellsSome}
use Rattle.lpt_spacecraft.proofs.serving.tell_all.Given as goal

-- what was told, and what is left, are all
abbrev pub invariant-loop-one : goal.invariant-loop-one
invariant-loop-one g l =
    TellsSome (g.L.Listener.heard l.fn.listener) (g.L.Listener.heard l.listener)
    (drop l.one-index l.told) l.told
