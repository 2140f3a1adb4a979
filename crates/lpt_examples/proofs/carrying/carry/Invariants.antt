use Rattle.lpt_examples.specs.Carrying.{Carries}
use Rattle.lpt_examples.proofs.carrying.carry.Given as goal

-- the message is awaited
abbrev pub invariant-loop-number : goal.invariant-loop-number
invariant-loop-number g l =
    Carries l.name l.fn.message l.ground l.craft (g.N.Network.may_come l.network)

-- the message is awaited
abbrev pub invariant-loop : goal.invariant-loop
invariant-loop g l =
    Carries l.name l.fn.message l.ground l.craft (g.N.Network.may_come l.network)
