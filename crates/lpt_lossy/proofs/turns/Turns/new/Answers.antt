-- One empty turn more.
use Rattle.lpt_lossy.proofs.MadeLemmas.{turn-more}
use Rattle.lpt_lossy.proofs.turns.Turns.new.Goals as goal

pub loop-preserved : goal.loop-preserved
loop-preserved c =
    turn-more (λ v. v.items) c.loop.turns.items c.push-in-loop.new.self.items c.new-in-loop.result
    c.loop.counter
    c.loop.invariant c.in_ok-push-2.ensures.items c.new-in-loop.ensures.items
