-- The reception has ended, and names stay tied; without memory for that nothing has changed.
use Rattle.std.proofs.Common.{sym, subst}
use Rattle.lpt_ledger.specs.Marks.{Marks}
use Rattle.lpt_node.specs.Receivers.{IsReceiver}
use Rattle.lpt_node.proofs.TiedLemmas.{sound-expired}
use Rattle.lpt_node.proofs.receiver.Receiver.expire.Goals as goal

pub invariant_of-self : goal.invariant_of-self
invariant_of-self c =
    subst (λ (m : Marks). IsReceiver m c.self.inside.table) (sym c.in_err-report.ensures.unshut)
    c.self.invariant

pub invariant_of-self-2 : goal.invariant_of-self-2
invariant_of-self-2 c =
    sound-expired c.self.inside.ledger c.close_reported.new.ledger c.self.inside.table c.expire.new.self c.args.name
    c.self.invariant
    c.in_ok-report.ensures.shut
    c.expire.ensures.removed
