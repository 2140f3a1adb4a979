-- No last tick falls below 0, and names stay tied.
use Rattle.std.proofs.Common.{◌∙◌, ap}
use Rattle.lpt_table.specs.SettingBack.{reaches_back}
use Rattle.lpt_node.specs.Receivers.{ReceiverState}
use Rattle.lpt_node.proofs.TiedLemmas.{sound-back}
use Rattle.lpt_node.proofs.receiver.Receiver.set_back.Goals as goal

pub set_back-requires-clause-reaches : goal.set_back-requires-clause-reaches
set_back-requires-clause-reaches c =
    ap (λ (r : ReceiverState). reaches_back c.args.ticks r.entries) c.self.view_is ∙ c.requires

pub invariant_of-self : goal.invariant_of-self
invariant_of-self c =
    sound-back c.self.inside.ledger c.self.inside.table c.set_back.new.self c.args.ticks
    c.self.invariant
    c.set_back.ensures
    (c.set_back_keeps_times.ensures.entries c.args.ticks c.self.inside.table.entries)
