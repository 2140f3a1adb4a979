-- What a receiver makes of a part, by what its table answered.
use Rattle.std.proofs.Common.{[], ap, rules}
use Rattle.std.specs.Option.{option_map}
use Rattle.lpt_packet.specs.Names.{named_by}
use Rattle.lpt_part.specs.Parts.{piece}
use Rattle.lpt_events.specs.NamedParts.{part_named}
use Rattle.lpt_pus.specs.Telemetry.{telemetry, as_written}
use Rattle.lpt_reception.specs.Received.{Ended, BrokenOff}
use Rattle.lpt_node.proofs.ReceiverLemmas.{received-closed, received-kept, received-again, received-no_room, received-whole, received-broken, received-gap, grows-gap, grows-kept, grows-whole, grows-broken}
use Rattle.lpt_node.proofs.TiedLemmas.{sound-kept, sound-out, sound-gap}
use Rattle.lpt_node.proofs.receiver.Receiver.accept.Goals as goal

pub returns-then-ne-clause-ok : goal.returns-then-ne-clause-ok
returns-then-ne-clause-ok c =
    received-closed (option_map (λ h. as_written (telemetry h [])) c.args.head) c.args.self.now
    (part_named c.args.source (piece c.args.part.now)) c.args.now
    (search rules)

pub invariant_of-self : goal.invariant_of-self
invariant_of-self c =
    sound-kept c.self.inside.ledger c.self.inside.table c.offer.new.self (named_by c.args.source c.args.part.now.id) _
    c.self.invariant
    (search rules)
    c.in-Kept.ensures.answer.2

pub invariant_of-self-in-Again : goal.invariant_of-self-in-Again
invariant_of-self-in-Again c =
    sound-kept c.self.inside.ledger c.self.inside.table c.offer.new.self (named_by c.args.source c.args.part.now.id) _
    c.self.invariant
    (search rules)
    c.in-Again.ensures.answer.2

pub invariant_of-self-in-Whole : goal.invariant_of-self-in-Whole
invariant_of-self-in-Whole c =
    sound-out c.release.result c.self.inside.ledger c.release.new.ledger
    c.self.inside.table c.offer.new.self c.release.new.table (named_by c.args.source c.args.part.now.id) c.in-Whole.whole.before
    c.self.invariant
    c.in-Whole.ensures.answer.2
    c.release.ensures.shut
    c.release.ensures.settled
    c.release.ensures.unshut
    c.release.ensures.back
    (ap (λ (w : Ended). w.before) c.in-Whole.ensures.answer.1.2)
    (c.put_back_undoes.ensures c.self.inside.table c.offer.new.self (named_by c.args.source c.args.part.now.id) c.self.invariant.settled c.in-Whole.ensures.answer.2)

pub invariant_of-self-in-Conflict : goal.invariant_of-self-in-Conflict
invariant_of-self-in-Conflict c =
    sound-out c.abort.result c.self.inside.ledger c.abort.new.ledger
    c.self.inside.table c.offer.new.self c.abort.new.table (named_by c.args.source c.args.part.now.id) c.in-Conflict.broken.before
    c.self.invariant
    c.in-Conflict.ensures.answer.2
    c.abort.ensures.shut
    c.abort.ensures.settled
    c.abort.ensures.unshut
    c.abort.ensures.back
    c.in-Conflict.ensures.answer.1.1
    (c.put_back_undoes.ensures c.self.inside.table c.offer.new.self (named_by c.args.source c.args.part.now.id) c.self.invariant.settled c.in-Conflict.ensures.answer.2)

pub returns-in-Kept-clause-ok : goal.returns-in-Kept-clause-ok
returns-in-Kept-clause-ok c =
    received-kept (option_map (λ h. as_written (telemetry h [])) c.args.head) c.self.inside.ledger c.self.inside.table c.offer.new.self
    (part_named c.args.source (piece c.args.part.now)) c.args.now c.args.self.now
    c.self.view_is
    c.self.invariant
    (search rules)
    _
    c.in-Kept.ensures.offered
    c.in-Kept.ensures.answer.2

pub returns-in-Again-clause-ok : goal.returns-in-Again-clause-ok
returns-in-Again-clause-ok c =
    received-again (option_map (λ h. as_written (telemetry h [])) c.args.head) c.self.inside.ledger c.self.inside.table c.offer.new.self
    (part_named c.args.source (piece c.args.part.now)) c.args.now c.args.self.now
    c.self.view_is
    c.self.invariant
    (search rules)
    _
    c.in-Again.ensures.offered
    c.in-Again.ensures.answer.2

pub returns-in-NoRoom-clause-ok : goal.returns-in-NoRoom-clause-ok
returns-in-NoRoom-clause-ok c =
    received-no_room (option_map (λ h. as_written (telemetry h [])) c.args.head) c.self.inside.ledger c.self.inside.table c.offer.new.self
    (part_named c.args.source (piece c.args.part.now)) c.args.now c.args.self.now
    c.self.view_is
    c.self.invariant
    (search rules)
    c.in-NoRoom.ensures.offered
    c.in-NoRoom.ensures.answer.1

pub returns-in-Whole-clause-ok : goal.returns-in-Whole-clause-ok
returns-in-Whole-clause-ok c =
    received-whole (option_map (λ h. as_written (telemetry h [])) c.args.head) c.self.inside.ledger c.self.inside.table c.offer.new.self
    (part_named c.args.source (piece c.args.part.now)) c.args.now c.args.self.now
    c.self.view_is
    c.self.invariant
    (search rules)
    c.release.result c.release.new.ledger c.release.new.table
    c.release.ensures.shut
    c.release.ensures.settled
    c.in-Whole.ensures.answer.2
    c.in-Whole.whole
    c.release.ensures.ok
    c.in-Whole.ensures.offered
    c.in-Whole.ensures.answer.1.2

pub returns-in-Conflict-clause-ok : goal.returns-in-Conflict-clause-ok
returns-in-Conflict-clause-ok c =
    received-broken (option_map (λ h. as_written (telemetry h [])) c.args.head) c.self.inside.ledger c.self.inside.table c.offer.new.self
    (part_named c.args.source (piece c.args.part.now)) c.args.now c.args.self.now
    c.self.view_is
    c.self.invariant
    (search rules)
    c.abort.result c.abort.new.ledger c.abort.new.table
    c.abort.ensures.shut
    c.abort.ensures.settled
    c.in-Conflict.ensures.answer.2
    c.in-Conflict.broken
    c.abort.ensures.ok
    c.in-Conflict.ensures.offered

pub returns-in-Memory-clause-memory : goal.returns-in-Memory-clause-memory
returns-in-Memory-clause-memory c =
    grows-kept (option_map (λ h. as_written (telemetry h [])) c.args.head) c.self.inside.ledger c.self.inside.table c.offer.new.self
    (part_named c.args.source (piece c.args.part.now)) c.args.now c.args.self.now
    c.self.view_is
    c.self.invariant
    (search rules)
    c.in-Memory.ensures.answer

pub returns-in-Whole-clause-memory : goal.returns-in-Whole-clause-memory
returns-in-Whole-clause-memory c =
    grows-whole (option_map (λ h. as_written (telemetry h [])) c.args.head) c.self.inside.ledger c.self.inside.table c.offer.new.self
    (part_named c.args.source (piece c.args.part.now)) c.args.now c.args.self.now
    c.self.view_is
    c.self.invariant
    (search rules)
    c.release.result
    c.in-Whole.ensures.offered

pub returns-in-Conflict-clause-memory : goal.returns-in-Conflict-clause-memory
returns-in-Conflict-clause-memory c =
    grows-broken (option_map (λ h. as_written (telemetry h [])) c.args.head) c.self.inside.ledger c.self.inside.table c.offer.new.self
    (part_named c.args.source (piece c.args.part.now)) c.args.now c.args.self.now
    c.self.view_is
    c.self.invariant
    (search rules)
    c.abort.result c.in-Conflict.broken.reason
    c.in-Conflict.ensures.offered

pub invariant_of-self-in-Gap : goal.invariant_of-self-in-Gap
invariant_of-self-in-Gap c =
    sound-gap c.break_off.result c.self.inside.ledger c.break_off.new.ledger
    c.self.inside.table c.offer.new.self (named_by c.args.source c.args.part.now.id)
    c.self.invariant
    c.break_off.ensures.shut
    c.break_off.ensures.unshut
    c.in-Gap.ensures.answer.1
    c.in-Gap.ensures.answer.4

pub returns-in-Gap-clause-ok : goal.returns-in-Gap-clause-ok
returns-in-Gap-clause-ok c =
    received-gap (option_map (λ h. as_written (telemetry h [])) c.args.head) c.self.inside.ledger c.self.inside.table c.offer.new.self
    (part_named c.args.source (piece c.args.part.now)) c.args.now c.args.self.now
    c.self.view_is
    c.self.invariant
    (search rules)
    c.break_off.result c.break_off.new.ledger
    c.break_off.ensures.shut
    c.break_off.ensures.ok
    c.in-Gap.ensures.offered
    c.in-Gap.ensures.answer.1
    c.in-Gap.ensures.answer.4

pub returns-in-Gap-clause-memory : goal.returns-in-Gap-clause-memory
returns-in-Gap-clause-memory c =
    grows-gap (option_map (λ h. as_written (telemetry h [])) c.args.head) c.self.inside.ledger c.self.inside.table c.offer.new.self
    (part_named c.args.source (piece c.args.part.now)) c.args.now c.args.self.now
    c.self.view_is
    c.self.invariant
    (search rules)
    c.break_off.result
    c.in-Gap.ensures.offered
