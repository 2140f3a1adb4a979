-- The oldest request of all is read as a message of no octets, and leaves.
use Rattle.std.proofs.Common.{◌≡◌, ◌∙◌, ap, sym, ℕ, length, Some, None}
use Rattle.lpt_node.specs.Jobs.{refusal_apply}
use Rattle.lpt_c_end.specs.Kept.{sizes_in}
use Rattle.lpt_c_end.proofs.DropLemmas.{lets_go}
use Rattle.lpt_c_end.proofs.ReadyLemmas.{ready_dropped}
use Rattle.lpt_c_end.proofs.end.End.drop_unread.Goals as goal

pub invariant_of-self-clause-ready : goal.invariant_of-self-clause-ready
invariant_of-self-clause-ready c =
    let e = c.hand_in-code.new.self in
    ready_dropped c.drop_front.result e.node c.drop_front.new.self (sizes_in e.memories)
    c.drop_front.ensures.config c.drop_front.ensures.ok c.drop_front.ensures.err e.ready

pub unreachable-requires : goal.unreachable-requires
unreachable-requires c =
    let e = c.args.self.now in
    let it = lets_go e.config e.memories e.node.at c.hand_in-code.new.self.node.at _
    c.hand_in-code.result c.if-code-ne-DONE.false c.hand_in-code.ensures.code
    (sym c.jobs_queued.ensures ∙ c.if-jobs_queued-waiting.false ∙ c.waiting.ensures)
    (c.hand_in-code.ensures.done c.if-code-ne-DONE.false).node in
    let refused = c.in_default.ensures.refused in
    let both : None ≡ Some c.in_default.field-0 = sym it.ready ∙ refused in
    cc
