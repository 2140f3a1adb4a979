-- A reading that was prepared outside is handed in, and the longer journal is shown.
use Rattle.std.proofs.Common.{◌≡◌, ◌∙◌, ap, sym, None}
use Rattle.lpt_events.specs.declared.event.Event.TheVariants.{Commit}
use Rattle.lpt_model.specs.Events.{refusal_of}
use Rattle.lpt_system.specs.SystemInside.{state_of}
use Rattle.lpt_world.specs.Worlds.{Shown, refusal_at}
use Rattle.lpt_world.proofs.WorldLemmas.{free_shown, ready_shown, seat_there, shown_push}
use Rattle.lpt_world.proofs.world.World.try_commit.Goals as goal

pub commit_read-reply-requires-clause-ready : goal.commit_read-reply-requires-clause-ready
commit_read-reply-requires-clause-ready c =
    let e = c.self.inside.system in
    let event = Commit c.args.worker in
    ready_shown e c.self.inside.first c.self.inside.journal.items event c.self.invariant
    (free_shown e c.self.inside.first c.self.inside.journal.items c.args.seat event c.self.invariant
    (c.in-None.ensures ∙ sym (ap (λ (w : Shown). refusal_at w c.args.seat event) c.self.view_is)))

pub invariant_of-self-2 : goal.invariant_of-self-2
invariant_of-self-2 c =
    let e = c.self.inside.system in
    let event = Commit c.args.worker in
    let free : refusal_of e.config (state_of e) event ≡ None =
    free_shown e c.self.inside.first c.self.inside.journal.items c.args.seat event c.self.invariant
    (c.in-None.ensures ∙ sym (ap (λ (w : Shown). refusal_at w c.args.seat event) c.self.view_is)) in
    rw c.push_reserved.ensures.items (rw c.reserve.ensures.items
    (shown_push e c.commit_read-reply.new.self c.self.inside.first c.self.inside.journal.items _ c.self.invariant
    (seat_there c.args.seat _ c.in-None.ensures) tt free
    c.commit_read-reply.ensures.ok c.commit_read-reply.ensures.config))
