-- A delivery of what was read outside is done, and the longer journal is shown.
use Rattle.std.proofs.Common.{arith, ◌≡◌, ◌∙◌, ap, subst, sym, length, None}
use Rattle.lpt_events.specs.declared.event.Event.TheVariants.{Deliver}
use Rattle.lpt_journal.specs.Events.{reply}
use Rattle.lpt_model.specs.Events.{refusal_of, after}
use Rattle.lpt_system.specs.SystemInside.{state_of}
use Rattle.lpt_world.specs.Outside.{IsOfHand}
use Rattle.lpt_world.specs.Worlds.{Shown, refusal_at, history}
use Rattle.lpt_world.proofs.LegalLemmas.{numbered_few}
use Rattle.lpt_world.proofs.OutsideLemmas.{read_of}
use Rattle.lpt_world.proofs.WorldLemmas.{free_shown, seat_there, shown_push, reply_shown}
use Rattle.lpt_world.proofs.world.World.try_deliver.Goals as goal

pub deliver_read-requires-clause-read : goal.deliver_read-requires-clause-read
deliver_read-requires-clause-read c =
    read_of c.self.inside.system c.self.inside.first c.self.inside.journal.items c.args.lane c.args.parsed c.self.invariant
    (subst (λ (w : Shown). IsOfHand w c.args.lane c.args.parsed) (sym c.self.view_is)
    (c.is_of_hand.ensures.0 c.if-not-is_of_hand.false))

pub deliver_read-requires-clause-numbers : goal.deliver_read-requires-clause-numbers
deliver_read-requires-clause-numbers c =
    omega (
      arith,
      numbered_few c.self.inside.system.config c.self.inside.first (state_of c.self.inside.system)
          c.self.inside.journal.items c.self.invariant.told c.self.invariant.shows,
    )

pub invariant_of-self-in-Ok : goal.invariant_of-self-in-Ok
invariant_of-self-in-Ok c =
    let e = c.self.inside.system in
    let event = Deliver c.args.lane in
    let free : refusal_of e.config (state_of e) event ≡ None =
    free_shown e c.self.inside.first c.self.inside.journal.items c.args.seat event c.self.invariant
    (c.in-None.ensures ∙ sym (ap (λ (w : Shown). refusal_at w c.args.seat event) c.self.view_is)) in
    let place : c.len-place.result ≡ length c.self.inside.journal.items = c.len-place.ensures ∙ c.reserve.new.self.ok.0 ∙ ap length c.reserve.ensures.items in
    rw c.push_reserved.ensures.items (rw c.reserve.ensures.items
    (shown_push e c.deliver_read.new.self c.self.inside.first c.self.inside.journal.items _ c.self.invariant
    (seat_there c.args.seat _ c.in-None.ensures) tt free
    (c.in-Ok.ensures.ok ∙ ap (λ n. after e.config n (state_of e) event) place) c.in-Ok.ensures.config))

pub returns-in-Ok-clause-reply : goal.returns-in-Ok-clause-reply
returns-in-Ok-clause-reply c =
    let e = c.self.inside.system in
    let event = Deliver c.args.lane in
    let free : refusal_of e.config (state_of e) event ≡ None =
    free_shown e c.self.inside.first c.self.inside.journal.items c.args.seat event c.self.invariant
    (c.in-None.ensures ∙ sym (ap (λ (w : Shown). refusal_at w c.args.seat event) c.self.view_is)) in
    let place : c.len-place.result ≡ length c.self.inside.journal.items = c.len-place.ensures ∙ c.reserve.new.self.ok.0 ∙ ap length c.reserve.ensures.items in
    reply_shown e c.deliver_read.new.self c.self.inside.first c.self.inside.journal.items event c.in-Ok.reply c.self.invariant free
    (c.in-Ok.ensures.ok ∙ ap (λ n. after e.config n (state_of e) event) place)
    ∙ ap (λ (w : Shown). reply w.config w.first (history w) event) c.self.view_is
