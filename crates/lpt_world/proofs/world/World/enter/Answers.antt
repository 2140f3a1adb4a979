-- An event that isn't refused is done, and the longer journal is shown.
use Rattle.std.proofs.Common.{arith, ◌≡◌, ◌∙◌, ap, sym, length, None}
use Rattle.lpt_system.specs.SystemInside.{state_of}
use Rattle.lpt_journal.specs.Events.{reply}
use Rattle.lpt_model.specs.Events.{refusal_of, after}
use Rattle.lpt_world.specs.Worlds.{Shown, refusal_at, history}
use Rattle.lpt_world.proofs.LegalLemmas.{numbered_few, boots_few}
use Rattle.lpt_world.proofs.WorldLemmas.{free_shown, ready_shown, seat_there, shown_push, reply_shown}
use Rattle.lpt_world.proofs.world.World.enter.Goals as goal

pub apply-requires-clause-free : goal.apply-requires-clause-free
apply-requires-clause-free c =
    free_shown c.self.inside.system c.self.inside.first c.self.inside.journal.items c.args.seat c.args.event c.self.invariant
    (sym c.requires ∙ sym (ap (λ (w : Shown). refusal_at w c.args.seat c.args.event) c.self.view_is))

pub apply-requires-clause-ready : goal.apply-requires-clause-ready
apply-requires-clause-ready c =
    ready_shown c.self.inside.system c.self.inside.first c.self.inside.journal.items c.args.event c.self.invariant
    (apply-requires-clause-free c)

pub apply-requires-clause-numbers : goal.apply-requires-clause-numbers
apply-requires-clause-numbers c =
    omega (
      arith,
      numbered_few c.self.inside.system.config c.self.inside.first (state_of c.self.inside.system)
          c.self.inside.journal.items c.self.invariant.told c.self.invariant.shows,
    )

pub apply-requires-clause-boots : goal.apply-requires-clause-boots
apply-requires-clause-boots c side =
    omega (
      arith,
      boots_few c.self.inside.system.config c.self.inside.first (state_of c.self.inside.system)
          c.self.inside.journal.items side c.self.invariant.shows,
    )

pub invariant_of-self-in-Ok : goal.invariant_of-self-in-Ok
invariant_of-self-in-Ok c =
    let free : refusal_of c.self.inside.system.config (state_of c.self.inside.system) c.args.event ≡ None =
    free_shown c.self.inside.system c.self.inside.first c.self.inside.journal.items c.args.seat c.args.event c.self.invariant
    (sym c.requires ∙ sym (ap (λ (w : Shown). refusal_at w c.args.seat c.args.event) c.self.view_is)) in
    let place : c.len-place.result ≡ length c.self.inside.journal.items = c.len-place.ensures ∙ c.reserve.new.self.ok.0 ∙ ap length c.reserve.ensures.items in
    rw c.push_reserved.ensures.items (rw c.reserve.ensures.items
    (shown_push c.self.inside.system c.apply.new.self c.self.inside.first c.self.inside.journal.items _ c.self.invariant
    (seat_there c.args.seat _ (sym c.requires)) c.numbers_are_in_range.ensures free
    (c.in-Ok.ensures.ok ∙ ap (λ n. after c.self.inside.system.config n (state_of c.self.inside.system) c.args.event) place) c.in-Ok.ensures.config))

pub returns-in-Ok-clause-reply : goal.returns-in-Ok-clause-reply
returns-in-Ok-clause-reply c =
    let free : refusal_of c.self.inside.system.config (state_of c.self.inside.system) c.args.event ≡ None =
    free_shown c.self.inside.system c.self.inside.first c.self.inside.journal.items c.args.seat c.args.event c.self.invariant
    (sym c.requires ∙ sym (ap (λ (w : Shown). refusal_at w c.args.seat c.args.event) c.self.view_is)) in
    let place : c.len-place.result ≡ length c.self.inside.journal.items = c.len-place.ensures ∙ c.reserve.new.self.ok.0 ∙ ap length c.reserve.ensures.items in
    reply_shown c.self.inside.system c.apply.new.self c.self.inside.first c.self.inside.journal.items c.args.event c.in-Ok.reply c.self.invariant free
    (c.in-Ok.ensures.ok ∙ ap (λ n. after c.self.inside.system.config n (state_of c.self.inside.system) c.args.event) place)
    ∙ ap (λ (w : Shown). reply w.config w.first (history w) c.args.event) c.self.view_is
