-- The ticket is that of the job that the journal gives next.
use Rattle.std.proofs.Common.{◌≡◌, ◌∙◌, ap, sym, Some}
use Rattle.std.specs.Option.{option_map}
use Rattle.lpt_events.specs.declared.event.Event.TheVariants.{Claim}
use Rattle.lpt_jobs.specs.Jobs.{oldest_unclaimed}
use Rattle.lpt_model.specs.Tickets.{ticket_of}
use Rattle.lpt_system.specs.SystemInside.{state_of}
use Rattle.lpt_journal.specs.Jobs.{job_given}
use Rattle.lpt_world.specs.Worlds.{Shown, history, history_of, refusal_at}
use Rattle.lpt_world.proofs.WaitingLemmas.{named, next_shown, not_none, one_waits}
use Rattle.lpt_world.proofs.LegalLemmas.{jobs_fit}
use Rattle.lpt_world.proofs.WorldLemmas.{free_shown}
use Rattle.lpt_world.proofs.world.World.next_ticket.Goals as goal

pub unreachable-requires : goal.unreachable-requires
unreachable-requires c =
    let e = c.self.inside.system in
    let event = Claim c.args.worker in
    not_none (oldest_unclaimed e.on_craft.at.jobs)
    (one_waits e.on_craft.at (ticket_of (state_of e).tickets c.args.worker)
    (free_shown e c.self.inside.first c.self.inside.journal.items c.args.seat event c.self.invariant
    (sym (ap (λ (w : Shown). refusal_at w c.args.seat event) c.self.view_is ∙ c.requires))))
    c.in_default.ensures

pub returns : goal.returns
returns c =
    let e = c.self.inside.system in
    let first = c.self.inside.first in
    let j = c.self.inside.journal.items in
    let made : c.new.result ≡ named e.on_craft.at.boot (c.in-Some.job, c.in-Some.message.now) =
    c.new.ensures
    ∙ (λ i. record { boot = c.boot.ensures i; job = c.in-Some.job; message = c.in_ok-copy.ensures i }) in
    sym (ap (λ t. Some t) made
    ∙ ap (option_map (named e.on_craft.at.boot)) c.in-Some.ensures
    ∙ next_shown e.config first (state_of e) (history_of e.config first j)
    c.self.invariant.shows (jobs_fit e.config first j c.self.invariant.told)
    ∙ ap (λ (w : Shown). job_given w.config (history w)) c.self.view_is)
