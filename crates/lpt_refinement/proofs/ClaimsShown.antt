-- A worker claims a job: refusal, answer and the longer journal.
use Rattle.std.proofs.Common.{◌≡◌, ◌∙◌, ap, sym, subst, refl, ℕ, ◌<◌, nat_le, Bool, true, false, not, if◌then◌else◌, List, [], ◌∷◌, length, map, Option, Some, None, is_some, arith}
use Rattle.std.specs.Prelude.{slice_get}
use Rattle.std.specs.Option.{option_map}
use Rattle.std.proofs.lemmas.List.{length-map}
use Rattle.std.proofs.lemmas.Option.{slice_get-map}
use Rattle.lpt_events.specs.declared.config.Config.{Config}
use Rattle.lpt_events.specs.declared.entry.Release.{Release}
use Rattle.lpt_acts.specs.Acts.{Claim}
use Rattle.lpt_events.specs.declared.fault.StepFault.TheVariants.{HandFull, NoJob}
use Rattle.lpt_events.specs.declared.reply.Answer.TheVariants.{Claimed}
use Rattle.lpt_events.specs.declared.side.Side.TheVariants.{Craft}
use Rattle.lpt_events.specs.declared.worker.Worker.{Worker}
use Rattle.lpt_memory.specs.Memories.{Contents}
use Rattle.lpt_memory.specs.Readings.{Job as Ticket}
use Rattle.lpt_jobs.specs.Jobs.{oldest_unclaimed}
use Rattle.lpt_node.specs.Faults.{node_fault}
use Rattle.lpt_node.specs.Jobs.{refusal_claim_of, claimed_of, job_claimed as node_claimed}
use Rattle.lpt_node.specs.Nodes.{NodeData}
use Rattle.lpt_journal.specs.Journal.{History}
use Rattle.lpt_journal.specs.Jobs.{boot, jobs, jobs_claimed, job_given, ticket, is_committed}
use Rattle.lpt_journal.specs.Refusals.{refusal, first_fault}
use Rattle.lpt_journal.specs.Replies.{entry, reply}
use Rattle.lpt_journal.proofs.TestLemmas.{two_pass}
use Rattle.lpt_refinement.specs.Shows.{Shows, JobsFit}
use Rattle.lpt_model.specs.State.{State, refusal_of, refusal_claim_by, claimed_on, quiet}
use Rattle.lpt_model.specs.Tickets.{ticket_of}
use Rattle.lpt_refinement.specs.Views.{views, jobs_view}
use Rattle.lpt_refinement.proofs.Fields.{with_jobs, with_tickets}
use Rattle.lpt_refinement.proofs.WorkersShown.{unclaimed_shown, claim_shown}
use Rattle.lpt_refinement.proofs.QueueLemmas.{is_some-slice_get}
use Rattle.lpt_refinement.proofs.TicketsShown.{ticket_set}
use Rattle.lpt_packet.proofs.BoolLemmas.{some_is, is_some-map}

-- what is refused, by the ticket and the job that waits
claim_by : (d : NodeData) (t : Option Ticket)
    → refusal_claim_by d t
    ≡ (if is_some t then Some HandFull
    else option_map node_fault (refusal_claim_of (oldest_unclaimed d.jobs)))
claim_by d None = refl
claim_by d (Some t) = refl

claim_of : (u : Option (ℕ × List ℕ))
    → option_map node_fault (refusal_claim_of u) ≡ first_fault ((not (is_some u), NoJob) ∷ [])
claim_of None = refl
claim_of (Some u) = refl

not_not : (a : Bool) → not (not a) ≡ a
not_not true = refl
not_not false = refl

-- the journal's test, whether a job waits
waits : (c : Config) (first : Contents) (h : History)
    → is_some (slice_get (map (λ r. r.message) (jobs c h)) (jobs_claimed h))
    ≡ not (nat_le (length (jobs c h)) (jobs_claimed h))
waits c first h =
    is_some-slice_get (map (λ r. r.message) (jobs c h)) (jobs_claimed h)
    ∙ ap (λ n. not (nat_le n (jobs_claimed h))) (length-map (jobs c h) (λ r. r.message))

pub claim_refused : (c : Config) (first : Contents) (s : State) (h : History) (w : Worker)
    → Shows s (views c first h)
    → JobsFit (jobs_view c first h) (ticket c h)
    → refusal_of c s (Claim w) ≡ refusal c h (Claim w)
claim_refused c first s h w k fits =
    let none : not (is_some (oldest_unclaimed s.on_craft.jobs))
    ≡ nat_le (length (jobs c h)) (jobs_claimed h) =
    ap (λ u. not (is_some u)) (unclaimed_shown fits.executed fits.claimed k.jobs)
    ∙ ap not (is_some-map _ (slice_get (map (λ r. r.message) (jobs c h)) (jobs_claimed h))
    ∙ waits c first h)
    ∙ not_not (nat_le (length (jobs c h)) (jobs_claimed h)) in
    claim_by s.on_craft (ticket_of s.tickets w)
    ∙ ap (λ o. if is_some (ticket_of s.tickets w) then Some HandFull else o)
    (claim_of (oldest_unclaimed s.on_craft.jobs))
    ∙ (λ i. if is_some (k.tickets w i) then Some HandFull else first_fault ((none i, NoJob) ∷ []))

-- the job that is claimed next has no reading
not_yet : (c : Config) (first : Contents) (h : History)
    → JobsFit (jobs_view c first h) (ticket c h)
    → is_committed h (jobs_claimed h) ≡ false
not_yet c first h fits = go (is_committed h (jobs_claimed h)) refl where
  go : (t : Bool) → is_committed h (jobs_claimed h) ≡ t → t ≡ false
  go true e =
      let f : jobs_claimed h < jobs_claimed h = fits.committed (jobs_claimed h) e in
      absurd (omega arith)
  go false e = refl

-- the job that the journal gives
claimed_job : (c : Config) (first : Contents) (s : State) (h : History) (w : Worker)
    → Shows s (views c first h)
    → JobsFit (jobs_view c first h) (ticket c h)
    → refusal c h (Claim w) ≡ None
    → (r : Release)
    × (slice_get (jobs c h) (jobs_claimed h) ≡ Some r)
    × (oldest_unclaimed s.on_craft.jobs ≡ Some (jobs_claimed h, r.message))
claimed_job c first s h w k fits e =
    let free : nat_le (length (jobs c h)) (jobs_claimed h) ≡ false =
    (two_pass _ _ HandFull NoJob e).1 in
    let found = some_is (slice_get (jobs c h) (jobs_claimed h))
    (is_some-slice_get (jobs c h) (jobs_claimed h) ∙ ap not free) in (
      found.0,
      found.1,
      unclaimed_shown fits.executed fits.claimed k.jobs
          ∙ ap (option_map {U = ℕ × List ℕ} (λ m. (jobs_claimed h, m)))
          (slice_get-map (λ r. r.message) (jobs c h) (jobs_claimed h)
          ∙ ap (option_map (λ r. r.message)) found.1),
    )

pub claimed_answer : (c : Config) (first : Contents) (s : State) (h : History) (w : Worker)
    → Shows s (views c first h)
    → JobsFit (jobs_view c first h) (ticket c h)
    → refusal c h (Claim w) ≡ None
    → (claimed_on s w (node_claimed s.on_craft)).1 ≡ reply c first h (Claim w)
claimed_answer c first s h w k fits e =
    let job = claimed_job c first s h w k fits e in
    ap (λ u. (claimed_on s w (claimed_of s.on_craft u)).1) job.2
    ∙ ap (λ b. quiet (Claimed b (jobs_claimed h))) k.craft.boot

pub claimed_shown : (c : Config) (first : Contents) (s : State) (h : History) (w : Worker)
    → Shows s (views c first h)
    → JobsFit (jobs_view c first h) (ticket c h)
    → refusal c h (Claim w) ≡ None
    → Shows (claimed_on s w (node_claimed s.on_craft)).0
    (views c first (entry c first h (Claim w) ∷ h))
claimed_shown c first s h w k fits e =
    let job = claimed_job c first s h w k fits e in
    let named : ℕ → Release → Ticket =
    λ b r. record { boot = b; job = jobs_claimed h; message = r.message } in
    let given : Some (named s.on_craft.boot job.0) ≡ job_given c h =
    ap (λ b. Some (named b job.0)) k.craft.boot
    ∙ sym (ap (option_map (named (boot h Craft))) job.1) in
    subst (λ (u : Option (ℕ × List ℕ)). Shows (claimed_on s w (claimed_of s.on_craft u)).0
    (views c first (entry c first h (Claim w) ∷ h))) (sym job.2)
    (with_tickets
    (with_jobs k (claim_shown fits.executed fits.claimed (not_yet c first h fits) k.jobs) refl)
    (ticket_set w _ _ given k.tickets))
