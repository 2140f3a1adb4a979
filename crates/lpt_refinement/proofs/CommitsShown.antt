-- A worker hands its reading in: refusal, answer and the longer journal.
use Rattle.std.proofs.Common.{◌≡◌, ◌∙◌, ap, sym, subst, refl, ℕ, ◌==◌, Bool, true, false, not, ◌||◌, if◌then◌else◌, IsTrue, IfSome, [], ◌∷◌, Option, Some, None, is_some}
use Rattle.lpt_packet.proofs.Readings.{true_eq}
use Rattle.lpt_events.specs.declared.config.Config.{Config}
use Rattle.lpt_acts.specs.Acts.{Commit}
use Rattle.lpt_events.specs.declared.fault.StepFault.TheVariants.{HandEmpty}
use Rattle.lpt_events.specs.declared.reply.Answer.{Answer}
use Rattle.lpt_events.specs.declared.reply.Answer.TheVariants.{Committed, Stale}
use Rattle.lpt_events.specs.declared.side.Side.TheVariants.{Craft}
use Rattle.lpt_events.specs.declared.worker.Worker.{Worker}
use Rattle.lpt_events.specs.Workers.{same_worker}
use Rattle.lpt_memory.specs.Memories.{Contents, sizes_of}
use Rattle.lpt_memory.specs.Meanings.{Sizes}
use Rattle.lpt_memory.specs.Readings.{Job, Source}
use Rattle.lpt_jobs.specs.Jobs.{is_claimed, after_commit}
use Rattle.lpt_node.specs.Nodes.{NodeData}
use Rattle.lpt_journal.specs.Journal.{History}
use Rattle.lpt_journal.specs.Jobs.{boot, ticket, is_committed, commits}
use Rattle.lpt_journal.specs.Refusals.{refusal, first_fault}
use Rattle.lpt_journal.specs.Replies.{entry, reply, committed_now}
use Rattle.lpt_journal.proofs.TestLemmas.{one_passes}
use Rattle.lpt_packet.proofs.BoolLemmas.{not_false}
use Rattle.lpt_refinement.specs.Shows.{Shows, JobsFit}
use Rattle.lpt_model.specs.State.{State, IsReady, refusal_of, refusal_commit_of, commit_told, handed_in, committed_on, read_for, quiet}
use Rattle.lpt_model.specs.Tickets.{ticket_of}
use Rattle.lpt_refinement.specs.Views.{Views, views, jobs_view}
use Rattle.lpt_refinement.proofs.Fields.{with_jobs, with_tickets}
use Rattle.lpt_refinement.proofs.WorkersShown.{commit_shown, is_out_shown}
use Rattle.lpt_refinement.proofs.TicketsShown.{ticket_set}

commit_by : (t : Option Job)
    → refusal_commit_of t ≡ first_fault ((not (is_some t), HandEmpty) ∷ [])
commit_by None = refl
commit_by (Some t) = refl

pub commit_refused : (c : Config) (first : Contents) (s : State) (h : History) (w : Worker)
    → Shows s (views c first h)
    → refusal_of c s (Commit w) ≡ refusal c h (Commit w)
commit_refused c first s h w k =
    commit_by (ticket_of s.tickets w)
    ∙ ap (λ t. first_fault ((not (is_some t), HandEmpty) ∷ [])) (k.tickets w)

-- the spacecraft with the reading of a job
abbrev with_reading : State → Job → Source → NodeData
with_reading s x r = record s.on_craft { jobs = after_commit s.on_craft.jobs x.job r }

pub commit_ready : (c : Config) (first : Contents) (s : State) (h : History) (w : Worker)
    → Shows s (views c first h)
    → JobsFit (jobs_view c first h) (ticket c h)
    → IsReady c s (Commit w)
commit_ready c first s h w k fits = go (ticket_of s.tickets w) refl where
  go : (t : Option Job)
      → ticket_of s.tickets w ≡ t
      → IfSome t (λ x. x.boot ≡ s.on_craft.boot → IsTrue (is_claimed s.on_craft.jobs x.job))
  go None e = tt
  go (Some x) e = λ now.
      let job = fits.held w x (sym (k.tickets w) ∙ e) (now ∙ k.craft.boot) in
      is_out_shown x.job x.message job.out job.message k.jobs

-- the answer, by whether the job is of the present boot
abbrev told : Job → Bool → Answer
told x now = if now then Committed x.boot x.job else Stale x.boot x.job

told_by : (s : State) (x : Job) (r : Source) (now : Bool)
    → commit_told
    (if◌then◌else◌ {A = NodeData × Bool} now (with_reading s x r, true) (s.on_craft, false)).1 x
    ≡ told x now
told_by s x r true = refl
told_by s x r false = refl

pub committed_answer : (c : Config) (first : Contents) (s : State) (h : History) (w : Worker)
    → Shows s (views c first h)
    → (committed_on c s w (ticket_of s.tickets w)).1 ≡ reply c first h (Commit w)
committed_answer c first s h w k =
    go (ticket_of s.tickets w)
    ∙ (λ i. quiet (committed_now (k.craft.boot i) (k.tickets w i))) where
      go : (t : Option Job)
          → (committed_on c s w t).1 ≡ quiet (committed_now s.on_craft.boot t)
      go None = refl
      go (Some x) = ap quiet (told_by s x (read_for c s x) (x.boot == s.on_craft.boot))

-- the view after a worker's commit with this answer
abbrev commit_view : Config → Contents → History → Worker → Answer → Views
commit_view c first h w a = record (views c first h) {
  jobs = record (jobs_view c first h) { committed = λ j. commits a j || is_committed h j };
  tickets = λ v. if same_worker w v then None else ticket c h v;
}

-- the state after it, where the reading was made for these sizes, by whether the job is of the
-- present boot
abbrev commit_state : Config → State → Worker → Job → Sizes → Bool → State
commit_state c s w x ss now =
    let r : Source = record { apid = c.apid; sizes = ss; message = x.message } in
    (handed_in s w x (if now then (with_reading s x r, true) else (s.on_craft, false))).0

pub committed_shown : (c : Config) (first : Contents) (s : State) (h : History) (w : Worker)
    → Shows s (views c first h)
    → JobsFit (jobs_view c first h) (ticket c h)
    → refusal c h (Commit w) ≡ None
    → Shows (committed_on c s w (ticket_of s.tickets w)).0
    (views c first (entry c first h (Commit w) ∷ h))
committed_shown c first s h w k fits e =
    subst (λ (o : Option Job). Shows (committed_on c s w o).0
    (views c first (entry c first h (Commit w) ∷ h))) (sym (k.tickets w))
    (go (ticket c h w) refl (not_false (is_some (ticket c h w)) (one_passes _ HandEmpty e))) where
      -- the worker has handed the reading in, which counts in the present boot alone
      by : (x : Job) (now : Bool)
          → ticket c h w ≡ Some x
          → (x.boot == boot h Craft) ≡ now
          → Shows (commit_state c s w x (sizes_of first) now) (commit_view c first h w (told x now))
      by x true a present =
          let job = fits.held w x a (true_eq x.boot (boot h Craft) present) in
          with_tickets (with_jobs k (commit_shown x.job x.message job.out job.message k.jobs) refl)
          (ticket_set w None None refl k.tickets)
      by x false a earlier = with_tickets k (ticket_set w None None refl k.tickets)

      go : (o : Option Job)
          → ticket c h w ≡ o
          → is_some o ≡ true
          → Shows (committed_on c s w o).0 (commit_view c first h w (committed_now (boot h Craft) o))
      go None a some = absurd cc
      go (Some x) a some =
          let sizes : sizes_of first ≡ sizes_of s.memories = sym (ap sizes_of k.memories ∙ k.sizes) in
          subst (λ (b : ℕ).
          Shows (commit_state c s w x (sizes_of s.memories) (x.boot == b))
          (commit_view c first h w (told x (x.boot == boot h Craft)))) (sym k.craft.boot)
          (subst (λ (ss : Sizes).
          Shows (commit_state c s w x ss (x.boot == boot h Craft))
          (commit_view c first h w (told x (x.boot == boot h Craft)))) sizes
          (by x (x.boot == boot h Craft) a refl))
