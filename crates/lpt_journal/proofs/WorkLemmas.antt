-- No job is committed or executed outside the boot in which it was released.
use Rattle.std.proofs.Common.{◌≡◌, ◌∙◌, ap, sym, subst, refl, ℕ, zero, suc, ◌≤◌, ◌==◌, nat_lt, Bool, true, false, ◌&&◌, ◌||◌, if◌then◌else◌, List, [], ◌∷◌, length, Some, None, arith}
use Rattle.std.specs.List.{slice_get}
use Rattle.std.proofs.lemmas.Bool.Decides.{nat_tests}
use Rattle.lpt_memory.specs.Memories.{Contents}
use Rattle.lpt_memory.specs.Readings.{Job}
use Rattle.lpt_events.specs.Workers.{same_worker}
use Rattle.lpt_events.specs.declared.config.Config.{Config}
use Rattle.lpt_events.specs.declared.entry.Release.{Release}
use Rattle.lpt_acts.specs.Acts.{Execute, Act, Commit, Apply}
use Rattle.lpt_events.specs.declared.side.Side.TheVariants.{Craft}
use Rattle.lpt_events.specs.declared.worker.Worker.{Worker}
use Rattle.lpt_events.specs.declared.worker.Worker.TheVariants.{W1, W2}
use Rattle.lpt_journal.specs.Jobs.{boot, jobs_applied, ticket, is_committed, front_job, executed_by}
use Rattle.lpt_journal.specs.Journal.{Recorded, History}
use Rattle.lpt_journal.specs.Legal.{Legal}
use Rattle.lpt_journal.specs.Link.{sent, damages, is_damaged}
use Rattle.lpt_journal.specs.Refusals.{refusal}
use Rattle.lpt_journal.specs.Replies.{committed_now, entry, history_after}
use Rattle.lpt_journal.specs.Work.{commit_answer, IsSameBut, IsCommit, CommitsAreOfTheirBoot, WasOfThisBoot, ExecutionsAreOfTheirBoot, WorkIsOfItsBoot}
use Rattle.lpt_journal.proofs.BootLemmas.{job_boot}
use Rattle.lpt_journal.proofs.CommitLemmas.{commit_is, committed_then}
use Rattle.lpt_journal.proofs.NewJobs.{new_executed}
use Rattle.lpt_journal.proofs.TestLemmas.{no_place}
use Rattle.lpt_journal.proofs.TicketLemmas.{JobsAreSound, longer}
use Rattle.lpt_journal.proofs.TicketSteps.{commits_one, ready_to_apply, jobs_sound}
use Rattle.lpt_packet.proofs.BoolLemmas.{and_false, not_true}

-- ---- commits

same_worker-refl : (w : Worker) → same_worker w w ≡ true
same_worker-refl W1 = refl
same_worker-refl W2 = refl

-- a packet that wasn't put was not damaged
not_damaged : (h : History) (n : ℕ) → length (sent h) ≤ n → is_damaged h n ≡ false
not_damaged [] n late = refl
not_damaged (x ∷ h) n late =
    let more = longer (sent h) x.puts in
    let old : nat_lt n (length (sent h)) ≡ false = grind (arith, nat_tests, more, late) in
    let new : nat_lt n (length (sent (x ∷ h))) ≡ false = grind (arith, nat_tests, late) in
    ap (λ b. if b then is_damaged h n else damages x.event && nat_lt n (length (sent (x ∷ h)))) old
    ∙ ap (λ b. damages x.event && b) new
    ∙ and_false (damages x.event)

-- what puts nothing damages nothing
undamaged : (h : History) (n : ℕ)
    → (if nat_lt n (length (sent h)) then is_damaged h n else false) ≡ is_damaged h n
undamaged h n = go (nat_lt n (length (sent h))) refl where
  go : (b : Bool)
      → nat_lt n (length (sent h)) ≡ b
      → (if b then is_damaged h n else false) ≡ is_damaged h n
  go true put = refl
  go false put =
      let late : length (sent h) ≤ n = grind (arith, nat_tests, put) in
      sym (not_damaged h n late)

-- a commit of a job of an earlier boot changes only that the worker has no job any more
stale_same : (c : Config) (first : Contents) (h : History) (w : Worker) (t : Job)
    → ticket c h w ≡ Some t
    → (t.boot == boot h Craft) ≡ false
    → IsSameBut c first w (entry c first h (Commit w) ∷ h) h
stale_same c first h w t had earlier = record {
  gone = ap (λ b. if b then None else ticket c h w) (same_worker-refl w);
  tickets = λ v other. ap (λ b. if b then None else ticket c h v) other;
  committed = λ job.
      committed_then c first h w t job had
      ∙ ap (λ b. (b && t.job == job) || is_committed h job) earlier;
  jobs = refl;
  claimed = refl;
  applied = refl;
  executed = refl;
  left = refl;
  memories = refl;
  boots = λ side. refl;
  sent = refl;
  tags = refl;
  held = λ n. refl;
  damaged = undamaged h;
  hands = λ l. refl;
  opened = refl;
  current = λ d name. refl;
  senders = λ d name. refl;
  made = λ d. refl;
  heard = λ d name. refl;
  receptions = λ d. refl;
  closed = λ d name. refl;
  ticks = λ d name. refl;
  clocks = λ side. refl;
  limited = λ side. refl;
  released = refl;
}

-- each commit is of the job that the worker claimed last
commit_holds : (c : Config) (first : Contents) (h : History) (w : Worker)
    → JobsAreSound c h
    → refusal c h (Commit w) ≡ None
    → IsCommit c first (entry c first h (Commit w)) h w
commit_holds c first h w sound can =
    let it = commits_one c h w can in
    let had = sound.tickets w it.0 it.1 in
    record {
      job = it.0;
      was_claimed = it.1;
      answers =
          ap (committed_now (boot h Craft)) it.1 ∙ commit_is (boot h Craft) it.0
          ∙ ap (λ b. commit_answer b it.0) (sym had.restarted);
      stale = λ since.
          stale_same c first h w it.0 it.1
          (not_true (it.0.boot == boot h Craft) (sym had.restarted ∙ since));
    }

commits_hold : (c : Config) (first : Contents) (es : List Act)
    → Legal c first es
    → CommitsAreOfTheirBoot c first (history_after c first es)
commits_hold c first [] legal k x w f is = absurd (no_place k x f)
commits_hold c first (e ∷ es) legal zero x w f is =
    let h = history_after c first es in
    let same : entry c first h e ≡ x = cc in
    let event : e ≡ Commit w = ap (λ (y : Recorded). y.event) same ∙ is in
    subst (λ y. IsCommit c first y h w) (ap (entry c first h) (sym event) ∙ same)
    (commit_holds c first h w (jobs_sound c first es legal.0)
    (ap (refusal c h) (sym event) ∙ legal.1.accepted))
commits_hold c first (e ∷ es) legal (suc k) x w f is = commits_hold c first es legal.0 k x w f is

-- ---- executions

-- what is executed was released and committed in the present boot
execution_holds : (c : Config) (first : Contents) (h : History) (e : Act) (r : Release)
    → refusal c h e ≡ None
    → executed_by c (entry c first h e) h ≡ r ∷ []
    → WasOfThisBoot h r
execution_holds c first h (Apply Execute) r can is =
    let it = new_executed (Apply Execute) (front_job c h) 0 r (ap (λ rs. slice_get rs 0) is) in
    record {
      released = job_boot c h (jobs_applied h) r it.2;
      committed = ready_to_apply c h Execute can;
    }
execution_holds c first h e r can is = absurd cc

executions_hold : (c : Config) (first : Contents) (es : List Act)
    → Legal c first es
    → ExecutionsAreOfTheirBoot c (history_after c first es)
executions_hold c first [] legal k x r f is = absurd (no_place k x f)
executions_hold c first (e ∷ es) legal zero x r f is =
    let h = history_after c first es in
    let same : entry c first h e ≡ x = cc in
    execution_holds c first h e r legal.1.accepted
    (ap (λ (y : Recorded). executed_by c y h) same ∙ is)
executions_hold c first (e ∷ es) legal (suc k) x r f is =
    executions_hold c first es legal.0 k x r f is

-- no job is committed or executed outside its boot
pub work_is_of_its_boot : WorkIsOfItsBoot
work_is_of_its_boot c first es good legal = record {
  commits = commits_hold c first es legal;
  executions = executions_hold c first es legal;
}
