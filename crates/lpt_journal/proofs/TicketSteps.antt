-- What holds of jobs holds again after a commit, an execution, a restart and every other event.
use Rattle.std.proofs.Common.{◌≡◌, ◌∙◌, ap, sym, refl, ℕ, ◌+◌, ◌<◌, ◌≤◌, ◌==◌, Bool, true, false, not, ◌&&◌, ◌||◌, if◌then◌else◌, inl, inr, List, [], ◌∷◌, Option, Some, None, arith}
use Rattle.std.proofs.lemmas.Bool.Decides.{eqb_tells}
use Rattle.std.specs.Option.{is_some}
use Rattle.lpt_memory.specs.Memories.{Contents}
use Rattle.lpt_memory.specs.Readings.{Job}
use Rattle.lpt_events.specs.Workers.{same_worker}
use Rattle.lpt_events.specs.declared.config.Config.{Config}
use Rattle.lpt_acts.specs.Acts.{Leaving, Act, Expire, Claim, Commit, Apply, Restart}
use Rattle.lpt_events.specs.declared.fault.StepFault.TheVariants.{HandEmpty, NoJob, NotReady}
use Rattle.lpt_events.specs.declared.side.Side.TheVariants.{Craft}
use Rattle.lpt_events.specs.declared.worker.Worker.{Worker}
use Rattle.lpt_packet.specs.declared.direction.Direction.{Direction}
use Rattle.lpt_packet.specs.Names.{Name}
use Rattle.lpt_packet.proofs.Readings.{eq_false, true_eq}
use Rattle.lpt_events.specs.Sides.{direction_to}
use Rattle.lpt_journal.specs.Due.{given_up}
use Rattle.lpt_journal.specs.Journal.{History}
use Rattle.lpt_journal.specs.Jobs.{boot, jobs_claimed, jobs_applied, ticket, commits, is_committed, front_job}
use Rattle.lpt_journal.specs.Legal.{Legal}
use Rattle.lpt_journal.specs.Refusals.{refusal}
use Rattle.lpt_journal.specs.Releases.{released_by}
use Rattle.lpt_journal.specs.Replies.{expired_now, entry, history_after}
use Rattle.lpt_journal.proofs.ClaimLemmas.{claim_step}
use Rattle.lpt_journal.proofs.CommitLemmas.{committed_then}
use Rattle.lpt_journal.proofs.NewJobs.{came_up}
use Rattle.lpt_journal.proofs.TestLemmas.{one_passes, two_pass}
use Rattle.lpt_packet.proofs.BoolLemmas.{and_left, and_right, not_false}
use Rattle.lpt_journal.proofs.TicketLemmas.{IsOut, IsTicket, JobsAreSound, jobless_step}

-- ---- commits

held_ticket : (o : Option Job) → not (is_some o) ≡ false → (t : Job) × (o ≡ Some t)
held_ticket None e = absurd cc
held_ticket (Some t) e = (t, refl)

-- the worker that commits has a job
pub commits_one : (c : Config) (h : History) (w : Worker)
    → refusal c h (Commit w) ≡ None
    → (t : Job) × (ticket c h w ≡ Some t)
commits_one c h w can =
    held_ticket (ticket c h w) (one_passes (not (is_some (ticket c h w))) HandEmpty can)

commit_step : (c : Config) (first : Contents) (h : History) (w : Worker)
    → refusal c h (Commit w) ≡ None
    → JobsAreSound c h
    → JobsAreSound c (entry c first h (Commit w) ∷ h)
commit_step c first h w can sound =
    let it = commits_one c h w can in
    record {
      applied_fits = sound.applied_fits;
      claimed_fits = sound.claimed_fits;
      committed = λ n e.
          was_claimed it.0 it.1 n (it.0.boot == boot h Craft && it.0.job == n) refl
          (sym (committed_then c first h w it.0 n it.1) ∙ e);
      tickets = λ v u e. has it.0 it.1 v u (same_worker w v) refl e;
      differ = λ v u a b apart e f.
          sound.differ v u a b apart (kept v a (same_worker w v) e) (kept u b (same_worker w u) f);
    }
  where
    was_claimed : (t : Job) → ticket c h w ≡ Some t → (n : ℕ) (b : Bool)
        → (t.boot == boot h Craft && t.job == n) ≡ b
        → (b || is_committed h n) ≡ true
        → n < jobs_claimed h
    was_claimed t had n true is e =
        let now : t.boot ≡ boot h Craft =
        true_eq t.boot (boot h Craft) (and_left (t.boot == boot h Craft) (t.job == n) is) in
        let same : t.job ≡ n = true_eq t.job n (and_right (t.boot == boot h Craft) (t.job == n) is) in
        omega (arith, ((sound.tickets w t had).out now).was_claimed)
    was_claimed t had n false is e = sound.committed n e

    kept : (v : Worker) (u : Job) (b : Bool)
        → ◌≡◌ {A = Option Job} (if b then None else ticket c h v) (Some u)
        → ticket c h v ≡ Some u
    kept v u true e = absurd cc
    kept v u false e = e

    -- another worker's job isn't the one that is committed
    another : (t u : Job)
        → (t.boot ≡ u.boot → ¬ (t.job ≡ u.job))
        → u.boot ≡ boot h Craft
        → (b : Bool)
        → (t.boot == boot h Craft) ≡ b
        → (b && t.job == u.job) ≡ false
    another t u apart now true is =
        eq_false t.job u.job (apart (true_eq t.boot (boot h Craft) is ∙ sym now))
    another t u apart now false is = refl

    has : (t : Job)
        → ticket c h w ≡ Some t
        → (v : Worker) (u : Job) (b : Bool)
        → same_worker w v ≡ b
        → ◌≡◌ {A = Option Job} (if b then None else ticket c h v) (Some u)
        → IsTicket c (entry c first h (Commit w) ∷ h) v u
    has t is v u true s e = absurd cc
    has t is v u false s e =
        let had = sound.tickets v u e in
        record {
          boot_fits = had.boot_fits;
          restarted = had.restarted;
          out = λ now.
              let out = had.out now in
              record {
                waits = out.waits;
                was_claimed = out.was_claimed;
                uncommitted =
                    committed_then c first h w t u.job is
                    ∙ (λ i. another t u (sound.differ w v t u s is e) now (t.boot == boot h Craft)
                    refl i || out.uncommitted i);
                message = out.message;
              };
        }

-- ---- executions

-- what leaves was committed
pub ready_to_apply : (c : Config) (h : History) (how : Leaving)
    → refusal c h (Apply how) ≡ None
    → is_committed h (jobs_applied h) ≡ true
ready_to_apply c h how can =
    let t =
    two_pass (not (is_some (front_job c h))) (not (is_committed h (jobs_applied h))) NoJob NotReady
    can
    in not_false (is_committed h (jobs_applied h)) t.1

apply_step : (c : Config) (first : Contents) (h : History) (how : Leaving)
    → refusal c h (Apply how) ≡ None
    → JobsAreSound c h
    → JobsAreSound c (entry c first h (Apply how) ∷ h)
apply_step c first h how can sound =
    let ready = ready_to_apply c h how can in
    record {
      applied_fits = omega (arith, sound.committed (jobs_applied h) ready);
      claimed_fits = sound.claimed_fits;
      committed = sound.committed;
      tickets = λ w u e.
          let had = sound.tickets w u e in
          record {
            boot_fits = had.boot_fits;
            restarted = had.restarted;
            out = λ now.
                let out = had.out now in
                record {
                  waits = later u out ready;
                  was_claimed = out.was_claimed;
                  uncommitted = out.uncommitted;
                  message = out.message;
                };
          };
      differ = sound.differ;
    }
  where
    later : (u : Job) → IsOut c h u → is_committed h (jobs_applied h) ≡ true → jobs_applied h + 1
        ≤ u.job
    later u out ready = elim (eqb_tells (jobs_applied h) u.job) [
      | inl t ↦ absurd (
          let yes : is_committed h u.job ≡ true = ap (is_committed h) (sym t.1) ∙ ready in
          let no : is_committed h u.job ≡ false = out.uncommitted in cc)
      | inr t ↦ omega (arith, out.waits)
    ]

-- ---- a restart of the spacecraft

restart_step : (c : Config) (first : Contents) (h : History)
    → JobsAreSound c h
    → JobsAreSound c (entry c first h (Restart Craft) ∷ h)
restart_step c first h sound = record {
  applied_fits = omega arith;
  claimed_fits = omega arith;
  committed = λ n e. absurd cc;
  tickets = λ w t e.
      let had = sound.tickets w t e in
      record {
        boot_fits = omega (arith, had.boot_fits);
        restarted =
            ap not (sym (eq_false t.boot (boot h Craft + 1) (λ e. omega (arith, had.boot_fits))));
        out = λ now. absurd (omega (arith, had.boot_fits));
      };
  differ = sound.differ;
}

-- ---- every journal

none_commits : (d : Direction) (o : Option Name) (n : ℕ) → commits (expired_now d o) n ≡ false
none_commits d None n = refl
none_commits d (Some name) n = refl

-- it holds again after an event that isn't refused
pub jobs_step : (c : Config) (first : Contents) (h : History) (e : Act)
    → refusal c h e ≡ None
    → JobsAreSound c h
    → JobsAreSound c (entry c first h e ∷ h)
jobs_step c first h (Claim w) can sound = claim_step c first h w can sound
jobs_step c first h (Commit w) can sound = commit_step c first h w can sound
jobs_step c first h (Apply how) can sound = apply_step c first h how can sound
jobs_step c first h (Restart Craft) can sound = restart_step c first h sound
jobs_step c first h (Expire side which) can sound =
    jobless_step c h (entry c first h (Expire side which)) (record {
      claims = refl;
      applies = refl;
      tickets = λ w. refl;
      commits = λ n. ap (λ b. b || is_committed h n)
          (none_commits (direction_to side) (given_up c h (direction_to side) which) n);
      boots = refl;
      since = λ w. refl;
      released = [];
      keeps = refl;
    }) sound
jobs_step c first h e can sound = jobless_step c h (entry c first h e) (record {
  claims = refl;
  applies = refl;
  tickets = λ w. refl;
  commits = λ n. refl;
  boots = refl;
  since = λ w. refl;
  released = came_up (released_by c (entry c first h e) h);
  keeps = refl;
}) sound

-- and before anything has happened
pub jobs_start : (c : Config) → JobsAreSound c []
jobs_start c = record {
  applied_fits = omega arith;
  claimed_fits = omega arith;
  committed = λ n e. absurd cc;
  tickets = λ w t e. absurd cc;
  differ = λ v w t u apart e f. absurd cc;
}

-- so it holds of every legal journal
pub jobs_sound : (c : Config) (first : Contents) (es : List Act)
    → Legal c first es
    → JobsAreSound c (history_after c first es)
jobs_sound c first [] legal = jobs_start c
jobs_sound c first (e ∷ es) legal =
    jobs_step c first (history_after c first es) e legal.1.accepted (jobs_sound c first es legal.0)
