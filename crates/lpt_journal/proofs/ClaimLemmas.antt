-- What holds of jobs holds again after a claim.
use Rattle.std.proofs.Common.{◌≡◌, ◌∙◌, ap, sym, refl, ◌<◌, nat_le, Bool, true, false, not, if◌then◌else◌, ◌∷◌, length, Option, Some, None, arith}
use Rattle.std.proofs.lemmas.Option.{slice_get-map}
use Rattle.std.specs.List.{slice_get}
use Rattle.std.specs.Option.{is_some, option_map}
use Rattle.lpt_memory.specs.Memories.{Contents}
use Rattle.lpt_memory.specs.Readings.{Job}
use Rattle.lpt_events.specs.Workers.{same_worker}
use Rattle.lpt_events.specs.declared.config.Config.{Config}
use Rattle.lpt_events.specs.declared.entry.Release.{Release}
use Rattle.lpt_acts.specs.Acts.{Claim}
use Rattle.lpt_events.specs.declared.fault.StepFault.TheVariants.{HandFull, NoJob}
use Rattle.lpt_events.specs.declared.side.Side.TheVariants.{Craft}
use Rattle.lpt_events.specs.declared.worker.Worker.{Worker}
use Rattle.lpt_events.specs.declared.worker.Worker.TheVariants.{W1, W2}
use Rattle.lpt_packet.proofs.Readings.{eq_true}
use Rattle.lpt_journal.specs.Journal.{History}
use Rattle.lpt_journal.specs.Jobs.{boot, jobs, jobs_claimed, job_given, ticket, is_committed}
use Rattle.lpt_journal.specs.Refusals.{refusal}
use Rattle.lpt_journal.specs.Replies.{entry}
use Rattle.lpt_journal.specs.Work.{restarted_since}
use Rattle.lpt_journal.proofs.TestLemmas.{le_false, two_pass}
use Rattle.lpt_journal.proofs.TicketLemmas.{messages, IsTicket, JobsAreSound}

-- of two workers that are the same as a third, none is another
third_same : (w v u : Worker)
    → same_worker w v ≡ true
    → same_worker w u ≡ true
    → same_worker v u ≡ false
    → ⊥
third_same W1 W1 W1 e f g = cc
third_same W1 W1 W2 e f g = cc
third_same W1 W2 u e f g = cc
third_same W2 W1 u e f g = cc
third_same W2 W2 W1 e f g = cc
third_same W2 W2 W2 e f g = cc

not_committed : (c : Config) (h : History)
    → JobsAreSound c h
    → is_committed h (jobs_claimed h) ≡ false
not_committed c h sound = go (is_committed h (jobs_claimed h)) refl where
  go : (b : Bool) → is_committed h (jobs_claimed h) ≡ b → b ≡ false
  go true e = absurd (omega (arith, sound.committed (jobs_claimed h) e))
  go false e = refl

-- the job that is given to a worker is the oldest that wasn't claimed, and of this boot
record IsGiven (c : Config) (h : History) (t : Job) : Type 0 where
  boot_now : t.boot ≡ boot h Craft
  is_next : t.job ≡ jobs_claimed h
  message : slice_get (messages c h) (jobs_claimed h) ≡ Some t.message

given : (c : Config) (h : History) (t : Job) → job_given c h ≡ Some t → IsGiven c h t
given c h t e = go (slice_get (jobs c h) (jobs_claimed h)) refl e where
  go : (o : Option Release)
      → slice_get (jobs c h) (jobs_claimed h) ≡ o
      → option_map (λ r. record { boot = boot h Craft; job = jobs_claimed h; message = r.message })
      o
      ≡ Some t
      → IsGiven c h t
  go None is k = absurd cc
  go (Some r) is k =
      let same : record { boot = boot h Craft; job = jobs_claimed h; message = r.message }
      ≡ t = cc in
      record {
        boot_now = ap (λ (j : Job). j.boot) (sym same);
        is_next = ap (λ (j : Job). j.job) (sym same);
        message =
            slice_get-map (λ (r : Release). r.message) (jobs c h) (jobs_claimed h)
            ∙ ap (option_map (λ (r : Release). r.message)) is
            ∙ ap (λ (j : Job). Some j.message) same;
      }

-- so it does after a claim
pub claim_step : (c : Config) (first : Contents) (h : History) (w : Worker)
    → refusal c h (Claim w) ≡ None
    → JobsAreSound c h
    → JobsAreSound c (entry c first h (Claim w) ∷ h)
claim_step c first h w can sound =
    let t =
    two_pass (is_some (ticket c h w)) (nat_le (length (jobs c h)) (jobs_claimed h)) HandFull NoJob
    can in
    let more : jobs_claimed h < length (jobs c h) =
    le_false (length (jobs c h)) (jobs_claimed h) t.1 in
    record {
      applied_fits = omega (arith, sound.applied_fits);
      claimed_fits = omega (arith, more);
      committed = λ n e. omega (arith, sound.committed n e);
      tickets = λ v u e. has v u (same_worker w v) refl e;
      differ = λ v u a b apart e f.
          apart_still v u a b apart (same_worker w v) (same_worker w u) refl refl e f;
    }
  where
    has : (v : Worker) (u : Job) (b : Bool)
        → same_worker w v ≡ b
        → ◌≡◌ {A = Option Job} (if b then job_given c h else ticket c h v) (Some u)
        → IsTicket c (entry c first h (Claim w) ∷ h) v u
    has v u true s e =
        let it = given c h u e in
        record {
          boot_fits = omega (arith, it.boot_now);
          restarted =
              ap (λ b. if b then false else restarted_since h v) s
              ∙ ap not (sym (eq_true u.boot (boot h Craft) it.boot_now));
          out = λ now. record {
            waits = omega (arith, it.is_next, sound.applied_fits);
            was_claimed = omega (arith, it.is_next);
            uncommitted = ap (is_committed h) it.is_next ∙ not_committed c h sound;
            message = ap (slice_get (messages c h)) it.is_next ∙ it.message;
          };
        }
    has v u false s e =
        let had = sound.tickets v u e in
        record {
          boot_fits = had.boot_fits;
          restarted = ap (λ b. if b then false else restarted_since h v) s ∙ had.restarted;
          out = λ now.
              let out = had.out now in
              record {
                waits = out.waits;
                was_claimed = omega (arith, out.was_claimed);
                uncommitted = out.uncommitted;
                message = out.message;
              };
        }

    -- a job that another worker has isn't the one that is given
    others : (v : Worker) (t u : Job)
        → job_given c h ≡ Some t
        → ticket c h v ≡ Some u
        → t.boot ≡ u.boot
        → ¬ (t.job ≡ u.job)
    others v t u e f now same =
        let it = given c h t e in
        let out = (sound.tickets v u f).out (sym now ∙ it.boot_now) in
        omega (arith, out.was_claimed, it.is_next)

    apart_still : (v u : Worker) (a b : Job)
        → same_worker v u ≡ false
        → (s t : Bool)
        → same_worker w v ≡ s
        → same_worker w u ≡ t
        → ◌≡◌ {A = Option Job} (if s then job_given c h else ticket c h v) (Some a)
        → ◌≡◌ {A = Option Job} (if t then job_given c h else ticket c h u) (Some b)
        → a.boot ≡ b.boot
        → ¬ (a.job ≡ b.job)
    apart_still v u a b apart true true s t e f now same = third_same w v u s t apart
    apart_still v u a b apart true false s t e f now same = others u a b e f now same
    apart_still v u a b apart false true s t e f now same =
        others v b a f e (sym now) (sym same)
    apart_still v u a b apart false false s t e f now same = sound.differ v u a b apart e f now same
