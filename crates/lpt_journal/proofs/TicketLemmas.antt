-- What holds of jobs in every legal journal: how many are claimed and executed, and which the
-- workers have. It holds again after what changes no job.
use Rattle.std.proofs.Common.{◌≡◌, ◌∙◌, ap, sym, ℕ, ◌<◌, ◌≤◌, ◌==◌, true, false, not, List, [], ◌∷◌, length, map, Some, arith}
use Rattle.std.proofs.lemmas.List.{length-append}
use Rattle.std.specs.List.{slice_get}
use Rattle.lpt_memory.specs.Readings.{Job}
use Rattle.lpt_events.specs.Workers.{same_worker}
use Rattle.lpt_events.specs.declared.config.Config.{Config}
use Rattle.lpt_events.specs.declared.entry.Release.{Release}
use Rattle.lpt_events.specs.declared.side.Side.TheVariants.{Craft}
use Rattle.lpt_events.specs.declared.worker.Worker.{Worker}
use Rattle.lpt_journal.specs.Journal.{Recorded, History, with_all}
use Rattle.lpt_journal.specs.Jobs.{boot, jobs, jobs_claimed, jobs_applied, ticket, is_committed}
use Rattle.lpt_journal.specs.Work.{restarted_since}
use Rattle.lpt_journal.proofs.TestLemmas.{get-with_all, map-with_all}

-- ---- what holds

-- the messages of releases
abbrev pub messages_of : List Release → List (List ℕ)
messages_of rs = map (λ r. r.message) rs

-- the messages of the jobs, in their order
abbrev pub messages : Config → History → List (List ℕ)
messages c h = messages_of (jobs c h)

-- A worker's job of the present boot was claimed and has its message. It isn't executed, and its
-- reading wasn't handed in.
pub record IsOut (c : Config) (h : History) (t : Job) : Type 0 where
  pub waits : jobs_applied h ≤ t.job
  pub was_claimed : t.job < jobs_claimed h
  pub uncommitted : is_committed h t.job ≡ false
  pub message : slice_get (messages c h) t.job ≡ Some t.message

-- A worker's job is of the boot of its claim: the present one where the spacecraft wasn't
-- restarted since.
pub record IsTicket (c : Config) (h : History) (w : Worker) (t : Job) : Type 0 where
  pub boot_fits : t.boot ≤ boot h Craft
  pub restarted : restarted_since h w ≡ not (t.boot == boot h Craft)
  pub out : t.boot ≡ boot h Craft → IsOut c h t

-- The executed jobs were claimed, and the claimed ones are there. Only claimed jobs are committed,
-- and no two workers have the same.
pub record JobsAreSound (c : Config) (h : History) : Type 0 where
  pub applied_fits : jobs_applied h ≤ jobs_claimed h
  pub claimed_fits : jobs_claimed h ≤ length (jobs c h)
  pub committed : (n : ℕ) → is_committed h n ≡ true → n < jobs_claimed h
  pub tickets : (w : Worker) (t : Job) → ticket c h w ≡ Some t → IsTicket c h w t
  pub differ : (v w : Worker) (t u : Job)
      → same_worker v w ≡ false
      → ticket c h v ≡ Some t
      → ticket c h w ≡ Some u
      → t.boot ≡ u.boot
      → ¬ (t.job ≡ u.job)

-- ---- events that change no worker's job

-- the entry claims, commits and executes nothing, and drops no job
pub record IsJobless (c : Config) (h : History) (x : Recorded) : Type 0 where
  pub claims : jobs_claimed (x ∷ h) ≡ jobs_claimed h
  pub applies : jobs_applied (x ∷ h) ≡ jobs_applied h
  pub tickets : (w : Worker) → ticket c (x ∷ h) w ≡ ticket c h w
  pub commits : (n : ℕ) → is_committed (x ∷ h) n ≡ is_committed h n
  pub boots : boot (x ∷ h) Craft ≡ boot h Craft
  pub since : (w : Worker) → restarted_since (x ∷ h) w ≡ restarted_since h w
  pub released : List Release
  pub keeps : jobs c (x ∷ h) ≡ with_all (jobs c h) released

-- a list with others behind it is no shorter
pub longer : {A : Type 0} (xs ys : List A) → length xs ≤ length (with_all xs ys)
longer xs [] = omega arith
longer xs (y ∷ ys) = omega (arith, length-append xs (y ∷ ys))

-- a job keeps its message as others are released
message_stays : (rs more : List Release) (n : ℕ) (m : List ℕ)
    → slice_get (messages_of rs) n ≡ Some m
    → slice_get (messages_of (with_all rs more)) n ≡ Some m
message_stays rs more n m e =
    ap (λ ms. slice_get ms n) (map-with_all (λ (r : Release). r.message) rs more)
    ∙ get-with_all (messages_of rs) (messages_of more) n m e

-- it holds again after an entry that changes no job
pub jobless_step : (c : Config) (h : History) (x : Recorded)
    → IsJobless c h x
    → JobsAreSound c h
    → JobsAreSound c (x ∷ h)
jobless_step c h x same sound = record {
  applied_fits = omega (arith, same.claims, same.applies, sound.applied_fits);
  claimed_fits =
      omega (
        arith,
        same.claims,
        ap length same.keeps,
        longer (jobs c h) same.released,
        sound.claimed_fits,
      );
  committed = λ n e. omega (arith, same.claims, sound.committed n (sym (same.commits n) ∙ e));
  tickets = λ w t e.
      let had = sound.tickets w t (sym (same.tickets w) ∙ e) in
      record {
        boot_fits = omega (arith, same.boots, had.boot_fits);
        restarted =
            same.since w ∙ had.restarted ∙ ap (λ b. not (t.boot == b)) (sym same.boots);
        out = λ now.
            let out = had.out (now ∙ same.boots) in
            record {
              waits = omega (arith, same.applies, out.waits);
              was_claimed = omega (arith, same.claims, out.was_claimed);
              uncommitted = same.commits t.job ∙ out.uncommitted;
              message =
                  ap (λ rs. slice_get (messages_of rs) t.job) same.keeps
                  ∙ message_stays (jobs c h) same.released t.job t.message out.message;
            };
      };
  differ = λ v w t u apart e f.
      sound.differ v w t u apart (sym (same.tickets v) ∙ e) (sym (same.tickets w) ∙ f);
}
