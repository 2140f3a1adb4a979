-- The events and the jobs of a journal that is told.
use Rattle.std.proofs.Common.{arith, ◌≡◌, ◌∙◌, ap, refl, ◌+◌, ◌≤◌, ℕ, suc, Bool, true, false, if◌then◌else◌, List, [], ◌∷◌, ◌++◌, length, map, reverse, drop, slice_get, Some}
use Rattle.std.proofs.lemmas.List.{reverse-append, length-append, length-reverse, length-map, length-drop, map-append}
use Rattle.lpt_memory.specs.Memories.{Contents}
use Rattle.lpt_jobs.specs.declared.job.Job.{Job as QueuedJob}
use Rattle.lpt_jobs.specs.Jobs.{jobs_numbered}
use Rattle.lpt_events.specs.declared.config.Config.{Config}
use Rattle.lpt_events.specs.declared.entry.Entry.{Entry}
use Rattle.lpt_events.specs.declared.entry.Release.{Release}
use Rattle.lpt_events.specs.Configs.{IsConfig}
use Rattle.lpt_acts.specs.Acts.{Act, act_of}
use Rattle.lpt_events.specs.declared.side.Side.{Side}
use Rattle.lpt_events.specs.declared.side.Side.TheVariants.{Ground, Craft}
use Rattle.lpt_journal.specs.Jobs.{jobs, ticket}
use Rattle.lpt_journal.specs.Journal.{History, with_all}
use Rattle.lpt_journal.specs.Releases.{released_by}
use Rattle.lpt_journal.specs.Replies.{history_after}
use Rattle.lpt_journal.specs.Senders.{restarts}
use Rattle.lpt_journal.proofs.BootLemmas.{boot_few}
use Rattle.lpt_journal.proofs.HeadlineLemmas.{every}
use Rattle.lpt_journal.proofs.NewJobs.{came_up, new_job}
use Rattle.lpt_journal.proofs.TicketSteps.{jobs_sound}
use Rattle.lpt_refinement.specs.Shows.{Shows, JobsFit, jobs_from}
use Rattle.lpt_refinement.specs.GoesOn.{Fits}
use Rattle.lpt_model.specs.State.{State, end_of}
use Rattle.lpt_refinement.specs.Views.{jobs_view, views}
use Rattle.lpt_world.specs.Worlds.{IsTold, events_of, history_of}

-- ---- journals

-- the events of a journal as acts, the oldest first
abbrev events : List Entry → List Act
events j = map (λ (y : Entry). act_of y.event) j

-- the events of a journal with an entry behind it
pub events_of-push : (j : List Entry) (x : Entry)
    → events_of (j ++ x ∷ []) ≡ act_of x.event ∷ events_of j
events_of-push j x =
    ap reverse (map-append (λ (y : Entry). act_of y.event) j (x ∷ []))
    ∙ reverse-append (events j) (act_of x.event ∷ [])

length-recorded : (c : Config) (first : Contents) (es : List Act)
    → length (history_after c first es)
    ≡ length es
length-recorded c first [] = refl
length-recorded c first (e ∷ es) = ap (λ n. suc n) (length-recorded c first es)

-- a history has as many events as its journal has entries
pub length-history_of : (c : Config) (first : Contents) (j : List Entry)
    → length (history_of c first j) ≡ length j
length-history_of c first j =
    length-recorded c first (events_of j)
    ∙ length-reverse (events j)
    ∙ length-map j (λ (y : Entry). act_of y.event)

-- ---- jobs

-- the jobs of a journal that is told fit
pub jobs_fit : (c : Config) (first : Contents) (j : List Entry)
    → IsTold c first j
    → JobsFit (jobs_view c first (history_of c first j)) (ticket c (history_of c first j))
jobs_fit c first j told =
    let h = history_of c first j in
    let sound = jobs_sound c first (events_of j) told.legal in
    record {
      executed = sound.applied_fits;
      claimed =
          omega (arith, sound.claimed_fits, length-map (jobs c h) (λ (r : Release). r.message));
      committed = sound.committed;
      held = λ w t is same.
          let out = (sound.tickets w t is).out same in
          record {
            out = record {
              not_executed = out.waits;
              is_claimed = out.was_claimed;
              not_committed = out.uncommitted;
            };
            message = out.message;
          };
    }

-- a journal that is told fits, besides
pub fits : (c : Config) (first : Contents) (j : List Entry)
    → IsConfig c
    → IsTold c first j
    → Fits c first (history_of c first j)
fits c first j good told = record {
  jobs = jobs_fit c first j told;
  tags = (every c first (events_of j) good told.legal).0.names;
}

-- a list whose places are all the first has one element at most
one_at_most : {A : Type 0} (xs : List A)
    → ((k : ℕ) (x : A) → slice_get xs k ≡ Some x → k ≡ 0)
    → length xs ≤ 1
one_at_most [] only = omega arith
one_at_most (x ∷ []) only = omega arith
one_at_most (x ∷ y ∷ ys) only = absurd (omega (arith, only 1 y refl))

length-with_all : (xs ys : List Release) → length (with_all xs ys) ≡ length xs + length ys
length-with_all xs [] = omega arith
length-with_all xs (y ∷ ys) = length-append xs (y ∷ ys)

-- no more jobs come than events happen
jobs_few : (c : Config) (h : History) → length (jobs c h) ≤ length h
jobs_few c [] = omega arith
jobs_few c (x ∷ h) = go (restarts x.event Craft) (jobs_few c h)
  where
    new : List Release
    new = came_up (released_by c x h)

    go : (anew : Bool)
        → length (jobs c h) ≤ length h
        → length (if anew then [] else with_all (jobs c h) new) ≤ suc (length h)
    go true few = omega arith
    go false few =
        omega (
          arith,
          length-with_all (jobs c h) new,
          few,
          one_at_most new (λ k r e. (new_job c x h k r e).0),
        )

-- there are as many jobs as messages
pub length-jobs_from : (job : ℕ → List ℕ → QueuedJob) (n : ℕ) (ms : List (List ℕ))
    → length (jobs_from job n ms) ≡ length ms
length-jobs_from job n [] = refl
length-jobs_from job n (m ∷ ms) = ap (λ k. suc k) (length-jobs_from job (suc n) ms)

-- the spacecraft has numbered no more jobs than events have happened
pub numbered_few : (c : Config) (first : Contents) (s : State) (j : List Entry)
    → IsTold c first j
    → Shows s (views c first (history_of c first j))
    → jobs_numbered s.on_craft.jobs ≤ length j
numbered_few c first s j told shows =
    let h = history_of c first j in
    let v = jobs_view c first h in
    let fit = jobs_fit c first j told in
    omega (
      arith,
      shows.jobs.first,
      ap length shows.jobs.jobs,
      length-jobs_from (Rattle.lpt_refinement.specs.Shows.job_shown v) v.applied
          (drop v.applied v.messages),
      length-drop v.applied v.messages,
      fit.executed,
      fit.claimed,
      length-map (jobs c h) (λ (r : Release). r.message),
      jobs_few c h,
      length-history_of c first j,
    )

-- a node was restarted no more often than events have happened
pub boots_few : (c : Config) (first : Contents) (s : State) (j : List Entry) (side : Side)
    → Shows s (views c first (history_of c first j))
    → (end_of s side).boot ≤ length j
boots_few c first s j Ground shows =
    omega (
      arith,
      shows.ground.boot,
      boot_few (history_of c first j) Ground,
      length-history_of c first j,
    )
boots_few c first s j Craft shows =
    omega (
      arith,
      shows.craft.boot,
      boot_few (history_of c first j) Craft,
      length-history_of c first j,
    )
