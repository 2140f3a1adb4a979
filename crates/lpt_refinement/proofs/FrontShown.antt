-- The job at the front: whether it can leave, and what its reading was made for.
use Rattle.std.proofs.Common.{◌≡◌, ◌∙◌, ap, sym, subst, refl, ℕ, nat_lt, Bool, true, false, not, List, [], ◌∷◌, Option, Some, None, is_some}
use Rattle.std.specs.Option.{option_map}
use Rattle.std.proofs.lemmas.Option.{slice_get-map}
use Rattle.lpt_events.specs.declared.config.Config.{Config}
use Rattle.lpt_events.specs.declared.entry.Release.{Release}
use Rattle.lpt_acts.specs.Acts.{Leaving, Apply}
use Rattle.lpt_events.specs.declared.fault.StepFault.TheVariants.{NoJob, NotReady}
use Rattle.lpt_memory.specs.Memories.{Contents, sizes_of}
use Rattle.lpt_memory.specs.Readings.{Source}
use Rattle.lpt_jobs.specs.Jobs.{Head, NoJob as NoHead, NotReady as HeadNotReady, Ready, head_of}
use Rattle.lpt_node.specs.Faults.{node_fault}
use Rattle.lpt_node.specs.Jobs.{FrontIsFor, refusal_apply_of}
use Rattle.lpt_journal.specs.Journal.{History}
use Rattle.lpt_journal.specs.Jobs.{jobs, jobs_applied, ticket, is_committed, front_job}
use Rattle.lpt_journal.specs.Refusals.{refusal, first_fault}
use Rattle.lpt_refinement.specs.Shows.{Shows, JobsFit, job_shown}
use Rattle.lpt_model.specs.State.{State, IsReady, refusal_of}
use Rattle.lpt_refinement.specs.Views.{views, jobs_view}
use Rattle.lpt_refinement.proofs.JobsShown.{front_shown, job_is}
use Rattle.lpt_packet.proofs.BoolLemmas.{lt_true}
use Rattle.lpt_refinement.proofs.QueueLemmas.{head_from}

-- ---- the front

-- a message, and what it is read for
abbrev pub source : Config → Contents → List ℕ → Source
source c first m = record { apid = c.apid; sizes = sizes_of first; message = m }

-- what stands at the front, as the journal tells
abbrev head_told : Config → Contents → Option Release → Bool → Head
head_told c first None done = NoHead
head_told c first (Some r) true = Ready (source c first r.message)
head_told c first (Some r) false = HeadNotReady

head_shown : (c : Config) (first : Contents) (s : State) (h : History)
    → Shows s (views c first h)
    → JobsFit (jobs_view c first h) (ticket c h)
    → head_of s.on_craft.jobs.jobs
    ≡ head_told c first (front_job c h) (is_committed h (jobs_applied h))
head_shown c first s h k fits =
    front_shown k.jobs
    ∙ ap (head_from (job_shown (jobs_view c first h) (jobs_applied h)))
    (slice_get-map (λ r. r.message) (jobs c h) (jobs_applied h))
    ∙ go (front_job c h) (is_committed h (jobs_applied h)) refl where
      waiting : (m : List ℕ) (t : Bool)
          → is_committed h (jobs_applied h) ≡ false
          → nat_lt (jobs_applied h) (jobs_view c first h).claimed ≡ t
          → head_from (job_shown (jobs_view c first h) (jobs_applied h)) (Some m) ≡ HeadNotReady
      waiting m true e f =
          ap (λ a. head_from (λ q. a) (Some m))
          (job_is (jobs_view c first h) (jobs_applied h) m true false f e)
      waiting m false e f =
          ap (λ a. head_from (λ q. a) (Some m))
          (job_is (jobs_view c first h) (jobs_applied h) m false false f e)

      go : (o : Option Release) (t : Bool)
          → is_committed h (jobs_applied h) ≡ t
          → head_from (job_shown (jobs_view c first h) (jobs_applied h))
          (option_map (λ r. r.message) o)
          ≡ head_told c first o t
      go None t e = refl
      go (Some r) true e =
          ap (λ a. head_from (λ q. a) (Some r.message))
          (job_is (jobs_view c first h) (jobs_applied h) r.message true true
          (lt_true (jobs_applied h) _ (fits.committed (jobs_applied h) e)) e)
      go (Some r) false e = waiting r.message _ e refl

refused_by : (c : Config) (first : Contents) (o : Option Release) (t : Bool)
    → option_map node_fault (refusal_apply_of (head_told c first o t))
    ≡ first_fault ((not (is_some o), NoJob) ∷ (not t, NotReady) ∷ [])
refused_by c first None t = refl
refused_by c first (Some r) true = refl
refused_by c first (Some r) false = refl

pub apply_refused : (c : Config) (first : Contents) (s : State) (h : History) (how : Leaving)
    → Shows s (views c first h)
    → JobsFit (jobs_view c first h) (ticket c h)
    → refusal_of c s (Apply how) ≡ refusal c h (Apply how)
apply_refused c first s h how k fits =
    ap (λ x. option_map node_fault (refusal_apply_of x)) (head_shown c first s h k fits)
    ∙ refused_by c first (front_job c h) (is_committed h (jobs_applied h))

pub apply_ready : (c : Config) (first : Contents) (s : State) (h : History) (how : Leaving)
    → Shows s (views c first h)
    → JobsFit (jobs_view c first h) (ticket c h)
    → IsReady c s (Apply how)
apply_ready c first s h how k fits =
    subst (λ (x : Head). FrontIsFor x c.apid s.memories) (sym (head_shown c first s h k fits))
    (go (front_job c h) (is_committed h (jobs_applied h))) where
      go : (o : Option Release) (t : Bool) → FrontIsFor (head_told c first o t) c.apid s.memories
      go None t = tt
      go (Some r) true = (refl, sym (ap sizes_of k.memories ∙ k.sizes))
      go (Some r) false = tt

-- what is at the front where it isn't refused
pub record Front (c : Config) (first : Contents) (s : State) (h : History) : Type 0 where
  pub job : Release
  pub is_front : front_job c h ≡ Some job
  pub head : head_of s.on_craft.jobs.jobs ≡ Ready (source c first job.message)

pub front_is : (c : Config) (first : Contents) (s : State) (h : History) (how : Leaving)
    → Shows s (views c first h)
    → JobsFit (jobs_view c first h) (ticket c h)
    → refusal c h (Apply how) ≡ None
    → Front c first s h
front_is c first s h how k fits e =
    go (front_job c h) (is_committed h (jobs_applied h)) refl (head_shown c first s h k fits)
    e where
      go : (o : Option Release) (t : Bool)
          → front_job c h ≡ o
          → head_of s.on_craft.jobs.jobs ≡ head_told c first o t
          → first_fault ((not (is_some o), NoJob) ∷ (not t, NotReady) ∷ []) ≡ None
          → Front c first s h
      go None t is at none = absurd cc
      go (Some r) false is at none = absurd cc
      go (Some r) true is at none = record { job = r; is_front = is; head = at }
