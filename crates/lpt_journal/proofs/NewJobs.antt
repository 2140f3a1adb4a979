-- What an entry releases and executes is one request, or none; and which jobs there are after it.
use Rattle.std.proofs.Common.{◌≡◌, ◌∙◌, ap, sym, refl, ℕ, zero, suc, ◌+◌, Bool, true, false, ◌⊎◌, inl, inr, if◌then◌else◌, List, [], ◌∷◌, length, Option, Some, None}
use Rattle.std.specs.List.{slice_get, filter}
use Rattle.lpt_packet.specs.declared.direction.Direction.{Direction}
use Rattle.lpt_packet.specs.Names.{Name}
use Rattle.lpt_reception.specs.Received.{Parts}
use Rattle.lpt_events.specs.declared.config.Config.{Config}
use Rattle.lpt_acts.specs.Acts.{Leaving, Execute, Act, Apply, Deliver}
use Rattle.lpt_events.specs.declared.entry.Release.{Release}
use Rattle.lpt_events.specs.declared.lane.Lane.{Lane}
use Rattle.lpt_events.specs.Lanes.{lane_direction}
use Rattle.lpt_events.specs.declared.outcome.Outcome.TheVariants.{Released, PlainReleased}
use Rattle.lpt_events.specs.declared.reply.Answer.{Answer}
use Rattle.lpt_events.specs.declared.reply.Answer.TheVariants.{Delivered}
use Rattle.lpt_events.specs.Arrivals.{Arrival, ARequest, APart}
use Rattle.lpt_events.specs.declared.side.Side.TheVariants.{Craft}
use Rattle.lpt_journal.specs.Journal.{Recorded, History, with_all}
use Rattle.lpt_journal.specs.Jobs.{went_up, jobs, applied_after, executed_now, left_now}
use Rattle.lpt_journal.specs.Releases.{released_now, release_after, released_by}
use Rattle.lpt_journal.specs.Senders.{restarts}
use Rattle.lpt_journal.proofs.TestLemmas.{IsOldOrNew, with_all_cases, no_place}

-- ---- what an entry releases

-- one release of this place, or none
abbrev IsOneOrNone : (place : ℕ) → List Release → Type 0
IsOneOrNone place rs = (rs ≡ []) ⊎ ((r : Release) × (rs ≡ r ∷ []) × (r.place ≡ place))

now_one : (place : ℕ) (d : Direction) (o : Answer) (s : Name → Parts) (a : Arrival)
    → IsOneOrNone place (released_now place d o s a)
now_one place d (Delivered (Released name len)) s (APart q) = inr (_, refl, refl)
now_one place d (Delivered (PlainReleased len)) s (ARequest b) = inr (_, refl, refl)
now_one place d o s a = inl refl

after_one : (e : Act) (place : ℕ) (o : Answer) (s : Direction → Name → Parts)
    (arrived : Lane → Arrival)
    → IsOneOrNone place (release_after e place o s arrived)
after_one (Deliver l) place o s arrived =
    now_one place (lane_direction l) o (s (lane_direction l)) (arrived l)
after_one e place o s arrived = inl refl

-- what the spacecraft released of it
abbrev pub came_up : List Release → List Release
came_up rs = filter (λ r. went_up r.of) rs

one_job : (place : ℕ) (rs : List Release)
    → IsOneOrNone place rs
    → (k : ℕ) (r : Release)
    → slice_get (came_up rs) k ≡ Some r
    → (k ≡ 0) × (r.place ≡ place)
one_job place rs (inl none) k r e =
    absurd (no_place k r (ap (λ xs. slice_get (came_up xs) k) (sym none) ∙ e))
one_job place rs (inr one) k r e =
    go (went_up one.0.of) k (ap (λ xs. slice_get (came_up xs) k) (sym one.1) ∙ e) where
      go : (b : Bool) (k : ℕ)
          → slice_get (if b then one.0 ∷ [] else []) k ≡ Some r
          → (k ≡ 0) × (r.place ≡ place)
      go true zero f =
          (refl, let same : one.0 ≡ r = cc in ap (λ (w : Release). w.place) (sym same) ∙ one.2)
      go true (suc k) f = absurd (no_place k r f)
      go false k f = absurd (no_place k r f)

-- a new job is the only one, and of the entry's place
pub new_job : (c : Config) (x : Recorded) (h : History) (k : ℕ) (r : Release)
    → slice_get (came_up (released_by c x h)) k ≡ Some r
    → (k ≡ 0) × (r.place ≡ length h)
new_job c x h k r e = one_job (length h) (released_by c x h) (after_one x.event (length h) _ _ _) k r e

-- a job was one before, or is released now, where the spacecraft isn't restarted
pub job_cases : (c : Config) (x : Recorded) (h : History) (k : ℕ) (r : Release)
    → slice_get (jobs c (x ∷ h)) k ≡ Some r
    → (restarts x.event Craft ≡ false)
    × IsOldOrNew (jobs c h) (came_up (released_by c x h)) k r
job_cases c x h k r e = go (restarts x.event Craft) refl e where
  go : (b : Bool)
      → restarts x.event Craft ≡ b
      → slice_get (if b then [] else with_all (jobs c h) (came_up (released_by c x h))) k ≡ Some r
      → (restarts x.event Craft ≡ false)
      × IsOldOrNew (jobs c h) (came_up (released_by c x h)) k r
  go true is f = absurd (no_place k r f)
  go false is f = (is, with_all_cases (jobs c h) (came_up (released_by c x h)) k r f)

-- what an entry executes is one request, the oldest job
pub new_executed : (e : Act) (front : Option Release) (k : ℕ) (r : Release)
    → slice_get (executed_now e front) k ≡ Some r
    → (k ≡ 0) × (e ≡ Apply Execute) × (front ≡ Some r)
new_executed (Apply Execute) (Some s) zero r e = (refl, refl, e)
new_executed (Apply Execute) (Some s) (suc k) r e = absurd (no_place k r e)
new_executed (Apply Execute) None k r e = absurd (no_place k r e)
new_executed e front k r f = absurd (no_place k r f)

-- what an event takes is one, of the oldest job, which leaves
pub record IsOneTaken {A : Type 0} (request : A → Release) (e : Act) (front : Option Release)
    (k : ℕ) (x : A) : Type 0 where
  pub alone : k ≡ 0
  pub leaves : (n : ℕ) → applied_after e n ≡ n + 1
  pub oldest : front ≡ Some (request x)

-- so it is of each event
abbrev pub TakesOne : {A : Type 0} → (A → Release) → (Act → Option Release → List A) → Type 0
TakesOne {A = A} request now =
    (e : Act) (front : Option Release) (k : ℕ) (x : A)
    → slice_get (now e front) k ≡ Some x
    → IsOneTaken request e front k x

-- so it is of what is executed
pub executes_one : TakesOne (λ r. r) executed_now
executes_one e front k r f =
    let it = new_executed e front k r f in record {
      alone = it.0;
      leaves = λ n. ap (λ a. applied_after a n) it.1;
      oldest = it.2;
    }

-- and of what leaves, executed or not
pub leaves_one : TakesOne (λ x. x.1) left_now
leaves_one (Apply how) (Some s) zero x f =
    record { alone = refl; leaves = λ n. refl; oldest = ap (λ y. Some y.1) (the_first f) } where
      the_first : slice_get ((how, s) ∷ []) 0 ≡ Some x → (how, s) ≡ x
      the_first g = cc
leaves_one (Apply how) (Some s) (suc k) x f = absurd (no_place k x f)
leaves_one (Apply how) None k x f = absurd (no_place k x f)
leaves_one e front k x f = absurd (no_place k x f)
