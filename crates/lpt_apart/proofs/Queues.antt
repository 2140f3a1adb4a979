-- The requests that wait and that were executed, by the log of every legal journal.
use Rattle.std.proofs.Common.{◌≡◌, ◌∙◌, ap, sym, refl, ℕ, zero, suc, ◌+◌, ◌≤◌, Bool, true, false, if◌then◌else◌, List, [], ◌∷◌, ◌++◌, length, map, take, drop, arith, append_assoc, Option}
use Rattle.std.specs.List.{filter}
use Rattle.std.specs.Prelude.{slice_get, cond}
use Rattle.std.proofs.lemmas.List.{append-nil, map-append, drop-drop, drop-map, drop-append-le}
use Rattle.lpt_memory.specs.Memories.{Contents}
use Rattle.lpt_events.specs.declared.config.Config.{Config}
use Rattle.lpt_events.specs.declared.entry.Opening.{Opening}
use Rattle.lpt_events.specs.declared.entry.Release.{Release}
use Rattle.lpt_acts.specs.Acts.{Execute, Refuse, Drop, Act, Deliver, Expire, Apply, Restart}
use Rattle.lpt_events.specs.declared.outcome.Outcome.{Outcome}
use Rattle.lpt_events.specs.declared.outcome.Outcome.TheVariants.{Broken}
use Rattle.lpt_events.specs.declared.reply.Answer.{Answer}
use Rattle.lpt_events.specs.declared.reply.Answer.TheVariants.{Expired}
use Rattle.lpt_events.specs.declared.side.Side.{Side}
use Rattle.lpt_events.specs.declared.side.Side.TheVariants.{Ground, Craft}
use Rattle.lpt_events.specs.Lanes.{lane_direction}
use Rattle.lpt_packet.specs.declared.direction.Direction.{Direction}
use Rattle.lpt_journal.specs.Delivery.{outcome}
use Rattle.lpt_journal.specs.Executions.{front_opens}
use Rattle.lpt_journal.specs.Jobs.{went_up, jobs, jobs_applied, front_job, executed_now, executed as was_executed}
use Rattle.lpt_journal.specs.Journal.{History, with_all}
use Rattle.lpt_journal.specs.Legal.{Legal}
use Rattle.lpt_journal.specs.Releases.{released_by}
use Rattle.lpt_journal.specs.Replies.{answer, history_after, entry}
use Rattle.lpt_refinement.proofs.LinkShown.{with_all-append}
use Rattle.lpt_journal.proofs.TicketSteps.{jobs_sound}
use Rattle.lpt_apart.specs.Ends.{Released, Log, with_abortion}
use Rattle.lpt_apart.specs.TwoEnds.{waiting, requests_executed}
use Rattle.lpt_apart.specs.Told.{with_openings, with_releases, with_ended, log_told}
use Rattle.lpt_packet.specs.Names.{Name}

abbrev pub message_of : Release → List ℕ
message_of r = r.message

abbrev messages_of : List Release → List (List ℕ)
messages_of rs = map message_of rs

-- those that become jobs
abbrev came_up : List Release → List Release
came_up rs = filter (λ r. went_up r.of) rs

-- ---- what an entry adds

-- openings leave the requests that wait
pub waiting_openings : (os : List Opening) (log : Log)
    → waiting (with_openings os log) ≡ waiting log
waiting_openings [] log = refl
waiting_openings (o ∷ os) log = waiting_openings os log

executed_openings : (os : List Opening) (log : Log) → requests_executed (with_openings os log)
    ≡ requests_executed log
executed_openings [] log = refl
executed_openings (o ∷ os) log = executed_openings os log

waiting_releases : (rs : List Release) (log : Log)
    → waiting (with_releases rs log) ≡ waiting log ++ messages_of (came_up rs)
waiting_releases [] log = sym (append-nil (waiting log))
waiting_releases (r ∷ rs) log =
    waiting_releases rs (Released r.of r.message ∷ log) ∙ go (went_up r.of) where
      go : (b : Bool)
          → (if b then waiting log ++ r.message ∷ [] else waiting log) ++ messages_of (came_up rs)
          ≡ waiting log ++ messages_of (cond b (r ∷ came_up rs) (came_up rs))
      go true = append_assoc (waiting log) (r.message ∷ []) (messages_of (came_up rs))
      go false = refl

executed_releases : (rs : List Release) (log : Log) → requests_executed (with_releases rs log)
    ≡ requests_executed log
executed_releases [] log = refl
executed_releases (r ∷ rs) log = executed_releases rs (Released r.of r.message ∷ log)

waiting_abortion : (d : Direction) (o : Outcome) (log : Log)
    → waiting (with_abortion d o log) ≡ waiting log
waiting_abortion d (Broken name why) log = refl
waiting_abortion d o log = refl

executed_abortion : (d : Direction) (o : Outcome) (log : Log)
    → requests_executed (with_abortion d o log) ≡ requests_executed log
executed_abortion d (Broken name why) log = refl
executed_abortion d o log = refl

waiting_expired : (side : Side) (which : Option Name) (a : Answer) (log : Log)
    → waiting (with_ended (Expire side which) a log) ≡ waiting log
waiting_expired side which (Expired d name) log = refl
waiting_expired side which a log = refl

executed_expired : (side : Side) (which : Option Name) (a : Answer) (log : Log)
    → requests_executed (with_ended (Expire side which) a log) ≡ requests_executed log
executed_expired side which (Expired d name) log = refl
executed_expired side which a log = refl

-- ---- lists

-- the first of a list from a place on is the one at the place
front_is : (rs : List Release) (n : ℕ)
    → take 1 (messages_of (drop n rs)) ≡ messages_of (executed_now (Apply Execute) (slice_get rs n))
front_is [] zero = refl
front_is [] (suc n) = refl
front_is (r ∷ rs) zero = refl
front_is (r ∷ rs) (suc n) = front_is rs n

-- a list from the next place on
from_next : (rs : List Release) (n : ℕ)
    → drop 1 (messages_of (drop n rs)) ≡ messages_of (drop (n + 1) rs)
from_next rs n = drop-map message_of 1 (drop n rs) ∙ ap messages_of (drop-drop 1 n rs)

-- a longer list from a place within it on
from_within : (rs new : List Release) (n : ℕ)
    → n ≤ length rs
    → messages_of (drop n rs) ++ messages_of new ≡ messages_of (drop n (with_all rs new))
from_within rs new n within =
    sym (ap (λ (all : List Release). messages_of (drop n all)) (with_all-append rs new)
    ∙ ap messages_of (drop-append-le n rs new within)
    ∙ map-append message_of (drop n rs) new)

-- ---- legal journals

module _ (c : Config) (first : Contents) where
  -- the executed jobs are there
  fit : (es : List Act)
      → Legal c first es
      → jobs_applied (history_after c first es) ≤ length (jobs c (history_after c first es))
  fit es legal =
      let sound = jobs_sound c first es legal
      in omega (arith, sound.applied_fits, sound.claimed_fits)

  -- what waits are the jobs that haven't left
  pub waiting_told : (es : List Act)
      → Legal c first es
      → waiting (log_told c (history_after c first es))
      ≡ messages_of
      (drop (jobs_applied (history_after c first es)) (jobs c (history_after c first es)))
  waiting_told [] legal = refl
  waiting_told (Deliver l ∷ es) legal =
      let h : History = history_after c first es in
      let new : List Release = released_by c (entry c first h (Deliver l)) h in
      waiting_abortion (lane_direction l) (outcome c h l) (with_releases new (log_told c h))
      ∙ waiting_releases new (log_told c h)
      ∙ ap (λ (ws : List (List ℕ)). ws ++ messages_of (came_up new)) (waiting_told es legal.0)
      ∙ from_within (jobs c h) (came_up new) (jobs_applied h) (fit es legal.0)
  waiting_told (Expire side which ∷ es) legal =
      let h : History = history_after c first es in
      waiting_expired side which (answer c first h (Expire side which)) (log_told c h)
      ∙ waiting_told es legal.0
  waiting_told (Apply how ∷ es) legal =
      let h : History = history_after c first es in
      ap (λ (ws : List (List ℕ)). drop 1 ws)
      (waiting_openings (front_opens c first h how) (log_told c h) ∙ waiting_told es legal.0)
      ∙ from_next (jobs c h) (jobs_applied h)
  waiting_told (Restart Ground ∷ es) legal = waiting_told es legal.0
  waiting_told (Restart Craft ∷ es) legal = refl
  waiting_told (e ∷ es) legal = waiting_told es legal.0

  -- the requests that were executed are the journal's
  pub executed_told : (es : List Act)
      → Legal c first es
      → requests_executed (log_told c (history_after c first es))
      ≡ messages_of (was_executed c (history_after c first es))
  executed_told [] legal = refl
  executed_told (Deliver l ∷ es) legal =
      let h : History = history_after c first es in
      let new : List Release = released_by c (entry c first h (Deliver l)) h in
      executed_abortion (lane_direction l) (outcome c h l) (with_releases new (log_told c h))
      ∙ executed_releases new (log_told c h)
      ∙ executed_told es legal.0
  executed_told (Expire side which ∷ es) legal =
      let h : History = history_after c first es in
      executed_expired side which (answer c first h (Expire side which)) (log_told c h)
      ∙ executed_told es legal.0
  executed_told (Apply Execute ∷ es) legal =
      let h : History = history_after c first es in
      let opens : List Opening = front_opens c first h Execute in
      let waits : waiting (with_openings opens (log_told c h))
      ≡ messages_of (drop (jobs_applied h) (jobs c h)) =
      waiting_openings opens (log_told c h) ∙ waiting_told es legal.0 in
      let done : requests_executed (with_openings opens (log_told c h))
      ≡ messages_of (was_executed c h) =
      executed_openings opens (log_told c h) ∙ executed_told es legal.0 in
      (λ i. done i ++ take 1 (waits i))
      ∙ ap (λ (ms : List (List ℕ)). messages_of (was_executed c h) ++ ms)
      (front_is (jobs c h) (jobs_applied h))
      ∙ sym (map-append message_of (was_executed c h)
      (executed_now (Apply Execute) (front_job c h)))
      ∙ sym (ap messages_of
      (with_all-append (was_executed c h) (executed_now (Apply Execute) (front_job c h))))
  executed_told (Apply (Refuse code) ∷ es) legal =
      let h : History = history_after c first es in
      executed_openings (front_opens c first h (Refuse code)) (log_told c h)
      ∙ executed_told es legal.0
  executed_told (Apply Drop ∷ es) legal =
      let h : History = history_after c first es in
      executed_openings (front_opens c first h Drop) (log_told c h) ∙ executed_told es legal.0
  executed_told (e ∷ es) legal = executed_told es legal.0
