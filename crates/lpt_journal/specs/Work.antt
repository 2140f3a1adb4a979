-- What holds of claims, commits and executions in every legal journal, whatever node is restarted.
use Rattle.std.specs.Prelude.{◌≡◌, ℕ, suc, Bool, true, false, ◌||◌, if◌then◌else◌, List, [], ◌∷◌, drop, slice_get, Some, None}
use Rattle.lpt_packet.specs.declared.direction.Direction.{Direction}
use Rattle.lpt_packet.specs.Names.{Name}
use Rattle.lpt_memory.specs.Memories.{Contents}
use Rattle.lpt_memory.specs.Readings.{Job}
use Rattle.lpt_events.specs.Configs.{IsConfig}
use Rattle.lpt_events.specs.Workers.{same_worker}
use Rattle.lpt_events.specs.declared.config.Config.{Config}
use Rattle.lpt_events.specs.declared.entry.Release.{Release}
use Rattle.lpt_acts.specs.Acts.{Act, Claim, Commit}
use Rattle.lpt_events.specs.declared.lane.Lane.{Lane}
use Rattle.lpt_events.specs.declared.reply.Answer.{Answer}
use Rattle.lpt_events.specs.declared.reply.Answer.TheVariants.{Committed, Stale}
use Rattle.lpt_events.specs.declared.side.Side.{Side}
use Rattle.lpt_events.specs.declared.side.Side.TheVariants.{Craft}
use Rattle.lpt_events.specs.declared.worker.Worker.{Worker}
use Rattle.lpt_journal.specs.Hands.{hand}
use Rattle.lpt_journal.specs.Headline.{before}
use Rattle.lpt_journal.specs.Jobs.{boot, jobs, jobs_claimed, jobs_applied, ticket, is_committed, executed_by, executed, that_left, memories}
use Rattle.lpt_journal.specs.Journal.{Recorded, History}
use Rattle.lpt_journal.specs.Legal.{Legal}
use Rattle.lpt_journal.specs.Link.{sent, tags, is_held, is_damaged}
use Rattle.lpt_journal.specs.Receivers.{heard, open_names, is_closed, last_tick, clock, limits}
use Rattle.lpt_journal.specs.Releases.{releases}
use Rattle.lpt_journal.specs.Replies.{history_after}
use Rattle.lpt_journal.specs.Senders.{restarts, current, sender, opened, packets_made}

-- ---- commits

-- whether this worker claims in an event
abbrev pub is_claim_of : Act → Worker → Bool
is_claim_of (Claim v) w = same_worker v w
is_claim_of _ w = false

-- whether the spacecraft was restarted since the worker claimed last
abbrev pub restarted_since : History → Worker → Bool
restarted_since [] w = false
restarted_since (x ∷ h) w =
    if is_claim_of x.event w then false else restarts x.event Craft || restarted_since h w

-- the answer to a commit of this job: stale if the spacecraft was restarted since its claim
abbrev pub commit_answer : (restarted : Bool) → Job → Answer
commit_answer true t = Stale t.boot t.job
commit_answer false t = Committed t.boot t.job

-- between two histories nothing changed but that a worker has no job any more
pub record IsSameBut (c : Config) (first : Contents) (w : Worker) (new old : History) : Type 0 where
  pub gone : ticket c new w ≡ None
  pub tickets : (v : Worker) → same_worker w v ≡ false → ticket c new v ≡ ticket c old v
  pub committed : (job : ℕ) → is_committed new job ≡ is_committed old job
  pub jobs : jobs c new ≡ jobs c old
  pub claimed : jobs_claimed new ≡ jobs_claimed old
  pub applied : jobs_applied new ≡ jobs_applied old
  pub executed : executed c new ≡ executed c old
  pub left : that_left c new ≡ that_left c old
  pub memories : memories c first new ≡ memories c first old
  pub boots : (side : Side) → boot new side ≡ boot old side
  pub sent : sent new ≡ sent old
  pub tags : tags new ≡ tags old
  pub held : (n : ℕ) → is_held new n ≡ is_held old n
  pub damaged : (n : ℕ) → is_damaged new n ≡ is_damaged old n
  pub hands : (l : Lane) → hand new l ≡ hand old l
  pub opened : opened new ≡ opened old
  pub current : (d : Direction) (name : Name) → current new d name ≡ current old d name
  pub senders : (d : Direction) (name : Name) → sender new d name ≡ sender old d name
  pub made : (d : Direction) → packets_made new d ≡ packets_made old d
  pub heard : (d : Direction) (name : Name) → heard c new d name ≡ heard c old d name
  pub receptions : (d : Direction) → open_names c new d ≡ open_names c old d
  pub closed : (d : Direction) (name : Name) → is_closed new d name ≡ is_closed old d name
  pub ticks : (d : Direction) (name : Name) → last_tick c new d name ≡ last_tick c old d name
  pub clocks : (side : Side) → clock c new side ≡ clock c old side
  pub limited : (side : Side) → limits c new side ≡ limits c old side
  pub released : releases c new ≡ releases c old

-- A commit hands in the job that the worker claimed last. It answers that the job is stale exactly
-- if the spacecraft was restarted since that claim, and changes nothing else then.
pub record IsCommit (c : Config) (first : Contents) (x : Recorded) (h : History) (w : Worker) : Type 0 where
  pub job : Job
  pub was_claimed : ticket c h w ≡ Some job
  pub answers : x.reply.answer ≡ commit_answer (restarted_since h w) job
  pub stale : restarted_since h w ≡ true → IsSameBut c first w (x ∷ h) h

-- each entry that commits is such a commit; behind it stands the history before it
abbrev pub CommitsAreOfTheirBoot : Config → Contents → History → Type 0
CommitsAreOfTheirBoot c first h =
    (k : ℕ) (x : Recorded) (w : Worker)
    → slice_get h k ≡ Some x
    → x.event ≡ Commit w
    → IsCommit c first x (drop (suc k) h) w

-- ---- executions

-- what an entry executed after this history was released and committed in the same boot
pub record WasOfThisBoot (h : History) (r : Release) : Type 0 where
  pub released : boot (before r.place h) Craft ≡ boot h Craft
  pub committed : is_committed h (jobs_applied h) ≡ true

-- what was executed was released and committed since the spacecraft was last restarted
abbrev pub ExecutionsAreOfTheirBoot : Config → History → Type 0
ExecutionsAreOfTheirBoot c h =
    (k : ℕ) (x : Recorded) (r : Release)
    → slice_get h k ≡ Some x
    → executed_by c x (drop (suc k) h) ≡ r ∷ []
    → WasOfThisBoot (drop (suc k) h) r

-- ---- the law

-- no job is committed or executed outside the boot in which it was released
pub record WorkKeepsItsBoot (c : Config) (first : Contents) (h : History) : Type 0 where
  pub commits : CommitsAreOfTheirBoot c first h
  pub executions : ExecutionsAreOfTheirBoot c h

-- it holds of every legal journal
abbrev pub WorkIsOfItsBoot : Type 0
WorkIsOfItsBoot =
    (c : Config) (first : Contents) (es : List Act)
    → IsConfig c
    → Legal c first es
    → WorkKeepsItsBoot c first (history_after c first es)
