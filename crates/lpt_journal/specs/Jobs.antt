-- The requests that the spacecraft node releases and executes, the workers that read them, and the
-- memories: their first content, changed by the executed requests.
use Rattle.std.specs.Prelude.{ℕ, ◌+◌, ◌==◌, Bool, true, false, ◌||◌, if◌then◌else◌, List, [], ◌∷◌, map, slice_get, Option, Some, None}
use Rattle.std.specs.List.{filter}
use Rattle.std.specs.Option.{option_map}
use Rattle.lpt_packet.specs.declared.direction.Direction.{Direction}
use Rattle.lpt_packet.specs.declared.direction.Direction.TheVariants.{Up}
use Rattle.lpt_packet.specs.Names.{Name}
use Rattle.lpt_memory.specs.Meanings.{meaning}
use Rattle.lpt_memory.specs.Memories.{Contents, sizes_of, effect}
use Rattle.lpt_memory.specs.Readings.{Job}
use Rattle.lpt_events.specs.Lanes.{same_direction}
use Rattle.lpt_events.specs.Workers.{same_worker}
use Rattle.lpt_events.specs.declared.config.Config.{Config}
use Rattle.lpt_events.specs.declared.entry.Release.{Release}
use Rattle.lpt_acts.specs.Acts.{Leaving, Execute, Act, Claim, Commit, Apply}
use Rattle.lpt_events.specs.declared.reply.Answer.{Answer}
use Rattle.lpt_events.specs.declared.reply.Answer.TheVariants.{Committed}
use Rattle.lpt_events.specs.declared.side.Side.{Side}
use Rattle.lpt_events.specs.declared.side.Side.TheVariants.{Craft}
use Rattle.lpt_events.specs.declared.worker.Worker.{Worker}
use Rattle.lpt_journal.specs.Journal.{Recorded, History, with_all}
use Rattle.lpt_journal.specs.Releases.{released_by}
use Rattle.lpt_journal.specs.Senders.{restarts}

-- ---- boots and jobs

-- how many times a node was restarted
abbrev pub boot : History → Side → ℕ
boot [] side = 0
boot (x ∷ h) side = if restarts x.event side then boot h side + 1 else boot h side

-- whether what was released came up, so that the spacecraft released it; all plain requests do
abbrev pub went_up : Option (Direction × Name) → Bool
went_up None = true
went_up (Some t) = same_direction t.0 Up

-- the jobs: what the spacecraft has released since it was last restarted, numbered from 0 in this
-- order
abbrev pub jobs : Config → History → List Release
jobs c [] = []
jobs c (x ∷ h) =
    if restarts x.event Craft then []
    else with_all (jobs c h) (filter (λ r. went_up r.of) (released_by c x h))

-- how many jobs were claimed after an event
abbrev pub claimed_after : Act → ℕ → ℕ
claimed_after (Claim w) before = before + 1
claimed_after _ before = before

-- how many jobs were claimed since the spacecraft was last restarted; they are the oldest
abbrev pub jobs_claimed : History → ℕ
jobs_claimed [] = 0
jobs_claimed (x ∷ h) = if restarts x.event Craft then 0 else claimed_after x.event (jobs_claimed h)

-- how many jobs have left after an event
abbrev pub applied_after : Act → ℕ → ℕ
applied_after (Apply how) before = before + 1
applied_after _ before = before

-- how many jobs have left since the spacecraft was last restarted, executed or not; they are the
-- oldest
abbrev pub jobs_applied : History → ℕ
jobs_applied [] = 0
jobs_applied (x ∷ h) = if restarts x.event Craft then 0 else applied_after x.event (jobs_applied h)

-- ---- tickets and commits

-- the job that a worker gets that claims: the oldest that wasn't claimed
abbrev pub job_given : Config → History → Option Job
job_given c h =
    option_map (λ r. record { boot = boot h Craft; job = jobs_claimed h; message = r.message })
    (slice_get (jobs c h) (jobs_claimed h))

-- the job that a worker has after an event, if this one is given to it that claims
abbrev pub ticket_after : Act → (given : Option Job) → Worker → Option Job → Option Job
ticket_after (Claim v) given w before = if same_worker v w then given else before
ticket_after (Commit v) given w before = if same_worker v w then None else before
ticket_after _ given w before = before

-- the job that a worker claimed last, if it committed none after that; it keeps it whatever node
-- is restarted
abbrev pub ticket : Config → History → Worker → Option Job
ticket c [] w = None
ticket c (x ∷ h) w = ticket_after x.event (job_given c h) w (ticket c h w)

-- whether an answer says that the reading of the job of this number was handed in
abbrev pub commits : Answer → ℕ → Bool
commits (Committed boot n) job = n == job
commits _ job = false

-- whether the reading of the job of this number was handed in since the spacecraft was last
-- restarted
abbrev pub is_committed : History → ℕ → Bool
is_committed [] job = false
is_committed (x ∷ h) job =
    if restarts x.event Craft then false else commits x.reply.answer job || is_committed h job

-- ---- execution

-- the oldest job that hasn't left
abbrev pub front_job : Config → History → Option Release
front_job c h = slice_get (jobs c h) (jobs_applied h)

-- what an event executes, if this job is the oldest
abbrev pub executed_now : Act → Option Release → List Release
executed_now (Apply Execute) (Some r) = r ∷ []
executed_now _ front = []

-- the released requests that an entry executes after this history
abbrev pub executed_by : Config → Recorded → History → List Release
executed_by c x h = executed_now x.event (front_job c h)

-- what left the queue, in its order, if an event takes this of the oldest job
abbrev pub all_taken : {A : Type 0} → (Act → Option Release → List A) → Config → History → List A
all_taken now c [] = []
all_taken now c (x ∷ h) = with_all (all_taken now c h) (now x.event (front_job c h))

-- the released requests that were executed, in their order
abbrev pub executed : Config → History → List Release
executed c h = all_taken executed_now c h

-- how an event lets this job leave, if it is the oldest
abbrev pub left_now : Act → Option Release → List (Leaving × Release)
left_now (Apply how) (Some r) = (how, r) ∷ []
left_now _ front = []

-- the released requests that have left, each with how it did, in their order
abbrev pub that_left : Config → History → List (Leaving × Release)
that_left c h = all_taken left_now c h

-- what requests to this APID leave of memories, executed one after the other
abbrev pub left_by : ℕ → List (List ℕ) → Contents → Contents
left_by apid [] ms = ms
left_by apid (request ∷ more) ms = left_by apid more (effect (meaning apid (sizes_of ms) request) ms)

-- the memories now, of which these were the first contents
abbrev pub memories : Config → Contents → History → Contents
memories c first h = left_by c.apid (map (λ r. r.message) (executed c h)) first
