-- Two ends behind handles of C as two ends apart.
use Rattle.std.specs.Prelude.{◌≡◌, ℕ, ◌+◌, ◌<◌, ◌^◌, List, [], ◌∷◌, None, Some, ⊤}
use Rattle.lpt_acts.specs.Acts as act
use Rattle.lpt_acts.specs.Acts.{Back, IsAct, On}
use Rattle.lpt_apart.specs.Ends.{after_all, Pair, Move, Do, Free}
use Rattle.lpt_apart.specs.TwoEnds.{Own, own_config, CanAll, CanMove, MayCome}
use Rattle.lpt_apart.specs.Ends as step
use Rattle.lpt_apart.specs.Deeds.{with_restart}
use Rattle.lpt_c_end.specs.Accesses.{IsExecutedGiven, drop_read_refusal, given_refusal}
use Rattle.lpt_c_end.specs.Changes.{IsOpened, IsPartMade, IsPlainMade, IsFinished, IsLetGo, IsDelivered, IsExpired, IsGivenUp, IsTicked, IsRebased, IsRead, IsDropped, IsExecuted, IsRetired, IsRestarted, IsSame}
use Rattle.lpt_c_end.specs.Contents.{memories_of}
use Rattle.lpt_c_end.specs.Keeping.{IsResumed, ReadsAsRestarted}
use Rattle.lpt_c_end.specs.Refusals.{open_refusal, part_refusal, plain_refusal, finish_refusal, sent_refusal, expire_refusal, give_up_refusal, tick_refusal, rebase_refusal, read_refusal, drop_refusal, execute_refusal}
use Rattle.lpt_c_end.specs.Refusing.{IsRefusedAs, refuse_refusal}
use Rattle.lpt_c_end.specs.Sizes.{kept_as, IsResumedSized}
use Rattle.lpt_c_end.specs.Words.{direction_from as direction_by}
use Rattle.lpt_c_end.specs.declared.end.End.{End}
use Rattle.lpt_c_end.specs.declared.kept.Kept.{Kept}
use Rattle.lpt_c_end.specs.declared.kept.Kept.TheVariants.{Nowhere, Here, Elsewhere}
use Rattle.lpt_c_end.specs.declared.memories.LptMemory.{LptMemory}
use Rattle.lpt_c_end.specs.declared.sizing.LptSize.{LptSize}
use Rattle.lpt_c_pair.specs.Outboxes.{AllOnTheWay, NoneWaits}
use Rattle.lpt_packet.specs.declared.direction.Direction.{Direction}
use Rattle.lpt_packet.specs.declared.direction.Direction.TheVariants.{Up, Down}
use Rattle.lpt_packet.specs.Names.{Name}
use Rattle.lpt_events.specs.Sides.{direction_to}
use Rattle.lpt_events.specs.declared.config.Config.{Config}
use Rattle.lpt_events.specs.declared.side.Side.{Side}
use Rattle.lpt_events.specs.declared.side.Side.TheVariants.{Ground, Craft}
use Rattle.lpt_events.specs.declared.worker.Worker.TheVariants.{W1}
use Rattle.lpt_jobs.specs.Jobs.{head_of}
use Rattle.lpt_ledger.specs.declared.state.State.TheVariants as known
use Rattle.lpt_memory.specs.Memories.{Contents, sizes_of}
use Rattle.lpt_node.specs.Jobs.{FrontHolds}
use Rattle.lpt_node.specs.Nodes.{NodeData, direction_from}
use Rattle.lpt_node.specs.Restarts.{name_state}
use Rattle.lpt_model.specs.Tickets.{no_tickets}
use Rattle.lpt_pus.specs.Codes.{number_of}
use Rattle.lpt_pus.specs.declared.failure_code.FailureCode.{FailureCode}
use Rattle.lpt_state.specs.Spellings.{state_spelled}

-- ---- ends

-- the spacecraft's memories are in its end, or with its program
pub data CallPlace : Type 0 where
  InEnd : CallPlace
  WithProgram : CallPlace

-- what its end keeps of these memories: all, or their identifiers and sizes
abbrev pub kept_in : CallPlace → Contents → Kept
kept_in InEnd ms = Here ms
kept_in WithProgram ms = Elsewhere (sizes_of ms)

-- an end of this side has this node and these memories, and its configuration is this but for the
-- clock that it began with and its limits
pub record IsEndOf (c : Config) (s : Side) (n : NodeData) (kept : Kept)
    (e : End) : Type 0 where
  pub side : e.side ≡ s
  pub own : Own
  pub config : e.config ≡ own_config own c
  pub node : e.node.at ≡ n
  pub memories : e.memories ≡ kept

-- two ends behind handles are those of two ends apart, none of whose workers has a job; what waits
-- in their outboxes is on the way. Memories that are with the spacecraft's program are those of the
-- two ends apart by its promise: it writes what it is told
pub record AreEndsOf (c : Config) (p : Pair) (on_ground on_craft : End) : Type 0 where
  pub ground : IsEndOf c Ground p.ends.on_ground Nowhere on_ground
  pub place : CallPlace
  pub craft : IsEndOf c Craft p.ends.on_craft (kept_in place p.ends.memories) on_craft
  pub tickets : p.ends.tickets ≡ no_tickets
  pub upwards : AllOnTheWay p.ends Up on_ground.outbox.items
  pub downwards : AllOnTheWay p.ends Down on_craft.outbox.items

-- ---- calls

-- A call of an end, as `include/lpt_end.h` has them; a name is freed in a direction, by its number,
-- also one that is free. An end is restored from its state, in place of the one that its program
-- had. The oldest request of all is dropped before or after it was read. A call fails if it answers
-- another status than 0, as the last `lpt_end_read` of a loop does; `lpt_end_name` counts as one,
-- since it changes nothing either.
pub data Call : Type 0 where
  Open : Name → (message : List ℕ) → Call
  Part : Name → (k : ℕ) → Call
  Plain : (source flags service subtype : ℕ) → (body : List ℕ) → Call
  Finish : Name → Call
  LetGo : Call
  Packet : (octets : List ℕ) → Call
  Expire : Call
  GiveUp : Name → Call
  Tick : Call
  Rebase : (ticks : ℕ) → Call
  Read : Call
  Execute : Call
  ExecuteGiven : (octets : List ℕ) → Call
  Drop : Call
  DropRead : Call
  Refuse : FailureCode → Call
  Retire : (direction : ℕ) → Name → Call
  RetireFree : (direction : ℕ) → Name → Call
  Restart : Call
  Resume : Config → (state : List ℕ) → List LptMemory → (content : List ℕ) → Call
  ResumeSized : Config → (state : List ℕ) → List LptSize → Call
  Fails : Call

-- a call has answered 0: its end didn't refuse it, and became this; or it failed, and its end is
-- as it was
abbrev pub IsDone : Call → End → End → Type 0
IsDone (Open name m) e new = (open_refusal name m e ≡ None) × IsOpened name m e new
IsDone (Part name k) e new = (part_refusal name k e ≡ None) × IsPartMade name k e new
IsDone (Plain source flags service subtype body) e new =
    (plain_refusal flags service subtype body e ≡ None)
    × IsPlainMade source flags service subtype body e new
IsDone (Finish name) e new = (finish_refusal name e ≡ None) × IsFinished name e new
IsDone LetGo e new = (sent_refusal e ≡ None) × IsLetGo e new
IsDone (Packet b) e new = IsDelivered b e new
IsDone Expire e new = (expire_refusal e ≡ None) × IsExpired e new
IsDone (GiveUp name) e new = (give_up_refusal name e ≡ None) × IsGivenUp name e new
IsDone Tick e new = (tick_refusal e ≡ None) × IsTicked e new
IsDone (Rebase ticks) e new = (rebase_refusal ticks e ≡ None) × IsRebased ticks e new
IsDone Read e new = (read_refusal e ≡ None) × IsRead e new
IsDone Execute e new = (execute_refusal e ≡ None) × IsExecuted e new
IsDone (ExecuteGiven octets) e new =
    (given_refusal octets e ≡ None) × IsExecutedGiven octets e new
IsDone Drop e new = (drop_refusal e ≡ None) × IsDropped e new
IsDone DropRead e new = (drop_read_refusal e ≡ None) × IsDropped e new
IsDone (Refuse code) e new =
    (refuse_refusal (number_of code) e ≡ None) × IsRefusedAs code e new
IsDone (Retire direction name) e new = IsRetired direction name e new
IsDone (RetireFree direction name) e new = IsRetired direction name e new
IsDone Restart e new = IsRestarted e new
IsDone (Resume config state ms content) e new = IsResumed e.side config state ms content new
IsDone (ResumeSized config state sizes) e new = IsResumedSized config state sizes new
IsDone Fails e new = IsSame e new

-- ---- moves

-- the move that frees a name of a direction at the end of a side: its sender's, or its receiver's
abbrev pub freeing : Side → Direction → Name → Move
freeing Ground Up name = Do (step.Retire Up name)
freeing Ground Down name = Free Down name
freeing Craft Up name = Free Up name
freeing Craft Down name = Do (step.Retire Down name)

-- the moves that a call of the end of a side makes, the newest first
abbrev pub moves : Side → Call → List Move
moves side (Open name m) = Do (step.Open (direction_from side) name m) ∷ []
moves side (Part name k) = Do (step.Send (direction_from side) name k) ∷ []
moves side (Plain source flags service subtype body) =
    Do (step.Plain source flags service subtype body) ∷ []
moves side (Finish name) = Do (step.Finish (direction_from side) name) ∷ []
moves side LetGo = []
moves side (Packet b) = Do (step.Accept (direction_to side) b) ∷ []
moves side Expire = Do (step.Expire side None) ∷ []
moves side (GiveUp name) = Do (step.Expire side (Some name)) ∷ []
moves side Tick = Do (step.Tick side On) ∷ []
moves side (Rebase ticks) = Do (step.Tick side (Back ticks)) ∷ []
moves side Read = Do (step.Commit W1) ∷ Do (step.Claim W1) ∷ []
moves side Execute = Do (step.Apply act.Execute) ∷ []
moves side (ExecuteGiven octets) = Do (step.Apply act.Execute) ∷ []
moves side Drop = Do (step.Apply act.Drop) ∷ Do (step.Commit W1) ∷ Do (step.Claim W1) ∷ []
moves side DropRead = Do (step.Apply act.Drop) ∷ []
moves side (Refuse code) = Do (step.Apply (act.Refuse code)) ∷ []
moves side (Retire direction name) = freeing side (direction_by direction) name ∷ []
moves side (RetireFree direction name) = []
moves side Restart = Do (step.Restart side) ∷ []
moves side (Resume config state ms content) = with_restart config side []
moves side (ResumeSized config state sizes) = with_restart config side []
moves side Fails = []

-- ---- what the program promises

-- what was kept of an end is this state, which reads as its restart, and these memories, in
-- whatever order they are told; nothing happened at it since, and a number is left for a start
--
-- Assumed: Memories, names and clocks survive a restart: what a call changes of them is saved,
-- whole or not at all, before anything that follows from it is sent or handed on; the promise
-- is about the calls that no reset undid.
pub record IsKept (c : Config) (e : End) (config : Config) (state : List ℕ)
    (kept : Kept) : Type 0 where
  pub own : Own
  pub configured : config ≡ own_config own c
  pub state_is : state ≡ state_spelled e.node
  pub reads : ReadsAsRestarted e
  pub number_left : e.node.at.boot + 1 < 2 ^ 64
  pub memories : kept ≡ e.memories

-- the end of a side
abbrev pub end_of : Side → (on_ground on_craft : End) → End
end_of Ground g k = g
end_of Craft g k = k

-- A name's numbers and octets are of their types. Octets that are handed over were put out by the
-- other end and may come still, or are no part and no request. Octets that a request is given are
-- those that the program's memories have where it reads. A name is freed at its receiver if it
-- is over, and at its sender after that, and none of its parts waits at its sender; or it is free
-- there as `lpt_end_name` tells it. An end is restored from what was kept of it, in a configuration
-- that is the same but for the clock and limits. What an end did and wasn't kept is no call:
-- nothing of it was acted on or sent.
abbrev pub Promises : Config → Pair → (on_ground on_craft : End) → Side → Call → Type 0
Promises c p g k side (Open name m) = IsAct (act.Open (direction_from side) name m)
Promises c p g k side (Part name n) = IsAct (act.Send (direction_from side) name n)
Promises c p g k side (Plain source flags service subtype body) =
    IsAct (act.Plain source flags service subtype body)
Promises c p g k side (Finish name) = IsAct (act.Finish (direction_from side) name)
Promises c p g k side LetGo = ⊤
Promises c p g k side (Packet b) = MayCome c p.ends (direction_to side) b
Promises c p g k side Expire = ⊤
Promises c p g k side (GiveUp name) = ⊤
Promises c p g k side Tick = ⊤
Promises c p g k side (Rebase ticks) = ⊤
Promises c p g k side Read = ⊤
Promises c p g k side Execute = ⊤
Promises c p g k side (ExecuteGiven octets) =
    FrontHolds (head_of (end_of side g k).node.at.jobs.jobs) p.ends.memories octets
Promises c p g k side Drop = ⊤
Promises c p g k side DropRead = ⊤
Promises c p g k side (Refuse code) = ⊤
Promises c p g k side (Retire direction name) =
    CanMove c p (freeing side (direction_by direction) name)
    × NoneWaits p.ends (direction_by direction) name g k
Promises c p g k side (RetireFree direction name) =
    name_state (end_of side g k).side (end_of side g k).node.at (direction_by direction) name
    ≡ known.Free
Promises c p g k side Restart = ⊤
Promises c p g k side (Resume config state ms content) =
    IsKept c (end_of side g k) config state (memories_of (end_of side g k).side ms content)
Promises c p g k side (ResumeSized config state sizes) =
    IsKept c (end_of side g k) config state (kept_as sizes)
Promises c p g k side Fails = ⊤

-- ---- the law

-- the moves of a call of ground can happen, and its end is the one after them
abbrev pub IsMoveOfGround : Config → Pair → End → End → Call → Type 0
IsMoveOfGround c p g k call =
    (new : End)
    → IsDone call g new
    → Promises c p g k Ground call
    → CanAll c p (moves Ground call) × AreEndsOf c (after_all c p (moves Ground call)) new k

-- the same of the spacecraft
abbrev pub IsMoveOfCraft : Config → Pair → End → End → Call → Type 0
IsMoveOfCraft c p g k call =
    (new : End)
    → IsDone call k new
    → Promises c p g k Craft call
    → CanAll c p (moves Craft call) × AreEndsOf c (after_all c p (moves Craft call)) g new

-- whatever call of which end
abbrev pub CallsAreMoves : Type 0
CallsAreMoves =
    (c : Config) (p : Pair) (g k : End)
    → AreEndsOf c p g k
    → (call : Call)
    → IsMoveOfGround c p g k call × IsMoveOfCraft c p g k call
