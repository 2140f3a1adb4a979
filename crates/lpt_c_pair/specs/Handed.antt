-- What a program copies out of an end is what the log of the two ends apart says.
use Rattle.std.specs.Prelude.{◌≡◌, ℕ, List, [], ◌∷◌, Ok, Option, Some, ⊤}
use Rattle.std.specs.List.{slice_get}
use Rattle.std.specs.Option.{option_map}
use Rattle.lpt_acts.specs.Acts as act
use Rattle.lpt_apart.specs.Ends.{Left, Released, Log, with_report}
use Rattle.lpt_apart.specs.TwoEnds.{IsDue, waiting}
use Rattle.lpt_c_end.specs.Accesses.{IsAppliedGiven, first_read}
use Rattle.lpt_c_end.specs.Calls.{IsApplied, IsTold, released_of as copied}
use Rattle.lpt_c_end.specs.declared.end.End.{End}
use Rattle.lpt_c_end.specs.declared.words.LptApplied.{LptApplied}
use Rattle.lpt_c_end.specs.declared.words.LptOutcome.{LptOutcome}
use Rattle.lpt_c_end.specs.Words.{applied_words, words}
use Rattle.lpt_c_pair.specs.Pairs.{Call, Execute, ExecuteGiven, Packet, Resume, ResumeSized, end_of}
use Rattle.lpt_c_pair.specs.Runs.{CallTurn, Standing, CanTurnBy, CanStand, turned_by, stood, KeepsThePromise}
use Rattle.lpt_events.specs.Sides.{direction_to}
use Rattle.lpt_events.specs.declared.applied.Applied.{Applied}
use Rattle.lpt_events.specs.declared.applied.Applied.TheVariants.{Done}
use Rattle.lpt_events.specs.declared.config.Config.{Config}
use Rattle.lpt_events.specs.declared.outcome.Outcome.{Outcome}
use Rattle.lpt_events.specs.declared.side.Side.{Side}
use Rattle.lpt_events.specs.declared.side.Side.TheVariants.{Craft}
use Rattle.lpt_memory.specs.Memories.{Contents}
use Rattle.lpt_memory.specs.Readings.{Source}
use Rattle.lpt_model.specs.State.{released_of}
use Rattle.lpt_packet.specs.Names.{Name}

-- A message that a program copies out of an end to which a packet was handed: what the call told of
-- the packet names a transaction, or none; the log has, as its newest fact, that the message was
-- released of it; and that was due. So it is the message last opened under that name at the other
-- end, or a request that ground asked.
pub record IsHanded (side : Side) (told : LptOutcome) (m : List ℕ) (before after : Log)
    : Type 0 where
  pub outcome : Outcome
  pub says : told ≡ words outcome
  pub log : after ≡ Released (released_of (direction_to side) outcome) m ∷ before
  pub due : IsDue (Released (released_of (direction_to side) outcome) m) before

-- `lpt_end_packet` answered 0 and told this, and `lpt_end_released` copies this then
abbrev pub MessagesAreHanded : Type 0
MessagesAreHanded =
    (c : Config) (first : Contents) (s : Standing) (side : Side) (b : List ℕ) (new : End)
    (told : LptOutcome) (m : List ℕ)
    → KeepsThePromise c first s
    → KeepsThePromise c first (turned_by c s side (Packet b) new)
    → CanTurnBy c s side (Packet b) new
    → IsTold b told (end_of side s.on_ground s.on_craft)
    → copied (Some new) ≡ Ok m
    → IsHanded side told m s.pair.ends.log (turned_by c s side (Packet b) new).pair.ends.log

-- a call takes no octets, and doesn't make its end again
abbrev pub LeavesReleased : Call → Type 0
LeavesReleased (Packet b) = ⊥
LeavesReleased (Resume config state ms content) = ⊥
LeavesReleased (ResumeSized config state sizes) = ⊥
LeavesReleased call = ⊤

-- so does none of these calls of the end of a side
abbrev pub AllLeave : Side → List CallTurn → Type 0
AllLeave side [] = ⊤
AllLeave side (t ∷ ts) = AllLeave side ts × (t.side ≡ side → LeavesReleased t.call)

-- it did, and after such calls `lpt_end_released` copies this
abbrev pub MessagesStay : Type 0
MessagesStay =
    (c : Config) (first : Contents) (s : Standing) (side : Side) (b : List ℕ) (new : End)
    (told : LptOutcome) (ts : List CallTurn) (m : List ℕ)
    → KeepsThePromise c first s
    → KeepsThePromise c first (turned_by c s side (Packet b) new)
    → CanTurnBy c s side (Packet b) new
    → IsTold b told (end_of side s.on_ground s.on_craft)
    → CanStand c (turned_by c s side (Packet b) new) ts
    → AllLeave side ts
    → copied (Some (end_of side
    (stood c (turned_by c s side (Packet b) new) ts).on_ground
    (stood c (turned_by c s side (Packet b) new) ts).on_craft)) ≡ Ok m
    → IsHanded side told m s.pair.ends.log (turned_by c s side (Packet b) new).pair.ends.log

-- What a call told of an execution: the log has, as its newest fact, that the oldest request was
-- executed, behind the opening of a report of data, if one was opened; one waited, and the
-- oldest of those that did is what was read at this end; and if what the call told names a
-- transaction, that report has this name.
pub record IsExecutedSo (e : End) (told : LptApplied) (before after : Log) : Type 0 where
  pub request : Source
  pub read : first_read e ≡ Some request
  pub oldest : slice_get (waiting before) 0 ≡ Some request.message
  pub applied : Applied
  pub report : Option (Name × List ℕ)
  pub says : told ≡ applied_words applied
  pub log : after ≡ Left act.Execute ∷ with_report before report
  pub due : IsDue (Left act.Execute) (with_report before report)
  pub named : (name : Name)
      → applied ≡ Done (Some name)
      → option_map (λ x. x.0) report ≡ Some name

-- `lpt_end_execute` answered 0 and told this
abbrev pub ExecutionsAreTold : Type 0
ExecutionsAreTold =
    (c : Config) (first : Contents) (s : Standing) (new : End) (told : LptApplied)
    → KeepsThePromise c first s
    → KeepsThePromise c first (turned_by c s Craft Execute new)
    → CanTurnBy c s Craft Execute new
    → IsApplied told s.on_craft
    → IsExecutedSo s.on_craft told s.pair.ends.log
    (turned_by c s Craft Execute new).pair.ends.log

-- `lpt_end_execute_given` did
abbrev pub GivenExecutionsAreTold : Type 0
GivenExecutionsAreTold =
    (c : Config) (first : Contents) (s : Standing) (octets : List ℕ) (new : End)
    (told : LptApplied)
    → KeepsThePromise c first s
    → KeepsThePromise c first (turned_by c s Craft (ExecuteGiven octets) new)
    → CanTurnBy c s Craft (ExecuteGiven octets) new
    → IsAppliedGiven octets told s.on_craft
    → IsExecutedSo s.on_craft told s.pair.ends.log
    (turned_by c s Craft (ExecuteGiven octets) new).pair.ends.log
