-- What is told of what the spacecraft's end does.
use Rattle.std.specs.Prelude.{◌≡◌, ℕ, zero, suc, List, [], ◌∷◌, ◌++◌, length, slice_get, if◌then◌else◌, Option, Some, None, ⊤}
use Rattle.std.specs.Option.{option_map}
use Rattle.lpt_events.specs.Arrivals.{arrival}
use Rattle.lpt_events.specs.declared.config.Config.{Config}
use Rattle.lpt_events.specs.declared.outcome.Outcome.{Outcome}
use Rattle.lpt_events.specs.declared.outcome.Outcome.TheVariants.{Released, Broken}
use Rattle.lpt_events.specs.declared.side.Side.TheVariants.{Craft}
use Rattle.lpt_ledger.specs.LeastFree.{least_free_in}
use Rattle.lpt_ledger.specs.Marks.{Marks}
use Rattle.lpt_jobs.specs.Jobs.{Head, NoJob, NotReady, Ready, head_of}
use Rattle.lpt_memory.specs.Given.{accesses}
use Rattle.lpt_memory.specs.declared.given.Access.{Access}
use Rattle.lpt_memory.specs.Meanings.{Meaning}
use Rattle.lpt_memory.specs.Memories.{Contents}
use Rattle.lpt_memory.specs.Readings.{source_meaning}
use Rattle.lpt_node.specs.declared.accepted.Accepted.{Accepted}
use Rattle.lpt_node.specs.Accepting.{packet_accepted}
use Rattle.lpt_node.specs.Jobs.{Execution, job_executed}
use Rattle.lpt_node.specs.Nodes.{NodeData}
use Rattle.lpt_node.specs.Times.{due, refusal_tick}
use Rattle.lpt_packet.specs.Names.{Name}
use Rattle.lpt_packet.specs.declared.direction.Direction.{Direction}
use Rattle.lpt_packet.specs.declared.direction.Direction.TheVariants.{Up, Down}
use Rattle.lpt_part.specs.Splitting.{part_count}
use Rattle.lpt_spacecraft.specs.Serving.{Onboard, first_expired, read_over, ticked_by}
use Rattle.lpt_spacecraft.specs.declared.told.Done.{Done}
use Rattle.lpt_spacecraft.specs.declared.told.Taken.{Taken}
use Rattle.lpt_spacecraft.specs.declared.told.Told.{Told}
use Rattle.lpt_spacecraft.specs.declared.told.Told.TheVariants.{Took, Did, GaveUp, Freed, UsedUp, Skipped}

-- what is known to have been told grows by these
abbrev pub Hears : (old new : Option (List Told)) → List Told → Type 0
Hears None new ts = ⊤
Hears (Some xs) None ts = ⊥
Hears (Some xs) (Some ys) ts = ys ≡ xs ++ ts

-- ---- what an end has done

-- the name of a message that was opened, and its number of parts
abbrev pub sent_in : Config → Option (Name × List ℕ) → Option (Name × ℕ)
sent_in c None = None
sent_in c (Some x) = Some (x.0, part_count (length x.1) c.part_size)

-- the memory of an access, if it writes
abbrev pub written_of : Option Access → Option ℕ
written_of None = None
written_of (Some a) = if a.is_write then Some a.memory else None

-- the memory that a message writes to, if it does: that of its first access
abbrev pub written_by : Meaning → Option ℕ
written_by m = written_of (slice_get (accesses m) 0)

-- the same of what stands at the front of the jobs
abbrev pub written_at : Head → Option ℕ
written_at NoJob = None
written_at NotReady = None
written_at (Ready r) = written_by (source_meaning r)

-- a request was executed, which wrote to this memory, or to none
abbrev pub done_in : Config → Option ℕ → Execution → Done
done_in c wrote x = record {
  applied = x.applied;
  reports = length x.packets;
  sent = sent_in c x.opened;
  wrote = wrote;
}

-- the request that stands at the front is executed
abbrev pub front_done : Config → Contents → NodeData → Done
front_done c ms d = done_in c (written_at (head_of d.jobs.jobs)) (job_executed c d ms).0.1

-- the request that waits is read and executed
abbrev pub work_done : Config → Onboard → Done
work_done c s = front_done c s.memories (read_over c s.memories s.node)

-- the same, if something was released
abbrev pub done_if : Config → Onboard → Option (List ℕ) → Option Done
done_if c s None = None
done_if c s (Some m) = Some (work_done c s)

-- a packet was accepted, over these memories
abbrev pub taken_of : Config → Contents → NodeData × Accepted → Taken
taken_of c ms x = record {
  outcome = x.1.outcome;
  done = done_if c (record { node = x.0; memories = ms }) x.1.released;
}

-- a packet comes
abbrev pub taken_in : Config → Onboard → List ℕ → Taken
taken_in c s b =
    taken_of c s.memories (packet_accepted Craft c s.node (arrival Craft c.apid c.part_size b))

-- ---- what is told

-- what became of a request, if there was one
abbrev pub did : Option Done → List Told
did None = []
did (Some d) = Did d ∷ []

-- what became of a packet
abbrev pub took : Taken → List Told
took t = Took t.outcome ∷ did t.done

-- the reception of a name expired, if one did
abbrev pub gave_up : Option Name → List Told
gave_up None = []
gave_up (Some name) = GaveUp name ∷ []

-- the receptions that are due expire, k of them at most
abbrev pub first_given_up : Config → NodeData → (k : ℕ) → List Told
first_given_up c d zero = []
first_given_up c d (suc k) = first_given_up c d k ++ gave_up (due c (first_expired c d k).0)

-- a tick comes: the receptions that expire
abbrev pub given_up : Config → Onboard → List Told
given_up c s = first_given_up c (ticked_by s.node (refusal_tick s.node)) c.receptions

-- the name that a packet has used up, if its reception has ended
abbrev pub ended_by : Outcome → Option (Direction × Name)
ended_by (Released name len) = Some (Up, name)
ended_by (Broken name reason) = Some (Up, name)
ended_by _ = None

-- the name that this has used up, if it has
abbrev pub name_used : Told → Option (Direction × Name)
name_used (Took o) = ended_by o
name_used (Did d) = option_map (λ x. (Down, x.0)) d.sent
name_used (GaveUp name) = Some (Up, name)
name_used (Freed way name) = None
name_used (UsedUp way source) = None
name_used (Skipped place len) = None

-- what an end knows of the names of a direction
abbrev pub names_at : NodeData → Direction → Marks
names_at d Up = d.receiving.ledger
names_at d Down = d.sending.ledger

-- if a source has no free name left, that is told
abbrev pub none_left : Option Name → Direction → (source : ℕ) → List Told
none_left None way source = UsedUp way source ∷ []
none_left (Some name) way source = []

-- the same, of the source of a name that was used up, if one was
abbrev pub used_up : NodeData → Option (Direction × Name) → List Told
used_up d None = []
used_up d (Some x) = none_left (least_free_in (names_at d x.0) x.1.source) x.0 x.1.source

-- what has happened, with what is told behind each, at an end that came to this
abbrev pub all_noted : NodeData → List Told → List Told
all_noted d [] = []
all_noted d (t ∷ ts) = (t ∷ used_up d (name_used t)) ++ all_noted d ts
