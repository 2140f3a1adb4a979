-- Two ends behind handles, when the spacecraft's program has the memories: what it writes, and
-- what they are.
use Rattle.std.specs.Prelude.{◌≡◌, ℕ, ◌+◌, List, [], ◌∷◌, ◌++◌, length, Ok, Err, Some, ⊤}
use Rattle.lpt_apart.specs.TwoEnds.{later, Own, own_config, requests_executed}
use Rattle.lpt_c_end.specs.Accesses.{IsAccess, written_by}
use Rattle.lpt_c_end.specs.Changes.{IsNew}
use Rattle.lpt_c_end.specs.Codes.{nothing}
use Rattle.lpt_c_end.specs.Sizes.{sizes_said, IsNewSized}
use Rattle.lpt_c_end.specs.declared.accessing.LptAccess.{LptAccess}
use Rattle.lpt_c_end.specs.declared.end.End.{End}
use Rattle.lpt_c_end.specs.declared.memories.LptMemory.{LptMemory}
use Rattle.lpt_c_end.specs.declared.sizing.LptSize.{LptSize}
use Rattle.lpt_c_pair.specs.Pairs.{Call, Drop, DropRead, ExecuteGiven, IsDone, Refuse, Restart, Resume, ResumeSized}
use Rattle.lpt_c_pair.specs.Runs.{CallTurn, Standing, standing_begun, turned_by, CanTurnBy, KeepsThePromise}
use Rattle.lpt_events.specs.Configs.{IsConfig}
use Rattle.lpt_events.specs.declared.config.Config.{Config}
use Rattle.lpt_events.specs.declared.side.Side.{Side}
use Rattle.lpt_events.specs.declared.side.Side.TheVariants.{Ground, Craft}
use Rattle.lpt_jobs.specs.Jobs.{head_of}
use Rattle.lpt_journal.specs.Jobs.{left_by}
use Rattle.lpt_memory.specs.Memories.{Contents, memories_loaded, sizes_of}
use Rattle.lpt_node.specs.Jobs.{FrontHolds}

-- ---- what is written

-- a write, as C is told it: the access, and its octets
pub record ToldWrite : Type 0 where
  pub access : LptAccess
  pub octets : List ℕ

-- memories over which these are written, one after the other
abbrev pub put_told : List ToldWrite → Contents → Contents
put_told [] ms = ms
put_told (t ∷ ts) ms =
    put_told ts
    (memories_loaded t.access.memory (record { address = t.access.address; octets = t.octets } ∷ [])
    ms)

-- `lpt_end_access` and `lpt_end_access_octets` tell this by that number
pub record IsTold (number : ℕ) (t : ToldWrite) (e : End) : Type 0 where
  pub access : IsAccess number t.access e
  pub octets : written_by number (Some e) ≡ Ok t.octets

-- they tell these by the numbers from this on, and by the next that there is nothing
abbrev pub AreTold : (number : ℕ) → List ToldWrite → End → Type 0
AreTold number [] e = written_by number (Some e) ≡ Err nothing
AreTold number (t ∷ ts) e = IsTold number t e × AreTold (number + 1) ts e

-- ---- a program

-- Two ends behind handles, and the memories that the spacecraft's program has. It has written
-- something ahead: what the oldest request asks for, which isn't executed yet. And it owes
-- something: what executed requests ask for, and what it hasn't written whole. Before the first
-- write ahead the memories stood like this.
pub record Program : Type 0 where
  pub ends : Standing
  pub memories : Contents
  pub ahead : List ToldWrite
  pub owed : List ToldWrite
  pub stood : Contents

-- A call of an end answered 0; a write that the oldest request asks for is made ahead;
-- `lpt_end_execute_given` answered 0, after which these writes are owed; memories became these,
-- as some of what is owed was written; all that is owed was written, in its order; or what stood
-- where something was written ahead is put back.
pub data Act : Type 0 where
  Calls : CallTurn → Act
  Writes : ToldWrite → Act
  Gives : (octets : List ℕ) → (owed : List ToldWrite) → (new : End) → Act
  Puts : (memories : Contents) → Act
  Settles : Act
  TakesBack : Act

-- what stood there, if this was written ahead over it, or these memories if nothing was
abbrev pub stood_by : List ToldWrite → (memories stood : Contents) → Contents
stood_by [] ms stood = ms
stood_by (t ∷ ts) ms stood = stood

-- what an act makes of them
abbrev pub program_after : Config → Program → Act → Program
program_after c p (Calls t) = record p { ends = turned_by c p.ends t.side t.call t.new }
program_after c p (Writes t) =
    record p {
      memories = put_told (t ∷ []) p.memories;
      ahead = p.ahead ++ t ∷ [];
      stood = stood_by p.ahead p.memories p.stood;
    }
program_after c p (Gives octets owed new) = record {
  ends = turned_by c p.ends Craft (ExecuteGiven octets) new;
  memories = p.memories;
  ahead = [];
  owed = owed;
  stood = p.stood;
}
program_after c p (Puts ms) = record p { memories = ms }
program_after c p Settles = record p { memories = put_told p.owed p.memories; owed = [] }
program_after c p TakesBack =
    record p { memories = stood_by p.ahead p.memories p.stood; ahead = [] }

-- Requests are executed by an act of their own. If one is dropped or refused, or if the
-- spacecraft's end is restarted or made again, nothing was written ahead, or it was put back; what
-- is owed is known still.
--
-- Assumed: A C program that has the memories itself makes each write that it is told, whole, before
-- it executes another request, gives each execution the octets that stand there, puts back what it
-- wrote of a request before it drops or refuses it, and restarts its end only when nothing is
-- written ahead.
abbrev pub MayCall : Program → Side → Call → Type 0
MayCall p side (ExecuteGiven octets) = ⊥
MayCall p Craft Drop = p.ahead ≡ []
MayCall p Craft DropRead = p.ahead ≡ []
MayCall p Craft (Refuse code) = p.ahead ≡ []
MayCall p Craft Restart = p.ahead ≡ []
MayCall p Craft (Resume config state ms content) = p.ahead ≡ []
MayCall p Craft (ResumeSized config state sizes) = p.ahead ≡ []
MayCall p side call = ⊤

-- Nothing is owed of the requests before. What is owed from now on is what the calls tell of the
-- oldest request besides what was written ahead. The octets are those that the program's memories
-- have where it reads.
--
-- Assumed: A C program that has the memories itself makes each write that it is told, whole, before
-- it executes another request, gives each execution the octets that stand there, puts back what it
-- wrote of a request before it drops or refuses it, and restarts its end only when nothing is
-- written ahead.
pub record IsGiven (p : Program) (octets : List ℕ) (owed : List ToldWrite) : Type 0 where
  pub settled : p.owed ≡ []
  pub told : AreTold (length p.ahead) owed p.ends.on_craft
  pub held : FrontHolds (head_of p.ends.on_craft.node.at.jobs.jobs) p.memories octets

-- An act can be done: the program keeps what it promises of a call. It writes ahead what it is told
-- next, and nothing while it owes something. While it does, its memories change only if all
-- that is owed makes the same of them.
--
-- Assumed: A C program that has the memories itself keeps each load's writes, or the octets that
-- they replace, before it writes (redo or undo), and each other octet that a torn write may change;
-- nothing else writes there.
abbrev pub CanAct : Config → Program → Act → Type 0
CanAct c p (Calls t) = CanTurnBy c p.ends t.side t.call t.new × MayCall p t.side t.call
CanAct c p (Writes t) = (p.owed ≡ []) × IsTold (length p.ahead) t p.ends.on_craft
CanAct c p (Gives octets owed new) =
    IsDone (ExecuteGiven octets) p.ends.on_craft new × IsGiven p octets owed
CanAct c p (Puts ms) = put_told p.owed ms ≡ put_told p.owed p.memories
CanAct c p Settles = ⊤
CanAct c p TakesBack = ⊤

-- after these acts, the newest of which stands first
abbrev pub came_by : Config → Program → List Act → Program
came_by c p [] = p
came_by c p (x ∷ xs) = program_after c (came_by c p xs) x

-- each act can be done after those before it
abbrev pub CanActAll : Config → Program → List Act → Type 0
CanActAll c p [] = ⊤
CanActAll c p (x ∷ xs) = CanActAll c p xs × CanAct c (came_by c p xs) x

-- ---- the law

-- two new ends, and memories that nothing was written over
abbrev pub program_started : Config → Contents → (ticks_ground : ℕ) → (own_craft : Own)
    → (on_ground on_craft : End)
    → Program
program_started c first a b g k =
    record {
      ends = standing_begun c first a b g k;
      memories = first;
      ahead = [];
      owed = [];
      stood = first;
    }

-- The ends keep the promise. The program's memories, once what is owed is written, are their first
-- content, changed by the executed requests in order of release, and by what was written ahead.
pub record KeepsItsMemories (c : Config) (first : Contents) (p : Program) : Type 0 where
  pub ends : KeepsThePromise c first p.ends
  pub memories : put_told p.owed p.memories
      ≡ put_told p.ahead (left_by c.apid (requests_executed p.ends.pair.ends.log) first)

-- whatever was done with two new ends, and with memories that begin so
abbrev pub ProgramsKeepTheirMemories : Type 0
ProgramsKeepTheirMemories =
    (c : Config) (a : ℕ) (b : Own)
    (none : List LptMemory) (nothing : List ℕ) (sizes : List LptSize) (first : Contents)
    (g k : End) (xs : List Act)
    → IsConfig (later a c)
    → IsConfig (own_config b c)
    → sizes_said sizes ≡ sizes_of first
    → IsNew Ground (later a c) none nothing g
    → IsNewSized (own_config b c) sizes k
    → CanActAll c (program_started c first a b g k) xs
    → KeepsItsMemories c first (came_by c (program_started c first a b g k) xs)
