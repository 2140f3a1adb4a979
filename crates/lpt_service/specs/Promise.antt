-- What every run of the service keeps, said of its steps alone.
use Rattle.std.specs.Prelude.{◌≡◌, ℕ, ◌+◌, ◌≤◌, Bool, false, ◌&&◌, if◌then◌else◌, List, [], ◌∷◌, ◌++◌, Option, Some, None, ⊤, ◌⊎◌, Contains}
use Rattle.lpt_packet.specs.declared.direction.Direction.{Direction}
use Rattle.lpt_packet.specs.Names.{Name, same_name}
use Rattle.lpt_acts.specs.Acts as act
use Rattle.lpt_events.specs.Lanes.{same_direction}
use Rattle.lpt_memory.specs.Meanings.{meaning}
use Rattle.lpt_memory.specs.Memories.{sizes_of}
use Rattle.lpt_service.specs.Service.{Octets, Memories, Service, start, memories_after, Step, Open, Send, Release, ReleaseRequest, Leave, FreeName, Can, to_execute, IsRun}

-- whether a step opens this name
abbrev pub opens : Direction → Name → Step → Bool
opens d name (Open e other message) = same_direction e d && same_name other name
opens d name _ = false

-- whether a step releases the large message of this name
abbrev pub releases : Direction → Name → Step → Bool
releases d name (Release e other message) = same_direction e d && same_name other name
releases d name _ = false

-- how many of these steps pass a test
abbrev pub count : (Step → Bool) → List Step → ℕ
count test [] = 0
count test (step ∷ steps) = if test step then count test steps + 1 else count test steps

-- what was last opened under a name after a step, and not freed
abbrev pub opened_after : Direction → Name → Step → Option Octets → Option Octets
opened_after d name (Open e other message) before =
    if same_direction e d && same_name other name then Some message else before
opened_after d name (FreeName e other) before =
    if same_direction e d && same_name other name then None else before
opened_after d name _ before = before

-- what was last opened under a name by these steps, and not freed, if this was before
abbrev pub last_opened : Direction → Name → Option Octets → List Step → Option Octets
last_opened d name before [] = before
last_opened d name before (step ∷ steps) =
    last_opened d name (opened_after d name step before) steps

-- the plain requests that these steps send
abbrev pub sent_by : List Step → List Octets
sent_by [] = []
sent_by (Send request ∷ steps) = request ∷ sent_by steps
sent_by (_ ∷ steps) = sent_by steps

-- the requests that these steps release at the spacecraft, in order
abbrev pub requests_of : List Step → List Octets
requests_of [] = []
requests_of (Release d name message ∷ steps) = to_execute d message ++ requests_of steps
requests_of (ReleaseRequest request ∷ steps) = request ∷ requests_of steps
requests_of (_ ∷ steps) = requests_of steps

-- the requests that leave the queue by these steps, in order
abbrev pub left_of : List Step → List Octets
left_of [] = []
left_of (Leave how request ∷ steps) = request ∷ left_of steps
left_of (_ ∷ steps) = left_of steps

-- those of them that are executed
abbrev pub executed_of : List Step → List Octets
executed_of [] = []
executed_of (Leave act.Execute request ∷ steps) = request ∷ executed_of steps
executed_of (_ ∷ steps) = executed_of steps

-- some of these, in the same order, none of them twice
abbrev pub AreOf : List Octets → List Octets → Type 0
AreOf [] ys = ⊤
AreOf (x ∷ xs) [] = ⊥
AreOf (x ∷ xs) (y ∷ ys) = ((x ≡ y) × AreOf xs ys) ⊎ AreOf (x ∷ xs) ys

-- what requests leave of the memories, executed one after the other
abbrev pub left_by : (apid : ℕ) → List Octets → Memories → Memories
left_by apid [] ms = ms
left_by apid (request ∷ more) ms =
    left_by apid more (memories_after act.Execute (meaning apid (sizes_of ms) request) ms)

-- A name is released no more often than it is opened. What leaves the queue was released before, in
-- this order, each release at most once; what is executed is of that. The memories are what this
-- leaves of the first ones.
pub record Keeps (apid : ℕ) (first : Memories) (steps : List Step) (s : Service) : Type 0 where
  pub once : (d : Direction) (name : Name)
      → count (releases d name) steps ≤ count (opens d name) steps
  pub in_order : AreOf (left_of steps) (requests_of steps)
  pub executed : AreOf (executed_of steps) (left_of steps)
  pub memories : s.memories ≡ left_by apid (executed_of steps) first

-- Each run of the service from its start keeps that. A large message is then released only if it
-- is the one last opened under its name, and a plain request only if it was sent.
pub record RunsKeepThePromise : Type 0 where
  pub keeps : (apid : ℕ) (first : Memories) (steps : List Step) (s : Service)
      → IsRun apid (start first) steps s
      → Keeps apid first steps s
  pub last : (apid : ℕ) (first : Memories) (steps : List Step) (s : Service) (d : Direction)
      (name : Name) (message : Octets)
      → IsRun apid (start first) steps s
      → Can s (Release d name message)
      → last_opened d name None steps ≡ Some message
  pub asked : (apid : ℕ) (first : Memories) (steps : List Step) (s : Service) (request : Octets)
      → IsRun apid (start first) steps s
      → Can s (ReleaseRequest request)
      → Contains (sent_by steps) request
