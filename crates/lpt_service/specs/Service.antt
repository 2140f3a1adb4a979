-- The service that two nodes give their users, on one page: a machine with a state and eight steps.
-- A ground node and a spacecraft send each other messages over a link that loses, repeats, delays,
-- reorders and damages packets, and either may be restarted at any moment. Whatever happens, users
-- see only these steps, and each only when it can happen; most events of the link make none. So:
-- - A large message is released only if it is the very one that the other node last opened under
--   its name in its direction, and once for each opening.
-- - A plain request is released only if ground sent it, though as often as the link repeats it.
-- - Requests leave in order of release, each release at most once: executed, refused or dropped.
--   Those that wait when the spacecraft is restarted are lost. Only the executed change a memory.
--
-- It isn't said when a step happens, or that it does. It is assumed that damage shows, and that a
-- name is freed only when no part of its message is on its way. Read `(x : T) × P` as there is an x
-- with P, `¬` as not, `x ∷ xs` as x before xs, `record s { f = x }` as s with its field f changed.
use Rattle.std.specs.Prelude.{◌≡◌, ℕ, ◌+◌, ◌==◌, ◌&&◌, if◌then◌else◌, List, [], ◌∷◌, ◌++◌, length, take, drop, ⊤, Contains}
use Rattle.lpt_packet.specs.declared.direction.Direction.{Direction}
use Rattle.lpt_packet.specs.declared.direction.Direction.TheVariants.{Up, Down}
use Rattle.lpt_packet.specs.Names.{Name, same_name}
use Rattle.lpt_events.specs.Lanes.{same_direction}
use Rattle.lpt_acts.specs.Acts.{Leaving, Execute}
use Rattle.lpt_memory.specs.declared.request.Area.{Area}
use Rattle.lpt_memory.specs.Meanings.{Meaning, Load, meaning}
use Rattle.lpt_memory.specs.Memories.{sizes_of}

-- a message, a request or the content of a memory
abbrev pub Octets : Type 0
Octets = List ℕ

-- the identifier and the content of each memory
abbrev pub Memories : Type 0
Memories = List (ℕ × Octets)

-- ---- the state

-- What stands under a name (a source and an identifier) in a direction: nothing; a message that was
-- opened, and may still be released; or one that is over, as it was released or given up.
pub data Slot : Type 0 where
  Free : Slot
  Opened : (message : Octets) → Slot
  Over : Slot

-- what a node released to its user: a large message, or a plain request, which goes up unnamed
pub data Released : Type 0 where
  Large : Direction → Name → (message : Octets) → Released
  Request : (packet : Octets) → Released

-- What stands under each name; the plain requests that ground sent, all that was released, and the
-- requests that the spacecraft released and that wait there, each oldest first; its memories.
pub record Service : Type 0 where
  pub names : Direction → Name → Slot
  pub sent : List Octets
  pub released : List Released
  pub waiting : List Octets
  pub memories : Memories

-- before anything has happened, if these are the first memories
abbrev pub start : Memories → Service
start first =
    record { names = λ d name. Free; sent = []; released = []; waiting = []; memories = first }

-- ---- what a request makes of the memories

-- octets put over a content from an address on
abbrev pub put : (content : Octets) → (address : ℕ) → Octets → Octets
put content address octets =
    take address content ++ octets ++ drop (address + length octets) content

-- areas put over a content, one after the other
abbrev pub put_each : (content : Octets) → List Area → Octets
put_each content [] = content
put_each content (a ∷ areas) = put_each (put content a.address a.octets) areas

-- the memories after a load into the one of this identifier
abbrev pub with_areas : (id : ℕ) → List Area → Memories → Memories
with_areas id areas [] = []
with_areas id areas (m ∷ ms) =
    if m.0 == id then (m.0, put_each m.1 areas) ∷ ms else m ∷ with_areas id areas ms

-- What a request asks is its meaning (ECSS-E-ST-70-41C, service 6). A load that is executed changes
-- one memory; with any fault (an area out of range, a wrong checksum) it is no load.
abbrev pub memories_after : Leaving → Meaning → Memories → Memories
memories_after Execute (Load id areas) ms = with_areas id areas ms
memories_after how asked ms = ms

-- ---- the steps

-- what can happen
pub data Step : Type 0 where
  -- a message is opened under a name: by a user, or by the spacecraft as its answer to a request
  Open : Direction → Name → (message : Octets) → Step
  -- ground's user sends a plain request
  Send : (request : Octets) → Step
  -- the other node releases a large message to its user
  Release : Direction → Name → (message : Octets) → Step
  -- the spacecraft releases a plain request
  ReleaseRequest : (request : Octets) → Step
  -- the other node gives a message up, of which parts are missing
  GiveUp : Direction → Name → Step
  -- the spacecraft's oldest request leaves its queue: executed, refused with a code, or dropped
  Leave : Leaving → (request : Octets) → Step
  -- a name is freed for another message
  FreeName : Direction → Name → Step
  -- the spacecraft is restarted; a restart of ground is no step, as it changes nothing that is seen
  Restart : Step

-- when a step can happen
abbrev pub Can : Service → Step → Type 0
Can s (Open d name message) = s.names d name ≡ Free
Can s (Send request) = ⊤
Can s (Release d name message) = s.names d name ≡ Opened message
Can s (ReleaseRequest request) = Contains s.sent request
Can s (GiveUp d name) = (message : Octets) × (s.names d name ≡ Opened message)
Can s (Leave how request) = (later : List Octets) × (s.waiting ≡ request ∷ later)
Can s (FreeName d name) = ¬ (s.names d name ≡ Free)
Can s Restart = ⊤

-- the names, where this now stands under one of them
abbrev pub with_slot : Direction → Name → Slot → (Direction → Name → Slot) → Direction → Name → Slot
with_slot d name now names e other =
    if same_direction d e && same_name name other then now else names e other

-- the large message that waits for execution, if it went up; what goes down is for ground's user
abbrev pub to_execute : Direction → (message : Octets) → List Octets
to_execute Up message = message ∷ []
to_execute Down message = []

-- what a step leaves, at a spacecraft with this APID
abbrev pub after : (apid : ℕ) → Service → Step → Service
after apid s (Open d name message) = record s { names = with_slot d name (Opened message) s.names }
after apid s (Send request) = record s { sent = s.sent ++ request ∷ [] }
after apid s (Release d name message) = record s {
  names = with_slot d name Over s.names;
  released = s.released ++ Large d name message ∷ [];
  waiting = s.waiting ++ to_execute d message;
}
after apid s (ReleaseRequest request) = record s {
  released = s.released ++ Request request ∷ [];
  waiting = s.waiting ++ request ∷ [];
}
after apid s (GiveUp d name) = record s { names = with_slot d name Over s.names }
after apid s (Leave how request) = record s {
  waiting = drop 1 s.waiting;
  memories = memories_after how (meaning apid (sizes_of s.memories) request) s.memories;
}
after apid s (FreeName d name) = record s { names = with_slot d name Free s.names }
after apid s Restart = record s { waiting = [] }

-- these steps, one after the other, lead from a state to another; no step at all leaves it as it is
abbrev pub IsRun : (apid : ℕ) → Service → List Step → Service → Type 0
IsRun apid s [] t = t ≡ s
IsRun apid s (step ∷ steps) t = Can s step × IsRun apid (after apid s step) steps t
