-- What a pass puts by what it hears, and what has settled its requests.
use Rattle.std.specs.Prelude.{◌≡◌, ℕ, Bool, true, List, [], ◌∷◌, ◌++◌, slice_get, Option, Some, None, ⊤}
use Rattle.std.specs.Io.KnownBytes.{Appends}
use Rattle.lpt_pus.specs.Telemetry.{Telemetry}
use Rattle.lpt_ground.specs.declared.asked.Asked.{Asked}
use Rattle.lpt_ground.specs.declared.asked.Fate.TheVariants.{Waiting}
use Rattle.lpt_ground.specs.declared.asked.Terms.{Terms}
use Rattle.lpt_ground.specs.declared.carrying.Waited.{Waited}
use Rattle.lpt_ground.specs.declared.carrying.Waited.TheVariants as waits
use Rattle.lpt_ground.specs.declared.pass.End.TheVariants as ends
use Rattle.lpt_ground.specs.declared.pass.Step.{Step}
use Rattle.lpt_ground.specs.declared.pass.Step.TheVariants.{Put, Listen, Stop}
use Rattle.lpt_ground.specs.declared.telling.Said.TheVariants as said
use Rattle.lpt_ground.specs.Passes.{PassState, pass_closed, octets_heard, next_step, put, pass_waited}
use Rattle.lpt_ground.specs.Telling.{report_of, said_of}

-- ---- what an ear answers

-- that nothing has come, asked without waiting; a packet that came; that none did for the wait; or
-- that none will come any more
pub data Answer : Type 0 where
  Nothing : Answer
  Came : (octets : List ℕ) → Answer
  Quiet : Answer
  Over : Answer

-- what it is that a packet has come, or none has
abbrev pub ready_answer : Option (List ℕ) → Answer
ready_answer None = Nothing
ready_answer (Some o) = Came o

-- what it is that came while a pass listened
abbrev pub wait_answer : Waited → Answer
wait_answer waits.Quiet = Quiet
wait_answer waits.End = Over
wait_answer (waits.Packet o) = Came o

-- the packets among answers
abbrev pub packets_of : List Answer → List (List ℕ)
packets_of [] = []
packets_of (Nothing ∷ rest) = packets_of rest
packets_of (Came o ∷ rest) = o ∷ packets_of rest
packets_of (Quiet ∷ rest) = packets_of rest
packets_of (Over ∷ rest) = packets_of rest

-- these were answered, if that is known
abbrev pub Hears : (had has : Option (List Answer)) → List Answer → Type 0
Hears None has answers = ⊤
Hears (Some old) None answers = ⊥
Hears (Some old) (Some new) answers = new ≡ old ++ answers

-- an answer that is a packet is one of which this holds
abbrev pub Comes : (List ℕ → Type 0) → Answer → Type 0
Comes P Nothing = ⊤
Comes P (Came o) = P o
Comes P Quiet = ⊤
Comes P Over = ⊤

-- each of them is
abbrev pub AllCome : (List ℕ → Type 0) → List Answer → Type 0
AllCome P [] = ⊤
AllCome P (a ∷ rest) = Comes P a × AllCome P rest

-- unless nothing came for a wait, behind which a round begins, an ear that was told of the requests
-- stays so
abbrev pub StaysKept : Answer → (kept : Bool) → Type 0
StaysKept Nothing kept = kept ≡ true
StaysKept (Came o) kept = kept ≡ true
StaysKept Quiet kept = ⊤
StaysKept Over kept = kept ≡ true

-- ---- what a pass puts

-- once a pass that was to put a request, or to listen, got nothing
abbrev pub step_moved : PassState → Step → PassState
step_moved s (Put k) = put s k
step_moved s Listen = s
step_moved s (Stop e) = s

-- once it was answered so
abbrev pub state_answered : Terms → PassState → Answer → PassState
state_answered terms s Nothing = step_moved s (next_step s)
state_answered terms s (Came o) = octets_heard terms s o
state_answered terms s Quiet = pass_waited terms s
state_answered terms s Over = pass_closed s

-- once it was answered so, one answer after the other
abbrev pub come_to : Terms → PassState → List Answer → PassState
come_to terms s [] = s
come_to terms s (a ∷ rest) = come_to terms (state_answered terms s a) rest

-- the octets of a request, if there is one
abbrev pub octets_of : Option Asked → List ℕ
octets_of None = []
octets_of (Some a) = a.octets

-- what is written by a step, if nothing has come
abbrev pub written_by : PassState → Step → List ℕ
written_by s (Put k) = octets_of (slice_get s.asked k)
written_by s Listen = []
written_by s (Stop e) = []

-- what is written if it is answered so
abbrev pub written_at : PassState → Answer → List ℕ
written_at s Nothing = written_by s (next_step s)
written_at s (Came o) = []
written_at s Quiet = []
written_at s Over = []

-- what is written by these answers, one after the other
abbrev pub octets_written : Terms → PassState → List Answer → List ℕ
octets_written terms s [] = []
octets_written terms s (a ∷ rest) =
    written_at s a ++ octets_written terms (state_answered terms s a) rest

-- one answer was given, of such a packet if it is one, the pass came to that by it, and what it
-- wrote was written
pub record Stepped (P : List ℕ → Type 0) (terms : Terms) (s t : PassState)
    (had has : Option (List Answer)) (old new : Option (List ℕ)) : Type 0 where
  pub answer : Answer
  pub told : Hears had has (answer ∷ [])
  pub comes : Comes P answer
  pub came : t ≡ state_answered terms s answer
  pub written : Appends old new (written_at s answer)

-- the same of answers, one after the other
pub record Went (P : List ℕ → Type 0) (terms : Terms) (s t : PassState)
    (had has : Option (List Answer)) (old new : Option (List ℕ)) : Type 0 where
  pub answers : List Answer
  pub told : Hears had has answers
  pub comes : AllCome P answers
  pub came : t ≡ come_to terms s answers
  pub written : Appends old new (octets_written terms s answers)

-- ---- what has settled its requests

-- octets are a report of the pass that says that a request was carried out, and answers it if
-- something was asked
pub record Tells (terms : Terms) (a : Asked) (o : List ℕ) : Type 0 where
  pub report : Telemetry
  pub is_report : report_of terms o ≡ Some report
  pub says : said_of terms.starts report a ≡ Some said.Done

-- one of these packets does
pub record WasTold (terms : Terms) (a : Asked) (packets : List (List ℕ)) : Type 0 where
  pub number : ℕ
  pub packet : List ℕ
  pub is_there : slice_get packets number ≡ Some packet
  pub tells : Tells terms a packet

-- of each request that waited, one of these packets says that it was carried out
abbrev pub AllTold : Terms → List Asked → List (List ℕ) → Type 0
AllTold terms asked packets =
    (k : ℕ) (a : Asked)
    → slice_get asked k ≡ Some a
    → a.fate ≡ Waiting
    → WasTold terms a packets

-- of each that waited, one of the packets that were heard since says so, of all of which this holds
pub record AreTold (P : List ℕ → Type 0) (terms : Terms) (asked : List Asked)
    (had has : Option (List Answer)) : Type 0 where
  pub answers : List Answer
  pub told : Hears had has answers
  pub comes : AllCome P answers
  pub all : AllTold terms asked (packets_of answers)

-- ---- the law

-- a pass that ends as done, whatever was heard
abbrev pub DoneIsTold : Type 0
DoneIsTold =
    (terms : Terms) (s : PassState) (answers : List Answer)
    → next_step (come_to terms s answers) ≡ Stop ends.Done
    → AllTold terms s.asked (packets_of answers)
