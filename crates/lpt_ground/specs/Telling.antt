-- What a packet that was heard says of a request.
use Rattle.std.specs.Prelude.{ℕ, ◌+◌, ◌==◌, ◌&&◌, ◌||◌, Bool, true, false, if◌then◌else◌, List, length, slice_index, slice_get, slice_set, take, drop, position, is_some, option_map, Option, Some, None}
use Rattle.lpt_packet.specs.Checksums.{checksum}
use Rattle.lpt_packet.specs.Numbers.{word_at}
use Rattle.lpt_pus.specs.Numbers.{long_at}
use Rattle.lpt_pus.specs.Telemetry.{Telemetry, telemetry_in}
use Rattle.lpt_requests.specs.declared.notice.FailureNotice.{FailureNotice}
use Rattle.lpt_requests.specs.declared.reading_failures.RequestReport.{RequestReport}
use Rattle.lpt_requests.specs.Failures.{any_report_in}
use Rattle.lpt_ground.specs.declared.asked.Asked.{Asked}
use Rattle.lpt_ground.specs.declared.asked.Awaits.{Awaits}
use Rattle.lpt_ground.specs.declared.asked.Awaits.TheVariants.{Completion, Dumped, Checked}
use Rattle.lpt_ground.specs.declared.asked.Fate.{Fate}
use Rattle.lpt_ground.specs.declared.asked.Fate.TheVariants.{Waiting, Done, Failed}
use Rattle.lpt_ground.specs.declared.asked.Place.{Place}
use Rattle.lpt_ground.specs.declared.asked.Terms.{Terms}
use Rattle.lpt_ground.specs.declared.telling.Said.{Said}
use Rattle.lpt_ground.specs.declared.telling.Said.TheVariants as said

-- ---- what answers a request

-- the body has one area, of this place, with so many octets behind its address and length
unfoldable pub is_area : Place → (more : ℕ) → List ℕ → Bool
is_area p more b =
    (length b == 8 + more) && (slice_index b 0 == p.memory) && (slice_index b 1 == 1)
    && (long_at b 2 == p.address) && (word_at b 6 == p.len)

-- the body has the octets of this place, and their checksum
unfoldable pub is_dump : Place → List ℕ → Bool
is_dump p b =
    is_area p (p.len + 2) b && (checksum (take p.len (drop 8 b)) == word_at b (8 + p.len))

-- a report of this subtype, of the memory service, is the answer that is awaited
abbrev pub is_answer : Awaits → (subtype : ℕ) → List ℕ → Bool
is_answer Completion subtype b = false
is_answer (Dumped p) subtype b = subtype == 6 && is_dump p b
is_answer (Checked p) subtype b = subtype == 10 && is_area p 2 b

-- a report of success, of this subtype, is the one that is awaited: of completion, or if that
-- counts of start
abbrev pub is_success : (starts : Bool) → Awaits → (subtype : ℕ) → Bool
is_success starts Completion subtype = subtype == 7 || (starts && (subtype == 3))
is_success starts (Dumped p) subtype = false
is_success starts (Checked p) subtype = false

-- ---- what is said of a request

-- a failure with this notice, or else a success that is awaited or isn't
abbrev pub said_with : Option FailureNotice → Bool → Option Said
said_with (Some notice) awaited = Some (said.Failed notice)
said_with None awaited = if awaited then Some said.Done else None

-- a verification report says it of the request of its request ID
abbrev pub said_by : (starts : Bool) → Asked → (subtype : ℕ) → Option RequestReport → Option Said
said_by starts a subtype (Some r) =
    if r.request.value == a.id then
    said_with r.failure (is_success starts a.awaits subtype)
    else None
said_by starts a subtype None = None

-- telemetry says it
unfoldable pub said_of : (starts : Bool) → Telemetry → Asked → Option Said
said_of starts t a =
    if t.service == 1 then said_by starts a t.subtype (any_report_in t.subtype t.body)
    else if t.service == 6 && is_answer a.awaits t.subtype t.body then Some said.Done
    else None

-- ---- what becomes of the requests

-- nothing was heard that settles it
abbrev pub waits : Fate → Bool
waits Waiting = true
waits (Done o) = false
waits (Failed notice) = false

-- the same of a request
abbrev pub is_waiting : Asked → Bool
is_waiting a = waits a.fate

-- what was said is its fate, by these octets
abbrev pub fate_by : Said → List ℕ → Fate
fate_by said.Done o = Done o
fate_by (said.Failed notice) o = Failed notice

-- telemetry settles a request: it waits, and something is said of it
abbrev pub settles : (starts : Bool) → Telemetry → Asked → Bool
settles starts t a = is_waiting a && is_some (said_of starts t a)

-- telemetry to this source
abbrev pub addressed_to : (source : ℕ) → Option Telemetry → Option Telemetry
addressed_to source None = None
addressed_to source (Some t) = if t.destination == source then Some t else None

-- the report of a pass that octets are: telemetry of its APID, to its source
unfoldable pub report_of : Terms → List ℕ → Option Telemetry
report_of terms o = addressed_to terms.source (telemetry_in terms.apid o)

-- what telemetry says of a request, if there is one
abbrev pub said_there : (starts : Bool) → Telemetry → Option Asked → Option Said
said_there starts t None = None
said_there starts t (Some a) = said_of starts t a

-- the place, with what telemetry says of the request there
abbrev pub said_at : (starts : Bool) → Telemetry → List Asked → Option ℕ → Option (ℕ × Said)
said_at starts t asked None = None
said_at starts t asked (Some k) =
    option_map (λ s. (k, s)) (said_there starts t (slice_get asked k))

-- the first request that telemetry settles, and what it says of it
abbrev pub said_first : (starts : Bool) → List Asked → Option Telemetry → Option (ℕ × Said)
said_first starts asked None = None
said_first starts asked (Some t) = said_at starts t asked (position (settles starts t) asked)

-- the same of octets that were heard
unfoldable pub said_in : Terms → List Asked → List ℕ → Option (ℕ × Said)
said_in terms asked o = said_first terms.starts asked (report_of terms o)

-- the request at this place has this fate, if there is one
abbrev pub request_fated : List Asked → (k : ℕ) → Fate → Option Asked → List Asked
request_fated asked k f None = asked
request_fated asked k f (Some a) = slice_set asked k (record a { fate = f })

-- the requests once that was said of one of them by these octets, or of none
abbrev pub requests_told : List Asked → List ℕ → Option (ℕ × Said) → List Asked
requests_told asked o None = asked
requests_told asked o (Some x) = request_fated asked x.0 (fate_by x.1 o) (slice_get asked x.0)
