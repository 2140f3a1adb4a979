-- What is told of a pass and of its requests.
use Rattle.std.specs.Prelude.{ℕ, ◌==◌, List, length, slice_get, Bool, if◌then◌else◌, Option, Some, None, Ok, Err}
use Rattle.std.specs.List.{count_by}
use Rattle.std.specs.Option.{option_map}
use Rattle.lpt_requests.specs.declared.notice.FailureNotice.{FailureNotice}
use Rattle.lpt_requests.specs.declared.notice.FailureNotice.TheVariants.{Code, Foreign, Unread}
use Rattle.lpt_ground.specs.declared.asked.Asked.{Asked}
use Rattle.lpt_ground.specs.declared.asked.Fate.{Fate}
use Rattle.lpt_ground.specs.declared.asked.Fate.TheVariants.{Waiting, Done, Failed}
use Rattle.lpt_ground.specs.Answers.{checks_agree, octets_in}
use Rattle.lpt_c_ground.specs.Codes.{empty, nothing}
use Rattle.lpt_c_ground.specs.Copies.{Text}
use Rattle.lpt_c_ground.specs.declared.grounds.Ground.{Ground}
use Rattle.lpt_c_ground.specs.declared.telling.LptFate.{LptFate}
use Rattle.lpt_c_ground.specs.declared.telling.LptProgress.{LptProgress}

-- why a request failed, as a number: its code, or 65536 if none is read
abbrev pub notice_word : FailureNotice → ℕ
notice_word (Code code) = code
notice_word (Foreign code) = code
notice_word Unread = 65536

-- a fate as C is told it
abbrev pub fate_word : Fate → LptFate
fate_word Waiting = record { state = 0; code = 0 }
fate_word (Done o) = record { state = 1; code = 0 }
fate_word (Failed notice) = record { state = 2; code = notice_word notice }

-- ---- progress

-- whether a request has this state
abbrev pub has_state : (state : ℕ) → Asked → Bool
has_state state a = (fate_word a.fate).state == state

-- how many requests there are, and of each state
abbrev pub progress_of : List Asked → LptProgress
progress_of asked = record {
  requests = length asked;
  completed = count_by (has_state 1) asked;
  failed = count_by (has_state 2) asked;
  left = count_by (has_state 0) asked;
}

-- those behind a handle, and what stood there before if there is no pass
abbrev pub progress_told : Option Ground → (before : LptProgress) → LptProgress
progress_told None before = before
progress_told (Some g) before = progress_of g.pass.asked.items

-- ---- one request

-- what became of the request of a number, if there is one
abbrev pub fate_of : (number : ℕ) → Ground → Option Fate
fate_of number g = option_map (λ (a : Asked). a.fate) (slice_get g.pass.asked.items number)

-- why that isn't told
abbrev pub missing_by : Option Fate → Option ℕ
missing_by None = Some nothing
missing_by (Some f) = None

abbrev pub fate_refusal : (number : ℕ) → Ground → Option ℕ
fate_refusal number g = missing_by (fate_of number g)

-- a fate, or what stood there before
abbrev pub fate_or : Option Fate → (before : LptFate) → LptFate
fate_or None before = before
fate_or (Some f) before = fate_word f

-- the same behind a handle
abbrev pub fate_told : (number : ℕ) → Option Ground → (before : LptFate) → LptFate
fate_told number None before = before
fate_told number (Some g) before = fate_or (fate_of number g) before

-- ---- the packets that settled requests

-- the packet that settled a request
abbrev pub report_by : Option Fate → Text
report_by None = Err nothing
report_by (Some Waiting) = Err nothing
report_by (Some (Done o)) = Ok o
report_by (Some (Failed notice)) = Err nothing

-- that of a number behind a handle
abbrev pub report_told : (number : ℕ) → Option Ground → Text
report_told number None = Err empty
report_told number (Some g) = report_by (fate_of number g)

-- the octets of a dump in a packet, if there is one
abbrev pub dump_in : Text → Text
dump_in (Ok o) = Ok (octets_in o)
dump_in (Err fault) = Err fault

-- ---- checks

-- whether the checksums that were reported are those of this content, as a number
abbrev pub agrees_word : List Asked → (content : List ℕ) → ℕ
agrees_word asked content = if checks_agree asked content then 1 else 0

-- the same behind a handle
abbrev pub agrees_told : (content : List ℕ) → Option Ground → (before : ℕ) → ℕ
agrees_told content None before = before
agrees_told content (Some g) before = agrees_word g.pass.asked.items content
