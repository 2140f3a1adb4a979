-- The lines of requests.
use Rattle.std.specs.Prelude.{ℕ, ◌==◌, ◌||◌, not, nat_lt, is_some, Bool, if◌then◌else◌, List, [], ◌∷◌, ◌++◌, codes, count_by, Option, Some, None}
use Rattle.std.specs.List.{flat_map}
use Rattle.hex.specs.Hex.{encode_lower}
use Rattle.lpt_packet.specs.Numbers.{be}
use Rattle.lpt_requests.specs.declared.notice.FailureNotice.{FailureNotice}
use Rattle.lpt_requests.specs.declared.notice.FailureNotice.TheVariants.{Code, Foreign, Unread}
use Rattle.lpt_list.specs.declared.form.Form.{Form}
use Rattle.lpt_list.specs.declared.form.Form.TheVariants.{Text, Json}
use Rattle.lpt_list.specs.Items.{Item, Number, Alone, areas_said, items_text}
use Rattle.lpt_list.specs.Lists.{closing}
use Rattle.lpt_outcomes.specs.declared.asked.Asked.{Asked}
use Rattle.lpt_outcomes.specs.declared.outcome.Outcome.{Outcome}
use Rattle.lpt_outcomes.specs.Keys.{Key, key_of, same_key}
use Rattle.lpt_outcomes.specs.Done.{is_acknowledged}

-- ---- what is asked

-- the front of a line: the request ID in hexadecimal digits
abbrev pub opening : Form → (id : ℕ) → List ℕ
opening Text id = codes "request " ++ encode_lower (be id 4)
opening Json id =
    123 ∷ 34 ∷ (codes "request_id" ++ (34 ∷ 58 ∷ 34 ∷ (encode_lower (be id 4) ++ (34 ∷ []))))

-- what a request's headers say
abbrev pub asked_items : Asked → List Item
asked_items a =
    Number (codes "apid") (codes "application_process_id") a.apid
    ∷ Number (codes "count") (codes "packet_sequence_count") a.count
    ∷ Number (codes "flags") (codes "acknowledgement_flags") a.flags
    ∷ Number (codes "service") (codes "service_type") a.service
    ∷ Number (codes "subtype") (codes "message_subtype") a.subtype ∷ []

-- ---- what was reported

-- whether a success was: its word, or nothing; in JSON true or false
abbrev pub flag_text : Form → (word : List ℕ) → Bool → List ℕ
flag_text Text word is = if is then 32 ∷ word else []
flag_text Json word is =
    44 ∷ 34 ∷ (word ++ (34 ∷ 58 ∷ (if is then codes "true" else codes "false")))

-- which successes were
abbrev pub success_text : Form → Outcome → List ℕ
success_text form o =
    flag_text form (codes "accepted") o.accepted
    ++ flag_text form (codes "started") o.started
    ++ flag_text form (codes "completed") o.completed

-- what a failure code of this service says
abbrev pub sentence : ℕ → List ℕ
sentence code =
    if code == 1 then codes "unknown service or subtype"
    else if code == 2 then codes "malformed body"
    else if code == 3 then codes "unknown memory"
    else if code == 4 then codes "out of range"
    else if code == 5 then codes "wrong checksum"
    else if code == 6 then codes "reply too long"
    else if code == 7 then codes "no free identifier"
    else if code == 8 then codes "too many open"
    else codes "unknown code"

-- a failure with a code, and what that means
abbrev pub coded_said : (code : ℕ) → (why : List ℕ) → List Item
coded_said code why =
    Number (codes "failed") (codes "failure_code") code ∷ Alone (codes "failure") why ∷ []

-- one whose code isn't read: the name in JSON says that it is a failure
abbrev pub unread_text : Form → List ℕ
unread_text Text = codes " failed, code not read"
unread_text Json = items_text Json (Alone (codes "failure") (codes "code not read") ∷ [])

-- a failure with this notice: a code that isn't this service's own has no meaning that is known
abbrev pub notice_text : Form → FailureNotice → List ℕ
notice_text form (Code code) = items_text form (coded_said code (sentence code))
notice_text form (Foreign code) = items_text form (coded_said code (codes "unknown code"))
notice_text form Unread = unread_text form

-- the failure, if one was
abbrev pub failure_text : Form → Option FailureNotice → List ℕ
failure_text form None = []
failure_text form (Some notice) = notice_text form notice

-- whether anything was
abbrev pub is_told : Outcome → Bool
is_told o = o.accepted || o.started || o.completed || is_some o.failure

-- that nothing was
abbrev pub nothing_text : Form → List ℕ
nothing_text Text = codes " nothing yet"
nothing_text Json = []

-- that a request asks for no report of success
abbrev pub unasked_said : List Item
unasked_said = Alone (codes "acknowledgement") (codes "not acknowledged") ∷ []

-- what is open of a request that didn't fail: all, if it asks for no report of success, or
-- if nothing was reported
abbrev pub pending_text : Form → Asked → List ℕ
pending_text form a =
    if is_some a.outcome.failure then []
    else if not (is_acknowledged a.flags) then items_text form unasked_said
    else if is_told a.outcome then []
    else nothing_text form

-- ---- the lines

-- how many requests have a source and a request ID, if it isn't one alone
abbrev pub shared_said : ℕ → List Item
shared_said n = if nat_lt 1 n then Number (codes "shared by") (codes "sharers") n ∷ [] else []

-- the line of a request whose source and request ID so many requests have
abbrev pub line_of : Form → (sharers : ℕ) → Asked → List ℕ
line_of form n a =
    opening form a.request.value
    ++ items_text form (asked_items a)
    ++ items_text form (areas_said a.areas)
    ++ success_text form a.outcome
    ++ failure_text form a.outcome.failure
    ++ pending_text form a
    ++ items_text form (shared_said n)
    ++ closing form

-- whether a request has this source and this request ID
abbrev pub has_key : Key → Asked → Bool
has_key k a = same_key (key_of a) k

-- how many of these requests have them
abbrev pub with_key : List Asked → Key → ℕ
with_key requests k = count_by (has_key k) requests

-- how many of these requests have those of this one
abbrev pub sharers : List Asked → Asked → ℕ
sharers requests a = with_key requests (key_of a)

-- a line for each request
abbrev pub lines_of : Form → List Asked → List ℕ
lines_of form requests = flat_map (λ a. line_of form (sharers requests a) a) requests
