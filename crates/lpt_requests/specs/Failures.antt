-- What a verification report of any spacecraft says of its request.
use Rattle.std.specs.Prelude.{ℕ, ◌==◌, ◌&&◌, ◌||◌, not, nat_le, Bool, if◌then◌else◌, List, length, Option, Some, None}
use Rattle.std.specs.Option.{option_map}
use Rattle.lpt_packet.specs.Numbers.{word_at}
use Rattle.lpt_pus.specs.Numbers.{long_at}
use Rattle.lpt_verify.specs.declared.report.Report.{Report}
use Rattle.lpt_verify.specs.Reading.{report_in}
use Rattle.lpt_requests.specs.declared.notice.FailureNotice.{FailureNotice}
use Rattle.lpt_requests.specs.declared.notice.FailureNotice.TheVariants.{Code, Foreign, Unread}
use Rattle.lpt_requests.specs.declared.reading_failures.RequestReport.{RequestReport}

-- the message subtypes of reports of failure: of acceptance, start, progress and completion of
-- execution
abbrev pub fails : (subtype : ℕ) → Bool
fails subtype = subtype == 2 || subtype == 4 || subtype == 6 || subtype == 8

-- a failure code of 16 bits, and nothing else, stands behind the request ID; in a report of
-- progress a step ID stands there
abbrev pub has_code : (subtype len : ℕ) → Bool
has_code subtype len = not (subtype == 6) && len == 6

-- whether this service reports a failure of this code by a report of this subtype: 1 and 2 as
-- failed acceptance, 3 to 8 as failed start of execution
abbrev pub is_own : (subtype code : ℕ) → Bool
is_own subtype code =
    (subtype == 2 && nat_le 1 code && nat_le code 2)
    || (subtype == 4 && nat_le 3 code && nat_le code 8)

-- what a failure code says in a report of this subtype: if this service doesn't send it so, it has
-- the sender's meaning
abbrev pub notice_of : (subtype code : ℕ) → FailureNotice
notice_of subtype code = if is_own subtype code then Code code else Foreign code

-- why the request failed
abbrev pub notice_in : (subtype : ℕ) → List ℕ → FailureNotice
notice_in subtype body =
    if has_code subtype (length body) then notice_of subtype (word_at body 4) else Unread

-- the report that a request of this ID failed
abbrev pub failure_of : (subtype id : ℕ) → List ℕ → RequestReport
failure_of subtype id body = record {
  request = record { value = id };
  failure = Some (notice_in subtype body);
}

-- what a report of success says, in this project's form
abbrev pub as_success : Report → RequestReport
as_success r = record { request = r.request; failure = None }

-- The report that a body is, of this message subtype, if it is read: one of failure begins with
-- the request ID, and one of success is of this project's form.
unfoldable pub any_report_in : (subtype : ℕ) → List ℕ → Option RequestReport
any_report_in subtype body =
    if fails subtype && nat_le 4 (length body) then
    Some (failure_of subtype (long_at body 0) body)
    else option_map as_success (report_in subtype body)

-- what a report of this project's form says, of this subtype
abbrev pub as_own : (subtype : ℕ) → Report → RequestReport
as_own subtype r =
    record { request = r.request; failure = option_map (notice_of subtype) r.code }

-- the report of success, in this project's form, that says the same
abbrev pub success_of : RequestReport → Report
success_of r = record { request = r.request; code = None }
