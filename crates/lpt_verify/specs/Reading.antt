-- What a report's body says.
use Rattle.std.specs.Prelude.{◌≡◌, ◌⊎◌, ℕ, ◌<◌, ◌^◌, Bool, if◌then◌else◌, List, ◌++◌, [], length, Option, Some, None, IfSome, ◌==◌, ◌&&◌, ◌||◌, IsTrue}
use Rattle.lpt_packet.specs.Numbers.{be, word_at}
use Rattle.lpt_pus.specs.Numbers.{long_at}
use Rattle.lpt_pus.specs.declared.request.RequestId.{RequestId}
use Rattle.lpt_verify.specs.declared.report.Report.{Report}
use Rattle.lpt_verify.specs.declared.report.EncodedReport.{EncodedReport}

-- the message subtypes of reports of success: of acceptance, start and completion of execution
abbrev pub is_success : ℕ → Bool
is_success subtype = subtype == 1 || subtype == 3 || subtype == 7

-- the message subtypes of reports of failure: of acceptance and start of execution
abbrev pub is_failure : ℕ → Bool
is_failure subtype = subtype == 2 || subtype == 4

-- a report of failure has a failure code, and one of success has none
abbrev pub IsCoded : ℕ → Option ℕ → Type 0
IsCoded subtype None = IsTrue (is_success subtype)
IsCoded subtype (Some code) = IsTrue (is_failure subtype)

-- the failure code, 16 bits, in a report of failure alone
abbrev pub code_text : Option ℕ → List ℕ
code_text None = []
code_text (Some code) = be code 2

-- the body is this report, of this message subtype: request ID 32 bits, then the failure code
pub record IsReport (subtype : ℕ) (body : List ℕ) (r : Report) : Type 0 where
  pub is_coded : IsCoded subtype r.code
  pub request_fits : r.request.value < 2 ^ 32
  pub code_fits : IfSome r.code (λ c. c < 2 ^ 16)
  pub spelled : body ≡ be r.request.value 4 ++ code_text r.code

-- the report with this failure code, if it has one, that stands at a body's places
abbrev pub report_at : List ℕ → Option ℕ → Report
report_at body code = record { request = record { value = long_at body 0 }; code = code }

-- the report that a body is, of this message subtype, if it is one
unfoldable pub report_in : (subtype : ℕ) → List ℕ → Option Report
report_in subtype body =
    if is_success subtype && length body == 4 then Some (report_at body None)
    else if is_failure subtype && length body == 6 then
    Some (report_at body (Some (word_at body 4)))
    else None

-- the report is read as one of this request; its failure code, if it has one, is this
pub record Names (request : RequestId) (code : Option ℕ) (e : EncodedReport) : Type 0 where
  pub read : Report
  pub is_read : IsReport e.subtype e.body read
  pub of_request : read.request ≡ request
  pub of_code : (read.code ≡ None) ⊎ (read.code ≡ code)
