-- Verification reports, as they are read and written.
use Rattle.std.specs.Prelude.{ℕ, ◌==◌, nat_le, ◌&&◌, if◌then◌else◌, List, Option, Some, None, Result, Ok, Err}
use Rattle.lpt_verify.specs.declared.report.Report.{Report}
use Rattle.lpt_verify.specs.Reading.{is_success, is_failure, report_in}
use Rattle.lpt_verify.specs.Reports.{success, failure}
use Rattle.lpt_c.specs.declared.reports.LptReport.{LptReport}
use Rattle.lpt_c.specs.Buffers.{BufferText}
use Rattle.lpt_c.specs.Codes.{range, no_report}

-- a report, if there is one
abbrev pub report_found : Option Report → Result Report ℕ
report_found (Some r) = Ok r
report_found None = Err no_report

-- the report that a body is
abbrev pub report_read : ℕ → List ℕ → Result Report ℕ
report_read subtype body = report_found (report_in subtype body)

-- whether it reports a failure, as a number, and the failure code
abbrev pub failed_number : Option ℕ → ℕ
failed_number None = 0
failed_number (Some code) = 1

abbrev pub code_told : Option ℕ → ℕ
code_told None = 0
code_told (Some code) = code

-- a report as it is reported
abbrev pub report_told : Report → LptReport
report_told r = record {
  request = r.request.value;
  failed = failed_number r.code;
  code = code_told r.code;
}

-- the body that is to be written: of a success without a code, of a failure with one of 1 to 8
abbrev pub report_text : (subtype request code : ℕ) → BufferText
report_text subtype request code =
    if is_success subtype then
    (if code == 0 then Ok (success request subtype).body else Err range)
    else if is_failure subtype then
    (if nat_le 1 code && nat_le code 8 then Ok (failure request subtype code).body else Err range)
    else Err range
