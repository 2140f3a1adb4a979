-- The reports of a request: which are sent, and their bodies.
use Rattle.std.specs.Prelude.{◌≡◌, ◌⊎◌, ℕ, ◌/◌, ◌%◌, ◌==◌, nat_le, Bool, if◌then◌else◌, List, [], ◌∷◌, ◌++◌, Option, Some, None}
use Rattle.lpt_packet.specs.Numbers.{be}
use Rattle.lpt_verify.specs.declared.report.EncodedReport.{EncodedReport}

-- the flags that ask for a report of acceptance, of start and of completion of execution
abbrev pub IsFlag : ℕ → Type 0
IsFlag flag = (flag ≡ 1) ⊎ (flag ≡ 2) ⊎ (flag ≡ 8)

-- whether a sum of acknowledgement flags, of 1, 2, 4 and 8, has this flag
abbrev pub asks : ℕ → ℕ → Bool
asks flags flag = flags / flag % 2 == 1

-- a report of success: request ID 32 bits
abbrev pub success : ℕ → ℕ → EncodedReport
success request subtype = record { subtype = subtype; body = be request 4 }

-- a report of failure: request ID 32 bits, failure code 16 bits
abbrev pub failure : ℕ → ℕ → ℕ → EncodedReport
failure request subtype code = record { subtype = subtype; body = be request 4 ++ be code 2 }

-- a report of success, if the flag asks for it
abbrev pub success_if : Bool → ℕ → ℕ → List EncodedReport
success_if asked request subtype = if asked then success request subtype ∷ [] else []

-- successful acceptance verification report
abbrev pub acceptance_reports : ℕ → ℕ → List EncodedReport
acceptance_reports request flags = success_if (asks flags 1) request 1

-- successful start of execution verification report
abbrev pub start_reports : ℕ → ℕ → List EncodedReport
start_reports request flags = success_if (asks flags 2) request 3

-- successful completion of execution verification report
abbrev pub completion_reports : ℕ → ℕ → List EncodedReport
completion_reports request flags = success_if (asks flags 8) request 7

-- what comes before the data report: codes 1 and 2 are failed acceptances and are reported alone,
-- all others are failed starts of execution
abbrev pub reports_before : ℕ → ℕ → Option ℕ → List EncodedReport
reports_before request flags None = acceptance_reports request flags ++ start_reports request flags
reports_before request flags (Some code) =
    if nat_le code 2 then failure request 2 code ∷ []
    else acceptance_reports request flags ++ failure request 4 code ∷ []

-- what comes after the data report
abbrev pub reports_after : ℕ → ℕ → Option ℕ → List EncodedReport
reports_after request flags None = completion_reports request flags
reports_after request flags (Some code) = []

-- all reports of a request but its data report, in their order
abbrev pub all_reports : ℕ → ℕ → Option ℕ → List EncodedReport
all_reports request flags code =
    reports_before request flags code ++ reports_after request flags code
