-- How long the bodies of reports are.
use Rattle.std.specs.Prelude.{ℕ, ◌≤◌, not, List, length, Some, None}
use Rattle.std.specs.List.{filter}
use Rattle.lpt_execution.specs.declared.ending.Ending.{Ending}
use Rattle.lpt_execution.specs.declared.ending.Ending.TheVariants.{Silent, Refused, Carried}
use Rattle.lpt_execution.specs.declared.ending.Report.{Report}
use Rattle.lpt_execution.specs.Endings.{is_small}

-- a report fits a telemetry packet
abbrev pub ReportFits : Report → Type 0
ReportFits r = length r.body ≤ 65523

-- the report of data fits a telemetry packet, if there is one
abbrev pub EndingFits : Ending → Type 0
EndingFits Silent = Unit {0}
EndingFits (Refused code) = Unit {0}
EndingFits (Carried None) = Unit {0}
EndingFits (Carried (Some r)) = ReportFits r

-- the reports that are too long for the link
abbrev pub large_reports : (p : ℕ) → List Report → List Report
large_reports p reports = filter (λ r. not (is_small p (length r.body))) reports
