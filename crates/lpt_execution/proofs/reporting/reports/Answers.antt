-- The reports are those of the request's number and flags.
use Rattle.std.proofs.Common.{◌≡◌, List, subst, IfOk, rules}
use Rattle.lpt_execution.specs.declared.ending.Report.{Report}
use Rattle.lpt_execution.proofs.RequestLemmas.{reports-refused, reports-carried}
use Rattle.lpt_execution.proofs.reporting.reports.Goals as goal

pub returns-in-Refused-clause-reports : goal.returns-in-Refused-clause-reports
returns-in-Refused-clause-reports c =
    subst (λ (reports : List Report). IfOk c.reports_around.result (λ v. v.items ≡ reports))
    (reports-refused c.args.reading.now.apid c.args.reading.now.message c.in-Some.head
    c.request-request.result.value c.args.ending c.in-Refused.code
    (search rules) (search rules) c.request-request.ensures c.in-Refused.is)
    c.reports_around.ensures.reports

pub returns-in-Carried-clause-reports : goal.returns-in-Carried-clause-reports
returns-in-Carried-clause-reports c =
    subst
    (λ (reports : List Report). IfOk c.reports_around-in-Carried.result (λ v. v.items ≡ reports))
    (reports-carried c.args.reading.now.apid c.args.reading.now.message c.in-Some.head
    c.request-request.result.value c.args.ending c.in-Carried.report
    (search rules) (search rules) c.request-request.ensures c.in-Carried.is)
    c.reports_around-in-Carried.ensures.reports
