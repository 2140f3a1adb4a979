-- The pass is computed.
use Rattle.lpt_journal_examples.proofs.JobRows.{large_report-pass, large_report-opened, large_report-released}
use Rattle.lpt_journal_examples.proofs.laws.large_report_is_legal.Goals as goal

pub returns : goal.returns
returns c = record { pass = large_report-pass; opened = large_report-opened; released = large_report-released }
