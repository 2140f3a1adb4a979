-- The lemmas say it.
use Rattle.lpt_requests.proofs.FailureLemmas.{own-code, own-read, success-read}
use Rattle.lpt_requests.proofs.laws_failures.own_reports_are_read.Goals as goal

pub returns-clause-read : goal.returns-clause-read
returns-clause-read c = own-read

pub returns-clause-success : goal.returns-clause-success
returns-clause-success c = success-read

pub returns-clause-codes : goal.returns-clause-codes
returns-clause-codes c = own-code
