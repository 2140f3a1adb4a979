-- No pages are no marks, and none is out of its place.
use Rattle.std.proofs.Common.{ap, ◌∙◌}
use Rattle.lpt_ledger.specs.LedgerInside.{marks}
use Rattle.lpt_ledger.proofs.FullLemmas.{IsKept-none}
use Rattle.lpt_ledger.proofs.MarksLemmas.{marks-nil}
use Rattle.lpt_ledger.proofs.ledger.Ledger.new.Goals as goal

pub returns : goal.returns
returns c = ap marks c.new.ensures.empty ∙ marks-nil

pub invariant_of-result : goal.invariant_of-result
invariant_of-result c =
    IsKept-none c.new.result.entries c.new-2.result.entries c.new.ensures.empty
    c.new-2.ensures.empty
