-- A packet without a part is counted.
use Rattle.std.proofs.Common.{false}
use Rattle.lpt_extract.proofs.layout_joins.gather_packet.Goals as goal

pub returns-in-Err-clause-kept : goal.returns-in-Err-clause-kept
returns-in-Err-clause-kept g c = λ bs h.
    c.in_ok-helds-in-Err.ensures.held false bs c.in-Err.field-0 h c.in-Err.ensures.exact
