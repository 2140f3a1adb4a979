-- The pass is computed.
use Rattle.lpt_journal_examples.proofs.StrictRows.{in_order-pass, in_order-came, in_order-released}
use Rattle.lpt_journal_examples.proofs.laws.in_order_is_legal.Goals as goal

pub returns : goal.returns
returns c = record {
  pass = in_order-pass;
  came = in_order-came;
  released = in_order-released;
}
