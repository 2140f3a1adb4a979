-- The pass is computed.
use Rattle.lpt_journal_examples.proofs.PassRows.{out_of_order-pass, out_of_order-came, out_of_order-released}
use Rattle.lpt_journal_examples.proofs.laws.out_of_order_is_legal.Goals as goal

pub returns : goal.returns
returns c = record {
  pass = out_of_order-pass;
  came = out_of_order-came;
  released = out_of_order-released;
}
