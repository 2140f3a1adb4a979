-- The pass is computed.
use Rattle.lpt_journal_examples.proofs.StrictRows.{out_of_order-pass, out_of_order-broken, out_of_order-aborted, out_of_order-released}
use Rattle.lpt_journal_examples.proofs.laws.last_part_first_is_legal.Goals as goal

pub returns : goal.returns
returns c = record {
  pass = out_of_order-pass;
  broken = out_of_order-broken;
  aborted = out_of_order-aborted;
  released = out_of_order-released;
}
