-- The pass is computed.
use Rattle.lpt_journal_examples.proofs.StrictRows.{second_part_missing-pass, second_part_missing-broken, second_part_missing-noted, second_part_missing-aborted, second_part_missing-released}
use Rattle.lpt_journal_examples.proofs.laws.second_part_missing_is_legal.Goals as goal

pub returns : goal.returns
returns c = record {
  pass = second_part_missing-pass;
  broken = second_part_missing-broken;
  noted = second_part_missing-noted;
  aborted = second_part_missing-aborted;
  released = second_part_missing-released;
}
