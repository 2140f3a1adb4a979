-- The pass is computed.
use Rattle.lpt_journal_examples.proofs.PassRows.{set_back-pass, set_back-clock, set_back-crowded, set_back-noted, set_back-expired, set_back-released}
use Rattle.lpt_journal_examples.proofs.laws.set_back_is_legal.Goals as goal

pub returns : goal.returns
returns c = record {
  pass = set_back-pass;
  clock = set_back-clock;
  crowded = set_back-crowded;
  noted = set_back-noted;
  expired = set_back-expired;
  released = set_back-released;
}
