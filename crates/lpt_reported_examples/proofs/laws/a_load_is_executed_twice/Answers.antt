-- The rows say it.
use Rattle.lpt_reported_examples.proofs.WorkedRows.{are_its_loads, first_reported, next_reported, passes, stands, were_executed}
use Rattle.lpt_reported_examples.proofs.laws.a_load_is_executed_twice.Goals as goal

pub returns : goal.returns
returns f = record {
  pass = passes;
  executed = were_executed;
  first = first_reported;
  next = next_reported;
  loads = are_its_loads;
  stands = stands;
}
