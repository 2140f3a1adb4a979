use Rattle.lpt_stream.proofs.RunLemmas.{run_found, run_found_by}
use Rattle.lpt_stream.proofs.laws.runs_are_found.Goals as goal

pub returns : goal.returns
returns c = record { latest = run_found_by; there = run_found }
