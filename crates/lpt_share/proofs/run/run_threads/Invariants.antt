-- The lock is opened with the given world.
use Rattle.std.proofs.Common.{Some}
use Rattle.lpt_share.proofs.run.run_threads.Given as goal

abbrev pub ghosts-run_from : goal.ghosts-run_from
ghosts-run_from g a = record { given = Some a.world }
