-- The clock and a stale reading have lines of their own.
-- They are written out so that a wrong body is refused at once.
use Rattle.std.proofs.Common.{rules}
use Rattle.lpt_script_text.proofs.answers.write_accepted.Goals as goal

pub returns-in-Tick-Clock : goal.returns-in-Tick-Clock
returns-in-Tick-Clock c = rw (c.in-Tick-Clock.is-0, c.in-Tick-Clock.is-1) (search rules)

pub returns-in-Commit-Stale : goal.returns-in-Commit-Stale
returns-in-Commit-Stale c =
    rw (c.in-Commit-Stale.is-0, c.in-Commit-Stale.is-1) c.two_numbers-in-Commit-Stale.ensures
