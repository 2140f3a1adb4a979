use Rattle.std.proofs.Common.{◌≡◌, ◌≤◌, ◌+◌, ◌-◌}
use Rattle.lpt_script.specs.Scripts.{clock_ticked}
use Rattle.lpt_script.proofs.command.tick_before_last.Given as goal

abbrev pub invariant-loop : goal.invariant-loop
invariant-loop l =
    (clock_ticked l.fn.count l.fn.side l.fn.world
    ≡ clock_ticked (l.fn.count + 1 - l.counter) l.fn.side l.world)
    × (1 ≤ l.counter) × (l.counter ≤ l.fn.count)
