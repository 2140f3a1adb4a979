-- So many calls of the event were added.
use Rattle.std.proofs.Common.{◌≡◌, ◌+◌, [], length}
use Rattle.lpt_share.specs.Turns.{Adds, Follow, again_event}
use Rattle.lpt_share.proofs.call.Shared.repeat.Given as goal

abbrev pub invariant-loop : goal.invariant-loop
invariant-loop g l =
    Adds g.J.Origin.given (Follow [] (again_event l.again)) l.fn.log l.log
    × (length l.log.calls.items ≡ length l.fn.log.calls.items + l.count)
