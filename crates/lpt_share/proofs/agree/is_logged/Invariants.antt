use Rattle.std.proofs.Common.{◌≡◌, ◌+◌, length}
use Rattle.lpt_share.specs.Agreeing.{calls_of}
use Rattle.lpt_share.proofs.agree.is_logged.Given as goal

abbrev pub invariant-loop-entry : goal.invariant-loop-entry
invariant-loop-entry l =
    (l.at + length l.rest ≡ l.place + length l.entries)
    × (l.left ≡ calls_of l.seat l.at l.rest → l.calls ≡ calls_of l.seat l.place l.entries)
    × (l.calls ≡ calls_of l.seat l.place l.entries → l.left ≡ calls_of l.seat l.at l.rest)

abbrev pub decreases-loop-entry : goal.decreases-loop-entry
decreases-loop-entry l = length l.rest
