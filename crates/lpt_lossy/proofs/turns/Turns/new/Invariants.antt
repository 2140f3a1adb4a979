use Rattle.std.proofs.Common.{◌≡◌, ◌+◌, [], map, replicate}
use Rattle.lpt_lossy.proofs.turns.Turns.new.Given as goal

-- so many turns and one more are there
abbrev pub invariant-loop : goal.invariant-loop
invariant-loop l = map (λ v. v.items) l.turns.items ≡ replicate (l.counter + 1) []
