-- What is counted of a pass.
use Rattle.std.specs.Prelude.{◌≡◌, ℕ, ◌^◌, ◌-◌, ◌==◌, nat_lt, min, Bool, false, List, [], ◌∷◌, count_by}
use Rattle.std.specs.List.{sum}
use Rattle.lpt_ground_run.specs.declared.counts.RunCounts.{RunCounts}

-- a number, or the greatest that is counted
abbrev pub at_most : ℕ → ℕ
at_most n = min n (2 ^ 64 - 1)

-- of rounds, the last of them in front, with so many packets that went up in each: whether none did
-- in the last
abbrev pub none_yet : List ℕ → Bool
none_yet [] = false
none_yet (n ∷ ups) = n == 0

-- If so many packets went up in each round, the last of them in front, and so many came down:
-- all that went up, the rounds in which some did, and those that came down.
pub record AreCounted (c : RunCounts) (ups : List ℕ) (came : ℕ) : Type 0 where
  pub up : c.up ≡ at_most (sum ups)
  pub rounds : c.rounds ≡ at_most (count_by (λ n. nat_lt 0 n) ups)
  pub down : c.down ≡ at_most came
  pub last : c.waits ≡ none_yet ups
