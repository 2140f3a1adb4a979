-- What was hashed so far, and the packets of the others, are the packets of all.
use Rattle.std.proofs.Common.{◌≡◌, ◌++◌, List, ℕ, drop}
use Rattle.sha2.specs.Hashers.{Holds256}
use Rattle.lpt_ground_run.specs.Keeping.{all_asked}
use Rattle.lpt_ground_run.proofs.keeping.digest_of.Given as goal

abbrev pub invariant-loop-one : goal.invariant-loop-one
invariant-loop-one l =
    (front : List ℕ) × Holds256 l.hasher front
    × (front ++ all_asked (drop l.one-index l.asked) ≡ all_asked l.asked)
