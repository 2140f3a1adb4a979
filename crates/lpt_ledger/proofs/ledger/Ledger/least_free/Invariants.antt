-- The names so far are taken: those of the words, then those of the pages with bits set in one.
use Rattle.std.proofs.Common.{◌*◌, ◌-◌, ◌^◌}
use Rattle.lpt_ledger.proofs.FirstLemmas.{AreTaken}
use Rattle.lpt_ledger.proofs.FullLemmas.{AreTold}
use Rattle.lpt_ledger.proofs.ledger.Ledger.least_free.Given as goal

abbrev pub invariant-loop-number : goal.invariant-loop-number
invariant-loop-number l = AreTaken l.self-inside.pages.entries l.source (l.number * 4096)

abbrev pub invariant-loop-bit : goal.invariant-loop-bit
invariant-loop-bit l = AreTold l.self-inside.pages.entries l.source l.number l.word

abbrev pub decreases-loop-bit : goal.decreases-loop-bit
decreases-loop-bit l = 2 ^ 64 - l.word
