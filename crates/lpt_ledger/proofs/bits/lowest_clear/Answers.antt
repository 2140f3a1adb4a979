use Rattle.std.proofs.Common.{w64, ap, ◌∙◌, ℕ, arith, rules}
use Rattle.std.specs.Int.{bit_at}
use Rattle.std.proofs.lemmas.Nat.Bits.{bit_at_ones, bit_at-trailing_ones}
use Rattle.lpt_ledger.proofs.bits.lowest_clear.Goals as goal

pub returns-else-word-eq18446744073709551615-clause-clear :
    goal.returns-else-word-eq18446744073709551615-clause-clear
returns-else-word-eq18446744073709551615-clause-clear c =
    search (rules, bit_at-trailing_ones w64 c.args.word (omega arith))

pub returns-else-word-eq18446744073709551615-clause-first :
    goal.returns-else-word-eq18446744073709551615-clause-first
returns-else-word-eq18446744073709551615-clause-first c =
    search (rules, bit_at-trailing_ones w64 c.args.word (omega arith))

pub returns-then-word-eq18446744073709551615-clause-full :
    goal.returns-then-word-eq18446744073709551615-clause-full
returns-then-word-eq18446744073709551615-clause-full c = λ i within.
    ap (λ (n : ℕ). bit_at n i) c.if-word-eq18446744073709551615.true ∙ bit_at_ones 64 i within
