-- The first register is any.
use Rattle.std.proofs.Common.{List, ℕ, sym, subst, arith}
use Rattle.std.proofs.lemmas.Bool.Decides.{nat_tests}
use Rattle.lpt_stream.specs.Registers.{AreRegisters}
use Rattle.lpt_stream.proofs.RegisterLemmas.{registers-first}
use Rattle.lpt_stream.proofs.search.begin_registers.Goals as goal

pub returns-clause-are : goal.returns-clause-are
returns-clause-are c =
    subst (λ (rs : List ℕ). AreRegisters c.args.passed rs c.args.octets.now)
    (sym c.in_ok-push.ensures.items)
    (registers-first c.args.passed 0 c.args.registers.now.items c.args.octets.now
    (grind (arith, nat_tests, c.if-len-passed.false, c.requires.begun, c.len.ensures)))
