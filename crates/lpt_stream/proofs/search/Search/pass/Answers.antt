-- What is kept of octets that are passed over is kept of those behind them, or forgotten.
use Rattle.std.proofs.Common.{drop, arith}
use Rattle.std.proofs.lemmas.Bool.Decides.{nat_tests}
use Rattle.lpt_stream.proofs.RegisterLemmas.{registers-pass}
use Rattle.lpt_stream.proofs.search.Search.pass.Goals as goal

pub returns-then-count-len : goal.returns-then-count-len
returns-then-count-len c = λ octets knows. record {
  are = registers-pass c.args.self.now.passed c.args.count c.args.self.now.registers.items octets
      (grind (arith, nat_tests, c.if-count-len.true, c.len.ensures)) knows.are;
}

pub returns-else-count-len : goal.returns-else-count-len
returns-else-count-len c = λ octets knows. c.forget.ensures.knows (drop c.args.count octets)
