-- The octets that are given come from the source, no more of them than are left.
use Rattle.std.proofs.Common.{arith, Some, ℕ, ◌-◌, take, length-take}
use Rattle.std.proofs.Math.Seq.{take-append-le}
use Rattle.lpt_io.proofs.SpanLemmas.{front-length, span-ended, span-given}
use Rattle.lpt_io.proofs.span.SourceSpan.read_on.Goals as goal

pub returns-clause-bytes : goal.returns-clause-bytes
returns-clause-bytes g c =
    let n = c.in_ok-n.n in
    let buf = c.read-2.new.buf in
    let now = c.args.self.now in
    let left = c.in-Some.left in
    let remaining = g.S.Source.remaining in
    let bound = c.in_ok-n.ensures.bound in (
      span-given (remaining now.source) (remaining c.read-2.new.self) now.before now.left left n
          (take n buf) _ (omega arith) c.in-Some.is c.in_ok-n.ensures.bytes.0
          (take-append-le n buf _ bound) (front-length n buf bound)
          (omega (arith, bound, c.read-2.auto.buf, length-take {A = ℕ})),
      (λ zero. span-ended now.before (Some (left - n)) (remaining c.read-2.new.self)
          (c.in_ok-n.ensures.bytes.1 zero (omega (arith, c.read-2.auto.buf, length-take {A = ℕ})))),
    )
