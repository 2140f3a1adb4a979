-- What was read stood in front.
use Rattle.std.proofs.Common.{arith, ℕ, take, length-take}
use Rattle.lpt_io.proofs.SpanLemmas.{front-length, span-passed}
use Rattle.lpt_io.proofs.span.SourceSpan.pass_over.Goals as goal

pub loop-self-preserved : goal.loop-self-preserved
loop-self-preserved g c =
    let n = c.in-Some.n in
    let buf = c.read.new.buf in
    let now = c.loop-self.self in
    let remaining = g.S.Source.remaining in
    let bound = c.in-Some.ensures.bound in (
      span-passed _ (remaining now.source) (remaining c.read.new.self) now.before n now.left
          (take n buf) c.loop-self.invariant.0 c.in-Some.ensures.bytes.0 (front-length n buf bound)
          (omega (arith, bound, c.read.auto.buf, length-take {A = ℕ})),
      c.loop-self.invariant.1,
    )
