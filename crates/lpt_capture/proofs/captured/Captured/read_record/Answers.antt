-- Octets of the record are given, and fewer are left.
use Rattle.std.proofs.Common.{ℕ, ◌≡◌, ◌≤◌, ◌-◌, ◌++◌, ap, sym, take, drop, length, arith, length-take}
use Rattle.std.proofs.Math.Seq.{take-append-le}
use Rattle.lpt_capture.specs.Captured.{in_record, records_of}
use Rattle.lpt_capture.specs.States.{found_at}
use Rattle.lpt_capture.proofs.FindingLemmas.{record-found}
use Rattle.lpt_capture.proofs.captured.Captured.read_record.Goals as goal

pub returns-clause-found : goal.returns-clause-found
returns-clause-found g c =
    let n = c.in_ok-n.n in
    let buf = c.read.new.buf in
    let at = c.args.current.at in
    let left = c.args.current.left in
    let others = records_of c.args.current.turned c.args.current.next in
    let size : length (take n buf)
    ≡ n = (let cut = length-take n buf in omega (arith, cut, c.in_ok-n.ensures.bound)) in
    let within : n ≤ left =
    omega (
      arith,
      length-take {A = ℕ},
      c.in_ok-n.ensures.bound,
      c.read.auto.buf,
      c.min-asked.ensures,
    ) in
    let same : take n (buf ++ drop c.min-asked.result c.args.buf.now) ≡ take n buf =
    take-append-le n buf _ c.in_ok-n.ensures.bound in (
      record-found _ _ at left others _ _ (take n buf) _ c.in_ok-n.ensures.bytes.0
          (omega (arith, size, within)) same
          (λ r. ap (λ p. found_at p r) c.requires.place)
          (λ r. ap (λ k. in_record at (left - k) r others) (sym size)),
      λ none room. absurd (c.if-n-eq0.false none),
    )
