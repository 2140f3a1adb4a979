-- Octets that were held are given.
use Rattle.std.proofs.Common.{◌≡◌, ◌∙◌, ◌≤◌, ◌++◌, min, ap, sym, subst, take, drop, length, arith, rules}
use Rattle.std.specs.Io.KnownBytes.{Consumes, prepend_known}
use Rattle.lpt_capture.specs.States.{octets_held, octets_known}
use Rattle.lpt_capture.proofs.AheadLemmas.{known-given, copied-front, none-given}
use Rattle.lpt_capture.proofs.ahead.Ahead.read.Goals as goal

pub returns-clause-bytes : goal.returns-clause-bytes
returns-clause-bytes g c =
    let n = c.min-n.result in
    let had = octets_held c.args.self.now in
    let copied = c.copy_from_slice.new.self in
    let seen : c.octets_held-held.result.now ≡ had = c.octets_held-held.ensures in
    let least : n ≤ length had = omega (arith, c.min-n.ensures, ap length seen) in
    let front : copied ≡ take n had = c.copy_from_slice.ensures.after ∙ ap (take n) seen in
    let given : take n (copied ++ drop n c.args.buf.now) ≡ take n had =
    copied-front had c.args.buf.now copied n front least in (
      subst (λ s. Consumes (octets_known g.S.Source.remaining c.args.self.now)
          (prepend_known (octets_held c.skip.new.self) (g.S.Source.remaining s))
          (take n (copied ++ drop n c.args.buf.now)))
          (sym c.skip.ensures.source)
          (known-given _ had (octets_held c.skip.new.self) _ n given c.skip.ensures.held),
      λ zero room. absurd (none-given had c.args.buf.now copied n c.copy_from_slice.ensures.len
          (search rules) (c.min-n.ensures
          ∙ ap (λ xs. min (length xs) (length c.args.buf.now)) seen) zero room),
    )
