-- The first number that isn't marked, where parts may be missing.
use Rattle.std.proofs.Common.{rules, arith}
use Rattle.lpt_reception.proofs.MissingLemmas.{first_missing, none_missing}
use Rattle.lpt_reception.proofs.store.Store.next_missing.Goals as goal

pub returns-then-not-has : goal.returns-then-not-has
returns-then-not-has c =
    let s = c.args.self.now in
    first_missing c.args.p s.ended s.marks.words.items s.octets c.requires.shape c.args.from
    c.inner_end-number-end.result c.loop-number.number c.inner_end-number-end.ensures.inner
    c.loop-number.invariant (omega arith) (omega arith) (omega arith) (search rules)

pub returns : goal.returns
returns c =
    let s = c.args.self.now in
    none_missing c.args.p s.ended s.marks.words.items s.octets c.requires.shape c.args.from
    c.inner_end-number-end.result c.inner_end-number-end.ensures.below
    (λ k from_k counted less. c.loop-number.invariant k from_k counted (omega arith))
