-- The pieces are as long as they are said to be, and behind them the buffer is as it was.
use Rattle.std.proofs.Common.{◌≡◌, ◌∙◌, ap, refl, ◌+◌, ◌++◌, length, drop, Ok, arith, length-append}
use Rattle.lpt_c.specs.Standing.{rest_in}
use Rattle.lpt_c.proofs.RequestLemmas.{with_room, without_room}
use Rattle.lpt_c.proofs.RestLemmas.{length_rest, rest_front}
use Rattle.lpt_c.proofs.filling.fill_behind.Goals as goal

pub returns-then-out-needed-clause-code : goal.returns-then-out-needed-clause-code
returns-then-out-needed-clause-code c =
    let f = c.args.first.now in
    let s = c.args.second.now in
    let old = c.args.out.now in
    let b = rest_in c.args.rest (length f + length s) old in
    (without_room (Ok (f ++ s ++ b)) (f ++ s ++ b) old (length f + length s + c.len.result)
    c.args.needed.now refl
    (omega (
      arith,
      c.len.ensures,
      length_rest c.args.rest (length f + length s) old,
      length-append (f ++ s) b,
      length-append f s,
    )) c.if-out-needed.true).code

pub returns-then-out-needed-clause-buffer : goal.returns-then-out-needed-clause-buffer
returns-then-out-needed-clause-buffer c =
    let f = c.args.first.now in
    let s = c.args.second.now in
    let old = c.args.out.now in
    let b = rest_in c.args.rest (length f + length s) old in
    (without_room (Ok (f ++ s ++ b)) (f ++ s ++ b) old (length f + length s + c.len.result)
    c.args.needed.now refl
    (omega (
      arith,
      c.len.ensures,
      length_rest c.args.rest (length f + length s) old,
      length-append (f ++ s) b,
      length-append f s,
    )) c.if-out-needed.true).buffer

pub returns-then-out-needed-clause-needed : goal.returns-then-out-needed-clause-needed
returns-then-out-needed-clause-needed c =
    let f = c.args.first.now in
    let s = c.args.second.now in
    let b = rest_in c.args.rest (length f + length s) c.args.out.now in
    omega (
      arith,
      c.len.ensures,
      length_rest c.args.rest (length f + length s) c.args.out.now,
      length-append (f ++ s) b,
      length-append f s,
    )

pub returns-clause-code : goal.returns-clause-code
returns-clause-code c =
    let f = c.args.first.now in
    let s = c.args.second.now in
    let old = c.args.out.now in
    let at = length f + length s in
    let n = length f + length s + c.len.result in
    let b = rest_in c.args.rest at old in
    let size : n ≡ length (f ++ s ++ b) =
    omega (
      arith,
      c.len.ensures,
      length_rest c.args.rest at old,
      length-append (f ++ s) b,
      length-append f s,
    ) in
    (with_room (Ok (f ++ s ++ b)) (f ++ s ++ b) old ((f ++ s ++ b) ++ drop n old) n
    c.args.needed.now refl size (omega (arith, c.if-out-needed.false)) refl).code

pub returns-clause-buffer : goal.returns-clause-buffer
returns-clause-buffer c =
    let f = c.args.first.now in
    let s = c.args.second.now in
    let r = c.args.rest in
    let old = c.args.out.now in
    let at = length f + length s in
    let n = length f + length s + c.len.result in
    let b = rest_in r at old in
    let size : n ≡ length (f ++ s ++ b) =
    omega (
      arith,
      c.len.ensures,
      length_rest r at old,
      length-append (f ++ s) b,
      length-append f s,
    ) in
    let stands : rest_in r at c.split_at_mut-text.result.0.now ≡ b =
    ap (rest_in r at) c.split_at_mut-text.ensures.front
    ∙ rest_front r at n old (omega (arith, c.len.ensures)) (omega (arith, c.if-out-needed.false)) in
    (with_room (Ok (f ++ s ++ b)) (f ++ s ++ b) old
    (c.join_into.new.out ++ c.split_at_mut-text.result.1.now) n c.args.needed.now refl size
    (omega (arith, c.if-out-needed.false))
    (ap (λ x. x ++ c.split_at_mut-text.result.1.now)
    (c.join_into.ensures ∙ ap (λ y. f ++ s ++ y) stands)
    ∙ ap (λ y. (f ++ s ++ b) ++ y) c.split_at_mut-text.ensures.back)).buffer

pub returns-clause-needed : goal.returns-clause-needed
returns-clause-needed c =
    let f = c.args.first.now in
    let s = c.args.second.now in
    let b = rest_in c.args.rest (length f + length s) c.args.out.now in
    omega (
      arith,
      c.len.ensures,
      length_rest c.args.rest (length f + length s) c.args.out.now,
      length-append (f ++ s) b,
      length-append f s,
    )
