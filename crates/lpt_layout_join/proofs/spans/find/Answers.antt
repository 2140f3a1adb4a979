-- Those before a place stand in front, so it stands behind them.
use Rattle.std.proofs.Common.{rules, of_calls, ◌≤◌, arith}
use Rattle.std.proofs.lemmas.Fn.{always_returns_same}
use Rattle.lpt_layout_join.specs.Spans.{end_of}
use Rattle.lpt_layout_join.proofs.SpanLemmas.{IsPoint, found-at, is_before, last_place, none-at, stands-apart}
use Rattle.lpt_layout_join.proofs.spans.find.Goals as goal

pub returns-then-end_of-place-clause-none : goal.returns-then-end_of-place-clause-none
returns-then-end_of-place-clause-none c =
    let ss = c.args.spans.now in
    let behind : end_of ss ≤ c.args.place = omega (arith, c.end_of.ensures, c.if-end_of-place.true) in
    last_place ss c.args.place behind

pub returns-then-is_at-clause-found : goal.returns-then-is_at-clause-found
returns-then-is_at-clause-found c =
    let ss = c.args.spans.now in
    let i = c.args.place in
    let k = c.partition_point-index.result in
    let point : IsPoint ss i k =
    c.partition_point-index.ensures.partitioned (is_before i)
    (always_returns_same _ _ _ (λ a r f s. search (rules, of_calls)))
    (stands-apart ss i c.requires) in
    let there = c.is_at.ensures.there c.if-is_at.true in
    (there.0, found-at ss i k point there.0 there.1)

pub returns-clause-none : goal.returns-clause-none
returns-clause-none c =
    let ss = c.args.spans.now in
    let i = c.args.place in
    let k = c.partition_point-index.result in
    let point : IsPoint ss i k =
    c.partition_point-index.ensures.partitioned (is_before i)
    (always_returns_same _ _ _ (λ a r f s. search (rules, of_calls)))
    (stands-apart ss i c.requires) in
    none-at ss i k c.requires point c.partition_point-index.ensures.bound
    (c.is_at.ensures.other c.if-is_at.false)
