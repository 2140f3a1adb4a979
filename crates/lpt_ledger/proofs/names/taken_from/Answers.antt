-- Places whose names are free are passed over.
use Rattle.std.proofs.Common.{◌≡◌, ◌∙◌, ap, sym, ℕ, ◌<◌, ◌≤◌, true, false, is_some, rules, arith}
use Rattle.lpt_packet.specs.Names.{Name}
use Rattle.lpt_ledger.specs.LedgerInside.{page_mark}
use Rattle.lpt_ledger.proofs.PagedLemmas.{page_done, page_skipped, page_taken}
use Rattle.lpt_ledger.proofs.names.taken_from.Goals as goal

pub returns-then-is_taken-clause-taken : goal.returns-then-is_taken-clause-taken
returns-then-is_taken-clause-taken c =
    let place : ℕ = c.loop-place.place in
    let within : place < 64 = omega arith in
    let turned : c.is_taken.result ≡ true = search rules in
    let is : is_some (page_mark c.args.page place) ≡ true =
    ap (λ (k : ℕ). is_some (page_mark c.args.page k)) (sym c.from.ensures) ∙ sym c.is_taken.ensures
    ∙ turned in
    λ (first : Name). sym (c.loop-place.invariant first)
    ∙ page_taken place first c.args.page within is

pub loop-place-preserved : goal.loop-place-preserved
loop-place-preserved c =
    let place : ℕ = c.loop-place.place in
    let within : place < 64 = omega arith in
    let turned : c.is_taken.result ≡ false = search rules in
    let is : is_some (page_mark c.args.page place) ≡ false =
    ap (λ (k : ℕ). is_some (page_mark c.args.page k)) (sym c.from.ensures) ∙ sym c.is_taken.ensures
    ∙ turned in
    λ (first : Name). sym (page_skipped place first c.args.page within is)
    ∙ c.loop-place.invariant first

pub returns-clause-none : goal.returns-clause-none
returns-clause-none c =
    let beyond : 64 ≤ c.loop-place.place = omega arith in
    λ (first : Name). sym (c.loop-place.invariant first)
    ∙ page_done c.loop-place.place first c.args.page beyond
