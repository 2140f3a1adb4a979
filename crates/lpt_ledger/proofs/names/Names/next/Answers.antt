-- A page of which no name is left is followed by the next one.
use Rattle.std.proofs.Common.{◌≡◌, ◌∙◌, ap, sym, subst, ◌-◌, List, [], ◌++◌, Option, IfNone, arith}
use Rattle.lpt_packet.specs.Names.{Name}
use Rattle.lpt_ledger.specs.declared.page.Page.{Page}
use Rattle.lpt_ledger.specs.RunsInside.{listing, page_names, AllFirst}
use Rattle.lpt_ledger.proofs.names.Names.next.Goals as goal

pub returns-in_err-first-clause-none : goal.returns-in_err-first-clause-none
unfolding listing
returns-in_err-first-clause-none c =
    let first = c.loop-place.self-inside.first in
    let none : c.args.self.now ≡ [] =
    sym c.loop-place.invariant.0
    ∙ (λ i. c.in_default.ensures.none first i ++ listing (c.in_err-first.ensures.steps.0 i)) in
    subst (λ (r : Option Name). IfNone r (c.args.self.now ≡ [])) (sym c.from_residual.ensures) none

pub returns-in_err-first-clause-end : goal.returns-in_err-first-clause-end
unfolding listing
returns-in_err-first-clause-end c =
    let inside = c.loop-place.self-inside in
    let left : List Name =
    page_names (64 - inside.place) inside.place inside.first inside.page ++ listing c.next.new.self
    in
    let none : left ≡ [] =
    (λ i. c.in_default.ensures.none inside.first i ++ listing (c.in_err-first.ensures.steps.1 i)) in
    subst (λ (r : Option Name). IfNone r (left ≡ [])) (sym c.from_residual.ensures) none

pub loop-place-preserved : goal.loop-place-preserved
unfolding listing
loop-place-preserved c =
    let inside = c.loop-place.self-inside in
    let steps = c.in_ok-first.ensures.steps in
    let firsts = subst AllFirst steps c.loop-place.invariant.1.behind in (
      ap (λ (es : List (Name × Page)). listing es) (sym steps)
          ∙ (λ i. sym (c.in_default.ensures.none inside.first) i ++ listing inside.pages)
          ∙ c.loop-place.invariant.0,
      record { on_page = omega arith; begins = firsts.0; behind = firsts.1 },
    )
