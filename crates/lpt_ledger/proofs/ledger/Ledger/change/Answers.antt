-- The page of a name that is changed where it stands, or not at all.
use Rattle.std.proofs.Common.{◌≡◌, ◌∙◌, ap, sym, subst, refl, ℕ, ◌%◌, true, false, List, Option, None, Some, IfSome}
use Rattle.lpt_packet.specs.Names.{Name}
use Rattle.lpt_ledger.specs.LedgerInside.{mark_of, mark_on, marks, page_first, page_in, with_state, IsChanged, IsKept}
use Rattle.lpt_ledger.specs.Marks.{Mark, Marks}
use Rattle.lpt_ledger.specs.States.{state_at, state_of}
use Rattle.lpt_ledger.specs.declared.page.Page.{Page}
use Rattle.lpt_ledger.specs.declared.state.State.{State}
use Rattle.lpt_ledger.proofs.ChangeLemmas.{marks-changed, marks-same, IsKept-changed, IsKept-same}
use Rattle.lpt_ledger.proofs.MarksLemmas.{get-marks, state_of-mark_of}
use Rattle.lpt_ledger.proofs.ledger.Ledger.change.Goals as goal
use Rattle.lpt_ledger.proofs.ledger.Ledger.change.Goals.{After-change_page}

-- where it is changed, it is the name's
is_changed : (c : After-change_page)
    → c.change_page.result ≡ true
    → IsChanged c.self.inside.pages.entries c.change_page.new.pages.entries (page_first c.args.name)
    (c.args.name.id % 64) c.args.state
is_changed c is =
    let es = c.self.inside.pages.entries in
    let fs = c.change_page.new.pages.entries in
    subst (λ (first : Name). IsChanged es fs first (c.args.name.id % 64) c.args.state)
    c.first_among-first.ensures
    (subst (λ (place : ℕ). IsChanged es fs c.first_among-first.result place c.args.state)
    c.from.ensures (c.change_page.ensures.done is))

pub invariant_of-self : goal.invariant_of-self
invariant_of-self c =
    let es = c.self.inside.pages.entries in
    let fs = c.change_page.new.pages.entries in
    let ws = c.self.inside.full.entries in
    elim c.change_page.result as (λ b. c.change_page.result ≡ b → IsKept fs ws) [
      | true ↦ λ is.
          IsKept-changed es fs c.args.name c.args.state
          (is_changed (goal.at.invariant_of-self c).After-change_page is) ws c.self.invariant
      | false ↦ λ is.
          IsKept-same es fs c.args.name ws (c.change_page.ensures.not_done is) c.self.invariant
    ] refl

pub returns-clause-done : goal.returns-clause-done
returns-clause-done c = λ is.
    marks-changed c.self.inside.pages.entries c.change_page.new.pages.entries c.args.name
    c.args.state (is_changed (goal.at.returns-clause-done c).After-change_page is)
    ∙ ap (λ (m : Marks). with_state m c.args.name c.args.state) c.self.view_is

pub returns-clause-not_done : goal.returns-clause-not_done
returns-clause-not_done c = λ is.
    marks-same c.self.inside.pages.entries c.change_page.new.pages.entries c.args.name
    (c.change_page.ensures.not_done is)
    ∙ c.self.view_is

-- the state that its page says is the name's
had_by : (es : List (Name × Page)) (m : Marks) (name first : Name) (place : ℕ) (o : Option State)
    → marks es ≡ m
    → first ≡ page_first name
    → place ≡ name.id % 64
    → IfSome o (λ s. mark_on (page_in es first) place ≡ mark_of s)
    → IfSome o (λ s. state_at m name ≡ s)
had_by es m name first place None seen is at h = h
had_by es m name first place (Some s) seen is at h =
    ap (λ (n : Marks). state_at n name) (sym seen)
    ∙ ap (λ (o : Option Mark). state_of o) (get-marks es name
    ∙ (λ i. mark_on (page_in es (sym is i)) (sym at i))
    ∙ h)
    ∙ state_of-mark_of s

pub returns-clause-had : goal.returns-clause-had
returns-clause-had c = λ is.
    had_by c.self.inside.pages.entries c.args.self.now c.args.name c.first_among-first.result
    c.from.result c.args.from c.self.view_is c.first_among-first.ensures c.from.ensures
    (c.change_page.ensures.had is)
