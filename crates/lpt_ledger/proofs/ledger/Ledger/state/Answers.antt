-- The state that a name's page says.
use Rattle.std.proofs.Common.{◌∙◌, ap, sym, ◌%◌, Option, ℕ}
use Rattle.lpt_packet.specs.Names.{Name}
use Rattle.lpt_ledger.specs.LedgerInside.{mark_on, page_in, page_mark}
use Rattle.lpt_ledger.specs.Marks.{Mark, Marks}
use Rattle.lpt_ledger.specs.States.{state_of, state_at}
use Rattle.lpt_ledger.proofs.MarksLemmas.{get-marks, state_of-mark_of}
use Rattle.lpt_ledger.proofs.ledger.Ledger.state.Goals as goal

pub returns : goal.returns
returns c =
    sym (state_of-mark_of c.state.result)
    ∙ ap (λ (o : Option Mark). state_of o) (
    c.state.ensures
    ∙ ap (λ (b : ℕ). page_mark c.page_of.result b) c.from.ensures
    ∙ c.page_of.ensures (c.args.name.id % 64)
    ∙ ap (λ (n : Name). mark_on (page_in c.self.inside.pages.entries n) (c.args.name.id % 64)) c.first_among.ensures
    ∙ sym (get-marks c.self.inside.pages.entries c.args.name)
    )
    ∙ ap (λ (m : Marks). state_at m c.args.name) c.self.view_is
