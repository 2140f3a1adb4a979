-- The last part has the highest number, where it has come.
use Rattle.std.proofs.Common.{subst, sym, ℕ, Some}
use Rattle.lpt_reception.specs.Missing.{IsLastNumber}
use Rattle.lpt_reception.specs.Stored.{parts_stored}
use Rattle.lpt_reception.proofs.MissingLemmas.{last_is_top, no_last}
use Rattle.lpt_reception.proofs.store.Store.last_number.Goals as goal

pub returns-then-self-clause-is : goal.returns-then-self-clause-is
returns-then-self-clause-is c =
    let s = c.args.self.now in
    subst (λ (n : ℕ). IsLastNumber (parts_stored c.args.p s) (Some n)) (sym c.top.ensures)
    (last_is_top c.args.p s.ended s.marks.words.items s.octets c.requires.shape c.if-self.true)

pub returns-else-self-clause-is : goal.returns-else-self-clause-is
returns-else-self-clause-is c =
    let s = c.args.self.now in
    no_last c.args.p s.ended s.marks.words.items s.octets c.requires.shape c.if-self.false
