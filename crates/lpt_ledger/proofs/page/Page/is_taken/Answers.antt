-- A name has a mark where its first bit is set.
use Rattle.std.proofs.Common.{◌≡◌, ◌∙◌, refl, sym, ◌==◌, Bool, true, false, is_some}
use Rattle.std.specs.Int.{bit_at}
use Rattle.lpt_ledger.specs.LedgerInside.{mark_by_bits}
use Rattle.lpt_ledger.proofs.page.Page.is_taken.Goals as goal

marked : (t o : Bool) → is_some (mark_by_bits t o) ≡ t
marked false o = refl
marked true true = refl
marked true false = refl

pub returns : goal.returns
returns c =
    c.has_bit.ensures
    ∙ sym (marked (bit_at c.args.self.taken c.args.place == 1)
    (bit_at c.args.self.opened c.args.place == 1))
