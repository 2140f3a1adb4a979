use Rattle.std.proofs.Common.{◌≡◌, subst, sym, rules}
use Rattle.lpt_table.specs.Deadlines.{IsDue, due_of}
use Rattle.lpt_table.proofs.DueLemmas.{due_of_is}
use Rattle.lpt_table.proofs.table.Table.due.Goals as goal

-- what is computed is due
pub returns-clause-due : goal.returns-clause-due
returns-clause-due c =
    let is : c.due.result ≡ due_of c.args.self.now c.args.now = search rules in
    subst (IsDue c.args.self.now c.args.now) (sym is) (due_of_is c.args.self.now c.args.now)
