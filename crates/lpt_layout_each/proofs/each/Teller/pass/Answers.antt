-- What is no packet tells nothing.
use Rattle.lpt_layout_each.proofs.EachLemmas.{told-other}
use Rattle.lpt_layout_each.proofs.each.Teller.pass.Goals as goal

pub returns-clause-told : goal.returns-clause-told
returns-clause-told c = λ first heard hears ps h.
    told-other first c.args.self heard hears ps h c.args.kind c.args.octets.now c.note.new.self
    c.requires.other c.note.ensures.noted
