use Rattle.lpt_layout_each.proofs.CountLemmas.{note-same}
use Rattle.lpt_layout_each.proofs.writing.note.Goals as goal

pub returns-clause-same : goal.returns-clause-same
returns-clause-same c =
    note-same c.args.counts.now c.insert.new.self c.args.name c.args.count
    c.in_ok-insert.ensures.updates.0 c.requires.same
