-- What comes out, and what is computed, follow of the answer.
use Rattle.lpt_packet.specs.Names.{named_by}
use Rattle.lpt_reception.specs.Steps.{part_kept}
use Rattle.lpt_table.proofs.OfferLemmas.{offers_its, offers_offered}
use Rattle.lpt_table.proofs.table.Table.offer.Goals as goal

pub returns-clause-its : goal.returns-clause-its
returns-clause-its c =
    offers_its c.args.self.now c.answer.new.self
    (named_by c.args.source c.args.part.now.id) c.args.part.now.number c.args.now
    (part_kept c.args.part.now)
    c.answer.result c.answer.ensures

pub returns-clause-offered : goal.returns-clause-offered
returns-clause-offered c =
    offers_offered c.args.self.now c.answer.new.self
    (named_by c.args.source c.args.part.now.id) c.args.part.now.number c.args.now
    (part_kept c.args.part.now)
    c.answer.result c.answer.ensures
