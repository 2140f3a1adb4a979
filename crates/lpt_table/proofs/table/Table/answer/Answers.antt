-- A reception that has ended is taken out as it has become where it stood.
use Rattle.std.proofs.Common.{◌≡◌, subst, Some}
use Rattle.std.specs.Prelude.{IfSome}
use Rattle.lpt_reception.specs.Steps.{part_kept}
use Rattle.lpt_reception.specs.declared.step.Took.TheVariants as took
use Rattle.lpt_table.specs.declared.offer.Offer.TheVariants as offer
use Rattle.lpt_table.specs.EntryLists.{TakesIn}
use Rattle.lpt_table.specs.Offers.{Offers}
use Rattle.lpt_table.specs.Tables.{TableState}
use Rattle.lpt_table.proofs.OfferLemmas.{table, still_open, has_all, has_last, offers_whole, offers_conflict, offers_memory}
use Rattle.lpt_table.proofs.table.Table.answer.Goals as goal
use Rattle.lpt_table.proofs.table.Table.answer.Goals.{In-Some-Whole, In-Some-Conflict, In-Some-NoMemory}

whole : (c : In-Some-Whole)
    → TakesIn c.self.inside.mode c.self.inside.receptions c.offer.new.self c.args.name
    c.args.part.now.number c.args.now (part_kept c.args.part.now) took.Whole
whole c =
    let is : c.offer.result ≡ Some took.Whole = cc in
    subst (λ r. IfSome r (TakesIn c.self.inside.mode c.self.inside.receptions c.offer.new.self
    c.args.name c.args.part.now.number c.args.now (part_kept c.args.part.now))) is
    c.offer.ensures.took

conflict : (c : In-Some-Conflict)
    → TakesIn c.self.inside.mode c.self.inside.receptions c.offer.new.self c.args.name
    c.args.part.now.number c.args.now (part_kept c.args.part.now)
    (took.Conflict c.in-Some-Conflict.reason)
conflict c =
    let is : c.offer.result ≡ Some (took.Conflict c.in-Some-Conflict.reason) = cc in
    subst (λ r. IfSome r (TakesIn c.self.inside.mode c.self.inside.receptions c.offer.new.self
    c.args.name c.args.part.now.number c.args.now (part_kept c.args.part.now))) is
    c.offer.ensures.took

no_memory : (c : In-Some-NoMemory)
    → TakesIn c.self.inside.mode c.self.inside.receptions c.offer.new.self c.args.name
    c.args.part.now.number c.args.now (part_kept c.args.part.now) took.NoMemory
no_memory c =
    let is : c.offer.result ≡ Some took.NoMemory = cc in
    subst (λ r. IfSome r (TakesIn c.self.inside.mode c.self.inside.receptions c.offer.new.self
    c.args.name c.args.part.now.number c.args.now (part_kept c.args.part.now))) is
    c.offer.ensures.took

pub take_out-requires-clause-open : goal.take_out-requires-clause-open
take_out-requires-clause-open c =
    let s = c.self.inside in
    let t = c.args.part.now in
    still_open s.timeout s.mode s.out s.receptions c.offer.new.self c.args.name t.number c.args.now
    (part_kept t)
    took.Whole (whole (goal.at.take_out-requires-clause-open c).In-Some-Whole)

pub take_out-requires-in-Some-Conflict-clause-open : goal.take_out-requires-in-Some-Conflict-clause-open
take_out-requires-in-Some-Conflict-clause-open c =
    let s = c.self.inside in
    let t = c.args.part.now in
    still_open s.timeout s.mode s.out s.receptions c.offer.new.self c.args.name t.number c.args.now
    (part_kept t)
    (took.Conflict c.in-Some-Conflict.reason)
    (conflict (goal.at.take_out-requires-in-Some-Conflict-clause-open c).In-Some-Conflict)

pub ended_by-requires-clause-whole : goal.ended_by-requires-clause-whole
ended_by-requires-clause-whole c =
    let s = c.self.inside in
    let t = c.args.part.now in
    has_all s.timeout s.mode s.out s.receptions c.offer.new.self c.args.name t.number c.args.now
    (part_kept t)
    (whole (goal.at.ended_by-requires-clause-whole c).In-Some-Whole) c.take_out.result
    c.take_out.ensures.it

pub ended_by-requires-clause-there : goal.ended_by-requires-clause-there
ended_by-requires-clause-there c =
    let s = c.self.inside in
    let t = c.args.part.now in
    has_last s.timeout s.mode s.out s.receptions c.offer.new.self c.args.name t.number c.args.now
    (part_kept t)
    (whole (goal.at.ended_by-requires-clause-there c).In-Some-Whole) c.take_out.result
    c.take_out.ensures.it

pub returns-in-Some-Whole : goal.returns-in-Some-Whole
returns-in-Some-Whole c =
    let s = c.self.inside in
    let t = c.args.part.now in
    subst (λ (old : TableState). Offers old c.args.name t.number (part_kept t) c.args.now
    (offer.Whole c.ended_by.result) c.take_out.new.self) c.self.view_is
    (offers_whole s.timeout s.mode s.out s.receptions c.offer.new.self c.args.name t.number c.args.now
    (part_kept t) (whole (goal.at.returns-in-Some-Whole c).In-Some-Whole) c.take_out.result
    c.take_out.ensures.it c.take_out.new.self c.ended_by.result c.take_out.ensures.out
    c.ended_by.ensures)

pub returns-in-Some-Conflict : goal.returns-in-Some-Conflict
returns-in-Some-Conflict c =
    let s = c.self.inside in
    let t = c.args.part.now in
    subst (λ (old : TableState). Offers old c.args.name t.number (part_kept t) c.args.now
    (offer.Conflict c.broken_for.result) c.take_out-in-Some-Conflict.new.self) c.self.view_is
    (offers_conflict s.timeout s.mode s.out s.receptions c.offer.new.self c.args.name t.number c.args.now
    (part_kept t) c.in-Some-Conflict.reason
    (conflict (goal.at.returns-in-Some-Conflict c).In-Some-Conflict)
    c.take_out-in-Some-Conflict.new.self c.take_out-in-Some-Conflict.result c.broken_for.result
    c.take_out-in-Some-Conflict.ensures.out c.take_out-in-Some-Conflict.ensures.it
    c.broken_for.ensures)

pub returns-in-Some-NoMemory : goal.returns-in-Some-NoMemory
returns-in-Some-NoMemory c =
    let s = c.self.inside in
    let t = c.args.part.now in
    subst (λ (old : TableState). Offers old c.args.name t.number (part_kept t) c.args.now
    offer.Memory
    (table s.timeout s.mode s.out c.offer.new.self)) c.self.view_is
    (offers_memory s.timeout s.mode s.out s.receptions c.offer.new.self c.args.name t.number c.args.now
    (part_kept t) (no_memory (goal.at.returns-in-Some-NoMemory c).In-Some-NoMemory))
