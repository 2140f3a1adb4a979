-- What the tests of a part tell of the parts that were kept.
use Rattle.std.proofs.Common.{◌∙◌, sym}
use Rattle.lpt_reception.specs.Steps.{part_kept}
use Rattle.lpt_reception.specs.Stored.{parts_stored}
use Rattle.lpt_reception.proofs.PlaceLemmas.{known_part, other_part, overrun_part, new_part, conflict_breaks, gap_breaks}
use Rattle.lpt_reception.proofs.store.Store.standing_of.Goals as goal

pub returns-then-holds : goal.returns-then-holds
returns-then-holds c =
    let s = c.args.self.now in
    let part = c.args.part.now in
    known_part part.p s.ended s.marks.words.items s.octets c.requires.shape part.number
    (part_kept part) (sym c.has.ensures ∙ c.if-has.true) (sym c.holds.ensures ∙ c.if-holds.true)

pub returns-else-holds : goal.returns-else-holds
returns-else-holds c =
    let s = c.args.self.now in
    let part = c.args.part.now in
    conflict_breaks c.args.mode (parts_stored part.p s) part.number (part_kept part)
    (other_part part.p s.ended s.marks.words.items s.octets c.requires.shape part.number
    (part_kept part) (sym c.has.ensures ∙ c.if-has.true) (sym c.holds.ensures ∙ c.if-holds.false))

pub returns-then-is_overrun_by : goal.returns-then-is_overrun_by
returns-then-is_overrun_by c =
    let s = c.args.self.now in
    let part = c.args.part.now in
    conflict_breaks c.args.mode (parts_stored part.p s) part.number (part_kept part)
    (overrun_part part.p s.ended s.marks.words.items s.octets c.requires.shape part.number
    (part_kept part) (sym c.has.ensures ∙ c.if-has.false)
    (sym c.is_overrun_by.ensures ∙ c.if-is_overrun_by.true))

pub returns-then-is_gap : goal.returns-then-is_gap
returns-then-is_gap c =
    let s = c.args.self.now in
    let part = c.args.part.now in
    gap_breaks c.args.mode (parts_stored part.p s) part.number (part_kept part)
    (new_part part.p s.ended s.marks.words.items s.octets c.requires.shape part.number
    (part_kept part) (sym c.has.ensures ∙ c.if-has.false)
    (sym c.is_overrun_by.ensures ∙ c.if-is_overrun_by.false))
    (sym c.is_gap.ensures ∙ c.if-is_gap.true)

pub returns-else-is_gap : goal.returns-else-is_gap
returns-else-is_gap c =
    let s = c.args.self.now in
    let part = c.args.part.now in
    record {
      new = new_part part.p s.ended s.marks.words.items s.octets c.requires.shape part.number
          (part_kept part) (sym c.has.ensures ∙ c.if-has.false)
          (sym c.is_overrun_by.ensures ∙ c.if-is_overrun_by.false);
      in_order = sym c.is_gap.ensures ∙ c.if-is_gap.false;
    }
