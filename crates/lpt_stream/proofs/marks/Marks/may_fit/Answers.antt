-- Octets whose checksum is 0 take the register before them to the one behind them.
use Rattle.std.proofs.Common.{◌∙◌, ◌+◌, ◌*◌, ◌/◌, get_or, arith}
use Rattle.lpt_stream.proofs.MarkLemmas.{from_mark, zero-marked}
use Rattle.lpt_stream.proofs.marks.Marks.may_fit.Goals as goal

pub returns-clause-never : goal.returns-clause-never
returns-clause-never c = λ other none.
    let end = c.args.at + c.args.len in
    let last = end / 64 in
    let mark = get_or c.extend_marks-self.new.room last 0 in
    let octets = c.args.octets.now in
    c.may_be_zero.ensures.never c.args.len other c.power.ensures
    (zero-marked c.args.at c.args.len c.args.self.now.before c.octets_in-behind.result octets
    c.requires.within c.may_be_zero.ensures.small c.requires.marked.before
    (c.octets_in-behind.ensures
    ∙ from_mark (last * 64) end mark octets (omega arith)
    (c.extend_marks-self.ensures.are last c.extend_marks-self.ensures.far).1) none)
