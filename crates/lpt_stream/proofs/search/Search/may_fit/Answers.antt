-- Octets whose checksum is 0 take the register before them to the one behind them.
use Rattle.std.proofs.Common.{◌∙◌, ◌+◌, refl, length, arith}
use Rattle.std.proofs.lemmas.List.{get_or_read_under}
use Rattle.lpt_stream.proofs.RegisterLemmas.{zero-fits}
use Rattle.lpt_stream.proofs.search.Search.may_fit.Goals as goal

pub extend_registers-requires-clause-are : goal.extend_registers-requires-clause-are
extend_registers-requires-clause-are c =
    (c.make_way.ensures.knows c.args.octets.now c.requires.knows).are

pub returns-clause-never : goal.returns-clause-never
returns-clause-never c = λ other zero.
    let s = c.make_way.new.self in
    let rs = c.extend_registers.new.registers.items in
    let ps = c.extend_powers.new.powers.items in
    let n = c.args.len in
    let far = c.in-Ok.ensures.far in
    let of_one = get_or_read_under ps n (length ps) c.index.result.now 0 c.index.ensures
    c.in-Ok-extend_powers.ensures.far refl
    ∙ c.in-Ok-extend_powers.ensures.are n c.in-Ok-extend_powers.ensures.far in
    c.may_be_zero.ensures.never n other of_one
    (zero-fits s.passed n c.index-first.result.now c.index-2.result.now rs c.args.octets.now
    c.in-Ok.ensures.are far c.may_be_zero.ensures.small
    (get_or_read_under rs s.passed (length rs) c.index-first.result.now 0 c.index-first.ensures
    (omega (arith, far)) refl)
    (get_or_read_under rs (s.passed + n) (length rs) c.index-2.result.now 0 c.index-2.ensures far
    refl)
    zero)
