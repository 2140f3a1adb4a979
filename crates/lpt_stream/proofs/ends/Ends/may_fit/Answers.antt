-- Octets whose checksum is 0 take the register before them to the one behind them.
use Rattle.std.proofs.Common.{◌∙◌, ◌+◌, ap, sym, drop, length-drop, take_all, arith}
use Rattle.lpt_packet.specs.Checksums.{checksum, octets_in}
use Rattle.lpt_stream.proofs.MarkLemmas.{zero-marked}
use Rattle.lpt_stream.proofs.ends.Ends.may_fit.Goals as goal

pub returns : goal.returns
returns c = λ at octets kept end other none.
    let n = c.args.len in
    let left = length-drop at octets in
    c.may_be_zero.ensures.never n other c.power.ensures
    (zero-marked at n c.args.self.now.before c.args.self.now.behind octets
    (omega (arith, end)) c.may_be_zero.ensures.small kept.before
    (kept.behind ∙ ap (octets_in 0) (sym (take_all (at + n) octets (omega (arith, end)))))
    (ap checksum (take_all n (drop at octets) (omega (arith, left, end))) ∙ none))
