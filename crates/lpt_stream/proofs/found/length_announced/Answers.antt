-- What the header announces is what would be judged.
use Rattle.std.proofs.Common.{◌≡◌, ◌∙◌, ◌+◌, ap, sym, refl, false, take, arith}
use Rattle.std.proofs.lemmas.Grind.{common_steps}
use Rattle.lpt_packet.specs.Checksums.{checksum}
use Rattle.lpt_packet.specs.Numbers.{IsOctets, word_at}
use Rattle.lpt_stream.proofs.AstrayLemmas.{unsealed}
use Rattle.lpt_stream.proofs.EndingLemmas.{not_begun}
use Rattle.lpt_stream.proofs.PieceLemmas.{nonzero_begins, unfinished_begins}
use Rattle.lpt_stream.proofs.found.length_announced.Goals as goal

pub returns-then-may_begin-clause-none : goal.returns-then-may_begin-clause-none
returns-then-may_begin-clause-none c = λ other.
    let b = c.args.bytes.now in
    let octets : IsOctets b = λ i. omega (arith, c.type_inv.bytes i) in
    let size : c.in_ok-len.len ≡ 7 + word_at b 4 = grind (arith, common_steps) in
    nonzero_begins b octets (λ zero. other (ap (λ n. checksum (take n b)) size ∙ zero))

pub returns-then-may_begin-clause-wrong : goal.returns-then-may_begin-clause-wrong
returns-then-may_begin-clause-wrong c = λ other.
    let b = c.args.bytes.now in
    let octets : IsOctets b = λ i. omega (arith, c.type_inv.bytes i) in
    let size : c.in_ok-len.len ≡ 7 + word_at b 4 = grind (arith, common_steps) in
    unsealed b octets (λ zero. other (ap (λ n. checksum (take n b)) size ∙ zero))

pub returns-in_err-len-clause-missed : goal.returns-in_err-len-clause-missed
returns-in_err-len-clause-missed c is =
    unfinished_begins false c.args.bytes.now (c.in_err-len.ensures.none.0 refl)

pub returns-else-may_begin-clause-missed : goal.returns-else-may_begin-clause-missed
returns-else-may_begin-clause-missed c is =
    not_begun c.args.bytes.now (sym c.may_begin.ensures ∙ c.if-may_begin.false)
