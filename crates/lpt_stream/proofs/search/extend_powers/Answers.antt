-- One octet of zeros more.
use Rattle.std.proofs.Common.{◌≡◌, ◌∙◌, ◌+◌, ◌-◌, ap, sym, subst, refl, length, arith}
use Rattle.std.proofs.lemmas.Bool.Decides.{nat_tests}
use Rattle.std.proofs.lemmas.List.{get_or_read_under, length_push}
use Rattle.lpt_packet.specs.Checksums.{bits, shift_all}
use Rattle.lpt_stream.specs.Registers.{ArePowers}
use Rattle.lpt_stream.proofs.RegisterLemmas.{powers-push}
use Rattle.lpt_stream.proofs.search.extend_powers.Goals as goal

pub loop-powers-preserved : goal.loop-powers-preserved
loop-powers-preserved c =
    let ps = c.loop-powers.powers.items in
    let last = c.len-in-loop-powers.result - 1 in
    let some = c.loop-powers.invariant.some in
    let size : length ps ≡ last + 1 =
    omega (arith, c.len-in-loop-powers.ensures, c.loop-powers.powers.ok.0, some) in
    record {
      are = subst ArePowers (sym c.in_ok-push.ensures.items)
          (powers-push last c.octet_in-next.result ps c.loop-powers.invariant.are size
          (c.octet_in-next.ensures
          ∙ ap (λ x. shift_all x (bits 0))
          (get_or_read_under ps last (length ps) c.index.result.now 0 c.index.ensures
          (omega (arith, size)) refl)));
      few = grind (
        arith,
        nat_tests,
        c.loop-powers-test.true,
        c.len.ensures,
        c.loop-powers.powers.ok.0,
        c.requires.short,
        ap length c.in_ok-push.ensures.items,
        length_push ps c.octet_in-next.result,
      );
      some = omega (
        arith,
        ap length c.in_ok-push.ensures.items,
        length_push ps c.octet_in-next.result,
      );
    }
