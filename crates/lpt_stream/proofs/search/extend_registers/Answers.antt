-- One octet more.
use Rattle.std.proofs.Common.{◌≡◌, ◌∙◌, ◌+◌, ◌-◌, ◌<◌, List, ℕ, ap, sym, subst, refl, length, get_or, arith}
use Rattle.std.proofs.lemmas.Bool.Decides.{nat_tests}
use Rattle.std.proofs.lemmas.List.{get_or_read_under, length_push}
use Rattle.lpt_packet.specs.Checksums.{bits, shift_all}
use Rattle.lpt_stream.specs.Registers.{AreRegisters}
use Rattle.lpt_stream.proofs.RegisterLemmas.{registers-push}
use Rattle.lpt_stream.proofs.search.extend_registers.Goals as goal

pub loop-registers-preserved : goal.loop-registers-preserved
loop-registers-preserved c =
    let rs = c.loop-registers.registers.items in
    let b = c.args.octets.now in
    let at = c.args.passed in
    let last = c.len-last.result - 1 in
    let some = c.loop-registers.invariant.some in
    let within = c.requires.within in
    let size : length rs ≡ last + 1 =
    omega (arith, c.len-last.ensures, c.loop-registers.registers.ok.0, some) in
    let fits : last - at < length b =
    grind (
      arith,
      nat_tests,
      c.loop-registers-test.true,
      c.len.ensures,
      c.loop-registers.registers.ok.0,
      size,
      within,
      some,
    ) in
    record {
      are = subst (λ (xs : List ℕ). AreRegisters at xs b) (sym c.in_ok-push.ensures.items)
          (registers-push at last c.octet_in-next.result rs b c.loop-registers.invariant.are
          (omega (arith, size, some)) size fits
          (c.octet_in-next.ensures
          ∙ ap (λ x. shift_all x (bits (get_or b (last - at) 0)))
          (get_or_read_under rs last (length rs) c.index.result.now 0 c.index.ensures
          (omega (arith, size)) refl)));
      few = grind (
        arith,
        nat_tests,
        c.loop-registers-test.true,
        c.len.ensures,
        c.loop-registers.registers.ok.0,
        c.requires.room,
        ap length c.in_ok-push.ensures.items,
        length_push rs c.octet_in-next.result,
      );
      some = omega (
        arith,
        some,
        ap length c.in_ok-push.ensures.items,
        length_push rs c.octet_in-next.result,
      );
    }
