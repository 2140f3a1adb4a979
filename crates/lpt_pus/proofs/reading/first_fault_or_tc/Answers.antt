-- What passes the tests is what stands at the places of a telecommand. It is written out so that a
-- wrong body is refused at once.
use Rattle.std.proofs.Common.{◌≡◌, ◌∙◌, sym, ◌-◌, ◌%◌, length, take, drop, get_or, bit_and, Ok, arith, rules}
use Rattle.std.proofs.lemmas.Nat.{and_mask}
use Rattle.std.proofs.lemmas.Slice.{between_to_end}
use Rattle.lpt_packet.specs.declared.packet.PacketKind.TheVariants.{Tc}
use Rattle.lpt_packet.specs.Numbers.{word_at}
use Rattle.lpt_packet.specs.Packets.{fields}
use Rattle.lpt_pus.specs.Commands.{command_at}
use Rattle.lpt_pus.proofs.CommandLemmas.{tc_verdict-passed, tc_verdict-version}
use Rattle.lpt_pus.proofs.reading.first_fault_or_tc.Goals as goal

pub returns-then-field-ne-PUS_VERSION : goal.returns-then-field-ne-PUS_VERSION
returns-then-field-ne-PUS_VERSION c =
    let packet = c.args.packet.now in
    let kind : packet.kind ≡ Tc = search rules in
    tc_verdict-version (fields packet) kind c.if-field-lt-TC_HEADER.false
    c.if-field-ne-PUS_VERSION.true

pub returns : goal.returns
returns c =
    let packet = c.args.packet.now in
    let b = packet.field.now in
    let kind : packet.kind ≡ Tc = search rules in
    let flags : get_or b 0 0 % 16 ≡ bit_and (get_or b 0 0) 15 =
    sym (and_mask (get_or b 0 0) 4) in
    let source : word_at b 3 ≡ c.from_be_bytes.result = omega arith in
    let body : drop 5 b ≡ take (length b - 5) (drop 5 b) =
    sym (between_to_end b 5 (length b) (omega arith)) in
    tc_verdict-passed (fields packet) kind c.if-field-lt-TC_HEADER.false
    c.if-field-ne-PUS_VERSION.false
    ∙ (λ i. Ok (record (command_at (fields packet)) {
      flags = flags i;
      source = source i;
      body = body i;
    }))
