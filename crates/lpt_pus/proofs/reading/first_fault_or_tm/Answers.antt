-- What passes the tests is what stands at the places of telemetry. It is written out so that a
-- wrong body is refused at once.
use Rattle.std.proofs.Common.{◌≡◌, ◌∙◌, sym, ◌-◌, ◌%◌, length, take, drop, get_or, bit_and, Ok, arith, rules}
use Rattle.std.proofs.lemmas.Nat.{and_mask}
use Rattle.std.proofs.lemmas.Slice.{between_to_end}
use Rattle.lpt_packet.specs.declared.packet.PacketKind.TheVariants.{Tm}
use Rattle.lpt_packet.specs.Numbers.{word_at}
use Rattle.lpt_packet.specs.Packets.{fields}
use Rattle.lpt_pus.specs.Numbers.{long_at}
use Rattle.lpt_pus.specs.Telemetry.{telemetry_at}
use Rattle.lpt_pus.proofs.TelemetryLemmas.{tm_verdict-passed, tm_verdict-version}
use Rattle.lpt_pus.proofs.reading.first_fault_or_tm.Goals as goal

pub returns-then-field-ne-PUS_VERSION : goal.returns-then-field-ne-PUS_VERSION
returns-then-field-ne-PUS_VERSION c =
    let packet = c.args.packet.now in
    let kind : packet.kind ≡ Tm = search rules in
    tm_verdict-version (fields packet) kind c.if-field-lt-TM_HEADER.false
    c.if-field-ne-PUS_VERSION.true

pub returns : goal.returns
returns c =
    let packet = c.args.packet.now in
    let b = packet.field.now in
    let kind : packet.kind ≡ Tm = search rules in
    let status : get_or b 0 0 % 16 ≡ bit_and (get_or b 0 0) 15 =
    sym (and_mask (get_or b 0 0) 4) in
    let counter : word_at b 3 ≡ c.from_be_bytes.result = omega arith in
    let destination : word_at b 5 ≡ c.from_be_bytes-2.result = omega arith in
    let time : long_at b 7 ≡ c.from_be_bytes-3.result = omega arith in
    let body : drop 11 b ≡ take (length b - 11) (drop 11 b) =
    sym (between_to_end b 11 (length b) (omega arith)) in
    tm_verdict-passed (fields packet) kind c.if-field-lt-TM_HEADER.false
    c.if-field-ne-PUS_VERSION.false
    ∙ (λ i. Ok (record (telemetry_at (fields packet)) {
      status = status i;
      counter = counter i;
      destination = destination i;
      time = time i;
      body = body i;
    }))
