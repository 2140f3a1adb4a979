-- Worked passes where parts are taken in the order of their numbers, computed by the definitions.
use Rattle.std.proofs.Common.{◌≡◌, ap, refl, true, [], ◌∷◌, map, reverse, Some}
use Rattle.std.specs.List.{slice_get}
use Rattle.lpt_packet.specs.declared.direction.Direction.TheVariants.{Up}
use Rattle.lpt_packet.specs.Checksums.{checksum, octets_in, shift_all}
use Rattle.lpt_packet.specs.Packets.{packet_seen, spelling}
use Rattle.lpt_pus.specs.Commands.{tc_field, tc_verdict}
use Rattle.lpt_pus.specs.Telemetry.{tm_field, tm_verdict}
use Rattle.lpt_part.specs.declared.reason.Reason.TheVariants.{Discontinuity}
use Rattle.lpt_part.specs.Aborts.{abort_body, abort_verdict}
use Rattle.lpt_part.specs.Parts.{body_of, part_verdict}
use Rattle.lpt_events.specs.declared.outcome.Outcome.TheVariants.{Broken, AbortNoted}
use Rattle.lpt_events.specs.Arrivals.{arrival}
use Rattle.lpt_events.specs.declared.reply.Answer.TheVariants.{Delivered}
use Rattle.lpt_journal.specs.Abortions.{abortions}
use Rattle.lpt_journal.specs.Releases.{releases}
use Rattle.lpt_journal.specs.Whole.{came}
use Rattle.lpt_journal_examples.proofs.LegalRows.{strict_pass}
use Rattle.lpt_journal_examples.proofs.Listed.{recorded_is}
use Rattle.lpt_journal_examples.proofs.ListedReleases.{releases_passed}
use Rattle.lpt_journal_examples.specs.Passes.{IsPass, pass_history, answers, strict, m20, out_of_order, second_part_missing, in_order, own}

-- ---- a gap behind a part that was kept

pub second_part_missing-pass : IsPass strict second_part_missing
unfolding packet_seen spelling checksum octets_in shift_all tc_field tc_verdict tm_field tm_verdict body_of
    part_verdict abort_body abort_verdict arrival
second_part_missing-pass = strict_pass second_part_missing refl

pub second_part_missing-broken : slice_get (answers strict second_part_missing) 7
    ≡ Some (Delivered (Broken (own 7) Discontinuity))
unfolding packet_seen spelling checksum octets_in shift_all tc_field tc_verdict tm_field tm_verdict body_of
    part_verdict abort_body abort_verdict arrival
second_part_missing-broken =
    ap (λ h. slice_get (reverse (map (λ x. x.reply.answer) h)) 7)
    (recorded_is strict (reverse second_part_missing))

pub second_part_missing-noted : slice_get (answers strict second_part_missing) 11
    ≡ Some (Delivered (AbortNoted (own 7) Discontinuity))
unfolding packet_seen spelling checksum octets_in shift_all tc_field tc_verdict tm_field tm_verdict body_of
    part_verdict abort_body abort_verdict arrival
second_part_missing-noted =
    ap (λ h. slice_get (reverse (map (λ x. x.reply.answer) h)) 11)
    (recorded_is strict (reverse second_part_missing))

pub second_part_missing-aborted : abortions (pass_history strict second_part_missing)
    ≡ record { place = 7; direction = Up; name = own 7 } ∷ []
unfolding packet_seen spelling checksum octets_in shift_all tc_field tc_verdict tm_field tm_verdict body_of
    part_verdict abort_body abort_verdict arrival
second_part_missing-aborted = ap abortions (recorded_is strict (reverse second_part_missing))

pub second_part_missing-released : releases strict (pass_history strict second_part_missing) ≡ []
unfolding packet_seen spelling checksum octets_in shift_all tc_field tc_verdict tm_field tm_verdict body_of
    part_verdict abort_body abort_verdict arrival
second_part_missing-released = releases_passed strict second_part_missing

-- ---- a gap before a part was kept

pub out_of_order-pass : IsPass strict out_of_order
unfolding packet_seen spelling checksum octets_in shift_all tc_field tc_verdict tm_field tm_verdict body_of
    part_verdict abort_body abort_verdict arrival
out_of_order-pass = strict_pass out_of_order refl

pub out_of_order-broken : slice_get (answers strict out_of_order) 5
    ≡ Some (Delivered (Broken (own 7) Discontinuity))
unfolding packet_seen spelling checksum octets_in shift_all tc_field tc_verdict tm_field tm_verdict body_of
    part_verdict abort_body abort_verdict arrival
out_of_order-broken =
    ap (λ h. slice_get (reverse (map (λ x. x.reply.answer) h)) 5)
    (recorded_is strict (reverse out_of_order))

pub out_of_order-aborted : abortions (pass_history strict out_of_order)
    ≡ record { place = 5; direction = Up; name = own 7 } ∷ []
unfolding packet_seen spelling checksum octets_in shift_all tc_field tc_verdict tm_field tm_verdict body_of
    part_verdict abort_body abort_verdict arrival
out_of_order-aborted = ap abortions (recorded_is strict (reverse out_of_order))

pub out_of_order-released : releases strict (pass_history strict out_of_order) ≡ []
unfolding packet_seen spelling checksum octets_in shift_all tc_field tc_verdict tm_field tm_verdict body_of
    part_verdict abort_body abort_verdict arrival
out_of_order-released = releases_passed strict out_of_order

-- ---- parts in order

pub in_order-pass : IsPass strict in_order
unfolding packet_seen spelling checksum octets_in shift_all tc_field tc_verdict tm_field tm_verdict body_of
    part_verdict abort_body abort_verdict arrival
in_order-pass = strict_pass in_order refl

pub in_order-released : releases strict (pass_history strict in_order)
    ≡ record { place = 11; of = Some (Up, own 7); message = m20 } ∷ []
unfolding packet_seen spelling checksum octets_in shift_all tc_field tc_verdict tm_field tm_verdict body_of
    part_verdict abort_body abort_verdict arrival
in_order-released = releases_passed strict in_order

pub in_order-came : map (came strict (pass_history strict in_order) Up (own 7)) (1 ∷ 2 ∷ 3 ∷ [])
    ≡ true ∷ true ∷ true ∷ []
unfolding packet_seen spelling checksum octets_in shift_all tc_field tc_verdict tm_field tm_verdict body_of
    part_verdict abort_body abort_verdict arrival
in_order-came =
    ap (λ h. map (came strict h Up (own 7)) (1 ∷ 2 ∷ 3 ∷ []))
    (recorded_is strict (reverse in_order))
