-- The passes of messages: none of their events is refused, and what comes of them.
use Rattle.std.proofs.Common.{◌≡◌, ap, refl, true, [], ◌∷◌, map, reverse, Some}
use Rattle.std.specs.List.{slice_get}
use Rattle.lpt_packet.specs.declared.direction.Direction.TheVariants.{Up, Down}
use Rattle.lpt_packet.specs.Checksums.{checksum, octets_in, shift_all}
use Rattle.lpt_packet.specs.Packets.{packet_seen, spelling}
use Rattle.lpt_pus.specs.Commands.{tc_field, tc_verdict}
use Rattle.lpt_pus.specs.Telemetry.{tm_field, tm_verdict}
use Rattle.lpt_part.specs.declared.reason.Reason.TheVariants.{Expired as TimedOut}
use Rattle.lpt_part.specs.Parts.{body_of, part_verdict}
use Rattle.lpt_part.specs.Aborts.{abort_body, abort_verdict}
use Rattle.lpt_events.specs.Arrivals.{arrival}
use Rattle.lpt_events.specs.declared.outcome.Outcome.TheVariants.{AbortNoted, Ignored}
use Rattle.lpt_events.specs.declared.outcome.Why.TheVariants.{NoRoom, Unreadable}
use Rattle.lpt_events.specs.declared.reply.Answer.TheVariants.{Clock, Delivered}
use Rattle.lpt_journal.specs.Abortions.{abortions}
use Rattle.lpt_journal.specs.Releases.{releases}
use Rattle.lpt_journal.specs.Whole.{came}
use Rattle.lpt_journal_examples.proofs.LegalRows.{usual_pass, impatient_pass}
use Rattle.lpt_journal_examples.proofs.Listed.{recorded_is}
use Rattle.lpt_journal_examples.proofs.ListedReleases.{releases_passed}
use Rattle.lpt_journal_examples.specs.Passes.{IsPass, pass_history, answers, usual, impatient, m9, m20, out_of_order, both_ways, noisy, two_expire, set_back, own, other}

-- ---- three parts that come in another order

pub out_of_order-pass : IsPass usual out_of_order
unfolding packet_seen spelling checksum octets_in shift_all tc_field tc_verdict body_of part_verdict
    arrival
out_of_order-pass = usual_pass out_of_order refl

pub out_of_order-released : releases usual (pass_history usual out_of_order)
    ≡ record { place = 9; of = Some (Up, own 7); message = m20 } ∷ []
unfolding packet_seen spelling checksum octets_in shift_all tc_field tc_verdict body_of part_verdict
    arrival
out_of_order-released = releases_passed usual out_of_order

pub out_of_order-came : map (came usual (pass_history usual out_of_order) Up (own 7))
    (1 ∷ 2 ∷ 3 ∷ [])
    ≡ true ∷ true ∷ true ∷ []
unfolding packet_seen spelling checksum octets_in shift_all tc_field tc_verdict body_of part_verdict
    arrival
out_of_order-came =
    ap (λ h. map (came usual h Up (own 7)) (1 ∷ 2 ∷ 3 ∷ []))
    (recorded_is usual (reverse out_of_order))

-- ---- one name in both directions

pub both_ways-pass : IsPass usual both_ways
unfolding packet_seen spelling checksum octets_in shift_all tc_field tc_verdict tm_field tm_verdict body_of
    part_verdict abort_verdict arrival
both_ways-pass = usual_pass both_ways refl

pub both_ways-released : releases usual (pass_history usual both_ways)
    ≡ record { place = 14; of = Some (Down, own 7); message = m9 }
    ∷ record { place = 16; of = Some (Up, own 7); message = m20 } ∷ []
unfolding packet_seen spelling checksum octets_in shift_all tc_field tc_verdict tm_field tm_verdict body_of
    part_verdict abort_verdict arrival
both_ways-released = releases_passed usual both_ways

-- ---- what the link's noise leaves

pub noisy-pass : IsPass usual noisy
unfolding packet_seen spelling checksum octets_in shift_all tc_field tc_verdict tm_field tm_verdict body_of
    part_verdict abort_verdict arrival
noisy-pass = usual_pass noisy refl

pub noisy-up : slice_get (answers usual noisy) 6 ≡ Some (Delivered (Ignored Unreadable))
unfolding packet_seen spelling checksum octets_in shift_all tc_field tc_verdict tm_field tm_verdict body_of
    part_verdict abort_verdict arrival
noisy-up =
    ap (λ h. slice_get (reverse (map (λ x. x.reply.answer) h)) 6)
    (recorded_is usual (reverse noisy))

pub noisy-down : slice_get (answers usual noisy) 10 ≡ Some (Delivered (Ignored Unreadable))
unfolding packet_seen spelling checksum octets_in shift_all tc_field tc_verdict tm_field tm_verdict body_of
    part_verdict abort_verdict arrival
noisy-down =
    ap (λ h. slice_get (reverse (map (λ x. x.reply.answer) h)) 10)
    (recorded_is usual (reverse noisy))

pub noisy-released : releases usual (pass_history usual noisy)
    ≡ record { place = 12; of = Some (Up, own 7); message = m9 } ∷ []
unfolding packet_seen spelling checksum octets_in shift_all tc_field tc_verdict tm_field tm_verdict body_of
    part_verdict abort_verdict arrival
noisy-released = releases_passed usual noisy

-- ---- two receptions that expire

pub two_expire-pass : IsPass impatient two_expire
unfolding packet_seen spelling checksum octets_in shift_all tc_field tc_verdict body_of part_verdict
    arrival
two_expire-pass = impatient_pass two_expire refl

pub two_expire-expired : abortions (pass_history impatient two_expire)
    ≡ record { place = 9; direction = Up; name = own 9 }
    ∷ record { place = 10; direction = Up; name = other 3 } ∷ []
unfolding packet_seen spelling checksum octets_in shift_all tc_field tc_verdict body_of part_verdict
    arrival
two_expire-expired = ap abortions (recorded_is impatient (reverse two_expire))

pub two_expire-released : releases impatient (pass_history impatient two_expire) ≡ []
unfolding packet_seen spelling checksum octets_in shift_all tc_field tc_verdict body_of part_verdict
    arrival
two_expire-released = releases_passed impatient two_expire

-- ---- a clock that is set back, and limits that an end gets later

pub set_back-pass : IsPass usual set_back
unfolding packet_seen spelling checksum octets_in shift_all tc_field tc_verdict tm_field tm_verdict body_of
    part_verdict abort_body abort_verdict arrival
set_back-pass = usual_pass set_back refl

pub set_back-clock : slice_get (answers usual set_back) 8 ≡ Some (Clock 1)
unfolding packet_seen spelling checksum octets_in shift_all tc_field tc_verdict tm_field tm_verdict body_of
    part_verdict abort_body abort_verdict arrival
set_back-clock =
    ap (λ h. slice_get (reverse (map (λ x. x.reply.answer) h)) 8)
    (recorded_is usual (reverse set_back))

pub set_back-crowded : slice_get (answers usual set_back) 15 ≡ Some (Delivered (Ignored NoRoom))
unfolding packet_seen spelling checksum octets_in shift_all tc_field tc_verdict tm_field tm_verdict body_of
    part_verdict abort_body abort_verdict arrival
set_back-crowded =
    ap (λ h. slice_get (reverse (map (λ x. x.reply.answer) h)) 15)
    (recorded_is usual (reverse set_back))

pub set_back-noted : slice_get (answers usual set_back) 23
    ≡ Some (Delivered (AbortNoted (own 8) TimedOut))
unfolding packet_seen spelling checksum octets_in shift_all tc_field tc_verdict tm_field tm_verdict body_of
    part_verdict abort_body abort_verdict arrival
set_back-noted =
    ap (λ h. slice_get (reverse (map (λ x. x.reply.answer) h)) 23)
    (recorded_is usual (reverse set_back))

pub set_back-expired : abortions (pass_history usual set_back)
    ≡ record { place = 18; direction = Up; name = own 7 }
    ∷ record { place = 21; direction = Up; name = own 8 } ∷ []
unfolding packet_seen spelling checksum octets_in shift_all tc_field tc_verdict tm_field tm_verdict body_of
    part_verdict abort_body abort_verdict arrival
set_back-expired = ap abortions (recorded_is usual (reverse set_back))

pub set_back-released : releases usual (pass_history usual set_back) ≡ []
unfolding packet_seen spelling checksum octets_in shift_all tc_field tc_verdict tm_field tm_verdict body_of
    part_verdict abort_body abort_verdict arrival
set_back-released = releases_passed usual set_back
