-- A worked pass in which both nodes are restarted and a name is used again, computed by the
-- definitions.
use Rattle.std.proofs.Common.{◌≡◌, ◌∙◌, ap, sym, refl, List, [], ◌∷◌, map, reverse, Some, None}
use Rattle.std.specs.List.{slice_get}
use Rattle.lpt_packet.specs.declared.direction.Direction.TheVariants.{Up}
use Rattle.lpt_packet.specs.Checksums.{checksum, octets_in, shift_all}
use Rattle.lpt_packet.specs.Packets.{packet_seen, spelling}
use Rattle.lpt_pus.specs.Commands.{tc_field, tc_verdict}
use Rattle.lpt_part.specs.Parts.{body_of, part_verdict}
use Rattle.lpt_events.specs.Arrivals.{arrival}
use Rattle.lpt_acts.specs.Acts.{Act, Open, Send, Plain, Finish, Lose, Take, Deliver, Claim, Commit, Retire, Restart}
use Rattle.lpt_events.specs.declared.fault.StepFault.TheVariants.{NotOpen, NoJob, NotClear, StillOpen}
use Rattle.lpt_events.specs.declared.lane.Lane.TheVariants.{S1, S2}
use Rattle.lpt_events.specs.declared.outcome.Outcome.TheVariants.{Kept, Released, PlainReleased, Ignored}
use Rattle.lpt_events.specs.declared.outcome.Why.TheVariants.{Closed}
use Rattle.lpt_events.specs.declared.reply.Answer.TheVariants.{Opened, Finished, Lost, Took, Delivered, Claimed, Committed, Stale, Retired, Restarted}
use Rattle.lpt_events.specs.declared.side.Side.TheVariants.{Ground, Craft}
use Rattle.lpt_events.specs.declared.worker.Worker.TheVariants.{W1}
use Rattle.lpt_journal.specs.Jobs.{memories}
use Rattle.lpt_journal.specs.Link.{sent}
use Rattle.lpt_journal.specs.Releases.{releases}
use Rattle.lpt_journal.specs.Replies.{history_after}
use Rattle.lpt_journal_examples.proofs.LegalRows.{usual_pass}
use Rattle.lpt_journal_examples.proofs.Listed.{recorded_is}
use Rattle.lpt_journal_examples.proofs.ListedReleases.{releases_passed}
use Rattle.lpt_journal_examples.proofs.Played.{Refuses, played, played_is, gives, puts_packet}
use Rattle.lpt_journal_examples.specs.Passes.{IsPass, pass_history, answers, usual, usual_memories, m20, m9, load, load_packet, names_renewed, own}

-- the pass, with events between that are refused
abbrev asked : List Act
asked =
    Plain 1 0 6 2 load ∷ Take S1 0 ∷ Deliver S1
    ∷ Claim W1 ∷ Restart Craft ∷ Commit W1 ∷ Claim W1
    ∷ Open Up (own 7) m20 ∷ Send Up (own 7) 1 ∷ Send Up (own 7) 2 ∷ Send Up (own 7) 3
    ∷ Take S2 2
    ∷ Take S1 1 ∷ Deliver S1 ∷ Take S1 2 ∷ Deliver S1 ∷ Take S1 3 ∷ Deliver S1
    ∷ Lose 1 ∷ Lose 2 ∷ Lose 3
    ∷ Retire Up (own 7) ∷ Finish Up (own 7) ∷ Retire Up (own 7) ∷ Deliver S2 ∷ Retire Up (own 7)
    ∷ Open Up (own 7) m9 ∷ Send Up (own 7) 1 ∷ Send Up (own 7) 2
    ∷ Take S1 4 ∷ Deliver S1 ∷ Take S1 5 ∷ Deliver S1
    ∷ Claim W1 ∷ Commit W1
    ∷ Open Up (own 8) m9 ∷ Send Up (own 8) 1 ∷ Restart Ground ∷ Send Up (own 8) 2 ∷ Retire Up (own 8)
    ∷ Lose 6 ∷ Retire Up (own 8) ∷ Retire Up (own 8)
    ∷ Lose 4 ∷ Lose 5 ∷ Retire Up (own 7) ∷ Open Up (own 7) m20 ∷ Send Up (own 7) 1 ∷ []

-- A request that was claimed before the restart is stale, and there is none to claim. A name is
-- retired once its sender is closed and no part of it is on its way.
pub asked-given : (played usual asked).given ≡
    puts_packet 0 ∷ gives (Took 0) ∷ gives (Delivered (PlainReleased 27))
    ∷ gives (Claimed 0 0) ∷ gives (Restarted 1) ∷ gives (Stale 0 0) ∷ Refuses NoJob
    ∷ gives (Opened 3) ∷ puts_packet 1 ∷ puts_packet 2 ∷ puts_packet 3
    ∷ gives (Took 2)
    ∷ gives (Took 1) ∷ gives (Delivered (Kept (own 7) 1)) ∷ gives (Took 2)
    ∷ gives (Delivered (Kept (own 7) 2)) ∷ gives (Took 3) ∷ gives (Delivered (Released (own 7) 20))
    ∷ gives Lost ∷ gives Lost ∷ gives Lost
    ∷ Refuses StillOpen ∷ gives Finished ∷ Refuses NotClear
    ∷ gives (Delivered (Ignored Closed)) ∷ gives Retired
    ∷ gives (Opened 2) ∷ puts_packet 4 ∷ puts_packet 5
    ∷ gives (Took 4) ∷ gives (Delivered (Kept (own 7) 1)) ∷ gives (Took 5)
    ∷ gives (Delivered (Released (own 7) 9))
    ∷ gives (Claimed 1 0) ∷ gives (Committed 1 0)
    ∷ gives (Opened 2) ∷ puts_packet 6 ∷ gives (Restarted 1) ∷ Refuses NotOpen
    ∷ Refuses NotClear ∷ gives Lost ∷ gives Retired ∷ Refuses NotOpen
    ∷ gives Lost ∷ gives Lost ∷ gives Retired ∷ gives (Opened 3) ∷ puts_packet 7 ∷ []
unfolding packet_seen spelling checksum octets_in shift_all tc_field tc_verdict body_of part_verdict
    arrival
asked-given = ap (λ p. p.given) (played_is usual asked)

-- what isn't refused of it is the pass
pub asked-after : (played usual asked).after
    ≡ history_after usual usual_memories (reverse names_renewed)
unfolding packet_seen spelling checksum octets_in shift_all tc_field tc_verdict body_of part_verdict
    arrival
asked-after =
    ap (λ p. p.after) (played_is usual asked) ∙ sym (recorded_is usual (reverse names_renewed))

-- none of its events is refused
pub renewed-pass : IsPass usual names_renewed
unfolding packet_seen spelling checksum octets_in shift_all tc_field tc_verdict body_of part_verdict
    arrival
renewed-pass = usual_pass names_renewed refl

-- the commit of what was claimed before the restart is stale
pub renewed-stale : slice_get (answers usual names_renewed) 5 ≡ Some (Stale 0 0)
unfolding packet_seen spelling checksum octets_in shift_all tc_field tc_verdict body_of part_verdict
    arrival
renewed-stale =
    ap (λ h. slice_get (reverse (map (λ x. x.reply.answer) h)) 5)
    (recorded_is usual (reverse names_renewed))

-- the request was released, and both messages of the name, each as it was opened
pub renewed-released : releases usual (pass_history usual names_renewed)
    ≡ record { place = 2; of = None; message = load_packet }
    ∷ record { place = 16; of = Some (Up, own 7); message = m20 }
    ∷ record { place = 29; of = Some (Up, own 7); message = m9 } ∷ []
unfolding packet_seen spelling checksum octets_in shift_all tc_field tc_verdict body_of part_verdict
    arrival
renewed-released = releases_passed usual names_renewed

-- nothing was executed
pub renewed-left : memories usual usual_memories (pass_history usual names_renewed) ≡ usual_memories
unfolding packet_seen spelling checksum octets_in shift_all tc_field tc_verdict body_of part_verdict
    arrival
renewed-left = ap (memories usual usual_memories) (recorded_is usual (reverse names_renewed))

-- ground counts its packets from 0 again
pub renewed-packet :
    slice_get (sent (history_after usual usual_memories (reverse names_renewed))) 7 ≡ Some (record {
      direction = Up;
      octets =
          24 ∷ 100 ∷ 192 ∷ 0 ∷ 0 ∷ 18 ∷ 32 ∷ 13 ∷ 9 ∷ 0 ∷ 1 ∷ 0 ∷ 7 ∷ 0 ∷ 1 ∷ 0 ∷ 1 ∷ 2 ∷ 3 ∷ 4 ∷ 5 ∷ 6
          ∷ 7 ∷ 244 ∷ 13 ∷ [];
    })
unfolding packet_seen spelling checksum octets_in shift_all tc_field tc_verdict body_of part_verdict
    arrival
renewed-packet = ap (λ h. slice_get (sent h) 7) (recorded_is usual (reverse names_renewed))
