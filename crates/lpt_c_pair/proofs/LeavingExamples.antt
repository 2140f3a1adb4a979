-- The worked run that drops a request and refuses one, computed by the definitions.
use Rattle.std.proofs.Common.{◌∙◌, ap, sym, subst, refl, ℕ, ◌<◌, [], ◌∷◌, length, Some, None, inl, arith}
use Rattle.lpt_acts.specs.Acts as act
use Rattle.lpt_apart.specs.Ends.{Asked, Left, Released, with_report}
use Rattle.lpt_packet.specs.Checksums.{checksum, octets_in, shift_all}
use Rattle.lpt_packet.specs.Packets.{packet_seen, spelling}
use Rattle.lpt_packet.specs.declared.direction.Direction.TheVariants.{Up}
use Rattle.lpt_pus.specs.Commands.{tc_field, tc_verdict, command_in}
use Rattle.lpt_pus.specs.Telemetry.{tm_field, tm_verdict}
use Rattle.lpt_pus.specs.declared.failure_code.FailureCode.TheVariants.{OutOfRange}
use Rattle.lpt_part.specs.Parts.{body_of, part_verdict}
use Rattle.lpt_ledger.specs.LeastFree.{first_of_numbers, least_free_in}
use Rattle.lpt_events.specs.Arrivals.{arrival}
use Rattle.lpt_events.specs.declared.side.Side.TheVariants.{Ground, Craft}
use Rattle.lpt_execution.specs.Reporting.{request_source}
use Rattle.lpt_jobs.specs.declared.job.Job.TheVariants.{Committed, Waiting}
use Rattle.lpt_node.specs.Jobs.{refusal_apply, refused_front}
use Rattle.lpt_node.specs.Nodes.{NodeView, no_data}
use Rattle.lpt_c_end.specs.Changes.{IsNew}
use Rattle.lpt_c_end.specs.Codes.{node_code}
use Rattle.lpt_c_end.specs.Contents.{memories_told}
use Rattle.lpt_c_end.specs.Kept.{memories_refusal, sizes_in}
use Rattle.lpt_c_end.specs.Ready.{IsReady}
use Rattle.lpt_c_end.specs.Refusals.{sending_refusal}
use Rattle.lpt_c_end.specs.declared.end.End.{End}
use Rattle.lpt_c_end.specs.declared.kept.Kept.{Kept}
use Rattle.lpt_c_pair.specs.Pairs.{IsDone, Refuse}
use Rattle.lpt_c_pair.specs.Runs.{CanStand, Standing, standing_begun}
use Rattle.lpt_c_pair.specs.Called.{content, memory, usual_own}
use Rattle.lpt_c_pair.specs.Leavings.{LeavingsCanBe, none_executed}
use Rattle.lpt_c_pair.proofs.Computed.{asked, behind_refusal, octets, opens_nothing, packet_is, refusal, refuses, refuses_loudly, source, with_jobs}
use Rattle.lpt_c_pair.proofs.Making.{made}
use Rattle.lpt_c_pair.proofs.Own.{before, first_kept}
use Rattle.lpt_c_pair.proofs.Stages.{asked_end, asks, drops, is_ready, none_read, reads, takes, takes_again}
use Rattle.lpt_c_pair.proofs.Working.{one_done, one_waiting}
use Rattle.lpt_journal_examples.specs.Passes.{load_packet, usual}

few : length (refusal 1).1.packets < 1000
few =
    let one : 1 < 1000 = omega arith in
    subst (λ (n : ℕ). n < 1000) (sym (refuses_loudly 1)) one

module _ (g k : End) (new_g : IsNew Ground usual [] [] g)
    (new_k : IsNew Craft usual memory content k) where
  abbrev asked_for : End
  asked_for = asked_end g new_g

  abbrev taken : End
  taken = before k new_k 0 (Waiting load_packet ∷ []) one_waiting

  abbrev dropped : End
  dropped = before k new_k 1 [] none_read

  abbrev again : End
  again = before k new_k 1 (Waiting load_packet ∷ []) one_waiting

  abbrev read : End
  read = before k new_k 1 (Committed source ∷ []) one_done

  abbrev refused : End
  refused =
      made k (behind_refusal 2) (Some load_packet) (refusal 1).1.packets few
      (subst (λ (o : Kept). IsReady (record k.node { at = behind_refusal 2 }) (sizes_in o))
      (sym new_k.memories)
      (is_ready (record k.node { at = behind_refusal 2 }) first_kept
      (ap (λ (n : NodeView). n.config) new_k.node) refl none_read))

  abbrev start : Standing
  start = standing_begun usual (memories_told content memory) 0 usual_own g k

  refuses_it : IsDone (Refuse OutOfRange) read refused
  refuses_it = (
    (λ i. memories_refusal (new_k.memories i)
        (sending_refusal (node_code (refusal_apply (with_jobs 1 (Committed source ∷ [])))) [])),
    record {
      node =
          sym (refuses 1)
          ∙ (λ i. (refused_front (sym new_k.config i) (with_jobs 1 (Committed source ∷ []))
          OutOfRange).0);
      outbox = λ i. (refused_front (sym new_k.config i) (with_jobs 1 (Committed source ∷ []))
          OutOfRange).1.packets;
      released = refl;
      fixed = record { side = refl; config = refl; memories = refl };
    },
  )

  can : CanStand usual start (none_executed asked_for taken dropped again read refused)
  unfolding packet_seen spelling checksum octets_in shift_all tc_field tc_verdict command_in
      tm_field tm_verdict body_of part_verdict arrival
  can = (
    (
      (
        (
          (
            (tt, (asks g new_g, (omega arith, omega arith, omega arith, omega arith, octets))),
            (
              takes first_kept refl (λ code. refl) k new_k one_waiting,
              inl (record {
                place = 0;
                packet = record { direction = Up; part_of = None; octets = asked.1 };
                there = refl;
                goes = refl;
                octets = packet_is;
              }),
            ),
          ),
          (drops first_kept refl (λ code. refl) k new_k 0 one_waiting, tt),
        ),
        (
          takes_again first_kept refl (λ code. refl) k new_k 1 [] none_read one_waiting,
          inl (record {
            place = 0;
            packet = record { direction = Up; part_of = None; octets = asked.1 };
            there = refl;
            goes = refl;
            octets = packet_is;
          }),
        ),
      ),
      (
        reads first_kept refl (λ code. refl) k new_k 1 (Waiting load_packet ∷ []) one_waiting 1
            (Committed source ∷ []) one_done refl refl,
        tt,
      ),
    ),
    (refuses_it, tt),
  )

pub leavings_can_be : LeavingsCanBe
unfolding packet_seen spelling checksum octets_in shift_all tc_field tc_verdict command_in tm_field
    tm_verdict body_of part_verdict arrival first_of_numbers
leavings_can_be g k new_g new_k = record {
  asked = asked_for g k new_g new_k;
  taken = taken g k new_g new_k;
  dropped = dropped g k new_g new_k;
  again = again g k new_g new_k;
  read = read g k new_g new_k;
  refused = refused g k new_g new_k;
  can = can g k new_g new_k;
  log = λ i.
      Left (act.Refuse OutOfRange)
      ∷ with_report (Released None load_packet ∷ Left act.Drop ∷ Released None load_packet
      ∷ Asked load_packet ∷ [])
      (opens_nothing (least_free_in (no_data usual).sending.ledger
      (request_source 100 load_packet)) i);
  memories = refl;
  silent = refl;
  reported = refuses_loudly 1;
}
