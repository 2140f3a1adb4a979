-- The worked run of ends of which the spacecraft's has its memory, computed by the definitions.
use Rattle.std.proofs.Common.{refl, [], ◌∷◌, None, inl, arith}
use Rattle.lpt_packet.specs.Checksums.{checksum, octets_in, shift_all}
use Rattle.lpt_packet.specs.Packets.{packet_seen, spelling}
use Rattle.lpt_packet.specs.declared.direction.Direction.TheVariants.{Up}
use Rattle.lpt_pus.specs.Commands.{tc_field, tc_verdict, command_in}
use Rattle.lpt_pus.specs.Telemetry.{tm_field, tm_verdict}
use Rattle.lpt_part.specs.Parts.{body_of, part_verdict}
use Rattle.lpt_ledger.specs.LeastFree.{first_of_numbers, least_free_in}
use Rattle.lpt_memory.specs.Meanings.{body_meaning, meaning}
use Rattle.lpt_memory.specs.Requests.{front_load_area, front_head, request_in}
use Rattle.lpt_events.specs.Arrivals.{arrival}
use Rattle.lpt_events.specs.declared.side.Side.TheVariants.{Ground, Craft}
use Rattle.lpt_execution.specs.Reporting.{request_source}
use Rattle.lpt_jobs.specs.declared.job.Job.TheVariants.{Committed, Waiting}
use Rattle.lpt_node.specs.Nodes.{no_data}
use Rattle.lpt_acts.specs.Acts as act
use Rattle.lpt_apart.specs.Ends.{Asked, Left, Released, Restarted, with_report}
use Rattle.lpt_c_end.specs.Changes.{IsNew}
use Rattle.lpt_c_end.specs.Contents.{memories_told}
use Rattle.lpt_c_end.specs.declared.end.End.{End}
use Rattle.lpt_c_pair.specs.Histories.{AreCareful, just_begun}
use Rattle.lpt_c_pair.specs.Pairs.{Execute, Fails, IsDone, Packet, Plain, Read}
use Rattle.lpt_c_pair.specs.Runs.{CanStand, CanTurnBy, Standing, standing_begun, stood}
use Rattle.lpt_c_pair.proofs.Histories.{careful_programs_may_be_reset}
use Rattle.lpt_c_pair.specs.Called.{CallsCanBe, calls_made, called_and_reset, content, memory, usual_own}
use Rattle.lpt_c_pair.proofs.Computed.{asked, octets, opens_nothing, packet_is, source}
use Rattle.lpt_c_pair.proofs.Own.{again_behind, before, behind, executes_it, first_kept, is_with_load, last_kept, resumes_it, with_load}
use Rattle.lpt_c_pair.proofs.Stages.{asked_end, asks, none_read, one_read, one_waits, reads, takes, takes_again}
use Rattle.lpt_journal_examples.specs.Passes.{load, load_packet, usual}

module _ (g k : End) (new_g : IsNew Ground usual [] [] g)
    (new_k : IsNew Craft usual memory content k) where
  abbrev asked_for : End
  asked_for = asked_end g new_g

  abbrev taken : End
  taken = before k new_k 0 (Waiting load_packet ∷ []) (one_waits load_packet [] none_read)

  abbrev read : End
  read = before k new_k 0 (Committed source ∷ []) (one_read source [] refl refl none_read)

  abbrev done : End
  done = behind k new_k 1 [] none_read

  abbrev more : End
  more = behind k new_k 1 (Waiting load_packet ∷ []) (one_waits load_packet [] none_read)

  abbrev again : End
  again = again_behind k new_k 1 [] none_read

  abbrev start : Standing
  start = standing_begun usual (memories_told content memory) 0 usual_own g k

  -- ---- the run

  fails : (e : End) → IsDone Fails e e
  fails e = record {
    node = refl;
    released = refl;
    outbox = refl;
    fixed = record { side = refl; config = refl; memories = refl };
  }

  takes_it : CanStand usual start (calls_made asked_for taken read done again)
  takes_it = (
    (
      (
        (
          (
            (tt, (asks g new_g, (omega arith, omega arith, omega arith, omega arith, octets))),
            (
              takes first_kept refl (λ code. refl) k new_k (one_waits load_packet [] none_read),
              inl (record {
                place = 0;
                packet = record { direction = Up; part_of = None; octets = asked.1 };
                there = refl;
                goes = refl;
                octets = packet_is;
              }),
            ),
          ),
          (
            reads first_kept refl (λ code. refl) k new_k 0 (Waiting load_packet ∷ [])
                (one_waits load_packet [] none_read) 0 (Committed source ∷ [])
                (one_read source [] refl refl none_read) refl refl,
            tt,
          ),
        ),
        (fails read, tt),
      ),
      (executes_it k new_k 0 (one_read source [] refl refl none_read), tt),
    ),
    resumes_it k new_k 1,
  )

  -- the packet may come once more
  comes_again : CanTurnBy usual (stood usual start
      (record { side = Craft; call = Execute; new = done }
      ∷ record { side = Craft; call = Fails; new = read }
      ∷ record { side = Craft; call = Read; new = read }
      ∷ record { side = Craft; call = Packet load_packet; new = taken }
      ∷ record { side = Ground; call = Plain 1 0 6 2 load; new = asked_for } ∷ []))
      Craft (Packet load_packet) more
  unfolding packet_seen spelling checksum octets_in shift_all tc_verdict command_in arrival
      front_load_area front_head request_in body_meaning meaning
  comes_again = (
    takes_again last_kept refl (λ code. refl) (with_load k new_k) (is_with_load k new_k) 1 []
        none_read (one_waits load_packet [] none_read),
    inl (record {
      place = 0;
      packet = record { direction = Up; part_of = None; octets = asked.1 };
      there = refl;
      goes = refl;
      octets = packet_is;
    }),
  )

  careful : AreCareful usual start (just_begun start)
      (called_and_reset asked_for taken read done more again)
  careful = (
    (
      (
        (
          (
            (
              (
                (
                  (tt, (takes_it.0.0.0.0.0.1, takes_it.0.0.0.0.0.1)),
                  tt,
                ),
                (takes_it.0.0.0.0.1, takes_it.0.0.0.0.1),
              ),
              (takes_it.0.0.0.1, takes_it.0.0.0.1),
            ),
            (takes_it.0.0.1, takes_it.0.0.1),
          ),
          (takes_it.0.1, takes_it.0.1),
        ),
        tt,
      ),
      (comes_again, comes_again),
    ),
    takes_it.1,
  )

pub calls_can_be : CallsCanBe
unfolding packet_seen spelling checksum octets_in shift_all tc_field tc_verdict command_in tm_field
    tm_verdict body_of part_verdict arrival first_of_numbers front_load_area front_head request_in
    body_meaning meaning
calls_can_be g k new_g new_k = record {
  asked = asked_for g k new_g new_k;
  taken = taken g k new_g new_k;
  read = read g k new_g new_k;
  done = done g k new_g new_k;
  more = more g k new_g new_k;
  again = again g k new_g new_k;
  can = takes_it g k new_g new_k;
  log = λ i.
      Restarted Craft ∷ Left act.Execute
      ∷ with_report (Released None load_packet ∷ Asked load_packet ∷ [])
      (opens_nothing (least_free_in (no_data usual).sending.ledger
      (request_source 100 load_packet)) i);
  memories = refl;
  there = refl;
  careful = careful g k new_g new_k;
  reset = careful_programs_may_be_reset usual (start g k new_g new_k)
      (called_and_reset (asked_for g k new_g new_k) (taken g k new_g new_k) (read g k new_g new_k)
      (done g k new_g new_k) (more g k new_g new_k) (again g k new_g new_k))
      (careful g k new_g new_k);
  left = refl;
}
