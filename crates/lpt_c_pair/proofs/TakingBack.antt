-- The worked run that drops a request for which it had written, computed by the definitions.
use Rattle.std.proofs.Common.{refl, List, [], ◌∷◌, None, inl, arith}
use Rattle.lpt_c_pair.specs.Called.{usual_own}
use Rattle.lpt_packet.specs.Checksums.{checksum, octets_in, shift_all}
use Rattle.lpt_packet.specs.Packets.{packet_seen, spelling}
use Rattle.lpt_packet.specs.declared.direction.Direction.TheVariants.{Up}
use Rattle.lpt_pus.specs.Commands.{tc_field, tc_verdict, command_in}
use Rattle.lpt_pus.specs.Telemetry.{tm_field, tm_verdict}
use Rattle.lpt_part.specs.Parts.{body_of, part_verdict}
use Rattle.lpt_events.specs.Arrivals.{arrival}
use Rattle.lpt_events.specs.declared.side.Side.TheVariants.{Ground, Craft}
use Rattle.lpt_jobs.specs.declared.job.Job.TheVariants.{Waiting, Committed}
use Rattle.lpt_ledger.specs.LeastFree.{first_of_numbers, least_free_in}
use Rattle.lpt_acts.specs.Acts as act
use Rattle.lpt_apart.specs.Ends.{Asked, Left, Released, Restarted, with_report}
use Rattle.lpt_execution.specs.Reporting.{request_source}
use Rattle.lpt_memory.specs.Meanings.{body_meaning, meaning}
use Rattle.lpt_memory.specs.Requests.{front_load_area, front_head, request_in}
use Rattle.lpt_node.specs.Jobs.{refusal_apply}
use Rattle.lpt_node.specs.Nodes.{no_data}
use Rattle.lpt_c_end.specs.Changes.{IsNew}
use Rattle.lpt_c_end.specs.Codes.{node_code}
use Rattle.lpt_c_end.specs.Kept.{memories_refusal}
use Rattle.lpt_c_end.specs.Sizes.{IsNewSized, kept_as}
use Rattle.lpt_c_end.specs.declared.end.End.{End}
use Rattle.lpt_c_pair.specs.Pairs.{DropRead, IsDone, Packet, Plain, Read}
use Rattle.lpt_c_pair.specs.Programs.{Act, Calls, CanActAll, Gives, Program, TakesBack, Writes, program_started}
use Rattle.lpt_c_pair.specs.Resets.{CanLiveAll, just_begun}
use Rattle.lpt_c_pair.specs.TakenBack.{WrittenCanBeTakenBack, taken_back}
use Rattle.lpt_c_pair.specs.Worked.{load_told, sizes}
use Rattle.lpt_c_pair.proofs.Computed.{asked, octets, opens_nothing, packet_is, source, with_jobs}
use Rattle.lpt_c_pair.proofs.Stages.{asked_end, asks, none_read, reads, takes, takes_again}
use Rattle.lpt_c_pair.proofs.Working.{craft, craft_again, gives_it, no_more, one_done, one_waiting, reads_nothing, resumes_it, told}
use Rattle.lpt_journal_examples.specs.Passes.{load, load_packet, usual, usual_memories}

module _ (g k : End) (new_g : IsNew Ground usual [] [] g) (new_k : IsNewSized usual sizes k) where
  abbrev asked_for : End
  asked_for = asked_end g new_g

  abbrev taken : End
  taken = craft k new_k 0 (Waiting load_packet ∷ []) one_waiting

  abbrev read : End
  read = craft k new_k 0 (Committed source ∷ []) one_done

  abbrev let_go : End
  let_go = craft k new_k 1 [] none_read

  abbrev again : End
  again = craft k new_k 1 (Waiting load_packet ∷ []) one_waiting

  abbrev read_again : End
  read_again = craft k new_k 1 (Committed source ∷ []) one_done

  abbrev given : End
  given = craft k new_k 2 [] none_read

  abbrev resumed : End
  resumed = craft_again k new_k 2 [] none_read

  abbrev start : Program
  start = program_started usual usual_memories 0 usual_own g k

  -- the request that was read is let go
  lets_go : IsDone DropRead read let_go
  lets_go = (
    (λ i. memories_refusal (new_k.memories i)
        (node_code (refusal_apply (with_jobs 0 (Committed source ∷ []))))),
    record {
      node = refl;
      released = refl;
      outbox = refl;
      fixed = record { side = refl; config = refl; memories = refl };
    },
  )

  -- ---- the run

  -- up to the execution
  abbrev run : List Act
  run =
      Gives [] (load_told ∷ []) given
      ∷ Calls (record { side = Craft; call = Read; new = read_again })
      ∷ Calls (record { side = Craft; call = Packet load_packet; new = again })
      ∷ Calls (record { side = Craft; call = DropRead; new = let_go })
      ∷ TakesBack
      ∷ Writes load_told
      ∷ Calls (record { side = Craft; call = Read; new = read })
      ∷ Calls (record { side = Craft; call = Packet load_packet; new = taken })
      ∷ Calls (record { side = Ground; call = Plain 1 0 6 2 load; new = asked_for })
      ∷ []

  can : CanActAll usual start run
  unfolding packet_seen spelling checksum octets_in shift_all tc_field tc_verdict command_in tm_field
      tm_verdict body_of part_verdict arrival
  can = (
    (
      (
        (
          (
            (
              (
                (
                  (
                    tt,
                    (
                      (
                        asks g new_g,
                        (omega arith, omega arith, omega arith, omega arith, octets),
                      ),
                      tt,
                    ),
                  ),
                  (
                    (
                      takes (kept_as sizes) refl (λ code. refl) k new_k one_waiting,
                      inl (record {
                        place = 0;
                        packet = record { direction = Up; part_of = None; octets = asked.1 };
                        there = refl;
                        goes = refl;
                        octets = packet_is;
                      }),
                    ),
                    tt,
                  ),
                ),
                (
                  (
                    reads (kept_as sizes) refl (λ code. refl) k new_k 0
                        (Waiting load_packet ∷ []) one_waiting 0 (Committed source ∷ []) one_done
                        refl refl,
                    tt,
                  ),
                  tt,
                ),
              ),
              (refl, told k new_k 0),
            ),
            tt,
          ),
          ((lets_go, tt), refl),
        ),
        (
          (
            takes_again (kept_as sizes) refl (λ code. refl) k new_k 1 [] none_read one_waiting,
            inl (record {
              place = 0;
              packet = record { direction = Up; part_of = None; octets = asked.1 };
              there = refl;
              goes = refl;
              octets = packet_is;
            }),
          ),
          tt,
        ),
      ),
      (
        (
          reads (kept_as sizes) refl (λ code. refl) k new_k 1 (Waiting load_packet ∷ [])
              one_waiting 1 (Committed source ∷ []) one_done refl refl,
          tt,
        ),
        tt,
      ),
    ),
    (
      gives_it k new_k 1,
      record {
        settled = refl;
        told = (told k new_k 1, no_more k new_k 1);
        held = reads_nothing;
      },
    ),
  )

  can_live : CanLiveAll usual start (just_begun start)
      (taken_back asked_for taken read let_go again read_again given resumed)
  unfolding packet_seen spelling checksum octets_in shift_all tc_field tc_verdict command_in tm_field
      tm_verdict body_of part_verdict arrival
  can_live = (
    (
      (
        (
          (
            (
              (
                (
                  (
                    (
                      (
                        ((tt, can.0.0.0.0.0.0.0.0.1), can.0.0.0.0.0.0.0.1),
                        can.0.0.0.0.0.0.1,
                      ),
                      can.0.0.0.0.0.1,
                    ),
                    can.0.0.0.0.1,
                  ),
                  can.0.0.0.1,
                ),
                can.0.0.1,
              ),
              can.0.1,
            ),
            can.1,
          ),
          tt,
        ),
        refl,
      ),
      ((can, refl), (resumes_it k new_k 2 [] none_read, refl)),
    ),
    tt,
  )

pub written_can_be_taken_back : WrittenCanBeTakenBack
unfolding packet_seen spelling checksum octets_in shift_all tc_field tc_verdict command_in tm_field
    tm_verdict body_of part_verdict arrival first_of_numbers front_load_area front_head request_in
    body_meaning meaning
written_can_be_taken_back g k new_g new_k = record {
  asked = asked_for g k new_g new_k;
  taken = taken g k new_g new_k;
  read = read g k new_g new_k;
  let_go = let_go g k new_g new_k;
  again = again g k new_g new_k;
  read_again = read_again g k new_g new_k;
  given = given g k new_g new_k;
  resumed = resumed g k new_g new_k;
  can = can_live g k new_g new_k;
  kept = ((((can g k new_g new_k, refl), (resumes_it k new_k 2 [] none_read, refl))), tt);
  log = λ i.
      Restarted Craft ∷ Left act.Execute
      ∷ with_report (Released None load_packet ∷ Left act.Drop ∷ Released None load_packet
      ∷ Asked load_packet ∷ [])
      (opens_nothing (least_free_in (no_data usual).sending.ledger
      (request_source 100 load_packet)) i);
  executed = refl;
  left = refl;
}
