-- The worked run of two ends apart, computed by the definitions.
use Rattle.std.proofs.Common.{◌≡◌, ap, sym, subst, refl, ◌+◌, ◌<◌, ◌^◌, [], ◌∷◌, None, inl, arith}
use Rattle.std.specs.Prelude.{drop}
use Rattle.std.specs.FinMap.{get-empty}
use Rattle.lpt_packet.specs.Checksums.{checksum, octets_in, shift_all}
use Rattle.lpt_packet.specs.Names.{name_cmp}
use Rattle.lpt_packet.specs.Packets.{packet_seen, spelling}
use Rattle.lpt_packet.specs.declared.direction.Direction.TheVariants.{Up}
use Rattle.lpt_pus.specs.Commands.{tc_field, tc_verdict, command_in}
use Rattle.lpt_pus.specs.Telemetry.{tm_field, tm_verdict}
use Rattle.lpt_part.specs.Parts.{body_of, part_verdict}
use Rattle.lpt_ledger.specs.LeastFree.{first_of_numbers, least_free_in}
use Rattle.lpt_ledger.specs.Runs.{runs_of}
use Rattle.lpt_ledger.specs.States.{state_of}
use Rattle.lpt_memory.specs.Meanings.{body_meaning, meaning}
use Rattle.lpt_memory.specs.Requests.{front_load_area, front_head, request_in}
use Rattle.lpt_events.specs.Arrivals.{arrival}
use Rattle.lpt_events.specs.declared.side.Side.{Side}
use Rattle.lpt_events.specs.declared.side.Side.TheVariants.{Ground, Craft}
use Rattle.lpt_execution.specs.Reporting.{request_source}
use Rattle.lpt_node.specs.Nodes.{NodeData, is_open, no_data}
use Rattle.lpt_node.specs.Restarts.{NoneOpen}
use Rattle.lpt_state.specs.Lastings.{AreRuns, IsBoundAlike, IsEnd}
use Rattle.lpt_acts.specs.Acts as act
use Rattle.lpt_apart.specs.Ends.{after_all, Asked, Left, Released, Restarted, Do, Accept, with_report}
use Rattle.lpt_apart.specs.TwoEnds.{CanAll, CanMove}
use Rattle.lpt_apart.specs.Deeds.{end_of}
use Rattle.lpt_apart.specs.Resets.{IsWritable, just_written, CanLiveAll}
use Rattle.lpt_c_pair.specs.Nodes.{NodesCanBe, lives, moves, new_pair, unwritten}
use Rattle.lpt_c_pair.proofs.Computed.{asked, executes, no_runs, octets, opens_nothing, packet_is, with_jobs}
use Rattle.lpt_journal_examples.specs.Passes.{load_packet, usual}

-- ---- moves

can_move : CanAll usual new_pair moves
unfolding packet_seen spelling checksum octets_in shift_all tc_field tc_verdict command_in tm_field
    tm_verdict body_of part_verdict arrival
can_move = (
  (
    (
      (
        (tt, ((omega arith, omega arith, omega arith, omega arith, octets), refl)),
        inl (record {
          place = 0;
          packet = record { direction = Up; part_of = None; octets = asked.1 };
          there = refl;
          goes = refl;
          octets = packet_is;
        }),
      ),
      (refl, refl),
    ),
    refl,
  ),
  refl,
)

-- the packet may come once more
comes_again : CanMove usual (after_all usual new_pair moves) (Do (Accept Up load_packet))
unfolding packet_seen spelling checksum octets_in shift_all tc_field tc_verdict command_in tm_field
    tm_verdict body_of part_verdict arrival first_of_numbers front_load_area front_head request_in
    body_meaning meaning
comes_again = inl (record {
  place = 0;
  packet = record { direction = Up; part_of = None; octets = asked.1 };
  there = refl;
  goes = refl;
  octets = packet_is;
})

-- ---- states

-- what the spacecraft's node is behind its execution
craft_is : (after_all usual new_pair moves).ends.on_craft ≡ with_jobs 1 []
unfolding packet_seen spelling checksum octets_in shift_all tc_field tc_verdict command_in tm_field
    tm_verdict body_of part_verdict arrival
craft_is = executes 0

-- a node that has no names can be written
node_fits : (side : Side) (d : NodeData)
    → AreRuns (runs_of d.sending.ledger)
    → AreRuns (runs_of d.receiving.ledger)
    → NoneOpen d.receiving.ledger
    → d.boot ≡ 0
    → d.clock ≡ 0
    → IsEnd (end_of usual side d)
node_fits side d sent received none boot clock = record {
  fits = record {
    boot_fits = omega (arith, boot);
    clock_fits = omega (arith, clock);
    sent_fit = sent;
    received_fit = received;
  };
  none_open = none;
  own_limits = refl;
}

none_open : NoneOpen (no_data usual).receiving.ledger
none_open name = ap (λ o. is_open (state_of o)) (get-empty name_cmp name)

-- so can ground's and the spacecraft's
ground_fits : IsWritable usual (after_all usual new_pair (drop 4 moves)) Ground
ground_fits = record {
  is_end = node_fits Ground asked.0 no_runs no_runs none_open refl refl;
  boot_left = omega arith;
}

craft_fits : IsWritable usual (after_all usual new_pair moves) Craft
craft_fits =
    let fits : IsEnd (end_of usual Craft (with_jobs 1 [])) =
    node_fits Craft (with_jobs 1 []) no_runs no_runs none_open refl refl in
    let left : 0 + 1 < 2 ^ 64 = omega arith in
    record {
      is_end =
          subst (λ (d : NodeData). IsEnd (end_of usual Craft d)) (sym craft_is) fits;
      boot_left = subst (λ (d : NodeData). d.boot + 1 < 2 ^ 64) (sym craft_is) left;
    }

-- ---- the runs

-- the configuration in which it is read is the same
bound : IsBoundAlike usual usual
bound = record { apid = refl; source = refl; part_size = refl; mode = refl }

resets : CanLiveAll usual new_pair (just_written usual unwritten) lives
resets = (
  (
    (
      (
        (
          (
            (((tt, can_move.0.0.0.0.1), ground_fits), can_move.0.0.0.1),
            can_move.0.0.1,
          ),
          can_move.0.1,
        ),
        can_move.1,
      ),
      craft_fits,
    ),
    comes_again,
  ),
  ((can_move, refl), bound),
)

pub nodes_can_be : NodesCanBe
unfolding packet_seen spelling checksum octets_in shift_all tc_field tc_verdict command_in tm_field
    tm_verdict body_of part_verdict arrival first_of_numbers front_load_area front_head request_in
    body_meaning meaning
nodes_can_be = record {
  reset = resets;
  left = refl;
  log = λ i.
      Restarted Craft ∷ Left act.Execute
      ∷ with_report (Released None load_packet ∷ Asked load_packet ∷ [])
      (opens_nothing (least_free_in (no_data usual).sending.ledger
      (request_source 100 load_packet)) i);
  memories = refl;
}
