-- The run in which a state is read back within other limits, computed by the definitions.
use Rattle.std.proofs.Common.{◌≡◌, ◌∙◌, ap, sym, subst, refl, ℕ, List, [], ◌∷◌, ◌++◌, map, reverse, Some, None, arith, inl, inr}
use Rattle.std.specs.FinMap as maps
use Rattle.std.specs.FinMap.{get-empty}
use Rattle.std.proofs.lemmas.List.Elements.{All-nil}
use Rattle.lpt_packet.specs.declared.direction.Direction.TheVariants.{Up}
use Rattle.lpt_packet.specs.Checksums.{checksum, octets_in, shift_all}
use Rattle.lpt_packet.specs.Names.{Name, name_cmp}
use Rattle.lpt_packet.specs.Packets.{packet_seen, spelling}
use Rattle.lpt_pus.specs.Commands.{tc_field, tc_verdict}
use Rattle.lpt_pus.specs.Telemetry.{tm_field, tm_verdict}
use Rattle.lpt_part.specs.Aborts.{abort_body, abort_verdict}
use Rattle.lpt_part.specs.Parts.{body_of, part_verdict}
use Rattle.lpt_ledger.specs.Marks.{Mark}
use Rattle.lpt_ledger.specs.Runs.{IsRun, runs_of, runs_of_names}
use Rattle.lpt_ledger.specs.States.{state_of}
use Rattle.lpt_events.specs.Arrivals.{arrival}
use Rattle.lpt_events.specs.declared.lane.Lane.TheVariants.{S1}
use Rattle.lpt_events.specs.declared.side.Side.TheVariants.{Craft}
use Rattle.lpt_acts.specs.Acts.{Act, Open, Send, Take, Deliver, Tick, Expire, Restart, On, Within, limits_of}
use Rattle.lpt_journal.specs.Replies.{history_after}
use Rattle.lpt_node.specs.Nodes.{NodeData, is_open, no_data}
use Rattle.lpt_node.specs.Restarts.{NoneOpen}
use Rattle.lpt_state.specs.Lastings.{AreRuns, IsBoundAlike, IsEnd}
use Rattle.lpt_apart.specs.Ends.{after_all, Ends, Pair, Move, Do, no_pair, pair_after}
use Rattle.lpt_apart.specs.TwoEnds.{CanAll, CanMove, MayCome}
use Rattle.lpt_apart.specs.Moves.{came_to, CanMoveAll}
use Rattle.lpt_apart.specs.Deeds.{end_of, with_restart}
use Rattle.lpt_apart.specs.Plays.{AllForward, steps_of, moves_of}
use Rattle.lpt_apart.specs.Resets.{IsWritable, CanLiveAll, just_written}
use Rattle.lpt_apart.specs.Ends as steps
use Rattle.lpt_apart.specs.Told.{log_told}
use Rattle.lpt_apart.proofs.Freely.{steps_are_moves}
use Rattle.lpt_apart.proofs.Played.{worlds_are_ends}
use Rattle.lpt_journal_examples.specs.Passes.{IsPass, usual, usual_memories, m20, m9, own}
use Rattle.lpt_journal_examples.proofs.LegalRows.{usual_pass}
use Rattle.lpt_apart_examples.specs.Limits.{first_of_seven, first_of_eight}
use Rattle.lpt_apart_examples.specs.Resumed.{moves_left, narrow_config, resumed_deeds, resumed_log, unwritten}
use Rattle.lpt_apart_examples.proofs.LimitRows.{none_of}
use Rattle.lpt_apart_examples.proofs.ListedSteps.{all_are_forward, steps_is, told_of}

-- ---- moves

came_all : (xs : List Move)
    → came_to usual usual_memories xs ≡ after_all usual (no_pair usual usual_memories) xs
came_all [] = refl
came_all (x ∷ xs) = ap (λ (p : Pair). pair_after usual p x) (came_all xs)

can_all : (xs : List Move)
    → CanMoveAll usual usual_memories xs
    → CanAll usual (no_pair usual usual_memories) xs
can_all [] can = tt
can_all (x ∷ xs) can =
    (can_all xs can.0, subst (λ (p : Pair). CanMove usual p x) (came_all xs) can.1)

-- ---- a world that does the same

abbrev journal : List Act
journal =
    Open Up (own 7) m20 ∷ Send Up (own 7) 1 ∷ Open Up (own 8) m9 ∷ Send Up (own 8) 1
    ∷ Tick Craft On ∷ Restart Craft ∷ Tick Craft (Within (limits_of narrow_config))
    ∷ Take S1 0 ∷ Deliver S1 ∷ Take S1 1 ∷ Deliver S1
    ∷ Tick Craft On ∷ Tick Craft On ∷ Expire Craft None
    ∷ Take S1 1 ∷ Deliver S1 ∷ Expire Craft (Some (own 8)) ∷ []

-- none of its acts is refused
pub passes : IsPass usual journal
unfolding packet_seen spelling checksum octets_in shift_all tc_field tc_verdict tm_field tm_verdict
    body_of part_verdict abort_body abort_verdict arrival
passes = usual_pass journal refl

forward : AllForward (reverse journal)
forward = all_are_forward (reverse journal) refl

-- the moves before the end is written, and those behind its reading back; the newest stands first
abbrev before : List Move
before =
    Do (steps.Tick Craft On) ∷ Do (steps.Send Up (own 8) 1) ∷ Do (steps.Open Up (own 8) m9)
    ∷ Do (steps.Send Up (own 7) 1) ∷ Do (steps.Open Up (own 7) m20) ∷ []

abbrev later : List Move
later =
    Do (steps.Expire Craft (Some (own 8))) ∷ Do (steps.Accept Up first_of_eight)
    ∷ Do (steps.Expire Craft None) ∷ Do (steps.Tick Craft On) ∷ Do (steps.Tick Craft On)
    ∷ Do (steps.Accept Up first_of_eight) ∷ Do (steps.Accept Up first_of_seven) ∷ []

-- its moves, and its log
the_moves : moves_of (steps_of usual usual_memories (reverse journal))
    ≡ later ++ with_restart narrow_config Craft before
unfolding packet_seen spelling checksum octets_in shift_all tc_field tc_verdict tm_field tm_verdict
    body_of part_verdict abort_body abort_verdict arrival
the_moves = ap moves_of (steps_is usual (reverse journal))

logged : log_told usual (history_after usual usual_memories (reverse journal)) ≡ reverse resumed_log
unfolding packet_seen spelling checksum octets_in shift_all tc_field tc_verdict tm_field tm_verdict
    body_of part_verdict abort_body abort_verdict arrival
logged = told_of usual (reverse journal)

-- ---- the state

-- no name is in use
none_used : maps.entries {X = Mark} {R = name_cmp} maps.empty ≡ []
none_used =
    none_of (maps.entries maps.empty) (sym (maps.len-entries maps.empty)
    ∙ maps.len-empty name_cmp Mark)

no_runs : AreRuns (runs_of maps.empty)
unfolding runs_of_names
no_runs =
    subst (λ (es : List (Name × Mark)). AreRuns (runs_of_names (map (λ e. e.0) es)))
    (sym none_used) (record { fit = All-nil IsRun; few = omega arith })

none_open : NoneOpen (no_data usual).receiving.ledger
none_open name = ap (λ o. is_open (state_of o)) (get-empty name_cmp name)

-- a node that has no names can be written
node_fits : (d : NodeData)
    → AreRuns (runs_of d.sending.ledger)
    → AreRuns (runs_of d.receiving.ledger)
    → NoneOpen d.receiving.ledger
    → d.boot ≡ 0
    → d.clock ≡ 1
    → IsEnd (end_of usual Craft d)
node_fits d sent received none boot clock = record {
  fits = record {
    boot_fits = omega (arith, boot);
    clock_fits = omega (arith, clock);
    sent_fit = sent;
    received_fit = received;
  };
  none_open = none;
  own_limits = refl;
}

-- ---- the run

-- what may come behind a restart could come before it
came_before : (e : Ends) (b : List ℕ)
    → MayCome usual (steps.after usual (steps.after usual e (steps.Restart Craft))
    (steps.Tick Craft (Within (limits_of narrow_config)))) Up b
    → MayCome usual e Up b
came_before e b (inl it) = inl (record {
  place = it.place;
  packet = it.packet;
  there = it.there;
  goes = it.goes;
  octets = it.octets;
})
came_before e b (inr harmless) = inr harmless

bound : IsBoundAlike usual narrow_config
bound = record { apid = refl; source = refl; part_size = refl; mode = refl }

fits : IsWritable usual (after_all usual (no_pair usual usual_memories) before) Craft
fits = record {
  is_end =
      node_fits (after_all usual (no_pair usual usual_memories) before).ends.on_craft no_runs
      no_runs none_open refl refl;
  boot_left = omega arith;
}

-- moves that can be made are deeds that can be done
lives : CanAll usual (no_pair usual usual_memories)
    (later ++ with_restart narrow_config Craft before)
    → CanLiveAll usual (no_pair usual usual_memories) (just_written usual unwritten)
    (reverse resumed_deeds)
lives can =
    let first = can.0.0.0.0.0.0.0.0.0 in
    let deleted = came_before (after_all usual (no_pair usual usual_memories) before).ends
    first_of_seven can.0.0.0.0.0.0.1 in (
      (
        (
          (
            (
              (
                ((((first, fits), deleted), ((first, refl), bound)), can.0.0.0.0.0.0.1),
                can.0.0.0.0.0.1,
              ),
              can.0.0.0.0.1,
            ),
            can.0.0.0.1,
          ),
          can.0.0.1,
        ),
        can.0.1,
      ),
      can.1,
    )

pub record IsResumed : Type 0 where
  pub can : CanLiveAll usual (no_pair usual usual_memories) (just_written usual unwritten)
      (reverse resumed_deeds)
  pub log : (after_all usual (no_pair usual usual_memories) moves_left).ends.log
      ≡ reverse resumed_log

pub runs : IsResumed
runs =
    let es : List Act = reverse journal in
    let world = worlds_are_ends usual usual_memories es passes.configured forward passes.legal in
    let moves = steps_are_moves usual usual_memories (steps_of usual usual_memories es) world.can in
    let left : List Move = later ++ with_restart narrow_config Craft before in
    record {
      can = lives (can_all left
          (subst (λ (ms : List Move). CanMoveAll usual usual_memories ms) the_moves moves.can));
      log =
          ap (λ (q : Pair). q.ends.log) (sym (came_all left))
          ∙ ap (λ (ms : List Move). (came_to usual usual_memories ms).ends.log) (sym the_moves)
          ∙ ap (λ (e : Ends). e.log) moves.ends ∙ sym world.are.log ∙ logged;
    }
