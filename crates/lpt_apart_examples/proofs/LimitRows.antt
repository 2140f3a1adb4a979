-- The run in which a clock is set back, limits change and a reception is given up, computed by the
-- definitions.
use Rattle.std.proofs.Common.{◌≡◌, ◌∙◌, ap, sym, subst, refl, ℕ, nat_le, true, List, [], ◌∷◌, ◌++◌, length, Some, reverse, arith}
use Rattle.std.specs.FinMap as maps
use Rattle.std.specs.FinMap.{same_map}
use Rattle.std.specs.Option.{option_map, option_map_or}
use Rattle.lpt_packet.specs.declared.direction.Direction.TheVariants.{Up}
use Rattle.lpt_packet.specs.Checksums.{checksum, octets_in, shift_all}
use Rattle.lpt_packet.specs.Names.{Name, name_cmp}
use Rattle.lpt_packet.specs.Packets.{packet_seen, spelling}
use Rattle.lpt_packet.proofs.NameLemmas.{name_cmp-IsAntisymmetric, name_cmp_total}
use Rattle.lpt_pus.specs.Commands.{tc_field, tc_verdict}
use Rattle.lpt_pus.specs.Telemetry.{tm_field, tm_verdict}
use Rattle.lpt_part.specs.Aborts.{abort_body, abort_verdict}
use Rattle.lpt_part.specs.Parts.{body_of, part_verdict}
use Rattle.lpt_table.specs.SettingBack.{earlier, set_back, reaches_back}
use Rattle.lpt_table.specs.Tables.{Entries, TableEntry}
use Rattle.lpt_table.specs.Walking.{least_last}
use Rattle.lpt_table.proofs.BackLemmas.{get-set_back}
use Rattle.lpt_events.specs.Arrivals.{arrival}
use Rattle.lpt_events.specs.Configs.{IsConfig}
use Rattle.lpt_events.specs.declared.lane.Lane.TheVariants.{S1, S2}
use Rattle.lpt_events.specs.declared.side.Side.TheVariants.{Craft}
use Rattle.lpt_acts.specs.Acts.{Act, Open, Send, Take, Deliver, Tick, Expire, Within}
use Rattle.lpt_journal.specs.Replies.{history_after}
use Rattle.lpt_apart.specs.Ends.{Ends, Pair, Move, no_pair, pair_after}
use Rattle.lpt_apart.specs.TwoEnds.{CanMove}
use Rattle.lpt_apart.specs.Moves.{came_to, CanMoveAll}
use Rattle.lpt_apart.specs.Plays.{AllForward, steps_of, moves_of}
use Rattle.lpt_apart.specs.Told.{log_told}
use Rattle.lpt_apart.proofs.Freely.{steps_are_moves}
use Rattle.lpt_apart.proofs.Played.{worlds_are_ends}
use Rattle.lpt_journal_examples.specs.Passes.{IsPass, usual, usual_memories, m20, m9, own}
use Rattle.lpt_journal_examples.proofs.LegalRows.{usual_pass}
use Rattle.lpt_apart_examples.specs.Limits.{clock_moves, narrow, narrow_moves, narrow_log}
use Rattle.lpt_apart_examples.proofs.ListedSteps.{all_are_forward, steps_is, told_of}

-- ---- a clock that is set on and back where no reception is open

-- nothing is left of nothing
set_back_nothing : (n : ℕ) → set_back n maps.empty ≡ maps.empty
set_back_nothing n =
    same_map name_cmp_total name_cmp-IsAntisymmetric (set_back n maps.empty) maps.empty (λ q.
    get-set_back n maps.empty q
    ∙ ap (option_map (earlier n)) (maps.get-empty {X = TableEntry} name_cmp q)
    ∙ sym (maps.get-empty {X = TableEntry} name_cmp q))

pub none_of : {A : Type 0} (xs : List A) → length xs ≡ 0 → xs ≡ []
none_of [] is = refl
none_of (x ∷ xs) is = absurd (omega (arith, is))

no_entries : maps.entries {K = Name} {X = TableEntry} {R = name_cmp} maps.empty ≡ []
no_entries =
    none_of (maps.entries {K = Name} {X = TableEntry} {R = name_cmp} maps.empty)
    (sym (maps.len-entries (maps.empty {X = TableEntry} {R = name_cmp}))
    ∙ maps.len-empty name_cmp TableEntry)

reaches : reaches_back 1 maps.empty ≡ true
reaches =
    ap (λ (es : List (Name × TableEntry)).
    option_map_or (λ last. nat_le 1 last) (least_last es) true)
    no_entries

-- the ends are as new
are_new : came_to usual usual_memories (reverse clock_moves) ≡ no_pair usual usual_memories
are_new =
    let p : Pair = no_pair usual usual_memories in
    ap (λ (es : Entries). record p {
      ends = record p.ends {
        on_craft = record p.ends.on_craft {
          receiving = record p.ends.on_craft.receiving { entries = es };
        };
      };
    }) (set_back_nothing 1)

clock_can : CanMoveAll usual usual_memories (reverse clock_moves)
clock_can = ((tt, refl), reaches)

-- so whatever new ends can do, they can do then, and it comes to the same
pub record Come (xs : List Move) : Type 0 where
  pub can : CanMoveAll usual usual_memories (xs ++ reverse clock_moves)
  pub is : came_to usual usual_memories (xs ++ reverse clock_moves)
      ≡ came_to usual usual_memories xs

come : (xs : List Move) → CanMoveAll usual usual_memories xs → Come xs
come [] can = record { can = clock_can; is = are_new }
come (x ∷ xs) can =
    let rest = come xs can.0 in
    record {
      can = (rest.can, subst (λ (p : Pair). CanMove usual p x) (sym rest.is) can.1);
      is = ap (λ (p : Pair). pair_after usual p x) rest.is;
    }

-- ---- a world that does the rest

abbrev journal : List Act
journal =
    Tick Craft (Within narrow)
    ∷ Open Up (own 7) m20 ∷ Send Up (own 7) 1 ∷ Take S1 0 ∷ Deliver S1
    ∷ Open Up (own 8) m9 ∷ Send Up (own 8) 1 ∷ Take S2 1 ∷ Deliver S2
    ∷ Expire Craft (Some (own 7)) ∷ Take S1 1 ∷ Deliver S1 ∷ Expire Craft (Some (own 8)) ∷ []

-- none of its acts is refused
passes : IsPass usual journal
unfolding packet_seen spelling checksum octets_in shift_all tc_field tc_verdict tm_field tm_verdict body_of
    part_verdict abort_body abort_verdict arrival
passes = usual_pass journal refl

forward : AllForward (reverse journal)
forward = all_are_forward (reverse journal) refl

-- its moves, and its log
the_moves : moves_of (steps_of usual usual_memories (reverse journal)) ≡ reverse narrow_moves
unfolding packet_seen spelling checksum octets_in shift_all tc_field tc_verdict tm_field tm_verdict body_of
    part_verdict abort_body abort_verdict arrival
the_moves = ap moves_of (steps_is usual (reverse journal))

logged : log_told usual (history_after usual usual_memories (reverse journal)) ≡ reverse narrow_log
unfolding packet_seen spelling checksum octets_in shift_all tc_field tc_verdict tm_field tm_verdict body_of
    part_verdict abort_body abort_verdict arrival
logged = told_of usual (reverse journal)

-- ---- the run

pub record IsNarrow : Type 0 where
  pub can : CanMoveAll usual usual_memories (reverse narrow_moves ++ reverse clock_moves)
  pub log : (came_to usual usual_memories
      (reverse narrow_moves ++ reverse clock_moves)).ends.log ≡ reverse narrow_log

pub runs : IsNarrow
runs =
    let es : List Act = reverse journal in
    let world = worlds_are_ends usual usual_memories es passes.configured forward passes.legal in
    let moves = steps_are_moves usual usual_memories (steps_of usual usual_memories es) world.can in
    let it = come (reverse narrow_moves)
    (subst (λ (ms : List Move). CanMoveAll usual usual_memories ms) the_moves moves.can) in
    record {
      can = it.can;
      log =
          ap (λ (p : Pair). p.ends.log) it.is
          ∙ ap (λ (ms : List Move). (came_to usual usual_memories ms).ends.log) (sym the_moves)
          ∙ ap (λ (e : Ends). e.log) moves.ends ∙ sym world.are.log ∙ logged;
    }

pub configured : IsConfig usual
configured = passes.configured
