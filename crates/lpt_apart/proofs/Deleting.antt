-- What a machine did and didn't write can be deleted from what was done.
use Rattle.std.proofs.Common.{◌≡◌, ◌∙◌, ap, sym, subst, refl, ℕ, ◌+◌, ◌<◌, ◌^◌, List, [], ◌∷◌, Result, Ok}
use Rattle.lpt_apart.specs.Ends.{after_all, node_at, Move, Pair, pair_after}
use Rattle.lpt_apart.specs.TwoEnds.{CanAll, no_pair_later, CanMove, came_since, WithholdsNothing, IsPromised}
use Rattle.lpt_apart.proofs.Clocks.{begun_later, ends_with_clocks_withhold_nothing, joined, reached_keep}
use Rattle.lpt_acts.specs.Acts.{limits_of}
use Rattle.lpt_apart.specs.Deeds.{end_of, with_memories, with_read}
use Rattle.lpt_apart.specs.Resets.{CanLive, CanLiveAll, Deed, Lived, Make, MakeForgotten, Reset, ResetEndsKeepThePromise, Write, just_written, left_without, lived_after, lived_all, move_made, made_forgotten, side_of}
use Rattle.lpt_apart.proofs.Readings.{bound_within}
use Rattle.lpt_apart.proofs.Local.{Aboard, aboard, is_of_craft, is_of_ground, next_aboard, next_ground}
use Rattle.lpt_events.specs.declared.config.Config.{Config}
use Rattle.lpt_events.specs.declared.side.Side.{Side}
use Rattle.lpt_events.specs.declared.side.Side.TheVariants.{Ground, Craft}
use Rattle.lpt_node.specs.Nodes.{NodeData, NodeView}
use Rattle.lpt_node.specs.Restarts.{node_within, limits_at, node_restarted}
use Rattle.lpt_state.specs.Lastings.{IsBoundAlike, IsEnd, restarted_as}
use Rattle.lpt_state.specs.Spellings.{state_spelled}
use Rattle.lpt_state.specs.Verdicts.{reading}
use Rattle.lpt_state.specs.declared.fault.StateFault.{StateFault}
use Rattle.lpt_state.proofs.LawLemmas.{written_is_read_as}

module _ (c : Config) (start : Pair) where
  -- two ends after these moves
  abbrev at : List Move → Pair
  at xs = after_all c start xs

  -- what is read of octets is the restart of this end, within the limits of the configuration in
  -- which they are read
  abbrev IsWritten : (side : Side) → NodeData → List ℕ → Type 0
  IsWritten side n b =
      (d : Config) → IsBoundAlike c d → reading side d b ≡ Ok (restarted_as d (end_of c side n))

  -- what each list of moves has of each end
  record IsLived (l : Lived) : Type 0 where
    can : CanAll c start l.moves
    ground : l.kept.pair.ends.on_ground ≡ (at l.moves).ends.on_ground
    craft : aboard l.kept.pair.ends ≡ aboard (at l.moves).ends
    ground_still : (at l.but_craft).ends.on_ground ≡ (at l.moves).ends.on_ground
    ground_back : (at l.but_both).ends.on_ground ≡ (at l.but_ground).ends.on_ground
    craft_still : aboard (at l.but_ground).ends ≡ aboard (at l.moves).ends
    craft_back : aboard (at l.but_both).ends ≡ aboard (at l.but_craft).ends
    ground_written : IsWritten Ground (at l.but_ground).ends.on_ground l.kept.ground_octets
    craft_written : IsWritten Craft (at l.but_craft).ends.on_craft l.kept.craft_octets
    memories_written : l.kept.memories ≡ (at l.but_craft).ends.memories

  -- ---- moves

  -- the same move of ground comes to the same node
  ground_both : (x : Move) (p q : Pair)
      → side_of x ≡ Ground
      → p.ends.on_ground ≡ q.ends.on_ground
      → (pair_after c p x).ends.on_ground ≡ (pair_after c q x).ends.on_ground
  ground_both x p q of same =
      (is_of_ground c p x of).next ∙ ap (next_ground c x) same ∙ sym (is_of_ground c q x of).next

  -- the same move of the spacecraft
  craft_both : (x : Move) (p q : Pair)
      → side_of x ≡ Craft
      → aboard p.ends ≡ aboard q.ends
      → aboard (pair_after c p x).ends ≡ aboard (pair_after c q x).ends
  craft_both x p q of same =
      (is_of_craft c p x of).next ∙ ap (next_aboard c x) same ∙ sym (is_of_craft c q x of).next

  moves_ground : (l : Lived) (x : Move)
      → side_of x ≡ Ground
      → IsLived l
      → CanLive c start l (Make x)
      → IsLived (move_made c l Ground x)
  moves_ground l x of r can =
      let left : aboard (pair_after c (at l.but_craft) x).ends ≡ aboard (at l.but_craft).ends =
      (is_of_ground c (at l.but_craft) x of).leaves in
      let all_left : aboard (pair_after c (at l.moves) x).ends ≡ aboard (at l.moves).ends =
      (is_of_ground c (at l.moves) x of).leaves in
      record {
        can = (r.can, can);
        ground = ground_both x l.kept.pair (at l.moves) of r.ground;
        craft = (is_of_ground c l.kept.pair x of).leaves ∙ r.craft ∙ sym all_left;
        ground_still = ground_both x (at l.but_craft) (at l.moves) of r.ground_still;
        ground_back = r.ground_back;
        craft_still = r.craft_still ∙ sym all_left;
        craft_back = r.craft_back ∙ sym left;
        ground_written = r.ground_written;
        craft_written =
            subst (λ (a : Aboard). IsWritten Craft a.node l.kept.craft_octets) (sym left)
            r.craft_written;
        memories_written = r.memories_written ∙ ap (λ (a : Aboard). a.memories) (sym left);
      }

  moves_craft : (l : Lived) (x : Move)
      → side_of x ≡ Craft
      → IsLived l
      → CanLive c start l (Make x)
      → IsLived (move_made c l Craft x)
  moves_craft l x of r can =
      let left : (pair_after c (at l.but_ground) x).ends.on_ground
      ≡ (at l.but_ground).ends.on_ground =
      (is_of_craft c (at l.but_ground) x of).leaves in
      let all_left : (pair_after c (at l.moves) x).ends.on_ground ≡ (at l.moves).ends.on_ground =
      (is_of_craft c (at l.moves) x of).leaves in
      record {
        can = (r.can, can);
        ground = (is_of_craft c l.kept.pair x of).leaves ∙ r.ground ∙ sym all_left;
        craft = craft_both x l.kept.pair (at l.moves) of r.craft;
        ground_still = r.ground_still ∙ sym all_left;
        ground_back = r.ground_back ∙ sym left;
        craft_still = craft_both x (at l.but_ground) (at l.moves) of r.craft_still;
        craft_back = r.craft_back;
        ground_written =
            subst (λ (n : NodeData). IsWritten Ground n l.kept.ground_octets) (sym left)
            r.ground_written;
        craft_written = r.craft_written;
        memories_written = r.memories_written;
      }

  moves_by : (l : Lived) (x : Move) (side : Side)
      → side_of x ≡ side
      → IsLived l
      → CanLive c start l (Make x)
      → IsLived (move_made c l side x)
  moves_by l x Ground of r can = moves_ground l x of r can
  moves_by l x Craft of r can = moves_craft l x of r can

  -- ---- moves that a restart forgets

  -- a restart of this side forgets a move
  record IsForgottenBy (p : Pair) (x : Move) (side : Side) : Type 0 where
    node : node_restarted (node_at (pair_after c p x).ends side)
        ≡ node_restarted (node_at p.ends side)
    memories : (pair_after c p x).ends.memories ≡ p.ends.memories

  -- octets are read as the restart of another end that is restarted to the same
  still_written : (side : Side) (n m : NodeData) (b : List ℕ)
      → node_restarted m ≡ node_restarted n
      → IsWritten side n b
      → IsWritten side m b
  still_written side n m b same w = λ d alike.
      w d alike
      ∙ ap (λ (x : NodeData).
      Ok (record { side = side; config = d; at = node_within (limits_of d) x })) (sym same)

  forgets_ground : (l : Lived) (x : Move)
      → side_of x ≡ Ground
      → IsLived l
      → CanMove c (at l.moves) x
      → node_restarted (pair_after c (at l.but_ground) x).ends.on_ground
      ≡ node_restarted (at l.but_ground).ends.on_ground
      → IsLived (made_forgotten c l x)
  forgets_ground l x of r can same =
      let left : (p : Pair) → aboard (pair_after c p x).ends ≡ aboard p.ends =
      λ p. (is_of_ground c p x of).leaves in
      record {
        can = (r.can, can);
        ground = ground_both x l.kept.pair (at l.moves) of r.ground;
        craft = left l.kept.pair ∙ r.craft ∙ sym (left (at l.moves));
        ground_still = ground_both x (at l.but_craft) (at l.moves) of r.ground_still;
        ground_back = ground_both x (at l.but_both) (at l.but_ground) of r.ground_back;
        craft_still = left (at l.but_ground) ∙ r.craft_still ∙ sym (left (at l.moves));
        craft_back = left (at l.but_both) ∙ r.craft_back ∙ sym (left (at l.but_craft));
        ground_written =
            still_written Ground (at l.but_ground).ends.on_ground
            (pair_after c (at l.but_ground) x).ends.on_ground l.kept.ground_octets same
            r.ground_written;
        craft_written =
            subst (λ (a : Aboard). IsWritten Craft a.node l.kept.craft_octets)
            (sym (left (at l.but_craft))) r.craft_written;
        memories_written =
            r.memories_written ∙ ap (λ (a : Aboard). a.memories) (sym (left (at l.but_craft)));
      }

  forgets_craft : (l : Lived) (x : Move)
      → side_of x ≡ Craft
      → IsLived l
      → CanMove c (at l.moves) x
      → node_restarted (pair_after c (at l.but_craft) x).ends.on_craft
      ≡ node_restarted (at l.but_craft).ends.on_craft
      → (pair_after c (at l.but_craft) x).ends.memories ≡ (at l.but_craft).ends.memories
      → IsLived (made_forgotten c l x)
  forgets_craft l x of r can same ms =
      let left : (p : Pair) → (pair_after c p x).ends.on_ground ≡ p.ends.on_ground =
      λ p. (is_of_craft c p x of).leaves in
      record {
        can = (r.can, can);
        ground = left l.kept.pair ∙ r.ground ∙ sym (left (at l.moves));
        craft = craft_both x l.kept.pair (at l.moves) of r.craft;
        ground_still = left (at l.but_craft) ∙ r.ground_still ∙ sym (left (at l.moves));
        ground_back = left (at l.but_both) ∙ r.ground_back ∙ sym (left (at l.but_ground));
        craft_still = craft_both x (at l.but_ground) (at l.moves) of r.craft_still;
        craft_back = craft_both x (at l.but_both) (at l.but_craft) of r.craft_back;
        ground_written =
            subst (λ (n : NodeData). IsWritten Ground n l.kept.ground_octets)
            (sym (left (at l.but_ground))) r.ground_written;
        craft_written =
            still_written Craft (at l.but_craft).ends.on_craft
            (pair_after c (at l.but_craft) x).ends.on_craft l.kept.craft_octets same
            r.craft_written;
        memories_written = r.memories_written ∙ sym ms;
      }

  forgets_by : (l : Lived) (x : Move) (side : Side)
      → side_of x ≡ side
      → IsLived l
      → CanMove c (at l.moves) x
      → IsForgottenBy (at (left_without l side)) x side
      → IsLived (made_forgotten c l x)
  forgets_by l x Ground of r can it = forgets_ground l x of r can it.node
  forgets_by l x Craft of r can it = forgets_craft l x of r can it.node it.memories

  -- ---- writings

  is_written : (side : Side) (n m : NodeData)
      → n ≡ m
      → IsEnd (end_of c side n)
      → n.boot + 1 < 2 ^ 64
      → IsWritten side m (state_spelled (end_of c side n))
  is_written side n m same is_end left =
      subst (λ (x : NodeData). IsWritten side x (state_spelled (end_of c side n))) same
      (λ d alike. written_is_read_as (end_of c side n) d is_end left
      (bound_within (limits_at n) c d alike))

  writes : (l : Lived) (side : Side)
      → IsLived l
      → CanLive c start l (Write side)
      → IsLived (lived_after c l (Write side))
  writes l Ground r can = record {
    can = r.can;
    ground = r.ground;
    craft = r.craft;
    ground_still = r.ground_still;
    ground_back = r.ground_still;
    craft_still = refl;
    craft_back = refl;
    ground_written =
        is_written Ground l.kept.pair.ends.on_ground (at l.moves).ends.on_ground r.ground
        can.is_end can.boot_left;
    craft_written = r.craft_written;
    memories_written = r.memories_written;
  }
  writes l Craft r can = record {
    can = r.can;
    ground = r.ground;
    craft = r.craft;
    ground_still = refl;
    ground_back = refl;
    craft_still = r.craft_still;
    craft_back = r.craft_still;
    ground_written = r.ground_written;
    craft_written =
        is_written Craft l.kept.pair.ends.on_craft (at l.moves).ends.on_craft
        (ap (λ (a : Aboard). a.node) r.craft) can.is_end can.boot_left;
    memories_written = ap (λ (a : Aboard). a.memories) r.craft;
  }

  -- ---- resets

  resets_ground : (l : Lived) (d : Config)
      → IsLived l
      → CanLive c start l (Reset Ground d)
      → IsLived (lived_after c l (Reset Ground d))
  resets_ground l d r can =
      let n : NodeData = (at l.but_ground).ends.on_ground in
      let read : reading Ground d l.kept.ground_octets ≡ Ok (restarted_as d (end_of c Ground n)) =
      r.ground_written d can.1 in
      record {
        can = ((can.0, tt), tt);
        ground = ap (λ (x : Result NodeView StateFault).
            (with_read l.kept.pair Ground x).ends.on_ground) read;
        craft =
            ap (λ (x : Result NodeView StateFault).
            aboard (with_read l.kept.pair Ground x).ends) read
            ∙ r.craft ∙ sym r.craft_still;
        ground_still =
            ap (λ (x : NodeData). node_within (limits_of d) (node_restarted x)) r.ground_back;
        ground_back = r.ground_back;
        craft_still = refl;
        craft_back = refl;
        ground_written = r.ground_written;
        craft_written =
            subst (λ (a : Aboard). IsWritten Craft a.node l.kept.craft_octets)
            (sym r.craft_back) r.craft_written;
        memories_written =
            r.memories_written ∙ ap (λ (a : Aboard). a.memories) (sym r.craft_back);
      }

  resets_craft : (l : Lived) (d : Config)
      → IsLived l
      → CanLive c start l (Reset Craft d)
      → IsLived (lived_after c l (Reset Craft d))
  resets_craft l d r can =
      let n : NodeData = (at l.but_craft).ends.on_craft in
      let read : reading Craft d l.kept.craft_octets ≡ Ok (restarted_as d (end_of c Craft n)) =
      r.craft_written d can.1 in
      record {
        can = ((can.0.0, tt), tt);
        ground =
            ap (λ (x : Result NodeView StateFault).
            (with_read l.kept.pair Craft x).ends.on_ground) read
            ∙ r.ground ∙ sym r.ground_still;
        craft =
            ap (λ (x : Result NodeView StateFault).
            aboard (with_memories (with_read l.kept.pair Craft x) l.kept.memories).ends) read
            ∙ (λ i. record {
              node = node_within (limits_of d) (node_restarted n);
              tickets = can.0.1 i;
              memories = r.memories_written i;
            });
        ground_still = refl;
        ground_back = refl;
        craft_still = ap (λ (a : Aboard). record {
          node = node_within (limits_of d) (node_restarted a.node);
          tickets = a.tickets;
          memories = a.memories;
        }) r.craft_back;
        craft_back = r.craft_back;
        ground_written =
            subst (λ (d : NodeData). IsWritten Ground d l.kept.ground_octets)
            (sym r.ground_back) r.ground_written;
        craft_written = r.craft_written;
        memories_written = r.memories_written;
      }

  lives : (l : Lived) (x : Deed) → IsLived l → CanLive c start l x → IsLived (lived_after c l x)
  lives l (Make x) r can = moves_by l x (side_of x) refl r can
  lives l (MakeForgotten x) r can =
      forgets_by l x (side_of x) refl r can.0
      (record { node = can.1.node; memories = can.1.memories })
  lives l (Write side) r can = writes l side r can
  lives l (Reset Ground d) r can = resets_ground l d r can
  lives l (Reset Craft d) r can = resets_craft l d r can

  lives_all : (l : Lived) (xs : List Deed)
      → IsLived l
      → CanLiveAll c start l xs
      → IsLived (lived_all c l xs)
  lives_all l [] r can = r
  lives_all l (x ∷ xs) r can = lives (lived_all c l xs) x (lives_all l xs r can.0) can.1

pub reset_ends_keep_the_promise : ResetEndsKeepThePromise
reset_ends_keep_the_promise c first g t k xs good_g good_t new ground craft can =
    let start : Pair = k.pair in
    let r : IsLived c start (lived_all c (just_written c k) xs) =
    lives_all c start (just_written c k) xs (record {
      can = tt;
      ground = refl;
      craft = refl;
      ground_still = refl;
      ground_back = refl;
      craft_still = refl;
      craft_back = refl;
      ground_written =
          is_written c start Ground start.ends.on_ground start.ends.on_ground refl ground.is_end
          ground.boot_left;
      craft_written =
          is_written c start Craft start.ends.on_craft start.ends.on_craft refl craft.is_end
          craft.boot_left;
      memories_written = refl;
    }) can in
    let ms : List Move = (lived_all c (just_written c k) xs).moves in
    let q : Pair = no_pair_later c first g t in
    let may : CanAll c q ms = subst (λ (p : Pair). CanAll c p ms) new r.can in
    record {
      can = r.can;
      ground = r.ground;
      craft = ap (λ (a : Aboard). a.node) r.craft;
      tickets = ap (λ (a : Aboard). a.tickets) r.craft;
      memories = ap (λ (a : Aboard). a.memories) r.craft;
      promised =
          subst (λ (p : Pair). IsPromised c first (after_all c p ms).ends) (sym new)
          (reached_keep c first g (after_all c q ms) good_g
          (joined c first q ms (begun_later c first g t good_g good_t) may));
      whole =
          subst (λ (p : Pair). WithholdsNothing c (after_all c p ms).ends.log (came_since c p ms))
          (sym new) (ends_with_clocks_withhold_nothing c first g t ms good_g good_t may);
    }
