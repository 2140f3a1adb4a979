-- A report of an abortion that nobody made does to ground what it does to finish the message.
use Rattle.std.proofs.Common.{◌≡◌, ap, sym, subst, refl, ℕ, inr, List, [], ◌∷◌, ◌++◌}
use Rattle.lpt_packet.specs.declared.direction.Direction.TheVariants.{Up, Down}
use Rattle.lpt_packet.specs.Names.{Name}
use Rattle.lpt_part.specs.declared.reason.Reason.{Reason}
use Rattle.lpt_memory.specs.Memories.{Contents}
use Rattle.lpt_events.specs.Arrivals.{Arrival, AnAbort, arrival_in}
use Rattle.lpt_events.specs.declared.config.Config.{Config}
use Rattle.lpt_events.specs.declared.side.Side.TheVariants.{Ground}
use Rattle.lpt_node.specs.Accepting.{packet_accepted}
use Rattle.lpt_apart.specs.Ends.{Pair, Move, Do, pair_after, Finish, Accept, accepted_on}
use Rattle.lpt_apart.specs.TwoEnds.{CanMove, is_harmless, came_moved}
use Rattle.lpt_apart.specs.Moves.{came_to, CanMoveAll}
use Rattle.lpt_apart.specs.Whole.{came_in}

-- moves that can be done, and come to two ends
pub record Come (c : Config) (first : Contents) (xs : List Move) (p : Pair) : Type 0 where
  pub can : CanMoveAll c first xs
  pub is : came_to c first xs ≡ p

-- where a message is finished on ground, its abortion may be reported in place of that
pub swapped : (c : Config) (first : Contents) (behind before : List Move) (name : Name) (b : List ℕ)
    (why : Reason)
    → arrival_in c Down b ≡ AnAbort name why
    → CanMoveAll c first (behind ++ Do (Finish Up name) ∷ before)
    → Come c first (behind ++ Do (Accept Down b) ∷ before)
    (came_to c first (behind ++ Do (Finish Up name) ∷ before))
swapped c first [] before name b why is can =
    let p : Pair = came_to c first before in
    record {
      can = (can.0, inr (ap is_harmless is));
      is =
          ap (λ (a : Arrival). record p {
            ends = accepted_on p.ends Down (packet_accepted Ground c p.ends.on_ground a);
          }) is;
    }
swapped c first (x ∷ behind) before name b why is can =
    let rest = swapped c first behind before name b why is can.0 in
    record {
      can = (rest.can, subst (λ (p : Pair). CanMove c p x) (sym rest.is) can.1);
      is = ap (λ (p : Pair). pair_after c p x) rest.is;
    }

-- and the same parts came up
pub swapped_came : (c : Config) (first : Contents) (behind before : List Move) (name : Name)
    (b : List ℕ) (why : Reason)
    → arrival_in c Down b ≡ AnAbort name why
    → CanMoveAll c first (behind ++ Do (Finish Up name) ∷ before)
    → (i : Name) (k : ℕ)
    → came_in c first (behind ++ Do (Accept Down b) ∷ before) Up i k
    ≡ came_in c first (behind ++ Do (Finish Up name) ∷ before) Up i k
swapped_came c first [] before name b why is can i k = refl
swapped_came c first (x ∷ behind) before name b why is can i k =
    let rest = swapped c first behind before name b why is can.0 in
    let had = swapped_came c first behind before name b why is can.0 i k in
    (λ j. came_moved c (rest.is j) x Up i k (had j))
