-- Steps of which none is refused are moves: a name is freed at its receiver, and then at its
-- sender.
use Rattle.std.proofs.Common.{◌≡◌, ◌∙◌, ap, sym, subst, refl, Bool, true, false, not, ◌&&◌, ◌||◌, List, [], ◌∷◌}
use Rattle.std.specs.Prelude.{cond}
use Rattle.lpt_packet.specs.declared.direction.Direction.{Direction}
use Rattle.lpt_packet.specs.declared.direction.Direction.TheVariants.{Up, Down}
use Rattle.lpt_packet.specs.Names.{Name}
use Rattle.lpt_packet.proofs.NameLemmas.{same_name-refl}
use Rattle.lpt_memory.specs.Memories.{Contents}
use Rattle.lpt_events.specs.declared.config.Config.{Config}
use Rattle.lpt_apart.specs.Ends.{PutOut, Ends, is_part, without, is_same, Pair, Move, Do, Free, pair_after, Step, Retire, retired_on, after}
use Rattle.lpt_apart.specs.TwoEnds.{CanMove, CanHappen}
use Rattle.lpt_apart.specs.Worlds.{ends_reached, CanRun}
use Rattle.lpt_apart.specs.Moves.{came_to, CanMoveAll}
use Rattle.lpt_apart.specs.Plays.{moves_of, StepsAreMoves}
use Rattle.lpt_apart.proofs.Closing.{IsNoRetirement}
use Rattle.lpt_events.proofs.LaneLemmas.{same_direction-refl}

-- two ends of which no receiver alone has freed a name
abbrev plain_pair : Ends → Pair
plain_pair e = record { ends = e; freed = λ d name. false }

-- a name's parts are taken out once
without_twice : (d : Direction) (name : Name) (ps : List PutOut)
    → without d name (without d name ps) ≡ without d name ps
without_twice d name [] = refl
without_twice d name (p ∷ ps) = go (not (is_part d name p)) refl (without_twice d name ps) where
  go : (b : Bool)
      → not (is_part d name p) ≡ b
      → without d name (without d name ps) ≡ without d name ps
      → without d name (cond b (p ∷ without d name ps) (without d name ps))
      ≡ cond b (p ∷ without d name ps) (without d name ps)
  go true is rest = λ i. cond (is i) (p ∷ rest i) (rest i)
  go false is rest = rest

none_freed : (b : Bool) → (not b && (b || false)) ≡ false
none_freed true = refl
none_freed false = refl

-- a name that its receiver and then its sender have freed is retired
freed_twice : (c : Config) (e : Ends) (d : Direction) (name : Name)
    → pair_after c (pair_after c (plain_pair e) (Free d name)) (Do (Retire d name))
    ≡ plain_pair (retired_on e d name)
freed_twice c e Up name = λ i. record {
  ends = record (retired_on e Up name) { on_the_way = without_twice Up name e.on_the_way i };
  freed = λ d n. none_freed (is_same Up name d n) i;
}
freed_twice c e Down name = λ i. record {
  ends = record (retired_on e Down name) { on_the_way = without_twice Down name e.on_the_way i };
  freed = λ d n. none_freed (is_same Down name d n) i;
}

-- moves can be done, and come to this
record Come (c : Config) (first : Contents) (ms : List Move) (e : Ends) : Type 0 where
  can : CanMoveAll c first ms
  is : came_to c first ms ≡ plain_pair e

-- a step that retires nothing is a move
come_on : (c : Config) (first : Contents) (ms : List Move) (e : Ends) (x : Step)
    → IsNoRetirement x
    → CanHappen c e x
    → Come c first ms e
    → Come c first (Do x ∷ ms) (after c e x)
come_on c first ms e (Retire d name) stays can had = absurd stays
come_on c first ms e x stays can had = record {
  can = (had.can, subst (λ (p : Pair). CanMove c p (Do x)) (sym had.is) can);
  is = ap (λ (p : Pair). pair_after c p (Do x)) had.is;
}

-- a retirement is two
retire_on : (c : Config) (first : Contents) (ms : List Move) (e : Ends) (d : Direction)
    (name : Name)
    → CanHappen c e (Retire d name)
    → Come c first ms e
    → Come c first (Do (Retire d name) ∷ Free d name ∷ ms) (retired_on e d name)
retire_on c first ms e d name can had = record {
  can = (
    (had.can, subst (λ (p : Pair). CanMove c p (Free d name)) (sym had.is) can),
    (
      can.0,
      λ i. (same_direction-refl d i && same_name-refl name i) || (came_to c first ms).freed d name,
    ),
  );
  is =
      ap (λ (p : Pair). pair_after c (pair_after c p (Free d name)) (Do (Retire d name))) had.is
      ∙ freed_twice c e d name;
}

come : (c : Config) (first : Contents) (xs : List Step)
    → CanRun c first xs
    → Come c first (moves_of xs) (ends_reached c first xs)
come c first [] can = record { can = tt; is = refl }
come c first (Retire d name ∷ xs) can =
    retire_on c first (moves_of xs) (ends_reached c first xs) d name can.1 (come c first xs can.0)
come c first (x ∷ xs) can =
    come_on c first (moves_of xs) (ends_reached c first xs) x tt can.1 (come c first xs can.0)

pub steps_are_moves : StepsAreMoves
steps_are_moves c first xs can =
    let it = come c first xs can in
    record { can = it.can; ends = ap (λ (p : Pair). p.ends) it.is }
