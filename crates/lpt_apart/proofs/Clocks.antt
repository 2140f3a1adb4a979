-- Two ends with clocks and limits of their own are two ends that have ticked and set limits, and
-- keep the promise.
use Rattle.std.proofs.Common.{◌≡◌, ◌∙◌, ap, sym, subst, refl, ℕ, zero, suc, ◌+◌, ◌<◌, ◌^◌, ◌==◌, Bool, false, if◌then◌else◌, List, [], ◌∷◌, Some, None, arith}
use Rattle.std.proofs.lemmas.Bool.Decides.{nat_tests}
use Rattle.lpt_packet.specs.declared.direction.Direction.{Direction}
use Rattle.lpt_packet.specs.Names.{Name}
use Rattle.lpt_memory.specs.Memories.{Contents}
use Rattle.lpt_events.specs.Configs.{IsConfig}
use Rattle.lpt_events.specs.Counts.{greatest_clock}
use Rattle.lpt_events.specs.declared.config.Config.{Config}
use Rattle.lpt_events.specs.declared.side.Side.TheVariants.{Ground, Craft}
use Rattle.lpt_node.specs.declared.fault.NodeFault.TheVariants.{ClockEnd}
use Rattle.lpt_node.specs.Nodes.{no_data}
use Rattle.lpt_node.specs.Restarts.{node_within}
use Rattle.lpt_apart.specs.Ends.{after_all, no_ends, Pair, Move, Do, no_pair, pair_after, Tick}
use Rattle.lpt_apart.specs.TwoEnds.{Own, later, own_config, no_pair_later, CanAll, EndsWithClocksKeepThePromise, CanMove, IsPromised, came_moved, came_since, CameWhole, last_opened, is_aborted, last_released, EndsWithClocksWithholdNothing, WithholdsNothing}
use Rattle.lpt_apart.specs.Moves.{came_to, CanMoveAll}
use Rattle.lpt_apart.specs.Whole.{came_in}
use Rattle.lpt_apart.proofs.Moving.{ends_apart_keep_the_promise, ends_apart_withhold_nothing}
use Rattle.lpt_apart.proofs.Ties.{Came}
use Rattle.lpt_acts.specs.Acts.{Limits, On, Within}

-- two new ends with these clocks, the spacecraft's within these limits
abbrev at_clocks : Config → Contents → Limits → (on_ground on_craft : ℕ) → Pair
at_clocks c first l x y =
    record (no_pair c first) {
      ends =
          record (no_ends c first) {
            on_ground = record (no_data c) { clock = x };
            on_craft = node_within l (record (no_data c) { clock = y });
          };
    }

-- moves lead from two new ends to these
pub record IsReached (c : Config) (first : Contents) (p : Pair) : Type 0 where
  pub all : List Move
  pub can : CanMoveAll c first all
  pub is : came_to c first all ≡ p

-- and these parts came with them
pub record IsBrought (c : Config) (first : Contents) (p : Pair) (parts : Came) : Type 0 where
  pub reached : IsReached c first p
  pub came : (d : Direction) (name : Name) (n : ℕ)
      → came_in c first reached.all d name n ≡ parts d name n

-- with these moves no part came
abbrev pub IsBegun : Config → Contents → Pair → Type 0
IsBegun c first p = IsBrought c first p (λ d name n. false)

-- ---- limits and ticks

-- a number below the greatest isn't it
not_greatest : (n : ℕ) → n + 1 < 2 ^ 32 → (n == greatest_clock) ≡ false
not_greatest n below = grind (arith, nat_tests)

module _ (c : Config) (first : Contents) (l : Limits) where
  -- the spacecraft sets its limits
  limits_first : IsBegun c first (at_clocks c first l c.clock c.clock)
  limits_first = record {
    reached = record { all = Do (Tick Craft (Within l)) ∷ []; can = (tt, tt); is = refl };
    came = λ d name n. refl;
  }

  -- ground ticks
  tick_ground : (x y : ℕ)
      → x + 1 < 2 ^ 32
      → IsBegun c first (at_clocks c first l x y)
      → IsBegun c first (at_clocks c first l (x + 1) y)
  tick_ground x y below r = record {
    reached = record {
      all = Do (Tick Ground On) ∷ r.reached.all;
      can = (
        r.reached.can,
        subst (λ (p : Pair). CanMove c p (Do (Tick Ground On))) (sym r.reached.is)
            (ap (λ (b : Bool). if b then Some ClockEnd else None) (not_greatest x below)),
      );
      is = ap (λ (p : Pair). pair_after c p (Do (Tick Ground On))) r.reached.is;
    };
    came = r.came;
  }

  -- the spacecraft ticks
  tick_craft : (x y : ℕ)
      → y + 1 < 2 ^ 32
      → IsBegun c first (at_clocks c first l x y)
      → IsBegun c first (at_clocks c first l x (y + 1))
  tick_craft x y below r = record {
    reached = record {
      all = Do (Tick Craft On) ∷ r.reached.all;
      can = (
        r.reached.can,
        subst (λ (p : Pair). CanMove c p (Do (Tick Craft On))) (sym r.reached.is)
            (ap (λ (b : Bool). if b then Some ClockEnd else None) (not_greatest y below)),
      );
      is = ap (λ (p : Pair). pair_after c p (Do (Tick Craft On))) r.reached.is;
    };
    came = r.came;
  }

  -- what the spacecraft has of its own with this clock
  abbrev own : (ticks : ℕ) → Own
  own k = record { ticks = k; limits = l }

  -- the same ends
  same : (x y g k : ℕ)
      → x ≡ g + c.clock
      → y ≡ k + c.clock
      → IsBegun c first (at_clocks c first l x y)
      → IsBegun c first (no_pair_later c first g (own k))
  same x y g k ground craft r = record {
    reached = record {
      all = r.reached.all;
      can = r.reached.can;
      is = r.reached.is ∙ (λ i. at_clocks c first l (ground i) (craft i));
    };
    came = r.came;
  }

  ground_later : (g : ℕ)
      → g + c.clock < 2 ^ 32
      → IsBegun c first (no_pair_later c first g (own 0))
  ground_later zero fits =
      same c.clock c.clock 0 0 (omega arith) (omega arith) limits_first
  ground_later (suc g) fits =
      same ((g + c.clock) + 1) (0 + c.clock) (suc g) 0 (omega arith) refl
      (tick_ground (g + c.clock) (0 + c.clock) (omega (arith, fits))
      (ground_later g (omega (arith, fits))))

  pub both_later : (g k : ℕ)
      → g + c.clock < 2 ^ 32
      → k + c.clock < 2 ^ 32
      → IsBegun c first (no_pair_later c first g (own k))
  both_later g zero fits_g fits_k = ground_later g fits_g
  both_later g (suc k) fits_g fits_k =
      same (g + c.clock) ((k + c.clock) + 1) g (suc k) refl (omega arith)
      (tick_craft (g + c.clock) (k + c.clock) (omega (arith, fits_k))
      (both_later g k fits_g (omega (arith, fits_k))))

module _ (c : Config) (first : Contents) where
  -- moves behind others
  pub joined : (p : Pair) (xs : List Move)
      → IsReached c first p
      → CanAll c p xs
      → IsReached c first (after_all c p xs)
  joined p [] r can = r
  joined p (x ∷ xs) r can =
      let rest : IsReached c first (after_all c p xs) = joined p xs r can.0 in
      record {
        all = x ∷ rest.all;
        can = (rest.can, subst (λ (q : Pair). CanMove c q x) (sym rest.is) can.1);
        is = ap (λ (q : Pair). pair_after c q x) rest.is;
      }

  -- and what came with them
  pub brought : (p : Pair) (xs : List Move)
      → IsBegun c first p
      → CanAll c p xs
      → IsBrought c first (after_all c p xs) (came_since c p xs)
  brought p [] r can = r
  brought p (x ∷ xs) r can =
      let rest : IsBrought c first (after_all c p xs) (came_since c p xs) = brought p xs r can.0 in
      record {
        reached = record {
          all = x ∷ rest.reached.all;
          can = (
            rest.reached.can,
            subst (λ (q : Pair). CanMove c q x) (sym rest.reached.is) can.1,
          );
          is = ap (λ (q : Pair). pair_after c q x) rest.reached.is;
        };
        came = λ d name n i. came_moved c (rest.reached.is i) x d name n (rest.came d name n i);
      }

-- ---- the promise

-- the configuration whose clock begins before is one, too
earlier : (c : Config) (g : ℕ) → IsConfig (later g c) → IsConfig c
earlier c g good = record {
  apid_fits = good.apid_fits;
  source_fits = good.source_fits;
  part_size_fits = good.part_size_fits;
  some_timeout = good.some_timeout;
  timeout_fits = good.timeout_fits;
  some_receptions = good.some_receptions;
  receptions_fit = good.receptions_fit;
  some_outgoing = good.some_outgoing;
  outgoing_fits = good.outgoing_fits;
  clock_fits = omega (arith, good.clock_fits);
}

-- two new ends with clocks and limits of their own are reached, and no part came
pub begun : (c : Config) (first : Contents) (g : ℕ) (k : Own)
    → IsConfig (later g c)
    → IsConfig (own_config k c)
    → IsBegun c first (no_pair_later c first g k)
begun c first g k good_g good_k =
    both_later c first k.limits g k.ticks good_g.clock_fits good_k.clock_fits

pub begun_later : (c : Config) (first : Contents) (g : ℕ) (k : Own)
    → IsConfig (later g c)
    → IsConfig (own_config k c)
    → IsReached c first (no_pair_later c first g k)
begun_later c first g k good_g good_k = (begun c first g k good_g good_k).reached

-- two ends that were reached keep the promise
pub reached_keep : (c : Config) (first : Contents) (g : ℕ) (p : Pair)
    → IsConfig (later g c)
    → IsReached c first p
    → IsPromised c first p.ends
reached_keep c first g p good r =
    subst (λ (q : Pair). IsPromised c first q.ends) r.is
    (ends_apart_keep_the_promise c first r.all (earlier c g good) r.can)

-- and withhold nothing of what came with these moves
pub reached_withhold : (c : Config) (first : Contents) (g : ℕ) (p : Pair)
    → IsConfig (later g c)
    → (r : IsReached c first p)
    → WithholdsNothing c p.ends.log (came_in c first r.all)
reached_withhold c first g p good r =
    subst (λ (q : Pair). WithholdsNothing c q.ends.log (came_in c first r.all)) r.is
    (ends_apart_withhold_nothing c first r.all (earlier c g good) r.can)

pub ends_with_clocks_keep_the_promise : EndsWithClocksKeepThePromise
ends_with_clocks_keep_the_promise c first g k xs good_g good_k can =
    reached_keep c first g (after_all c (no_pair_later c first g k) xs) good_g
    (joined c first (no_pair_later c first g k) xs (begun_later c first g k good_g good_k) can)

pub ends_with_clocks_withhold_nothing : EndsWithClocksWithholdNothing
ends_with_clocks_withhold_nothing c first g k xs good_g good_k can =
    let new : Pair = no_pair_later c first g k in
    let b = brought c first new xs (begun c first g k good_g good_k) can in
    (λ d name m. subst (λ (q : Pair). last_opened q.ends.log d name ≡ Some m
    → CameWhole c (came_since c new xs d name) m
    → is_aborted q.ends.log d name ≡ false
    → last_released q.ends.log d name ≡ Some m) b.reached.is
    (λ now all live. ends_apart_withhold_nothing c first b.reached.all (earlier c g good_g)
    b.reached.can d name m now (λ n low high. b.came d name n ∙ all n low high) live))
