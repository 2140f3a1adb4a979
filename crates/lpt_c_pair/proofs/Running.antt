-- Two ends behind handles keep the promise, whatever calls are made of them.
use Rattle.std.proofs.Common.{ap, sym, subst, refl, ℕ, List, [], ◌∷◌}
use Rattle.lpt_acts.specs.Acts.{limits_of}
use Rattle.lpt_apart.specs.Ends.{Ends}
use Rattle.lpt_apart.specs.TwoEnds.{later, no_pair_later, Own, own_config}
use Rattle.lpt_apart.proofs.Clocks.{IsReached, joined, begun_later, reached_keep}
use Rattle.lpt_c_end.specs.Changes.{IsNew, IsNewWith}
use Rattle.lpt_c_end.specs.Contents.{memories_told}
use Rattle.lpt_c_end.specs.declared.end.End.{End}
use Rattle.lpt_c_end.specs.declared.memories.LptMemory.{LptMemory}
use Rattle.lpt_c_pair.specs.Outboxes.{AllOnTheWay}
use Rattle.lpt_c_pair.specs.Pairs.{AreEndsOf, Call, CallPlace, InEnd, kept_in, moves}
use Rattle.lpt_c_pair.specs.Runs.{CallTurn, Standing, standing_begun, turned_by, CanTurnBy, stood, CanStand, EndsOfCKeepThePromise, KeepsThePromise}
use Rattle.lpt_c_pair.proofs.Calls.{calls_are_moves}
use Rattle.lpt_packet.specs.declared.direction.Direction.TheVariants.{Up, Down}
use Rattle.lpt_events.specs.Configs.{IsConfig}
use Rattle.lpt_events.specs.declared.config.Config.{Config}
use Rattle.lpt_events.specs.declared.side.Side.{Side}
use Rattle.lpt_events.specs.declared.side.Side.TheVariants.{Ground, Craft}
use Rattle.lpt_memory.specs.Memories.{Contents}
use Rattle.lpt_node.specs.Nodes.{NodeView}

-- the ends stand where moves lead
pub record IsStood (c : Config) (first : Contents) (s : Standing) : Type 0 where
  pub reached : IsReached c first s.pair
  pub ends : AreEndsOf c s.pair s.on_ground s.on_craft

pub turn : (c : Config) (first : Contents) (s : Standing) (side : Side) (call : Call) (new : End)
    → IsStood c first s
    → CanTurnBy c s side call new
    → IsStood c first (turned_by c s side call new)
turn c first s Ground call new r can =
    let w = (calls_are_moves c s.pair s.on_ground s.on_craft r.ends call).0 new can.0 can.1 in
    record { reached = joined c first s.pair (moves Ground call) r.reached w.0; ends = w.1 }
turn c first s Craft call new r can =
    let w = (calls_are_moves c s.pair s.on_ground s.on_craft r.ends call).1 new can.0 can.1 in
    record { reached = joined c first s.pair (moves Craft call) r.reached w.0; ends = w.1 }

stand : (c : Config) (first : Contents) (s : Standing) (ts : List CallTurn)
    → IsStood c first s
    → CanStand c s ts
    → IsStood c first (stood c s ts)
stand c first s [] r can = r
stand c first s (t ∷ ts) r can =
    turn c first (stood c s ts) t.side t.call t.new (stand c first s ts r can.0) can.1

pub begins : (c : Config) (a : ℕ) (b : Own) (none : List LptMemory) (nothing : List ℕ)
    (w : CallPlace)
    (first : Contents)
    (g k : End)
    → IsConfig (later a c)
    → IsConfig (own_config b c)
    → IsNew Ground (later a c) none nothing g
    → IsNewWith Craft (own_config b c) (kept_in w first) k
    → IsStood c first (standing_begun c first a b g k)
begins c a b none nothing w first g k good_g good_k new_g new_k =
    let ends : Ends = (no_pair_later c first a b).ends in
    record {
      reached = begun_later c first a b good_g good_k;
      ends = record {
        ground = record {
          side = new_g.side;
          own = record { ticks = a; limits = limits_of c };
          config = new_g.config;
          node = ap (λ (n : NodeView). n.at) new_g.node;
          memories = new_g.memories;
        };
        place = w;
        craft = record {
          side = new_k.side;
          own = b;
          config = new_k.config;
          node = ap (λ (n : NodeView). n.at) new_k.node;
          memories = new_k.memories;
        };
        tickets = refl;
        upwards =
            subst (λ (xs : List (List ℕ)). AllOnTheWay ends Up xs) (sym new_g.outbox) tt;
        downwards =
            subst (λ (xs : List (List ℕ)). AllOnTheWay ends Down xs) (sym new_k.outbox) tt;
      };
    }

-- wherever the spacecraft's memories are
keeps : (c : Config) (a : ℕ) (b : Own) (none : List LptMemory) (nothing : List ℕ) (w : CallPlace)
    (first : Contents)
    (g k : End)
    (ts : List CallTurn)
    → IsConfig (later a c)
    → IsConfig (own_config b c)
    → IsNew Ground (later a c) none nothing g
    → IsNewWith Craft (own_config b c) (kept_in w first) k
    → CanStand c (standing_begun c first a b g k) ts
    → KeepsThePromise c first (stood c (standing_begun c first a b g k) ts)
keeps c a b none nothing w first g k ts good_g good_k new_g new_k can =
    let r : IsStood c first (stood c (standing_begun c first a b g k) ts) =
    stand c first (standing_begun c first a b g k) ts
    (begins c a b none nothing w first g k good_g good_k new_g new_k) can in
    record {
      ends = r.ends;
      promised =
          reached_keep c first a (stood c (standing_begun c first a b g k) ts).pair good_g
          r.reached;
    }

pub ends_of_c_keep_the_promise : EndsOfCKeepThePromise
ends_of_c_keep_the_promise c a b none nothing ms content g k ts good_g good_k new_g new_k can =
    keeps c a b none nothing InEnd (memories_told content ms) g k ts good_g good_k new_g new_k can
