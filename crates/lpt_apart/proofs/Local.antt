-- A move is of one end alone: what it makes of that end it makes of it whatever the other is, and
-- it leaves the other as it is.
use Rattle.std.proofs.Common.{◌≡◌, ap, refl, [], false, Option, Some, None}
use Rattle.lpt_apart.specs.Ends.{Ends, Do, Free, Move, Pair, pair_after, Accept, Apply, Claim, Commit, Expire, Finish, Open, Plain, Restart, Retire, Send, Tick, committed_on}
use Rattle.lpt_apart.specs.Resets.{side_of}
use Rattle.lpt_events.specs.declared.config.Config.{Config}
use Rattle.lpt_events.specs.declared.side.Side.TheVariants.{Ground, Craft}
use Rattle.lpt_events.specs.declared.worker.Worker.{Worker}
use Rattle.lpt_memory.specs.Memories.{Contents}
use Rattle.lpt_memory.specs.Readings.{Job}
use Rattle.lpt_model.specs.Tickets.{Tickets, no_tickets, ticket_of}
use Rattle.lpt_node.specs.Nodes.{NodeData}
use Rattle.lpt_packet.specs.declared.direction.Direction.TheVariants.{Up, Down}

-- what the spacecraft has
pub record Aboard : Type 0 where
  pub node : NodeData
  pub tickets : Tickets
  pub memories : Contents

abbrev pub aboard : Ends → Aboard
aboard e = record { node = e.on_craft; tickets = e.tickets; memories = e.memories }

-- two ends with nothing on the way
abbrev pair_like : NodeData → Aboard → Pair
pair_like n a = record {
  ends = record {
    on_ground = n;
    on_craft = a.node;
    tickets = a.tickets;
    memories = a.memories;
    on_the_way = [];
    log = [];
  };
  freed = λ d name. false;
}

module _ (c : Config) where
  -- what a move of ground makes of its node
  abbrev pub next_ground : Move → NodeData → NodeData
  next_ground x n =
      (pair_after c
      (pair_like n (record { node = n; tickets = no_tickets; memories = [] }))
      x).ends.on_ground

  -- what a move of the spacecraft makes of what that has
  abbrev pub next_aboard : Move → Aboard → Aboard
  next_aboard x a = aboard (pair_after c (pair_like a.node a) x).ends

  -- a worker hands in what it has
  hands_in : (e f : Ends) (w : Worker) (o : Option Job)
      → aboard e ≡ aboard f
      → aboard (committed_on c e w o) ≡ aboard (committed_on c f w o)
  hands_in e f w None same = same
  hands_in e f w (Some t) same =
      ap (λ (a : Aboard). aboard (committed_on c (pair_like a.node a).ends w (Some t))) same

  hands_in_leaves : (e : Ends) (w : Worker) (o : Option Job)
      → (committed_on c e w o).on_ground ≡ e.on_ground
  hands_in_leaves e w None = refl
  hands_in_leaves e w (Some t) = refl

  -- a move of ground
  pub record IsOfGround (p : Pair) (x : Move) : Type 0 where
    pub next : (pair_after c p x).ends.on_ground ≡ next_ground x p.ends.on_ground
    pub leaves : aboard (pair_after c p x).ends ≡ aboard p.ends

  -- a move of the spacecraft
  pub record IsOfCraft (p : Pair) (x : Move) : Type 0 where
    pub next : aboard (pair_after c p x).ends ≡ next_aboard x (aboard p.ends)
    pub leaves : (pair_after c p x).ends.on_ground ≡ p.ends.on_ground

  pub is_of_ground : (p : Pair) (x : Move) → side_of x ≡ Ground → IsOfGround p x
  is_of_ground p (Do (Open Up name m)) is = record { next = refl; leaves = refl }
  is_of_ground p (Do (Open Down name m)) is = absurd cc
  is_of_ground p (Do (Send Up name k)) is = record { next = refl; leaves = refl }
  is_of_ground p (Do (Send Down name k)) is = absurd cc
  is_of_ground p (Do (Plain source flags service subtype body)) is =
      record { next = refl; leaves = refl }
  is_of_ground p (Do (Finish Up name)) is = record { next = refl; leaves = refl }
  is_of_ground p (Do (Finish Down name)) is = absurd cc
  is_of_ground p (Do (Accept Up b)) is = absurd cc
  is_of_ground p (Do (Accept Down b)) is = record { next = refl; leaves = refl }
  is_of_ground p (Do (Tick Ground turn)) is = record { next = refl; leaves = refl }
  is_of_ground p (Do (Tick Craft turn)) is = absurd cc
  is_of_ground p (Do (Expire Ground which)) is = record { next = refl; leaves = refl }
  is_of_ground p (Do (Expire Craft which)) is = absurd cc
  is_of_ground p (Do (Claim w)) is = absurd cc
  is_of_ground p (Do (Commit w)) is = absurd cc
  is_of_ground p (Do (Apply how)) is = absurd cc
  is_of_ground p (Do (Retire Up name)) is = record { next = refl; leaves = refl }
  is_of_ground p (Do (Retire Down name)) is = absurd cc
  is_of_ground p (Do (Restart Ground)) is = record { next = refl; leaves = refl }
  is_of_ground p (Do (Restart Craft)) is = absurd cc
  is_of_ground p (Free Up name) is = absurd cc
  is_of_ground p (Free Down name) is = record { next = refl; leaves = refl }

  pub is_of_craft : (p : Pair) (x : Move) → side_of x ≡ Craft → IsOfCraft p x
  is_of_craft p (Do (Open Up name m)) is = absurd cc
  is_of_craft p (Do (Open Down name m)) is = record { next = refl; leaves = refl }
  is_of_craft p (Do (Send Up name k)) is = absurd cc
  is_of_craft p (Do (Send Down name k)) is = record { next = refl; leaves = refl }
  is_of_craft p (Do (Plain source flags service subtype body)) is = absurd cc
  is_of_craft p (Do (Finish Up name)) is = absurd cc
  is_of_craft p (Do (Finish Down name)) is = record { next = refl; leaves = refl }
  is_of_craft p (Do (Accept Up b)) is = record { next = refl; leaves = refl }
  is_of_craft p (Do (Accept Down b)) is = absurd cc
  is_of_craft p (Do (Tick Ground turn)) is = absurd cc
  is_of_craft p (Do (Tick Craft turn)) is = record { next = refl; leaves = refl }
  is_of_craft p (Do (Expire Ground which)) is = absurd cc
  is_of_craft p (Do (Expire Craft which)) is = record { next = refl; leaves = refl }
  is_of_craft p (Do (Claim w)) is = record { next = refl; leaves = refl }
  is_of_craft p (Do (Commit w)) is = record {
    next =
        hands_in p.ends (pair_like p.ends.on_craft (aboard p.ends)).ends w
        (ticket_of p.ends.tickets w) refl;
    leaves = hands_in_leaves p.ends w (ticket_of p.ends.tickets w);
  }
  is_of_craft p (Do (Apply how)) is = record { next = refl; leaves = refl }
  is_of_craft p (Do (Retire Up name)) is = absurd cc
  is_of_craft p (Do (Retire Down name)) is = record { next = refl; leaves = refl }
  is_of_craft p (Do (Restart Ground)) is = absurd cc
  is_of_craft p (Do (Restart Craft)) is = record { next = refl; leaves = refl }
  is_of_craft p (Free Up name) is = record { next = refl; leaves = refl }
  is_of_craft p (Free Down name) is = absurd cc
