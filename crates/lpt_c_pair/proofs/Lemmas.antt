-- Refusals that don't refuse, and ends that became others.
use Rattle.std.proofs.Common.{◌≡◌, ◌∙◌, ap, sym, refl, ℕ, Bool, true, false, if◌then◌else◌, List, Option, Some, None, is_some}
use Rattle.std.specs.FinMap as maps
use Rattle.lpt_apart.specs.Ends.{Pair}
use Rattle.lpt_c_end.specs.Changes.{IsFixed}
use Rattle.lpt_c_end.specs.Codes.{clock_start, node_code}
use Rattle.lpt_c_end.specs.Refusals.{sending_refusal}
use Rattle.lpt_c_end.specs.declared.end.End.{End}
use Rattle.lpt_c_end.specs.Kept.{memories_refusal, sizes_in}
use Rattle.lpt_c_pair.specs.Outboxes.{AllOnTheWay}
use Rattle.lpt_c_pair.specs.Pairs.{AreEndsOf, CallPlace, InEnd, WithProgram, kept_in}
use Rattle.lpt_packet.specs.declared.direction.Direction.{Direction}
use Rattle.lpt_packet.specs.declared.direction.Direction.TheVariants.{Up, Down}
use Rattle.lpt_packet.specs.Names.{Name}
use Rattle.lpt_events.specs.Lanes.{same_direction}
use Rattle.lpt_events.specs.declared.config.Config.{Config}
use Rattle.lpt_events.specs.declared.side.Side.{Side}
use Rattle.lpt_jobs.specs.Jobs.{Head, NoJob, NotReady, Ready}
use Rattle.lpt_ledger.specs.States.{state_at}
use Rattle.lpt_ledger.specs.declared.state.State.{State}
use Rattle.lpt_ledger.specs.declared.state.State.TheVariants as known
use Rattle.lpt_memory.specs.Memories.{Contents, sizes_of}
use Rattle.lpt_memory.specs.Readings.{Source}
use Rattle.lpt_node.specs.Jobs.{refusal_apply_of}
use Rattle.lpt_node.specs.Nodes.{NodeData, direction_from}
use Rattle.lpt_node.specs.Restarts.{name_state, received_state, name_retired}
use Rattle.lpt_node.specs.declared.fault.NodeFault.{NodeFault}
use Rattle.lpt_node.proofs.RestartLemmas.{retired-free}
use Rattle.lpt_model.specs.Tickets.{no_tickets}

-- ---- refusals

-- a node that has no fault refuses nothing
pub no_fault : (o : Option NodeFault) → node_code o ≡ None → o ≡ None
no_fault None e = refl
no_fault (Some fault) e = absurd cc

-- a test that refuses doesn't hold where nothing is refused
pub not_refused : (b : Bool) (code : ℕ) (o : Option ℕ)
    → (if b then Some code else o) ≡ None
    → o ≡ None
not_refused true code o e = absurd cc
not_refused false code o e = e

-- a clock that isn't refused to be set back can be
pub can_back : (b : Bool) → (if b then None else Some clock_start) ≡ None → b ≡ true
can_back true e = refl
can_back false e = absurd cc

-- where packets may wait, what isn't refused wasn't before
pub not_unsent : (o : Option ℕ) (packets : List (List ℕ)) → sending_refusal o packets ≡ None
    → o ≡ None
not_unsent None packets e = refl
not_unsent (Some code) packets e = absurd cc

-- a request whose execution isn't refused was read
pub record IsRead (h : Head) : Type 0 where
  pub read : Source
  pub is : h ≡ Ready read

pub was_read : (h : Head) → refusal_apply_of h ≡ None → IsRead h
was_read NoJob none = absurd cc
was_read NotReady none = absurd cc
was_read (Ready r) none = record { read = r; is = refl }

-- ---- names

-- a name that is free where it is received has no mark
free_mark : (t : Bool) (s : State)
    → (if t then known.Open else s) ≡ known.Free
    → s ≡ known.Free
free_mark true s is = absurd cc
free_mark false s is = is

-- to free a name that is free changes nothing
pub free_stays : (s : Side) (d : NodeData) (way : Direction) (name : Name)
    → name_state s d way name ≡ known.Free
    → name_retired s d way name ≡ d
free_stays s d way name is = go (same_direction way (direction_from s)) is where
  go : (t : Bool)
      → (if t then state_at d.sending.ledger name else received_state d.receiving name)
      ≡ known.Free
      → (if t
      then record d {
        sending = record d.sending { ledger = maps.remove d.sending.ledger name };
      }
      else record d {
        receiving = record d.receiving { ledger = maps.remove d.receiving.ledger name };
      }) ≡ d
  go true is = λ i. record d {
    sending = record d.sending { ledger = sym (retired-free d.sending.ledger name is) i };
  }
  go false is =
      let free : state_at d.receiving.ledger name ≡ known.Free =
      free_mark (is_some (maps.get d.receiving.entries name))
      (state_at d.receiving.ledger name) is in
      λ i. record d {
        receiving = record d.receiving {
          ledger = sym (retired-free d.receiving.ledger name free) i;
        };
      }

-- ---- memories

-- an end knows their sizes wherever they are
pub sizes_kept : (w : CallPlace) (ms : Contents) → sizes_in (kept_in w ms) ≡ Some (sizes_of ms)
sizes_kept InEnd ms = refl
sizes_kept WithProgram ms = refl

-- what needs no octets of them isn't refused wherever they are
pub refusal_kept : (w : CallPlace) (ms : Contents) (o : Option ℕ)
    → memories_refusal (kept_in w ms) o ≡ o
refusal_kept InEnd ms o = refl
refusal_kept WithProgram ms o = refl

-- ---- ends

-- ground's end became another
pub ground_becomes : (c : Config) (p q : Pair) (g new k : End)
    → AreEndsOf c p g k
    → IsFixed g new
    → new.node.at ≡ q.ends.on_ground
    → q.ends.on_craft ≡ p.ends.on_craft
    → q.ends.memories ≡ p.ends.memories
    → q.ends.tickets ≡ p.ends.tickets
    → AllOnTheWay q.ends Up new.outbox.items
    → AllOnTheWay q.ends Down k.outbox.items
    → AreEndsOf c q new k
ground_becomes c p q g new k are fixed node craft memories tickets up down = record {
  ground = record {
    side = fixed.side ∙ are.ground.side;
    own = are.ground.own;
    config = fixed.config ∙ are.ground.config;
    node = node;
    memories = fixed.memories ∙ are.ground.memories;
  };
  place = are.place;
  craft = record {
    side = are.craft.side;
    own = are.craft.own;
    config = are.craft.config;
    node = are.craft.node ∙ sym craft;
    memories = are.craft.memories ∙ ap (kept_in are.place) (sym memories);
  };
  tickets = tickets ∙ are.tickets;
  upwards = up;
  downwards = down;
}

-- the spacecraft's end became another
pub craft_becomes : (c : Config) (p q : Pair) (g k new : End)
    (are : AreEndsOf c p g k)
    → new.side ≡ k.side
    → new.config ≡ k.config
    → new.node.at ≡ q.ends.on_craft
    → q.ends.on_ground ≡ p.ends.on_ground
    → new.memories ≡ kept_in are.place q.ends.memories
    → q.ends.tickets ≡ no_tickets
    → AllOnTheWay q.ends Up g.outbox.items
    → AllOnTheWay q.ends Down new.outbox.items
    → AreEndsOf c q g new
craft_becomes c p q g k new are side config node on_ground memories tickets up down = record {
  ground = record {
    side = are.ground.side;
    own = are.ground.own;
    config = are.ground.config;
    node = are.ground.node ∙ sym on_ground;
    memories = are.ground.memories;
  };
  place = are.place;
  craft = record {
    side = side ∙ are.craft.side;
    own = are.craft.own;
    config = config ∙ are.craft.config;
    node = node;
    memories = memories;
  };
  tickets = tickets;
  upwards = up;
  downwards = down;
}

-- the spacecraft's end became another, with the same memories
pub craft_fixed : (c : Config) (p q : Pair) (g k new : End)
    → AreEndsOf c p g k
    → IsFixed k new
    → new.node.at ≡ q.ends.on_craft
    → q.ends.on_ground ≡ p.ends.on_ground
    → q.ends.memories ≡ p.ends.memories
    → q.ends.tickets ≡ p.ends.tickets
    → AllOnTheWay q.ends Up g.outbox.items
    → AllOnTheWay q.ends Down new.outbox.items
    → AreEndsOf c q g new
craft_fixed c p q g k new are fixed node on_ground memories tickets up down =
    craft_becomes c p q g k new are fixed.side fixed.config node on_ground
    (fixed.memories ∙ are.craft.memories ∙ ap (kept_in are.place) (sym memories))
    (tickets ∙ are.tickets) up down
