-- What a restart forgets: what was sent, and that a message was finished.
use Rattle.std.proofs.Common.{◌≡◌, ◌∙◌, ap, sym, refl, ℕ, Bool, true, false, List, Option, Some, None, is_some}
use Rattle.std.specs.FinMap.{get, get-insert, get_tied, insert, keys, contains_key-keys}
use Rattle.std.specs.Ordering.{eq_by_cmp, is_eq}
use Rattle.std.specs.declared.cmp.Ordering.{Ordering}
use Rattle.std.specs.declared.cmp.Ordering.TheVariants.{Less, Equal, Greater}
use Rattle.std.specs.Prelude.{cond}
use Rattle.lpt_packet.specs.Names.{Name, name_cmp}
use Rattle.lpt_packet.proofs.NameLemmas.{name_cmp_total}
use Rattle.lpt_ledger.specs.Marks.{Mark, Marks, Opened, Shut, all_closed}
use Rattle.lpt_ledger.specs.Runs.{closed_by as closed_runs, runs_of, runs_of_names}
use Rattle.lpt_ledger.specs.States.{state_of}
use Rattle.lpt_ledger.proofs.RisingLemmas.{keys_are, keys_rise}
use Rattle.lpt_ledger.proofs.RunsLemmas.{closed_by-runs_of}
use Rattle.lpt_node.specs.Nodes.{NodeData, Sending, message_at}
use Rattle.lpt_node.specs.Restarts.{node_restarted}
use Rattle.lpt_node.specs.Sending.{sender_closed, closed_by, closed_in, sent_of}
use Rattle.lpt_apart.specs.Resets.{SendingsAreForgotten}
use Rattle.lpt_events.specs.declared.config.Config.{Config}
use Rattle.lpt_events.specs.declared.side.Side.{Side}
use Rattle.lpt_events.specs.declared.side.Side.TheVariants.{Ground, Craft}
use Rattle.lpt_packet.specs.declared.direction.Direction.TheVariants.{Up, Down}

-- an order that says so ties
ties : (r : Ordering) → is_eq r ≡ true → r ≡ Equal
ties Less is = absurd cc
ties Equal is = refl
ties Greater is = absurd cc

-- ---- what is finished

-- names in use stay so where one of them is marked anew
still : (m : Marks) (name q : Name) (x y : Mark)
    → get m name ≡ Some x
    → is_some (get (insert m name y) q) ≡ is_some (get m q)
still m name q x y has =
    ap is_some (get-insert name_cmp_total m name y q) ∙ go (eq_by_cmp name_cmp q name) refl where
      go : (t : Bool)
          → eq_by_cmp name_cmp q name ≡ t
          → is_some (cond t (Some y) (get m q)) ≡ is_some (get m q)
      go true is =
          let tied : get m name ≡ get m q =
          get_tied name_cmp_total m q name (ties (name_cmp q name) is) in
          sym (ap is_some (sym tied ∙ has))
      go false is = refl

-- so do their runs
runs_still : (m : Marks) (name : Name) (x y : Mark)
    → get m name ≡ Some x
    → runs_of (insert m name y) ≡ runs_of m
runs_still m name x y has =
    ap runs_of_names (keys_are (insert m name y) (keys m) (keys_rise m)
    (λ q. still m name q x y has ∙ contains_key-keys m q))

pub finished_runs : (s : Sending) (name : Name)
    → runs_of (closed_in s name).ledger ≡ runs_of s.ledger
finished_runs s name = go (get s.ledger name) refl where
  go : (o : Option Mark)
      → get s.ledger name ≡ o
      → runs_of (closed_by (state_of o) s name).ledger ≡ runs_of s.ledger
  go None is = refl
  go (Some Opened) is = runs_still s.ledger name Opened Shut is
  go (Some Shut) is = refl

-- a restart comes to the same
pub finished_forgotten : (d : NodeData) (name : Name) → node_restarted (sender_closed d name)
    ≡ node_restarted d
finished_forgotten d name =
    let same : all_closed (closed_in d.sending name).ledger ≡ all_closed d.sending.ledger =
    sym (closed_by-runs_of (closed_in d.sending name).ledger)
    ∙ ap closed_runs (finished_runs d.sending name)
    ∙ closed_by-runs_of d.sending.ledger in
    λ i. record (node_restarted d) {
      sending = record (node_restarted d).sending { ledger = same i };
    }

-- ---- what is sent

sent_forgotten : (s : Side) (c : Config) (d : NodeData) (name : Name) (k : ℕ)
    (o : Option (List ℕ))
    → node_restarted (sent_of s c d name k o).0 ≡ node_restarted d
sent_forgotten s c d name k None = refl
sent_forgotten s c d name k (Some m) = refl

pub sendings_are_forgotten : SendingsAreForgotten
sendings_are_forgotten c p Up name k source flags service subtype body = (
  record {
    node =
        sent_forgotten Ground c p.ends.on_ground name k (message_at p.ends.on_ground name);
    tickets = refl;
    memories = refl;
  },
  record { node = refl; tickets = refl; memories = refl },
  record {
    node = finished_forgotten p.ends.on_ground name;
    tickets = refl;
    memories = refl;
  },
)
sendings_are_forgotten c p Down name k source flags service subtype body = (
  record {
    node = sent_forgotten Craft c p.ends.on_craft name k (message_at p.ends.on_craft name);
    tickets = refl;
    memories = refl;
  },
  record { node = refl; tickets = refl; memories = refl },
  record { node = finished_forgotten p.ends.on_craft name; tickets = refl; memories = refl },
)
