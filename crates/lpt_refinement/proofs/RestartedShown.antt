-- A node is restarted: the longer journal.
use Rattle.std.proofs.Common.{◌≡◌, ◌∙◌, ap, refl, ℕ, ◌+◌, Bool, true, false, [], ◌∷◌, Option, Some, None}
use Rattle.std.specs.FinMap as maps
use Rattle.lpt_packet.specs.declared.direction.Direction.{Direction}
use Rattle.lpt_packet.specs.declared.direction.Direction.TheVariants.{Up, Down}
use Rattle.lpt_packet.specs.Names.{name_cmp}
use Rattle.lpt_memory.specs.Memories.{Contents}
use Rattle.lpt_ledger.specs.Marks.{shut_mark, all_closed}
use Rattle.lpt_ledger.proofs.ClosingLemmas.{get-all_closed}
use Rattle.lpt_events.specs.declared.config.Config.{Config}
use Rattle.lpt_events.specs.declared.entry.Opening.{Opening}
use Rattle.lpt_acts.specs.Acts.{Restart, Limits}
use Rattle.lpt_events.specs.declared.side.Side.{Side}
use Rattle.lpt_events.specs.declared.side.Side.TheVariants.{Ground, Craft}
use Rattle.lpt_node.specs.Restarts.{node_restarted, node_within}
use Rattle.lpt_node.specs.Counting.{no_types}
use Rattle.lpt_node.specs.Nodes.{NodeData, Sending, Receiving}
use Rattle.lpt_journal.specs.Jobs.{boot}
use Rattle.lpt_journal.specs.Journal.{History}
use Rattle.lpt_journal.specs.Receivers.{clock, is_closed, last_tick, limits}
use Rattle.lpt_journal.specs.Replies.{entry}
use Rattle.lpt_journal.specs.Senders.{sender_of, current, is_over}
use Rattle.lpt_reception.specs.Received.{no_parts}
use Rattle.lpt_refinement.specs.Shows.{Shows, ShowsEnd, ShowsSending, ShowsReceiving, mark_of, message_of}
use Rattle.lpt_model.specs.State.{State, after_restart}
use Rattle.lpt_refinement.specs.Views.{SendingView, ReceivingView, views, sending_view, receiving_view, EndView}
use Rattle.lpt_refinement.proofs.Beginning.{no_entries, no_reports}
use Rattle.lpt_refinement.proofs.Fields.{with_ground, with_craft}

-- what is sent in a direction once all senders are closed, and nothing is made
abbrev shut_view : History → Direction → SendingView
shut_view h d = record { senders = λ name. sender_of (current h d name) true; made = [] }

mark_shut : (o : Option Opening) (over : Bool)
    → shut_mark (mark_of (sender_of o over)) ≡ mark_of (sender_of o true)
mark_shut None over = refl
mark_shut (Some o) true = refl
mark_shut (Some o) false = refl

no_message : (o : Option Opening) → None ≡ message_of (sender_of o true)
no_message None = refl
no_message (Some o) = refl

-- all senders are closed, and the counts begin at 0
shut_shown : {side : Side} {x : Sending} (h : History) (d : Direction)
    → ShowsSending side x (sending_view h d)
    → ShowsSending side
    (record { ledger = all_closed x.ledger; messages = maps.empty; count = 0; types = no_types })
    (shut_view h d)
shut_shown {side = side} {x = x} h d k = record {
  ledger = λ name.
      get-all_closed x.ledger name
      ∙ ap shut_mark (k.ledger name)
      ∙ mark_shut (current h d name) (is_over h d name);
  messages = λ name. maps.get-empty name_cmp name ∙ no_message (current h d name);
  count = refl;
  types = no_reports side;
}

-- what is received in a direction once all receptions are dropped
abbrev dropped_view : Config → History → Direction → ReceivingView
dropped_view c h d =
    record (receiving_view c h d) { parts = λ name. no_parts }

-- all receptions are dropped
dropped_shown : {x : Receiving} (c : Config) (h : History) (d : Direction)
    → ShowsReceiving x (receiving_view c h d)
    → ShowsReceiving (record x { entries = maps.empty }) (dropped_view c h d)
dropped_shown c h d k = record {
  ledger = k.ledger;
  entries = λ name. no_entries name (last_tick c h d name);
  limit = k.limit;
  timeout = k.timeout;
}

-- an end that is restarted, which sends in the first direction and receives in the other
anew_shown : {side : Side} {x : NodeData} (c : Config) (h : History) (out back : Direction)
    (outgoing clock boot : ℕ)
    → ShowsEnd side x (record {
      sending = sending_view h out;
      receiving = receiving_view c h back;
      outgoing = outgoing;
      clock = clock;
      boot = boot;
    })
    → ShowsEnd side (node_restarted x) (record {
      sending = shut_view h out;
      receiving = dropped_view c h back;
      outgoing = outgoing;
      clock = clock;
      boot = boot + 1;
    })
anew_shown c h out back outgoing clock boot k = record {
  sending = shut_shown h out k.sending;
  receiving = dropped_shown c h back k.receiving;
  outgoing = k.outgoing;
  clock = k.clock;
  boot = ap (λ n. n + 1) k.boot;
}

-- an end within other limits
pub limited_shown : {side : Side} {x : NodeData} {y : EndView} (l : Limits)
    → ShowsEnd side x y
    → ShowsEnd side (node_within l x) (record y {
      receiving = record y.receiving { limit = l.receptions; timeout = l.timeout };
      outgoing = l.outgoing;
    })
limited_shown l k = record {
  sending = k.sending;
  receiving = record {
    ledger = k.receiving.ledger;
    entries = k.receiving.entries;
    limit = refl;
    timeout = refl;
  };
  outgoing = refl;
  clock = k.clock;
  boot = k.boot;
}

pub restarted_shown : (c : Config) (first : Contents) (s : State) (h : History) (side : Side)
    → Shows s (views c first h)
    → Shows (after_restart s side).0 (views c first (entry c first h (Restart side) ∷ h))
restarted_shown c first s h Ground k =
    with_ground k
    (anew_shown c h Up Down (limits c h Ground).outgoing (clock c h Ground) (boot h Ground)
    k.ground)
restarted_shown c first s h Craft k =
    with_craft k
    (anew_shown c h Down Up (limits c h Craft).outgoing (clock c h Craft) (boot h Craft) k.craft)
    (record { first = refl; jobs = refl }) refl
