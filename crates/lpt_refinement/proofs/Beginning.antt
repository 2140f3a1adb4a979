-- Where nothing has happened, the state shows the empty journal.
use Rattle.std.proofs.Common.{arith, ◌&&◌, true, if◌then◌else◌, ◌≡◌, ◌∙◌, ap, sym, refl, ℕ, [], None, Some}
use Rattle.std.specs.FinMap as maps
use Rattle.lpt_packet.specs.Names.{Name, name_cmp}
use Rattle.lpt_packet.specs.declared.direction.Direction.{Direction}
use Rattle.lpt_packet.specs.declared.direction.Direction.TheVariants.{Up, Down}
use Rattle.lpt_packet.proofs.Readings.{lt_false}
use Rattle.lpt_reception.specs.Received.{no_parts}
use Rattle.lpt_events.specs.declared.config.Config.{Config}
use Rattle.lpt_events.specs.declared.lane.Lane.{Lane}
use Rattle.lpt_events.specs.declared.lane.Lane.TheVariants.{S1}
use Rattle.lpt_events.specs.declared.side.Side.{Side}
use Rattle.lpt_events.specs.declared.side.Side.TheVariants.{Ground, Craft}
use Rattle.lpt_link.specs.Links.{empty_link, hand_of}
use Rattle.lpt_events.specs.declared.telemetry.TelemetryKind.{TelemetryKind}
use Rattle.lpt_events.specs.declared.telemetry.TelemetryKind.TheVariants.{Accepted}
use Rattle.lpt_node.specs.Counting.{counter_of, no_types}
use Rattle.lpt_node.specs.Nodes.{no_data}
use Rattle.lpt_table.specs.Tables.{Entries}
use Rattle.lpt_journal.proofs.CountLemmas.{none_open}
use Rattle.lpt_events.specs.declared.worker.Worker.{Worker}
use Rattle.lpt_events.specs.declared.worker.Worker.TheVariants.{W1, W2}
use Rattle.lpt_memory.specs.Memories.{Contents}
use Rattle.lpt_refinement.specs.Shows.{Shows, ShowsSending, ShowsTypes, ShowsReceiving, entry_of}
use Rattle.lpt_model.specs.Tickets.{no_tickets, ticket_of}
use Rattle.lpt_model.specs.State.{no_state}
use Rattle.lpt_refinement.specs.Views.{views, sending_view, receiving_view}

no_counter : (k : TelemetryKind) → counter_of no_types k ≡ 0
no_counter Accepted = refl
no_counter k = refl

-- no report was made
pub no_reports : (side : Side) → ShowsTypes side no_types []
no_reports Ground = tt
no_reports Craft = record { eleven = refl; counter = no_counter }

abbrev no_receptions : Entries
no_receptions = maps.empty

-- no reception is open
pub no_entries : (name : Name) (last : ℕ) → maps.get no_receptions name ≡ entry_of no_parts last
no_entries name last =
    maps.get-empty name_cmp name
    ∙ sym (ap (λ t. if t then Some (record { parts = no_parts; last = last }) else None) none_open)

no_sending : (c : Config) (side : Side) (d : Direction)
    → ShowsSending side (no_data c).sending (sending_view [] d)
no_sending c side d = record {
  ledger = λ name. maps.get-empty name_cmp name;
  messages = λ name. maps.get-empty name_cmp name;
  count = refl;
  types = no_reports side;
}

no_receiving : (c : Config) (d : Direction)
    → ShowsReceiving (no_data c).receiving (receiving_view c [] d)
no_receiving c d = record {
  ledger = λ name. maps.get-empty name_cmp name;
  entries = λ name. no_entries name 0;
  limit = refl;
  timeout = refl;
}

no_hand : (l : Lane) → hand_of empty_link l ≡ None
no_hand S1 = refl
no_hand l = refl

no_ticket : (w : Worker) → ticket_of no_tickets w ≡ None
no_ticket W1 = refl
no_ticket W2 = refl

-- where nothing has happened, the state shows it
pub shows_none : (c : Config) (first : Contents) → Shows (no_state c first) (views c first [])
shows_none c first = record {
  ground = record {
    sending = no_sending c Ground Up;
    receiving = no_receiving c Down;
    outgoing = refl;
    clock = refl;
    boot = refl;
  };
  craft = record {
    sending = no_sending c Craft Down;
    receiving = no_receiving c Up;
    outgoing = refl;
    clock = refl;
    boot = refl;
  };
  link = record {
    packets = refl;
    tags = refl;
    held = λ n. sym (ap (λ t. t && true) (lt_false n 0 (omega arith)));
    lost_before = λ n late. refl;
    hands = no_hand;
  };
  jobs = record { first = refl; jobs = refl };
  tickets = no_ticket;
  memories = refl;
  sizes = refl;
  opened = refl;
  released = refl;
}
