-- The view after a delivery: what its receiver, the link and the releases have.
use Rattle.std.proofs.Common.{◌≡◌, ℕ, ◌||◌, if◌then◌else◌, List, length, map, Option, None}
use Rattle.std.specs.List.{filter}
use Rattle.lpt_packet.specs.declared.direction.Direction.{Direction}
use Rattle.lpt_packet.specs.declared.direction.Direction.TheVariants.{Up, Down}
use Rattle.lpt_packet.specs.Names.{Name}
use Rattle.lpt_events.specs.declared.lane.Lane.{Lane}
use Rattle.lpt_events.specs.Sides.{receiver_side}
use Rattle.lpt_node.specs.declared.accepted.Accepted.{Accepted}
use Rattle.lpt_events.specs.declared.config.Config.{Config}
use Rattle.lpt_events.specs.declared.entry.Release.{Release}
use Rattle.lpt_events.specs.declared.outcome.Outcome.{Outcome}
use Rattle.lpt_events.specs.declared.side.Side.TheVariants.{Ground, Craft}
use Rattle.lpt_events.specs.Arrivals.{Arrival}
use Rattle.lpt_node.specs.Nodes.{NodeData, Receiving}
use Rattle.lpt_events.specs.declared.reply.Answer.TheVariants.{Delivered}
use Rattle.lpt_journal.specs.Jobs.{jobs, went_up}
use Rattle.lpt_journal.specs.Journal.{History, SentPacket, with_all}
use Rattle.lpt_journal.specs.Link.{sent, tags, is_lost}
use Rattle.lpt_journal.specs.Receivers.{heard, heard_now, ends, takes, is_closed, last_tick, clock, limits}
use Rattle.lpt_journal.specs.Releases.{releases, released_now}
use Rattle.lpt_journal.specs.Replies.{outcome_puts}
use Rattle.lpt_journal.specs.Senders.{current, is_over, sender_of, notes_abort, packets_made, octets_put}
use Rattle.lpt_model.specs.State.{State, end_of, with_end, put_report, add_release}
use Rattle.lpt_refinement.specs.Shows.{Shows, ShowsReceiving}
use Rattle.lpt_refinement.specs.Views.{Views, ReceivingView, views, jobs_view, view_of, with_view}
use Rattle.lpt_refinement.proofs.Fields.{with_released, with_receiving}
use Rattle.lpt_memory.specs.Memories.{Contents}

-- ---- what is shown

-- the hands of all lanes
abbrev pub Hands : Type 0
Hands = Lane → Option ℕ

-- what a direction's receiver has after an outcome
abbrev pub received : Config → History → Direction → Outcome → Arrival → ReceivingView
received c h w o a = record {
  parts = λ name. heard_now (Delivered o) a name (heard c h w name);
  closed = λ name. ends (Delivered o) name || is_closed h w name;
  last = λ name.
      if takes (Delivered o) name then clock c h (receiver_side w) else last_tick c h w name;
  limit = (limits c h (receiver_side w)).receptions;
  timeout = (limits c h (receiver_side w)).timeout;
}

-- the view before a delivery, with an empty hand
abbrev pub dropped_view : Config → Contents → History → Hands → Views
dropped_view c first h hands =
    record (views c first h) {
      link = record { sent = sent h; tags = tags h; lost = is_lost h; hands = hands };
    }

-- the same, with what both ends have sent after an outcome that put these packets
abbrev pub noted : Config → Contents → History → Hands → Outcome → List SentPacket → Views
noted c first h hands o ps =
    let v = dropped_view c first h hands in
    record v {
      ground = record v.ground {
        sending = record {
          senders = λ name.
              sender_of (current h Up name) (notes_abort (Delivered o) name || is_over h Up name);
          made = with_all (packets_made h Up) (octets_put ps Up);
        };
      };
      craft = record v.craft {
        sending =
            record v.craft.sending { made = with_all (packets_made h Down) (octets_put ps Down) };
      };
    }

-- the view after a delivery in this direction, with this outcome and these packets
abbrev pub delivered_view : Config
    → Contents
    → History
    → Direction
    → Hands
    → Arrival
    → Outcome
    → List SentPacket
    → Views
delivered_view c first h w hands a o ps =
    let v = noted c first h hands o ps in
    let side = receiver_side w in
    let out = released_now (length h) w (Delivered o) (heard c h w) a in
    record (with_view v side (record (view_of v side) { receiving = received c h w o a })) {
      link = record {
        sent = with_all (sent h) ps;
        tags = with_all (tags h) (map (λ p. None) ps);
        lost = is_lost h;
        hands = hands;
      };
      jobs = record (jobs_view c first h) {
        messages = map (λ r. r.message) (with_all (jobs c h) (filter (λ r. went_up r.of) out));
      };
      released = with_all (releases c h) out;
    }

-- the state after it, by what the receiver made of it
abbrev pub received_as : ℕ → Direction → State → NodeData × Accepted → State
received_as place w s x = record (with_end s (receiver_side w) x.0) {
  link = put_report s.link x.1.packet;
  released = add_release s.released place w x.1.outcome x.1.released;
}

-- the outcome of a delivery, with the report that it puts
abbrev pub outcome_view : Config
    → Contents
    → History
    → Direction
    → Hands
    → Arrival
    → Outcome
    → Views
outcome_view c first h w hands a o =
    delivered_view c first h w hands a o (outcome_puts c h (receiver_side w) o)

-- ---- the receiver and the releases

-- only the receiver and the releases change; where an outcome is quiet, they are as they were
pub receives : {s : State} {v : Views} (w : Direction)
    {x : Receiving} {y : ReceivingView} {rs rs' : List Release}
    → Shows s v
    → ShowsReceiving x y
    → rs ≡ rs'
    → Shows
    (record (with_end s (receiver_side w) (record (end_of s (receiver_side w)) { receiving = x })) {
      link = s.link;
      released = rs;
    })
    (record
    (with_view v (receiver_side w) (record (view_of v (receiver_side w)) { receiving = y })) {
      link = v.link;
      jobs = v.jobs;
      released = rs';
    })
receives Up k f e = with_released (with_receiving Craft k f) e
receives Down k f e = with_released (with_receiving Ground k f) e

abbrev pub release : ℕ → Option (Direction × Name) → List ℕ → Release
release place of message = record { place = place; of = of; message = message }
