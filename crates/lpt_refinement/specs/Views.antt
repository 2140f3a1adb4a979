-- All that a journal says of both ends, of the link and of what was opened and released.
use Rattle.std.specs.Prelude.{ℕ, Bool, List, map, Option}
use Rattle.lpt_packet.specs.declared.direction.Direction.{Direction}
use Rattle.lpt_packet.specs.declared.direction.Direction.TheVariants.{Up, Down}
use Rattle.lpt_packet.specs.Names.{Name}
use Rattle.lpt_memory.specs.Meanings.{Sizes}
use Rattle.lpt_memory.specs.Memories.{Contents, sizes_of}
use Rattle.lpt_memory.specs.Readings.{Job}
use Rattle.lpt_reception.specs.Received.{Parts}
use Rattle.lpt_events.specs.declared.config.Config.{Config}
use Rattle.lpt_events.specs.declared.entry.Opening.{Opening}
use Rattle.lpt_events.specs.declared.entry.Release.{Release}
use Rattle.lpt_events.specs.declared.lane.Lane.{Lane}
use Rattle.lpt_events.specs.declared.side.Side.{Side}
use Rattle.lpt_events.specs.declared.side.Side.TheVariants.{Ground, Craft}
use Rattle.lpt_events.specs.declared.worker.Worker.{Worker}
use Rattle.lpt_journal.specs.Jobs.{boot, jobs, jobs_claimed, jobs_applied, ticket, is_committed, memories}
use Rattle.lpt_journal.specs.Journal.{SentPacket, History}
use Rattle.lpt_journal.specs.Link.{sent, tags, is_lost}
use Rattle.lpt_journal.specs.Hands.{hand}
use Rattle.lpt_events.specs.Sides.{receiver_side}
use Rattle.lpt_journal.specs.Receivers.{heard, is_closed, last_tick, clock, limits}
use Rattle.lpt_journal.specs.Releases.{releases}
use Rattle.lpt_journal.specs.Senders.{Sender, sender, packets_made, opened}

-- ---- views

-- the state of each sender of an end, and the octets of all packets that the end has made
pub record SendingView : Type 0 where
  pub senders : Name → Sender
  pub made : List (List ℕ)

-- of each transaction that an end receives: the kept parts, whether it is closed, the last tick;
-- how many receptions may be open, and the timeout
pub record ReceivingView : Type 0 where
  pub parts : Name → Parts
  pub closed : Name → Bool
  pub last : Name → ℕ
  pub limit : ℕ
  pub timeout : ℕ

-- one end; so many messages may be open to be sent; its clock is in ticks, and its boot says how
-- many times it was restarted
pub record EndView : Type 0 where
  pub sending : SendingView
  pub receiving : ReceivingView
  pub outgoing : ℕ
  pub clock : ℕ
  pub boot : ℕ

-- the packets that were put on the link, of which transaction each is a part, which of them were
-- lost, and the lanes' hands
pub record LinkView : Type 0 where
  pub sent : List SentPacket
  pub tags : List (Option Name)
  pub lost : ℕ → Bool
  pub hands : Lane → Option ℕ

-- the spacecraft's boot; the messages of its jobs, of which so many were executed and claimed;
-- which of them were committed; and for which APID and sizes of memories they are read
pub record JobsView : Type 0 where
  pub boot : ℕ
  pub messages : List (List ℕ)
  pub applied : ℕ
  pub claimed : ℕ
  pub committed : ℕ → Bool
  pub apid : ℕ
  pub sizes : Sizes

pub record Views : Type 0 where
  pub ground : EndView
  pub craft : EndView
  pub link : LinkView
  pub jobs : JobsView
  pub tickets : Worker → Option Job
  pub memories : Contents
  pub opened : List Opening
  pub released : List Release

-- ---- what a journal says

-- what is sent in a direction
abbrev pub sending_view : History → Direction → SendingView
sending_view h d = record { senders = sender h d; made = packets_made h d }

-- what is received in a direction
abbrev pub receiving_view : Config → History → Direction → ReceivingView
receiving_view c h d = record {
  parts = heard c h d;
  closed = is_closed h d;
  last = last_tick c h d;
  limit = (limits c h (receiver_side d)).receptions;
  timeout = (limits c h (receiver_side d)).timeout;
}

-- the jobs
abbrev pub jobs_view : Config → Contents → History → JobsView
jobs_view c first h = record {
  boot = boot h Craft;
  messages = map (λ r. r.message) (jobs c h);
  applied = jobs_applied h;
  claimed = jobs_claimed h;
  committed = is_committed h;
  apid = c.apid;
  sizes = sizes_of first;
}

-- all of it
abbrev pub views : Config → Contents → History → Views
views c first h = record {
  ground = record {
    sending = sending_view h Up;
    receiving = receiving_view c h Down;
    outgoing = (limits c h Ground).outgoing;
    clock = clock c h Ground;
    boot = boot h Ground;
  };
  craft = record {
    sending = sending_view h Down;
    receiving = receiving_view c h Up;
    outgoing = (limits c h Craft).outgoing;
    clock = clock c h Craft;
    boot = boot h Craft;
  };
  link = record { sent = sent h; tags = tags h; lost = is_lost h; hands = hand h };
  jobs = jobs_view c first h;
  tickets = ticket c h;
  memories = memories c first h;
  opened = opened h;
  released = releases c h;
}

-- ---- one end

-- the end of a side
abbrev pub view_of : Views → Side → EndView
view_of v Ground = v.ground
view_of v Craft = v.craft

-- the views with this end
abbrev pub with_view : Views → Side → EndView → Views
with_view v Ground y = record v { ground = y }
with_view v Craft y = record v { craft = y }
