-- A state shows a view with one field changed where the state has that field changed as well.
use Rattle.std.proofs.Common.{◌≡◌, ◌∙◌, refl, ℕ, List, Option}
use Rattle.lpt_packet.specs.declared.direction.Direction.{Direction}
use Rattle.lpt_packet.specs.declared.direction.Direction.TheVariants.{Up, Down}
use Rattle.lpt_events.specs.declared.config.Config.{Config}
use Rattle.lpt_events.specs.declared.entry.Opening.{Opening}
use Rattle.lpt_events.specs.declared.entry.Release.{Release}
use Rattle.lpt_events.specs.declared.side.Side.{Side}
use Rattle.lpt_events.specs.declared.side.Side.TheVariants.{Ground, Craft}
use Rattle.lpt_events.specs.Sides.{sender_side, receiver_side}
use Rattle.lpt_events.specs.declared.worker.Worker.{Worker}
use Rattle.lpt_jobs.specs.Jobs.{Jobs}
use Rattle.lpt_memory.specs.Memories.{Contents}
use Rattle.lpt_memory.specs.Readings.{Job as Ticket}
use Rattle.lpt_link.specs.Links.{LinkData}
use Rattle.lpt_node.specs.Nodes.{Sending, Receiving, NodeData}
use Rattle.lpt_journal.specs.Journal.{History}
use Rattle.lpt_journal.specs.Jobs.{boot}
use Rattle.lpt_journal.specs.Receivers.{clock, limits}
use Rattle.lpt_refinement.specs.Shows.{Shows, ShowsEnd, ShowsLink, ShowsJobs, ShowsSending, ShowsReceiving}
use Rattle.lpt_model.specs.State.{State, end_of, with_end}
use Rattle.lpt_model.specs.Tickets.{Tickets, ticket_of}
use Rattle.lpt_refinement.specs.Views.{Views, JobsView, EndView, LinkView, SendingView, ReceivingView, view_of, with_view, views, sending_view, receiving_view}

-- ---- fields that are read

-- what is sent in a direction is shown at the end that sends in it
pub sending_at : (c : Config) (first : Contents) {s : State} (h : History) (w : Direction)
    → Shows s (views c first h)
    → ShowsSending (sender_side w) (end_of s (sender_side w)).sending (sending_view h w)
sending_at c first h Up k = k.ground.sending
sending_at c first h Down k = k.craft.sending

-- what is received in a direction is shown at the end that receives in it
pub receiving_at : (c : Config) (first : Contents) {s : State} (h : History) (w : Direction)
    → Shows s (views c first h)
    → ShowsReceiving (end_of s (receiver_side w)).receiving (receiving_view c h w)
receiving_at c first h Up k = k.craft.receiving
receiving_at c first h Down k = k.ground.receiving

-- how many messages may be open at the sending end
pub outgoing_at : (c : Config) (first : Contents) {s : State} (h : History) (d : Direction)
    → Shows s (views c first h)
    → (end_of s (sender_side d)).outgoing ≡ (limits c h (sender_side d)).outgoing
outgoing_at c first h Up k = k.ground.outgoing
outgoing_at c first h Down k = k.craft.outgoing

-- the clock of an end is shown
pub clock_at : (c : Config) (first : Contents) {s : State} (h : History) (side : Side)
    → Shows s (views c first h)
    → (end_of s side).clock ≡ clock c h side
clock_at c first h Ground k = k.ground.clock
clock_at c first h Craft k = k.craft.clock

-- the boot of an end is shown
pub boot_at : (c : Config) (first : Contents) {s : State} (h : History) (side : Side)
    → Shows s (views c first h)
    → (end_of s side).boot ≡ boot h side
boot_at c first h Ground k = k.ground.boot
boot_at c first h Craft k = k.craft.boot

-- ---- fields that change

pub with_link : {s : State} {v : Views} {x : LinkData} {y : LinkView}
    → Shows s v
    → ShowsLink x y
    → Shows (record s { link = x }) (record v { link = y })
with_link k f = record {
  ground = k.ground;
  craft = k.craft;
  link = f;
  jobs = k.jobs;
  tickets = k.tickets;
  memories = k.memories;
  sizes = k.sizes;
  opened = k.opened;
  released = k.released;
}

pub with_opened : {s : State} {v : Views} {os os' : List Opening}
    → Shows s v
    → os ≡ os'
    → Shows (record s { opened = os }) (record v { opened = os' })
with_opened k f = record {
  ground = k.ground;
  craft = k.craft;
  link = k.link;
  jobs = k.jobs;
  tickets = k.tickets;
  memories = k.memories;
  sizes = k.sizes;
  opened = f;
  released = k.released;
}

pub with_released : {s : State} {v : Views} {rs rs' : List Release}
    → Shows s v
    → rs ≡ rs'
    → Shows (record s { released = rs }) (record v { released = rs' })
with_released k f = record {
  ground = k.ground;
  craft = k.craft;
  link = k.link;
  jobs = k.jobs;
  tickets = k.tickets;
  memories = k.memories;
  sizes = k.sizes;
  opened = k.opened;
  released = f;
}

-- ground's end
pub with_ground : {s : State} {v : Views} {x : NodeData} {y : EndView}
    → Shows s v
    → ShowsEnd Ground x y
    → Shows (record s { on_ground = x }) (record v { ground = y })
with_ground k f = record {
  ground = f;
  craft = k.craft;
  link = k.link;
  jobs = k.jobs;
  tickets = k.tickets;
  memories = k.memories;
  sizes = k.sizes;
  opened = k.opened;
  released = k.released;
}

-- the spacecraft's end, its jobs among it
pub with_craft : {s : State} {v : Views} {x : NodeData} {y : EndView} {z : JobsView}
    → Shows s v
    → ShowsEnd Craft x y
    → ShowsJobs x.jobs z
    → v.jobs.sizes ≡ z.sizes
    → Shows (record s { on_craft = x }) (record v { craft = y; jobs = z })
with_craft k f g same = record {
  ground = k.ground;
  craft = f;
  link = k.link;
  jobs = g;
  tickets = k.tickets;
  memories = k.memories;
  sizes = k.sizes ∙ same;
  opened = k.opened;
  released = k.released;
}

-- the jobs that the workers have
pub with_tickets : {s : State} {v : Views} {t : Tickets} {of : Worker → Option Ticket}
    → Shows s v
    → ((w : Worker) → ticket_of t w ≡ of w)
    → Shows (record s { tickets = t }) (record v { tickets = of })
with_tickets k f = record {
  ground = k.ground;
  craft = k.craft;
  link = k.link;
  jobs = k.jobs;
  tickets = f;
  memories = k.memories;
  sizes = k.sizes;
  opened = k.opened;
  released = k.released;
}

-- the spacecraft's jobs
pub with_jobs : {s : State} {v : Views} {x : Jobs} {y : JobsView}
    → Shows s v
    → ShowsJobs x y
    → v.jobs.sizes ≡ y.sizes
    → Shows (record s { on_craft = record s.on_craft { jobs = x } }) (record v { jobs = y })
with_jobs k f same =
    let e = k.craft in
    with_craft k
    (record {
      sending = e.sending;
      receiving = e.receiving;
      outgoing = e.outgoing;
      clock = e.clock;
      boot = e.boot;
    })
    f same

-- what an end sends
pub with_sending : {s : State} {v : Views} (side : Side) {x : Sending} {y : SendingView}
    → Shows s v
    → ShowsSending side x y
    → Shows (with_end s side (record (end_of s side) { sending = x }))
    (with_view v side (record (view_of v side) { sending = y }))
with_sending Ground k f =
    let e = k.ground in
    with_ground k
    (record {
      sending = f;
      receiving = e.receiving;
      outgoing = e.outgoing;
      clock = e.clock;
      boot = e.boot;
    })
with_sending Craft k f =
    let e = k.craft in
    with_craft k
    (record {
      sending = f;
      receiving = e.receiving;
      outgoing = e.outgoing;
      clock = e.clock;
      boot = e.boot;
    })
    k.jobs refl

-- what an end receives
pub with_receiving : {s : State} {v : Views} (side : Side) {x : Receiving} {y : ReceivingView}
    → Shows s v
    → ShowsReceiving x y
    → Shows (with_end s side (record (end_of s side) { receiving = x }))
    (with_view v side (record (view_of v side) { receiving = y }))
with_receiving Ground k f =
    let e = k.ground in
    with_ground k (record {
      sending = e.sending;
      receiving = f;
      outgoing = e.outgoing;
      clock = e.clock;
      boot = e.boot;
    })
with_receiving Craft k f =
    let e = k.craft in
    with_craft k (record {
      sending = e.sending;
      receiving = f;
      outgoing = e.outgoing;
      clock = e.clock;
      boot = e.boot;
    })
    k.jobs refl

-- an end's clock
pub with_clock : {s : State} {v : Views} (side : Side) {n n' : ℕ}
    → Shows s v
    → n ≡ n'
    → Shows (with_end s side (record (end_of s side) { clock = n }))
    (with_view v side (record (view_of v side) { clock = n' }))
with_clock Ground k f =
    let e = k.ground in
    with_ground k
    (record {
      sending = e.sending;
      receiving = e.receiving;
      outgoing = e.outgoing;
      clock = f;
      boot = e.boot;
    })
with_clock Craft k f =
    let e = k.craft in
    with_craft k
    (record {
      sending = e.sending;
      receiving = e.receiving;
      outgoing = e.outgoing;
      clock = f;
      boot = e.boot;
    })
    k.jobs refl
