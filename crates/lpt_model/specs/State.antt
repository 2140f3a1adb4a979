-- The two ends and the link between them as plain data, and what each act does to them. Each step
-- is one of an end's or of the link's.
use Rattle.std.specs.Prelude.{◌≡◌, ℕ, Bool, true, false, not, ◌&&◌, List, [], ◌∷◌, ◌++◌, length, IfSome, IsTrue, Option, Some, None, is_some}
use Rattle.std.specs.Option.{option_map, option_map_or}
use Rattle.std.specs.FinMap as maps
use Rattle.lpt_packet.specs.declared.direction.Direction.{Direction}
use Rattle.lpt_packet.specs.declared.direction.Direction.TheVariants.{Up, Down}
use Rattle.lpt_packet.specs.Names.{Name}
use Rattle.lpt_part.specs.Splitting.{part_count}
use Rattle.lpt_link.specs.declared.fault.LinkFault.{LinkFault}
use Rattle.lpt_link.specs.declared.fault.LinkFault.TheVariants as link
use Rattle.lpt_events.specs.declared.lane.Lane.{Lane}
use Rattle.lpt_link.specs.declared.packet.LinkPacket.{LinkPacket}
use Rattle.lpt_events.specs.Lanes.{lane_direction}
use Rattle.lpt_link.specs.Links.{LinkData, empty_link, after_put, after_lose, after_take as link_after_take, after_drop, holds, packet_in_hand, refusal_lose, refusal_take, refusal_drop}
use Rattle.lpt_node.specs.declared.accepted.Accepted.{Accepted}
use Rattle.lpt_events.specs.declared.config.Config.{Config}
use Rattle.lpt_node.specs.declared.expired.Expired.{Expired as Ended}
use Rattle.lpt_events.specs.declared.outcome.Outcome.{Outcome}
use Rattle.lpt_events.specs.declared.outcome.Outcome.TheVariants.{Released}
use Rattle.lpt_events.specs.declared.side.Side.{Side}
use Rattle.lpt_events.specs.declared.side.Side.TheVariants.{Ground, Craft}
use Rattle.lpt_ledger.specs.declared.state.State.{State as Known}
use Rattle.lpt_ledger.specs.declared.state.State.TheVariants as known
use Rattle.lpt_ledger.specs.States.{state_at}
use Rattle.lpt_node.specs.Accepting.{packet_accepted}
use Rattle.lpt_node.specs.Restarts.{name_retired, node_restarted}
use Rattle.lpt_node.specs.Faults.{node_fault}
use Rattle.lpt_events.specs.Arrivals.{Arrival, NotRead, arrival_in}
use Rattle.lpt_events.specs.declared.worker.Worker.{Worker}
use Rattle.lpt_memory.specs.Memories.{Contents, sizes_of}
use Rattle.lpt_memory.specs.Readings.{Job, Source}
use Rattle.lpt_jobs.specs.Jobs.{head_of, is_claimed, without_front}
use Rattle.lpt_node.specs.Jobs.{Execution, FrontIsFor, refusal_claim, job_claimed, job_committed, refusal_apply, job_executed, refused_front, not_executed}
use Rattle.lpt_node.specs.Nodes.{NodeData, no_data}
use Rattle.lpt_node.specs.declared.fault.NodeFault.{NodeFault}
use Rattle.lpt_node.specs.Requests.{refusal_plain, plain_made}
use Rattle.lpt_node.specs.Sending.{refusal_open, refusal_send, refusal_finish, message_opened as node_opened, part_sent as node_sent, sender_closed as node_closed}
use Rattle.lpt_node.specs.Times.{refusal_tick, turned_so, refusal_end, which_ends, expired_of}
use Rattle.lpt_events.specs.declared.entry.Opening.{Opening}
use Rattle.lpt_events.specs.declared.entry.Release.{Release}
use Rattle.lpt_acts.specs.Acts.{Leaving, Execute, Refuse, Drop, Act, Setting, On, Back, Within, Open, Send, Plain, Finish, Lose, Damage, Take, Deliver, Tick, Expire, Claim, Commit, Apply, Retire, Restart}
use Rattle.lpt_events.specs.declared.fault.StepFault.{StepFault}
use Rattle.lpt_events.specs.declared.fault.StepFault.TheVariants as step
use Rattle.lpt_events.specs.declared.reply.Answer.{Answer}
use Rattle.lpt_events.specs.declared.reply.Answer.TheVariants.{Opened, Put, Finished, Lost, Took, Delivered, Clock, Expired, Claimed, Committed, Stale, Applied, Retired, Restarted}
use Rattle.lpt_events.specs.declared.reply.Reply.{Reply}
use Rattle.lpt_events.specs.Damages.{refusal_damage}
use Rattle.lpt_events.specs.Sides.{sender_side, receiver_side, direction_to}
use Rattle.lpt_model.specs.Tickets.{Tickets, no_tickets, ticket_of, with_ticket}

-- both ends, the link, the jobs that workers have, the memories, and what was opened and released
-- so far
pub record State : Type 0 where
  pub on_ground : NodeData
  pub on_craft : NodeData
  pub link : LinkData
  pub tickets : Tickets
  pub memories : Contents
  pub opened : List Opening
  pub released : List Release

-- nothing has happened, and these are the memories' first contents
abbrev pub no_state : Config → Contents → State
no_state c first = record {
  on_ground = no_data c;
  on_craft = no_data c;
  link = empty_link;
  tickets = no_tickets;
  memories = first;
  opened = [];
  released = [];
}

-- the end of a side
abbrev pub end_of : State → Side → NodeData
end_of s Ground = s.on_ground
end_of s Craft = s.on_craft

-- the state with this end
abbrev pub with_end : State → Side → NodeData → State
with_end s Ground d = record s { on_ground = d }
with_end s Craft d = record s { on_craft = d }

-- ---- faults

-- the link's fault as the world tells it
abbrev pub link_fault : LinkFault → StepFault
link_fault link.NotHeld = step.NotHeld
link_fault link.HandFull = step.HandFull
link_fault link.HandEmpty = step.HandEmpty
link_fault link.Memory = step.Memory

-- why a worker that has this job, or none, gets none
abbrev pub refusal_claim_by : NodeData → Option Job → Option StepFault
refusal_claim_by d (Some t) = Some step.HandFull
refusal_claim_by d None = option_map node_fault (refusal_claim d)

-- why a worker that has this job, or none, hands no reading in
abbrev pub refusal_commit_of : Option Job → Option StepFault
refusal_commit_of (Some t) = None
refusal_commit_of None = Some step.HandEmpty

-- whether the link and the lanes have no part of a transaction, and no reception of it is open
abbrev pub is_gone : State → Direction → Name → Bool
is_gone s d name =
    not (holds s.link d name)
    && not (is_some (maps.get (end_of s (receiver_side d)).receiving.entries name))

-- why a transaction whose sender is known so isn't retired
abbrev pub refusal_retire_by : Known → (gone : Bool) → Option StepFault
refusal_retire_by known.Free gone = Some step.NotOpen
refusal_retire_by known.Open gone = Some step.StillOpen
refusal_retire_by known.Closed false = Some step.NotClear
refusal_retire_by known.Closed true = None

-- why a transaction isn't retired
abbrev pub refusal_retire : State → Direction → Name → Option StepFault
refusal_retire s d name =
    refusal_retire_by (state_at (end_of s (sender_side d)).sending.ledger name) (is_gone s d name)

-- why a clock doesn't turn so: one that goes on isn't at its end
abbrev pub refusal_turn : Setting → NodeData → Option NodeFault
refusal_turn On d = refusal_tick d
refusal_turn (Back n) d = None
refusal_turn (Within l) d = None

-- why an act is refused
abbrev pub refusal_of : Config → State → Act → Option StepFault
refusal_of c s (Open d name m) =
    option_map node_fault (refusal_open c (end_of s (sender_side d)) name (length m))
refusal_of c s (Send d name k) =
    option_map node_fault (refusal_send c (end_of s (sender_side d)) name k)
refusal_of c s (Plain source flags service subtype body) =
    option_map node_fault (refusal_plain c service subtype (length body))
refusal_of c s (Finish d name) =
    option_map node_fault (refusal_finish (end_of s (sender_side d)) name)
refusal_of c s (Lose n) = option_map link_fault (refusal_lose s.link n)
refusal_of c s (Damage d b) = refusal_damage c b
refusal_of c s (Take l n) = option_map link_fault (refusal_take s.link l n)
refusal_of c s (Deliver l) = option_map link_fault (refusal_drop s.link l)
refusal_of c s (Tick side turn) = option_map node_fault (refusal_turn turn (end_of s side))
refusal_of c s (Expire side which) =
    option_map node_fault (refusal_end c (end_of s side) which)
refusal_of c s (Claim w) = refusal_claim_by s.on_craft (ticket_of s.tickets w)
refusal_of c s (Commit w) = refusal_commit_of (ticket_of s.tickets w)
refusal_of c s (Apply how) = option_map node_fault (refusal_apply s.on_craft)
refusal_of c s (Retire d name) = refusal_retire s d name
refusal_of c s (Restart side) = None

-- ---- replies

-- the reply of an event that put nothing
abbrev pub quiet : Answer → Reply
quiet a = record { answer = a; puts = None }

-- the reply of an event that put one packet, which got this number
abbrev pub put_one : ℕ → Answer → Reply
put_one n a = record { answer = a; puts = Some (record { first = n; count = 1 }) }

-- ---- opening, sending and finishing

abbrev pub after_open : Config → ℕ → State → Direction → Name → List ℕ → State × Reply
after_open c place s d name m = (
  record (with_end s (sender_side d) (node_opened (end_of s (sender_side d)) name m)) {
    opened = s.opened ++ record { place = place; direction = d; name = name; message = m } ∷ [];
  },
  quiet (Opened (part_count (length m) c.part_size)),
)

-- a part's packet is put, and its sender is this
abbrev pub sent_on : State → Direction → Name → NodeData × List ℕ → State × Reply
sent_on s d name x = (
  record (with_end s (sender_side d) x.0) { link = after_put s.link d (Some name) x.1 },
  put_one (length s.link.packets) (Put (length s.link.packets)),
)

abbrev pub after_send : Config → State → Direction → Name → ℕ → State × Reply
after_send c s d name k =
    sent_on s d name (node_sent (sender_side d) c (end_of s (sender_side d)) name k)

-- a plain request's packet is put, and ground is this
abbrev pub requested_on : State → NodeData × List ℕ → State × Reply
requested_on s x = (
  record s { on_ground = x.0; link = after_put s.link Up None x.1 },
  put_one (length s.link.packets) (Put (length s.link.packets)),
)

abbrev pub after_plain : Config → State → (source flags service subtype : ℕ) → List ℕ → State × Reply
after_plain c s source flags service subtype body =
    requested_on s (plain_made c s.on_ground source flags service subtype body)

-- a sender is closed
abbrev pub after_finish : State → Direction → Name → State × Reply
after_finish s d name =
    (with_end s (sender_side d) (node_closed (end_of s (sender_side d)) name), quiet Finished)

-- ---- losing

-- the link has lost a packet
abbrev pub after_losing : State → ℕ → State × Reply
after_losing s n = (record s { link = after_lose s.link n }, quiet Lost)

-- ---- damaging

-- what the link's noise left is put; it is no part, so it has no tag
abbrev pub after_damage : State → Direction → List ℕ → State × Reply
after_damage s d b = (
  record s { link = after_put s.link d None b },
  put_one (length s.link.packets) (Put (length s.link.packets)),
)

-- ---- taking and delivering

abbrev pub after_take : State → Lane → ℕ → State × Reply
after_take s l n = (record s { link = link_after_take s.link l n }, quiet (Took n))

-- what there is, as a list
abbrev pub as_list : {A : Type 0} → Option A → List A
as_list None = []
as_list (Some x) = x ∷ []

-- the link once packets of these octets were put, the first of them first
abbrev pub put_all : LinkData → Direction → Option Name → List (List ℕ) → LinkData
put_all v d tag [] = v
put_all v d tag (b ∷ bs) = put_all (after_put v d tag b) d tag bs

-- the link once a report was put, or none
abbrev pub put_report : LinkData → Option (List ℕ) → LinkData
put_report v packet = put_all v Down None (as_list packet)

-- the reply of an event that put packets of these octets, the first of which got this number
abbrev pub put_some : ℕ → Answer → List (List ℕ) → Reply
put_some n a [] = quiet a
put_some n a (b ∷ bs) =
    record { answer = a; puts = Some (record { first = n; count = length (b ∷ bs) }) }

-- the transaction of a released message, by the outcome: a plain request has none
abbrev pub released_of : Direction → Outcome → Option (Direction × Name)
released_of d (Released name len) = Some (d, name)
released_of d _ = None

-- the releases with that of a delivery, if it released anything
abbrev pub add_release : List Release → ℕ → Direction → Outcome → Option (List ℕ) → List Release
add_release rs place d o None = rs
add_release rs place d o (Some m) =
    rs ++ record { place = place; of = released_of d o; message = m } ∷ []

-- the receiver has taken what was in the lane's hand, and answered
abbrev pub delivered_on : ℕ → State → Lane → NodeData × Accepted → State × Reply
delivered_on place s l x = (
  record (with_end s (receiver_side (lane_direction l)) x.0) {
    link = put_report (after_drop s.link l) x.1.packet;
    released = add_release s.released place (lane_direction l) x.1.outcome x.1.released;
  },
  put_some (length s.link.packets) (Delivered x.1.outcome) (as_list x.1.packet),
)

-- the receiver of a lane has taken what was in its hand: the state after it, and the answer
abbrev pub IsAccepted : State → Lane → State → Accepted → NodeData × Accepted → Type 0
IsAccepted old l new r x = (new ≡ with_end old (receiver_side (lane_direction l)) x.0) × (r ≡ x.1)

-- what the packet in the lane's hand is to its receiver; of an empty hand nothing is delivered
abbrev pub arrival_held : Config → Direction → Option LinkPacket → Arrival
arrival_held c d p = option_map_or (λ x. arrival_in c d x.octets) p NotRead

abbrev pub after_deliver : Config → ℕ → State → Lane → State × Reply
after_deliver c place s l =
    delivered_on place s l
    (packet_accepted (receiver_side (lane_direction l)) c
    (end_of s (receiver_side (lane_direction l)))
    (arrival_held c (lane_direction l) (packet_in_hand s.link l)))

-- ---- time

-- a node has set this
abbrev pub after_tick : State → Side → Setting → State × Reply
after_tick s side turn = (
  with_end s side (turned_so turn (end_of s side)),
  quiet (Clock (turned_so turn (end_of s side)).clock),
)

-- a node has ended a reception and answered, and its report is put, if it made one
abbrev pub expired_on : State → Side → NodeData × Ended → State × Reply
expired_on s side x = (
  record (with_end s side x.0) { link = put_report s.link x.1.packet },
  put_some (length s.link.packets) (Expired (direction_to side) x.1.name) (as_list x.1.packet),
)

abbrev pub after_expire : Config → State → Side → Option Name → State × Reply
after_expire c s side which =
    expired_on s side
    (expired_of side c (end_of s side) (which_ends c (end_of s side) which))

-- ---- jobs

-- a worker has claimed a job, and the spacecraft is this
abbrev pub claimed_on : State → Worker → NodeData × Job → State × Reply
claimed_on s w x = (
  record s { on_craft = x.0; tickets = with_ticket s.tickets w (Some x.1) },
  quiet (Claimed x.1.boot x.1.job),
)

-- what the message of a job is read for
abbrev pub read_for : Config → State → Job → Source
read_for c s t = record { apid = c.apid; sizes = sizes_of s.memories; message = t.message }

-- the answer to a commit of this job, by whether it counts
abbrev pub commit_told : (counts : Bool) → Job → Answer
commit_told true t = Committed t.boot t.job
commit_told false t = Stale t.boot t.job

-- a worker has handed in the reading of this job, and the spacecraft is this
abbrev pub handed_in : State → Worker → Job → NodeData × Bool → State × Reply
handed_in s w t x = (
  record s { on_craft = x.0; tickets = with_ticket s.tickets w None },
  quiet (commit_told x.1 t),
)

-- a worker hands in the reading of the job that it has; with none, that is refused
abbrev pub committed_on : Config → State → Worker → Option Job → State × Reply
committed_on c s w None = (s, quiet (Committed 0 0))
committed_on c s w (Some t) =
    handed_in s w t (job_committed s.on_craft t.boot t.job (read_for c s t))

-- the openings with that of a report of data, if one was opened
abbrev pub add_opening : List Opening → ℕ → Option (Name × List ℕ) → List Opening
add_opening os place None = os
add_opening os place (Some x) =
    os ++ record { place = place; direction = Down; name = x.0; message = x.1 } ∷ []

-- the oldest job leaves so: the end after it with the answer, and the memories after it; they
-- change only if it is executed
abbrev pub job_left : Leaving → Config → NodeData → Contents
    → (NodeData × Execution) × Contents
job_left Execute c d ms = job_executed c d ms
job_left (Refuse code) c d ms = (refused_front c d code, ms)
job_left Drop c d ms = ((record d { jobs = without_front d.jobs }, not_executed), ms)

-- the spacecraft has let a job leave, and answered; these are the memories after it
abbrev pub left_on : ℕ → State → (NodeData × Execution) × Contents → State × Reply
left_on place s x = (
  record s {
    on_craft = x.0.0;
    link = put_all s.link Down None x.0.1.packets;
    memories = x.1;
    opened = add_opening s.opened place x.0.1.opened;
  },
  put_some (length s.link.packets) (Applied x.0.1.applied) x.0.1.packets,
)

-- ---- retirement and a restart

-- both ends have freed a transaction
abbrev pub after_retire : State → Direction → Name → State × Reply
after_retire s d name = (
  record s {
    on_ground = name_retired Ground s.on_ground d name;
    on_craft = name_retired Craft s.on_craft d name;
  },
  quiet Retired,
)

-- a node was restarted
abbrev pub after_restart : State → Side → State × Reply
after_restart s side = (
  with_end s side (node_restarted (end_of s side)),
  quiet (Restarted (node_restarted (end_of s side)).boot),
)

-- ---- all events

-- what the nodes ask for besides: a job that is committed in its own boot was claimed and not
-- committed, and the reading that is executed was made for these memories
abbrev pub IsReady : Config → State → Act → Type 0
IsReady c s (Commit w) =
    IfSome (ticket_of s.tickets w)
    (λ t. t.boot ≡ s.on_craft.boot → IsTrue (is_claimed s.on_craft.jobs t.job))
IsReady c s (Apply how) = FrontIsFor (head_of s.on_craft.jobs.jobs) c.apid s.memories
IsReady c s e = Unit {0}

-- what an act at this place makes of the state, and its reply
abbrev pub after : Config → ℕ → State → Act → State × Reply
after c place s (Open d name m) = after_open c place s d name m
after c place s (Send d name k) = after_send c s d name k
after c place s (Plain source flags service subtype body) =
    after_plain c s source flags service subtype body
after c place s (Finish d name) = after_finish s d name
after c place s (Lose n) = after_losing s n
after c place s (Damage d b) = after_damage s d b
after c place s (Take l n) = after_take s l n
after c place s (Deliver l) = after_deliver c place s l
after c place s (Tick side turn) = after_tick s side turn
after c place s (Expire side which) = after_expire c s side which
after c place s (Claim w) = claimed_on s w (job_claimed s.on_craft)
after c place s (Commit w) = committed_on c s w (ticket_of s.tickets w)
after c place s (Apply how) = left_on place s (job_left how c s.on_craft s.memories)
after c place s (Retire d name) = after_retire s d name
after c place s (Restart side) = after_restart s side
