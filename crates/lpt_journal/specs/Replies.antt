-- What each event answers, puts and opens.
use Rattle.std.specs.Prelude.{ℕ, ◌+◌, ◌==◌, if◌then◌else◌, List, [], ◌∷◌, length, Option, Some, None}
use Rattle.lpt_packet.specs.declared.direction.Direction.{Direction}
use Rattle.lpt_packet.specs.declared.direction.Direction.TheVariants.{Up, Down}
use Rattle.lpt_packet.specs.Names.{Name, no_name}
use Rattle.lpt_memory.specs.Memories.{Contents}
use Rattle.lpt_memory.specs.Readings.{Job}
use Rattle.lpt_part.specs.declared.reason.Reason.{Reason}
use Rattle.lpt_part.specs.declared.reason.Reason.TheVariants as reason
use Rattle.lpt_part.specs.Parts.{Piece}
use Rattle.lpt_part.specs.Splitting.{part_count}
use Rattle.lpt_events.specs.Lanes.{lane_direction}
use Rattle.lpt_events.specs.declared.config.Config.{Config}
use Rattle.lpt_events.specs.declared.outcome.Outcome.{Outcome}
use Rattle.lpt_events.specs.declared.outcome.Outcome.TheVariants.{Broken}
use Rattle.lpt_events.specs.declared.side.Side.{Side}
use Rattle.lpt_events.specs.declared.side.Side.TheVariants.{Ground, Craft}
use Rattle.lpt_events.specs.Arrivals.{part_subtype}
use Rattle.lpt_events.specs.MadePackets.{nth_part, part_made, abort_made, tc_made}
use Rattle.lpt_acts.specs.Acts.{clock_turned, Act, Open, Send, Plain, Finish, Lose, Damage, Take, Deliver, Tick, Expire, Claim, Commit, Apply, Retire, Restart}
use Rattle.lpt_events.specs.declared.reply.Answer.{Answer}
use Rattle.lpt_events.specs.declared.reply.Answer.TheVariants.{Opened, Put, Finished, Lost, Took, Delivered, Clock, Expired, Claimed, Committed, Stale, Applied, Retired, Restarted}
use Rattle.lpt_events.specs.declared.reply.Puts.{Puts}
use Rattle.lpt_events.specs.declared.reply.Reply.{Reply}
use Rattle.lpt_events.specs.declared.entry.Opening.{Opening}
use Rattle.lpt_events.specs.Sides.{receiver_side, direction_to}
use Rattle.lpt_journal.specs.Journal.{SentPacket, Recorded, History}
use Rattle.lpt_journal.specs.Link.{sent}
use Rattle.lpt_journal.specs.Senders.{Sender, FreeSender, OpenSender, ClosedSender, sender, count, type_counter}
use Rattle.lpt_journal.specs.Receivers.{clock}
use Rattle.lpt_journal.specs.Due.{given_up}
use Rattle.lpt_journal.specs.Delivery.{outcome}
use Rattle.lpt_journal.specs.Executions.{front_applied, front_puts, front_opens}
use Rattle.lpt_journal.specs.Jobs.{boot, jobs_claimed, ticket}

-- the end of the reception that is given up; if none is, that is refused
abbrev pub expired_now : Direction → Option Name → Answer
expired_now d None = Expired d no_name
expired_now d (Some name) = Expired d name

-- the commit of this job in this boot: one of an earlier boot is stale; if a worker has none, that
-- is refused
abbrev pub committed_now : (boot : ℕ) → Option Job → Answer
committed_now boot None = Committed 0 0
committed_now boot (Some t) =
    if t.boot == boot then Committed t.boot t.job else Stale t.boot t.job

-- what is particular to the event in its reply
abbrev pub answer : Config → Contents → History → Act → Answer
answer c first h (Open d name m) = Opened (part_count (length m) c.part_size)
answer c first h (Send d name k) = Put (length (sent h))
answer c first h (Plain source flags service subtype body) = Put (length (sent h))
answer c first h (Finish d name) = Finished
answer c first h (Lose n) = Lost
answer c first h (Damage d b) = Put (length (sent h))
answer c first h (Take l n) = Took n
answer c first h (Deliver l) = Delivered (outcome c h l)
answer c first h (Tick side turn) = Clock (clock_turned turn (clock c h side))
answer c first h (Expire side which) =
    expired_now (direction_to side) (given_up c h (direction_to side) which)
answer c first h (Claim w) = Claimed (boot h Craft) (jobs_claimed h)
answer c first h (Commit w) = committed_now (boot h Craft) (ticket c h w)
answer c first h (Apply how) = Applied (front_applied c first h how)
answer c first h (Retire d name) = Retired
answer c first h (Restart side) = Restarted (boot h side + 1)

-- the octets of a part's packet that the sender makes now, of this source or to it
abbrev pub part_packet : Config → History → Direction → (peer : ℕ) → Piece → List ℕ
part_packet c h Up peer q = part_made c Up peer (count h Up) 0 0 q
part_packet c h Down peer q =
    part_made c Down peer (count h Down) (type_counter h 13 (part_subtype Down q.kind))
    (clock c h Craft) q

-- the packet of part k of an open message; of no other sender, and then sending is refused
abbrev pub send_puts : Config → History → Direction → Name → ℕ → Sender → List SentPacket
send_puts c h d name k (OpenSender m) =
    record {
      direction = d;
      octets = part_packet c h d name.source (nth_part c.part_size name.id m k);
    } ∷ []
send_puts c h d name k FreeSender = []
send_puts c h d name k ClosedSender = []

-- the octets of a plain request's packet that ground makes now
abbrev pub plain_packet : Config → History → (source flags service subtype : ℕ) → List ℕ → List ℕ
plain_packet c h source flags service subtype body =
    tc_made c source (count h Up) flags service subtype body

-- the packet of a plain request
abbrev pub plain_puts : Config
    → History
    → (source flags service subtype : ℕ)
    → List ℕ
    → List SentPacket
plain_puts c h source flags service subtype body =
    record { direction = Up; octets = plain_packet c h source flags service subtype body } ∷ []

-- the abortion report that the spacecraft puts when it ends a reception so; ground puts none
abbrev pub abort_puts : Config → History → Side → Name → Reason → List SentPacket
abort_puts c h Ground name reason = []
abort_puts c h Craft name reason =
    record {
      direction = Down;
      octets = abort_made c (count h Down) (type_counter h 13 16) (clock c h Craft) name reason;
    } ∷ []

-- what a delivery with this outcome puts
abbrev pub outcome_puts : Config → History → Side → Outcome → List SentPacket
outcome_puts c h side (Broken name reason) = abort_puts c h side name reason
outcome_puts c h side _ = []

-- what the end of the reception that is given up puts; if none is, it is refused
abbrev pub expiry_puts : Config → History → Side → Option Name → List SentPacket
expiry_puts c h side None = []
expiry_puts c h side (Some name) = abort_puts c h side name reason.Expired

-- the packets that an event puts on the link
abbrev pub puts : Config → Contents → History → Act → List SentPacket
puts c first h (Open d name m) = []
puts c first h (Send d name k) = send_puts c h d name k (sender h d name)
puts c first h (Plain source flags service subtype body) =
    plain_puts c h source flags service subtype body
puts c first h (Finish d name) = []
puts c first h (Lose n) = []
puts c first h (Damage d b) = record { direction = d; octets = b } ∷ []
puts c first h (Take l n) = []
puts c first h (Deliver l) = outcome_puts c h (receiver_side (lane_direction l)) (outcome c h l)
puts c first h (Tick side turn) = []
puts c first h (Expire side which) =
    expiry_puts c h side (given_up c h (direction_to side) which)
puts c first h (Claim w) = []
puts c first h (Commit w) = []
puts c first h (Apply how) = front_puts c first h how
puts c first h (Retire d name) = []
puts c first h (Restart side) = []

-- the transactions that an event opens
abbrev pub opens : Config → Contents → History → Act → List Opening
opens c first h (Open d name m) = record { place = length h; direction = d; name = name; message = m } ∷ []
opens c first h (Send d name k) = []
opens c first h (Plain source flags service subtype body) = []
opens c first h (Finish d name) = []
opens c first h (Lose n) = []
opens c first h (Damage d b) = []
opens c first h (Take l n) = []
opens c first h (Deliver l) = []
opens c first h (Tick side turn) = []
opens c first h (Expire side which) = []
opens c first h (Claim w) = []
opens c first h (Commit w) = []
opens c first h (Apply how) = front_opens c first h how
opens c first h (Retire d name) = []
opens c first h (Restart side) = []

-- how a reply tells of packets that were put, the first of which got this number
abbrev pub puts_told : ℕ → List SentPacket → Option Puts
puts_told first [] = None
puts_told first (p ∷ ps) = Some (record { first = first; count = length (p ∷ ps) })

-- what an event answers
abbrev pub reply : Config → Contents → History → Act → Reply
reply c first h e =
    record { answer = answer c first h e; puts = puts_told (length (sent h)) (puts c first h e) }

-- ---- recorded

-- an event with what it gives after this history
abbrev pub entry : Config → Contents → History → Act → Recorded
entry c first h e = record { event = e; reply = reply c first h e; puts = puts c first h e; opens = opens c first h e }

-- the history of a journal, whose newest event stands first
abbrev pub history_after : Config → Contents → List Act → History
history_after c first [] = []
history_after c first (e ∷ es) = let h = history_after c first es in entry c first h e ∷ h
