-- What holds of every legal journal.
use Rattle.std.specs.Prelude.{◌≡◌, ◌↔◌, ℕ, suc, ◌-◌, ◌<◌, ◌≤◌, Bool, true, false, List, length, drop, map, slice_get, Option, Some, None, is_some, Contains}
use Rattle.std.specs.List.{filter}
use Rattle.std.specs.List.Sorted.{IsStrictlyIncreasing}
use Rattle.std.specs.Option.{option_and_then}
use Rattle.std.specs.FinMap as map
use Rattle.lpt_packet.specs.declared.direction.Direction.{Direction}
use Rattle.lpt_packet.specs.Names.{Name}
use Rattle.lpt_part.specs.declared.mode.Mode.{Mode}
use Rattle.lpt_part.specs.declared.mode.Mode.TheVariants.{Strict}
use Rattle.lpt_part.specs.declared.reason.Reason.{Reason}
use Rattle.lpt_part.specs.declared.reason.Reason.TheVariants.{Discontinuity}
use Rattle.lpt_part.specs.Splitting.{part_count}
use Rattle.lpt_memory.specs.Memories.{Contents}
use Rattle.lpt_reception.specs.Received.{Kept as KeptPart}
use Rattle.lpt_events.specs.NamedParts.{NamedPart}
use Rattle.lpt_events.specs.declared.lane.Lane.{Lane}
use Rattle.lpt_events.specs.Lanes.{lane_direction}
use Rattle.lpt_events.specs.declared.config.Config.{Config}
use Rattle.lpt_events.specs.declared.outcome.Outcome.{Outcome}
use Rattle.lpt_events.specs.declared.outcome.Outcome.TheVariants.{Broken, Ignored}
use Rattle.lpt_events.specs.declared.outcome.Why.TheVariants.{Unreadable, Idle, ForeignApid, BadPart}
use Rattle.lpt_events.specs.Arrivals.{APart}
use Rattle.lpt_events.specs.MadePackets.{nth_named}
use Rattle.lpt_acts.specs.Acts.{Leaving, Execute, Act, Plain, Deliver}
use Rattle.lpt_events.specs.declared.entry.Opening.{Opening}
use Rattle.lpt_events.specs.declared.entry.Release.{Release}
use Rattle.lpt_events.specs.declared.reply.Answer.TheVariants.{Delivered}
use Rattle.lpt_journal.specs.Journal.{SentPacket, Recorded, History}
use Rattle.lpt_journal.specs.Link.{sent, is_damaged, is_held}
use Rattle.lpt_journal.specs.Hands.{hand, arrival_of, in_hand}
use Rattle.lpt_journal.specs.Senders.{current}
use Rattle.lpt_journal.specs.Receivers.{heard}
use Rattle.lpt_journal.specs.Delivery.{outcome}
use Rattle.lpt_journal.specs.Releases.{releases}
use Rattle.lpt_journal.specs.Jobs.{went_up, executed, that_left, left_by, memories}
use Rattle.lpt_events.specs.Configs.{IsConfig}
use Rattle.lpt_journal.specs.Replies.{plain_packet, history_after}
use Rattle.lpt_journal.specs.Legal.{Legal}

-- ---- parts

-- the part is the one of its number of the message last opened under its name in this direction
pub record IsPartOfCurrent (c : Config) (h : History) (d : Direction) (q : NamedPart) : Type 0 where
  pub opening : Opening
  pub is_current : current h d q.name ≡ Some opening
  pub from_one : 1 ≤ q.number
  pub to_last : q.number ≤ part_count (length opening.message) c.part_size
  pub is_part : q ≡ nth_named c.part_size q.name opening.message q.number

-- a kept part with its name and number
abbrev pub kept_piece : Name → ℕ → KeptPart → NamedPart
kept_piece name n x = record { name = name; number = n; kind = x.kind; octets = x.octets }

-- every part that is held, in a hand or heard is one of the message last opened under its name
pub record PartsAreCurrent (c : Config) (h : History) : Type 0 where
  pub held : (n : ℕ) (p : SentPacket) (q : NamedPart)
      → is_held h n ≡ true
      → slice_get (sent h) n ≡ Some p
      → arrival_of c p ≡ APart q
      → IsPartOfCurrent c h p.direction q
  pub hands : (l : Lane) (q : NamedPart)
      → in_hand c h l ≡ APart q
      → IsPartOfCurrent c h (lane_direction l) q
  pub heard : (d : Direction) (name : Name) (n : ℕ) (x : KeptPart)
      → map.get (heard c h d name) n ≡ Some x
      → IsPartOfCurrent c h d (kept_piece name n x)

-- ---- releases

-- the history before a place
abbrev pub before : ℕ → History → History
before place h = drop (length h - place) h

-- the opening that was the last one of the released transaction when it was released
abbrev pub opening_of : History → Release → Option Opening
opening_of h r = option_and_then (λ t. current (before r.place h) t.0 t.1) r.of

-- the release is of the message last opened under its name in its direction, so by the other node
pub record IsLastOpened (h : History) (r : Release) : Type 0 where
  pub place_fits : r.place < length h
  pub opening : Opening
  pub is_current : opening_of h r ≡ Some opening
  pub is_message : r.message ≡ opening.message

-- each large message that was released is the one last opened under its name
abbrev pub EachIsLastOpened : Config → History → Type 0
EachIsLastOpened c h =
    (k : ℕ) (r : Release)
    → slice_get (releases c h) k ≡ Some r
    → is_some r.of ≡ true
    → IsLastOpened h r

-- two openings have one direction, one name and one place
pub record IsSameOpening (o u : Opening) : Type 0 where
  pub same_direction : o.direction ≡ u.direction
  pub same_name : o.name ≡ u.name
  pub same_place : o.place ≡ u.place

-- no two releases have the same opening
abbrev pub AtMostOncePerOpening : Config → History → Type 0
AtMostOncePerOpening c h =
    (j k : ℕ) (r s : Release) (o u : Opening)
    → slice_get (releases c h) j ≡ Some r → slice_get (releases c h) k ≡ Some s
    → opening_of h r ≡ Some o → opening_of h s ≡ Some u
    → IsSameOpening o u
    → j ≡ k

-- ---- requests

-- Ground asked for a plain request, and these octets are the packet that it made of it. Behind an
-- entry stands the history before it.
pub record WasAsked (c : Config) (h : History) (packet : List ℕ) : Type 0 where
  pub number : ℕ
  pub entry : Recorded
  pub is_there : slice_get h number ≡ Some entry
  pub source : ℕ
  pub flags : ℕ
  pub service : ℕ
  pub subtype : ℕ
  pub body : List ℕ
  pub asks : entry.event ≡ Plain source flags service subtype body
  pub is_packet : packet ≡ plain_packet c (drop (suc number) h) source flags service subtype body

-- each plain request that was released is the packet of one that ground had asked for
abbrev pub EachWasAsked : Config → History → Type 0
EachWasAsked c h =
    (k : ℕ) (r : Release)
    → slice_get (releases c h) k ≡ Some r
    → r.of ≡ None
    → WasAsked c (before r.place h) r.message

-- A request is ground's: it came up, and is a plain one that ground had asked for, or the message
-- last opened upwards under its name.
pub record IsOfGround (c : Config) (h : History) (r : Release) : Type 0 where
  pub came_up : went_up r.of ≡ true
  pub plain : r.of ≡ None → WasAsked c (before r.place h) r.message
  pub large : is_some r.of ≡ true → IsLastOpened h r

-- each request that was executed is ground's
abbrev pub EachIsOfGround : Config → History → Type 0
EachIsOfGround c h = (k : ℕ) (r : Release) → slice_get (executed c h) k ≡ Some r → IsOfGround c h r

-- ---- deliveries

-- What was delivered is read as a part that contradicts nothing, or as a message that is no part,
-- unless the packet was damaged: exactly then it isn't read. A part breaks its reception off in
-- strict mode alone, and there only since it isn't the next one.
pub record IsSoundOutcome (mode : Mode) (damaged : Bool) (o : Outcome) : Type 0 where
  pub only_gaps : (name : Name) (reason : Reason)
      → o ≡ Broken name reason
      → (mode ≡ Strict) × (reason ≡ Discontinuity)
  pub not_bad_part : ¬ (o ≡ Ignored BadPart)
  pub not_idle : ¬ (o ≡ Ignored Idle)
  pub not_foreign : ¬ (o ≡ Ignored ForeignApid)
  pub unreadable : (o ≡ Ignored Unreadable) ↔ (damaged ≡ true)

-- after this history an event delivered a packet from a lane's hand, with a sound outcome
pub record WasSoundDelivery (mode : Mode) (h : History) (e : Act) (o : Outcome) : Type 0 where
  pub lane : Lane
  pub number : ℕ
  pub delivers : e ≡ Deliver lane
  pub was_in_hand : hand h lane ≡ Some number
  pub sound : IsSoundOutcome mode (is_damaged h number) o

-- each delivery that happened was sound; behind an entry stands the history before it
abbrev pub DeliveriesWereSound : Mode → History → Type 0
DeliveriesWereSound mode h =
    (k : ℕ) (x : Recorded) (o : Outcome)
    → slice_get h k ≡ Some x
    → x.reply.answer ≡ Delivered o
    → WasSoundDelivery mode (drop (suc k) h) x.event o

-- whatever packet a lane has in its hand, its delivery is sound
abbrev pub DeliveriesAreSound : Config → History → Type 0
DeliveriesAreSound c h =
    (l : Lane) (n : ℕ)
    → hand h l ≡ Some n
    → IsSoundOutcome c.mode (is_damaged h n) (outcome c h l)

-- ---- memories

-- each request that was executed is one that the spacecraft released
abbrev pub EachWasReleased : Config → History → Type 0
EachWasReleased c h =
    (k : ℕ) (r : Release)
    → slice_get (executed c h) k ≡ Some r
    → Contains (filter (λ x. went_up x.of) (releases c h)) r

-- The requests were executed in order of release, none of them twice: their places rise from each
-- to the next. The memories are what they leave of the first content, one after the other.
pub record MemoriesFollow (c : Config) (first : Contents) (h : History) : Type 0 where
  pub released : EachWasReleased c h
  pub in_order : IsStrictlyIncreasing (map (λ r. r.place) (executed c h))
  pub left : memories c first h ≡ left_by c.apid (map (λ r. r.message) (executed c h)) first

-- ---- the queue

-- whether one that leaves so is executed
abbrev pub is_executed : Leaving → Bool
is_executed Execute = true
is_executed _ = false

-- Each request that left the queue, executed, refused or dropped, is one that the spacecraft
-- released. They left in order of release, none of them twice; and the executed requests are those
-- of them that left so.
pub record QueueFollows (c : Config) (h : History) : Type 0 where
  pub released : (k : ℕ) (x : Leaving × Release)
      → slice_get (that_left c h) k ≡ Some x
      → Contains (filter (λ r. went_up r.of) (releases c h)) x.1
  pub in_order : IsStrictlyIncreasing (map (λ x. x.1.place) (that_left c h))
  pub executed : executed c h
      ≡ map (λ x. x.1) (filter (λ x. is_executed x.0) (that_left c h))

-- ---- the main theorem

-- Every part on its way or heard is of the message last opened under its name. Each large message
-- that was released is the one last opened under its name, and that once; each plain request that
-- was released is one that ground had asked for. So nothing is executed that ground didn't send.
-- Deliveries are and were sound. The memories are their first content, changed by the executed
-- requests in order of release. What left the queue otherwise was released too, and nothing leaves
-- it twice.
pub record Holds (c : Config) (first : Contents) (h : History) : Type 0 where
  pub parts : PartsAreCurrent c h
  pub messages : EachIsLastOpened c h
  pub once : AtMostOncePerOpening c h
  pub asked : EachWasAsked c h
  pub of_ground : EachIsOfGround c h
  pub deliveries : DeliveriesAreSound c h
  pub delivered : DeliveriesWereSound c.mode h
  pub memories : MemoriesFollow c first h
  pub queue : QueueFollows c h

-- it holds of every legal journal, whatever its events, their order and their number
abbrev pub Headline : Type 0
Headline =
    (c : Config) (first : Contents) (es : List Act)
    → IsConfig c
    → Legal c first es
    → Holds c first (history_after c first es)
