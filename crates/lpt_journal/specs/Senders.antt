-- The sending ends: which transactions are open, and what each node made.
use Rattle.std.specs.Prelude.{ℕ, ◌%◌, Bool, true, false, ◌&&◌, ◌||◌, if◌then◌else◌, List, [], ◌∷◌, length, take, drop, map, Option, Some, None}
use Rattle.std.specs.List.{list_any, filter, find}
use Rattle.std.specs.Option.{option_or, option_map}
use Rattle.lpt_packet.specs.declared.direction.Direction.{Direction}
use Rattle.lpt_packet.specs.declared.direction.Direction.TheVariants.{Up, Down}
use Rattle.lpt_packet.specs.Names.{Name, same_name, named_by}
use Rattle.lpt_packet.specs.Numbers.{same_octets}
use Rattle.lpt_ledger.specs.LeastFree.{name_count, first_of_numbers}
use Rattle.lpt_events.specs.Lanes.{same_direction}
use Rattle.lpt_events.specs.declared.side.Side.{Side}
use Rattle.lpt_events.specs.declared.outcome.Outcome.TheVariants.{AbortNoted}
use Rattle.lpt_acts.specs.Acts.{Act, Open, Send, Plain, Finish, Lose, Damage, Take, Deliver, Tick, Expire, Claim, Commit, Apply, Retire, Restart}
use Rattle.lpt_events.specs.declared.reply.Answer.{Answer}
use Rattle.lpt_events.specs.declared.reply.Answer.TheVariants.{Delivered}
use Rattle.lpt_events.specs.declared.entry.Opening.{Opening}
use Rattle.lpt_events.specs.Sides.{same_side, sender_side}
use Rattle.lpt_journal.specs.Journal.{SentPacket, Recorded, History, with_all}
use Rattle.lpt_events.specs.Counts.{sequence_counts, type_counters}
pub use Rattle.lpt_events.specs.Openings.{is_opening_of}

-- ---- openings

-- all openings, in order of place
abbrev pub opened : History → List Opening
opened [] = []
opened (x ∷ h) = with_all (opened h) x.opens

-- whether an event retires the transaction
abbrev pub retires : Act → Direction → Name → Bool
retires (Retire e i) d name = same_direction e d && same_name i name
retires _ d name = false

-- the last opening of the transaction, if it was not retired after that
abbrev pub current : History → Direction → Name → Option Opening
current [] d name = None
current (x ∷ h) d name =
    if retires x.event d name then None
    else option_or (find (is_opening_of d name) x.opens) (current h d name)

-- ---- the senders' states

-- whether an answer notes an abortion report of this name
abbrev pub notes_abort : Answer → Name → Bool
notes_abort (Delivered (AbortNoted i reason)) name = same_name i name
notes_abort _ name = false

-- whether an event closes the transaction's sender; an abortion report speaks of what goes up, and a
-- node that is restarted closes all of its own
abbrev pub closes : Act → Answer → Direction → Name → Bool
closes (Deliver l) answer d name = same_direction Up d && notes_abort answer name
closes (Finish e i) answer d name = same_direction e d && same_name i name
closes (Restart side) answer d name = same_side side (sender_side d)
closes _ answer d name = false

-- whether something closed the sender after its last opening
abbrev pub is_over : History → Direction → Name → Bool
is_over [] d name = false
is_over (x ∷ h) d name =
    if list_any (is_opening_of d name) x.opens then false
    else closes x.event x.reply.answer d name || is_over h d name

-- the state of a transaction at its sender; an open one has its message
pub data Sender : Type 0 where
  FreeSender : Sender
  OpenSender : (message : List ℕ) → Sender
  ClosedSender : Sender

-- the state of a sender whose last opening was this
abbrev pub sender_of : Option Opening → Bool → Sender
sender_of None over = FreeSender
sender_of (Some o) true = ClosedSender
sender_of (Some o) false = OpenSender o.message

-- the sender's state: free with no opening, closed if something closed it after that, else open
abbrev pub sender : History → Direction → Name → Sender
sender h d name = sender_of (current h d name) (is_over h d name)

-- whether a sender is free
abbrev pub is_free : Sender → Bool
is_free FreeSender = true
is_free _ = false

-- whether a sender is open
abbrev pub is_open : Sender → Bool
is_open (OpenSender m) = true
is_open _ = false

-- ---- open transactions, counted by name

-- the names in a list, each once
abbrev pub once : List Name → List Name
once [] = []
once (name ∷ names) = if list_any (same_name name) names then once names else name ∷ once names

-- the names that were opened in this direction
abbrev pub opened_names : History → Direction → List Name
opened_names h d = map (λ o. o.name) (filter (λ o. same_direction o.direction d) (opened h))

-- how many outgoing transactions are open
abbrev pub open_count : History → Direction → ℕ
open_count h d = length (once (filter (λ name. is_open (sender h d name)) (opened_names h d)))

-- the least name of a source whose transaction is free at its sender
abbrev pub least_free : History → Direction → (source : ℕ) → Option Name
least_free h d source =
    option_map (named_by source)
    (first_of_numbers name_count 0 (λ i. is_free (sender h d (named_by source i))))

-- ---- packets made

-- whether an event restarts a node
abbrev pub restarts : Act → Side → Bool
restarts (Restart node) side = same_side node side
restarts _ side = false

-- whether a node makes the packets of an event: an opened message brings its own octets, and no node
-- makes what the link's noise leaves
abbrev pub makes : Act → Bool
makes (Open d name m) = false
makes (Send d name k) = true
makes (Plain source flags service subtype body) = true
makes (Finish d name) = true
makes (Lose n) = true
makes (Damage d b) = false
makes (Take l n) = true
makes (Deliver l) = true
makes (Tick side turn) = true
makes (Expire side which) = true
makes (Claim w) = true
makes (Commit w) = true
makes (Apply how) = true
makes (Retire d name) = true
makes (Restart side) = true

-- the octets of the packets that go in this direction
abbrev pub octets_put : List SentPacket → Direction → List (List ℕ)
octets_put ps d = map (λ p. p.octets) (filter (λ p. same_direction p.direction d) ps)

-- the messages that are opened in this direction
abbrev pub messages_opened : List Opening → Direction → List (List ℕ)
messages_opened os d = map (λ o. o.message) (filter (λ o. same_direction o.direction d) os)

-- the packets that an entry's event made at the node that sends in this direction
abbrev pub made_by : Recorded → Direction → List (List ℕ)
made_by x d =
    if makes x.event then with_all (octets_put x.puts d) (messages_opened x.opens d) else []

-- all packets that the node has made since it was last restarted
abbrev pub packets_made : History → Direction → List (List ℕ)
packets_made [] d = []
packets_made (x ∷ h) d =
    if restarts x.event (sender_side d) then [] else with_all (packets_made h d) (made_by x d)

-- the sequence count of the next packet of a node that has made these: 14 bits
abbrev pub count_after : List (List ℕ) → ℕ
count_after packets = length packets % sequence_counts

-- the sequence count of the node's next packet
abbrev pub count : History → Direction → ℕ
count h d = count_after (packets_made h d)

-- whether octets are telemetry of this service and message subtype, which stand at places 7 and 8
abbrev pub is_report : (service subtype : ℕ) → List ℕ → Bool
is_report service subtype b = same_octets (take 2 (drop 7 b)) (service ∷ subtype ∷ [])

-- the message type counter of the next telemetry of this service and message subtype, if these
-- packets were made: 16 bits
abbrev pub counter_after : List (List ℕ) → (service subtype : ℕ) → ℕ
counter_after packets service subtype = length (filter (is_report service subtype) packets) % type_counters

-- the message type counter of the spacecraft's next telemetry of this service and message subtype
abbrev pub type_counter : History → (service subtype : ℕ) → ℕ
type_counter h service subtype = counter_after (packets_made h Down) service subtype
