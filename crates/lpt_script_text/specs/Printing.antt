-- The lines that a script prints.
use Rattle.std.specs.Prelude.{ℕ, Bool, List, [], ◌∷◌, ◌++◌, length, codes, ◌==◌, if◌then◌else◌, Option, Some, None}
use Rattle.std.specs.List.{flat_map}
use Rattle.std.specs.Fmt.{decimal}
use Rattle.hex.specs.Hex.{encode_lower}
use Rattle.lpt_packet.specs.declared.direction.Direction.{Direction}
use Rattle.lpt_packet.specs.Directions.{direction_word}
use Rattle.lpt_packet.specs.Names.{Name}
use Rattle.lpt_part.specs.Aborts.{reason_code}
use Rattle.lpt_events.specs.Lanes.{lane_direction}
use Rattle.lpt_events.specs.declared.outcome.Outcome.{Outcome}
use Rattle.lpt_events.specs.declared.outcome.Outcome.TheVariants.{Kept, Again, Released, PlainReleased, ReportNoted, AbortNoted, Broken, Ignored}
use Rattle.lpt_pus.specs.Codes.{number_of}
use Rattle.lpt_events.specs.declared.applied.Applied.{Applied}
use Rattle.lpt_events.specs.declared.applied.Applied.TheVariants.{Done, Silent, Code}
use Rattle.lpt_events.specs.declared.entry.Release.{Release}
use Rattle.lpt_events.specs.declared.event.Event.{Event}
use Rattle.lpt_events.specs.declared.event.Event.TheVariants.{Open, Send, Plain, Finish, Lose, Damage, Take, Deliver, Tick, Expire, Claim, Commit, Apply, Retire, Restart}
use Rattle.lpt_events.specs.declared.fault.StepFault.{StepFault}
use Rattle.lpt_events.specs.declared.reply.Answer.{Answer}
use Rattle.lpt_events.specs.declared.reply.Answer.TheVariants.{Opened, Put, Finished, Lost, Took, Delivered, Clock, Expired, Claimed, Committed, Stale, Applied as AppliedTo, Retired, Restarted}
use Rattle.lpt_events.specs.declared.reply.Reply.{Reply}
use Rattle.lpt_events.specs.declared.side.Side.{Side}
use Rattle.lpt_events.specs.FaultNames.{code_of, name_of}
use Rattle.lpt_events.specs.NameTexts.{name_text}
use Rattle.lpt_events.specs.Sides.{side_word}
use Rattle.lpt_events.specs.Whys.{why_name}

-- ---- words

-- words with a space between them, and a line end
abbrev pub line_of : List (List ℕ) → List ℕ
line_of [] = 10 ∷ []
line_of (w ∷ []) = w ++ 10 ∷ []
line_of (w ∷ v ∷ ws) = w ++ 32 ∷ line_of (v ∷ ws)

-- octets in hexadecimal digits, lower case; `-` if there are none
abbrev pub octets_text : List ℕ → List ℕ
octets_text m = if length m == 0 then codes "-" else encode_lower m

-- ---- what an event did

-- The first argument of those that have a name in them is the configured source.

-- a message was opened; it has so many parts
abbrev pub opened_text : ℕ → Direction → Name → (parts : ℕ) → List ℕ
opened_text source d name parts =
    line_of (codes "opened" ∷ direction_word d ∷ name_text source name ∷ codes "parts" ∷ decimal parts ∷ [])

-- a packet of this number was put on the link
abbrev pub put_text : ℕ → List ℕ
put_text n = line_of (codes "put" ∷ decimal n ∷ [])

-- the packet of this number was taken
abbrev pub took_text : ℕ → List ℕ
took_text n = line_of (codes "took" ∷ decimal n ∷ [])

-- a word, a transaction and a number
abbrev pub transaction_line : ℕ → List ℕ → Direction → Name → ℕ → List ℕ
transaction_line source word d name n = line_of (word ∷ direction_word d ∷ name_text source name ∷ decimal n ∷ [])

-- a word and a transaction
abbrev pub named_line : ℕ → List ℕ → Direction → Name → List ℕ
named_line source word d name = line_of (word ∷ direction_word d ∷ name_text source name ∷ [])

-- the packet of this number is lost
abbrev pub lost_text : ℕ → List ℕ
lost_text n = line_of (codes "lost" ∷ decimal n ∷ [])

-- the sender of this transaction was closed
abbrev pub finished_text : ℕ → Direction → Name → List ℕ
finished_text source d name = named_line source (codes "finished") d name

-- the reception of this transaction was ended
abbrev pub expired_text : ℕ → Direction → Name → List ℕ
expired_text source d name = named_line source (codes "expired") d name

-- a word and a job, by its boot and its number in it
abbrev pub job_line : List ℕ → (boot job : ℕ) → List ℕ
job_line word boot job = line_of (word ∷ decimal boot ∷ decimal job ∷ [])

-- a worker has this job
abbrev pub claimed_text : (boot job : ℕ) → List ℕ
claimed_text boot job = job_line (codes "claimed") boot job

-- the reading of this job was handed in
abbrev pub committed_text : (boot job : ℕ) → List ℕ
committed_text boot job = job_line (codes "committed") boot job

-- this job isn't there any more, and its reading was dropped
abbrev pub stale_text : (boot job : ℕ) → List ℕ
stale_text boot job = job_line (codes "stale") boot job

-- this transaction is free at both ends
abbrev pub retired_text : ℕ → Direction → Name → List ℕ
retired_text source d name = named_line source (codes "retired") d name

-- a node was restarted, and has this boot now
abbrev pub restarted_text : Side → (boot : ℕ) → List ℕ
restarted_text side boot = line_of (codes "restarted" ∷ side_word side ∷ decimal boot ∷ [])

-- a request was executed; the report of data that was opened has this name
abbrev pub applied_text : ℕ → Applied → List ℕ
applied_text source (Done None) = line_of (codes "applied" ∷ codes "done" ∷ [])
applied_text source (Done (Some name)) =
    line_of (codes "applied" ∷ codes "done" ∷ codes "down" ∷ name_text source name ∷ [])
applied_text source Silent = line_of (codes "applied" ∷ codes "silent" ∷ [])
applied_text source (Code code) = line_of (codes "applied" ∷ codes "code" ∷ decimal (number_of code) ∷ [])

-- a clock has this value now
abbrev pub clock_text : ℕ → List ℕ
clock_text t = line_of (codes "clock" ∷ decimal t ∷ [])

-- what became of a packet that was delivered in this direction
abbrev pub outcome_text : ℕ → Direction → Outcome → List ℕ
outcome_text source d (Kept name k) = transaction_line source (codes "kept") d name k
outcome_text source d (Again name k) = transaction_line source (codes "again") d name k
outcome_text source d (Released name len) = transaction_line source (codes "released") d name len
outcome_text source d (PlainReleased len) = line_of (codes "plain" ∷ decimal len ∷ [])
outcome_text source d (ReportNoted service subtype) =
    line_of (codes "report" ∷ decimal service ∷ decimal subtype ∷ [])
outcome_text source d (AbortNoted name reason) =
    line_of (codes "abort" ∷ name_text source name ∷ decimal (reason_code reason) ∷ [])
outcome_text source d (Broken name reason) = transaction_line source (codes "broken") d name (reason_code reason)
outcome_text source d (Ignored why) = line_of (codes "ignored" ∷ why_name why ∷ [])

-- what an accepted event prints by its answer; nothing for an answer that isn't the event's own
abbrev pub answer_text : ℕ → Event → Answer → List ℕ
answer_text source (Open d name m) (Opened parts) = opened_text source d name parts
answer_text source (Send d name k) (Put n) = put_text n
answer_text source (Plain from flags service subtype body) (Put n) = put_text n
answer_text source (Lose n) Lost = lost_text n
answer_text source (Damage d b) (Put n) = put_text n
answer_text source (Take l n) (Took k) = took_text k
answer_text source (Deliver l) (Delivered o) = outcome_text source (lane_direction l) o
answer_text source (Finish d name) Finished = finished_text source d name
answer_text source (Tick side) (Clock t) = clock_text t
answer_text source (Expire side) (Expired d name) = expired_text source d name
answer_text source (Claim w) (Claimed boot job) = claimed_text boot job
answer_text source (Commit w) (Committed boot job) = committed_text boot job
answer_text source (Commit w) (Stale boot job) = stale_text boot job
answer_text source Apply (AppliedTo applied) = applied_text source applied
answer_text source (Retire d name) Retired = retired_text source d name
answer_text source (Restart side) (Restarted boot) = restarted_text side boot
answer_text source (Open d name m) _ = []
answer_text source (Send d name k) _ = []
answer_text source (Plain from flags service subtype body) _ = []
answer_text source (Lose n) _ = []
answer_text source (Damage d b) _ = []
answer_text source (Take l n) _ = []
answer_text source (Deliver l) _ = []
answer_text source (Finish d name) _ = []
answer_text source (Tick side) _ = []
answer_text source (Expire side) _ = []
answer_text source (Claim w) _ = []
answer_text source (Commit w) _ = []
answer_text source Apply _ = []
answer_text source (Retire d name) _ = []
answer_text source (Restart side) _ = []

-- what an accepted event prints
abbrev pub accepted_text : ℕ → Event → Reply → List ℕ
accepted_text source event reply = answer_text source event reply.answer

-- an event was refused
abbrev pub refused_text : StepFault → List ℕ
refused_text f = line_of (codes "refused" ∷ decimal (code_of f) ∷ name_of f ∷ [])

-- the line of this number is unreadable
abbrev pub unreadable_text : ℕ → List ℕ
unreadable_text n = codes "line " ++ (decimal n ++ (codes ": unreadable" ++ 10 ∷ []))

-- ---- what is shown

-- nothing to show
abbrev pub none_text : List ℕ
none_text = line_of (codes "none" ∷ [])

-- a journal has so many entries
abbrev pub journal_text : ℕ → List ℕ
journal_text n = line_of (codes "journal" ∷ decimal n ∷ [])

-- so many plain requests were released
abbrev pub plain_count_text : ℕ → List ℕ
plain_count_text n = line_of (codes "plain" ∷ decimal n ∷ [])

-- so many requests were executed
abbrev pub applied_count_text : ℕ → List ℕ
applied_count_text n = line_of (codes "applied" ∷ decimal n ∷ [])

-- the octets of the packet of this number, if there is one
abbrev pub packet_text : ℕ → Option (List ℕ) → List ℕ
packet_text n (Some m) = line_of (codes "packet" ∷ decimal n ∷ octets_text m ∷ [])
packet_text n None = line_of (codes "packet" ∷ decimal n ∷ codes "none" ∷ [])

-- whether nothing is left of a transaction
abbrev pub clear_text : Bool → List ℕ
clear_text clear = line_of (codes "clear" ∷ (if clear then codes "yes" else codes "no") ∷ [])

-- octets of a memory from an address on, if it has so many
abbrev pub memory_text : (id address : ℕ) → Option (List ℕ) → List ℕ
memory_text id address (Some m) =
    line_of (codes "memory" ∷ decimal id ∷ decimal address ∷ octets_text m ∷ [])
memory_text id address None =
    line_of (codes "memory" ∷ decimal id ∷ decimal address ∷ codes "none" ∷ [])

-- what stands before these octets
abbrev pub memory_front : (id address : ℕ) → List ℕ
memory_front id address = codes "memory " ++ (decimal id ++ (32 ∷ (decimal address ++ (32 ∷ []))))

-- a message that was released, by its transaction, or as a plain request
abbrev pub message_text : ℕ → Option (Direction × Name) → List ℕ → List ℕ
message_text source (Some of) m =
    line_of (direction_word of.0 ∷ name_text source of.1 ∷ octets_text m ∷ [])
message_text source None m = line_of (codes "plain" ∷ octets_text m ∷ [])

-- a release
abbrev pub release_text : ℕ → Release → List ℕ
release_text source r = message_text source r.of r.message

-- all releases, each in order; `none` if there is none
abbrev pub releases_text : ℕ → List Release → List ℕ
releases_text source [] = none_text
releases_text source (r ∷ rs) = flat_map (release_text source) (r ∷ rs)
