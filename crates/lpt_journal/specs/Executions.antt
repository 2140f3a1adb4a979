-- What the oldest request answers, puts and opens that leaves the queue.
use Rattle.std.specs.Prelude.{ℕ, nat_lt, List, [], ◌∷◌, length, map, Option, Some, None, is_some}
use Rattle.std.specs.Option.{option_map_or}
use Rattle.lpt_packet.specs.declared.direction.Direction.TheVariants.{Down}
use Rattle.lpt_packet.specs.Names.{Name}
use Rattle.lpt_acts.specs.Acts.{Leaving, ending_by}
use Rattle.lpt_memory.specs.declared.effect.Effect.{Effect}
use Rattle.lpt_memory.specs.Effects.{answer}
use Rattle.lpt_memory.specs.Meanings.{meaning}
use Rattle.lpt_memory.specs.Memories.{Contents, sizes_of}
use Rattle.lpt_events.specs.TelemetryKinds.{service_of, subtype_of}
use Rattle.lpt_events.specs.MadePackets.{tm_made}
use Rattle.lpt_events.specs.declared.applied.Applied.{Applied}
use Rattle.lpt_events.specs.declared.config.Config.{Config}
use Rattle.lpt_events.specs.declared.entry.Opening.{Opening}
use Rattle.lpt_events.specs.declared.side.Side.TheVariants.{Craft}
use Rattle.lpt_execution.specs.declared.ending.Ending.{Ending}
use Rattle.lpt_execution.specs.declared.ending.Ending.TheVariants.{Silent}
use Rattle.lpt_execution.specs.declared.ending.Report.{Report}
use Rattle.lpt_execution.specs.Endings.{ending}
use Rattle.lpt_execution.specs.Reporting.{message_reports, request_source, link_packets, large_packets, opened_of, applied_of}
use Rattle.lpt_journal.specs.Journal.{SentPacket, History, with_all}
use Rattle.lpt_journal.specs.Jobs.{front_job, memories}
use Rattle.lpt_journal.specs.Receivers.{clock, limits}
use Rattle.lpt_journal.specs.Senders.{least_free, open_count, packets_made, count_after, counter_after}

-- what a message comes to, executed over these memories
abbrev pub effect_of : Config → Contents → List ℕ → Effect
effect_of c ms m = answer (meaning c.apid (sizes_of ms) m) ms

-- how a message ends that leaves so now; a report of data could be opened under a name of the
-- message's own source
abbrev pub ending_of : Config → Contents → History → Leaving → List ℕ → Ending
ending_of c first h how m =
    ending_by how
    (ending c.part_size (is_some (least_free h Down (request_source c.apid m)))
    (nat_lt (open_count h Down) (limits c h Craft).outgoing) (effect_of c (memories c first h) m))

-- how the oldest request ends that leaves so now; if there is none, that is refused
abbrev pub front_ending : Config → Contents → History → Leaving → Ending
front_ending c first h how =
    option_map_or (λ r. ending_of c first h how r.message) (front_job c h) Silent

-- its reports
abbrev pub front_reports : Config → Contents → History → Leaving → List Report
front_reports c first h how =
    option_map_or (λ r. message_reports c.apid r.message (ending_of c first h how r.message))
    (front_job c h) []

-- the source that its reports go to: that of its own header
abbrev pub front_source : Config → History → ℕ
front_source c h = option_map_or (λ r. request_source c.apid r.message) (front_job c h) 0

-- the packet of a report to this destination that the spacecraft makes after these, at this time
abbrev pub report_after : Config
    → (peer : ℕ)
    → (packets : List (List ℕ))
    → (time : ℕ)
    → Report
    → List ℕ
report_after c peer packets time r =
    tm_made c peer (count_after packets)
    (counter_after packets (service_of r.kind) (subtype_of r.kind)) time
    (service_of r.kind) (subtype_of r.kind) r.body

-- reports with the packets that the spacecraft makes of them, one after the other
abbrev pub reports_after : Config
    → (peer : ℕ)
    → (packets : List (List ℕ))
    → (time : ℕ)
    → List Report
    → List (Report × List ℕ)
reports_after c peer packets time [] = []
reports_after c peer packets time (r ∷ rs) =
    (r, report_after c peer packets time r)
    ∷ reports_after c peer (with_all packets (report_after c peer packets time r ∷ [])) time rs

-- the reports of the oldest request, with their packets
abbrev pub front_packets : Config → Contents → History → Leaving → List (Report × List ℕ)
front_packets c first h how =
    reports_after c (front_source c h) (packets_made h Down) (clock c h Craft)
    (front_reports c first h how)

-- the report of data that is opened, as it is too long for the link: its name, which is of the
-- request's own source, and its packet
abbrev pub front_opened : Config → Contents → History → Leaving → Option (Name × List ℕ)
front_opened c first h how =
    opened_of (least_free h Down (front_source c h))
    (large_packets c.part_size (front_packets c first h how))

-- what it answers
abbrev pub front_applied : Config → Contents → History → Leaving → Applied
front_applied c first h how =
    applied_of (front_ending c first h how) (front_opened c first h how)

-- what it puts on the link
abbrev pub front_puts : Config → Contents → History → Leaving → List SentPacket
front_puts c first h how =
    map (λ b. record { direction = Down; octets = b })
    (link_packets c.part_size (front_packets c first h how))

-- the opening of a name and a message that go down
abbrev pub opened_down : (place : ℕ) → Option (Name × List ℕ) → List Opening
opened_down place None = []
opened_down place (Some x) =
    record { place = place; direction = Down; name = x.0; message = x.1 } ∷ []

-- what it opens
abbrev pub front_opens : Config → Contents → History → Leaving → List Opening
front_opens c first h how = opened_down (length h) (front_opened c first h how)
