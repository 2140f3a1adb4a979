-- What the verification reports of a stream tell of requests.
use Rattle.std.specs.Prelude.{ℕ, ◌==◌, if◌then◌else◌, true, List, [], ◌∷◌, map, Option, Some, None, Result, Ok, Err}
use Rattle.std.specs.Option.{option_map_or, option_or}
use Rattle.lpt_packet.specs.declared.fault.PacketFault.{PacketFault}
use Rattle.lpt_packet.specs.declared.packet.PacketKind.TheVariants.{Tm}
use Rattle.lpt_packet.specs.Packets.{Sight, IdlePacket, APacket}
use Rattle.lpt_pus.specs.declared.fault.PusFault.{PusFault}
use Rattle.lpt_layout.specs.declared.layout.Layout.{Layout}
use Rattle.lpt_layout.specs.Messages.{Said, message_verdict}
use Rattle.lpt_layout.specs.Packets.{verdict_as}
use Rattle.lpt_requests.specs.declared.notice.FailureNotice.{FailureNotice}
use Rattle.lpt_requests.specs.declared.reading_failures.RequestReport.{RequestReport}
use Rattle.lpt_requests.specs.Failures.{any_report_in}
use Rattle.lpt_stream.specs.Pieces.{Piece}
use Rattle.lpt_outcomes.specs.declared.asked.Asked.{Asked}
use Rattle.lpt_outcomes.specs.declared.news.ReportNews.{ReportNews}
use Rattle.lpt_outcomes.specs.declared.outcome.Outcome.{Outcome}
use Rattle.lpt_outcomes.specs.declared.passed.Beside.{Beside}
use Rattle.lpt_outcomes.specs.declared.passed.Beside.TheVariants.{Foreign, Unread, Quiet}
use Rattle.lpt_outcomes.specs.Keys.{key_of, reported_key, same_key}
use Rattle.lpt_outcomes.specs.Passing.{all_found}

-- ---- a report

-- a report to this destination, of this subtype
abbrev pub news : (destination subtype : ℕ) → RequestReport → ReportNews
news destination subtype r = record { destination = destination; subtype = subtype; report = r }

-- the body of a verification report to this destination, of this subtype; one of progress that
-- succeeded (5) tells of nothing that is waited for
abbrev pub news_of_body : (destination subtype : ℕ) → List ℕ → Result ReportNews Beside
news_of_body destination subtype body =
    option_map_or (λ r. Ok (news destination subtype r)) (any_report_in subtype body)
    (if subtype == 5 then Err Quiet else Err Unread)

-- a packet that is read as telemetry, or isn't
abbrev pub news_by : Result Said PusFault → Result ReportNews Beside
news_by (Ok s) = if s.service == 1 then news_of_body s.user s.subtype s.body else Err Quiet
news_by (Err e) = Err Foreign

-- octets of this verdict: of a packet without a secondary header there is nothing to tell
abbrev pub news_as : Layout → Result Sight PacketFault → Result ReportNews Beside
news_as l (Ok IdlePacket) = Err Quiet
news_as l (Ok (APacket f)) = news_by (message_verdict l Tm f)
news_as l (Err e) = Err Quiet

-- what a packet's octets tell of a request by this layout, or what they are beside
unfoldable pub news_in : Layout → List ℕ → Result ReportNews Beside
news_in l b = news_as l (verdict_as l.has_checksum b)

-- what a stream of these pieces tells
abbrev pub news_of : Layout → List Piece → List ReportNews
news_of l pieces = all_found (news_in l) pieces

-- ---- what it tells

-- a report of this subtype, of success or of a failure: of several failures the first counts
abbrev pub told_by : Outcome → (subtype : ℕ) → (failure : Option FailureNotice) → Outcome
told_by o subtype (Some notice) = record o { failure = option_or o.failure (Some notice) }
told_by o subtype None =
    if subtype == 1 then (record o { accepted = true })
    else if subtype == 3 then (record o { started = true })
    else (record o { completed = true })

-- an outcome with what a report tells
abbrev pub outcome_told : Outcome → ReportNews → Outcome
outcome_told o n = told_by o n.subtype n.report.failure

-- a request with it, if the report is on this one
abbrev pub news_heard : ReportNews → Asked → Asked
news_heard n a =
    if same_key (reported_key n) (key_of a) then (record a { outcome = outcome_told a.outcome n })
    else a

-- requests with what reports tell, one after the other
abbrev pub all_heard : List Asked → List ReportNews → List Asked
all_heard requests [] = requests
all_heard requests (n ∷ ns) = all_heard (map (news_heard n) requests) ns
