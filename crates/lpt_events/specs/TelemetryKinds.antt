-- The kinds of telemetry that the spacecraft makes.
use Rattle.std.specs.Prelude.{ℕ}
use Rattle.lpt_events.specs.declared.telemetry.TelemetryKind.{TelemetryKind}
use Rattle.lpt_events.specs.declared.telemetry.TelemetryKind.TheVariants.{Accepted, NotAccepted, Started, NotStarted, Completed, Dump, Check, FirstPart, MiddlePart, LastPart, Abort}

-- the service type of a kind of telemetry
abbrev pub service_of : TelemetryKind → ℕ
service_of Accepted = 1
service_of NotAccepted = 1
service_of Started = 1
service_of NotStarted = 1
service_of Completed = 1
service_of Dump = 6
service_of Check = 6
service_of FirstPart = 13
service_of MiddlePart = 13
service_of LastPart = 13
service_of Abort = 13

-- the message subtype of a kind of telemetry
abbrev pub subtype_of : TelemetryKind → ℕ
subtype_of Accepted = 1
subtype_of NotAccepted = 2
subtype_of Started = 3
subtype_of NotStarted = 4
subtype_of Completed = 7
subtype_of Dump = 6
subtype_of Check = 10
subtype_of FirstPart = 1
subtype_of MiddlePart = 2
subtype_of LastPart = 3
subtype_of Abort = 16

-- the place of a kind among all
abbrev pub place_of : TelemetryKind → ℕ
place_of Accepted = 0
place_of NotAccepted = 1
place_of Started = 2
place_of NotStarted = 3
place_of Completed = 4
place_of Dump = 5
place_of Check = 6
place_of FirstPart = 7
place_of MiddlePart = 8
place_of LastPart = 9
place_of Abort = 10
