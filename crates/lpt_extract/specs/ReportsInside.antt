-- What the code's reports stand for.
use Rattle.std.specs.Prelude.{map, Option, Some, None}
use Rattle.lpt_memory.specs.Requests.{LoadArea}
use Rattle.lpt_extract.specs.declared.seen_area.SeenArea.{SeenArea}
use Rattle.lpt_extract.specs.declared.report.Dump.{Dump}
use Rattle.lpt_extract.specs.declared.report.Dump.TheVariants as dumps
use Rattle.lpt_extract.specs.declared.report.Report.{Report}
use Rattle.lpt_extract.specs.declared.report.Report.TheVariants as seen
use Rattle.lpt_extract.specs.Reports.{DumpOrPart, ADump, APartOf, Saying, Other, APart, Foreign, Unread, Areas}

-- an area, as it stands in the body
abbrev pub load_area : SeenArea → LoadArea
load_area a = record { address = a.address; octets = a.octets.now; checksum = a.checksum }

-- what a report says
abbrev pub report_said : Report → Saying
report_said seen.Other = Other
report_said seen.OfPart = APart
report_said (seen.Foreign apid) = Foreign apid
report_said (seen.Unread n) = Unread n
report_said (seen.Areas m areas) = Areas (record { memory = m; areas = map load_area areas.items })

-- a dump report or a part that was found
abbrev pub dump_found : Option Dump → Option DumpOrPart
dump_found None = None
dump_found (Some (dumps.Report apid body)) = Some (ADump apid body.now)
dump_found (Some (dumps.PartOf apid)) = Some (APartOf apid)
