-- What was read of a packet, as the code has it.
use Rattle.lpt_compare.specs.declared.reading.Said.{Said}
use Rattle.lpt_compare.specs.declared.reading.Said.TheVariants as said
use Rattle.lpt_compare.specs.Checks.{Saying, Areas, Unread, APart, Foreign, Other}

abbrev pub saying_of : Said → Saying
saying_of (said.Areas areas) = Areas areas.items
saying_of said.Unread = Unread
saying_of said.Part = APart
saying_of (said.Foreign apid) = Foreign apid
saying_of said.Other = Other
