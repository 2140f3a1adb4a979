-- The layouts of this project's own profile, and what its messages say in their words.
use Rattle.std.specs.Prelude.{[], true, Result, Ok, Err}
use Rattle.lpt_packet.specs.Numbers.{be}
use Rattle.lpt_pus.specs.declared.fault.PusFault.{PusFault}
use Rattle.lpt_pus.specs.Commands.{Command}
use Rattle.lpt_pus.specs.Telemetry.{Telemetry}
use Rattle.lpt_layout.specs.declared.layout.Layout.{Layout}
use Rattle.lpt_layout.specs.declared.layout.PartLayout.{PartLayout}
use Rattle.lpt_layout.specs.declared.layout.Version.TheVariants.{Two}
use Rattle.lpt_layout.specs.declared.width.Width.TheVariants.{Absent, Word}
use Rattle.lpt_layout.specs.Messages.{Said}

-- telemetry of version 2: a counter and an ID of 16 bits, four octets of time, a checksum
abbrev pub own_tm : Layout
own_tm = record {
  has_checksum = true;
  version = Two;
  counter = Word;
  user = Word;
  time = 4;
  spare = 0;
}

-- telecommands of version 2: an ID of 16 bits, a checksum
abbrev pub own_tc : Layout
own_tc = record {
  has_checksum = true;
  version = Two;
  counter = Absent;
  user = Word;
  time = 0;
  spare = 0;
}

-- parts with an identifier and a number of 16 bits
abbrev pub own_parts : PartLayout
own_parts = record { id = Word; number = Word }

-- what telemetry of the profile says
abbrev pub of_telemetry : Telemetry → Said
of_telemetry t = record {
  apid = t.apid;
  count = t.count;
  flags = t.status;
  service = t.service;
  subtype = t.subtype;
  counter = t.counter;
  user = t.destination;
  time = be t.time 4;
  spare = [];
  body = t.body;
}

-- what a telecommand of the profile says
abbrev pub of_command : Command → Said
of_command c = record {
  apid = c.apid;
  count = c.count;
  flags = c.flags;
  service = c.service;
  subtype = c.subtype;
  counter = 0;
  user = c.source;
  time = [];
  spare = [];
  body = c.body;
}

-- a verdict in these words
abbrev pub put_as : {X : Type 0} → (X → Said) → Result X PusFault → Result Said PusFault
put_as view (Ok x) = Ok (view x)
put_as view (Err e) = Err e
