-- The log that a journal tells.
use Rattle.std.specs.Prelude.{List, [], ◌∷◌}
use Rattle.lpt_events.specs.declared.config.Config.{Config}
use Rattle.lpt_events.specs.declared.entry.Opening.{Opening}
use Rattle.lpt_events.specs.declared.entry.Release.{Release}
use Rattle.lpt_acts.specs.Acts.{Act, Plain, Deliver, Expire, Apply, Retire, Restart}
use Rattle.lpt_events.specs.declared.reply.Answer.{Answer}
use Rattle.lpt_events.specs.declared.reply.Answer.TheVariants.{Delivered, Expired}
use Rattle.lpt_events.specs.Lanes.{lane_direction}
use Rattle.lpt_journal.specs.Journal.{SentPacket, Recorded, History}
use Rattle.lpt_journal.specs.Releases.{released_by}
use Rattle.lpt_apart.specs.Ends.{Opened, Asked, Released, Aborted, Left, Retired, Restarted, Log, with_abortion}

-- the log with these openings
abbrev pub with_openings : List Opening → Log → Log
with_openings [] log = log
with_openings (o ∷ os) log = Opened o.direction o.name o.message ∷ with_openings os log

-- the log with these releases, the first of them first
abbrev pub with_releases : List Release → Log → Log
with_releases [] log = log
with_releases (r ∷ rs) log = with_releases rs (Released r.of r.message ∷ log)

-- the log with the reception that an event's answer says expired or was broken off
abbrev pub with_ended : Act → Answer → Log → Log
with_ended (Deliver l) (Delivered o) log = with_abortion (lane_direction l) o log
with_ended (Expire side which) (Expired d name) log = Aborted d name ∷ log
with_ended _ answer log = log

-- the log with what was asked by these packets
abbrev pub with_asked : List SentPacket → Log → Log
with_asked [] log = log
with_asked (p ∷ ps) log = with_asked ps (Asked p.octets ∷ log)

-- the log with what an event, which puts these packets, is besides
abbrev pub with_event : Act → List SentPacket → Log → Log
with_event (Plain source flags service subtype body) puts log = with_asked puts log
with_event (Apply how) puts log = Left how ∷ log
with_event (Retire d name) puts log = Retired d name ∷ log
with_event (Restart side) puts log = Restarted side ∷ log
with_event _ puts log = log

-- the log with an entry behind this history
abbrev pub with_entry : Config → Recorded → History → Log → Log
with_entry c x h log =
    with_event x.event x.puts
    (with_openings x.opens
    (with_ended x.event x.reply.answer (with_releases (released_by c x h) log)))

-- the log that a history tells
abbrev pub log_told : Config → History → Log
log_told c [] = []
log_told c (x ∷ h) = with_entry c x h (log_told c h)
