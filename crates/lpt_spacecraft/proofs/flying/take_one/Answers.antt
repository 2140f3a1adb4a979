-- A packet, and what became of it.
use Rattle.std.proofs.Common.{ap, inr}
use Rattle.lpt_stream.specs.Streams.{all_octets}
use Rattle.lpt_text.proofs.StreamLemmas.{part_whole}
use Rattle.lpt_spacecraft.specs.Serving.{Onboard, packet_taken}
use Rattle.lpt_spacecraft.specs.Streams.{onboard}
use Rattle.lpt_spacecraft.specs.Telling.{taken_in, took}
use Rattle.lpt_spacecraft.proofs.FlightLemmas.{noting-flies}
use Rattle.lpt_spacecraft.proofs.flying.take_one.Goals as goal

pub returns-in-Ok-note_taken-clause-ok : goal.returns-in-Ok-note_taken-clause-ok
returns-in-Ok-note_taken-clause-ok g c =
    let s = c.args.craft.now in
    noting-flies s c.take.new.self c.args.course.now c.note_taken.new.self
    (packet_taken s.config (onboard s) c.args.octets.now) (took c.in-Ok.taken)
    (took (taken_in s.config (onboard s) c.args.octets.now)) (g.K.Sink.contents c.args.out.now)
    (g.K.Sink.contents c.take.new.out) c.args.told.now.items c.note_taken.new.told.items
    c.in-Ok-note_taken.ensures.pace c.in-Ok.ensures.ok.0 c.in-Ok.ensures.ok.1
    (ap took c.in-Ok.ensures.done) c.in-Ok-note_taken.ensures.uses c.in-Ok-note_taken.ensures.told

-- it couldn't be noted
pub returns-in-Err-note_taken-clause-breaks : goal.returns-in-Err-note_taken-clause-breaks
returns-in-Err-note_taken-clause-breaks g c =
    let s = c.args.craft.now in (
      inr (ap (λ (o : Onboard). o.memories) c.in-Ok.ensures.ok.0),
      part_whole (g.K.Sink.contents c.args.out.now) (g.K.Sink.contents c.take.new.out)
          (all_octets (packet_taken s.config (onboard s) c.args.octets.now).1) c.in-Ok.ensures.ok.1,
    )
