-- A packet, from its delivery to the last report of what it released.
use Rattle.lpt_spacecraft.specs.Streams.{onboard}
use Rattle.std.proofs.Common.{refl}
use Rattle.std.specs.Prelude.{option_to_list}
use Rattle.lpt_spacecraft.specs.Serving.{worked_if}
use Rattle.lpt_spacecraft.proofs.ServingLemmas.{accepted-same, breaks-behind, breaks-first, taken-all, taken-breaks, taken-is}
use Rattle.lpt_spacecraft.proofs.spacecraft.Spacecraft.take.Goals as goal

pub returns-in-Ok-work_if-clause-ok : goal.returns-in-Ok-work_if-clause-ok
returns-in-Ok-work_if-clause-ok g c =
    let s = c.args.self.now in
    taken-all s.config (onboard s) (onboard c.work_if.new.self) c.args.octets.now
    c.accept_octets.new.self.at c.in-Ok.accepted (g.K.Sink.contents c.args.out.now)
    (g.K.Sink.contents c.write_one.new.out)
    (g.K.Sink.contents c.work_if.new.out)
    (accepted-same s.node.side s.node.config s.config s.node.at c.args.octets.now
    (c.accept_octets.new.self.at, c.in-Ok.accepted)
    s.same_side s.same_config c.in-Ok.ensures.ok)
    c.in-Ok-write_one.ensures.ok c.in-Ok-work_if.ensures.ok

pub returns-in-Ok-work_if-clause-done : goal.returns-in-Ok-work_if-clause-done
returns-in-Ok-work_if-clause-done g c =
    let s = c.args.self.now in
    taken-is s.config (onboard s) c.args.octets.now c.accept_octets.new.self.at c.in-Ok.accepted _
    (accepted-same s.node.side s.node.config s.config s.node.at c.args.octets.now
    (c.accept_octets.new.self.at, c.in-Ok.accepted)
    s.same_side s.same_config c.in-Ok.ensures.ok) refl c.in-Ok-work_if.ensures.done

-- its report wasn't written
pub returns-in-Err-clause-breaks : goal.returns-in-Err-clause-breaks
returns-in-Err-clause-breaks g c =
    let s = c.args.self.now in
    taken-breaks s.config (onboard s) c.args.octets.now c.accept_octets.new.self.at c.in-Ok.accepted
    s.memories
    (g.K.Sink.contents c.args.out.now) (g.K.Sink.contents c.write_one.new.out)
    (accepted-same s.node.side s.node.config s.config s.node.at c.args.octets.now
    (c.accept_octets.new.self.at, c.in-Ok.accepted)
    s.same_side s.same_config c.in-Ok.ensures.ok)
    (breaks-first s.memories s.memories (option_to_list c.in-Ok.accepted.packet)
    (worked_if s.config (record { node = c.accept_octets.new.self.at; memories = s.memories })
    c.in-Ok.accepted.released)
    (g.K.Sink.contents c.args.out.now) (g.K.Sink.contents c.write_one.new.out) refl
    c.in-Err.ensures.part)

-- what it released broke off
pub returns-in-Err-work_if-clause-breaks : goal.returns-in-Err-work_if-clause-breaks
returns-in-Err-work_if-clause-breaks g c =
    let s = c.args.self.now in
    taken-breaks s.config (onboard s) c.args.octets.now c.accept_octets.new.self.at
    c.in-Ok.accepted
    c.work_if.new.self.memories (g.K.Sink.contents c.args.out.now)
    (g.K.Sink.contents c.work_if.new.out)
    (accepted-same s.node.side s.node.config s.config s.node.at c.args.octets.now
    (c.accept_octets.new.self.at, c.in-Ok.accepted)
    s.same_side s.same_config c.in-Ok.ensures.ok)
    (breaks-behind s.memories c.work_if.new.self.memories (option_to_list c.in-Ok.accepted.packet)
    (worked_if s.config (record { node = c.accept_octets.new.self.at; memories = s.memories })
    c.in-Ok.accepted.released)
    (g.K.Sink.contents c.args.out.now) (g.K.Sink.contents c.write_one.new.out)
    (g.K.Sink.contents c.work_if.new.out)
    c.in-Ok-write_one.ensures.ok c.in-Err-work_if.ensures.breaks)
