-- The ticks that are due, and a packet.
use Rattle.std.proofs.Common.{◌≡◌, ◌∙◌, ◌+◌, ◌<◌, subst, sym, Some}
use Rattle.lpt_jobs.specs.Jobs.{jobs_numbered, Jobs}
use Rattle.lpt_spacecraft.specs.Flights.{Made, came_with, counted_on, inputs_served}
use Rattle.lpt_spacecraft.specs.Streams.{flight_of, plain, Breaks, Flies}
use Rattle.lpt_spacecraft.proofs.FoldLemmas.{any-err, behind-ticks, breaks-behind, breaks-ticks}
use Rattle.lpt_spacecraft.proofs.flying.serve_one.Goals as goal

pub take_next-requires-clause-room : goal.take_next-requires-clause-room
take_next-requires-clause-room g c =
    subst (λ (j : Jobs). jobs_numbered j + 1 < 18446744073709551616)
    (sym c.in_ok-tick_all.ensures.jobs) c.requires.room

-- both are done
pub returns-clause-ok : goal.returns-clause-ok
returns-clause-ok g c =
    let s = c.args.craft.now in
    let q = c.args.course.now in
    let mid = c.tick_all.new.craft in
    let r = c.tick_all.new.course in
    let b = c.args.octets.now in
    let ticked = c.in_ok-tick_all.ensures in
    let same : inputs_served mid.config (flight_of mid r) (came_with r.pace.every r.since b)
    ≡ inputs_served s.config (flight_of mid r) (came_with q.pace.every q.since b) =
    λ i. inputs_served (ticked.config i) (flight_of mid r)
    (came_with (ticked.pace i).every (ticked.since i) b) in
    behind-ticks s.config (flight_of s q) mid c.take_next.new.craft r c.take_next.new.course
    c.args.due (came_with q.pace.every q.since b) (g.K.Sink.contents c.args.out.now)
    (g.K.Sink.contents c.tick_all.new.out) (g.K.Sink.contents c.take_next.new.out)
    (Some c.args.told.now.items) (Some c.tick_all.new.told.items)
    (Some c.take_next.new.told.items) ticked.ok
    (subst (λ (x : Made). Flies x c.take_next.new.craft c.take_next.new.course
    (g.K.Sink.contents c.tick_all.new.out) (g.K.Sink.contents c.take_next.new.out)
    (Some c.tick_all.new.told.items) (Some c.take_next.new.told.items)) same
    c.in_ok-take_next.ensures.ok)

pub returns-clause-since : goal.returns-clause-since
returns-clause-since g c =
    let ticked = c.in_ok-tick_all.ensures in
    c.in_ok-take_next.ensures.since
    ∙ (λ i. counted_on (ticked.pace i).every (ticked.since i))

-- it broke off in the ticks
pub returns-in_err-tick_all-clause-breaks : goal.returns-in_err-tick_all-clause-breaks
returns-in_err-tick_all-clause-breaks g c =
    let s = c.args.craft.now in
    let q = c.args.course.now in
    any-err _ c.from_residual.result
    (breaks-ticks s.config (flight_of s q) c.args.due
    (came_with q.pace.every q.since c.args.octets.now) s.memories c.tick_all.new.craft.memories
    (g.K.Sink.contents c.args.out.now) (g.K.Sink.contents c.tick_all.new.out)
    c.in_err-tick_all.ensures.memories c.in_err-tick_all.ensures.part)

-- or in the packet
pub returns-in_err-take_next-clause-breaks : goal.returns-in_err-take_next-clause-breaks
returns-in_err-take_next-clause-breaks g c =
    let s = c.args.craft.now in
    let q = c.args.course.now in
    let mid = c.tick_all.new.craft in
    let r = c.tick_all.new.course in
    let b = c.args.octets.now in
    let ticked = c.in_ok-tick_all.ensures in
    let same : inputs_served mid.config (flight_of mid r) (came_with r.pace.every r.since b)
    ≡ inputs_served s.config (flight_of mid r) (came_with q.pace.every q.since b) =
    λ i. inputs_served (ticked.config i) (flight_of mid r)
    (came_with (ticked.pace i).every (ticked.since i) b) in
    any-err _ c.from_residual-in_err-take_next.result
    (breaks-behind s.config (flight_of s q) mid r c.args.due
    (came_with q.pace.every q.since b) s.memories c.take_next.new.craft.memories
    (g.K.Sink.contents c.args.out.now) (g.K.Sink.contents c.tick_all.new.out)
    (g.K.Sink.contents c.take_next.new.out) (Some c.args.told.now.items)
    (Some c.tick_all.new.told.items) ticked.memories ticked.ok
    (subst (λ (x : Made). Breaks mid.memories (plain x) c.take_next.new.craft.memories
    (g.K.Sink.contents c.tick_all.new.out) (g.K.Sink.contents c.take_next.new.out)) same
    c.in_err-take_next.ensures.breaks))
