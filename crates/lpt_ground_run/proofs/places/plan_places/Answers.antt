-- The requests of the next place stand behind those of the places before it.
use Rattle.std.proofs.Common.{rules, ◌≡◌, ◌++◌, length}
use Rattle.lpt_ground_run.proofs.ErrandLemmas.{asked-next}
use Rattle.lpt_ground_run.proofs.places.plan_places.Goals as goal

pub loop-one-preserved : goal.loop-one-preserved
loop-one-preserved c =
    let asked = c.loop-one.asked.items in
    let planned = c.in_ok-planned.planned.items in
    let many : c.len.result ≡ length asked = search rules in
    let all : c.append.new.self.items ≡ asked ++ planned = search rules in
    asked-next c.args.heads.now c.heads_at-next.result c.args.places.now c.loop-one.one-index _
    c.args.areas.now asked planned c.append.new.self.items c.len.result c.loop-one-test.true
    c.loop-one.invariant c.heads_at-next.ensures many c.in_ok-planned.ensures all
