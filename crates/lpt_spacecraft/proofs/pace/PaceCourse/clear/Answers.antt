-- Name after name.
use Rattle.std.proofs.Common.{◌∙◌, refl, sym}
use Rattle.lpt_spacecraft.specs.Flights.{due_now}
use Rattle.lpt_spacecraft.proofs.FlightLemmas.{clears-next, clears-none}
use Rattle.lpt_spacecraft.proofs.pace.PaceCourse.clear.Goals as goal

pub loop-used-init : goal.loop-used-init
loop-used-init c = record {
  clears = clears-none c.args.self.now.pace.reuse c.args.craft.now.node.at
      c.args.self.now.uses.items c.args.told.now.items;
  pace = refl;
  since = refl;
  memories = refl;
  config = refl;
  jobs = refl;
}

pub loop-used-preserved : goal.loop-used-preserved
loop-used-preserved c =
    let was = c.loop-used.invariant in
    let left = c.loop-used.self.uses.items in
    record {
      clears = clears-next c.args.self.now.pace.reuse c.args.craft.now.node.at
          c.loop-used.craft.node.at c.free.new.craft.node.at c.args.self.now.uses.items left
          c.pop_front.new.self.items c.args.told.now.items c.loop-used.told.items
          c.free.new.told.items c.in-Some.used
          (sym c.in-Some.is ∙ c.due.ensures
          ∙ (λ i. due_now (was.pace i).reuse (c.clock.ensures i) left))
          c.pop_front.ensures.rest c.free.ensures.node c.in_ok-free.ensures.told was.clears;
      pace = was.pace;
      since = was.since;
      memories = c.free.ensures.memories ∙ was.memories;
      config = c.free.ensures.config ∙ was.config;
      jobs = c.free.ensures.jobs ∙ was.jobs;
    }
