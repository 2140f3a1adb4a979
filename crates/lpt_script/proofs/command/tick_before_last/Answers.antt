use Rattle.std.proofs.Common.{rules, ◌+◌, ◌-◌, ◌∙◌, sym, ap}
use Rattle.lpt_script.specs.Scripts.{clock_ticked}
use Rattle.lpt_script.proofs.TickLemmas.{ticked_more, tick_ends}
use Rattle.lpt_script.proofs.command.tick_before_last.Goals as goal

-- a tick was refused
pub returns-in-Err-clause-err : goal.returns-in-Err-clause-err
returns-in-Err-clause-err c =
    tick_ends c.args.count (c.args.count + 1 - c.loop.counter) c.args.side c.args.world.now c.loop.world c.tick.new.world
    c.in-Err.fault (search rules) c.loop.invariant.0 c.in-Err.ensures.err.0 c.in-Err.ensures.err.1

-- a tick was done
pub loop-preserved : goal.loop-preserved
loop-preserved c =
    let more = ticked_more (c.args.count + 1 - c.loop.counter) (c.args.count + 1 - (c.loop.counter + 1)) c.args.side c.loop.world
    (search rules) (search rules) c.in-Ok.ensures.ok.0 in (
      c.loop.invariant.0 ∙ more ∙ sym
          (ap (clock_ticked (c.args.count + 1 - (c.loop.counter + 1)) c.args.side)
          c.in-Ok.ensures.ok.1),
      search rules,
      search rules,
    )
