use Rattle.lpt_script_views.proofs.RunEnds.{memory_ends}
use Rattle.lpt_world.specs.Worlds.{new_world}
use Rattle.lpt_script_views.proofs.viewing.run_views.Goals as goal

-- no memory for the world
pub returns-in-Err-Memory-clause-ends : goal.returns-in-Err-Memory-clause-ends
returns-in-Err-Memory-clause-ends g c =
    memory_ends (new_world c.args.config c.args.memories) (g.S.Source.remaining c.args.reader.now)
    (g.K.Sink.contents c.args.out.now) (g.S.Source.failed c.args.reader.now) (g.K.Sink.failed c.args.out.now)
