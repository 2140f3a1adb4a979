use Rattle.std.proofs.Common.{refl}
use Rattle.lpt_script.proofs.LineLemmas.{taken_text}
use Rattle.lpt_script.specs.Scripts.{text_printed}
use Rattle.lpt_script_views.specs.Views.{view_text}
use Rattle.lpt_script_views.proofs.viewing.put_view.Goals as goal

-- the text was written
pub returns-in-Ok-clause-ends : goal.returns-in-Ok-clause-ends
returns-in-Ok-clause-ends g c =
    λ n. (refl, refl, refl, c.in-Ok.ensures.ends (view_text c.args.world.now c.args.view) c.print_view.ensures)

-- it could not be
pub returns-in-Err-clause-ends : goal.returns-in-Err-clause-ends
returns-in-Err-clause-ends g c =
    let w = c.args.world.now in
    λ n. taken_text (text_printed w (view_text w c.args.view)) n c.in-Err.fault w
    (g.K.Sink.contents c.args.out.now) (g.K.Sink.contents c.put.new.out)
    (c.in-Err.ensures.ends (view_text w c.args.view) c.print_view.ensures)
