-- A packet that changes nothing of what is kept.
use Rattle.std.proofs.Common.{Some}
use Rattle.lpt_spacecraft.proofs.ChangeLemmas.{still-kept}
use Rattle.lpt_spacecraft.proofs.serving.serve_packet.Goals as goal

pub keep_changed-requires : goal.keep_changed-requires
keep_changed-requires g c =
    still-kept (g.H.Keeper.kept c.args.keeper.now) c.args.craft.now c.serve_one.new.craft
    c.args.course.now c.serve_one.new.course c.args.due c.args.octets.now
    (Some c.new-made.result.inner.items) (Some c.serve_one.new.out.inner.items)
    c.new-told.result.items c.serve_one.new.told.items c.serve_one.ensures.config
    c.new-told.ensures.items c.in-Ok.ensures.ok c.requires.kept
    c.ticks_with-ticked.result c.deref.result.now c.ticks_with-ticked.ensures
    c.deref.ensures.value
