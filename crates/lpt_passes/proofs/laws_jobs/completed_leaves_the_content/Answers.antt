-- The lemmas say it, of what the calls and the image are proved to be.
use Rattle.lpt_passes.proofs.PlaceLemmas.{completed-places, loads-apart}
use Rattle.lpt_passes.proofs.laws_jobs.completed_leaves_the_content.Goals as goal

pub returns-clause-content : goal.returns-clause-content
returns-clause-content c =
    completed-places c.calls_carry_a_pass.ensures c.done_leaves_the_image.ensures

pub returns-clause-apart : goal.returns-clause-apart
returns-clause-apart c = loads-apart
