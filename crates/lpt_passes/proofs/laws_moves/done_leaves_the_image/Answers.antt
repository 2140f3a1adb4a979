-- Where all were heard, the pass leaves the image.
use Rattle.lpt_passes.proofs.PassLemmas.{passes_leave_the_image}
use Rattle.lpt_passes.proofs.ChainLemmas.{done-heard}
use Rattle.lpt_passes.proofs.laws_moves.done_leaves_the_image.Goals as goal

pub returns : goal.returns
returns c k first xs x content place terms s answers config can known fits apid loads pass put done
    =
    passes_leave_the_image k first xs x content terms.source place _ config can known fits pass
    (done-heard k first xs terms s answers apid loads put done)
