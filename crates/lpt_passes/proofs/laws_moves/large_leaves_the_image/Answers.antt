-- The pass of its request is done by what was heard, so it leaves the image.
use Rattle.std.proofs.Common.{List, subst, sym, ℕ}
use Rattle.lpt_passes.proofs.PassLemmas.{passes_leave_the_image}
use Rattle.lpt_ground.proofs.UplinkLemmas.{request-done, same-packets, without_nothing}
use Rattle.lpt_passes.proofs.ChainLemmas.{done-heard}
use Rattle.lpt_passes.specs.Chains.{WerePutOut}
use Rattle.lpt_passes.proofs.laws_moves.large_leaves_the_image.Goals as goal

pub returns : goal.returns
returns c k first xs x content place l terms w answers config can known fits apid loads pass put is
    =
    passes_leave_the_image k first xs x content terms.source place _ config can known fits pass
    (done-heard k first xs terms w.of_request (without_nothing answers) apid loads
    (subst (WerePutOut k first xs terms) (sym (same-packets answers)) put)
    (request-done l terms w answers is))
