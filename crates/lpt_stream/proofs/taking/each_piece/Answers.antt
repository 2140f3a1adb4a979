-- Where a read failed.
use Rattle.std.proofs.Common.{◌≡◌, ap, inl, inr, Err}
use Rattle.lpt_text.specs.declared.fault.StreamFault.TheVariants as faults
use Rattle.lpt_stream.specs.declared.cut.Cut.TheVariants.{Sealed}
use Rattle.lpt_stream.proofs.TakeLemmas.{all-as}
use Rattle.lpt_stream.proofs.taking.each_piece.Goals as goal

pub returns-in-Err-clause-settled : goal.returns-in-Err-clause-settled
returns-in-Err-clause-settled g c = λ read.
    let fault : c.in-Err.fault ≡ faults.Read = cc in
    elim (c.in-Err.ensures.settled (ap Err fault)) [
      | inl h ↦ inl (all-as Sealed _ _ _ _ (λ ps p. (p.0.0.taker, p.0.1.1)) h)
      | inr h ↦ inr h
    ]
