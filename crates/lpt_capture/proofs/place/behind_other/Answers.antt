-- Of another form, or of none.
use Rattle.std.proofs.Common.{◌∙◌, ap, sym, Bool, if◌then◌else◌, [], ◌++◌}
use Rattle.lpt_capture.specs.declared.fault.CaptureFault.TheVariants.{Pcapng}
use Rattle.lpt_capture.specs.Captured.{broken_finding, sound}
use Rattle.lpt_capture.proofs.CaptureLemmas.{other_front}
use Rattle.lpt_capture.proofs.place.behind_other.Goals as goal

pub returns-then-is_pcapng-clause-found : goal.returns-then-is_pcapng-clause-found
returns-then-is_pcapng-clause-found c = λ b end.
    other_front c.args.head.now b c.requires end
    ∙ ap (λ (other : Bool). if other then broken_finding [] Pcapng
    else sound (c.args.head.now ++ b))
    (sym c.is_pcapng.ensures ∙ c.if-is_pcapng.true)

pub returns-else-is_pcapng-clause-found : goal.returns-else-is_pcapng-clause-found
returns-else-is_pcapng-clause-found c = λ b end.
    other_front c.args.head.now b c.requires end
    ∙ ap (λ (other : Bool). if other then broken_finding [] Pcapng
    else sound (c.args.head.now ++ b))
    (sym c.is_pcapng.ensures ∙ c.if-is_pcapng.false)
