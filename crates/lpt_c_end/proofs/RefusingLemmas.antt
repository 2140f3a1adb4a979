-- What is told of a request that was refused.
use Rattle.std.proofs.Common.{◌≡◌, refl, None}
use Rattle.lpt_events.specs.declared.applied.Applied.TheVariants.{Code}
use Rattle.lpt_events.specs.declared.config.Config.{Config}
use Rattle.lpt_execution.specs.declared.ending.Ending.TheVariants.{Refused}
use Rattle.lpt_jobs.specs.Jobs.{Head, NoJob, NotReady, Ready}
use Rattle.lpt_node.specs.Jobs.{executed_so, refusal_apply_of}
use Rattle.lpt_node.specs.Nodes.{NodeData}
use Rattle.lpt_pus.specs.declared.failure_code.FailureCode.{FailureCode}

-- its failure code
pub refused_is_told : (c : Config) (d : NodeData) (code : FailureCode) (h : Head)
    → refusal_apply_of h ≡ None
    → (executed_so c d (λ r. Refused code) h).1.applied ≡ Code code
refused_is_told c d code NoJob none = absurd cc
refused_is_told c d code NotReady none = absurd cc
refused_is_told c d code (Ready r) none = refl
