-- What was read of the jobs is still for the memories.
use Rattle.std.proofs.Common.{◌∙◌, ap, sym}
use Rattle.lpt_events.specs.declared.config.Config.{Config}
use Rattle.lpt_memory.specs.Readings.{ReadJob, Source}
use Rattle.lpt_c_end.specs.Kept.{sizes_in}
use Rattle.lpt_c_end.proofs.ReadyLemmas.{ready_read}
use Rattle.lpt_c_end.proofs.end.End.hand_in.Goals as goal

-- one more was read, or a message in its place
pub invariant_of-self-clause-ready : goal.invariant_of-self-clause-ready
invariant_of-self-clause-ready c =
    let e = c.args.self.now in
    let read = c.reading.ensures ∙ ap (λ (p : ReadJob). p.read) c.in-Ok-prepare.ensures in
    let apid = ap (λ (s : Source). s.apid) read ∙ ap (λ (x : Config). x.apid) (sym e.same_config) in
    let sizes = ap (λ (s : Source). s.sizes) read in
    ready_read e.node c.claim.new.self c.commit.new.self (sizes_in e.memories) _ _ _ _ _ _
    c.in-Ok.ensures.ok
    c.claim.ensures.config c.in-Ok-claim.ensures.ok c.commit.ensures.config
    c.commit.ensures.committed
    apid sizes e.ready
