-- Part after part.
use Rattle.std.proofs.Common.{◌∙◌, ap, sym, ℕ, ◌+◌, List, arith}
use Rattle.lpt_node.specs.Nodes.{NodeData}
use Rattle.lpt_node.specs.Sending.{part_sent}
use Rattle.lpt_spacecraft.specs.Serving.{first_sent}
use Rattle.lpt_spacecraft.proofs.ServingLemmas.{first_sent-next, sent-jobs, sent-next, sent-part, sent-some}
use Rattle.lpt_spacecraft.proofs.spacecraft.Spacecraft.send_parts.Goals as goal

pub loop-k-preserved : goal.loop-k-preserved
loop-k-preserved g c =
    let s = c.args.self.now in
    let name = c.args.name in
    let was = c.loop-k.invariant in
    let k = c.loop-k.k in
    let before = first_sent s.config s.node.at name k in
    let step = c.in-Ok.ensures.ok
    ∙ (λ i. part_sent (c.loop-k.self.same_side i) ((c.loop-k.self.same_config ∙ was.config) i)
    (was.node i) name (k + 1)) in
    record {
      node = ap (λ (x : NodeData × List ℕ). x.0) step
          ∙ sym (ap (λ (x : NodeData × List (List ℕ)). x.0)
          (first_sent-next s.config s.node.at name k));
      written = sent-next s.config s.node.at name k _ _ _ c.as_slice.result.now was.written
          c.in-Ok-write_out.ensures.ok
          (c.as_slice.ensures.same ∙ ap (λ (x : NodeData × List ℕ). x.1) step);
      config = was.config;
      memories = was.memories;
      jobs = ap (λ (x : NodeData × List ℕ). x.0.jobs) step ∙ sent-jobs s.config before.0 name
          (k + 1)
          ∙ sym (ap (λ (d : NodeData). d.jobs) was.node) ∙ was.jobs;
      told = c.in-Ok-write_out.ensures.writer ∙ was.told;
    }

-- a part couldn't be made
pub returns-in_default-clause-part : goal.returns-in_default-clause-part
returns-in_default-clause-part g c =
    let s = c.args.self.now in
    sent-some s.config s.node.at c.args.name c.loop-k.k c.args.total _ _ (omega arith)
    c.loop-k.invariant.written

-- or not written whole
pub returns-in-Err-clause-part : goal.returns-in-Err-clause-part
returns-in-Err-clause-part g c =
    let s = c.args.self.now in
    let name = c.args.name in
    let was = c.loop-k.invariant in
    let k = c.loop-k.k in
    let step = c.in-Ok.ensures.ok
    ∙ (λ i. part_sent (c.loop-k.self.same_side i) ((c.loop-k.self.same_config ∙ was.config) i)
    (was.node i) name (k + 1)) in
    sent-part s.config s.node.at name k c.args.total _ _ _ c.as_slice.result.now (omega arith)
    was.written
    c.in-Err.ensures.part (c.as_slice.ensures.same ∙ ap (λ (x : NodeData × List ℕ). x.1) step)
