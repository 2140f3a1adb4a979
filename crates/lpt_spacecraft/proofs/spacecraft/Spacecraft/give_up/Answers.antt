-- Reception after reception.
use Rattle.std.proofs.Common.{◌≡◌, ◌∙◌, ap, sym, subst, ℕ, List, [], ◌++◌, append_assoc, arith}
use Rattle.std.specs.Io.KnownBytes.{Appends}
use Rattle.lpt_events.specs.declared.config.Config.{Config}
use Rattle.lpt_node.specs.Nodes.{NodeData}
use Rattle.lpt_node.specs.Times.{due}
use Rattle.lpt_text.specs.Streams.{AppendsPart}
use Rattle.lpt_stream.specs.Streams.{all_octets}
use Rattle.lpt_spacecraft.specs.Serving.{then_expired}
use Rattle.lpt_spacecraft.specs.Telling.{first_given_up, gave_up}
use Rattle.lpt_spacecraft.proofs.ServingLemmas.{expired-next, expired-part, expired-step, given_up-next}
use Rattle.lpt_spacecraft.proofs.spacecraft.Spacecraft.give_up.Goals as goal

pub loop-k-preserved : goal.loop-k-preserved
loop-k-preserved g c =
    let s = c.args.self.now in
    let was = c.loop-k.invariant in
    let k = c.loop-k.k in
    let same : c.loop-k.self.config ≡ s.config = was.config in
    record {
      node = c.in-Ok.ensures.ok.0
          ∙ (λ i. (then_expired (same i) (was.node i, [])).0)
          ∙ ap (λ (x : NodeData × List (List ℕ)). x.0) (sym (expired-next s.config s.node.at k));
      written = expired-step s.config s.node.at c.loop-k.self.node.at k _ _ _ was.node was.written
          (subst (λ (z : Config). Appends (g.K.Sink.contents c.loop-k.out)
          (g.K.Sink.contents c.give_up_one.new.out)
          (all_octets (then_expired z (c.loop-k.self.node.at, [])).1)) same
          c.in-Ok.ensures.ok.2);
      config = c.in-Ok.ensures.config ∙ was.config;
      memories = c.in-Ok.ensures.memories ∙ was.memories;
      jobs = c.in-Ok.ensures.jobs ∙ was.jobs;
      given = c.in-Ok.ensures.told
          ∙ ap (λ ts. ts ++ gave_up (due c.loop-k.self.config c.loop-k.self.node.at)) was.given
          ∙ append_assoc c.args.told.now.items (first_given_up s.config s.node.at k)
          (gave_up (due c.loop-k.self.config c.loop-k.self.node.at))
          ∙ (λ i. c.args.told.now.items ++ (first_given_up s.config s.node.at k
          ++ gave_up (due (same i) (was.node i))))
          ∙ ap (λ ts. c.args.told.now.items ++ ts) (sym (given_up-next s.config s.node.at k));
      writer = c.in-Ok.ensures.writer ∙ was.writer;
    }

pub returns-in-Err-clause-part : goal.returns-in-Err-clause-part
returns-in-Err-clause-part g c =
    let s = c.args.self.now in
    let was = c.loop-k.invariant in
    expired-part s.config s.node.at c.loop-k.self.node.at c.loop-k.k c.args.most _ _ _ (omega arith)
    was.node was.written
    (subst (λ (z : Config). AppendsPart (g.K.Sink.contents c.loop-k.out)
    (g.K.Sink.contents c.give_up_one.new.out)
    (all_octets (then_expired z (c.loop-k.self.node.at, [])).1)) was.config c.in-Err.ensures.part)
