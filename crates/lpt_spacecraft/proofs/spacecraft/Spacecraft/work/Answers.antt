-- A request, from its claim to the last of its reports.
use Rattle.std.proofs.Common.{◌∙◌, ap, subst, refl}
use Rattle.std.specs.Io.KnownBytes.{Appends}
use Rattle.lpt_stream.specs.Streams.{all_octets}
use Rattle.lpt_events.specs.declared.config.Config.{Config}
use Rattle.lpt_memory.specs.Memories.{Contents}
use Rattle.lpt_memory.specs.Readings.{ReadJob, Job as Ticket}
use Rattle.lpt_node.specs.Jobs.{Execution, job_executed}
use Rattle.lpt_node.specs.Nodes.{NodeData}
use Rattle.lpt_spacecraft.specs.Serving.{all_sent}
use Rattle.lpt_spacecraft.specs.Streams.{onboard}
use Rattle.lpt_spacecraft.proofs.ServingLemmas.{claimed-message, done-is, executed-jobs, read-over, read_over-jobs, worked-breaks, worked-writes, written-front}
use Rattle.lpt_spacecraft.proofs.WritingLemmas.{part-behind, part-first}
use Rattle.lpt_text.specs.Streams.{AppendsPart}
use Rattle.lpt_spacecraft.proofs.spacecraft.Spacecraft.work.Goals as goal

pub returns-in-Ok-send_opened-clause-ok : goal.returns-in-Ok-send_opened-clause-ok
returns-in-Ok-send_opened-clause-ok g c =
    let s = c.args.self.now in
    let reading = c.reading-reading.ensures ∙ ap (λ (p : ReadJob). p.read) c.in-Ok-prepare.ensures
    ∙ (λ i. record {
      apid = s.config.apid;
      sizes = c.in-Ok.ensures i;
      message =
          c.in-Ok-claim.ticket.message;
    }) in
    let over = read-over s.config s.memories s.node.at c.claim.new.self.at c.commit.new.self.at
    c.in-Ok-claim.ticket
    c.boot-boot.result c.job-job.result c.reading-reading.result c.commit.result
    c.in-Ok-claim.ensures.ok c.boot-boot.ensures c.job-job.ensures reading
    c.commit.ensures.committed in
    let config = c.commit.ensures.config ∙ c.claim.ensures.config ∙ s.same_config in
    let runs = c.in-Ok-apply_front.ensures.ok
    ∙ ap (λ (k : Config). job_executed k c.commit.new.self.at s.memories) config in
    let sent = c.in-Ok-send_opened.ensures.ok in
    worked-writes s.config (onboard s) (onboard c.send_opened.new.self)
    c.commit.new.self.at _ _ _ _
    over runs
    (subst (λ bs. Appends (g.K.Sink.contents c.args.out.now) (g.K.Sink.contents c.write_all.new.out)
    (all_octets bs)) c.as_slice.ensures.value c.in-Ok-write_all.ensures.ok) sent.0 sent.1
    sent.2

pub returns-in-Ok-send_opened-clause-done : goal.returns-in-Ok-send_opened-clause-done
returns-in-Ok-send_opened-clause-done g c =
    let s = c.args.self.now in
    let reading = c.reading-reading.ensures ∙ ap (λ (p : ReadJob). p.read) c.in-Ok-prepare.ensures
    ∙ (λ i. record {
      apid = s.config.apid;
      sizes = c.in-Ok.ensures i;
      message =
          c.in-Ok-claim.ticket.message;
    }) in
    let over = read-over s.config s.memories s.node.at c.claim.new.self.at c.commit.new.self.at
    c.in-Ok-claim.ticket
    c.boot-boot.result c.job-job.result c.reading-reading.result c.commit.result
    c.in-Ok-claim.ensures.ok c.boot-boot.ensures c.job-job.ensures reading
    c.commit.ensures.committed in
    let config = c.commit.ensures.config ∙ c.claim.ensures.config ∙ s.same_config in
    let runs = c.in-Ok-apply_front.ensures.ok
    ∙ ap (λ (k : Config). job_executed k c.commit.new.self.at s.memories) config in
    let alone = ap (λ (d : NodeData). d.jobs.jobs) over
    ∙ read_over-jobs s.config s.memories s.node.at c.requires.0 c.requires.1 in
    let claims = ap (λ (x : NodeData × Ticket). x.1.message) c.in-Ok-claim.ensures.ok
    ∙ claimed-message s.node.at c.requires.0 c.requires.1 in
    done-is s.config (onboard s) c.commit.new.self.at _ _ _ over runs
    (written-front s.config.apid s.memories _ _ _ _ c.requires.0 c.written_by-wrote.ensures reading
    claims alone)
    (λ i. record {
      applied = c.in-Ok-apply_front.executed.applied;
      reports = (c.len-reports.ensures ∙ c.in-Ok-apply_front.executed.packets.ok.0) i;
      sent = c.in-Ok-send_opened.ensures.sent i;
      wrote = c.written_by-wrote.result;
    })

pub returns-in-Ok-send_opened-clause-idle : goal.returns-in-Ok-send_opened-clause-idle
returns-in-Ok-send_opened-clause-idle g c =
    let s = c.args.self.now in
    let reading = c.reading-reading.ensures ∙ ap (λ (p : ReadJob). p.read) c.in-Ok-prepare.ensures
    ∙ (λ i. record {
      apid = s.config.apid;
      sizes = c.in-Ok.ensures i;
      message =
          c.in-Ok-claim.ticket.message;
    }) in
    let over = read-over s.config s.memories s.node.at c.claim.new.self.at c.commit.new.self.at
    c.in-Ok-claim.ticket
    c.boot-boot.result c.job-job.result c.reading-reading.result c.commit.result
    c.in-Ok-claim.ensures.ok c.boot-boot.ensures c.job-job.ensures reading
    c.commit.ensures.committed in
    let config = c.commit.ensures.config ∙ c.claim.ensures.config ∙ s.same_config in
    let runs = c.in-Ok-apply_front.ensures.ok
    ∙ ap (λ (k : Config). job_executed k c.commit.new.self.at s.memories) config in
    let alone = ap (λ (d : NodeData). d.jobs.jobs) over
    ∙ read_over-jobs s.config s.memories s.node.at c.requires.0 c.requires.1 in
    ap (λ q. q.jobs) c.in-Ok-send_opened.ensures.jobs ∙ ap (λ (x : (NodeData × Execution) ×
    Contents). x.0.0.jobs.jobs)
    runs
    ∙ executed-jobs s.config c.commit.new.self.at s.memories _ alone

-- the reports weren't written
pub returns-in-Err-write_all-clause-breaks : goal.returns-in-Err-write_all-clause-breaks
returns-in-Err-write_all-clause-breaks g c =
    let s = c.args.self.now in
    let reading = c.reading-reading.ensures ∙ ap (λ (p : ReadJob). p.read) c.in-Ok-prepare.ensures
    ∙ (λ i. record {
      apid = s.config.apid;
      sizes = c.in-Ok.ensures i;
      message =
          c.in-Ok-claim.ticket.message;
    }) in
    let over = read-over s.config s.memories s.node.at c.claim.new.self.at c.commit.new.self.at
    c.in-Ok-claim.ticket
    c.boot-boot.result c.job-job.result c.reading-reading.result c.commit.result
    c.in-Ok-claim.ensures.ok c.boot-boot.ensures c.job-job.ensures reading
    c.commit.ensures.committed in
    let config = c.commit.ensures.config ∙ c.claim.ensures.config ∙ s.same_config in
    let runs = c.in-Ok-apply_front.ensures.ok
    ∙ ap (λ (k : Config). job_executed k c.commit.new.self.at s.memories) config in
    worked-breaks s.config (onboard s) c.commit.new.self.at _ c.apply_front.new.memories
    (g.K.Sink.contents c.args.out.now) (g.K.Sink.contents c.write_all.new.out) over runs refl
    (part-first (g.K.Sink.contents c.args.out.now) (g.K.Sink.contents c.write_all.new.out)
    c.in-Ok-apply_front.executed.packets.items
    (all_sent s.config c.apply_front.new.self.at c.in-Ok-apply_front.executed.opened).1
    (subst (λ bs. AppendsPart (g.K.Sink.contents c.args.out.now)
    (g.K.Sink.contents c.write_all.new.out) (all_octets bs))
    c.as_slice.ensures.value c.in-Err-write_all.ensures.part))

-- or the parts of the one that is too long
pub returns-clause-breaks : goal.returns-clause-breaks
returns-clause-breaks g c =
    let s = c.args.self.now in
    let reading = c.reading-reading.ensures ∙ ap (λ (p : ReadJob). p.read) c.in-Ok-prepare.ensures
    ∙ (λ i. record {
      apid = s.config.apid;
      sizes = c.in-Ok.ensures i;
      message =
          c.in-Ok-claim.ticket.message;
    }) in
    let over = read-over s.config s.memories s.node.at c.claim.new.self.at c.commit.new.self.at
    c.in-Ok-claim.ticket
    c.boot-boot.result c.job-job.result c.reading-reading.result c.commit.result
    c.in-Ok-claim.ensures.ok c.boot-boot.ensures c.job-job.ensures reading
    c.commit.ensures.committed in
    let config = c.commit.ensures.config ∙ c.claim.ensures.config ∙ s.same_config in
    let runs = c.in-Ok-apply_front.ensures.ok
    ∙ ap (λ (k : Config). job_executed k c.commit.new.self.at s.memories) config in
    worked-breaks s.config (onboard s) c.commit.new.self.at _
    c.send_opened.new.self.memories
    (g.K.Sink.contents c.args.out.now) (g.K.Sink.contents c.send_opened.new.out) over runs
    c.send_opened.ensures.memories
    (part-behind (g.K.Sink.contents c.args.out.now) (g.K.Sink.contents c.write_all.new.out)
    (g.K.Sink.contents c.send_opened.new.out) c.in-Ok-apply_front.executed.packets.items
    (all_sent s.config c.apply_front.new.self.at c.in-Ok-apply_front.executed.opened).1
    (subst (λ bs. Appends (g.K.Sink.contents c.args.out.now) (g.K.Sink.contents c.write_all.new.out)
    (all_octets bs))
    c.as_slice.ensures.value c.in-Ok-write_all.ensures.ok) c.in-Err-send_opened.ensures.part)
