-- A packet is added to those of its length.
use Rattle.std.proofs.Common.{◌≡◌, ◌∙◌, ◌∷◌, ap, sym, subst, suc, All, arith, rules}
use Rattle.lpt_execution.specs.Ranges.{ReportFits}
use Rattle.lpt_node.specs.Executions.{with_counts}
use Rattle.lpt_node.specs.Jobs.{reports_made}
use Rattle.lpt_node.specs.Nodes.{Sending}
use Rattle.lpt_node.proofs.ExecutionLemmas.{link-added, large-added}
use Rattle.lpt_node.proofs.node.Node.report_packets.Goals as goal

pub loop-report-preserved : goal.loop-report-preserved
loop-report-preserved c =
    let node = c.args.self.now in
    let s = with_counts node.at.sending c.loop-report.made.counts in
    let t = with_counts node.at.sending c.add_report.new.made.counts in
    let rest = c.next.new.self.rest.items in
    let reports = c.loop-report.report-iterator.rest.items in
    let items : reports ≡ c.in-Some.report ∷ rest = search rules in
    record {
      packets =
          link-added node.config c.args.peer s t node.at.clock c.in-Some.report rest reports _ _ items
          c.in_ok-add_report.ensures.packets c.in_ok-add_report.ensures.counts
          ∙ c.loop-report.invariant.packets;
      large =
          large-added node.config c.args.peer s t node.at.clock c.in-Some.report rest reports _ _ items
          c.in_ok-add_report.ensures.large c.in_ok-add_report.ensures.counts
          ∙ c.loop-report.invariant.large;
      counts =
          ap (λ (sending : Sending). reports_made sending rest) c.in_ok-add_report.ensures.counts
          ∙ ap (reports_made s) (sym items)
          ∙ c.loop-report.invariant.counts;
      fits = c.in_ok-add_report.ensures.fits c.loop-report.invariant.fits;
      left = λ k d within.
          subst (All ReportFits) items c.loop-report.invariant.left (suc k) d (omega arith);
    }
