-- The packets so far, with those of the reports that are left.
use Rattle.std.proofs.Common.{◌≡◌, ◌++◌, length, All}
use Rattle.lpt_execution.specs.Ranges.{ReportFits}
use Rattle.lpt_execution.specs.Reporting.{large_packets, link_packets}
use Rattle.lpt_node.specs.Executions.{with_counts}
use Rattle.lpt_node.specs.Jobs.{report_packets, reports_made}
use Rattle.lpt_node.specs.Nodes.{MessageFits}
use Rattle.lpt_node.proofs.node.Node.report_packets.Given as goal

abbrev pub invariant-loop-report : goal.invariant-loop-report
invariant-loop-report l = record {
  packets :
      l.made.packets.items
      ++ link_packets l.fn.self.config.part_size
      (report_packets l.fn.self.config l.fn.peer (with_counts l.fn.self.at.sending l.made.counts)
      l.fn.self.at.clock l.report-iterator.rest.items)
      ≡ link_packets l.fn.self.config.part_size
      (report_packets l.fn.self.config l.fn.peer l.fn.self.at.sending l.fn.self.at.clock l.fn.reports.items);
  large :
      l.made.large.items
      ++ large_packets l.fn.self.config.part_size
      (report_packets l.fn.self.config l.fn.peer (with_counts l.fn.self.at.sending l.made.counts)
      l.fn.self.at.clock l.report-iterator.rest.items)
      ≡ large_packets l.fn.self.config.part_size
      (report_packets l.fn.self.config l.fn.peer l.fn.self.at.sending l.fn.self.at.clock l.fn.reports.items);
  counts :
      reports_made (with_counts l.fn.self.at.sending l.made.counts) l.report-iterator.rest.items
      ≡ reports_made l.fn.self.at.sending l.fn.reports.items;
  fits : All (λ m. MessageFits l.fn.self.config.part_size (length m)) l.made.large.items;
  left : All ReportFits l.report-iterator.rest.items;
}
