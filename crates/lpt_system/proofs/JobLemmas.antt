-- An execution puts four packets on the link at most.
use Rattle.std.proofs.Common.{arith, ◌≡◌, ap, refl, ◌≤◌, ◌+◌, ℕ, suc, Bool, true, false, if◌then◌else◌, nat_le, List, [], ◌∷◌, ◌++◌, length, map, Option, Some, None}
use Rattle.std.proofs.lemmas.List.{length-append, length-map}
use Rattle.std.specs.List.{filter}
use Rattle.std.specs.Option.{option_map_or}
use Rattle.lpt_pus.specs.Codes.{number_of}
use Rattle.lpt_pus.specs.Commands.{Command, command_in}
use Rattle.lpt_pus.specs.Numbers.{long_at}
use Rattle.lpt_memory.specs.Memories.{Contents}
use Rattle.lpt_verify.specs.Reports.{success_if, failure, asks, acceptance_reports as acceptance, start_reports, completion_reports}
use Rattle.lpt_events.specs.declared.config.Config.{Config}
use Rattle.lpt_execution.specs.declared.ending.Ending.{Ending}
use Rattle.lpt_execution.specs.declared.ending.Ending.TheVariants.{Silent, Refused, Carried}
use Rattle.lpt_execution.specs.declared.ending.Report.{Report}
use Rattle.lpt_execution.specs.Endings.{is_small}
use Rattle.lpt_execution.specs.Reporting.{verification, data_report, reports_of, message_reports, request_source, link_packets}
use Rattle.lpt_jobs.specs.Jobs.{Head, NoJob as NoHead, NotReady, Ready, head_of}
use Rattle.lpt_node.specs.Jobs.{report_packets, ending_at, executed_of, job_executed}
use Rattle.lpt_node.specs.Nodes.{Sending, NodeData}
use Rattle.lpt_node.specs.Sending.{counted_kind}

-- a report that may be asked for is one at most
one_if : (b : Bool) (request subtype : ℕ) → length (success_if b request subtype) ≤ 1
one_if true request subtype = omega arith
one_if false request subtype = omega arith

-- the reports of a request are four at most
few_of : (request flags : ℕ) (end : Ending) → length (reports_of request flags end) ≤ 4
few_of request flags Silent = omega arith
few_of request flags (Refused code) = go (nat_le (number_of code) 2) where
  go : (b : Bool)
      → length (map verification (if b then failure request 2 (number_of code) ∷ [] else acceptance request flags ++ failure request 4 (number_of code) ∷ []))
      ≤ 4
  go true = omega arith
  go false =
      omega (
        arith,
        length-map (acceptance request flags ++ failure request 4 (number_of code) ∷ []) verification,
        length-append (acceptance request flags) (failure request 4 (number_of code) ∷ []),
        one_if (asks flags 1) request 1,
      )
few_of request flags (Carried r) =
    let before = acceptance request flags ++ start_reports request flags in
    let after = completion_reports request flags in
    let all : length (reports_of request flags (Carried r))
    ≡ length (map verification before ++ data_report r) + length (map verification after) =
    length-append (map verification before ++ data_report r) (map verification after) in
    omega (
      arith,
      all,
      length-append (map verification before) (data_report r),
      length-map before verification,
      length-map after verification,
      length-append (acceptance request flags) (start_reports request flags),
      one_if (asks flags 1) request 1,
      one_if (asks flags 2) request 3,
      one_if (asks flags 8) request 7,
      one_data r,
    ) where
      one_data : (r : Option Report) → length (data_report r) ≤ 1
      one_data None = omega arith
      one_data (Some x) = omega arith

few_reports : (apid : ℕ) (m : List ℕ) (end : Ending) → length (message_reports apid m end) ≤ 4
few_reports apid m end = go (command_in apid m) where
  go : (o : Option Command) → length (option_map_or (λ c. reports_of (long_at m 0) c.flags end) o []) ≤ 4
  go None = omega arith
  go (Some c) = few_of (long_at m 0) c.flags end

-- no more packets go on the link than reports were made
link_few : (p : ℕ) (made : List (Report × List ℕ)) → length (link_packets p made) ≤ length made
link_few p [] = omega arith
link_few p (x ∷ xs) = go (is_small p (length x.0.body)) (link_few p xs) where
  go : (b : Bool)
      → length (link_packets p xs) ≤ length xs
      → length (map (λ (y : Report × List ℕ). y.1) (if b then x ∷ filter (λ (y : Report × List ℕ). is_small p (length y.0.body)) xs else filter (λ (y : Report × List ℕ). is_small p (length y.0.body)) xs)) ≤ suc (length xs)
  go true few = omega (arith, few)
  go false few = omega (arith, few)

length-report_packets : (c : Config) (peer : ℕ) (s : Sending) (clock : ℕ) (rs : List Report)
    → length (report_packets c peer s clock rs) ≡ length rs
length-report_packets c peer s clock [] = refl
length-report_packets c peer s clock (r ∷ rs) =
    ap (λ n. suc n) (length-report_packets c peer (counted_kind s r.kind) clock rs)

-- an execution puts four packets on the link at most
pub few_packets : (c : Config) (d : NodeData) (ms : Contents)
    → length (job_executed c d ms).0.1.packets ≤ 4
few_packets c d ms = go (head_of d.jobs.jobs) where
  go : (at : Head) → length (executed_of c d ms at).0.1.packets ≤ 4
  go NoHead = omega arith
  go NotReady = omega arith
  go (Ready r) =
      let reports = message_reports r.apid r.message (ending_at c d ms r) in
      let peer = request_source r.apid r.message in
      let made = report_packets c peer d.sending d.clock reports in
      omega (
        arith,
        link_few c.part_size made,
        length-report_packets c peer d.sending d.clock reports,
        few_reports r.apid r.message (ending_at c d ms r),
      )
