-- The requests so far were written.
use Rattle.std.proofs.Common.{◌≡◌, ◌≤◌, ◌++◌, ℕ, List, drop, map}
use Rattle.lpt_requests.specs.Cuts.{view}
use Rattle.lpt_requests.specs.Packets.{AllMean, first_fault, request_packets}
use Rattle.lpt_requests.proofs.packets.write_requests.Given as goal

abbrev pub invariant-loop-request : goal.invariant-loop-request
invariant-loop-request l = record {
  written :
      l.packets.items
      ++ request_packets l.apid l.source l.count l.flags (drop l.request-index l.requests)
      ≡ request_packets l.apid l.source l.fn.count l.flags l.requests;
  means : (more : List (List ℕ)) → AllMean l.apid more (map view (drop l.request-index l.requests))
      → AllMean l.apid (l.packets.items ++ more) (map view l.requests);
  count : l.count ≤ 16383;
  faults : first_fault (drop l.request-index l.requests) ≡ first_fault l.requests;
}
