-- The requests so far were written, and what can't be of those that are left can't be of all.
use Rattle.std.proofs.Common.{◌≡◌, ◌≤◌, ◌++◌, drop}
use Rattle.std.specs.List.{AllByRecursion}
use Rattle.lpt_layout_requests.specs.declared.fault.RequestFault.{RequestFault}
use Rattle.lpt_layout_requests.specs.Meanings.{BodyMeans}
use Rattle.lpt_layout_requests.specs.Packets.{packets_as, AreMade, FirstFault}
use Rattle.lpt_layout_requests.proofs.packets.write_requests_as.Given as goal

abbrev pub invariant-loop-request : goal.invariant-loop-request
invariant-loop-request l = record {
  count : l.count ≤ 16383;
  written :
      l.packets.items
      ++ packets_as l.layout l.apid l.source l.count l.flags (drop l.request-index l.requests)
      ≡ packets_as l.layout l.apid l.source l.fn.count l.flags l.requests;
  made : AreMade l.layout l.apid l.source l.count l.flags (drop l.request-index l.requests)
      → AreMade l.layout l.apid l.source l.fn.count l.flags l.requests;
  means : AllByRecursion BodyMeans (drop l.request-index l.requests)
      → AllByRecursion BodyMeans l.requests;
  first_fault : (e : RequestFault)
      → FirstFault l.layout l.apid l.source l.count l.flags (drop l.request-index l.requests) e
      → FirstFault l.layout l.apid l.source l.fn.count l.flags l.requests e;
}
