-- The requests so far were planned.
use Rattle.std.proofs.Common.{◌≡◌, ◌≤◌, ◌++◌, drop}
use Rattle.lpt_ground.specs.Plans.{requests_planned}
use Rattle.lpt_ground.proofs.planning.plan_requests.Given as goal

abbrev pub invariant-loop-request : goal.invariant-loop-request
invariant-loop-request l = record {
  planned :
      l.asked.items
      ++ requests_planned l.apid l.source l.count l.flags (drop l.request-index l.requests)
      ≡ requests_planned l.apid l.source l.fn.count l.flags l.requests;
  count : l.count ≤ 16383;
}
