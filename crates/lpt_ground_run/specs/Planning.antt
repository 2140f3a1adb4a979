-- The requests of a pass.
use Rattle.std.specs.Prelude.{◌≡◌, ◌≤◌, ℕ, ◌+◌, ◌-◌, ◌%◌, nat_le, nat_lt, if◌then◌else◌, List, length, map, Result, Ok, Err}
use Rattle.lpt_requests.specs.declared.request.Request.{Request}
use Rattle.lpt_requests.specs.declared.cut_fault.CutFault.{CutFault}
use Rattle.lpt_requests.specs.declared.cut_fault.CutFault.TheVariants as cuts
use Rattle.lpt_requests.specs.Cuts as asking
use Rattle.lpt_requests.specs.Cuts.{view}
use Rattle.lpt_ground.specs.declared.asked.Asked.{Asked}
use Rattle.lpt_ground.specs.Plans.{requests_planned}
use Rattle.lpt_ground_run.specs.declared.heads.Heads.{Heads}
use Rattle.lpt_ground_run.specs.declared.planning.PlanFault.{PlanFault}
use Rattle.lpt_ground_run.specs.declared.planning.PlanFault.TheVariants.{Empty, PastEnd, Narrow, NarrowCheck, Memory}

-- why what is asked can't be cut
abbrev pub fault_of : CutFault → PlanFault
fault_of cuts.Empty = Empty
fault_of cuts.PastEnd = PastEnd
fault_of cuts.Memory = Memory

-- how many octets a dump is of at most if a part has so many, 6 of which its report takes up
abbrev pub dump_each : (part_size : ℕ) → Result ℕ PlanFault
dump_each p = if nat_le p 6 then Err Narrow else Ok (p - 6)

-- how many octets a check is of at most if a part has so many: its report is as long as the load
-- of 6 octets
abbrev pub check_each : (part_size : ℕ) → Result ℕ PlanFault
check_each p = if nat_lt p 6 then Err NarrowCheck else Ok 4000

-- the heads of requests behind so many, which ask for no report of success
pub record IsBehind (h : Heads) (many : ℕ) (next : Heads) : Type 0 where
  pub apid : next.apid ≡ h.apid
  pub source : next.source ≡ h.source
  pub count : next.count ≡ (h.count + many) % 16384
  pub flags : next.flags ≡ 0

-- they are the pass of requests that ask this, no more than have a request ID of their own
pub record ArePlanned (h : Heads) (views : List asking.Asked) (asked : List Asked) : Type 0 where
  pub requests : List Request
  pub ask : map view requests ≡ views
  pub are : asked ≡ requests_planned h.apid h.source h.count h.flags requests
  pub few : length asked ≤ 16384
