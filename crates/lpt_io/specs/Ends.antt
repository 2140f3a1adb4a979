-- How the program ends.
use Rattle.std.specs.Prelude.{Bool, true, false, Result, Ok, Err}
use Rattle.lpt_io.specs.declared.end.Failure.{Failure}
use Rattle.lpt_io.specs.declared.fault.Fault.{Fault}
use Rattle.lpt_io.specs.declared.fault.Status.{Status}
use Rattle.lpt_io.specs.declared.fault.Status.TheVariants.{Done, Refused}
use Rattle.lpt_io.specs.Faults.{status_of}

-- the fault of a failure
abbrev pub fault_of : Failure → Fault
fault_of it = it.fault

-- the status of work that was done, by whether something of it was refused
abbrev pub work_status : Bool → Status
work_status true = Refused
work_status false = Done

-- the status by which the program ends
abbrev pub end_status : Result Status Failure → Status
end_status (Ok status) = status
end_status (Err it) = status_of it.fault
