-- What a reader has found in octets before it makes an end of it.
use Rattle.std.specs.Prelude.{◌≡◌, Result, Ok, Err}
use Rattle.lpt_state.specs.declared.fault.StateFault.{StateFault}
use Rattle.lpt_state.specs.declared.found.Found.{Found}
use Rattle.lpt_state.specs.Lastings.{Lasting}
use Rattle.lpt_state.specs.Verdicts.{runs_in}

-- what it says
abbrev pub state_found : Found → Lasting
state_found f = record {
  boot = f.boot;
  clock = f.clock;
  sent = runs_in f.sent.now;
  received = runs_in f.received.now;
}

-- what a reader answered is this verdict
abbrev pub Gives : Result Found StateFault → Result Lasting StateFault → Type 0
Gives (Ok f) v = v ≡ Ok (state_found f)
Gives (Err e) v = v ≡ Err e
