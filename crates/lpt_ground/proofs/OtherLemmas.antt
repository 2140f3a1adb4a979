-- Telemetry to another source is no report of a pass, and says nothing of its requests.
use Rattle.std.proofs.Common.{◌≡◌, ◌∙◌, ap, ℕ, Bool, false, List, Option, Some, None, arith}
use Rattle.std.specs.Prelude.{◌≢◌, ◌==◌, ◌||◌, is_some, if◌then◌else◌}
use Rattle.std.proofs.lemmas.Bool.Decides.{nat_tests}
use Rattle.lpt_pus.specs.Telemetry.{Telemetry, telemetry_in}
use Rattle.lpt_ground.specs.declared.asked.Terms.{Terms}
use Rattle.lpt_ground.specs.Passes.{PassState, octets_heard}
use Rattle.lpt_ground.specs.Telling.{addressed_to, report_of, requests_told, said_first, said_in}
use Rattle.lpt_ground.specs.Others.{OtherSourcesLeaveThePass}

to-another : (terms : Terms) (o : List ℕ) (t : Telemetry)
    → telemetry_in terms.apid o ≡ Some t
    → t.destination ≢ terms.source
    → report_of terms o ≡ None
unfolding report_of
to-another terms o t read other =
    let unlike : (t.destination == terms.source) ≡ false = grind (arith, nat_tests, other) in
    ap (λ (m : Option Telemetry). addressed_to terms.source m) read
    ∙ ap (λ (b : Bool). if b then Some t else None) unlike

unheard : (terms : Terms) (s : PassState) (o : List ℕ)
    → report_of terms o ≡ None
    → octets_heard terms s o ≡ s
unfolding octets_heard said_in
unheard terms s o none =
    ap (λ (m : Option Telemetry). record s {
      asked = requests_told s.asked o (said_first terms.starts s.asked m);
      news = is_some (said_first terms.starts s.asked m) || s.news;
    }) none

pub others-leave : OtherSourcesLeaveThePass
others-leave terms s o t read other = unheard terms s o (to-another terms o t read other)
