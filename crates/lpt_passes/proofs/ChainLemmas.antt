-- What settled a load is a report of its completion.
use Rattle.std.proofs.Common.{◌≡◌, ◌∙◌, refl, sym, ap, subst, ℕ, Bool, true, false, cond, ◌==◌, ◌&&◌, ◌||◌, List, Option, Some, None, ◌⊎◌, inl, inr, arith, if◌then◌else◌, map}
use Rattle.std.specs.List.{slice_get}
use Rattle.std.specs.Option.{option_map}
use Rattle.std.specs.Prelude.{is_some}
use Rattle.std.proofs.lemmas.Option.{slice_get-map}
use Rattle.std.proofs.lemmas.Bool.Decides.{nat_tests}
use Rattle.lpt_packet.specs.declared.direction.Direction.TheVariants.{Down}
use Rattle.lpt_pus.specs.Numbers.{long_at}
use Rattle.lpt_pus.specs.Telemetry.{Telemetry, telemetry_in}
use Rattle.lpt_memory.specs.Memories.{Contents}
use Rattle.lpt_verify.specs.declared.report.Report.{Report}
use Rattle.lpt_verify.specs.Reading.{report_in}
use Rattle.lpt_requests.specs.declared.notice.FailureNotice.{FailureNotice}
use Rattle.lpt_requests.specs.declared.reading_failures.RequestReport.{RequestReport}
use Rattle.lpt_requests.specs.Failures.{any_report_in, success_of}
use Rattle.lpt_requests.proofs.FailureLemmas.{success-read}
use Rattle.lpt_events.specs.declared.config.Config.{Config}
use Rattle.lpt_apart.specs.Ends.{Move}
use Rattle.lpt_passes.specs.Reported.{IsVerification}
use Rattle.lpt_passes.specs.Passes.{AllHeard, WasHeard}
use Rattle.lpt_ground.specs.declared.asked.Asked.{Asked}
use Rattle.lpt_ground.specs.declared.asked.Awaits.{Awaits}
use Rattle.lpt_ground.specs.declared.asked.Awaits.TheVariants.{Completion}
use Rattle.lpt_ground.specs.declared.asked.Terms.{Terms}
use Rattle.lpt_ground.specs.declared.pass.End.TheVariants.{Done}
use Rattle.lpt_ground.specs.declared.pass.Step.TheVariants.{Stop}
use Rattle.lpt_ground.specs.declared.telling.Said.{Said}
use Rattle.lpt_ground.specs.declared.telling.Said.TheVariants as said
use Rattle.lpt_ground.specs.Carrying.{AllCome, Answer, WasTold, come_to, packets_of}
use Rattle.lpt_ground.specs.Passes.{PassState, next_step, octets_heard}
use Rattle.lpt_ground.specs.Telling.{addressed_to, is_answer, is_success, report_of, requests_told, said_by, said_first, said_in, said_of, said_with}
use Rattle.lpt_ground.proofs.CarryLemmas.{done-told, each-comes}
use Rattle.lpt_passes.specs.Chains.{AreLoads, IsLoad, IsPutOut, OthersLeaveThePass, WasPutOut, WerePutOut, messages_of}

-- telemetry is a report of start or completion, on this request ID
record IsCompletion (t : Telemetry) (id : ℕ) : Type 0 where
  pub of_service : t.service ≡ 1
  pub report : Report
  pub is_report : report_in t.subtype t.body ≡ Some report
  pub of_request : report.request.value ≡ id
  pub of_subtype : (t.subtype ≡ 3) ⊎ (t.subtype ≡ 7)

-- ---- what is said of a load

success : (subtype : ℕ) (starts seven three : Bool)
    → (subtype == 7) ≡ seven
    → (subtype == 3) ≡ three
    → (seven || (starts && three)) ≡ true
    → (subtype ≡ 3) ⊎ (subtype ≡ 7)
success subtype starts true three is7 is3 is = inr (grind (arith, nat_tests))
success subtype true false true is7 is3 is = inl (grind (arith, nat_tests))
success subtype true false false is7 is3 is = absurd cc
success subtype false false three is7 is3 is = absurd cc

with-done : (failure : Option FailureNotice) (b : Bool) → said_with failure b ≡ Some said.Done
    → (failure ≡ None) × (b ≡ true)
with-done (Some notice) b is = absurd cc
with-done None true is = (refl, refl)
with-done None false is = absurd cc

by-report : (starts : Bool) (t : Telemetry) (a : Asked) (r : RequestReport) (same : Bool)
    → a.awaits ≡ Completion
    → t.service ≡ 1
    → any_report_in t.subtype t.body ≡ Some r
    → (r.request.value == a.id) ≡ same
    → (if same then said_with r.failure (is_success starts a.awaits t.subtype) else None)
    ≡ Some said.Done
    → IsCompletion t a.id
by-report starts t a r false awaits one read is_same is = absurd cc
by-report starts t a r true awaits one read is_same is =
    let done = with-done r.failure (is_success starts a.awaits t.subtype) is in
    let awaited : is_success starts a.awaits t.subtype ≡ true = done.1 in
    record {
      of_service = one;
      report = success_of r;
      is_report = success-read t.subtype t.body r read done.0;
      of_request = grind (arith, nat_tests);
      of_subtype =
          success t.subtype starts (t.subtype == 7) (t.subtype == 3) refl refl
          (subst (λ (w : Awaits). is_success starts w t.subtype ≡ true) awaits awaited);
    }

by-option : (starts : Bool) (t : Telemetry) (a : Asked) (m : Option RequestReport)
    → a.awaits ≡ Completion
    → t.service ≡ 1
    → any_report_in t.subtype t.body ≡ m
    → said_by starts a t.subtype m ≡ Some said.Done
    → IsCompletion t a.id
by-option starts t a None awaits one read is = absurd cc
by-option starts t a (Some r) awaits one read is =
    by-report starts t a r (r.request.value == a.id) awaits one read refl is

no-answer : (six : Bool) (w : Awaits) (subtype : ℕ) (body : List ℕ)
    → w ≡ Completion
    → (if six && is_answer w subtype body then Some said.Done else None) ≡ Some said.Done
    → ⊥
no-answer six w subtype body awaits is =
    none six (subst (λ (v : Awaits).
    (if six && is_answer v subtype body then Some said.Done else None) ≡ Some said.Done) awaits is)
  where
    none : (b : Bool) → (if b && false then Some said.Done else None) ≡ Some said.Done → ⊥
    none true is = cc
    none false is = cc

by-service : (starts : Bool) (t : Telemetry) (a : Asked) (one : Bool)
    → a.awaits ≡ Completion
    → (t.service == 1) ≡ one
    → (if one then said_by starts a t.subtype (any_report_in t.subtype t.body)
    else if t.service == 6 && is_answer a.awaits t.subtype t.body then Some said.Done
    else None) ≡ Some said.Done
    → IsCompletion t a.id
by-service starts t a true awaits is_one is =
    by-option starts t a (any_report_in t.subtype t.body) awaits (grind (arith, nat_tests)) refl is
by-service starts t a false awaits is_one is =
    absurd (no-answer (t.service == 6) a.awaits t.subtype t.body awaits is)

completion : (starts : Bool) (t : Telemetry) (a : Asked)
    → a.awaits ≡ Completion
    → said_of starts t a ≡ Some said.Done
    → IsCompletion t a.id
unfolding said_of
completion starts t a awaits is = by-service starts t a (t.service == 1) awaits refl is

-- ---- what was heard

-- telemetry of this APID that goes to this source
record IsFor (apid from : ℕ) (o : List ℕ) (t : Telemetry) : Type 0 where
  pub is_read : telemetry_in apid o ≡ Some t
  pub goes_to : t.destination ≡ from

goes-to : (from : ℕ) (u t : Telemetry) (same : Bool)
    → (u.destination == from) ≡ same
    → (if same then Some u else None) ≡ Some t
    → (u ≡ t) × (t.destination ≡ from)
goes-to from u t true is_same is =
    let one : u ≡ t = cc in
    let to : u.destination ≡ from = grind (arith, nat_tests) in
    (one, ap (λ (v : Telemetry). v.destination) (sym one) ∙ to)
goes-to from u t false is_same is = absurd cc

for-source : (apid from : ℕ) (o : List ℕ) (m : Option Telemetry) (t : Telemetry)
    → telemetry_in apid o ≡ m
    → addressed_to from m ≡ Some t
    → IsFor apid from o t
for-source apid from o None t read is = absurd cc
for-source apid from o (Some u) t read is =
    let to = goes-to from u t (u.destination == from) refl is in
    record { is_read = read ∙ ap (λ (v : Telemetry). Some v) to.0; goes_to = to.1 }

reported-for : (terms : Terms) (o : List ℕ) (t : Telemetry)
    → report_of terms o ≡ Some t
    → IsFor terms.apid terms.source o t
unfolding report_of
reported-for terms o t is =
    for-source terms.apid terms.source o (telemetry_in terms.apid o) t refl is

-- of a load that was told so a report was heard
heard-one : (c : Config) (first : Contents) (xs : List Move) (terms : Terms) (a : Asked)
    (packets : List (List ℕ)) (m : List ℕ)
    → terms.apid ≡ c.apid
    → IsLoad a
    → a.octets ≡ m
    → WerePutOut c first xs terms packets
    → WasTold terms a packets
    → (subtype : ℕ) × (r : Report)
    × ((subtype ≡ 3) ⊎ (subtype ≡ 7))
    × (r.request.value ≡ long_at m 0)
    × WasHeard c first xs terms.source subtype r
heard-one c first xs terms a packets m apid load same put w =
    let t = w.tells.report in
    let done = completion terms.starts t a load.awaits_completion w.tells.says in
    let to = reported-for terms w.packet t w.tells.is_report in
    let out = put w.number w.packet t w.is_there w.tells.is_report in
    let read : telemetry_in c.apid w.packet ≡ Some t =
    ap (λ (n : ℕ). telemetry_in n w.packet) (sym apid) ∙ to.is_read in (
      t.subtype,
      done.report,
      done.of_subtype,
      done.of_request ∙ load.is_named ∙ ap (λ (b : List ℕ). long_at b 0) same,
      record {
        later = out.later;
        earlier = out.earlier;
        are = out.are;
        may = record {
          octets = w.packet;
          on_the_way = out.on_the_way;
          is = record {
            body = t.body;
            is_down = record {
              goes_down = refl;
              telemetry = t;
              is_read = read;
              goes_to = to.goes_to;
              of_service = done.of_service;
              of_subtype = refl;
              of_body = refl;
            };
            says = done.is_report;
          };
        };
      },
    )

-- the load at a place, by its packet
load-at : (entry : Option Asked) (m : List ℕ)
    → option_map (λ (a : Asked). a.octets) entry ≡ Some m
    → (a : Asked) × (entry ≡ Some a) × (a.octets ≡ m)
load-at None m is = absurd cc
load-at (Some a) m is = (a, refl, cc)

pub done-heard : (c : Config) (first : Contents) (xs : List Move) (terms : Terms) (s : PassState)
    (answers : List Answer)
    → terms.apid ≡ c.apid
    → AreLoads s.asked
    → WerePutOut c first xs terms (packets_of answers)
    → next_step (come_to terms s answers) ≡ Stop Done
    → AllHeard c first xs terms.source (messages_of s.asked)
done-heard c first xs terms s answers apid loads put done k m there =
    let at = load-at (slice_get s.asked k) m
    (sym (slice_get-map (λ (a : Asked). a.octets) s.asked k) ∙ there) in
    let load = loads k at.0 at.1 in
    heard-one c first xs terms at.0 (packets_of answers) m apid load at.2 put
    (done-told terms s answers done k at.0 at.1 load.waits)

-- ---- what can come

-- if each report that can come where ground hears was put out, those were that came
pub what-comes : (c : Config) (first : Contents) (xs : List Move) (terms : Terms)
    (P : List ℕ → Type 0) (answers : List Answer)
    → AllCome P answers
    → IsPutOut c first xs terms P
    → WerePutOut c first xs terms (packets_of answers)
what-comes c first xs terms P answers comes all k o t there is =
    all o t (each-comes P answers k o comes there) is

pub others-leave : OthersLeaveThePass
unfolding octets_heard said_in
others-leave terms s o none =
    ap (λ (m : Option Telemetry). record s {
      asked = requests_told s.asked o (said_first terms.starts s.asked m);
      news = is_some (said_first terms.starts s.asked m) || s.news;
    }) none
