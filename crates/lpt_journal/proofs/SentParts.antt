-- A plain request that is put on the link arrives as one, and an abortion report as one.
use Rattle.std.proofs.Common.{◌≡◌, ◌∙◌, ap, refl, ℕ, ◌+◌, ◌<◌, ◌≤◌, false, List, length, Option, Ok, arith}
use Rattle.std.specs.Option.{option_map_or}
use Rattle.std.specs.Result.{result_ok}
use Rattle.lpt_packet.specs.declared.direction.Direction.TheVariants.{Up, Down}
use Rattle.lpt_packet.specs.Names.{Name, named_by}
use Rattle.lpt_packet.specs.Numbers.{word_at}
use Rattle.lpt_packet.proofs.Readings.{not_lt}
use Rattle.lpt_pus.specs.Commands.{CommandFits}
use Rattle.lpt_pus.specs.Telemetry.{TelemetryFits}
use Rattle.lpt_part.specs.declared.kind.Kind.{Kind}
use Rattle.lpt_part.specs.declared.reason.Reason.{Reason}
use Rattle.lpt_part.specs.declared.reason.Reason.TheVariants.{Expired, Discontinuity, Conflict}
use Rattle.lpt_part.proofs.AbortLemmas.{length-abort_body}
use Rattle.lpt_part.specs.Aborts.{abort_body, abort_verdict}
use Rattle.lpt_events.specs.declared.config.Config.{Config}
use Rattle.lpt_events.specs.Arrivals.{ARequest, NoPart, AnAbort, carried_kind, part_arrival, arrival_in}
use Rattle.lpt_events.specs.MadePackets.{command_made, telemetry_made, abort_made, tc_made}
use Rattle.lpt_events.specs.Requests.{is_part_request, is_too_long}
use Rattle.lpt_events.specs.Configs.{IsConfig}
use Rattle.lpt_packet.proofs.BoolLemmas.{none_is}
use Rattle.lpt_events.specs.Counts.{AreCounts}
use Rattle.lpt_events.proofs.ArrivalLemmas.{command_arrives, telemetry_arrives}

-- ---- plain requests

-- a plain request arrives as a request
pub plain_arrives : (c : Config) (peer count flags service subtype : ℕ) (body : List ℕ)
    → IsConfig c
    → peer < 65536
    → count ≤ 16383
    → flags < 16
    → service < 256
    → subtype < 256
    → is_part_request service subtype ≡ false
    → is_too_long c (length body) ≡ false
    → arrival_in c Up (tc_made c peer count flags service subtype body)
    ≡ ARequest (tc_made c peer count flags service subtype body)
plain_arrives c peer count flags service subtype body good from counts f s t no_part fits =
    let short : length body + 13 ≤ c.part_size + 23 =
    not_lt (c.part_size + 23) (length body + 13) fits in
    let in_range : CommandFits (command_made c peer count flags service subtype body) = record {
      head_fits =
          record { apid_fits = good.apid_fits; count_fits = counts; flags_fit = omega arith };
      service_fits = s;
      subtype_fits = t;
      source_fits = from;
      body_fits = omega (arith, short, good.part_size_fits.1);
    } in
    command_arrives c.apid c.part_size (command_made c peer count flags service subtype body) in_range
    refl
    ∙ ap (λ (o : Option Kind). option_map_or (part_arrival c.part_size peer body) o
    (ARequest (tc_made c peer count flags service subtype body)))
    (none_is (carried_kind Up service subtype) no_part)

-- ---- abortion reports

-- a report's body is read
abort_read : (id : ℕ) (reason : Reason)
    → (n : ℕ) × (abort_verdict (abort_body id reason) ≡ Ok (n, reason))
unfolding abort_body abort_verdict
abort_read id Expired = (word_at (abort_body id Expired) 0, refl)
abort_read id Discontinuity = (word_at (abort_body id Discontinuity) 0, refl)
abort_read id Conflict = (word_at (abort_body id Conflict) 0, refl)

-- an abortion report arrives as one
pub abort_arrives : (c : Config) (count counter time : ℕ) (name : Name) (reason : Reason)
    → IsConfig c
    → AreCounts count counter time
    → name.source < 65536
    → (n : Name)
    × (arrival_in c Down (abort_made c count counter time name reason) ≡ AnAbort n reason)
abort_arrives c count counter time name reason good counts from =
    let t = telemetry_made c name.source count counter time 13 16 (abort_body name.id reason) in
    let short : length (abort_body name.id reason) ≤ 65523 =
    omega (arith, length-abort_body name.id reason) in
    let in_range : TelemetryFits t = record {
      head_fits =
          record {
            apid_fits = good.apid_fits;
            count_fits = counts.count_fits;
            status_fits = omega arith;
          };
      service_fits = omega arith;
      subtype_fits = omega arith;
      counter_fits = counts.counter_fits;
      destination_fits = from;
      time_fits = counts.time_fits;
      body_fits = short;
    } in
    let read = abort_read name.id reason in (
      named_by name.source read.0,
      telemetry_arrives c.apid c.part_size t in_range refl
          ∙ ap (λ r. option_map_or (λ a. AnAbort (named_by name.source a.0) a.1) (result_ok r) NoPart) read.1,
    )
