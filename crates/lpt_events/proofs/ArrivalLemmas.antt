-- A packet that is made of a part fits, and arrives as that part.
use Rattle.std.proofs.Common.{◌≡◌, ◌∙◌, ap, sym, refl, ℕ, ◌<◌, ◌≤◌, if◌then◌else◌, List, length, Some, arith}
use Rattle.std.specs.Option.{option_map_or}
use Rattle.std.specs.Result.{result_ok}
use Rattle.lpt_packet.specs.declared.direction.Direction.{Direction}
use Rattle.lpt_packet.specs.declared.direction.Direction.TheVariants.{Up, Down}
use Rattle.lpt_packet.specs.Packets.{Fields, spelling}
use Rattle.lpt_packet.specs.Ranges.{InRange}
use Rattle.lpt_packet.proofs.Readings.{eq_true}
use Rattle.lpt_packet.proofs.SightLemmas.{seen_again}
use Rattle.lpt_pus.specs.Commands.{Command, CommandFits, packet_of}
use Rattle.lpt_pus.specs.Telemetry.{Telemetry, TelemetryFits, tm_packet_of}
use Rattle.lpt_pus.proofs.CommandLemmas.{InRange-packet_of, tc_verdict-packet_of}
use Rattle.lpt_pus.proofs.TelemetryLemmas.{InRange-tm_packet_of, tm_verdict-tm_packet_of}
use Rattle.lpt_part.specs.declared.kind.Kind.{Kind}
use Rattle.lpt_part.specs.declared.kind.Kind.TheVariants.{First, Middle, Last}
use Rattle.lpt_part.specs.PartRanges.{PartFits}
use Rattle.lpt_part.specs.Parts.{Piece, body_of}
use Rattle.lpt_part.proofs.BodyLemmas.{length-body_of, part_verdict-body_of}
use Rattle.lpt_events.specs.declared.config.Config.{Config}
use Rattle.lpt_events.specs.declared.side.Side.{Side}
use Rattle.lpt_events.specs.declared.side.Side.TheVariants.{Ground, Craft}
use Rattle.lpt_events.specs.Arrivals.{NotRead, Foreign, ARequest, NoPart, APart, report_arrival, part_subtype, carried_kind, part_arrival, command_arrival, telemetry_arrival, packet_arrival, sight_arrival, arrival, arrival_in}
use Rattle.lpt_events.specs.Configs.{IsConfig}
use Rattle.lpt_events.specs.Counts.{AreCounts}
use Rattle.lpt_events.specs.MadePackets.{command_made, telemetry_made, part_made}
use Rattle.lpt_events.specs.NamedParts.{part_named}

-- ---- subtypes

part_subtype-small : (d : Direction) (kind : Kind) → part_subtype d kind < 256
part_subtype-small Up First = omega arith
part_subtype-small Up Middle = omega arith
part_subtype-small Up Last = omega arith
part_subtype-small Down First = omega arith
part_subtype-small Down Middle = omega arith
part_subtype-small Down Last = omega arith

carried_kind-part_subtype : (d : Direction) (kind : Kind)
    → carried_kind d 13 (part_subtype d kind) ≡ Some kind
carried_kind-part_subtype Up First = refl
carried_kind-part_subtype Up Middle = refl
carried_kind-part_subtype Up Last = refl
carried_kind-part_subtype Down First = refl
carried_kind-part_subtype Down Middle = refl
carried_kind-part_subtype Down Last = refl

-- ---- what a packet that is written is to its receiver

-- a packet of the configured APID arrives as its message
packet_arrives : (side : Side) (p : ℕ) (f : Fields)
    → InRange f.apid f.count f.octets
    → arrival side f.apid p (spelling f) ≡ packet_arrival side p (spelling f) f
unfolding arrival
packet_arrives side p f r =
    let b = spelling f in
    ap (sight_arrival side f.apid p b) (seen_again f r)
    ∙ ap (λ t. if t then packet_arrival side p b f else Foreign) (eq_true f.apid f.apid refl)

body_arrives : (p source : ℕ) (q : Piece)
    → q.id < 65536
    → PartFits q.kind q.number (length q.octets) p
    → part_arrival p source (body_of q) q.kind ≡ APart (part_named source q)
body_arrives p source q i fits =
    ap (λ r. option_map_or (λ x. APart (part_named source x)) (result_ok r) NoPart)
    (part_verdict-body_of p q i fits)

-- a telecommand that fits arrives as it is read
pub command_arrives : (apid p : ℕ) (c : Command)
    → CommandFits c
    → c.apid ≡ apid
    → arrival Craft apid p (spelling (packet_of c)) ≡ command_arrival p (spelling (packet_of c)) c
command_arrives apid p c fits e =
    ap (λ a. arrival Craft a p (spelling (packet_of c))) (sym e)
    ∙ packet_arrives Craft p (packet_of c) (InRange-packet_of c fits)
    ∙ ap (λ r. option_map_or (command_arrival p (spelling (packet_of c))) (result_ok r) NotRead)
    (tc_verdict-packet_of c fits)

-- telemetry that fits arrives as it is read
pub telemetry_arrives : (apid p : ℕ) (t : Telemetry)
    → TelemetryFits t
    → t.apid ≡ apid
    → arrival Ground apid p (spelling (tm_packet_of t)) ≡ telemetry_arrival p t
telemetry_arrives apid p t fits e =
    ap (λ a. arrival Ground a p (spelling (tm_packet_of t))) (sym e)
    ∙ packet_arrives Ground p (tm_packet_of t) (InRange-tm_packet_of t fits)
    ∙ ap (λ r. option_map_or (telemetry_arrival p) (result_ok r) NotRead)
    (tm_verdict-tm_packet_of t fits)

-- ---- parts

-- the telecommand that is made of a part fits
pub part_command_fits : (c : Config) (peer count counter time : ℕ) (q : Piece)
    → IsConfig c
    → AreCounts count counter time
    → peer < 65536
    → PartFits q.kind q.number (length q.octets) c.part_size
    → CommandFits (command_made c peer count 0 13 (part_subtype Up q.kind) (body_of q))
part_command_fits c peer count counter time q good counts from fits = record {
  head_fits =
      record {
        apid_fits = good.apid_fits;
        count_fits = counts.count_fits;
        flags_fit = omega arith;
      };
  service_fits = omega arith;
  subtype_fits = part_subtype-small Up q.kind;
  source_fits = from;
  body_fits = omega (arith, length-body_of q, fits.length_fits.greatest, good.part_size_fits.1);
}

-- the telemetry that is made of a part fits
pub part_telemetry_fits : (c : Config) (peer count counter time : ℕ) (q : Piece)
    → IsConfig c
    → AreCounts count counter time
    → peer < 65536
    → PartFits q.kind q.number (length q.octets) c.part_size
    → TelemetryFits (telemetry_made c peer count counter time 13 (part_subtype Down q.kind) (body_of q))
part_telemetry_fits c peer count counter time q good counts from fits = record {
  head_fits =
      record {
        apid_fits = good.apid_fits;
        count_fits = counts.count_fits;
        status_fits = omega arith;
      };
  service_fits = omega arith;
  subtype_fits = part_subtype-small Down q.kind;
  counter_fits = counts.counter_fits;
  destination_fits = from;
  time_fits = counts.time_fits;
  body_fits = omega (arith, length-body_of q, fits.length_fits.greatest, good.part_size_fits.1);
}

-- a part that fits arrives as that part
pub part_arrives : (c : Config) (d : Direction) (peer count counter time : ℕ) (q : Piece)
    → IsConfig c
    → AreCounts count counter time
    → peer < 65536
    → q.id < 65536
    → PartFits q.kind q.number (length q.octets) c.part_size
    → arrival_in c d (part_made c d peer count counter time q) ≡ APart (part_named peer q)
part_arrives c Up peer count counter time q good counts from i fits =
    let t = command_made c peer count 0 13 (part_subtype Up q.kind) (body_of q) in
    command_arrives c.apid c.part_size t
    (part_command_fits c peer count counter time q good counts from fits) refl
    ∙ ap (λ o. option_map_or (part_arrival c.part_size peer (body_of q)) o
    (ARequest (spelling (packet_of t)))) (carried_kind-part_subtype Up q.kind)
    ∙ body_arrives c.part_size peer q i fits
part_arrives c Down peer count counter time q good counts from i fits =
    let t = telemetry_made c peer count counter time 13 (part_subtype Down q.kind) (body_of q) in
    telemetry_arrives c.apid c.part_size t
    (part_telemetry_fits c peer count counter time q good counts from fits) refl
    ∙ ap (λ o. option_map_or (part_arrival c.part_size peer (body_of q)) o (report_arrival t))
    (carried_kind-part_subtype Down q.kind)
    ∙ body_arrives c.part_size peer q i fits
