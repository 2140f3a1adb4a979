-- At the profile's own layouts packets carry what arrives in them.
use Rattle.std.proofs.Common.{◌≡◌, ◌∙◌, ap, sym, subst, refl, ℕ, ◌-◌, ◌==◌, ◌&&◌, Bool, true, false, if◌then◌else◌, List, length, drop, Option, Some, None, Result, Ok, Err}
use Rattle.std.specs.Option.{option_map, option_map_or}
use Rattle.std.specs.Result.{result_ok}
use Rattle.lpt_packet.specs.declared.direction.Direction.{Direction}
use Rattle.lpt_packet.specs.declared.direction.Direction.TheVariants.{Up, Down}
use Rattle.lpt_packet.specs.declared.fault.PacketFault.{PacketFault}
use Rattle.lpt_packet.specs.declared.packet.PacketKind.TheVariants.{Tm, Tc}
use Rattle.lpt_packet.specs.Names.{named_by}
use Rattle.lpt_packet.specs.Numbers.{IsOctets}
use Rattle.lpt_packet.specs.Packets.{Fields, Sight, IdlePacket, APacket, packet_seen, verdict}
use Rattle.lpt_packet.proofs.OctetLists.{IsOctets-drop, IsOctets-take}
use Rattle.lpt_packet.proofs.Readings.{tests_passed}
use Rattle.lpt_pus.specs.declared.fault.PusFault.{PusFault}
use Rattle.lpt_pus.specs.Commands.{Command, tc_verdict}
use Rattle.lpt_pus.specs.Telemetry.{Telemetry, tm_verdict}
use Rattle.lpt_part.specs.declared.fault.PartFault.{PartFault}
use Rattle.lpt_part.specs.declared.kind.Kind.{Kind}
use Rattle.lpt_part.specs.declared.reason.Reason.{Reason}
use Rattle.lpt_part.specs.Aborts.{abort_in}
use Rattle.lpt_part.specs.Identifiers.{TransactionId}
use Rattle.lpt_part.specs.Parts.{Piece, part_verdict}
use Rattle.lpt_events.specs.Arrivals.{AReport, ARequest, APart, AnAbort, Foreign, NoPart, NotRead, abort_arrival, arrival, carried_kind, command_arrival, packet_arrival, part_arrival, report_arrival, sight_arrival, telemetry_arrival}
use Rattle.lpt_events.specs.NamedParts.{NamedPart, part_named}
use Rattle.lpt_events.specs.Sides.{receiver_side}
use Rattle.lpt_layout.specs.declared.layout.Layout.{Layout}
use Rattle.lpt_layout.specs.Messages.{message_verdict}
use Rattle.lpt_layout.specs.Own.{of_command, of_telemetry, own_parts, own_tc, own_tm, put_as}
use Rattle.lpt_layout.specs.Packets.{verdict_as}
use Rattle.lpt_layout.specs.Parts.{octets_at, part_verdict_as}
use Rattle.lpt_carried.specs.declared.reading.Reading.{Reading}
use Rattle.lpt_carried.specs.declared.skip.Skip.{Skip}
use Rattle.lpt_carried.specs.declared.skip.Skip.TheVariants.{OtherApid}
use Rattle.lpt_carried.specs.Carried.{Named, part_carried, kind_to, of_kind, of_message, of_part, of_sight}
use Rattle.lpt_carried.specs.Own.{IsOwn, in_own, own_layout, part_arrived}
use Rattle.lpt_carried.specs.Sizes.{size_for}

-- what stands behind a packet's primary header are octets
pub field-octets : (b : List ℕ) (f : Fields)
    → IsOctets b
    → verdict b ≡ Ok (APacket f)
    → IsOctets f.octets
field-octets b f o h =
    subst (λ (g : Fields). IsOctets g.octets) (tests_passed b f h).same
    (IsOctets-take (length b - 8) (drop 6 b) (IsOctets-drop 6 b o))

-- a part that is carried, in the profile's words
abbrev view : Result Named Skip → Option NamedPart
view v = option_map in_own (result_ok v)

part-read : (user : ℕ) (v : Result Piece PartFault)
    → view (of_part user v)
    ≡ part_arrived (option_map_or (λ q. APart (part_named user q)) (result_ok v) NoPart)
part-read user (Ok q) = refl
part-read user (Err e) = refl

-- what comes with no part
no_abort : (user : ℕ) (o : Option (TransactionId × Reason))
    → part_arrived (option_map_or (λ a. AnAbort (named_by user a.0) a.1) o NoPart) ≡ None
no_abort user None = refl
no_abort user (Some a) = refl

no_report : (t : Telemetry) → part_arrived (report_arrival t) ≡ None
no_report t = go ((t.service == 13) && (t.subtype == 16)) where
  go : (b : Bool)
      → part_arrived (if b then abort_arrival t.destination t.body else AReport t.service t.subtype)
      ≡ None
  go true = no_abort t.destination (abort_in t.body)
  go false = refl

module _ (r : Reading) (p : ℕ) (own : IsOwn r p)
    (reads : (kind : Kind) (b : List ℕ) → IsOctets b
    → part_verdict_as own_parts kind b p ≡ part_verdict kind b p) where
  -- a body of this kind
  part-own : (user : ℕ) (body : List ℕ) (kind : Kind)
      → IsOctets body
      → view (of_part user (part_verdict_as r.parts kind body
      (size_for r.part_size (length body - octets_at r.parts))))
      ≡ part_arrived (part_arrival p user body kind)
  part-own user body kind octets =
      let len = length body - octets_at r.parts in
      ap (λ l. view (of_part user (part_verdict_as l kind body (size_for r.part_size len))))
      own.parts_are
      ∙ ap (λ o. view (of_part user (part_verdict_as own_parts kind body (size_for o len))))
      own.size_is
      ∙ ap (λ v. view (of_part user v)) (reads kind body octets)
      ∙ part-read user (part_verdict kind body p)

  command-own : (b : List ℕ) (c : Command) (k : Option Kind)
      → IsOctets c.body
      → view (of_kind r (of_command c) k)
      ≡ part_arrived (option_map_or (part_arrival p c.source c.body) k (ARequest b))
  command-own b c None octets = refl
  command-own b c (Some kind) octets = part-own c.source c.body kind octets

  telemetry-own : (t : Telemetry) (k : Option Kind)
      → IsOctets t.body
      → view (of_kind r (of_telemetry t) k)
      ≡ part_arrived (option_map_or (part_arrival p t.destination t.body) k (report_arrival t))
  telemetry-own t None octets = sym (no_report t)
  telemetry-own t (Some kind) octets = part-own t.destination t.body kind octets

  up-own : (b : List ℕ) (v : Result Command PusFault)
      → r.direction ≡ Up
      → ((c : Command) → v ≡ Ok c → IsOctets c.body)
      → view (of_message r (put_as of_command v))
      ≡ part_arrived (option_map_or (command_arrival p b) (result_ok v) NotRead)
  up-own b (Err e) up octets = refl
  up-own b (Ok c) up octets =
      ap (λ d. view (of_kind r (of_command c) (carried_kind d c.service c.subtype))) up
      ∙ command-own b c (carried_kind Up c.service c.subtype) (octets c refl)

  down-own : (v : Result Telemetry PusFault)
      → r.direction ≡ Down
      → ((t : Telemetry) → v ≡ Ok t → IsOctets t.body)
      → view (of_message r (put_as of_telemetry v))
      ≡ part_arrived (option_map_or (telemetry_arrival p) (result_ok v) NotRead)
  down-own (Err e) down octets = refl
  down-own (Ok t) down octets =
      ap (λ d. view (of_kind r (of_telemetry t) (carried_kind d t.service t.subtype))) down
      ∙ telemetry-own t (carried_kind Down t.service t.subtype) (octets t refl)

  module _ (commands : (f : Fields)
      → message_verdict own_tc Tc f ≡ put_as of_command (tc_verdict f))
      (telemetries : (f : Fields) → IsOctets f.octets
      → message_verdict own_tm Tm f ≡ put_as of_telemetry (tm_verdict f))
      (ends : (f : Fields) (c : Command) → tc_verdict f ≡ Ok c → c.body ≡ drop 5 f.octets)
      (ends_down : (f : Fields) (t : Telemetry) → tm_verdict f ≡ Ok t → t.body ≡ drop 11 f.octets)
      (b : List ℕ) where
    -- a packet of the APID
    packet-own : (d : Direction) (f : Fields)
        → r.direction ≡ d
        → IsOctets f.octets
        → view (of_message r (message_verdict r.layout (kind_to r.direction) f))
        ≡ part_arrived (packet_arrival (receiver_side d) p b f)
    packet-own Up f is octets =
        ap (λ l. view (of_message r (message_verdict l (kind_to r.direction) f)))
        (own.layout_is ∙ ap own_layout is)
        ∙ ap (λ d. view (of_message r (message_verdict own_tc (kind_to d) f))) is
        ∙ ap (λ v. view (of_message r v)) (commands f)
        ∙ up-own b (tc_verdict f) is
        (λ c e. subst IsOctets (sym (ends f c e)) (IsOctets-drop 5 f.octets octets))
    packet-own Down f is octets =
        ap (λ l. view (of_message r (message_verdict l (kind_to r.direction) f)))
        (own.layout_is ∙ ap own_layout is)
        ∙ ap (λ d. view (of_message r (message_verdict own_tm (kind_to d) f))) is
        ∙ ap (λ v. view (of_message r v)) (telemetries f octets)
        ∙ down-own (tm_verdict f) is
        (λ t e. subst IsOctets (sym (ends_down f t e)) (IsOctets-drop 11 f.octets octets))

    -- octets that are seen as this
    sight-own : (v : Result Sight PacketFault)
        → ((f : Fields) → v ≡ Ok (APacket f) → IsOctets f.octets)
        → view (of_sight r v)
        ≡ part_arrived (sight_arrival (receiver_side r.direction) r.apid p b (result_ok v))
    sight-own (Err e) octets = refl
    sight-own (Ok IdlePacket) octets = refl
    sight-own (Ok (APacket f)) octets = go (f.apid == r.apid) where
      go : (same : Bool)
          → view (if same then of_message r (message_verdict r.layout (kind_to r.direction) f)
          else Err (OtherApid f.apid))
          ≡ part_arrived
          (if same then packet_arrival (receiver_side r.direction) p b f else Foreign)
      go true = packet-own r.direction f refl (octets f refl)
      go false = refl

    pub carried-own : IsOctets b
        → ((has : Bool) → has ≡ true → verdict_as has b ≡ verdict b)
        → packet_seen b ≡ result_ok (verdict b)
        → view (part_carried r b)
        ≡ part_arrived (arrival (receiver_side r.direction) r.apid p b)
    unfolding part_carried arrival
    carried-own octets packets see =
        ap (λ v. view (of_sight r v)) (packets r.layout.has_checksum
        (ap (λ (l : Layout). l.has_checksum) own.layout_is ∙ sealed r.direction))
        ∙ sight-own (verdict b) (λ f e. field-octets b f octets e)
        ∙ ap (λ s. part_arrived (sight_arrival (receiver_side r.direction) r.apid p b s)) (sym see)
      where
        sealed : (d : Direction) → (own_layout d).has_checksum ≡ true
        sealed Up = refl
        sealed Down = refl
