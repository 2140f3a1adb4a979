-- What octets are, by the fields of the packet that they are.
use Rattle.std.proofs.Common.{◌≡◌, ◌∙◌, ap, sym, ℕ, ◌+◌, ◌-◌, ◌%◌, ◌≤◌, ◌<◌, Bool, true, false, ◌&&◌, ◌==◌, nat_le, List, length, take, drop, Option, Some, None, Result, Ok, refl, arith, length-append, if◌then◌else◌}
use Rattle.std.specs.Option.{option_map_or}
use Rattle.std.specs.Result.{result_ok}
use Rattle.std.proofs.lemmas.Bool.Decides.{nat_tests}
use Rattle.std.proofs.lemmas.List.{length-take}
use Rattle.lpt_packet.specs.declared.direction.Direction.TheVariants.{Up, Down}
use Rattle.lpt_packet.specs.Numbers.{word_at, same_octets}
use Rattle.lpt_packet.specs.Packets.{Fields, Sight, IdlePacket, APacket, fields_at, is_idle, is_packet, packet_seen, spelling, verdict}
use Rattle.lpt_pus.specs.declared.fault.PusFault.{PusFault}
use Rattle.lpt_pus.specs.Commands.{Command, IsCommand, tc_field, tc_verdict}
use Rattle.lpt_pus.specs.Telemetry.{Telemetry, IsTelemetry, tm_field, tm_verdict}
use Rattle.lpt_part.specs.declared.kind.Kind.{Kind}
use Rattle.lpt_part.specs.Splitting.{IsPartSize}
use Rattle.lpt_node.specs.declared.arrival.Layout.{Layout}
use Rattle.lpt_node.specs.declared.arrival.Layout.TheVariants as layout
use Rattle.lpt_events.specs.declared.side.Side.{Side}
use Rattle.lpt_events.specs.declared.side.Side.TheVariants.{Ground, Craft}
use Rattle.lpt_events.specs.Arrivals.{NotRead, Foreign, ARequest, AReport, part_arrival, abort_arrival, carried_kind, command_arrival, report_arrival, telemetry_arrival, packet_arrival, sight_arrival, arrival}
use Rattle.lpt_node.specs.Layouts.{body_from, IsLayout, IsLayoutIn}

-- ---- what is seen

-- octets that are a packet are no longer than one, and its fields stand at their places
pub record IsSeen (b : List ℕ) (f : Fields) : Type 0 where
  pub short : length b ≤ 65542
  pub fields : f ≡ fields_at b

first_of : (x y z : Bool) → (x && y && z) ≡ true → x ≡ true
first_of true y z e = refl
first_of false y z e = e

by_tests : (b : List ℕ) (f : Fields) (idle packet : Bool)
    → (packet ≡ true → length b ≤ 65542)
    → (if idle then Some IdlePacket else if packet then Some (APacket (fields_at b)) else None) ≡ Some (APacket f)
    → IsSeen b f
by_tests b f true packet short e = cc
by_tests b f false true short e = record { short = short refl; fields = cc }
by_tests b f false false short e = cc

-- what octets are that are seen as a packet
pub seen_packet : (b : List ℕ) (f : Fields) → packet_seen b ≡ Some (APacket f) → IsSeen b f
unfolding packet_seen
seen_packet b f e =
    by_tests b f (is_idle b) (is_packet b)
    (λ h. let le : nat_le (length b) 65542 ≡ true
    = first_of (nat_le (length b) 65542) (nat_le (word_at b 0 % 2048) 2046) (same_octets b (spelling (fields_at b))) h
    in grind (arith, nat_tests))
    e

-- what arrives is what is seen
pub arrival-seen : (side : Side) (apid p : ℕ) (b : List ℕ) (s : Option Sight)
    → packet_seen b ≡ s
    → sight_arrival side apid p b s ≡ arrival side apid p b
unfolding arrival
arrival-seen side apid p b s e = ap (sight_arrival side apid p b) (sym e)

-- ---- where a body stands

-- a body within the data field stands within the octets
pub body_within : (n : ℕ) (b : List ℕ) (f : Fields) → IsSeen b f → 0 < n → n ≤ length f.octets → n + 8 ≤ length b
body_within n b f s some le =
    let is : length f.octets ≡ length (take (length b - 8) (drop 6 b)) = ap (λ (f : Fields). length f.octets) s.fields in
    omega (arith, length-take (length b - 8) (drop 6 b))

-- a telecommand's data field has five octets before the body
pub command_length : (f : Fields) (c : Command) → IsCommand f c → 5 ≤ length f.octets
unfolding tc_field
command_length f c s =
    let is : length f.octets ≡ length (tc_field c) = ap (λ (f : Fields). length f.octets) s.spelled in
    omega (arith, length-append {A = ℕ})

-- a telemetry packet's data field has eleven octets before the body
pub telemetry_length : (f : Fields) (t : Telemetry) → IsTelemetry f t → 11 ≤ length f.octets
unfolding tm_field
telemetry_length f t s =
    let is : length f.octets ≡ length (tm_field t) = ap (λ (f : Fields). length f.octets) s.spelled in
    omega (arith, length-append {A = ℕ})

-- the body that stands where it was found
body-seen : (n : ℕ) (b : List ℕ) (f : Fields) (body : List ℕ) → IsSeen b f → body ≡ drop n f.octets → body_from b n ≡ body
body-seen n b f body s e = ap (λ (f : Fields). drop n f.octets) (sym s.fields) ∙ sym e

-- ---- what a packet is to the spacecraft

-- a telecommand that carries a part
pub uplink_part : (b : List ℕ) (f : Fields) (c : Command) (kind : Kind)
    → IsCommand f c
    → tc_verdict f ≡ Ok c
    → c.body ≡ drop 5 f.octets
    → Some kind ≡ carried_kind Up c.service c.subtype
    → packet_seen b ≡ Some (APacket f)
    → IsLayoutIn Craft f b (layout.Part kind c.source 5)
uplink_part b f c kind is verdict body carried e =
    let s = seen_packet b f e in
    record {
      within = body_within 5 b f s (omega arith) (command_length f c is);
      is = λ p. ap (λ (body : List ℕ). part_arrival p c.source body kind) (body-seen 5 b f c.body s body)
          ∙ ap (λ (k : Option Kind). option_map_or (part_arrival p c.source c.body) k (ARequest b)) carried
          ∙ ap (λ (r : Result Command PusFault). option_map_or (command_arrival p b) (result_ok r) NotRead) (sym verdict);
    }

-- a telecommand that carries none
pub uplink_request : (b : List ℕ) (f : Fields) (c : Command)
    → tc_verdict f ≡ Ok c
    → None ≡ carried_kind Up c.service c.subtype
    → packet_seen b ≡ Some (APacket f)
    → IsLayoutIn Craft f b layout.Request
uplink_request b f c verdict carried e =
    record {
      within = (seen_packet b f e).short;
      is = λ p. ap (λ (k : Option Kind). option_map_or (part_arrival p c.source c.body) k (ARequest b)) carried
          ∙ ap (λ (r : Result Command PusFault). option_map_or (command_arrival p b) (result_ok r) NotRead) (sym verdict);
    }

-- ---- what a packet is on ground

-- telemetry that carries a part
pub downlink_part : (b : List ℕ) (f : Fields) (t : Telemetry) (kind : Kind)
    → IsTelemetry f t
    → tm_verdict f ≡ Ok t
    → t.body ≡ drop 11 f.octets
    → Some kind ≡ carried_kind Down t.service t.subtype
    → packet_seen b ≡ Some (APacket f)
    → IsLayoutIn Ground f b (layout.Part kind t.destination 11)
downlink_part b f t kind is verdict body carried e =
    let s = seen_packet b f e in
    record {
      within = body_within 11 b f s (omega arith) (telemetry_length f t is);
      is = λ p. ap (λ (body : List ℕ). part_arrival p t.destination body kind) (body-seen 11 b f t.body s body)
          ∙ ap (λ (k : Option Kind). option_map_or (part_arrival p t.destination t.body) k (report_arrival t)) carried
          ∙ ap (λ (r : Result Telemetry PusFault). option_map_or (telemetry_arrival p) (result_ok r) NotRead) (sym verdict);
    }

-- the report of an abortion
pub downlink_abort : (b : List ℕ) (f : Fields) (t : Telemetry)
    → IsTelemetry f t
    → tm_verdict f ≡ Ok t
    → t.body ≡ drop 11 f.octets
    → None ≡ carried_kind Down t.service t.subtype
    → t.service ≡ 13
    → t.subtype ≡ 16
    → packet_seen b ≡ Some (APacket f)
    → IsLayoutIn Ground f b (layout.Abort t.destination 11)
downlink_abort b f t is verdict body carried service subtype e =
    let s = seen_packet b f e in
    let reports : ((t.service == 13) && (t.subtype == 16)) ≡ true = grind (arith, nat_tests) in
    record {
      within = body_within 11 b f s (omega arith) (telemetry_length f t is);
      is = λ p. ap (abort_arrival t.destination) (body-seen 11 b f t.body s body)
          ∙ ap (λ (r : Bool). if r then abort_arrival t.destination t.body else AReport t.service t.subtype) (sym reports)
          ∙ ap (λ (k : Option Kind). option_map_or (part_arrival p t.destination t.body) k (report_arrival t)) carried
          ∙ ap (λ (r : Result Telemetry PusFault). option_map_or (telemetry_arrival p) (result_ok r) NotRead) (sym verdict);
    }

-- ---- what is found

-- octets that are no packet
pub layout_unreadable : (side : Side) (apid p : ℕ) (b : List ℕ)
    → packet_seen b ≡ None
    → IsPartSize p
    → IsLayout side apid p b layout.Unreadable
layout_unreadable side apid p b e size = record { part_size = size; within = tt; is = arrival-seen side apid p b None e }

-- an idle packet
pub layout_idle : (side : Side) (apid p : ℕ) (b : List ℕ)
    → packet_seen b ≡ Some IdlePacket
    → IsPartSize p
    → IsLayout side apid p b layout.Idle
layout_idle side apid p b e size = record { part_size = size; within = tt; is = arrival-seen side apid p b (Some IdlePacket) e }

-- a packet of another APID
pub layout_foreign : (side : Side) (apid p : ℕ) (b : List ℕ) (f : Fields)
    → packet_seen b ≡ Some (APacket f)
    → (f.apid ≡ apid → ⊥)
    → IsPartSize p
    → IsLayout side apid p b layout.Foreign
layout_foreign side apid p b f e other size =
    let differs : (f.apid == apid) ≡ false = grind (arith, nat_tests) in
    record {
      part_size = size;
      within = tt;
      is = ap (λ (same : Bool). if same then packet_arrival side p b f else Foreign) (sym differs)
          ∙ arrival-seen side apid p b (Some (APacket f)) e;
    }

-- a packet of the configured APID
pub layout_packet : (side : Side) (apid p : ℕ) (b : List ℕ) (f : Fields) (x : Layout)
    → packet_seen b ≡ Some (APacket f)
    → f.apid ≡ apid
    → IsLayoutIn side f b x
    → IsPartSize p
    → IsLayout side apid p b x
layout_packet side apid p b f x e its is size =
    let same : (f.apid == apid) ≡ true = grind (arith, nat_tests) in
    record {
      part_size = size;
      within = is.within;
      is = is.is p
          ∙ ap (λ (same : Bool). if same then packet_arrival side p b f else Foreign) (sym same)
          ∙ arrival-seen side apid p b (Some (APacket f)) e;
    }
