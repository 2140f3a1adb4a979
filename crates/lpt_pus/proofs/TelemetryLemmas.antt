-- Telemetry: how long its packet is, what is read, and that what is written is read again.
use Rattle.std.proofs.Common.{◌≡◌, ◌≢◌, ◌∙◌, ap, sym, subst, ℕ, ◌+◌, ◌*◌, ◌/◌, ◌%◌, ◌≤◌, true, nat_le, ◌==◌, List, [], ◌∷◌, length, drop, get_or, refl, arith, Some, Result, Ok, Err, IfOk, length-append, length-drop}
use Rattle.std.proofs.lemmas.Bool.{eqb-true, leb-true, eq-eqb, le-leb, ne_eqb}
use Rattle.std.proofs.lemmas.Bool.Decides.{nat_tests}
use Rattle.std.proofs.lemmas.Grind.{common_steps}
use Rattle.lpt_packet.specs.declared.packet.PacketKind.{PacketKind}
use Rattle.lpt_packet.specs.declared.packet.PacketKind.TheVariants.{Tm, Tc}
use Rattle.lpt_packet.specs.Numbers.{be, IsOctets}
use Rattle.lpt_packet.specs.Packets.{Fields, fields_of, spelling, APacket, packet_seen}
use Rattle.lpt_packet.specs.Ranges.{InRange}
use Rattle.lpt_pus.specs.declared.fault.PusFault.{PusFault}
use Rattle.lpt_pus.specs.declared.fault.PusFault.TheVariants.{PusVersion}
use Rattle.lpt_pus.specs.Messages.{for_apid, in_packet, Gives}
use Rattle.lpt_pus.specs.Telemetry.{Telemetry, TelemetryFits, as_written, tm_field, tm_packet_of, IsTelemetry, telemetry_at, is_tm, tm_verdict, telemetry_in, IsTelemetryIn}
use Rattle.lpt_pus.proofs.MessageLemmas.{tested-ok, tested-passed, tested-version, for_apid-some, for_apid-again, in_packet-some}
use Rattle.lpt_packet.proofs.Codec.{length-spelling, word_cells}
use Rattle.lpt_pus.proofs.LongLemmas.{be-long}

-- ---- lengths

-- the data field has eleven octets besides the body
pub length-tm_field : (t : Telemetry) → length (tm_field t) ≡ length t.body + 11
unfolding tm_field
length-tm_field t = omega (arith, length-append {A = ℕ})

-- the packet has nineteen octets besides the body
pub length-spelling_tm : (t : Telemetry) → length (spelling (tm_packet_of t)) ≡ length t.body + 19
length-spelling_tm t = omega (arith, length-spelling (tm_packet_of t), length-tm_field t)

-- its packet is in its ranges
pub InRange-tm_packet_of : (t : Telemetry)
    → TelemetryFits t
    → InRange t.apid t.count (tm_field t)
InRange-tm_packet_of t h = record {
  apid_fits = h.head_fits.apid_fits;
  count_fits = h.head_fits.count_fits;
  field_fits = omega (arith, length-tm_field t);
}

-- with status 0 it is in its ranges too
pub TelemetryFits-as_written : (t : Telemetry) → TelemetryFits t → TelemetryFits (as_written t)
TelemetryFits-as_written t h = record {
  head_fits = record {
    apid_fits = h.head_fits.apid_fits;
    count_fits = h.head_fits.count_fits;
    status_fits = omega arith;
  };
  service_fits = h.service_fits;
  subtype_fits = h.subtype_fits;
  counter_fits = h.counter_fits;
  destination_fits = h.destination_fits;
  time_fits = h.time_fits;
  body_fits = h.body_fits;
}

-- ---- reading what was written

-- telemetry's packet is read as it
pub tm_verdict-tm_packet_of : (t : Telemetry) → TelemetryFits t → tm_verdict (tm_packet_of t) ≡ Ok t
unfolding tm_verdict tm_field
tm_verdict-tm_packet_of t h = grind (arith, common_steps, nat_tests)

-- what is related to a packet is read from it
pub tm_verdict-again : (f : Fields) (t : Telemetry) → IsTelemetry f t → tm_verdict f ≡ Ok t
tm_verdict-again f t h = ap tm_verdict h.spelled ∙ tm_verdict-tm_packet_of t h.fits

-- ---- the tests

-- a packet that passes the tests is read as what stands at its places
pub tm_verdict-passed : (f : Fields)
    → f.kind ≡ Tm
    → 11 ≤ length f.octets
    → get_or f.octets 0 0 / 16 ≡ 2
    → tm_verdict f ≡ Ok (telemetry_at f)
unfolding tm_verdict
tm_verdict-passed f kind long version =
    tested-passed (is_tm f.kind) (nat_le 11 (length f.octets)) (get_or f.octets 0 0 / 16 == 2)
    (telemetry_at f) (ap is_tm kind) (le-leb 11 (length f.octets) long)
    (eq-eqb (get_or f.octets 0 0 / 16) 2 version)

-- a packet of another PUS version is told by it
pub tm_verdict-version : (f : Fields)
    → f.kind ≡ Tm
    → 11 ≤ length f.octets
    → get_or f.octets 0 0 / 16 ≢ 2
    → tm_verdict f ≡ Err PusVersion
unfolding tm_verdict
tm_verdict-version f kind long version =
    tested-version (is_tm f.kind) (nat_le 11 (length f.octets)) (get_or f.octets 0 0 / 16 == 2)
    (telemetry_at f) (ap is_tm kind) (le-leb 11 (length f.octets) long)
    (ne_eqb (get_or f.octets 0 0 / 16) 2 version)

-- ---- what is read

-- what is read has passed the tests, and is what stands at its places
pub tm_verdict-ok : (f : Fields) (t : Telemetry)
    → tm_verdict f ≡ Ok t
    → (is_tm f.kind ≡ true) × (nat_le 11 (length f.octets) ≡ true)
    × ((get_or f.octets 0 0 / 16 == 2) ≡ true) × (telemetry_at f ≡ t)
unfolding tm_verdict
tm_verdict-ok f t e =
    tested-ok (is_tm f.kind) (nat_le 11 (length f.octets)) (get_or f.octets 0 0 / 16 == 2)
    (telemetry_at f) t e

-- its body is the data field from octet 11 on
pub body-tm_verdict : (f : Fields) (t : Telemetry) → tm_verdict f ≡ Ok t → t.body ≡ drop 11 f.octets
body-tm_verdict f t e = ap (λ (read : Telemetry). read.body) (sym ((tm_verdict-ok f t e).3))

-- a data field that is long enough is spelled by what stands at its places
tm_cells : (apid count : ℕ) (octets : List ℕ)
    → IsOctets octets
    → 11 ≤ length octets
    → get_or octets 0 0 / 16 ≡ 2
    → octets ≡ tm_field (telemetry_at (fields_of Tm apid count octets))
unfolding tm_field
tm_cells _ _ [] o long version = absurd (omega arith)
tm_cells _ _ (a ∷ []) o long version = absurd (omega arith)
tm_cells _ _ (a ∷ b ∷ []) o long version = absurd (omega arith)
tm_cells _ _ (a ∷ b ∷ c ∷ []) o long version = absurd (omega arith)
tm_cells _ _ (a ∷ b ∷ c ∷ d ∷ []) o long version = absurd (omega arith)
tm_cells _ _ (a ∷ b ∷ c ∷ d ∷ e ∷ []) o long version = absurd (omega arith)
tm_cells _ _ (a ∷ b ∷ c ∷ d ∷ e ∷ f ∷ []) o long version = absurd (omega arith)
tm_cells _ _ (a ∷ b ∷ c ∷ d ∷ e ∷ f ∷ g ∷ []) o long version = absurd (omega arith)
tm_cells _ _ (a ∷ b ∷ c ∷ d ∷ e ∷ f ∷ g ∷ h ∷ []) o long version = absurd (omega arith)
tm_cells _ _ (a ∷ b ∷ c ∷ d ∷ e ∷ f ∷ g ∷ h ∷ i ∷ []) o long version = absurd (omega arith)
tm_cells _ _ (a ∷ b ∷ c ∷ d ∷ e ∷ f ∷ g ∷ h ∷ i ∷ j ∷ []) o long version = absurd (omega arith)
tm_cells apid count (a ∷ b ∷ c ∷ d ∷ e ∷ f ∷ g ∷ h ∷ i ∷ j ∷ k ∷ body) o long version =
    let first : a ≡ 32 + a % 16 = omega arith in
    let counter : be (256 * d + e) 2 ≡ d ∷ e ∷ [] = word_cells d e (o 3) (o 4) in
    let destination : be (256 * f + g) 2 ≡ f ∷ g ∷ [] = word_cells f g (o 5) (o 6) in
    let time : be (65536 * (256 * h + i) + (256 * j + k)) 4 ≡ h ∷ i ∷ j ∷ k ∷ [] =
    be-long h i j k (o 7) (o 8) (o 9) (o 10) in
    cc

is_tm-true : (kind : PacketKind) → is_tm kind ≡ true → kind ≡ Tm
is_tm-true Tm e = refl
is_tm-true Tc e = absurd cc

-- what stands at the places of telemetry's packet is what the packet is
IsTelemetry-telemetry_at : (f : Fields)
    → InRange f.apid f.count f.octets
    → IsOctets f.octets
    → f.kind ≡ Tm
    → 11 ≤ length f.octets
    → get_or f.octets 0 0 / 16 ≡ 2
    → IsTelemetry f (telemetry_at f)
IsTelemetry-telemetry_at f r o kind long version = record {
  fits = record {
    head_fits = record {
      apid_fits = r.apid_fits;
      count_fits = r.count_fits;
      status_fits = omega arith;
    };
    service_fits = o 1;
    subtype_fits = o 2;
    counter_fits = omega (arith, o 3, o 4);
    destination_fits = omega (arith, o 5, o 6);
    time_fits = omega (arith, o 7, o 8, o 9, o 10);
    body_fits = omega (arith, length-drop 11 f.octets);
  };
  spelled =
      ap (λ (k : PacketKind). fields_of k f.apid f.count f.octets) kind
      ∙ ap (fields_of Tm f.apid f.count) (tm_cells f.apid f.count f.octets o long version);
}

-- what is read from a packet is what it is
pub tm_verdict-found : (f : Fields) (t : Telemetry)
    → InRange f.apid f.count f.octets
    → IsOctets f.octets
    → tm_verdict f ≡ Ok t
    → IsTelemetry f t
tm_verdict-found f t r o e =
    let passed = tm_verdict-ok f t e in
    let kind : f.kind ≡ Tm = is_tm-true f.kind (passed.0) in
    let long : 11 ≤ length f.octets = leb-true 11 (length f.octets) (passed.1) in
    let version : get_or f.octets 0 0 / 16 ≡ 2 = eqb-true (get_or f.octets 0 0 / 16) 2 (passed.2) in
    subst (IsTelemetry f) (passed.3) (IsTelemetry-telemetry_at f r o kind long version)

-- what a reader answers by the verdict is what the packet is
pub found_by_tm_verdict : {X : Type 0} (view : X → Telemetry) (result : Result X PusFault)
    → (f : Fields)
    → InRange f.apid f.count f.octets
    → IsOctets f.octets
    → Gives view result (tm_verdict f)
    → IfOk result (λ x. IsTelemetry f (view x))
found_by_tm_verdict view (Ok x) f r o e = tm_verdict-found f (view x) r o e
found_by_tm_verdict view (Err fault) f r o e = tt

-- ---- in octets

-- what octets are read as is in the packet that they are
pub telemetry_in-found : (apid : ℕ) (b : List ℕ) (t : Telemetry)
    → telemetry_in apid b ≡ Some t
    → IsTelemetryIn apid b t
unfolding telemetry_in
telemetry_in-found apid b t e =
    let apid_of : Telemetry → ℕ = λ read. read.apid in
    let packet = in_packet-some (λ f. for_apid apid_of apid (tm_verdict f)) (packet_seen b) t e in
    let read = for_apid-some apid_of apid (tm_verdict (packet.0)) t (packet.2) in
    record { packet = packet.0; is_packet = packet.1; is_telemetry = read.0; is_for = read.1 }

-- what is in the packet that octets are is read from them
pub telemetry_in-again : (apid : ℕ) (b : List ℕ) (t : Telemetry)
    → IsTelemetryIn apid b t
    → telemetry_in apid b ≡ Some t
unfolding telemetry_in
telemetry_in-again apid b t h =
    let apid_of : Telemetry → ℕ = λ read. read.apid in
    ap (in_packet (λ f. for_apid apid_of apid (tm_verdict f))) h.is_packet
    ∙ ap (for_apid apid_of apid) h.is_telemetry
    ∙ for_apid-again apid_of apid t h.is_for

-- what is written is read again, where its octets are seen as its packet
pub telemetry_in-spelling : (t : Telemetry)
    → TelemetryFits t
    → packet_seen (spelling (tm_packet_of t)) ≡ Some (APacket (tm_packet_of t))
    → telemetry_in t.apid (spelling (tm_packet_of t)) ≡ Some t
telemetry_in-spelling t h e =
    telemetry_in-again t.apid (spelling (tm_packet_of t)) t (record {
      packet = tm_packet_of t;
      is_packet = e;
      is_telemetry = tm_verdict-tm_packet_of t h;
      is_for = refl;
    })
