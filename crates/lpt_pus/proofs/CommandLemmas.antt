-- A telecommand: how long its packet is, what is read, and that what is written is read again.
use Rattle.std.proofs.Common.{◌≡◌, ◌≢◌, ◌∙◌, ap, sym, subst, ℕ, ◌+◌, ◌*◌, ◌/◌, ◌%◌, ◌≤◌, true, nat_le, ◌==◌, List, [], ◌∷◌, length, drop, get_or, refl, arith, Some, Result, Ok, Err, IfOk, length-append, length-drop}
use Rattle.std.proofs.lemmas.Bool.{eqb-true, leb-true, eq-eqb, le-leb, ne_eqb}
use Rattle.std.proofs.lemmas.Bool.Decides.{nat_tests}
use Rattle.std.proofs.lemmas.Grind.{common_steps}
use Rattle.lpt_packet.specs.declared.packet.PacketKind.{PacketKind}
use Rattle.lpt_packet.specs.declared.packet.PacketKind.TheVariants.{Tm, Tc}
use Rattle.lpt_packet.specs.Numbers.{be, IsOctets}
use Rattle.lpt_packet.specs.Packets.{Fields, fields_of, spelling, APacket, packet_seen}
use Rattle.lpt_packet.specs.Ranges.{InRange}
use Rattle.lpt_pus.specs.declared.fault.PusFault.{PusFault}
use Rattle.lpt_pus.specs.declared.fault.PusFault.TheVariants.{PusVersion}
use Rattle.lpt_pus.specs.Messages.{for_apid, in_packet, Gives}
use Rattle.lpt_pus.specs.Commands.{Command, CommandFits, tc_field, packet_of, IsCommand, command_at, is_tc, tc_verdict, command_in, IsCommandIn}
use Rattle.lpt_pus.proofs.MessageLemmas.{tested-ok, tested-passed, tested-version, for_apid-some, for_apid-again, in_packet-some}
use Rattle.lpt_packet.proofs.Codec.{length-spelling, word_cells}

-- ---- lengths

-- the data field has five octets besides the body
pub length-tc_field : (c : Command) → length (tc_field c) ≡ length c.body + 5
unfolding tc_field
length-tc_field c = omega (arith, length-append {A = ℕ})

-- the packet has thirteen octets besides the body
pub length-spelling_tc : (c : Command) → length (spelling (packet_of c)) ≡ length c.body + 13
length-spelling_tc c = omega (arith, length-spelling (packet_of c), length-tc_field c)

-- its packet is in its ranges
pub InRange-packet_of : (c : Command)
    → CommandFits c
    → InRange c.apid c.count (tc_field c)
InRange-packet_of c h = record {
  apid_fits = h.head_fits.apid_fits;
  count_fits = h.head_fits.count_fits;
  field_fits = omega (arith, length-tc_field c);
}

-- ---- reading what was written

-- a telecommand's packet is read as it
pub tc_verdict-packet_of : (c : Command) → CommandFits c → tc_verdict (packet_of c) ≡ Ok c
unfolding tc_verdict tc_field
tc_verdict-packet_of c h = grind (arith, common_steps, nat_tests)

-- what is related to a packet is read from it
pub tc_verdict-again : (f : Fields) (c : Command) → IsCommand f c → tc_verdict f ≡ Ok c
tc_verdict-again f c h = ap tc_verdict h.spelled ∙ tc_verdict-packet_of c h.fits

-- ---- the tests

-- a packet that passes the tests is read as what stands at its places
pub tc_verdict-passed : (f : Fields)
    → f.kind ≡ Tc
    → 5 ≤ length f.octets
    → get_or f.octets 0 0 / 16 ≡ 2
    → tc_verdict f ≡ Ok (command_at f)
unfolding tc_verdict
tc_verdict-passed f kind long version =
    tested-passed (is_tc f.kind) (nat_le 5 (length f.octets)) (get_or f.octets 0 0 / 16 == 2)
    (command_at f) (ap is_tc kind) (le-leb 5 (length f.octets) long)
    (eq-eqb (get_or f.octets 0 0 / 16) 2 version)

-- a packet of another PUS version is told by it
pub tc_verdict-version : (f : Fields)
    → f.kind ≡ Tc
    → 5 ≤ length f.octets
    → get_or f.octets 0 0 / 16 ≢ 2
    → tc_verdict f ≡ Err PusVersion
unfolding tc_verdict
tc_verdict-version f kind long version =
    tested-version (is_tc f.kind) (nat_le 5 (length f.octets)) (get_or f.octets 0 0 / 16 == 2)
    (command_at f) (ap is_tc kind) (le-leb 5 (length f.octets) long)
    (ne_eqb (get_or f.octets 0 0 / 16) 2 version)

-- ---- what is read

-- what is read has passed the tests, and is what stands at its places
pub tc_verdict-ok : (f : Fields) (c : Command)
    → tc_verdict f ≡ Ok c
    → (is_tc f.kind ≡ true) × (nat_le 5 (length f.octets) ≡ true)
    × ((get_or f.octets 0 0 / 16 == 2) ≡ true) × (command_at f ≡ c)
unfolding tc_verdict
tc_verdict-ok f c e =
    tested-ok (is_tc f.kind) (nat_le 5 (length f.octets)) (get_or f.octets 0 0 / 16 == 2)
    (command_at f) c e

-- its body is the data field from octet 5 on
pub body-tc_verdict : (f : Fields) (c : Command) → tc_verdict f ≡ Ok c → c.body ≡ drop 5 f.octets
body-tc_verdict f c e = ap (λ (read : Command). read.body) (sym ((tc_verdict-ok f c e).3))

-- a data field that is long enough is spelled by what stands at its places
tc_cells : (apid count : ℕ) (octets : List ℕ)
    → IsOctets octets
    → 5 ≤ length octets
    → get_or octets 0 0 / 16 ≡ 2
    → octets ≡ tc_field (command_at (fields_of Tc apid count octets))
unfolding tc_field
tc_cells _ _ [] o long version = absurd (omega arith)
tc_cells _ _ (a ∷ []) o long version = absurd (omega arith)
tc_cells _ _ (a ∷ b ∷ []) o long version = absurd (omega arith)
tc_cells _ _ (a ∷ b ∷ c ∷ []) o long version = absurd (omega arith)
tc_cells _ _ (a ∷ b ∷ c ∷ d ∷ []) o long version = absurd (omega arith)
tc_cells apid count (a ∷ b ∷ c ∷ d ∷ e ∷ body) o long version =
    let first : a ≡ 32 + a % 16 = omega arith in
    let source : be (256 * d + e) 2 ≡ d ∷ e ∷ [] = word_cells d e (o 3) (o 4) in
    cc

pub is_tc-true : (kind : PacketKind) → is_tc kind ≡ true → kind ≡ Tc
is_tc-true Tc e = refl
is_tc-true Tm e = absurd cc

-- what stands at the places of a telecommand's packet is what the packet is
IsCommand-command_at : (f : Fields)
    → InRange f.apid f.count f.octets
    → IsOctets f.octets
    → f.kind ≡ Tc
    → 5 ≤ length f.octets
    → get_or f.octets 0 0 / 16 ≡ 2
    → IsCommand f (command_at f)
IsCommand-command_at f r o kind long version = record {
  fits = record {
    head_fits = record {
      apid_fits = r.apid_fits;
      count_fits = r.count_fits;
      flags_fit = omega arith;
    };
    service_fits = o 1;
    subtype_fits = o 2;
    source_fits = omega (arith, o 3, o 4);
    body_fits = omega (arith, length-drop 5 f.octets);
  };
  spelled =
      ap (λ (k : PacketKind). fields_of k f.apid f.count f.octets) kind
      ∙ ap (fields_of Tc f.apid f.count) (tc_cells f.apid f.count f.octets o long version);
}

-- what is read from a packet is what it is
pub tc_verdict-found : (f : Fields) (c : Command)
    → InRange f.apid f.count f.octets
    → IsOctets f.octets
    → tc_verdict f ≡ Ok c
    → IsCommand f c
tc_verdict-found f c r o e =
    let passed = tc_verdict-ok f c e in
    let kind : f.kind ≡ Tc = is_tc-true f.kind (passed.0) in
    let long : 5 ≤ length f.octets = leb-true 5 (length f.octets) (passed.1) in
    let version : get_or f.octets 0 0 / 16 ≡ 2 = eqb-true (get_or f.octets 0 0 / 16) 2 (passed.2) in
    subst (IsCommand f) (passed.3) (IsCommand-command_at f r o kind long version)

-- what a reader answers by the verdict is what the packet is
pub found_by_tc_verdict : {X : Type 0} (view : X → Command) (result : Result X PusFault)
    → (f : Fields)
    → InRange f.apid f.count f.octets
    → IsOctets f.octets
    → Gives view result (tc_verdict f)
    → IfOk result (λ x. IsCommand f (view x))
found_by_tc_verdict view (Ok x) f r o e = tc_verdict-found f (view x) r o e
found_by_tc_verdict view (Err fault) f r o e = tt

-- ---- in octets

-- what octets are read as is in the packet that they are
pub command_in-found : (apid : ℕ) (b : List ℕ) (c : Command)
    → command_in apid b ≡ Some c
    → IsCommandIn apid b c
unfolding command_in
command_in-found apid b c e =
    let apid_of : Command → ℕ = λ read. read.apid in
    let packet = in_packet-some (λ f. for_apid apid_of apid (tc_verdict f)) (packet_seen b) c e in
    let read = for_apid-some apid_of apid (tc_verdict (packet.0)) c (packet.2) in
    record { packet = packet.0; is_packet = packet.1; is_command = read.0; is_for = read.1 }

-- what is in the packet that octets are is read from them
pub command_in-again : (apid : ℕ) (b : List ℕ) (c : Command)
    → IsCommandIn apid b c
    → command_in apid b ≡ Some c
unfolding command_in
command_in-again apid b c h =
    let apid_of : Command → ℕ = λ read. read.apid in
    ap (in_packet (λ f. for_apid apid_of apid (tc_verdict f))) h.is_packet
    ∙ ap (for_apid apid_of apid) h.is_command
    ∙ for_apid-again apid_of apid c h.is_for

-- what is written is read again, where its octets are seen as its packet
pub command_in-spelling : (c : Command)
    → CommandFits c
    → packet_seen (spelling (packet_of c)) ≡ Some (APacket (packet_of c))
    → command_in c.apid (spelling (packet_of c)) ≡ Some c
command_in-spelling c h e =
    command_in-again c.apid (spelling (packet_of c)) c (record {
      packet = packet_of c;
      is_packet = e;
      is_command = tc_verdict-packet_of c h;
      is_for = refl;
    })
