-- At the profile's own layouts the verdicts are the profile's own.
use Rattle.std.proofs.Common.{◌≡◌, ◌∙◌, ap, sym, refl, ℕ, ◌+◌, ◌/◌, ◌≤◌, ◌==◌, nat_le, Bool, true, false, ◌&&◌, List, length, get_or, arith, Ok}
use Rattle.std.proofs.lemmas.Bool.{leb-true}
use Rattle.std.proofs.lemmas.Bool.Decides.{nat_tests}
use Rattle.lpt_packet.specs.declared.packet.PacketKind.TheVariants.{Tm, Tc}
use Rattle.lpt_packet.specs.Numbers.{word_at, IsOctets}
use Rattle.lpt_packet.specs.Packets.{Fields, spelling}
use Rattle.lpt_packet.proofs.BoolLemmas.{and_true, le_true}
use Rattle.lpt_part.specs.declared.kind.Kind.{Kind}
use Rattle.lpt_part.specs.declared.kind.Kind.TheVariants.{First, Middle, Last}
use Rattle.lpt_part.specs.Parts.{Piece, number_test, part_verdict, body_of}
use Rattle.lpt_pus.specs.Commands as commands
use Rattle.lpt_pus.specs.Commands.{Command, tc_field, tc_verdict, command_at, is_tc}
use Rattle.lpt_pus.specs.Messages.{headers_tested}
use Rattle.lpt_pus.specs.Telemetry.{Telemetry, tm_field, tm_packet_of, tm_verdict, telemetry_at, is_tm}
use Rattle.lpt_layout.specs.declared.width.Width.TheVariants.{Long}
use Rattle.lpt_layout.specs.Messages.{Said, field_of, said_at, message_verdict}
use Rattle.lpt_layout.specs.Own.{own_tm, own_tc, own_parts, of_telemetry, of_command, put_as}
use Rattle.lpt_layout.specs.Packets.{spelling_as}
use Rattle.lpt_layout.specs.Parts.{body_as, is_numbered, part_verdict_as}
use Rattle.lpt_layout.specs.Writes.{octets_as}
use Rattle.lpt_layout.proofs.NumberLemmas.{be-number_at}

-- ---- reading

-- a verdict in other words, over its tests
put_as-tested : {X : Type 0} (view : X → Said) (a b c : Bool) (x : X) (s : Said)
    → (b ≡ true → s ≡ view x)
    → headers_tested a b c s ≡ put_as view (headers_tested a b c x)
put_as-tested view true true true x s h = ap Ok (h refl)
put_as-tested view true true false x s h = refl
put_as-tested view true false c x s h = refl
put_as-tested view false b c x s h = refl

-- telemetry is read as by the profile's own reader
pub own_telemetry : (f : Fields)
    → IsOctets f.octets
    → message_verdict own_tm Tm f ≡ put_as of_telemetry (tm_verdict f)
unfolding message_verdict tm_verdict
own_telemetry f o =
    put_as-tested of_telemetry (is_tm f.kind) (nat_le 11 (length f.octets))
    (get_or f.octets 0 0 / 16 == 2) (telemetry_at f) (said_at own_tm f)
    (λ h.
    let long : 11 ≤ length f.octets = leb-true 11 (length f.octets) h in
    let time = sym (be-number_at Long f.octets 7 o long) in
    λ i. record (of_telemetry (telemetry_at f)) { time = time i })

-- a telecommand is read as by the profile's own reader
pub own_command : (f : Fields) → message_verdict own_tc Tc f ≡ put_as of_command (tc_verdict f)
unfolding message_verdict tc_verdict
own_command f =
    put_as-tested of_command (is_tc f.kind) (nat_le 5 (length f.octets))
    (get_or f.octets 0 0 / 16 == 2) (command_at f) (said_at own_tc f) (λ h. refl)

-- a number of two octets has the same tests
numbered : (kind : Kind) (n : ℕ) → n ≤ 65535 → is_numbered kind n ≡ number_test kind n
numbered First n h = grind (arith, nat_tests)
numbered Middle n h = sym (ap (λ t. nat_le 2 n && t) (le_true n 65535 h) ∙ and_true (nat_le 2 n))
numbered Last n h = sym (ap (λ t. nat_le 2 n && t) (le_true n 65535 h) ∙ and_true (nat_le 2 n))

-- a part is read as by the profile's own reader
pub own_part : (kind : Kind) (b : List ℕ) (p : ℕ)
    → IsOctets b
    → part_verdict_as own_parts kind b p ≡ part_verdict kind b p
unfolding part_verdict_as part_verdict
own_part kind b p o =
    let small : word_at b 2 ≤ 65535 = omega (arith, o 2, o (2 + 1)) in
    rw (numbered kind (word_at b 2) small) refl

-- ---- writing

-- telemetry is written as by the profile's own writer
pub own_tm_octets : (t : Telemetry)
    → octets_as own_tm Tm (of_telemetry t) ≡ spelling (tm_packet_of t)
unfolding spelling_as field_of tm_field
own_tm_octets t = refl

-- a telecommand is written as by the profile's own writer
pub own_tc_octets : (c : Command)
    → octets_as own_tc Tc (of_command c) ≡ spelling (commands.packet_of c)
unfolding spelling_as field_of tc_field
own_tc_octets c = refl

-- a part is written as by the profile's own writer
pub own_part_body : (q : Piece) → body_as own_parts q ≡ body_of q
unfolding body_as body_of
own_part_body q = refl
