-- What ground's packets are made of: octets; and a request arrives as the octets that it is.
use Rattle.std.proofs.Common.{◌≡◌, refl, ℕ, zero, suc, ◌+◌, ◌-◌, ◌*◌, ◌<◌, ◌==◌, ◌&&◌, Bool, true, false, if◌then◌else◌, List, [], ◌∷◌, ◌++◌, length, drop, Option, Some, None, arith}
use Rattle.std.specs.Option.{option_map_or}
use Rattle.std.specs.Result.{result_ok}
use Rattle.lpt_packet.specs.declared.direction.Direction.TheVariants.{Up, Down}
use Rattle.lpt_packet.specs.Checksums.{checksum}
use Rattle.lpt_packet.specs.Names.{named_by}
use Rattle.lpt_packet.specs.Numbers.{be, IsOctets}
use Rattle.lpt_packet.specs.Packets.{Fields, Sight, IdlePacket, APacket, packet_type, header, spelling, packet_seen}
use Rattle.lpt_packet.proofs.OctetLists.{IsOctets-take, IsOctets-drop}
use Rattle.lpt_pus.specs.Commands.{Command, packet_of, tc_field, tc_verdict}
use Rattle.lpt_pus.specs.Telemetry.{Telemetry, tm_verdict}
use Rattle.lpt_part.specs.declared.kind.Kind.{Kind}
use Rattle.lpt_part.specs.declared.kind.Kind.TheVariants.{First}
use Rattle.lpt_part.specs.declared.reason.Reason.{Reason}
use Rattle.lpt_part.specs.Aborts.{abort_in}
use Rattle.lpt_part.specs.Parts.{Piece, part_in, body_of}
use Rattle.lpt_events.specs.NamedParts.{part_named}
use Rattle.lpt_events.specs.declared.config.Config.{Config}
use Rattle.lpt_events.specs.declared.side.Side.{Side}
use Rattle.lpt_events.specs.declared.side.Side.TheVariants.{Ground, Craft}
use Rattle.lpt_events.specs.Arrivals.{NotRead, Foreign, ARequest, AReport, NoPart, APart, AnAbort, carried_kind, part_arrival, abort_arrival, command_arrival, report_arrival, telemetry_arrival, packet_arrival, sight_arrival, arrival, part_subtype}
use Rattle.lpt_events.specs.MadePackets.{nth_part, command_made, tc_made, part_made}

-- ---- octets

octets_cons : (x : ℕ) (b : List ℕ) → x < 256 → IsOctets b → IsOctets (x ∷ b)
octets_cons x b fits o zero = fits
octets_cons x b fits o (suc i) = o i

octets_append : (a b : List ℕ) → IsOctets a → IsOctets b → IsOctets (a ++ b)
octets_append [] b o p = p
octets_append (x ∷ a) b o p = octets_cons x (a ++ b) (o 0) (octets_append a b (λ i. o (suc i)) p)

octets_two : (n : ℕ) → IsOctets (be n 2)
octets_two n zero = omega arith
octets_two n (suc zero) = omega arith
octets_two n (suc (suc i)) = omega arith

octets_more : (n : ℕ) (b : List ℕ) → IsOctets b → IsOctets (be n 2 ++ b)
octets_more n b o = octets_append (be n 2) b (octets_two n) o

spelling_octets : (f : Fields) → IsOctets f.octets → IsOctets (spelling f)
unfolding spelling
spelling_octets f o =
    let front = header f ++ f.octets in
    octets_append front (be (checksum front) 2)
    (octets_append (header f) f.octets
    (octets_more (packet_type f.kind * 4096 + 2048 + f.apid)
    (be (49152 + f.count) 2 ++ be (length f.octets + 1) 2)
    (octets_more (49152 + f.count) (be (length f.octets + 1) 2)
    (octets_two (length f.octets + 1)))) o)
    (octets_two (checksum front))

field_octets : (c : Command)
    → c.flags < 16
    → c.service < 256
    → c.subtype < 256
    → IsOctets c.body
    → IsOctets (tc_field c)
unfolding tc_field
field_octets c f s t o =
    let behind = be c.source 2 ++ c.body in
    octets_cons (32 + c.flags) (c.service ∷ c.subtype ∷ behind) (omega arith)
    (octets_cons c.service (c.subtype ∷ behind) s
    (octets_cons c.subtype behind t
    (octets_more c.source c.body o)))

-- a telecommand with a body of octets is octets
pub made_octets : (c : Config) (peer count flags service subtype : ℕ) (body : List ℕ)
    → flags < 16
    → service < 256
    → subtype < 256
    → IsOctets body
    → IsOctets (tc_made c peer count flags service subtype body)
made_octets c peer count flags service subtype body f s t o =
    let it = command_made c peer count flags service subtype body in
    spelling_octets (packet_of it) (field_octets it f s t o)

body_of_octets : (q : Piece) → IsOctets q.octets → IsOctets (body_of q)
unfolding body_of
body_of_octets q o =
    octets_more q.id (be q.number 2 ++ q.octets) (octets_more q.number q.octets o)

up_subtype_small : (kind : Kind) → part_subtype Up kind < 256
up_subtype_small First = omega arith
up_subtype_small kind = omega arith

-- a part of a message of octets goes up in octets
pub part_octets : (c : Config) (peer count k id : ℕ) (m : List ℕ)
    → IsOctets m
    → IsOctets (part_made c Up peer count 0 0 (nth_part c.part_size id m k))
part_octets c peer count k id m o =
    let q = nth_part c.part_size id m k in
    made_octets c peer count 0 13 (part_subtype Up q.kind) (body_of q) (omega arith) (omega arith)
    (up_subtype_small q.kind)
    (body_of_octets q
    (IsOctets-take c.part_size (drop ((k - 1) * c.part_size) m)
    (IsOctets-drop ((k - 1) * c.part_size) m o)))

-- ---- requests

part_is_none : (p source : ℕ) (body : List ℕ) (kind : Kind) (r : List ℕ)
    → part_arrival p source body kind ≡ ARequest r
    → ⊥
part_is_none p source body kind r = go (part_in p kind body) where
  go : (o : Option Piece) → option_map_or (λ q. APart (part_named source q)) o NoPart ≡ ARequest r
      → ⊥
  go None e = cc
  go (Some q) e = cc

abort_is_none : (source : ℕ) (body r : List ℕ) → abort_arrival source body ≡ ARequest r → ⊥
abort_is_none source body r = go (abort_in body) where
  go : (o : Option (ℕ × Reason)) → option_map_or (λ a. AnAbort (named_by source a.0) a.1) o NoPart
      ≡ ARequest r → ⊥
  go None e = cc
  go (Some a) e = cc

report_is_none : (t : Telemetry) (r : List ℕ) → report_arrival t ≡ ARequest r → ⊥
report_is_none t r = go ((t.service == 13) && (t.subtype == 16)) where
  go : (b : Bool)
      → (if b then abort_arrival t.destination t.body else AReport t.service t.subtype) ≡ ARequest r
      → ⊥
  go true e = abort_is_none t.destination t.body r e
  go false e = cc

telemetry_is_none : (p : ℕ) (t : Telemetry) (r : List ℕ) → telemetry_arrival p t ≡ ARequest r → ⊥
telemetry_is_none p t r = go (carried_kind Down t.service t.subtype) where
  go : (o : Option Kind)
      → option_map_or (part_arrival p t.destination t.body) o (report_arrival t) ≡ ARequest r
      → ⊥
  go None e = report_is_none t r e
  go (Some kind) e = part_is_none p t.destination t.body kind r e

command_is : (p : ℕ) (b : List ℕ) (c : Command) (r : List ℕ)
    → command_arrival p b c ≡ ARequest r
    → b ≡ r
command_is p b c r = go (carried_kind Up c.service c.subtype) where
  go : (o : Option Kind) → option_map_or (part_arrival p c.source c.body) o (ARequest b)
      ≡ ARequest r → b ≡ r
  go None e = cc
  go (Some kind) e = absurd (part_is_none p c.source c.body kind r e)

packet_is : (side : Side) (p : ℕ) (b : List ℕ) (f : Fields) (r : List ℕ)
    → packet_arrival side p b f ≡ ARequest r
    → (side ≡ Craft) × (b ≡ r)
packet_is Craft p b f r = go (result_ok (tc_verdict f)) where
  go : (o : Option Command)
      → option_map_or (command_arrival p b) o NotRead ≡ ARequest r
      → (Craft ≡ Craft) × (b ≡ r)
  go None e = absurd cc
  go (Some c) e = (refl, command_is p b c r e)
packet_is Ground p b f r = go (result_ok (tm_verdict f)) where
  go : (o : Option Telemetry)
      → option_map_or (telemetry_arrival p) o NotRead ≡ ARequest r
      → (Ground ≡ Craft) × (b ≡ r)
  go None e = absurd cc
  go (Some t) e = absurd (telemetry_is_none p t r e)

-- what arrives as a request came to the spacecraft, in these octets
pub request_is : (side : Side) (apid p : ℕ) (b r : List ℕ)
    → arrival side apid p b ≡ ARequest r
    → (side ≡ Craft) × (b ≡ r)
unfolding arrival
request_is side apid p b r = go (packet_seen b) where
  of_apid : (f : Fields) (t : Bool)
      → (if t then packet_arrival side p b f else Foreign) ≡ ARequest r
      → (side ≡ Craft) × (b ≡ r)
  of_apid f true e = packet_is side p b f r e
  of_apid f false e = absurd cc

  go : (s : Option Sight)
      → sight_arrival side apid p b s ≡ ARequest r
      → (side ≡ Craft) × (b ≡ r)
  go None e = absurd cc
  go (Some IdlePacket) e = absurd cc
  go (Some (APacket f)) e = of_apid f (f.apid == apid) e
