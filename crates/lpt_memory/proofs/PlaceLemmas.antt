-- Where a body stands in its packet, and where areas stand in a body.
use Rattle.std.proofs.Common.{◌≡◌, ◌∙◌, ap, sym, refl, ℕ, ◌+◌, ◌-◌, ◌≤◌, List, [], ◌∷◌, ◌++◌, length, take, drop, Some, arith}
use Rattle.std.proofs.lemmas.List.{length-append, take_at, drop-drop}
use Rattle.lpt_packet.specs.Checksums.{checksum}
use Rattle.lpt_packet.specs.Numbers.{be}
use Rattle.lpt_packet.specs.Packets.{Fields, header, spelling, IsPacket}
use Rattle.lpt_pus.specs.Commands.{Command, tc_field, IsCommand}
use Rattle.lpt_pus.specs.Sizes.{tc_header}
use Rattle.lpt_memory.specs.declared.request.StoredArea.{StoredArea}
use Rattle.lpt_memory.specs.Fields.{front_word, front_long, front_octets}
use Rattle.lpt_memory.specs.Requests.{front_load_area}
use Rattle.lpt_memory.specs.Seen.{body_of, AreWithin}

-- ---- a body

body_of-spelling : (f : Fields) → body_of (spelling f) ≡ drop tc_header f.octets
unfolding spelling
body_of-spelling f =
    let front = header f ++ f.octets in
    let control = be (checksum front) 2 in
    let long : length (front ++ control) - 2 ≡ length front =
    omega (arith, length-append front control)
    in
    ap (λ (n : ℕ). drop 11 (take n (front ++ control))) long
    ∙ ap (λ (xs : List ℕ). drop 11 xs) (take_at front control (length front) refl)

-- what stands at the place of a body is the telecommand's body
pub body_of-command : (octets : List ℕ) (f : Fields) (c : Command)
    → IsPacket octets f
    → IsCommand f c
    → body_of octets ≡ c.body
unfolding tc_field
body_of-command octets f c packet command =
    ap (λ (b : List ℕ). body_of b) packet.spelled
    ∙ body_of-spelling f
    ∙ ap (λ (g : Fields). drop tc_header g.octets) command.spelled

-- ---- areas

-- an area within the body, behind others
pub AreWithin-more : (len : ℕ) (areas : List StoredArea) (a : StoredArea)
    → AreWithin len areas
    → a.from + a.len ≤ len
    → AreWithin len (areas ++ a ∷ [])
AreWithin-more len [] a within fits = (fits, tt)
AreWithin-more len (b ∷ rest) a within fits =
    (within.0, AreWithin-more len rest a within.1 fits)

-- fields that are read one behind the other, from a place of the body on, are those of an area
pub load_area-at : (body : List ℕ) (at address len n checksum : ℕ)
    (r0 r1 r2 text r3 r4 : List ℕ)
    → Some (address, r1) ≡ front_long r0
    → Some (len, r2) ≡ front_word r1
    → Some (text, r3) ≡ front_octets len r2
    → Some (checksum, r4) ≡ front_word r3
    → n ≡ len
    → r0 ≡ drop at body
    → r1 ≡ drop 4 r0
    → r2 ≡ drop 2 r1
    → text ≡ take len r2
    → r3 ≡ drop len r2
    → r4 ≡ drop 2 r3
    → Some (
      record {
        address = address;
        octets = take len (drop (at + 6) body);
        checksum = checksum;
      },
      drop (at + 6 + n + 2) body,
    ) ≡ front_load_area (drop at body)
unfolding front_load_area
load_area-at body at address len n checksum r0 r1 r2 text r3 r4 a l o c size e0 e1 e2 et e3 e4 =
    let octets : drop (at + 6) body ≡ r2 =
    sym (
    e2
    ∙ ap (λ (xs : List ℕ). drop 2 xs) (e1 ∙ ap (λ (ys : List ℕ). drop 4 ys) e0 ∙ drop-drop 4 at body)
    ∙ drop-drop 2 (at + 4) body
    ∙ ap (λ (n : ℕ). drop n body) (omega arith)
    )
    in
    let behind : drop (at + 6 + n + 2) body ≡ r4 =
    sym (
    e4
    ∙ ap (λ (xs : List ℕ). drop 2 xs)
    (e3 ∙ ap (λ (xs : List ℕ). drop len xs) (sym octets) ∙ drop-drop len (at + 6) body)
    ∙ drop-drop 2 (at + 6 + len) body
    ∙ ap (λ (k : ℕ). drop (at + 6 + k + 2) body) (sym size)
    )
    in
    let same : take len (drop (at + 6) body) ≡ text = ap (λ (xs : List ℕ). take len xs) octets
    ∙ sym et in
    rw (behind, same, sym e0, sym a, sym l, sym o, sym c) refl
