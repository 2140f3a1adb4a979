-- A piece that is a packet has no wrong checksum.
use Rattle.std.proofs.Common.{◌≡◌, ◌∙◌, ap, sym, subst, refl, ℕ, ◌+◌, ◌≤◌, nat_le, Bool, true, false, ◌&&◌, if◌then◌else◌, List, [], length, take, Result, Ok, Err, arith, append-nil, length-take, take_all}
use Rattle.std.proofs.lemmas.List.{length-take-le, take-take}
use Rattle.lpt_packet.specs.declared.fault.PacketFault.{PacketFault}
use Rattle.lpt_packet.specs.declared.fault.PacketFault.TheVariants.{Checksum}
use Rattle.lpt_packet.specs.Numbers.{word_at}
use Rattle.lpt_packet.specs.Packets.{Sight, verdict}
use Rattle.lpt_stream.specs.declared.cut.Cut.{Cut}
use Rattle.lpt_stream.specs.declared.cut.Cut.TheVariants.{Sealed, Framed, Resumed}
use Rattle.lpt_stream.specs.declared.buffer.PacketBuffer.{PacketBuffer}
use Rattle.lpt_stream.specs.declared.found.Found.{Found}
use Rattle.lpt_stream.specs.declared.piece_kind.PieceKind.{PieceKind}
use Rattle.lpt_stream.specs.declared.piece_kind.PieceKind.TheVariants.{Whole, Damaged, Stray}
use Rattle.lpt_stream.specs.Buffers.{cut_of, octets_held, is_in_step, found_piece, IsInFront}
use Rattle.lpt_stream.specs.Pieces.{Piece, IsSealed, IsSealedBy, begins, ends_in_checksum, is_found, is_taken, is_passed, kind_in, size_in, lookahead, piece_at, piece_by}

-- what is taken has no fault
untorn : (s c : Bool) (r : Result Sight PacketFault) → is_taken s c r ≡ true → r ≡ Err Checksum → ⊥
untorn s c (Ok x) h e = absurd cc
untorn s c (Err e) h k =
    absurd (let none : is_taken s c (Err Checksum) ≡ true = ap (is_taken s c) (sym k) ∙ h in cc)

-- a packet begins where one is whole
begun : (t s p : Bool)
    → (if t then Whole else if s && p then Damaged else Stray) ≡ Whole
    → t ≡ true
begun true s p h = refl
begun false true true h = absurd cc
begun false true false h = absurd cc
begun false false p h = absurd cc

-- as many octets as are looked at show as many of the front as these are
near : (n : ℕ) (b : List ℕ) → length (take n b) ≤ lookahead → take n (take lookahead b) ≡ take n b
near n b h = go (nat_le n lookahead) refl where
  go : (t : Bool) → nat_le n lookahead ≡ t → take n (take lookahead b) ≡ take n b
  go true e = take-take n lookahead b (grind (arith, e))
  go false e =
      let size = length-take n b in
      ap (take n) (take_all lookahead b (grind (arith, e, h, size)))

-- the piece in front has none
front_sealed : (s : Bool) (b : List ℕ)
    → length (piece_at s b).octets ≤ lookahead
    → IsSealed (piece_at s b).kind (piece_at s b).octets
unfolding piece_by
front_sealed s b h whole =
    let f = take lookahead b in
    let n = 7 + word_at f 4 in
    let same : take (size_in (kind_in s f) f) b ≡ take n b =
    ap (λ (k : PieceKind). take (size_in k f) b) whole in
    let short : length (take n b) ≤ lookahead = subst (λ x. length x ≤ lookahead) same h in
    let taken : is_found s (take n b) ≡ true =
    sym (ap (is_found s) (near n b short))
    ∙ begun (begins s f) s (is_passed f) whole in
    λ e. untorn s (ends_in_checksum (take n b)) (verdict (take n b)) taken
    (sym (ap verdict same) ∙ e)

sealed_by : (c : Cut) (s : Bool) (b : List ℕ)
    → length (piece_by c s b).octets ≤ lookahead
    → IsSealedBy c (piece_by c s b).kind (piece_by c s b).octets
sealed_by Sealed s b h = front_sealed s b h
sealed_by Framed s b h = tt
sealed_by (Resumed l) s b h = tt

-- nor has the piece that was found, where checksums are looked at
pub found_sealed : (b : PacketBuffer) (f : Found)
    → IsInFront b f
    → IsSealedBy (cut_of b) f.kind (take f.len (octets_held b))
found_sealed b f h =
    let c = cut_of b in
    let s = is_in_step b in
    let is : piece_by c s (octets_held b) ≡ found_piece b f =
    sym (ap (piece_by c s) (append-nil (octets_held b))) ∙ h.is [] (λ e. refl) in
    let size = length-take-le f.len (octets_held b) h.within in
    let most = h.most in
    subst (λ (p : Piece). IsSealedBy c p.kind p.octets) is
    (sealed_by c s (octets_held b)
    (subst (λ (p : Piece). length p.octets ≤ lookahead) (sym is) (omega (arith, size, most))))
