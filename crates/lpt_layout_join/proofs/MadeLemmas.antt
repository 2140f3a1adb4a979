-- The packet that is written of a part carries it.
use Rattle.std.proofs.Common.{◌≡◌, ◌⊎◌, ◌∙◌, ap, sym, subst, refl, inl, inr, ℕ, ◌-◌, ◌*◌, ◌≤◌, ◌==◌, min, max, true, if◌then◌else◌, List, length, arith, Ok, Err}
use Rattle.std.specs.Prelude.{Option, Some, None}
use Rattle.std.proofs.Math.Nat.{mul-le-mul_left}
use Rattle.std.proofs.lemmas.Bool.Decides.{nat_tests}
use Rattle.lpt_events.specs.Arrivals.{carried_kind, part_subtype}
use Rattle.lpt_layout.specs.Messages.{Said, HeadFits, message_verdict, packet_of}
use Rattle.lpt_layout.specs.Packets.{verdict_as}
use Rattle.lpt_layout.specs.Parts.{IsPartSizeAs, PieceFits, body_as, octets_at, part_verdict_as}
use Rattle.lpt_layout.specs.Writes.{octets_as}
use Rattle.lpt_layout.proofs.MessageLemmas.{message_verdict-packet_of}
use Rattle.lpt_layout.proofs.PartLemmas.{part_again, piece_at-body_as}
use Rattle.lpt_layout.proofs.SplitLemmas.{part_of-fits}
use Rattle.lpt_packet.specs.declared.direction.Direction.{Direction}
use Rattle.lpt_packet.specs.declared.direction.Direction.TheVariants.{Up, Down}
use Rattle.lpt_packet.specs.Packets.{APacket}
use Rattle.lpt_part.specs.declared.kind.Kind.{Kind}
use Rattle.lpt_part.specs.declared.kind.Kind.TheVariants.{First, Middle, Last}
use Rattle.lpt_part.specs.PartRanges.{LengthFits}
use Rattle.lpt_part.specs.Parts.{Piece, nth_part}
use Rattle.lpt_part.specs.Splitting.{kind_at, part_count, part_of}
use Rattle.lpt_carried.specs.declared.name.Name.{Name}
use Rattle.lpt_carried.specs.declared.reading.Reading.{Reading}
use Rattle.lpt_carried.specs.declared.skip.Skip.TheVariants.{OtherApid}
use Rattle.lpt_carried.specs.Carried.{part_carried, kind_to, of_kind, of_message, of_part, of_sight}
use Rattle.lpt_layout_join.specs.Laws.{IsSplit, part_named}
use Rattle.lpt_carried.specs.Sizes.{size_for}

kind_carried : (d : Direction) (kind : Kind) → carried_kind d 13 (part_subtype d kind) ≡ Some kind
kind_carried Up First = refl
kind_carried Up Middle = refl
kind_carried Up Last = refl
kind_carried Down First = refl
kind_carried Down Middle = refl
kind_carried Down Last = refl

-- a part that fits a size fits its own
own_fits : (kind : Kind) (k len p : ℕ) → LengthFits kind k len p → LengthFits kind k len len
own_fits First k len p h = let same : len ≡ p = omega (arith, h.least, h.greatest) in
    subst (LengthFits First k len) (sym same) h
own_fits Middle k len p h = let same : len ≡ p = omega (arith, h.least, h.greatest) in
    subst (LengthFits Middle k len) (sym same) h
own_fits Last k len p h =
    let less : (k - 1) * len ≤ (k - 1) * p = mul-le-mul_left (k - 1) h.greatest in
    record { least = h.least; greatest = omega arith; end = omega (arith, less, h.end) }

-- and no part has no octets
pub some_octets : (kind : Kind) (k len p : ℕ) → 1 ≤ p → LengthFits kind k len p → 1 ≤ len
some_octets First k len p some h = omega (arith, h.least)
some_octets Middle k len p some h = omega (arith, h.least)
some_octets Last k len p some h = omega (arith, h.least)

-- for the size by which it is read a part fits
fits_for : (size : Option ℕ) (kind : Kind) (k len p : ℕ)
    → IsPartSizeAs p
    → (size ≡ None) ⊎ (size ≡ Some p)
    → LengthFits kind k len p
    → LengthFits kind k len (size_for size len)
fits_for size kind k len p is (inl none) h =
    let own : max 1 (min len 65535) ≡ len =
    omega (arith, some_octets kind k len p is.0 h, h.greatest, is.1) in
    subst (LengthFits kind k len)
    (sym (ap (λ (o : Option ℕ). size_for o len) none ∙ own)) (own_fits kind k len p h)
fits_for size kind k len p is (inr some) h =
    subst (LengthFits kind k len) (sym (ap (λ (o : Option ℕ). size_for o len) some)) h

module _ (r : Reading) (n : Name) (p k : ℕ) (m : List ℕ) (s : Said)
    (split : IsSplit p m) (some : 1 ≤ k) (within : k ≤ part_count (length m) p) where
  abbrev kind : Kind
  kind = kind_at k (part_count (length m) p)

  abbrev q : Piece
  q = nth_part p n.id m k

  -- its body is read as it
  body-read : (r.part_size ≡ None) ⊎ (r.part_size ≡ Some p)
      → PieceFits r.parts q
      → s.body ≡ body_as r.parts q
      → part_verdict_as r.parts kind s.body
      (size_for r.part_size (length s.body - octets_at r.parts)) ≡ Ok q
  body-read known fits body =
      let len : length s.body - octets_at r.parts ≡ length (part_of m p k) =
      ap (λ (b : List ℕ). length b - octets_at r.parts) body
      ∙ omega (arith, (piece_at-body_as r.parts q fits).1) in
      let at = part_of-fits m p k split.size split.long split.short some within in
      let size = size_for r.part_size (length s.body - octets_at r.parts) in
      part_again r.parts size s.body q (record {
        fits = fits;
        numbered = at.0;
        length_fits = subst (λ (l : ℕ). LengthFits kind k (length (part_of m p k))
            (size_for r.part_size l)) (sym len)
            (fits_for r.part_size kind k (length (part_of m p k)) p split.size known at.1);
        spelled = body;
      })

  -- its packet is read as it
  pub made-is : (r.part_size ≡ None) ⊎ (r.part_size ≡ Some p)
      → PieceFits r.parts q
      → HeadFits r.layout s
      → verdict_as r.layout.has_checksum (octets_as r.layout (kind_to r.direction) s)
      ≡ Ok (APacket (packet_of r.layout (kind_to r.direction) s))
      → s.apid ≡ r.apid
      → s.service ≡ 13
      → s.subtype ≡ part_subtype r.direction kind
      → s.user ≡ n.user
      → s.body ≡ body_as r.parts q
      → part_carried r (octets_as r.layout (kind_to r.direction) s) ≡ Ok (part_named n p m k)
  unfolding part_carried
  made-is known fits head seen apid service subtype user body =
      let here : (s.apid == r.apid) ≡ true = grind (arith, nat_tests) in
      let type : carried_kind r.direction s.service s.subtype ≡ Some kind =
      (λ i. carried_kind r.direction (service i) (subtype i)) ∙ kind_carried r.direction kind in
      ap (of_sight r) seen
      ∙ (λ i. if here i
      then of_message r (message_verdict r.layout (kind_to r.direction)
      (packet_of r.layout (kind_to r.direction) s)) else Err (OtherApid s.apid))
      ∙ ap (of_message r) (message_verdict-packet_of r.layout (kind_to r.direction) s head)
      ∙ ap (of_kind r s) type
      ∙ ap (of_part s.user) (body-read known fits body)
      ∙ ap (λ (u : ℕ). Ok (record { user = u; piece = q })) user
