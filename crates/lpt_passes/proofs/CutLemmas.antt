-- What is cut of areas, piece by piece.
use Rattle.std.proofs.Common.{◌≡◌, ◌∙◌, ap, sym, refl, subst, ℕ, zero, suc, ◌+◌, ◌-◌, ◌<◌, List, [], ◌∷◌, length, take, drop, get_or, Some, inl, inr, arith}
use Rattle.std.specs.List.{slice_get}
use Rattle.std.proofs.lemmas.Bool.{cases_lt}
use Rattle.std.proofs.lemmas.List.{drop-drop, get_or-drop, get_or-take, length-drop, length-take}
use Rattle.lpt_memory.specs.declared.request.Area.{Area}
use Rattle.lpt_memory.specs.Overlaps.{Covers}
use Rattle.lpt_requests.specs.Cuts.{AreCut, AreasCut}
use Rattle.lpt_passes.specs.Images.{Agrees, Image}
use Rattle.lpt_passes.proofs.AtLemmas.{at-append, at-back, at-front}

-- a piece is octets of an area from one of them on, so many at most
pub record IsPart (each : ℕ) (a p : Area) : Type 0 where
  pub offset : ℕ
  pub is_at : p.address ≡ a.address + offset
  pub are : p.octets ≡ take each (drop offset a.octets)
  pub within : offset < length a.octets

-- of one of these areas
pub record IsPartOfOne (each : ℕ) (areas : List Area) (p : Area) : Type 0 where
  pub number : ℕ
  pub area : Area
  pub is_there : slice_get areas number ≡ Some area
  pub part : IsPart each area p

-- one of the pieces has an octet for this place
pub record HaveOctet (place : ℕ) (pieces : List Area) : Type 0 where
  pub number : ℕ
  pub piece : Area
  pub is_there : slice_get pieces number ≡ Some piece
  pub covers : Covers place piece

-- ---- each piece is a part

cut-part : (each address : ℕ) (octets : List ℕ) (pieces : List Area) (k : ℕ) (p : Area)
    → AreCut each address octets pieces
    → slice_get pieces k ≡ Some p
    → IsPart each (record { address = address; octets = octets }) p
cut-part each address octets [] k p cut there = absurd cc
cut-part each address octets (q ∷ rest) zero p cut there =
    let same : q ≡ p = cc in
    let is = sym same ∙ cut.1 in
    let none : address ≡ address + 0 = omega arith in
    record {
      offset = 0;
      is_at = ap (λ (a : Area). a.address) is ∙ none;
      are = ap (λ (a : Area). a.octets) is;
      within = cut.0;
    }
cut-part each address octets (q ∷ rest) (suc k) p cut there =
    let part =
    cut-part each (address + each) (drop each octets) rest k p cut.2 there in
    let behind : address + each + part.offset ≡ address + (each + part.offset) = omega arith in
    record {
      offset = each + part.offset;
      is_at = part.is_at ∙ behind;
      are = part.are ∙ ap (take each) (drop-drop part.offset each octets);
      within = omega (arith, part.within, length-drop each octets);
    }

pub areas-part : (each : ℕ) (areas pieces : List Area) (k : ℕ) (p : Area)
    → AreasCut each areas pieces
    → slice_get pieces k ≡ Some p
    → IsPartOfOne each areas p
areas-part each [] pieces k p cut there =
    let gone : slice_get {X = Area} [] k ≡ Some p
    = ap (λ (ps : List Area). slice_get ps k) (sym cut) ∙ there in
    absurd cc
areas-part each (a ∷ areas) pieces k p cut there =
    elim (at-append cut.0 cut.1 k p (ap (λ (ps : List Area). slice_get ps k) (sym cut.2) ∙ there)) [
      | inl front ↦ record {
        number = 0;
        area = a;
        is_there = refl;
        part = cut-part each a.address a.octets cut.0 k p cut.3 front;
      }
      | inr behind ↦
          (let one = areas-part each areas cut.1 behind.0 p cut.4 behind.1 in
          record {
            number = suc one.number;
            area = one.area;
            is_there = one.is_there;
            part = one.part;
          })
    ]

-- ---- each octet is in a piece

cut-octet : (each address : ℕ) (octets : List ℕ) (pieces : List Area) (i : ℕ)
    → AreCut each address octets pieces
    → i < length octets
    → HaveOctet (address + i) pieces
cut-octet each address octets [] i cut within =
    let none : length octets ≡ 0 = ap (λ (o : List ℕ). length o) cut in
    absurd (omega (arith, none, within))
cut-octet each address octets (q ∷ rest) i cut within =
    elim (cases_lt i each) [
      | inl below ↦ record {
        number = 0;
        piece = q;
        is_there = refl;
        covers = subst (Covers (address + i)) (sym cut.1) (record {
          from = omega arith;
          to = omega (arith, length-take each octets, below, within);
        });
      }
      | inr above ↦
          (let one =
          cut-octet each (address + each) (drop each octets) rest (i - each) cut.2
          (omega (arith, length-drop each octets, above, within)) in
          let same : address + each + (i - each) ≡ address + i = omega (arith, above) in
          record {
            number = suc one.number;
            piece = one.piece;
            is_there = one.is_there;
            covers = subst (λ (n : ℕ). Covers n one.piece) same one.covers;
          })
    ]

pub areas-octet : (each : ℕ) (areas pieces : List Area) (n : ℕ) (a : Area) (i : ℕ)
    → AreasCut each areas pieces
    → slice_get areas n ≡ Some a
    → i < length a.octets
    → HaveOctet (a.address + i) pieces
areas-octet each [] pieces n a i cut there within = absurd cc
areas-octet each (b ∷ areas) pieces zero a i cut there within =
    let same : b ≡ a = cc in
    let one =
    cut-octet each b.address b.octets cut.0 i cut.3
    (subst (λ (z : Area). i < length z.octets) (sym same) within) in
    record {
      number = one.number;
      piece = one.piece;
      is_there =
          ap (λ (ps : List Area). slice_get ps one.number) cut.2
          ∙ at-front cut.0 cut.1 one.number one.piece one.is_there;
      covers = subst (λ (z : Area). Covers (z.address + i) one.piece) same one.covers;
    }
areas-octet each (b ∷ areas) pieces (suc n) a i cut there within =
    let one = areas-octet each areas cut.1 n a i cut.4 there within in
    let behind = at-back cut.0 cut.1 one.number one.piece one.is_there in
    record {
      number = behind.0;
      piece = one.piece;
      is_there = ap (λ (ps : List Area). slice_get ps behind.0) cut.2 ∙ behind.1;
      covers = one.covers;
    }

-- ---- an image

-- a part of an area that agrees with an image does
pub part-agrees : (x : Image) (each : ℕ) (a p : Area)
    → IsPart each a p
    → Agrees x a
    → Agrees x p
part-agrees x each a p part agrees i within covers =
    let place = x.address + i in
    let rest = drop part.offset a.octets in
    let long : length p.octets ≡ length (take each rest)
    = ap (λ (o : List ℕ). length o) part.are in
    let at = place - p.address in
    let below : at < each
    = omega (arith, covers.from, covers.to, long, length-take each rest) in
    let there : Covers place a = record {
      from = omega (arith, covers.from, part.is_at);
      to =
          omega (
            arith,
            covers.from,
            covers.to,
            part.is_at,
            part.within,
            long,
            length-take each rest,
            length-drop part.offset a.octets,
          );
    } in
    let same : part.offset + at ≡ place - a.address
    = omega (arith, covers.from, part.is_at) in
    ap (λ (o : List ℕ). get_or o at 0) part.are
    ∙ get_or-take each rest at 0 below
    ∙ get_or-drop part.offset a.octets at 0
    ∙ ap (λ (n : ℕ). get_or a.octets n 0) same
    ∙ agrees i within there
