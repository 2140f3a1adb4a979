-- Pieces of areas, as a pass loads them.
use Rattle.std.proofs.Common.{◌≡◌, ◌∙◌, ap, sym, refl, subst, ℕ, ◌+◌, ◌^◌, ◌<◌, ◌≤◌, ◌==◌, nat_lt, Bool, true, false, if◌then◌else◌, List, [], ◌∷◌, ◌++◌, length, map, take, drop, Option, Some, None, inl, inr, arith}
use Rattle.std.specs.List.{slice_get, AllByRecursion}
use Rattle.std.specs.Option.{option_map}
use Rattle.std.proofs.lemmas.Bool.Decides.{nat_tests}
use Rattle.std.proofs.lemmas.List.{length-drop, length-take}
use Rattle.std.proofs.lemmas.Option.{slice_get-map}
use Rattle.lpt_memory.specs.declared.request.Area.{Area}
use Rattle.lpt_memory.specs.Meanings.{Sizes, size_of}
use Rattle.lpt_memory.specs.Memories.{Contents, content_of, sizes_of}
use Rattle.lpt_requests.specs.declared.cut_fault.CutFault.TheVariants.{Empty, PastEnd}
use Rattle.lpt_requests.specs.Cuts.{AreasCut, or_first, place_fault}
use Rattle.lpt_passes.specs.Images.{Agrees, Image}
use Rattle.lpt_passes.specs.AloneJobs.{image_of}
use Rattle.lpt_passes.proofs.AtLemmas.{all-behind, at-append, at-back, at-front, entry-of}
use Rattle.lpt_passes.proofs.CutLemmas.{IsPart, areas-octet, areas-part, part-agrees}
use Rattle.lpt_passes.proofs.LeavingLemmas.{AllSuit, Reaches, Suits}
use Rattle.lpt_passes.proofs.PacketLemmas.{IsShort}

-- an area lies within a memory of this size, and carries nothing but the image's octets into its
-- range, where it is in the image's memory
pub record AreaSuits (x : Image) (memory size : ℕ) (a : Area) : Type 0 where
  pub within : a.address + length a.octets ≤ size
  pub agrees : memory ≡ x.memory → Agrees x a

-- the size of a memory that there is
pub size-known : (id : ℕ) (content : List ℕ) (ms : Contents)
    → content_of id ms ≡ Some content
    → size_of id (sizes_of ms) ≡ Some (length content)
size-known id content [] known = absurd cc
size-known id content (m ∷ ms) known = go (m.0 == id) known (size-known id content ms) where
  go : (b : Bool)
      → (if b then Some m.1 else content_of id ms) ≡ Some content
      → (content_of id ms ≡ Some content → size_of id (sizes_of ms) ≡ Some (length content))
      → (if b then Some (length m.1) else size_of id (sizes_of ms)) ≡ Some (length content)
  go true k rest = let e : m.1 ≡ content = cc in ap (λ (c : List ℕ). Some (length c)) e
  go false k rest = rest k

-- ---- one area

-- a piece ends where its area does, or before
part-ends : (each : ℕ) (a p : Area)
    → IsPart each a p
    → p.address + length p.octets ≤ a.address + length a.octets
part-ends each a p part =
    let rest = drop part.offset a.octets in
    let long : length p.octets ≡ length (take each rest)
    = ap (λ (o : List ℕ). length o) part.are in
    omega (
      arith,
      part.is_at,
      part.within,
      long,
      length-take each rest,
      length-drop part.offset a.octets,
    )

part-short : (each : ℕ) (a p : Area)
    → 0 < each
    → each ≤ 65519
    → a.address + length a.octets ≤ 2 ^ 32
    → IsPart each a p
    → IsShort p
part-short each a p some few fits part =
    let rest = drop part.offset a.octets in
    let long : length p.octets ≡ length (take each rest)
    = ap (λ (o : List ℕ). length o) part.are in
    record {
      some = omega (
        arith,
        some,
        part.within,
        long,
        length-take each rest,
        length-drop part.offset a.octets,
      );
      few = omega (arith, few, long, length-take each rest);
      address = omega (arith, fits, part.is_at, part.within);
    }

-- ---- areas

pub pieces-short : (each : ℕ) (areas pieces : List Area)
    → 0 < each
    → each ≤ 65519
    → ((n : ℕ) (a : Area) → slice_get areas n ≡ Some a → a.address + length a.octets ≤ 2 ^ 32)
    → AreasCut each areas pieces
    → AllByRecursion IsShort pieces
pieces-short each areas pieces some few fit cut =
    all-behind IsShort 0 pieces
    (λ k p there from.
    let one = areas-part each areas pieces k p cut there in
    part-short each one.area p some few (fit one.number one.area one.is_there) one.part)

pub pieces-suit : (sizes : Sizes) (x : Image) (each memory size : ℕ) (areas pieces : List Area)
    → size_of memory sizes ≡ Some size
    → ((n : ℕ) (a : Area) → slice_get areas n ≡ Some a → AreaSuits x memory size a)
    → AreasCut each areas pieces
    → AllSuit sizes x (map (image_of memory) pieces)
pieces-suit sizes x each memory size areas pieces known suit cut k q there =
    let entry = entry-of (image_of memory) (slice_get pieces k) q
    (sym (slice_get-map (image_of memory) pieces k) ∙ there) in
    let p = entry.0 in
    let one = areas-part each areas pieces k p cut entry.1 in
    let suits = suit one.number one.area one.is_there in
    subst (Suits sizes x) entry.2
    (record {
      size = size;
      known = known;
      fits = omega (arith, part-ends each one.area p one.part, suits.within);
      agrees = λ same. part-agrees x each one.area p one.part (suits.agrees same);
    })

pub pieces-reach : (each memory : ℕ) (areas pieces : List Area) (n : ℕ) (a : Area) (i : ℕ)
    → AreasCut each areas pieces
    → slice_get areas n ≡ Some a
    → i < length a.octets
    → Reaches (image_of memory a) i (map (image_of memory) pieces)
pieces-reach each memory areas pieces n a i cut there within =
    let one = areas-octet each areas pieces n a i cut there within in
    record {
      number = one.number;
      piece = image_of memory one.piece;
      is_there =
          slice_get-map (image_of memory) pieces one.number
          ∙ ap (option_map (image_of memory)) one.is_there;
      of_memory = refl;
      covers = one.covers;
    }

-- ---- one behind the other

pub suit-append : (sizes : Sizes) (x : Image) (front rest : List Image)
    → AllSuit sizes x front
    → AllSuit sizes x rest
    → AllSuit sizes x (front ++ rest)
suit-append sizes x front rest a b k q there =
    elim (at-append front rest k q there) [
      | inl in_front ↦ a k q in_front
      | inr behind ↦ b behind.0 q behind.1
    ]

pub reach-front : (x : Image) (i : ℕ) (front rest : List Image)
    → Reaches x i front
    → Reaches x i (front ++ rest)
reach-front x i front rest one = record {
  number = one.number;
  piece = one.piece;
  is_there = at-front front rest one.number one.piece one.is_there;
  of_memory = one.of_memory;
  covers = one.covers;
}

pub reach-back : (x : Image) (i : ℕ) (front rest : List Image)
    → Reaches x i rest
    → Reaches x i (front ++ rest)
reach-back x i front rest one =
    let behind = at-back front rest one.number one.piece one.is_there in
    record {
      number = behind.0;
      piece = one.piece;
      is_there = behind.1;
      of_memory = one.of_memory;
      covers = one.covers;
    }

-- ---- faults

pub none-first : {F : Type 0} (a b : Option F) → or_first a b ≡ None → (a ≡ None) × (b ≡ None)
none-first None b h = (refl, h)
none-first (Some e) b h = absurd cc

pub else-none : {F : Type 0} (b : Bool) (e : F) (o : Option F)
    → (if b then Some e else o) ≡ None
    → o ≡ None
else-none true e o h = absurd cc
else-none false e o h = h

fits-by : (none past : Bool) (a l : ℕ)
    → (l == 0) ≡ none
    → nat_lt (2 ^ 32) (a + l) ≡ past
    → (if none then Some Empty else if past then Some PastEnd else None) ≡ None
    → a + l ≤ 2 ^ 32
fits-by true past a l n p h = absurd cc
fits-by false true a l n p h = absurd cc
fits-by false false a l n p h = grind (arith, nat_tests)

-- a place without a fault ends within the addresses
pub place-fits : (a l : ℕ) → place_fault a l ≡ None → a + l ≤ 2 ^ 32
place-fits a l h = fits-by (l == 0) (nat_lt (2 ^ 32) (a + l)) a l refl refl h
