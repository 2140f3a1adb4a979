-- A link holds a transaction exactly where some packet of it is held or in a hand.
use Rattle.std.proofs.Common.{lit<, length, ◌≡◌, ℕ, Bool, true, false, ◌&&◌, ◌↔◌, Some, None, Option, slice_get, refl, sym, ap, inl, inr}
use Rattle.std.specs.List.{list_any}
use Rattle.std.specs.Option.{option_map_or, option_and_then, option_eq}
use Rattle.std.proofs.lemmas.Bool.{and_parts, and_from, or_cases, or_left, or_right}
use Rattle.std.proofs.lemmas.List.Folds.{Any-from_list_any, list_any-from_Any}
use Rattle.std.proofs.lemmas.Option.{slice_get_read, slice_get_within, get_or_from_slice_get}
use Rattle.lpt_packet.proofs.NameLemmas.{same_name-refl, same_name-true}
use Rattle.lpt_packet.specs.Names.{Name, same_name}
use Rattle.lpt_packet.specs.declared.direction.Direction.{Direction}
use Rattle.lpt_events.specs.declared.lane.Lane.{Lane}
use Rattle.lpt_events.specs.declared.lane.Lane.TheVariants.{S1, S2, G1, G2}
use Rattle.lpt_link.specs.declared.packet.LinkPacket.{LinkPacket}
use Rattle.lpt_events.proofs.LaneLemmas.{same_direction-refl, same_direction-true}
use Rattle.lpt_events.specs.Lanes.{lanes, same_direction}
use Rattle.lpt_link.specs.Links.{LinkData, is_of, hand_of, hand_has, any_held, any_in_hand, holds, IsPresent}

-- ---- a packet of a transaction

same_tag-true : (tag : Option Name) (name : Name)
    → option_eq same_name tag (Some name) ≡ true
    → tag ≡ Some name
same_tag-true None name h = cc
same_tag-true (Some k) name h = ap Some (same_name-true k name h)

-- a packet of a transaction has its direction and identifier
pub is_of-true : (direction : Direction) (name : Name) (p : LinkPacket)
    → is_of direction name p ≡ true
    → (p.direction ≡ direction) × (p.tag ≡ Some name)
is_of-true direction name p h =
    let goes = same_direction p.direction direction in
    let both = and_parts goes (option_eq same_name p.tag (Some name)) h in
    (same_direction-true p.direction direction both.0, same_tag-true p.tag name both.1)

-- and one that has them is of it
pub is_of-same : (direction : Direction) (name : Name) (p : LinkPacket)
    → p.direction ≡ direction
    → p.tag ≡ Some name
    → is_of direction name p ≡ true
is_of-same direction name p goes tagged =
    rw (goes, tagged) (and_from (same_direction direction direction) (same_name name name)
    (same_direction-refl direction) (same_name-refl name))

-- ---- a packet in a hand

-- a test of what a hand has that passes has found a number and what stands there
hand_test : {X : Type 0} (test : X → Bool) (at : ℕ → Option X) (hand : Option ℕ)
    → option_map_or test (option_and_then at hand) false ≡ true
    → (n : ℕ) × (x : X) × (hand ≡ Some n) × (at n ≡ Some x) × (test x ≡ true)
hand_test test at None h = absurd (cc)
hand_test {X = X} test at (Some n) h = found (at n) refl
  where
    found : (o : Option X)
        → at n ≡ o
        → (m : ℕ) × (x : X) × (Some n ≡ Some m) × (at m ≡ Some x) × (test x ≡ true)
    found None is = cc
    found (Some x) is = (n, x, refl, is, rw is at h)

-- what passes at one lane passes at some lane
some_lane : (test : Lane → Bool) (lane : Lane) → test lane ≡ true → list_any test lanes ≡ true
some_lane test S1 h = list_any-from_Any test lanes (0, S1, lit< tt, refl, h)
some_lane test S2 h = list_any-from_Any test lanes (1, S2, lit< tt, refl, h)
some_lane test G1 h = list_any-from_Any test lanes (2, G1, lit< tt, refl, h)
some_lane test G2 h = list_any-from_Any test lanes (3, G2, lit< tt, refl, h)

-- ---- what is present

held_is_present : (d : LinkData) (direction : Direction) (name : Name)
    → any_held d direction name ≡ true
    → (n : ℕ) × IsPresent d direction name n
held_is_present d direction name h =
    let held_of = λ (p : LinkPacket). p.held && is_of direction name p in
    let some = Any-from_list_any held_of d.packets h in
    let both = and_parts some.1.held (is_of direction name some.1) some.4 in
    let is = is_of-true direction name some.1 both.1 in (
      some.0,
      record {
        packet = some.1;
        numbered =
            slice_get_read d.packets (length d.packets) some.0 some.1 refl some.2 (sym some.3);
        goes = is.0;
        tagged = is.1;
        present = inl both.0;
      },
    )

in_hand_is_present : (d : LinkData) (direction : Direction) (name : Name)
    → any_in_hand d direction name ≡ true
    → (n : ℕ) × IsPresent d direction name n
in_hand_is_present d direction name h =
    let some = Any-from_list_any (hand_has d direction name) lanes h in
    let found = hand_test (is_of direction name) (slice_get d.packets) (hand_of d some.1) some.4 in
    let is = is_of-true direction name found.1 found.4 in (
      found.0,
      record {
        packet = found.1;
        numbered = found.3;
        goes = is.0;
        tagged = is.1;
        present = inr (some.1, found.2);
      },
    )

present_held : (d : LinkData) (direction : Direction) (name : Name) (n : ℕ)
    (h : IsPresent d direction name n)
    → h.packet.held ≡ true
    → any_held d direction name ≡ true
present_held d direction name n h held =
    let held_of = λ (p : LinkPacket). p.held && is_of direction name p in
    let is = is_of-same direction name h.packet h.goes h.tagged in
    list_any-from_Any held_of d.packets (
      n,
      h.packet,
      slice_get_within d.packets n h.packet h.numbered,
      get_or_from_slice_get d.packets n h.packet h.packet h.numbered,
      and_from h.packet.held (is_of direction name h.packet) held is,
    )

present_in_hand : (d : LinkData) (direction : Direction) (name : Name) (n : ℕ)
    (h : IsPresent d direction name n) (lane : Lane)
    → hand_of d lane ≡ Some n
    → any_in_hand d direction name ≡ true
present_in_hand d direction name n h lane has =
    some_lane (hand_has d direction name) lane
    (rw (has, h.numbered) (is_of-same direction name h.packet h.goes h.tagged))

present_holds : (d : LinkData) (direction : Direction) (name : Name) (n : ℕ)
    → IsPresent d direction name n
    → holds d direction name ≡ true
present_holds d direction name n h =
    let held = any_held d direction name in
    let hands = any_in_hand d direction name in
    elim h.present [
      | inl mark ↦ or_left held hands (present_held d direction name n h mark)
      | inr at ↦ or_right held hands (present_in_hand d direction name n h at.0 at.1)
    ]

-- a link holds a transaction exactly where some packet of it is held or in a hand
pub holds-present : (d : LinkData) (direction : Direction) (name : Name)
    → (holds d direction name ≡ true) ↔ ((n : ℕ) × IsPresent d direction name n)
holds-present d direction name = (
  λ h. elim (or_cases (any_held d direction name) (any_in_hand d direction name) h) [
    | inl held ↦ held_is_present d direction name held
    | inr hand ↦ in_hand_is_present d direction name hand
  ],
  λ some. present_holds d direction name some.0 some.1,
)
