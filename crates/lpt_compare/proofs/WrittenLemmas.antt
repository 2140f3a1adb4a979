-- Stretches of an image, put over a memory that has another.
use Rattle.std.proofs.Common.{◌≡◌, ◌∙◌, ap, sym, subst, ℕ, ◌+◌, ◌-◌, ◌<◌, ◌≤◌, List, [], ◌∷◌, length, map, drop, get_or, ext_get_or, inl, inr, arith}
use Rattle.std.proofs.lemmas.Bool.{cases_lt}
use Rattle.std.proofs.lemmas.List.{get_or-drop, get_or-take, length-drop, length-take}
use Rattle.lpt_memory.specs.declared.request.Area.{Area}
use Rattle.lpt_memory.specs.Memories.{put_all, put_at}
use Rattle.lpt_memory.specs.Overlaps.{Covers}
use Rattle.lpt_memory.proofs.PutLemmas.{length-put_at, put_all-last, put_all-untouched}
use Rattle.lpt_compare.specs.declared.differing.Stretch.{Stretch}
use Rattle.lpt_compare.specs.Differences.{AreSame, AreStretches, HasAt, Turns, area_at, block, octets_in}

-- ---- one stretch

-- a stretch of an image has an octet, or none, and the image fits a memory at an address
record Fits (content : List ℕ) (address : ℕ) (image : List ℕ) (s : Stretch) : Type 0 where
  up : s.from ≤ s.end
  within : s.end ≤ length image
  room : address + length image ≤ length content

-- the memory with it
abbrev put : List ℕ → ℕ → List ℕ → Stretch → List ℕ
put content address image s = put_at content (address + s.from) (octets_in image s)

area-end : (content : List ℕ) (address : ℕ) (image : List ℕ) (s : Stretch)
    → Fits content address image s
    → address + s.from + length (octets_in image s) ≡ address + s.end
area-end content address image s f =
    let up = f.up in
    let within = f.within in
    omega (
      arith,
      up,
      within,
      length-take (s.end - s.from) (drop s.from image),
      length-drop s.from image,
    )

area-fits : (content : List ℕ) (address : ℕ) (image : List ℕ) (s : Stretch)
    → Fits content address image s
    → address + s.from + length (octets_in image s) ≤ length content
area-fits content address image s f =
    let within = f.within in
    let room = f.room in
    omega (arith, area-end content address image s f, within, room)

-- it has the image's octets there
put-inside : (content : List ℕ) (address : ℕ) (image : List ℕ) (s : Stretch) (i : ℕ)
    → Fits content address image s
    → s.from ≤ i
    → i < s.end
    → get_or (put content address image s) (address + i) 0 ≡ get_or image i 0
put-inside content address image s i f low high =
    let end = area-end content address image s f in
    let place : address + i - (address + s.from) ≡ i - s.from = omega arith in
    let back : s.from + (i - s.from) ≡ i = omega arith in
    put_all-last content [] (area_at address image s) [] (address + i)
    (area-fits content address image s f, tt)
    (record { from = omega (arith, low); to = omega (arith, end, high) }) tt
    ∙ ap (λ (k : ℕ). get_or (octets_in image s) k 0) place
    ∙ get_or-take (s.end - s.from) (drop s.from image) (i - s.from) 0 (omega (arith, low, high))
    ∙ get_or-drop s.from image (i - s.from) 0
    ∙ ap (λ (k : ℕ). get_or image k 0) back

-- elsewhere it is as before
put-outside : (content : List ℕ) (address : ℕ) (image : List ℕ) (s : Stretch) (j : ℕ)
    → Fits content address image s
    → (address + s.from ≤ j → address + s.end ≤ j)
    → get_or (put content address image s) j 0 ≡ get_or content j 0
put-outside content address image s j f out =
    let a = area_at address image s in
    let end = area-end content address image s f in
    put_all-untouched content (a ∷ []) j (area-fits content address image s f, tt) (
      (λ (h : Covers j a).
          let behind = out h.from in
          let to = h.to in
          absurd (omega (arith, end, behind, to))),
      tt,
    )

-- ---- all

-- stretches of two images, outside which both have the same from a place on
abbrev pub Outside : (old new : List ℕ) → (from : ℕ) → List Stretch → Type 0
Outside old new from [] = AreSame old new from (length new)
Outside old new from (s ∷ rest) =
    (from ≤ s.from) × (s.from ≤ s.end) × (s.end ≤ length new) × AreSame old new from s.from
    × Outside old new s.end rest

outside-turned : (old new : List ℕ) (from : ℕ) (ss : List Stretch)
    → length old ≡ length new
    → Outside old new from ss
    → Outside new old from ss
outside-turned old new from [] size out =
    λ i low high. sym (out i low (omega (arith, size, high)))
outside-turned old new from (s ∷ rest) size out = (
  out.0,
  out.1,
  (let within = out.2 in omega (arith, size, within)),
  (λ i low high. sym (out.3 i low high)),
  outside-turned old new s.end rest size out.4,
)

stretches-outside : (old new : List ℕ) (gap align from least : ℕ) (ss : List Stretch)
    → length old ≡ length new
    → from ≤ least
    → AreStretches old new gap align from least ss
    → Outside old new from ss
stretches-outside old new gap align from least [] size low all =
    λ i above high. all i above (omega (arith, size, high))
stretches-outside old new gap align from least (s ∷ rest) size low all =
    let some = all.2.some in
    let ends = all.2.ends in
    let first = all.0 in
    let is = ends.2 in
    let inside = ends.1.0 in
    let within : (block align (length old) ends.0).end ≤ length old = omega (arith, inside) in (
      omega (arith, low, first),
      omega (arith, some),
      omega (arith, size, is, within),
      all.1,
      stretches-outside old new gap align s.end (s.end + gap + 1) rest size (omega arith) all.3,
    )

-- A memory that has the new image up to a place, and the old one from there on, has the new one
-- once the stretches behind the place are put over it.
put-stretches : (old new content goal : List ℕ) (address from : ℕ) (ss : List Stretch)
    → length content ≡ length goal
    → HasAt goal address new
    → ((j : ℕ) → j < address + from → get_or content j 0 ≡ get_or goal j 0)
    → ((j : ℕ) → address + length new ≤ j → get_or content j 0 ≡ get_or goal j 0)
    → ((i : ℕ) → from ≤ i → i < length new → get_or content (address + i) 0 ≡ get_or old i 0)
    → Outside old new from ss
    → put_all content (map (area_at address new) ss) ≡ goal
put-stretches old new content goal address from [] size has before behind between out =
    ext_get_or 0 content goal size (λ j within. elim (cases_lt j (address + from)) [
      | inl low ↦ before j low
      | inr high ↦ elim (cases_lt j (address + length new)) [
        | inr past ↦ behind j past
        | inl inside ↦
            let place : address + (j - address) ≡ j = omega (arith, high) in
            let i = j - address in
            let above : from ≤ i = omega (arith, high) in
            let below : i < length new = omega (arith, high, inside) in
            subst (λ (k : ℕ). get_or content k 0 ≡ get_or goal k 0) place
            (between i above below ∙ out i above below ∙ sym (has.same i below))
      ]
    ])
put-stretches old new content goal address from (s ∷ rest) size has before behind between out =
    let room = has.fits in
    let f : Fits content address new s
    = record { up = out.1; within = out.2; room = omega (arith, size, room) } in
    let up = out.1 in
    let within = out.2 in
    let first = out.0 in
    put-stretches old new (put content address new s) goal address s.end rest
    (length-put_at content (address + s.from) (octets_in new s) (area-fits content address new s f)
    ∙ size)
    has
    (λ j low. elim (cases_lt j (address + s.from)) [
      | inl less ↦
          put-outside content address new s j f (λ h. absurd (omega (arith, less, h)))
          ∙ elim (cases_lt j (address + from)) as (λ x. get_or content j 0 ≡ get_or goal j 0) [
            | inl front ↦ before j front
            | inr high ↦
                let place : address + (j - address) ≡ j = omega (arith, high) in
                let i = j - address in
                let above : from ≤ i = omega (arith, high) in
                let under : i < s.from = omega (arith, high, less) in
                let below : i < length new = omega (arith, under, up, within) in
                subst (λ (k : ℕ). get_or content k 0 ≡ get_or goal k 0) place
                (between i above below ∙ out.3 i above under ∙ sym (has.same i below))
          ]
      | inr more ↦
          let place : address + (j - address) ≡ j = omega (arith, more) in
          let i = j - address in
          let above : s.from ≤ i = omega (arith, more) in
          let under : i < s.end = omega (arith, more, low) in
          let below : i < length new = omega (arith, under, within) in
          subst (λ (k : ℕ). get_or (put content address new s) k 0 ≡ get_or goal k 0) place
          (put-inside content address new s i f above under ∙ sym (has.same i below))
    ])
    (λ j past.
    put-outside content address new s j f (λ h. omega (arith, within, past)) ∙ behind j past)
    (λ i above below.
    put-outside content address new s (address + i) f (λ h. omega (arith, above))
    ∙ between i (omega (arith, first, up, above)) below)
    out.4

-- ---- both ways

put-image : (content : List ℕ) (address : ℕ) (image : List ℕ)
    → address + length image ≤ length content
    → HasAt (put_at content address image) address image
put-image content address image room = record {
  fits = omega (arith, length-put_at content address image room, room);
  same = λ i below.
      let a : Area = record { address = address; octets = image } in
      let place : address + i - address ≡ i = omega arith in
      put_all-last content [] a [] (address + i) (room, tt)
      (record { from = omega arith; to = omega (arith, below) }) tt
      ∙ ap (λ (k : ℕ). get_or image k 0) place;
}

put-beside : (content : List ℕ) (address : ℕ) (image : List ℕ) (j : ℕ)
    → address + length image ≤ length content
    → (address ≤ j → address + length image ≤ j)
    → get_or content j 0 ≡ get_or (put_at content address image) j 0
put-beside content address image j room out =
    let a : Area = record { address = address; octets = image } in
    sym (put_all-untouched content (a ∷ []) j (room, tt) (
      (λ (h : Covers j a).
          let behind = out h.from in
          let to = h.to in
          absurd (omega (arith, behind, to))),
      tt,
    ))

turns : (one other : List ℕ) (ss : List Stretch)
    → length one ≡ length other
    → Outside one other 0 ss
    → Turns one other ss
turns one other ss size out = λ content address has.
    let fits = has.fits in
    let room : address + length other ≤ length content = omega (arith, fits, size) in
    put-stretches one other content (put_at content address other) address 0 ss
    (sym (length-put_at content address other room))
    (put-image content address other room)
    (λ j low. put-beside content address other j room (λ h. absurd (omega (arith, low, h))))
    (λ j past. put-beside content address other j room (λ h. past))
    (λ i above below. has.same i (omega (arith, size, below)))
    out

-- the new image's stretches make it of the old one
pub turns-to : (old new : List ℕ) (gap align : ℕ) (ss : List Stretch)
    → length old ≡ length new
    → AreStretches old new gap align 0 0 ss
    → Turns old new ss
turns-to old new gap align ss size all =
    turns old new ss size (stretches-outside old new gap align 0 0 ss size (omega arith) all)

-- and the other way round
pub turns-back : (old new : List ℕ) (gap align : ℕ) (ss : List Stretch)
    → length old ≡ length new
    → AreStretches old new gap align 0 0 ss
    → Turns new old ss
turns-back old new gap align ss size all =
    turns new old ss (sym size)
    (outside-turned old new 0 ss size
    (stretches-outside old new gap align 0 0 ss size (omega arith) all))
