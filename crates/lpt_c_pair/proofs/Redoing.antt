-- What was put over a memory in part is put over it again.
use Rattle.std.proofs.Common.{◌≡◌, ◌∙◌, ap, sym, subst, refl, ℕ, ◌+◌, ◌-◌, ◌<◌, ◌≤◌, ◌==◌, Bool, true, false, if◌then◌else◌, List, [], ◌∷◌, ◌++◌, length, drop, map, get_or, Some, None, arith, inl, inr}
use Rattle.std.proofs.lemmas.Bool.{cases_lt}
use Rattle.std.proofs.lemmas.List.{ext_get_or, get_or-drop, get_or-take, length-drop, length-take}
use Rattle.lpt_c_pair.specs.Redo.{IsPutInPart, WritesCanBeMadeAgain, WritesCanBeTakenBack, image, with_content}
use Rattle.lpt_c_pair.proofs.Telling.{told_is_effect}
use Rattle.lpt_memory.specs.declared.request.Area.{Area}
use Rattle.lpt_memory.specs.Meanings.{Meaning, Load, Sizes, size_of}
use Rattle.lpt_memory.specs.Memories.{Contents, content_of, effect, memories_loaded, put_all, sizes_of}
use Rattle.lpt_memory.specs.Overlaps.{Covers, NoneCovers}
use Rattle.lpt_memory.specs.Ranges.{AreasFit, MeaningFits}
use Rattle.lpt_memory.specs.Readings.{source_meaning}
use Rattle.lpt_memory.proofs.MeaningLemmas.{meaning-fits}
use Rattle.lpt_memory.proofs.PutLemmas.{length-put_all, put_all-last, put_all-untouched}

-- ---- which area goes to a place last

data Goes (place : ℕ) (areas : List Area) : Type 0 where
  None_does : NoneCovers place areas → Goes place areas
  Last : (earlier : List Area) (a : Area) (later : List Area)
      → areas ≡ earlier ++ a ∷ later
      → Covers place a
      → NoneCovers place later
      → Goes place areas

goes_with : (place : ℕ) (a : Area) (rest : List Area)
    → NoneCovers place rest
    → Goes place (a ∷ rest)
goes_with place a rest none =
    elim (cases_lt place a.address) [
      | inl before ↦ None_does ((λ (c : Covers place a). omega (arith, c.from, before)), none)
      | inr from ↦ elim (cases_lt place (a.address + length a.octets)) [
        | inl to ↦ Last [] a rest refl (record { from = from; to = to }) none
        | inr behind ↦ None_does ((λ (c : Covers place a). omega (arith, c.to, behind)), none)
      ]
    ]

goes : (place : ℕ) (areas : List Area) → Goes place areas
goes place [] = None_does tt
goes place (a ∷ rest) = go (goes place rest) where
  go : Goes place rest → Goes place (a ∷ rest)
  go (None_does none) = goes_with place a rest none
  go (Last earlier b later is covers none) =
      Last (a ∷ earlier) b later (ap (λ (xs : List Area). a ∷ xs) is) covers none

-- ---- one memory

module _ (areas : List Area) (old new : List ℕ) (part : IsPutInPart areas old new)
    (fit : AreasFit (length old) areas) where
  fit_new : AreasFit (length new) areas
  fit_new = subst (λ (n : ℕ). AreasFit n areas) (sym part.long) fit

  same_at : (place : ℕ)
      → Goes place areas
      → get_or (put_all new areas) place 0 ≡ get_or (put_all old areas) place 0
  same_at place (None_does none) =
      put_all-untouched new areas place fit_new none
      ∙ part.others place none
      ∙ sym (put_all-untouched old areas place fit none)
  same_at place (Last earlier a later is covers none) =
      ap (λ (xs : List Area). get_or (put_all new xs) place 0) is
      ∙ put_all-last new earlier a later place
      (subst (λ (xs : List Area). AreasFit (length new) xs) is fit_new) covers none
      ∙ sym (put_all-last old earlier a later place
      (subst (λ (xs : List Area). AreasFit (length old) xs) is fit) covers none)
      ∙ ap (λ (xs : List Area). get_or (put_all old xs) place 0) (sym is)

  put_again : put_all new areas ≡ put_all old areas
  put_again =
      ext_get_or 0 (put_all new areas) (put_all old areas)
      (length-put_all new areas fit_new ∙ part.long ∙ sym (length-put_all old areas fit))
      (λ place within. same_at place (goes place areas))

-- ---- memories

loaded_again : (id : ℕ) (areas : List Area) (old new : List ℕ) (ms : Contents)
    → content_of id ms ≡ Some old
    → put_all new areas ≡ put_all old areas
    → memories_loaded id areas (with_content id new ms) ≡ memories_loaded id areas ms
loaded_again id areas old new [] known same = absurd (let none : None ≡ Some old = known in cc)
loaded_again id areas old new (m ∷ ms) known same =
    go (λ behind. loaded_again id areas old new ms behind same) (m.0 == id) refl known where
      go : (content_of id ms ≡ Some old
          → memories_loaded id areas (with_content id new ms) ≡ memories_loaded id areas ms)
          → (b : Bool)
          → (m.0 == id) ≡ b
          → (if b then Some m.1 else content_of id ms) ≡ Some old
          → memories_loaded id areas (if b then (m.0, new) ∷ ms else m ∷ with_content id new ms)
          ≡ (if b then (m.0, put_all m.1 areas) ∷ ms else m ∷ memories_loaded id areas ms)
      go rest true is here =
          let its : m.1 ≡ old = cc in
          ap (λ (b : Bool). if b then (m.0, put_all new areas) ∷ ms
          else (m.0, new) ∷ memories_loaded id areas ms) is
          ∙ ap (λ (xs : List ℕ). (m.0, xs) ∷ ms)
          (same ∙ ap (λ (xs : List ℕ). put_all xs areas) (sym its))
      go rest false is here =
          ap (λ (b : Bool). if b then (m.0, put_all m.1 areas) ∷ with_content id new ms
          else m ∷ memories_loaded id areas (with_content id new ms)) is
          ∙ ap (λ (xs : Contents). m ∷ xs) (rest here)

-- the size of a memory is that of its octets
size_is : (id : ℕ) (ms : Contents) (octets : List ℕ)
    → content_of id ms ≡ Some octets
    → size_of id (sizes_of ms) ≡ Some (length octets)
size_is id [] octets known = absurd (let none : None ≡ Some octets = known in cc)
size_is id (m ∷ ms) octets known =
    go (λ behind. size_is id ms octets behind) (m.0 == id) known where
      go : (content_of id ms ≡ Some octets → size_of id (sizes_of ms) ≡ Some (length octets))
          → (b : Bool)
          → (if b then Some m.1 else content_of id ms) ≡ Some octets
          → (if b then Some (length m.1) else size_of id (sizes_of ms)) ≡ Some (length octets)
      go rest true here =
          let its : m.1 ≡ octets = cc in ap (λ (xs : List ℕ). Some (length xs)) its
      go rest false here = rest here

pub writes_can_be_made_again : WritesCanBeMadeAgain
writes_can_be_made_again e r id areas ts ms old new front sized load told known part =
    let fits : MeaningFits (sizes_of ms) (Load id areas) =
    subst (λ (m : Meaning). MeaningFits (sizes_of ms) m) load
    (subst (λ (s : Sizes). MeaningFits s (source_meaning r)) sized
    (meaning-fits r.apid r.sizes r.message)) in
    let its : Some fits.size ≡ Some (length old) = sym fits.known ∙ size_is id ms old known in
    let long : fits.size ≡ length old = cc in
    let fit : AreasFit (length old) areas =
    subst (λ (n : ℕ). AreasFit n areas) long fits.fit in
    told_is_effect e r front ts (with_content id new ms) told
    ∙ ap (λ (m : Meaning). effect m (with_content id new ms)) load
    ∙ loaded_again id areas old new ms known (put_again areas old new part fit)
    ∙ ap (λ (m : Meaning). effect m ms) (sym load)
    ∙ sym (told_is_effect e r front ts ms told)

-- ---- what stood there, put back

image_long : (old : List ℕ) (a : Area)
    → a.address + length a.octets ≤ length old
    → length (image old a).octets ≡ length a.octets
image_long old a fit =
    omega (arith, length-take (length a.octets) (drop a.address old), length-drop a.address old)

images_fit : (old : List ℕ) (areas : List Area)
    → AreasFit (length old) areas
    → AreasFit (length old) (map (image old) areas)
images_fit old [] fit = tt
images_fit old (a ∷ rest) fit =
    (omega (arith, image_long old a fit.0, fit.0), images_fit old rest fit.1)

-- they go where the areas do
none_covers : (old : List ℕ) (place : ℕ) (areas : List Area)
    → AreasFit (length old) areas
    → NoneCovers place (map (image old) areas)
    → NoneCovers place areas
none_covers old place [] fit none = tt
none_covers old place (a ∷ rest) fit none = (
  (λ (c : Covers place a). none.0 (record {
    from = c.from;
    to = omega (arith, image_long old a fit.0, c.to);
  })),
  none_covers old place rest fit.1 none.1,
)

-- an area of the octets that stand there
abbrev IsImage : List ℕ → Area → Type 0
IsImage old a = (b : Area) × (a ≡ image old b)

last_image : (old : List ℕ) (areas earlier : List Area) (a : Area) (later : List Area)
    → map (image old) areas ≡ earlier ++ a ∷ later
    → IsImage old a
last_image old [] [] a later is = absurd cc
last_image old [] (e ∷ earlier) a later is = absurd cc
last_image old (b ∷ areas) [] a later is = (b, cc)
last_image old (b ∷ areas) (e ∷ earlier) a later is =
    let rest : map (image old) areas ≡ earlier ++ a ∷ later = cc in
    last_image old areas earlier a later rest

image_at : (old : List ℕ) (a : Area) (place : ℕ)
    → IsImage old a
    → Covers place a
    → get_or a.octets (place - a.address) 0 ≡ get_or old place 0
image_at old a place is covers =
    let b : Area = is.0 in
    let from : b.address ≤ place = subst (λ (x : Area). x.address ≤ place) is.1 covers.from in
    let to : place < b.address + length (image old b).octets =
    subst (λ (x : Area). place < x.address + length x.octets) is.1 covers.to in
    let n : ℕ = length b.octets in
    let short : place - b.address < n =
    omega (arith, from, to, length-take n (drop b.address old)) in
    let there : b.address + (place - b.address) ≡ place = omega (arith, from) in
    ap (λ (x : Area). get_or x.octets (place - x.address) 0) is.1
    ∙ get_or-take n (drop b.address old) (place - b.address) 0 short
    ∙ get_or-drop b.address old (place - b.address) 0
    ∙ ap (λ (i : ℕ). get_or old i 0) there

same_as_old : (old : List ℕ) (areas : List Area) (place : ℕ)
    → AreasFit (length old) areas
    → Goes place (map (image old) areas)
    → get_or (put_all old (map (image old) areas)) place 0 ≡ get_or old place 0
same_as_old old areas place fit (None_does none) =
    put_all-untouched old (map (image old) areas) place (images_fit old areas fit) none
same_as_old old areas place fit (Last earlier a later is covers none) =
    ap (λ (xs : List Area). get_or (put_all old xs) place 0) is
    ∙ put_all-last old earlier a later place
    (subst (λ (xs : List Area). AreasFit (length old) xs) is (images_fit old areas fit)) covers
    none
    ∙ image_at old a place (last_image old areas earlier a later is) covers

pub writes_can_be_taken_back : WritesCanBeTakenBack
writes_can_be_taken_back areas old new fit part =
    let images : List Area = map (image old) areas in
    let fits : AreasFit (length old) images = images_fit old areas fit in
    put_again images old new (record {
      long = part.long;
      others = λ place none. part.others place (none_covers old place areas fit none);
    }) fits
    ∙ ext_get_or 0 (put_all old images) old (length-put_all old images fits)
    (λ place within. same_as_old old areas place fit (goes place images))
