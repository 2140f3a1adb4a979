-- Octets put over a memory, place by place.
use Rattle.std.proofs.Common.{◌≡◌, ◌≢◌, ◌∙◌, ap, sym, subst, refl, ℕ, ◌+◌, ◌-◌, ◌<◌, ◌≤◌, ◌==◌, Bool, true, false, if◌then◌else◌, List, [], ◌∷◌, ◌++◌, length, take, drop, get_or, append_assoc, Some, arith, inl, inr}
use Rattle.std.proofs.lemmas.Bool.{cases_lt}
use Rattle.std.proofs.lemmas.Bool.Decides.{nat_tests}
use Rattle.std.proofs.lemmas.Grind.{common_steps}
use Rattle.std.proofs.lemmas.List.{get_or_append_left, get_or-append_right, get_or-drop, get_or-take, length-append, length-take, length-drop}
use Rattle.lpt_memory.specs.declared.request.Area.{Area}
use Rattle.lpt_memory.specs.Meanings.{Sizes, Meaning, Silent, Fault, Load, Dump, Check, size_of}
use Rattle.lpt_memory.specs.Memories.{Contents, content_of, size, sizes_of, put_at, put_all, memories_loaded, effect}
use Rattle.lpt_memory.specs.Overlaps.{Covers, NoneCovers}
use Rattle.lpt_memory.specs.Ranges.{AreasFit, MeaningFits}

-- ---- one area

pub length-put_at : (content : List ℕ) (at : ℕ) (octets : List ℕ)
    → at + length octets ≤ length content
    → length (put_at content at octets) ≡ length content
length-put_at content at octets fit =
    let n = at + length octets in
    omega (
      arith,
      length-append (take at content ++ octets) (drop n content),
      length-append (take at content) octets,
      length-take at content,
      length-drop n content,
    )

regrouped : (content : List ℕ) (at : ℕ) (octets : List ℕ) (i : ℕ)
    → get_or (put_at content at octets) i 0
    ≡ get_or (take at content ++ (octets ++ drop (at + length octets) content)) i 0
regrouped content at octets i =
    ap (λ (xs : List ℕ). get_or xs i 0)
    (append_assoc (take at content) octets (drop (at + length octets) content))

-- what an area covers is its octets
inside : (content : List ℕ) (at : ℕ) (octets : List ℕ) (i : ℕ)
    → at + length octets ≤ length content
    → at ≤ i
    → i < at + length octets
    → get_or (put_at content at octets) i 0 ≡ get_or octets (i - at) 0
inside content at octets i fit from to =
    let rest = drop (at + length octets) content in
    let front : length (take at content) ≡ at = omega (arith, length-take at content) in
    regrouped content at octets i
    ∙ get_or-append_right (take at content) (octets ++ rest) at i 0 front from
    ∙ get_or_append_left octets rest 0 (i - at) (omega arith)

-- what stands before an area stays
before : (content : List ℕ) (at : ℕ) (octets : List ℕ) (i : ℕ)
    → at + length octets ≤ length content
    → i < at
    → get_or (put_at content at octets) i 0 ≡ get_or content i 0
before content at octets i fit lt =
    regrouped content at octets i
    ∙ get_or_append_left (take at content) (octets ++ drop (at + length octets) content) 0 i
    (omega (arith, length-take at content))
    ∙ get_or-take at content i 0 lt

-- what stands behind an area stays
behind : (content : List ℕ) (at : ℕ) (octets : List ℕ) (i : ℕ)
    → at + length octets ≤ length content
    → at + length octets ≤ i
    → get_or (put_at content at octets) i 0 ≡ get_or content i 0
behind content at octets i fit le =
    let n = at + length octets in
    let rest = drop n content in
    let front : length (take at content) ≡ at = omega (arith, length-take at content) in
    let place : n + (i - at - length octets) ≡ i = omega arith in
    regrouped content at octets i
    ∙ get_or-append_right (take at content) (octets ++ rest) at i 0 front (omega arith)
    ∙ get_or-append_right octets rest (length octets) (i - at) 0 refl (omega arith)
    ∙ get_or-drop n content (i - at - length octets) 0
    ∙ ap (λ (k : ℕ). get_or content k 0) place

-- what an area doesn't cover stays
outside : (content : List ℕ) (a : Area) (i : ℕ)
    → a.address + length a.octets ≤ length content
    → ¬ (Covers i a)
    → get_or (put_at content a.address a.octets) i 0 ≡ get_or content i 0
outside content a i fit none =
    elim (cases_lt i a.address) [
      | inl lt ↦ before content a.address a.octets i fit lt
      | inr from ↦ elim (cases_lt i (a.address + length a.octets)) [
        | inl to ↦ absurd (none (record { from = from; to = to }))
        | inr le ↦ behind content a.address a.octets i fit le
      ]
    ]

-- areas behind one that was put are within the memory that it was put over
pub AreasFit-put_at : (content : List ℕ) (a : Area) (rest : List Area)
    → AreasFit (length content) (a ∷ rest)
    → AreasFit (length (put_at content a.address a.octets)) rest
AreasFit-put_at content a rest fit =
    subst (λ (n : ℕ). AreasFit n rest) (sym (length-put_at content a.address a.octets fit.0)) fit.1

-- ---- areas one after the other

pub length-put_all : (content : List ℕ) (areas : List Area)
    → AreasFit (length content) areas
    → length (put_all content areas) ≡ length content
length-put_all content [] fit = refl
length-put_all content (a ∷ rest) fit =
    length-put_all (put_at content a.address a.octets) rest (AreasFit-put_at content a rest fit)
    ∙ length-put_at content a.address a.octets fit.0

-- what no area covers stays
pub put_all-untouched : (content : List ℕ) (areas : List Area) (i : ℕ)
    → AreasFit (length content) areas
    → NoneCovers i areas
    → get_or (put_all content areas) i 0 ≡ get_or content i 0
put_all-untouched content [] i fit none = refl
put_all-untouched content (a ∷ rest) i fit none =
    put_all-untouched (put_at content a.address a.octets) rest i
    (AreasFit-put_at content a rest fit) none.1
    ∙ outside content a i fit.0 none.0

-- the last area that covers a place gives its octet
pub put_all-last : (content : List ℕ) (earlier : List Area) (a : Area) (later : List Area) (i : ℕ)
    → AreasFit (length content) (earlier ++ a ∷ later)
    → Covers i a
    → NoneCovers i later
    → get_or (put_all content (earlier ++ a ∷ later)) i 0 ≡ get_or a.octets (i - a.address) 0
put_all-last content [] a later i fit covers none =
    put_all-untouched (put_at content a.address a.octets) later i
    (AreasFit-put_at content a later fit) none
    ∙ inside content a.address a.octets i fit.0 covers.from covers.to
put_all-last content (b ∷ earlier) a later i fit covers none =
    put_all-last (put_at content b.address b.octets) earlier a later i
    (AreasFit-put_at content b (earlier ++ a ∷ later) fit) covers none

-- ---- the memories

sizes_of-step : (b : Bool) (m : ℕ × List ℕ) (ms : Contents) (id n : ℕ) (areas : List Area)
    → (if b then Some (length m.1) else size_of id (sizes_of ms)) ≡ Some n
    → AreasFit n areas
    → (size_of id (sizes_of ms) ≡ Some n → sizes_of (memories_loaded id areas ms) ≡ sizes_of ms)
    → sizes_of (if b then (m.0, put_all m.1 areas) ∷ ms else m ∷ memories_loaded id areas ms)
    ≡ sizes_of (m ∷ ms)
sizes_of-step true m ms id n areas known fit rest =
    let same : n ≡ length m.1 = cc in
    ap (λ (k : ℕ). (m.0, k) ∷ sizes_of ms)
    (length-put_all m.1 areas (subst (λ (k : ℕ). AreasFit k areas) same fit))
sizes_of-step false m ms id n areas known fit rest = ap (λ (ss : Sizes). size m ∷ ss) (rest known)

-- a load leaves the sizes
sizes_of-loaded : (id n : ℕ) (areas : List Area) (ms : Contents)
    → size_of id (sizes_of ms) ≡ Some n
    → AreasFit n areas
    → sizes_of (memories_loaded id areas ms) ≡ sizes_of ms
sizes_of-loaded id n areas [] known fit = refl
sizes_of-loaded id n areas (m ∷ ms) known fit =
    sizes_of-step (m.0 == id) m ms id n areas known fit (λ e. sizes_of-loaded id n areas ms e fit)

-- what is within the memories leaves their sizes
pub sizes_of-effect : (meant : Meaning) (ms : Contents)
    → MeaningFits (sizes_of ms) meant
    → sizes_of (effect meant ms) ≡ sizes_of ms
sizes_of-effect Silent ms fits = refl
sizes_of-effect (Fault code) ms fits = refl
sizes_of-effect (Load id areas) ms fits = sizes_of-loaded id fits.size areas ms fits.known fits.fit
sizes_of-effect (Dump id ranges) ms fits = refl
sizes_of-effect (Check id ranges) ms fits = refl

-- a load changes the memory that it names
pub content_of-loaded : (id : ℕ) (areas : List Area) (content : List ℕ) (ms : Contents)
    → content_of id ms ≡ Some content
    → content_of id (memories_loaded id areas ms) ≡ Some (put_all content areas)
content_of-loaded id areas content [] known = absurd cc
content_of-loaded id areas content (m ∷ ms) known =
    let rest : content_of id ms ≡ Some content → content_of id (memories_loaded id areas ms)
    ≡ Some (put_all content areas) = content_of-loaded id areas content ms in
    go (m.0 == id) refl known rest where
      go : (b : Bool)
          → (m.0 == id) ≡ b
          → (if b then Some m.1 else content_of id ms) ≡ Some content
          → (content_of id ms ≡ Some content → content_of id (memories_loaded id areas ms)
          ≡ Some (put_all content areas))
          → content_of id
          (if b then (m.0, put_all m.1 areas) ∷ ms else m ∷ memories_loaded id areas ms)
          ≡ Some (put_all content areas)
      go true test is rest =
          let same : m.1 ≡ content = cc in
          rw test (ap (λ (c : List ℕ). Some (put_all c areas)) same)
      go false test is rest = rw test (rest is)

-- a load changes no other memory
pub content_of-other : (id other : ℕ) (areas : List Area) (ms : Contents)
    → id ≢ other
    → content_of other (memories_loaded id areas ms) ≡ content_of other ms
content_of-other id other areas [] differ = refl
content_of-other id other areas (m ∷ ms) differ =
    let rest : content_of other (memories_loaded id areas ms)
    ≡ content_of other ms = content_of-other id other areas ms differ in
    grind (arith, common_steps, nat_tests)
