-- Loads that were cut, executed one after the other.
use Rattle.std.proofs.Common.{◌≡◌, ◌∙◌, ap, sym, refl, subst, ◌⊎◌, ℕ, zero, suc, ◌+◌, ◌<◌, ◌≤◌, ◌==◌, Bool, true, false, if◌then◌else◌, List, [], ◌∷◌, ◌++◌, length, map, take, drop, Some, inl, inr, append-nil, append_assoc, arith, length-drop}
use Rattle.std.proofs.Math.Seq.{drop-append-add, take-append_seam}
use Rattle.std.proofs.lemmas.List.{drop-drop, length-append, length-take, length-take-le, take-append-drop}
use Rattle.lpt_memory.specs.declared.request.Area.{Area}
use Rattle.lpt_memory.specs.Meanings.{Load, meaning, size_of}
use Rattle.lpt_memory.specs.Memories.{Contents, content_of, effect, memories_loaded, put_all, put_at, sizes_of}
use Rattle.lpt_memory.specs.Ranges.{AreasFit}
use Rattle.lpt_memory.proofs.PutLemmas.{AreasFit-put_at, content_of-loaded, length-put_at, sizes_of-effect}
use Rattle.lpt_requests.specs.Cuts.{AreCut, AreasCut, as_load}
use Rattle.lpt_requests.specs.Packets.{AllMean, messages_executed}

-- ---- loads one after the other

loaded-none : (id : ℕ) (ms : Contents) → memories_loaded id [] ms ≡ ms
loaded-none id [] = refl
loaded-none id (m ∷ ms) = go (m.0 == id) (loaded-none id ms) where
  go : (b : Bool)
      → memories_loaded id [] ms ≡ ms
      → (if b then (m.0, put_all m.1 []) ∷ ms else m ∷ memories_loaded id [] ms) ≡ m ∷ ms
  go true rest = refl
  go false rest = ap (λ (r : Contents). m ∷ r) rest

loaded-more : (id : ℕ) (a : Area) (rest : List Area) (ms : Contents)
    → memories_loaded id rest (memories_loaded id (a ∷ []) ms) ≡ memories_loaded id (a ∷ rest) ms
loaded-more id a rest [] = refl
loaded-more id a rest (m ∷ ms) = go (m.0 == id) refl (loaded-more id a rest ms) where
  go : (b : Bool)
      → (m.0 == id) ≡ b
      → memories_loaded id rest (memories_loaded id (a ∷ []) ms) ≡ memories_loaded id (a ∷ rest) ms
      → memories_loaded id rest
      (if b then (m.0, put_all m.1 (a ∷ [])) ∷ ms else m ∷ memories_loaded id (a ∷ []) ms)
      ≡ (if b then (m.0, put_all m.1 (a ∷ rest)) ∷ ms else m ∷ memories_loaded id (a ∷ rest) ms)
  go true test more = rw test refl
  go false test more = rw test (ap (λ (r : Contents). m ∷ r) more)

-- what puts the same over the memory loads the same
loaded-same : (id : ℕ) (xs bs : List Area) (content : List ℕ) (ms : Contents)
    → content_of id ms ≡ Some content
    → put_all content xs ≡ put_all content bs
    → memories_loaded id xs ms ≡ memories_loaded id bs ms
loaded-same id xs bs content [] known same = refl
loaded-same id xs bs content (m ∷ ms) known same =
    go (m.0 == id) known (λ k. loaded-same id xs bs content ms k same) where
      go : (b : Bool)
          → (if b then Some m.1 else content_of id ms) ≡ Some content
          → (content_of id ms ≡ Some content → memories_loaded id xs ms ≡ memories_loaded id bs ms)
          → (if b then (m.0, put_all m.1 xs) ∷ ms else m ∷ memories_loaded id xs ms)
          ≡ (if b then (m.0, put_all m.1 bs) ∷ ms else m ∷ memories_loaded id bs ms)
      go true k rest =
          let e : m.1 ≡ content = cc in
          ap (λ (c : List ℕ). (m.0, c) ∷ ms)
          (ap (λ (c : List ℕ). put_all c xs) e ∙ same ∙ ap (λ (c : List ℕ). put_all c bs) (sym e))
      go false k rest = ap (λ (r : Contents). m ∷ r) (rest k)

size-known : (id : ℕ) (content : List ℕ) (ms : Contents)
    → content_of id ms ≡ Some content
    → size_of id (sizes_of ms) ≡ Some (length content)
size-known id content [] known = absurd cc
size-known id content (m ∷ ms) known = go (m.0 == id) known (size-known id content ms) where
  go : (b : Bool)
      → (if b then Some m.1 else content_of id ms) ≡ Some content
      → (content_of id ms ≡ Some content → size_of id (sizes_of ms) ≡ Some (length content))
      → (if b then Some (length m.1) else size_of id (sizes_of ms)) ≡ Some (length content)
  go true k rest = let e : m.1 ≡ content = cc in ap (λ (c : List ℕ). Some (length c)) e
  go false k rest = rest k

-- packets that mean these loads, executed one after the other
executed-loads : (apid memory size : ℕ) (packets : List (List ℕ)) (pieces : List Area)
    (ms : Contents)
    → AllMean apid packets (map (as_load memory) pieces)
    → size_of memory (sizes_of ms) ≡ Some size
    → AreasFit size pieces
    → messages_executed apid packets ms ≡ memories_loaded memory pieces ms
executed-loads apid memory size [] [] ms means known fit = sym (loaded-none memory ms)
executed-loads apid memory size [] (a ∷ pieces) ms means known fit = absurd means
executed-loads apid memory size (p ∷ packets) [] ms means known fit = absurd means
executed-loads apid memory size (p ∷ packets) (a ∷ pieces) ms means known fit =
    let meant : meaning apid (sizes_of ms) p ≡ Load memory (a ∷ [])
    = means.0 (sizes_of ms) size known (fit.0, tt) in
    let next = memories_loaded memory (a ∷ []) ms in
    let stays : sizes_of next ≡ sizes_of ms = sizes_of-effect (Load memory (a ∷ [])) ms
    (record { size = size; known = known; fit = (fit.0, tt) }) in
    ap (λ m. messages_executed apid packets (effect m ms)) meant
    ∙ executed-loads apid memory size packets pieces next means.1
    (ap (size_of memory) stays ∙ known) fit.1
    ∙ loaded-more memory a pieces ms

-- ---- pieces of an area

put-none : (content : List ℕ) (at : ℕ) → put_at content at [] ≡ content
put-none content at =
    let none : at + 0 ≡ at = omega arith in
    ap (λ (o : List ℕ). o ++ drop (at + 0) content) (append-nil (take at content))
    ∙ ap (λ (k : ℕ). take at content ++ drop k content) none
    ∙ take-append-drop at content

-- octets put behind others that were put: both xs one
put-behind : (c a b : List ℕ) (at : ℕ)
    → at + (length a + length b) ≤ length c
    → put_at (put_at c at a) (at + length a) b ≡ put_at c at (a ++ b)
put-behind c a b at h =
    let front = take at c ++ a in
    let size : length front ≡ at + length a
    = length-append (take at c) a ∙ ap (λ (n : ℕ). n + length a)
    (length-take-le at c (omega arith)) in
    let back = drop (at + length a) c in
    let taken : take (at + length a) (front ++ back) ≡ front
    = ap (λ (n : ℕ). take n (front ++ back)) (sym size) ∙ take-append_seam front back in
    let dropped : drop (at + length a + length b) (front ++ back) ≡ drop (length b) back
    = ap (λ (n : ℕ). drop (n + length b) (front ++ back)) (sym size)
    ∙ drop-append-add front back (length b) in
    let rest : drop (length b) back ≡ drop (at + length (a ++ b)) c
    = drop-drop (length b) (at + length a) c
    ∙ ap (λ (n : ℕ). drop n c) (let n : at + length a + length b ≡ at + length (a ++ b)
    = omega (arith, length-append a b) in n) in
    ap (λ (o : List ℕ). (o ++ b) ++ drop (at + length a + length b) (front ++ back)) taken
    ∙ ap (λ (o : List ℕ). (front ++ b) ++ o) (dropped ∙ rest)
    ∙ ap (λ (o : List ℕ). o ++ drop (at + length (a ++ b)) c) (append_assoc (take at c) a b)

length-front : (each : ℕ) (octets : List ℕ) → (length (take each octets) ≡ each) ⊎
    (drop each octets ≡ [])
length-front zero octets = inl refl
length-front (suc each) [] = inr refl
length-front (suc each) (o ∷ octets) = elim (length-front each octets) [
  | inl e ↦ inl (ap suc e)
  | inr e ↦ inr e
]

put-joined : (each address : ℕ) (octets c : List ℕ)
    → address + length octets ≤ length c
    → (length (take each octets) ≡ each) ⊎ (drop each octets ≡ [])
    → put_at (put_at c address (take each octets)) (address + each) (drop each octets)
    ≡ put_at c address octets
put-joined each address octets c within (inl e) =
    let front = take each octets in
    let back = drop each octets in
    let both = ap (λ (o : List ℕ). length o) (take-append-drop each octets) in
    ap (λ (n : ℕ). put_at (put_at c address front) (address + n) back) (sym e)
    ∙ put-behind c front back address (omega (arith, length-append front back, both))
    ∙ ap (put_at c address) (take-append-drop each octets)
put-joined each address octets c within (inr e) =
    let front = take each octets in
    let all : front ≡ octets
    = sym (append-nil front) ∙ ap (λ (o : List ℕ). front ++ o) (sym e)
    ∙ take-append-drop each octets in
    ap (put_at (put_at c address front) (address + each)) e
    ∙ put-none (put_at c address front) (address + each)
    ∙ ap (put_at c address) all

-- the pieces of octets are put xs the octets are
put-cut : (each address : ℕ) (octets : List ℕ) (pieces : List Area) (c : List ℕ)
    → 0 < each
    → AreCut each address octets pieces
    → (0 < length octets → address + length octets ≤ length c)
    → put_all c pieces ≡ put_at c address octets
put-cut each address octets [] c some cut fit =
    sym (ap (put_at c address) cut ∙ put-none c address)
put-cut each address octets (a ∷ rest) c some cut fit =
    let within : address + length octets ≤ length c = fit cut.0 in
    let front = take each octets in
    let back = drop each octets in
    let both : length front + length back ≡ length octets
    = sym (length-append front back) ∙ ap (λ (o : List ℕ). length o) (take-append-drop each octets)
    in
    let next = put_at c address front in
    let same : length next ≡ length c = length-put_at c address front (omega arith) in
    let put-rest = put-cut each (address + each) back rest next some cut.2
    (λ more. omega (arith, length-drop each octets, same)) in
    ap (λ (a : Area). put_all (put_at c a.address a.octets) rest) cut.1
    ∙ put-rest
    ∙ put-joined each address octets c within (length-front each octets)

-- pieces are within the memory where their octets are
fit-cut : (each address : ℕ) (octets : List ℕ) (pieces : List Area) (size : ℕ)
    → AreCut each address octets pieces
    → (0 < length octets → address + length octets ≤ size)
    → AreasFit size pieces
fit-cut each address octets [] size cut fit = tt
fit-cut each address octets (a ∷ rest) size cut fit =
    let within : address + length octets ≤ size = fit cut.0 in
    let taken = length-take each octets in (
      subst (λ (a : Area). a.address + length a.octets ≤ size) (sym cut.1) (omega (arith, taken)),
      fit-cut each (address + each) (drop each octets) rest size cut.2
          (λ more. omega (arith, length-drop each octets)),
    )

-- ---- areas that are cut

put_all-append : (c : List ℕ) (xs bs : List Area) → put_all c (xs ++ bs) ≡ put_all (put_all c xs) bs
put_all-append c [] bs = refl
put_all-append c (a ∷ xs) bs = put_all-append (put_at c a.address a.octets) xs bs

fit-append : (size : ℕ) (xs bs : List Area) → AreasFit size xs → AreasFit size bs
    → AreasFit size (xs ++ bs)
fit-append size [] bs a b = b
fit-append size (x ∷ xs) bs a b = (a.0, fit-append size xs bs a.1 b)

pieces-fit : (each : ℕ) (areas pieces : List Area) (size : ℕ)
    → AreasCut each areas pieces
    → AreasFit size areas
    → AreasFit size pieces
pieces-fit each [] pieces size cut fit = subst (AreasFit size) (sym cut) tt
pieces-fit each (a ∷ areas) pieces size cut fit =
    subst (AreasFit size) (sym cut.2)
    (fit-append size cut.0 cut.1 (fit-cut each a.address a.octets cut.0 size cut.3 (λ some. fit.0))
    (pieces-fit each areas cut.1 size cut.4 fit.1))

pieces-put : (each : ℕ) (areas pieces : List Area) (c : List ℕ)
    → 0 < each
    → AreasCut each areas pieces
    → AreasFit (length c) areas
    → put_all c pieces ≡ put_all c areas
pieces-put each [] pieces c some cut fit = ap (put_all c) cut
pieces-put each (a ∷ areas) pieces c some cut fit =
    ap (put_all c) cut.2
    ∙ put_all-append c cut.0 cut.1
    ∙ ap (λ (o : List ℕ). put_all o cut.1) (put-cut each a.address a.octets cut.0 c some cut.3
    (λ some. fit.0))
    ∙ pieces-put each areas cut.1 (put_at c a.address a.octets) some cut.4
    (AreasFit-put_at c a areas fit)

-- ---- the law

pub executed-cut : (apid each memory : ℕ) (areas pieces : List Area) (packets : List (List ℕ))
    (ms : Contents)
    (content : List ℕ)
    → 0 < each
    → AreasCut each areas pieces
    → AllMean apid packets (map (as_load memory) pieces)
    → content_of memory ms ≡ Some content
    → AreasFit (length content) areas
    → messages_executed apid packets ms ≡ memories_loaded memory areas ms
executed-cut apid each memory areas pieces packets ms content some cut means known fit =
    executed-loads apid memory (length content) packets pieces ms means
    (size-known memory content ms known)
    (pieces-fit each areas pieces (length content) cut fit)
    ∙ loaded-same memory pieces areas content ms known
    (pieces-put each areas pieces content some cut fit)

pub executed-image : (apid each memory address : ℕ) (image : List ℕ) (pieces : List Area)
    (packets : List (List ℕ)) (ms : Contents) (content : List ℕ)
    → 0 < each
    → AreCut each address image pieces
    → AllMean apid packets (map (as_load memory) pieces)
    → content_of memory ms ≡ Some content
    → address + length image ≤ length content
    → content_of memory (messages_executed apid packets ms) ≡ Some (put_at content address image)
executed-image apid each memory address image pieces packets ms content some cut means known fit =
    let area : Area = record { address = address; octets = image } in
    let cuts : AreasCut each (area ∷ []) pieces = (pieces, [], sym (append-nil pieces), cut, refl)
    in
    ap (content_of memory) (executed-cut apid each memory (area ∷ []) pieces packets ms content
    some cuts means
    known (fit, tt))
    ∙ content_of-loaded memory (area ∷ []) content ms known
