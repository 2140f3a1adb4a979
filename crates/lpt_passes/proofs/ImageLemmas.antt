-- Loads that carry nothing but an image's octets leave the image in its range.
use Rattle.std.proofs.Common.{◌≡◌, ◌≢◌, ◌∙◌, ap, sym, subst, refl, ℕ, zero, suc, ◌+◌, ◌-◌, ◌<◌, ◌≤◌, ◌==◌, Bool, true, false, if◌then◌else◌, ◌⊎◌, inl, inr, List, [], ◌∷◌, length, take, drop, get_or, Some, eqb-true, eq-eqb, arith}
use Rattle.std.proofs.lemmas.Bool.{cases_lt}
use Rattle.std.proofs.lemmas.List.{get_or-drop, get_or-take, length-take, length-drop}
use Rattle.std.specs.List.{slice_get, AllByRecursion}
use Rattle.lpt_memory.specs.declared.request.Area.{Area}
use Rattle.lpt_memory.specs.Meanings.{Meaning, Silent, Fault, Load, Dump, Check, Sizes, size_of, meaning}
use Rattle.lpt_memory.specs.Memories.{Contents, content_of, sizes_of, put_at, put_all, memories_loaded, effect}
use Rattle.lpt_memory.specs.Overlaps.{Covers}
use Rattle.lpt_memory.specs.Ranges.{AreasFit, MeaningFits}
use Rattle.lpt_memory.proofs.MeaningLemmas.{meaning-fits}
use Rattle.lpt_memory.proofs.PutLemmas.{AreasFit-put_at, length-put_all, put_all-untouched, put_all-last, sizes_of-effect, content_of-loaded, content_of-other}
use Rattle.lpt_journal.specs.Jobs.{left_by}
use Rattle.lpt_journal.proofs.TestLemmas.{no_place}
use Rattle.lpt_passes.specs.Images.{Image, Agrees, IsTrueTo, LoadsOctet, AreTrueTo, IsLoaded, Stands, LoadsLeaveTheImage, PassLeavesTheImage, RangeStays}

-- ---- one area

-- the area has this octet at a place, where it covers it
abbrev HasThere : (i v : ℕ) → Area → Type 0
HasThere i v a = Covers i a → get_or a.octets (i - a.address) 0 ≡ v

one_sets : (content : List ℕ) (a : Area) (i v : ℕ)
    → a.address + length a.octets ≤ length content
    → HasThere i v a
    → Covers i a
    → get_or (put_at content a.address a.octets) i 0 ≡ v
one_sets content a i v fit has covers =
    put_all-last content [] a [] i (fit, tt) covers tt ∙ has covers

one_keeps : (content : List ℕ) (a : Area) (i v : ℕ)
    → a.address + length a.octets ≤ length content
    → HasThere i v a
    → get_or content i 0 ≡ v
    → get_or (put_at content a.address a.octets) i 0 ≡ v
one_keeps content a i v fit has had =
    elim (cases_lt i a.address) [
      | inl lt ↦
          put_all-untouched content (a ∷ []) i (fit, tt)
          ((λ c. absurd (let from = c.from in omega arith)), tt) ∙ had
      | inr from ↦ elim (cases_lt i (a.address + length a.octets)) [
        | inl to ↦ one_sets content a i v fit has (record { from = from; to = to })
        | inr le ↦
            put_all-untouched content (a ∷ []) i (fit, tt)
            ((λ c. absurd (let to = c.to in omega arith)), tt) ∙ had
      ]
    ]

-- ---- areas one after the other

all_keep : (content : List ℕ) (areas : List Area) (i v : ℕ)
    → AreasFit (length content) areas
    → AllByRecursion (HasThere i v) areas
    → get_or content i 0 ≡ v
    → get_or (put_all content areas) i 0 ≡ v
all_keep content [] i v fit has had = had
all_keep content (a ∷ rest) i v fit has had =
    all_keep (put_at content a.address a.octets) rest i v (AreasFit-put_at content a rest fit) has.1
    (one_keeps content a i v fit.0 has.0 had)

all_set : (content : List ℕ) (areas : List Area) (i v k : ℕ) (a : Area)
    → AreasFit (length content) areas
    → AllByRecursion (HasThere i v) areas
    → slice_get areas k ≡ Some a
    → Covers i a
    → get_or (put_all content areas) i 0 ≡ v
all_set content [] i v k a fit has there covers = absurd (no_place k a there)
all_set content (b ∷ rest) i v zero a fit has there covers =
    let same : b ≡ a = cc in
    all_keep (put_at content b.address b.octets) rest i v (AreasFit-put_at content b rest fit) has.1
    (one_sets content b i v fit.0 has.0 (subst (λ c. Covers i c) (sym same) covers))
all_set content (b ∷ rest) i v (suc k) a fit has there covers =
    all_set (put_at content b.address b.octets) rest i v k a (AreasFit-put_at content b rest fit)
    has.1 there covers

has_there : (x : Image) (i : ℕ) (areas : List Area)
    → i < length x.octets
    → AllByRecursion (Agrees x) areas
    → AllByRecursion (HasThere (x.address + i) (get_or x.octets i 0)) areas
has_there x i [] within all = tt
has_there x i (a ∷ areas) within all = (all.0 i within, has_there x i areas within all.1)

-- ---- one request

known_size : (id : ℕ) (content : List ℕ) (ms : Contents)
    → content_of id ms ≡ Some content
    → size_of id (sizes_of ms) ≡ Some (length content)
known_size id content [] e = absurd cc
known_size id content (m ∷ ms) e = go (m.0 == id) e (known_size id content ms) where
  go : (b : Bool)
      → (if b then Some m.1 else content_of id ms) ≡ Some content
      → (content_of id ms ≡ Some content → size_of id (sizes_of ms) ≡ Some (length content))
      → (if b then Some (length m.1) else size_of id (sizes_of ms)) ≡ Some (length content)
  go true is rest = let same : m.1 ≡ content = cc in ap (λ c. Some (length c)) same
  go false is rest = rest is

-- a memory's octet at the place of an image's
abbrev IsThere : Image → List ℕ → ℕ → Type 0
IsThere x content i = get_or content (x.address + i) 0 ≡ get_or x.octets i 0

-- what a request leaves of the image's memory: it has the octets that it had, and those that it
-- loaded
record IsAfter (x : Image) (m : Meaning) (ms : Contents) (content : List ℕ) : Type 0 where
  after : List ℕ
  is_after : content_of x.memory (effect m ms) ≡ Some after
  same_length : length after ≡ length content
  keeps : (i : ℕ) → i < length x.octets → IsThere x content i → IsThere x after i
  sets : (i : ℕ) → i < length x.octets → LoadsOctet x i m → IsThere x after i

unchanged : (x : Image) (m : Meaning) (ms : Contents) (content : List ℕ)
    → content_of x.memory (effect m ms) ≡ Some content
    → ((i : ℕ) → LoadsOctet x i m → ⊥)
    → IsAfter x m ms content
unchanged x m ms content known none = record {
  after = content;
  is_after = known;
  same_length = refl;
  keeps = λ i within e. e;
  sets = λ i within l. absurd (none i l);
}

one_request : (x : Image) (m : Meaning) (ms : Contents) (content : List ℕ)
    → content_of x.memory ms ≡ Some content
    → MeaningFits (sizes_of ms) m
    → IsTrueTo x m
    → IsAfter x m ms content
one_request x Silent ms content known fits true_to = unchanged x Silent ms content known (λ i l. l)
one_request x (Fault code) ms content known fits true_to =
    unchanged x (Fault code) ms content known (λ i l. l)
one_request x (Dump id ranges) ms content known fits true_to =
    unchanged x (Dump id ranges) ms content known (λ i l. l)
one_request x (Check id ranges) ms content known fits true_to =
    unchanged x (Check id ranges) ms content known (λ i l. l)
one_request x (Load id areas) ms content known fits true_to = go (id == x.memory) refl where
  go : (b : Bool) → (id == x.memory) ≡ b → IsAfter x (Load id areas) ms content
  go true test =
      let same : id ≡ x.memory = eqb-true id x.memory test in
      let known_here : content_of id ms ≡ Some content =
      ap (λ n. content_of n ms) same ∙ known in
      let sized : Some fits.size ≡ Some (length content) =
      sym fits.known ∙ known_size id content ms known_here in
      let fit : AreasFit (length content) areas =
      subst (λ n. AreasFit n areas) (let e : fits.size ≡ length content = cc in e) fits.fit in
      let all = true_to same in
      record {
        after = put_all content areas;
        is_after =
            ap (λ n. content_of n (memories_loaded id areas ms)) (sym same)
            ∙ content_of-loaded id areas content ms known_here;
        same_length = length-put_all content areas fit;
        keeps = λ i within e.
            all_keep content areas (x.address + i) (get_or x.octets i 0) fit
            (has_there x i areas within all) e;
        sets = λ i within l.
            all_set content areas (x.address + i) (get_or x.octets i 0) l.1.number l.1.area fit
            (has_there x i areas within all) l.1.is_there l.1.covers;
      }
  go false test =
      let differ : id ≢ x.memory =
      λ e. let yes : (id == x.memory) ≡ true = eq-eqb id x.memory e in cc in
      unchanged x (Load id areas) ms content (content_of-other id x.memory areas ms differ ∙ known)
      (λ i l. differ l.0)

-- ---- all requests

record AreAfter (x : Image) (apid : ℕ) (sizes : Sizes) (requests : List (List ℕ)) (ms : Contents)
    (content : List ℕ) : Type 0 where
  after : List ℕ
  is_after : content_of x.memory (left_by apid requests ms) ≡ Some after
  same_length : length after ≡ length content
  there : (i : ℕ)
      → i < length x.octets
      → IsThere x content i ⊎ IsLoaded x i apid sizes requests
      → IsThere x after i

-- an octet that one of them loads is there after the first, or is loaded by one of the rest
now_or_later : (x : Image) (apid : ℕ) (sizes : Sizes) (r : List ℕ) (rs : List (List ℕ))
    (ms : Contents) (content : List ℕ)
    → sizes_of ms ≡ sizes
    → (first : IsAfter x (meaning apid (sizes_of ms) r) ms content)
    → (i : ℕ)
    → i < length x.octets
    → (k : ℕ) (request : List ℕ)
    → slice_get (r ∷ rs) k ≡ Some request
    → LoadsOctet x i (meaning apid sizes request)
    → IsThere x first.after i ⊎ IsLoaded x i apid sizes rs
now_or_later x apid sizes r rs ms content same first i within zero request there loads =
    let one : r ≡ request = cc in
    inl (first.sets i within
    (subst (λ s. LoadsOctet x i (meaning apid s r)) (sym same)
    (subst (λ b. LoadsOctet x i (meaning apid sizes b)) (sym one) loads)))
now_or_later x apid sizes r rs ms content same first i within (suc k) request there loads =
    inr (record { number = k; request = request; is_there = there; loads = loads })

all_requests : (x : Image) (apid : ℕ) (sizes : Sizes) (requests : List (List ℕ)) (ms : Contents)
    (content : List ℕ)
    → sizes_of ms ≡ sizes
    → content_of x.memory ms ≡ Some content
    → AreTrueTo x apid sizes requests
    → AreAfter x apid sizes requests ms content
all_requests x apid sizes [] ms content same known all = record {
  after = content;
  is_after = known;
  same_length = refl;
  there = λ i within k.
      elim k [ inl e ↦ e | inr l ↦ absurd (no_place l.number l.request l.is_there) ];
}
all_requests x apid sizes (r ∷ rs) ms content same known all =
    let m : Meaning = meaning apid (sizes_of ms) r in
    let fits = meaning-fits apid (sizes_of ms) r in
    let first =
    one_request x m ms content known fits
    (subst (λ s. IsTrueTo x (meaning apid s r)) (sym same) all.0) in
    let rest =
    all_requests x apid sizes rs (effect m ms) first.after (sizes_of-effect m ms fits ∙ same)
    first.is_after all.1 in
    record {
      after = rest.after;
      is_after = rest.is_after;
      same_length = rest.same_length ∙ first.same_length;
      there = λ i within k. elim k [
        | inl e ↦ rest.there i within (inl (first.keeps i within e))
        | inr l ↦
            rest.there i within
            (now_or_later x apid sizes r rs ms content same first i within l.number l.request
            l.is_there l.loads)
      ];
    }

-- ---- the range

same_lists : (xs ys : List ℕ)
    → length xs ≡ length ys
    → ((i : ℕ) → i < length ys → get_or xs i 0 ≡ get_or ys i 0)
    → xs ≡ ys
same_lists [] [] long each = refl
same_lists [] (y ∷ ys) long each = absurd (omega arith)
same_lists (x ∷ xs) [] long each = absurd (omega arith)
same_lists (x ∷ xs) (y ∷ ys) long each =
    let head : x ≡ y = each 0 (omega arith) in
    let rest : xs ≡ ys = same_lists xs ys (omega arith) (λ i within. each (suc i) (omega arith)) in
    λ j. head j ∷ rest j

range_is : (content xs : List ℕ) (a : ℕ)
    → a + length xs ≤ length content
    → ((i : ℕ) → i < length xs → get_or content (a + i) 0 ≡ get_or xs i 0)
    → take (length xs) (drop a content) ≡ xs
range_is content xs a fits each =
    same_lists (take (length xs) (drop a content)) xs
    (omega (arith, length-take (length xs) (drop a content), length-drop a content))
    (λ i within.
    get_or-take (length xs) (drop a content) i 0 within ∙ get_or-drop a content i 0 ∙ each i within)

pub loads_leave_the_image : LoadsLeaveTheImage
loads_leave_the_image x apid ms before requests known fits all loaded =
    let it = all_requests x apid (sizes_of ms) requests ms before refl known all in
    record {
      content = it.after;
      is_content = it.is_after;
      is_image =
          range_is it.after x.octets x.address (omega (arith, it.same_length))
          (λ i within. it.there i within (inr (loaded i within)));
    }

-- ---- a pass

left_split : (apid n : ℕ) (xs : List (List ℕ)) (ms : Contents)
    → left_by apid (drop n xs) (left_by apid (take n xs) ms) ≡ left_by apid xs ms
left_split apid zero xs ms = refl
left_split apid (suc n) [] ms = refl
left_split apid (suc n) (x ∷ xs) ms =
    left_split apid n xs (effect (meaning apid (sizes_of ms) x) ms)

-- requests leave the sizes
pub sizes_left : (apid : ℕ) (xs : List (List ℕ)) (ms : Contents)
    → sizes_of (left_by apid xs ms) ≡ sizes_of ms
sizes_left apid [] ms = refl
sizes_left apid (x ∷ xs) ms =
    let m : Meaning = meaning apid (sizes_of ms) x in
    sizes_left apid xs (effect m ms)
    ∙ sizes_of-effect m ms (meaning-fits apid (sizes_of ms) x)

-- an empty image of a memory, which every load is true to
abbrev empty : Image → Image
empty x = record { memory = x.memory; address = x.address; octets = [] }

agree_with_none : (x : Image) (areas : List Area) → AllByRecursion (Agrees (empty x)) areas
agree_with_none x [] = tt
agree_with_none x (a ∷ areas) = (λ i within. absurd (omega arith), agree_with_none x areas)

true_to_none : (x : Image) (m : Meaning) → IsTrueTo (empty x) m
true_to_none x Silent = tt
true_to_none x (Fault code) = tt
true_to_none x (Load id areas) = λ e. agree_with_none x areas
true_to_none x (Dump id ranges) = tt
true_to_none x (Check id ranges) = tt

all_true_to_none : (x : Image) (apid : ℕ) (sizes : Sizes) (xs : List (List ℕ))
    → AreTrueTo (empty x) apid sizes xs
all_true_to_none x apid sizes [] = tt
all_true_to_none x apid sizes (m ∷ ms) =
    (true_to_none x (meaning apid sizes m), all_true_to_none x apid sizes ms)

pub pass_leaves_the_image : PassLeavesTheImage
pass_leaves_the_image x apid first content executed requests place known fits all loaded among =
    let ms : Contents = left_by apid (take place executed) first in
    let sizes : sizes_of ms ≡ sizes_of first = sizes_left apid (take place executed) first in
    let it =
    all_requests (empty x) apid (sizes_of first) (take place executed) first content refl known
    (all_true_to_none x apid (sizes_of first) (take place executed)) in
    let later : List (List ℕ) = drop place executed in
    subst (λ c. Stands x c) (left_split apid place executed first)
    (loads_leave_the_image x apid ms it.after later it.is_after
    (omega (arith, fits, it.same_length))
    (subst (λ s. AreTrueTo x apid s later) (sym sizes) all)
    (λ i within.
    let l = loaded i within in
    let there = among l.number l.request l.is_there in
    record {
      number = there.0;
      request = l.request;
      is_there = there.1;
      loads = subst (λ s. LoadsOctet x i (meaning apid s l.request)) (sym sizes) l.loads;
    }))

-- ---- a range that stays

true_front : (x : Image) (apid : ℕ) (sizes : Sizes) (k : ℕ) (requests : List (List ℕ))
    → AreTrueTo x apid sizes requests
    → AreTrueTo x apid sizes (take k requests)
true_front x apid sizes zero requests all = tt
true_front x apid sizes (suc k) [] all = tt
true_front x apid sizes (suc k) (m ∷ ms) all = (all.0, true_front x apid sizes k ms all.1)

pub range_stays : RangeStays
range_stays x apid ms requests k now fits all =
    let it =
    all_requests x apid (sizes_of ms) (take k requests) ms now.content refl now.is_content
    (true_front x apid (sizes_of ms) k requests all) in
    record {
      content = it.after;
      is_content = it.is_after;
      is_image =
          range_is it.after x.octets x.address (omega (arith, fits, it.same_length))
          (λ i within.
          it.there i within
          (inl (
          sym (get_or-drop x.address now.content i 0)
          ∙ sym (get_or-take (length x.octets) (drop x.address now.content) i 0 within)
          ∙ ap (λ xs. get_or xs i 0) now.is_image)));
    }
