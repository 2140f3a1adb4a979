-- What areas give, one behind the other.
use Rattle.std.proofs.Common.{◌≡◌, ◌∙◌, ap, sym, subst, refl, ℕ, ◌≤◌, max, Bool, true, false, List, [], ◌∷◌, ◌++◌, ◌+◌, ◌<◌, length, take, drop, get_or, map, Option, Some, None, Result, Ok, Err, arith, append-nil, append_assoc}
use Rattle.std.specs.Prelude.{OnOk}
use Rattle.std.proofs.lemmas.Grind.{common_steps, flat_map-append}
use Rattle.std.proofs.lemmas.List.{map-append, nil_from_length, take_more, take-append-drop}
use Rattle.std.proofs.lemmas.List.Elements.{filter-append}
use Rattle.std.proofs.KnownBytes.{Appends-kept, Appends-nil, Appends-trans}
use Rattle.std.specs.Io.KnownBytes.{Appends, Keeps}
use Rattle.lpt_text.specs.Streams.{AppendsPart}
use Rattle.lpt_stream.specs.Pieces.{Piece, octets_in, up_to_limit}
use Rattle.lpt_text.proofs.StreamLemmas.{part_after, part_of_front, part_of_nothing, part_whole}
use Rattle.lpt_text.specs.declared.fault.StreamFault.{StreamFault}
use Rattle.lpt_text.specs.declared.fault.StreamFault.TheVariants as faults
use Rattle.lpt_memory.specs.declared.request.Area.{Area}
use Rattle.lpt_memory.specs.Meanings.{area}
use Rattle.lpt_extract.specs.declared.extracted.ExtractEnd.{ExtractEnd}
use Rattle.lpt_extract.specs.declared.extracted.ExtractEnd.TheVariants.{Written, Nothing, TooLarge, NotWhole}
use Rattle.lpt_extract.specs.declared.image.Image.{Image}
use Rattle.lpt_memory.specs.Requests.{LoadArea, Request}
use Rattle.lpt_extract.specs.declared.holding.Holding.{Holding}
use Rattle.lpt_extract.specs.declared.notice.Notice.{Notice}
use Rattle.lpt_extract.specs.declared.notice.Notice.TheVariants.{OtherMemory}
use Rattle.lpt_extract.specs.declared.seen_area.SeenArea.{SeenArea}
use Rattle.lpt_extract.specs.declared.wanted.ImagePlace.{ImagePlace}
use Rattle.lpt_extract.specs.declared.wanted.Wanted.{Wanted}
use Rattle.lpt_extract.specs.Areas.{all_octets, end_of, extent}
use Rattle.lpt_extract.specs.Extracts.{is_of, start, whole_areas, areas_written, written_first, areas_in, notices_at, notices_in, areas_of, notices_of, AreClashing, AreMissing, Ends, LeavesFront}
use Rattle.lpt_extract.specs.ClashesInside.{Tells}
use Rattle.lpt_extract.specs.CoversInside.{gaps_of}
use Rattle.lpt_extract.specs.Gaps.{is_given, AreGaps, Gap}
use Rattle.lpt_extract.specs.ExtractsInside.{areas_given, told_of, written_last, EndsBy, HasImage, HeldAreas}
use Rattle.lpt_extract.specs.ImagesInside.{end_of_image, octets_of_image}
use Rattle.lpt_extract.specs.Notices.{is_taken, notice, untaken, Hears}
use Rattle.lpt_extract.proofs.ContradictLemmas.{told-are}
use Rattle.lpt_extract.proofs.ImageLemmas.{extent-more, image-none}
use Rattle.lpt_extract.specs.Reports.{Saying, Areas, report_in}
use Rattle.lpt_extract.specs.ReportsInside.{load_area}

-- ---- more

pub first-append : (at : Option ImagePlace) (xs ys : List Area)
    → written_first at (xs ++ ys) ≡ written_first at xs ++ written_first at ys
first-append None xs ys = flat_map-append (λ (a : Area). a.octets) xs ys
first-append (Some p) xs ys = refl

pub given-append : (xs ys : List SeenArea) → areas_given (xs ++ ys) ≡ areas_given xs
    ++ areas_given ys
given-append xs ys =
    ap whole_areas (map-append load_area xs ys)
    ∙ ap (map area) (filter-append is_taken (map load_area xs) (map load_area ys))
    ∙ map-append area _ _

pub told-append : (m n : ℕ) (xs ys : List SeenArea) → told_of m n (xs ++ ys)
    ≡ told_of m n xs ++ told_of m n ys
told-append m n xs ys =
    ap (map (notice m n)) (map-append load_area xs ys) ∙ map-append (notice m n) _ _

-- of the next area
pub given-more : (xs : List SeenArea) (i : ℕ) (d : SeenArea)
    → i < length xs
    → areas_given (take (i + 1) xs) ≡ areas_given (take i xs) ++ areas_given (get_or xs i d ∷ [])
given-more xs i d h =
    ap areas_given (take_more xs i d h) ∙ given-append (take i xs) (get_or xs i d ∷ [])

pub told-more : (m n : ℕ) (xs : List SeenArea) (i : ℕ) (d : SeenArea)
    → i < length xs
    → told_of m n (take (i + 1) xs) ≡ told_of m n (take i xs) ++ told_of m n (get_or xs i d ∷ [])
told-more m n xs i d h =
    ap (told_of m n) (take_more xs i d h) ∙ told-append m n (take i xs) (get_or xs i d ∷ [])

-- of one that isn't taken, and of one that is
pub given-wrong : (s : SeenArea) → is_taken (load_area s) ≡ false → areas_given (s ∷ []) ≡ []
given-wrong s h = rw h refl

pub given-right : (s : SeenArea) → is_taken (load_area s) ≡ true → areas_given (s ∷ [])
    ≡ area (load_area s) ∷ []
given-right s h = rw h refl

pub told-wrong : (m n : ℕ) (s : SeenArea)
    → is_taken (load_area s) ≡ false
    → told_of m n (s ∷ []) ≡ untaken m n (load_area s) ∷ []
told-wrong m n s h = rw h refl

-- what a report of a memory that is wanted gives
pub areas-said : (at : Option ImagePlace) (m : ℕ) (xs ys : List SeenArea) (r : Saying)
    → Areas (record { memory = m; areas = map load_area xs }) ≡ r
    → is_of at m ≡ true
    → ys ≡ xs
    → areas_given ys ≡ areas_of at r
areas-said at m xs ys r h mine same =
    subst (λ s. areas_given ys ≡ areas_of at s) h (rw mine (ap areas_given same))

-- of a front part, and the rest
pub given-split : (n : ℕ) (xs : List SeenArea) → areas_given (take n xs) ++ areas_given (drop n xs)
    ≡ areas_given xs
given-split n xs =
    sym (given-append (take n xs) (drop n xs)) ∙ ap areas_given (take-append-drop n xs)

pub areas-append : (w : Wanted) (xs ys : List (List ℕ)) → areas_in w (xs ++ ys)
    ≡ areas_in w xs ++ areas_in w ys
areas-append w xs ys = flat_map-append (λ b. areas_of w.at (report_in w b)) xs ys

-- what is told of a piece more
pub notices-next : (w : Wanted) (n : ℕ) (ps : List Piece) (p : Piece)
    → notices_in w n (ps ++ p ∷ [])
    ≡ notices_in w n ps ++ notices_at w (up_to_limit (n + octets_in ps)) p.kind p.octets
notices-next w n [] p =
    append-nil (notices_at w (up_to_limit n) p.kind p.octets)
    ∙ ap (λ k. notices_at w (up_to_limit k) p.kind p.octets) (omega arith)
notices-next w n (q ∷ ps) p =
    let first = notices_at w (up_to_limit n) q.kind q.octets in
    ap (λ ns. first ++ ns) (notices-next w (n + length q.octets) ps p
    ∙ ap (λ k. notices_in w (n + length q.octets) ps ++ notices_at w
    (up_to_limit k) p.kind p.octets)
    (omega arith))
    ∙ sym (append_assoc first (notices_in w (n + length q.octets) ps) _)

-- ---- nothing

pub image-held-none : (at : Option ImagePlace) (i : Image)
    → end_of_image i ≡ 0
    → gaps_of i.cover ≡ []
    → octets_of_image i ≡ []
    → ((from : ℕ) → Tells from [] i.clashes)
    → HasImage at [] i
image-held-none None i end gaps octets told = (end, gaps)
image-held-none (Some p) i end gaps octets told = record {
  covers = record {
    end_is = end;
    gaps_are = subst (AreGaps (is_given []) p.from 0) (sym gaps)
        (λ n c d. absurd (omega (arith, d)));
    reached = λ h. absurd (omega (arith, h));
  };
  octets_are = λ fits. octets ∙ image-none p.from p.fill;
  clashes_are = λ fits. told p.from;
}

-- what is missing of an image that is held
pub missing-held : (at : Option ImagePlace) (areas : List Area) (i : Image) (gaps : List Gap)
    → gaps ≡ gaps_of i.cover
    → HasImage at areas i
    → AreMissing at areas gaps
missing-held None areas i gaps is h = is ∙ h.1
missing-held (Some p) areas i gaps is h =
    subst (AreGaps (is_given areas) p.from (extent areas)) (sym is) h.covers.gaps_are

-- what is told of it
pub clashing-held : (at : Option ImagePlace) (areas : List Area) (i : Image)
    → HasImage at areas i
    → AreClashing at areas i.clashes
clashing-held None areas i h = tt
clashing-held (Some p) areas i h = λ fits. told-are p.from areas i.clashes (h.clashes_are fits)

-- an area more that isn't put into an image
pub image-held-next : (at : Option ImagePlace) (before : List Area) (a : Area) (i j : Image)
    → at ≡ None
    → end_of_image j ≡ max (end_of_image i) (end_of a)
    → gaps_of j.cover ≡ gaps_of i.cover
    → HasImage at before i
    → HasImage at (before ++ a ∷ []) j
image-held-next None before a i j is e g h =
    (e ∙ ap (λ k. max k (end_of a)) h.0 ∙ sym (extent-more before a), g ∙ h.1)
image-held-next (Some p) before a i j is e g h = absurd cc

-- nothing is written of none
pub first-none : (at : Option ImagePlace) → written_first at [] ≡ []
first-none None = refl
first-none (Some p) = refl

pub wrote-none : (at : Option ImagePlace) (a : Option (List ℕ)) → Appends a a (written_first at [])
wrote-none None a = Appends-nil a
wrote-none (Some p) a = Appends-nil a

-- ---- what is held

-- other areas and notices, which are the same
pub held-as : (at : Option ImagePlace) (xs ys : List Area) (ns ms : List Notice) (h : Holding)
    → xs ≡ ys
    → ns ≡ ms
    → HeldAreas at xs ns h
    → HeldAreas at ys ms h
held-as at xs ys ns ms h e f k =
    subst (λ zs. HeldAreas at zs ms h) e (subst (λ ks. HeldAreas at xs ks h) f k)

-- the same, where work went well
pub on-held : {A E : Type 0} (r : Result A E) (at : Option ImagePlace) (before xs ys : List Area)
    (told ns ms : List Notice) (h : Holding)
    → xs ≡ ys
    → ns ≡ ms
    → OnOk r (HeldAreas at (before ++ xs) (told ++ ns) h)
    → OnOk r (HeldAreas at (before ++ ys) (told ++ ms) h)
on-held (Ok x) at before xs ys told ns ms h e f k =
    held-as at _ _ _ _ h (ap (λ zs. before ++ zs) e) (ap (λ ks. told ++ ks) f) k
on-held (Err x) at before xs ys told ns ms h e f k = tt

-- with no area more
pub held-same : (at : Option ImagePlace) (xs : List Area) (ns : List Notice) (h : Holding)
    → HeldAreas at xs ns h
    → HeldAreas at (xs ++ []) ns h
held-same at xs ns h k = held-as at xs (xs ++ []) ns ns h (sym (append-nil xs)) refl k

-- with a report of another memory
pub held-other : (at : Option ImagePlace) (r : Request LoadArea) (place : ℕ) (xs : List Area)
    (ns : List Notice)
    (h : Holding)
    → is_of at r.memory ≡ false
    → HeldAreas at xs (ns ++ OtherMemory r.memory ∷ []) h
    → HeldAreas at (xs ++ areas_of at (Areas r)) (ns ++ notices_of at place (Areas r)) h
held-other at r place xs ns h e k = rw e (held-same at xs _ h k)

-- more and more
pub held-more : (at : Option ImagePlace) (xs ys zs all : List Area) (ns ms ks told : List Notice)
    (h : Holding)
    → all ≡ ys ++ zs
    → told ≡ ms ++ ks
    → HeldAreas at ((xs ++ ys) ++ zs) ((ns ++ ms) ++ ks) h
    → HeldAreas at (xs ++ all) (ns ++ told) h
held-more at xs ys zs all ns ms ks told h e f k =
    held-as at _ (xs ++ all) _ (ns ++ told) h
    (append_assoc xs ys zs ∙ ap (λ l. xs ++ l) (sym e))
    (append_assoc ns ms ks ∙ ap (λ l. ns ++ l) (sym f)) k

-- ---- what was told

pub hears-nothing : (a : Option (List Notice)) → Hears a a []
hears-nothing None = tt
hears-nothing (Some xs) = sym (append-nil xs)

pub hears-more : (a b c : Option (List Notice)) (ms ns : List Notice)
    → Hears a b ms
    → Hears b c ns
    → Hears a c (ms ++ ns)
hears-more None b c ms ns h k = tt
hears-more (Some xs) None c ms ns h k = absurd h
hears-more (Some xs) (Some ys) None ms ns h k = absurd k
hears-more (Some xs) (Some ys) (Some zs) ms ns h k = grind (arith, h, k, common_steps)

-- ---- what was written

-- more is written
pub wrote-more : (at : Option ImagePlace) (a b c : Option (List ℕ)) (xs ys : List Area)
    → Appends a b (written_first at xs)
    → Appends b c (written_first at ys)
    → Appends a c (written_first at (xs ++ ys))
wrote-more at a b c xs ys h k =
    subst (Appends a c) (sym (first-append at xs ys)) (Appends-trans a b c _ _ h k)

pub part-more : (at : Option ImagePlace) (a b c : Option (List ℕ)) (xs ys : List Area)
    → Appends a b (written_first at xs)
    → AppendsPart b c (written_first at ys)
    → AppendsPart a c (written_first at (xs ++ ys))
part-more at a b c xs ys h k =
    subst (AppendsPart a c) (sym (first-append at xs ys)) (part_after a b c _ _ h k)

-- and a front part of what is behind it
pub part-before : (at : Option ImagePlace) (a b : Option (List ℕ)) (xs ys : List Area)
    → AppendsPart a b (written_first at xs)
    → AppendsPart a b (written_first at (xs ++ ys))
part-before at a b xs ys h =
    subst (AppendsPart a b) (sym (first-append at xs ys)) (part_of_front a b _ _ h)

-- all that is written is what is written first and last
pub written-both : (at : Option ImagePlace) (areas : List Area)
    → written_first at areas ++ written_last at areas ≡ areas_written at areas
written-both None areas = append-nil (all_octets areas)
written-both (Some p) areas = refl

-- areas that end nowhere have no octets
none-first : (at : Option ImagePlace) (areas : List Area)
    → extent areas ≤ start at
    → written_first at areas ≡ []
none-first None [] h = refl
none-first None (a ∷ areas) h =
    let none : a.octets ≡ [] = nil_from_length a.octets (omega (arith, h)) in
    ap (λ (o : List ℕ). o ++ all_octets areas) none ∙ none-first None areas (omega (arith, h))
none-first (Some p) areas h = refl

never-false : true ≡ false → ⊥
never-false h = cc

-- how the whole ends, by how its end does
pub ends-by : (at : Option ImagePlace) (areas : List Area) (u : Bool) (end : ExtractEnd)
    (a b c : Option (List ℕ))
    → Appends a b (written_first at areas)
    → EndsBy at areas u end b c
    → Ends at areas u end a c
ends-by at areas u Written a b c h k = (
  k.0,
  k.1,
  k.2,
  subst (Appends a c) (written-both at areas) (Appends-trans a b c _ _ h k.3),
)
ends-by at areas u Nothing a b c h k = (
  k.0,
  subst (Appends a c) (none-first at areas k.0)
      (subst (Appends a c) (append-nil (written_first at areas)) (Appends-trans a b c _ _ h k.1)),
)
ends-by None areas u (TooLarge n) a b c h k = absurd k.0
ends-by (Some p) areas u (TooLarge n) a b c h k = (k.0, Appends-trans a b c [] [] h k.1)
ends-by None areas u NotWhole a b c h k = absurd (never-false k.2)
ends-by (Some p) areas u NotWhole a b c h k = (k.0, k.1, k.2, Appends-trans a b c [] [] h k.3)

-- ---- what a fault leaves

-- a front part of what is written first
pub leaves-first : (e : StreamFault) (at : Option ImagePlace) (areas : List Area)
    (a b : Option (List ℕ))
    → AppendsPart a b (written_first at areas)
    → LeavesFront e at areas a b
leaves-first faults.Read at areas a b h = h
leaves-first faults.Memory at areas a b h = h
leaves-first faults.Write at areas a b h =
    subst (AppendsPart a b) (written-both at areas)
    (part_of_front a b _ (written_last at areas) h)

-- and of the image
pub leaves-last : (at : Option ImagePlace) (areas : List Area) (a b c : Option (List ℕ))
    → Appends a b (written_first at areas)
    → AppendsPart b c (written_last at areas)
    → LeavesFront faults.Write at areas a c
leaves-last at areas a b c h k =
    subst (AppendsPart a c) (written-both at areas) (part_after a b c _ _ h k)

-- and of what was written last, where it couldn't be passed on
pub part-by : (at : Option ImagePlace) (areas : List Area) (u : Bool) (end : ExtractEnd)
    (a b c : Option (List ℕ))
    → EndsBy at areas u end a b
    → Keeps b c
    → AppendsPart a c (written_last at areas)
part-by at areas u Written a b c h k = part_whole a c _ (Appends-kept a b c _ h.3 k)
part-by at areas u Nothing a b c h k = part_of_nothing a c _ (Appends-kept a b c [] h.1 k)
part-by at areas u (TooLarge n) a b c h k = part_of_nothing a c _ (Appends-kept a b c [] h.1 k)
part-by at areas u NotWhole a b c h k = part_of_nothing a c _ (Appends-kept a b c [] h.3 k)

-- and all of it, if that is passed on
pub by-kept : (at : Option ImagePlace) (areas : List Area) (u : Bool) (e : ExtractEnd)
    (a b c : Option (List ℕ))
    → EndsBy at areas u e a b
    → Keeps b c
    → EndsBy at areas u e a c
by-kept at areas u Written a b c h k =
    (h.0, h.1, h.2, Appends-kept a b c (written_last at areas) h.3 k)
by-kept at areas u Nothing a b c h k = (h.0, Appends-kept a b c [] h.1 k)
by-kept at areas u (TooLarge n) a b c h k = (h.0, Appends-kept a b c [] h.1 k)
by-kept at areas u NotWhole a b c h k = (h.0, h.1, h.2, Appends-kept a b c [] h.3 k)
