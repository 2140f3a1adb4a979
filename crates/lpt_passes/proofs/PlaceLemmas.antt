-- A job's places, and the areas that are planned of them.
use Rattle.std.proofs.Common.{◌≡◌, ◌∙◌, ap, sym, refl, subst, ℕ, zero, suc, ◌+◌, ◌-◌, ◌^◌, ◌<◌, ◌≤◌, ◌==◌, ◌&&◌, nat_le, nat_lt, Bool, true, false, if◌then◌else◌, List, [], ◌∷◌, length, map, take, drop, Option, Some, None, inl, inr, arith, get_or}
use Rattle.std.specs.List.{slice_get}
use Rattle.std.proofs.lemmas.Bool.{and_parts, cases_eq}
use Rattle.std.proofs.lemmas.Bool.Decides.{nat_tests}
use Rattle.std.proofs.lemmas.List.{drop-drop, length-drop, length-take}
use Rattle.std.proofs.lemmas.List.Sums.{sum_by-cons}
use Rattle.lpt_pus.specs.Ranges.{TcFits}
use Rattle.lpt_memory.specs.declared.request.Area.{Area}
use Rattle.lpt_memory.specs.Memories.{sizes_of}
use Rattle.lpt_requests.specs.declared.cut_fault.CutFault.{CutFault}
use Rattle.lpt_requests.specs.declared.cut_fault.CutFault.TheVariants.{Empty}
use Rattle.lpt_requests.specs.Cuts.{place_fault, place_faults, places_fault}
use Rattle.lpt_apart.specs.Moves.{came_to}
use Rattle.lpt_passes.specs.Images.{Agrees, Image}
use Rattle.lpt_ground.specs.declared.asked.Terms.{Terms}
use Rattle.lpt_ground.specs.Plans.{requests_planned}
use Rattle.lpt_ground.specs.declared.pass.End.TheVariants.{Done, Failed, Given, Ended}
use Rattle.lpt_ground.specs.declared.pass.Step.{Step}
use Rattle.lpt_ground.specs.declared.pass.Step.TheVariants.{Put, Listen, Stop}
use Rattle.lpt_ground.specs.Carrying.{come_to}
use Rattle.lpt_ground.specs.Passes.{PassState, pass_begun, next_step, state_of}
use Rattle.lpt_c_ground.specs.Calls.{CallsCarryAPass, step_word}
use Rattle.lpt_c_ground.specs.Codes.{bad_area, long_job, range}
use Rattle.lpt_c_ground.specs.Jobs.{each_of, is_job, kind_from, numbers_fit, terms_of}
use Rattle.lpt_c_ground.specs.Plans.{AreLoads, AreOf, IsNew, areas_of, fault_refusal, have_together, how_many, many_refusal, most, place_of, some_overlap}
use Rattle.lpt_c_ground.specs.declared.jobs.LptJob.{LptJob}
use Rattle.lpt_c_ground.specs.declared.jobs.LptPlace.{LptPlace}
use Rattle.lpt_passes.specs.Chains.{DoneLeavesTheImage, messages_of}
use Rattle.lpt_passes.specs.AloneJobs.{AreAlone, image_of}
use Rattle.lpt_passes.specs.Places.{AreApart, CompletedLeavesTheContent, LoadsAreApart, area_at, begins_at, image_at}
use Rattle.lpt_passes.proofs.ApartLemmas.{none-overlap}
use Rattle.lpt_passes.proofs.AtLemmas.{all-at}
use Rattle.lpt_passes.proofs.LeavingLemmas.{done-leaves}
use Rattle.lpt_passes.proofs.PacketLemmas.{AllLoad, planned-load}
use Rattle.lpt_passes.proofs.PieceLemmas.{AreaSuits, else-none, none-first, place-fits, pieces-reach, pieces-short, pieces-suit, size-known}

-- ---- areas of places

-- the area of a place, by its number
area-of-place : (places : List LptPlace) (content : List ℕ) (k : ℕ) (p : LptPlace)
    → slice_get places k ≡ Some p
    → slice_get (areas_of places content) k ≡ Some (area_at places content k p)
area-of-place [] content k p there = absurd cc
area-of-place (q ∷ rest) content zero p there =
    let same : q ≡ p = cc in
    ap (λ (z : LptPlace). Some (area_at (q ∷ rest) content 0 z)) same
area-of-place (q ∷ rest) content (suc k) p there =
    let first = sum_by-cons (λ (z : LptPlace). z.len) q (take k rest) in
    let behind : drop (begins_at rest k) (drop q.len content)
    ≡ drop (begins_at (q ∷ rest) (suc k)) content
    = drop-drop (begins_at rest k) q.len content
    ∙ ap (λ (n : ℕ). drop n content) (sym first) in
    area-of-place rest (drop q.len content) k p there
    ∙ ap (λ (o : List ℕ). Some (record { address = p.address; octets = take p.len o })) behind

-- an area is that of the place of its number
record IsOfPlace (places : List LptPlace) (content : List ℕ) (k : ℕ) (a : Area) : Type 0 where
  pub place : LptPlace
  pub is_there : slice_get places k ≡ Some place
  pub is : a ≡ area_at places content k place

-- behind the last place there is no area
none-of : (places : List LptPlace) (content : List ℕ) (k : ℕ) (a : Area)
    → slice_get places k ≡ None
    → slice_get (areas_of places content) k ≡ Some a
    → ⊥
none-of [] content k a none there = cc
none-of (q ∷ rest) content zero a none there = cc
none-of (q ∷ rest) content (suc k) a none there =
    none-of rest (drop q.len content) k a none there

place-of-area : (places : List LptPlace) (content : List ℕ) (k : ℕ) (a : Area)
    → slice_get (areas_of places content) k ≡ Some a
    → IsOfPlace places content k a
place-of-area places content k a there = go (slice_get places k) refl where
  go : (o : Option LptPlace) → slice_get places k ≡ o → IsOfPlace places content k a
  go None is = absurd (none-of places content k a is there)
  go (Some p) is =
      let known = area-of-place places content k p is in
      let same : a ≡ area_at places content k p = cc in
      record { place = p; is_there = is; is = same }

-- a place has as many octets as it says, where the places have the content together
whole : (places : List LptPlace) (content : List ℕ) (k : ℕ) (p : LptPlace) (a : Area)
    → have_together places (length content) ≡ true
    → slice_get places k ≡ Some p
    → slice_get (areas_of places content) k ≡ Some a
    → length a.octets ≡ p.len
whole [] content k p a together there is = absurd cc
whole (q ∷ rest) content zero p a together there is =
    let both = and_parts (nat_le q.len (length content))
    (have_together rest (length content - q.len)) together in
    let same : q ≡ p = cc in
    let area : record { address = q.address; octets = take q.len content } ≡ a = cc in
    let within : q.len ≤ length content = grind (arith, nat_tests, both.0) in
    let long : length (take q.len content) ≡ q.len
    = omega (arith, within, length-take q.len content) in
    ap (λ (z : Area). length z.octets) (sym area) ∙ long ∙ ap (λ (z : LptPlace). z.len) same
whole (q ∷ rest) content (suc k) p a together there is =
    let both = and_parts (nat_le q.len (length content))
    (have_together rest (length content - q.len)) together in
    whole rest (drop q.len content) k p a
    (ap (λ (n : ℕ). have_together rest n) (length-drop q.len content) ∙ both.1) there is

-- so many octets of a place end where it does
area-fits : (places : List LptPlace) (content : List ℕ) (n : ℕ) (q : LptPlace) (b : Area) (size : ℕ)
    → b ≡ area_at places content n q
    → length b.octets ≡ q.len
    → q.address + q.len ≤ 2 ^ 32
    → q.address + q.len ≤ size
    → (b.address + length b.octets ≤ 2 ^ 32) × (b.address + length b.octets ≤ size)
area-fits places content n q b size is len top within =
    let at : b.address ≡ q.address = ap (λ (z : Area). z.address) is in
    (omega (arith, at, len, top), omega (arith, at, len, within))

-- ---- a job that isn't refused

-- none of its places ends behind the last address
places-fit : (places : List LptPlace) (n : ℕ) (p : LptPlace)
    → place_faults (map place_of places) ≡ None
    → slice_get places n ≡ Some p
    → p.address + p.len ≤ 2 ^ 32
places-fit [] n p none there = absurd cc
places-fit (q ∷ rest) zero p none there =
    let same : q ≡ p = cc in
    let both = none-first (place_fault q.address q.len) (place_faults (map place_of rest)) none in
    subst (λ (z : LptPlace). z.address + z.len ≤ 2 ^ 32) same (place-fits q.address q.len both.0)
places-fit (q ∷ rest) (suc n) p none there =
    let both = none-first (place_fault q.address q.len) (place_faults (map place_of rest)) none in
    places-fit rest n p both.1 there

-- numbers of a job of loads in their ranges
record InRanges (j : LptJob) : Type 0 where
  pub head : TcFits j.apid j.count j.flags
  pub some : 0 < j.part_size
  pub few : j.part_size ≤ 1024

-- what holds of tests that all hold
all-parts : (apid count least_flags flags least most tries : Bool)
    → (apid && count && (least_flags && flags) && least && most && tries) ≡ true
    → (apid ≡ true) × (count ≡ true) × (flags ≡ true) × (least ≡ true) × (most ≡ true)
all-parts apid count least_flags flags least most tries is =
    let bits = least_flags && flags in
    let one = and_parts (apid && count && bits && least && most) tries is in
    let two = and_parts (apid && count && bits && least) most one.0 in
    let three = and_parts (apid && count && bits) least two.0 in
    let four = and_parts (apid && count) bits three.0 in
    let five = and_parts apid count four.0 in
    let six = and_parts least_flags flags four.1 in
    (five.0, five.1, six.1, three.1, two.1)

in-ranges : (j : LptJob) → numbers_fit (kind_from 1) j ≡ true → InRanges j
in-ranges j is =
    let all = all-parts (nat_le j.apid 2046) (nat_le j.count 16383) (nat_le 8 j.flags)
    (nat_le j.flags 15) (nat_le 4 j.part_size) (nat_le j.part_size 1024) (nat_le 1 j.tries) is in
    record {
      head = record {
        apid_fits = grind (arith, nat_tests, all.0);
        count_fits = grind (arith, nat_tests, all.1);
        flags_fit = grind (arith, nat_tests, all.2);
      };
      some = grind (arith, nat_tests, all.3);
      few = grind (arith, nat_tests, all.4);
    }

-- what isn't refused
record Fine (job together over : Bool) (fault : Option CutFault) : Type 0 where
  pub is_job : job ≡ true
  pub faultless : fault ≡ None
  pub content : together ≡ true
  pub apart : over ≡ false

fine : (job : Bool) (fault : Option CutFault) (many together over : Bool)
    → (if job then fault_refusal fault (if many then Some long_job
    else (if together then (if over then Some bad_area else None) else Some range))
    else Some range) ≡ None
    → Fine job together over fault
fine false fault many together over none = absurd cc
fine true (Some e) many together over none = absurd cc
fine true None true together over none = absurd cc
fine true None false false over none = absurd cc
fine true None false true true none = absurd cc
fine true None false true false none =
    record { is_job = refl; faultless = refl; content = refl; apart = refl }

-- what is known of a job of loads that isn't refused
record IsSound (j : LptJob) (places : List LptPlace) (content : List ℕ) : Type 0 where
  pub ranges : InRanges j
  pub faultless : places_fault (map place_of places) ≡ None
  pub together : have_together places (length content) ≡ true
  pub apart : AreApart places

sound : (j : LptJob) (places : List LptPlace) (content : List ℕ)
    → j.kind ≡ 1
    → (if is_job j then fault_refusal (places_fault (map place_of places))
    (many_refusal (kind_from j.kind) (each_of (kind_from j.kind) j.part_size) places content)
    else Some range) ≡ None
    → IsSound j places content
sound j places content loads unrefused =
    let by_kind = subst (λ (n : ℕ).
    (if nat_le 1 n && nat_le n 3 && numbers_fit (kind_from n) j
    then fault_refusal (places_fault (map place_of places))
    (many_refusal (kind_from n) (each_of (kind_from n) j.part_size) places content)
    else Some range) ≡ None) loads unrefused in
    let is = fine (nat_le 1 1 && nat_le 1 3 && numbers_fit (kind_from 1) j)
    (places_fault (map place_of places)) (nat_lt most (how_many j.part_size places))
    (have_together places (length content)) (some_overlap places) by_kind in
    record {
      ranges = in-ranges j is.is_job;
      faultless = is.faultless;
      together = is.content;
      apart = none-overlap places is.apart;
    }

-- ---- octets that agree

-- wherever one of the places has an octet for a place of the image, it is the image's
abbrev AllAgree : List LptPlace → (content : List ℕ) → Image → Type 0
AllAgree places content x =
    (i : ℕ) (q : LptPlace)
    → slice_get places i ≡ Some q
    → Agrees x (area_at places content i q)

-- an image's own area agrees with it
own-agrees : (memory : ℕ) (a : Area) → Agrees (image_of memory a) a
own-agrees memory a i within covers =
    let same : a.address + i - a.address ≡ i = omega arith in
    ap (λ (n : ℕ). get_or a.octets n 0) same

-- places that are apart agree
apart-agree : (j : LptJob) (places : List LptPlace) (content : List ℕ) (k : ℕ) (p : LptPlace)
    → have_together places (length content) ≡ true
    → AreApart places
    → slice_get places k ≡ Some p
    → AllAgree places content (image_at j places content k p)
apart-agree j places content k p together apart there i q at =
    elim (cases_eq i k) [
      | inl same ↦
          (let moved : slice_get places k ≡ Some q
          = ap (slice_get places) (sym same) ∙ at in
          let one : p ≡ q = cc in
          let is : area_at places content k p ≡ area_at places content i q =
          ap (λ (z : LptPlace). area_at places content k z) one
          ∙ ap (λ (n : ℕ). area_at places content n q) (sym same) in
          subst (Agrees (image_of j.memory (area_at places content k p))) is
          (own-agrees j.memory (area_at places content k p)))
      | inr other ↦
          (let mine = whole places content k p (area_at places content k p) together there
          (area-of-place places content k p there) in
          let its = whole places content i q (area_at places content i q) together at
          (area-of-place places content i q at) in
          λ n within covers. absurd (
          elim (apart i k q p at there other) [
            | inl before ↦ omega (arith, before, mine, its, within, covers.from, covers.to)
            | inr behind ↦ omega (arith, behind, mine, its, within, covers.from, covers.to)
          ]))
    ]

-- ---- the law

-- a pass that says so is done
done-by : (s : Step) → step_word s ≡ 3 → s ≡ Stop Done
done-by (Put k) is = absurd cc
done-by Listen is = absurd cc
done-by (Stop Done) is = refl
done-by (Stop Failed) is = absurd cc
done-by (Stop Given) is = absurd cc
done-by (Stop Ended) is = absurd cc

pub completed-places : CallsCarryAPass → DoneLeavesTheImage → CompletedLeavesTheContent
completed-places carry image c first xs j places content place k p config can job done there alone =
    let made : IsNew j places content done.new = done.made in
    let is : IsSound j places content = sound j places content job.loads made.unrefused in
    let agree : AllAgree places content (image_at j places content k p) =
    apart-agree j places content k p is.together is.apart there in
    let loads : AreLoads j.part_size j.memory (areas_of places content) made.requests =
    subst (λ (n : ℕ). AreOf (kind_from n) (each_of (kind_from n) j.part_size) j.memory places
    content made.requests) job.loads made.are in
    let areas = areas_of places content in
    let a = area_at places content k p in
    let x : Image = image_of j.memory a in
    let at_k = area-of-place places content k p there in
    let long = whole places content k p a is.together there at_k in
    let size = length job.before in
    let faults = else-none (length (map place_of places) == 0) Empty
    (place_faults (map place_of places)) is.faultless in
    let fits = λ (n : ℕ) (b : Area) (at : slice_get areas n ≡ Some b).
    (let of = place-of-area places content n b at in
    let len = whole places content n of.place b is.together of.is_there at in
    area-fits places content n of.place b size of.is len
    (places-fit places n of.place faults of.is_there)
    (all-at (λ (q : LptPlace). q.address + q.len ≤ size) places job.fit n of.place of.is_there)) in
    let suit : (n : ℕ) (b : Area) → slice_get areas n ≡ Some b → AreaSuits x j.memory size b =
    λ n b at.
    (let of = place-of-area places content n b at in
    record {
      within = (fits n b at).1;
      agrees = λ same. subst (Agrees x) (sym of.is) (agree n of.place of.is_there);
    }) in
    let pieces = map (image_of j.memory) loads.pieces in
    let asked = requests_planned j.apid j.source j.count j.flags made.requests in
    let all = planned-load j.apid j.source j.count j.flags j.memory made.requests loads.pieces
    is.ranges.head (omega (arith, job.source_fits))
    (pieces-short j.part_size areas loads.pieces is.ranges.some (omega (arith, is.ranges.few))
    (λ n b at. (fits n b at).0) loads.cut)
    loads.ask in
    let came = carry done.answers done.new done.end done.goes in
    let begins : state_of done.new.pass ≡ pass_begun (terms_of j) asked = made.state in
    let ended : next_step (come_to (terms_of j) (pass_begun (terms_of j) asked) done.answers)
    ≡ Stop Done
    = ap next_step (ap (λ (s : PassState). come_to (terms_of j) s done.answers) (sym begins)
    ∙ ap (λ (t : Terms). come_to t (state_of done.new.pass) done.answers) (sym made.terms)
    ∙ sym came.0) ∙ done-by (next_step (state_of done.end.pass)) done.says in (
      long,
      done-leaves image c first xs x job.before (terms_of j) pieces asked done.answers place config
          can job.is_known (fits k a at_k).1 job.of_apid
          (subst (λ (n : ℕ). AllLoad n pieces asked) job.of_apid all)
          (pieces-suit (sizes_of first) x j.part_size j.memory size areas loads.pieces
          (size-known j.memory job.before first job.is_known) suit loads.cut)
          (λ i within. pieces-reach j.part_size j.memory areas loads.pieces k a i loads.cut at_k
          within)
          (subst (λ (s : PassState). AreAlone c first (came_to c first xs).ends.log x j.source place
          (messages_of s.asked)) begins alone)
          done.put_out ended,
    )

-- a job of loads that has a pass has places that are apart
pub loads-apart : LoadsAreApart
loads-apart j places content g loads made =
    let is : IsSound j places content = sound j places content loads made.unrefused in
    is.apart
