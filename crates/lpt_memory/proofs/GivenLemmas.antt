-- The answer by the octets that a message reads.
use Rattle.std.proofs.Common.{◌≡◌, ◌∙◌, ap, sym, subst, refl, ℕ, zero, suc, ◌+◌, ◌*◌, ◌<◌, ◌≤◌, ◌==◌, Bool, true, false, if◌then◌else◌, List, [], ◌∷◌, ◌++◌, length, take, drop, map, sum_by, get_or, Option, Some, None, IfSome, arith}
use Rattle.std.specs.Prelude.{slice_get, option_map, Result, Ok, Err, IfOk}
use Rattle.std.specs.List.{flat_map}
use Rattle.std.proofs.Math.Seq.{take-append_seam, drop-append_seam}
use Rattle.std.proofs.lemmas.List.{length-append, length-take, length-drop}
use Rattle.std.proofs.lemmas.List.Concat.{flat_map-cons}
use Rattle.std.proofs.lemmas.List.Folds.{flat_map-map}
use Rattle.std.proofs.lemmas.List.Sums.{sum_by-cons}
use Rattle.lpt_packet.specs.Checksums.{checksum}
use Rattle.lpt_packet.specs.Numbers.{be}
use Rattle.lpt_memory.specs.declared.effect.Effect.{Effect}
use Rattle.lpt_memory.specs.declared.effect.Effect.TheVariants as effects
use Rattle.lpt_memory.specs.declared.given.Access.{Access}
use Rattle.lpt_memory.specs.declared.reply_kind.ReplyKind.{ReplyKind}
use Rattle.lpt_memory.specs.declared.reply_kind.ReplyKind.TheVariants as kinds
use Rattle.lpt_memory.specs.declared.request.Area.{Area}
use Rattle.lpt_memory.specs.declared.request.AreaRange.{AreaRange}
use Rattle.lpt_memory.specs.declared.request.Plan.{Plan}
use Rattle.lpt_memory.specs.declared.request.Plan.TheVariants as plans
use Rattle.lpt_memory.specs.declared.request.StoredArea.{StoredArea}
use Rattle.lpt_memory.specs.Effects.{octets_in, octets_of, answer, AnswerFits, reply_length, length_replied}
use Rattle.lpt_memory.specs.Given.{accesses, all_length, answer_of, area_of, areas_of, octets_read, put_each, read_by, read_length, read_of, reply_of, write_of, octets_written}
use Rattle.lpt_memory.specs.Meanings.{Meaning, Silent, Fault, Load, Dump, Check, Sizes}
use Rattle.lpt_memory.specs.Memories.{Contents, sizes_of, put_all, memories_loaded, effect}
use Rattle.lpt_memory.specs.Ranges.{RangesFit, MeaningFits}
use Rattle.lpt_memory.specs.Readings.{Source, source_meaning}
use Rattle.lpt_memory.specs.Seen.{plan_meaning, octets_at, areas_in, AreWithin}
use Rattle.lpt_memory.proofs.MeaningLemmas.{meaning-fits}
use Rattle.lpt_memory.proofs.MemoriesLemmas.{RangesFit-octets_of}

-- ---- areas that are read

-- a memory has as many octets in a range as that says
pub length-octets_in : (content : List ℕ) (r : AreaRange)
    → r.address + r.len ≤ length content
    → length (octets_in content r) ≡ r.len
length-octets_in content r fit =
    omega (arith, length-take r.len (drop r.address content), length-drop r.address content)

-- the areas by the octets that a memory has there are those by the memory
areas_of-held : (kind : ReplyKind) (content : List ℕ) (ranges : List AreaRange)
    → RangesFit (length content) ranges
    → areas_of kind ranges (flat_map (octets_in content) ranges)
    ≡ flat_map (λ r. area_of kind r (octets_in content r)) ranges
areas_of-held kind content [] fit = refl
areas_of-held kind content (r ∷ rest) fit =
    let here = octets_in content r in
    let behind = flat_map (octets_in content) rest in
    let long : r.len ≡ length here = sym (length-octets_in content r fit.0) in
    let front : take r.len (here ++ behind) ≡ here =
    ap (λ (n : ℕ). take n (here ++ behind)) long ∙ take-append_seam here behind in
    let others : drop r.len (here ++ behind) ≡ behind =
    ap (λ (n : ℕ). drop n (here ++ behind)) long ∙ drop-append_seam here behind in
    ap (λ (o : List ℕ). areas_of kind (r ∷ rest) o) (flat_map-cons (octets_in content) r rest)
    ∙ (λ i. area_of kind r (front i) ++ areas_of kind rest (others i))
    ∙ ap (λ (o : List ℕ). area_of kind r here ++ o) (areas_of-held kind content rest fit.1)
    ∙ sym (flat_map-cons (λ (x : AreaRange). area_of kind x (octets_in content x)) r rest)

-- what is read in ranges of a memory
read-ranges : (id : ℕ) (ranges : List AreaRange) (ms : Contents)
    → flat_map (read_by ms) (map (read_of id) ranges)
    ≡ flat_map (octets_in (octets_of id ms)) ranges
read-ranges id ranges ms = flat_map-map (read_by ms) (read_of id) ranges

-- the answer by the octets that memories have there is the one by these memories
pub answer_of-held : (m : Meaning) (ms : Contents)
    → MeaningFits (sizes_of ms) m
    → answer_of m (octets_read m ms) ≡ answer m ms
answer_of-held Silent ms fits = refl
answer_of-held (Fault code) ms fits = refl
answer_of-held (Load id areas) ms fits = refl
answer_of-held (Dump id ranges) ms fits =
    ap (λ (o : List ℕ). effects.Reply kinds.Dump (id ∷ length ranges ∷ o))
    (ap (areas_of kinds.Dump ranges) (read-ranges id ranges ms)
    ∙ areas_of-held kinds.Dump (octets_of id ms) ranges (RangesFit-octets_of id ranges ms fits.0))
answer_of-held (Check id ranges) ms fits =
    ap (λ (o : List ℕ). effects.Reply kinds.Check (id ∷ length ranges ∷ o))
    (ap (areas_of kinds.Check ranges) (read-ranges id ranges ms)
    ∙ areas_of-held kinds.Check (octets_of id ms) ranges (RangesFit-octets_of id ranges ms fits))

-- ---- lengths

length-dumped : (ranges : List AreaRange) (octets : List ℕ)
    → length octets ≡ all_length ranges
    → length (areas_of kinds.Dump ranges octets) ≡ sum_by (λ r. 8 + r.len) ranges
length-dumped [] octets whole = refl
length-dumped (r ∷ rest) octets whole =
    let here = take r.len octets in
    let behind = drop r.len octets in
    let sum = sum_by-cons (λ (x : AreaRange). x.len) r rest in
    let left : length behind ≡ all_length rest = omega (arith, length-drop r.len octets, sum) in
    omega (
      arith,
      sum,
      length-take r.len octets,
      length-append (be r.address 4 ++ be r.len 2 ++ here) (be (checksum here) 2),
      length-append (be r.address 4 ++ be r.len 2) here,
      length-append (area_of kinds.Dump r here) (areas_of kinds.Dump rest behind),
      length-dumped rest behind left,
      sum_by-cons (λ (x : AreaRange). 8 + x.len) r rest,
    )

length-checked : (ranges : List AreaRange) (octets : List ℕ)
    → length (areas_of kinds.Check ranges octets) ≡ 8 * length ranges
length-checked [] octets = refl
length-checked (r ∷ rest) octets =
    let behind = drop r.len octets in
    omega (
      arith,
      length-append (area_of kinds.Check r (take r.len octets)) (areas_of kinds.Check rest behind),
      length-checked rest behind,
    )

-- the reply is as long as the message's meaning says
pub replied-given : (m : Meaning) (octets : List ℕ)
    → length octets ≡ read_length m
    → length_replied (answer_of m octets) ≡ reply_length m
replied-given Silent octets whole = refl
replied-given (Fault code) octets whole = refl
replied-given (Load id areas) octets whole = refl
replied-given (Dump id ranges) octets whole =
    ap (λ n. Some n) (omega (arith, length-dumped ranges octets whole))
replied-given (Check id ranges) octets whole =
    ap (λ n. Some n) (omega (arith, length-checked ranges octets))

-- an answer whose reply is short fits a packet
short-fits : (m : Meaning) (octets : List ℕ) (sizes : Sizes)
    → MeaningFits sizes m
    → IfSome (length_replied (answer_of m octets)) (λ n. n ≤ 65523)
    → AnswerFits (answer_of m octets)
short-fits Silent octets sizes fits short = tt
short-fits (Fault code) octets sizes fits short = fits
short-fits (Load id areas) octets sizes fits short = tt
short-fits (Dump id ranges) octets sizes fits short = short
short-fits (Check id ranges) octets sizes fits short = short

-- the same, where a reply of the length that the meaning says is short
pub given-fits : (m : Meaning) (octets : List ℕ) (sizes : Sizes)
    → MeaningFits sizes m
    → IfSome (reply_length m) (λ n. n ≤ 65523)
    → length octets ≡ read_length m
    → AnswerFits (answer_of m octets)
given-fits m octets sizes fits short whole =
    short-fits m octets sizes fits
    (subst (λ (o : Option ℕ). IfSome o (λ n. n ≤ 65523)) (sym (replied-given m octets whole)) short)

-- ---- what is read, whatever the body is

pub read_length-any : (p : Plan) (a b : List ℕ) → read_length (plan_meaning a p)
    ≡ read_length (plan_meaning b p)
read_length-any plans.Silent a b = refl
read_length-any (plans.Code code) a b = refl
read_length-any (plans.Load id areas) a b = refl
read_length-any (plans.Dump id ranges) a b = refl
read_length-any (plans.Check id ranges) a b = refl

-- ---- areas that are written

-- an area has as many octets as it says
length-octets_at : (body : List ℕ) (a : StoredArea)
    → a.from + a.len ≤ length body
    → length (octets_at body a) ≡ a.len
length-octets_at body a within =
    omega (arith, length-take a.len (drop a.from body), length-drop a.from body)

-- the area as an access
abbrev pub access_of : ℕ → StoredArea → Access
access_of id a = record { memory = id; is_write = true; address = a.address; len = a.len }

-- the area of a number is an access of the load
pub write-at : (id : ℕ) (body : List ℕ) (areas : List StoredArea) (number : ℕ)
    → AreWithin (length body) areas
    → option_map (access_of id) (slice_get areas number)
    ≡ slice_get (map (write_of id) (areas_in body areas)) number
write-at id body [] number within = refl
write-at id body (a ∷ rest) zero within =
    ap (λ n. Some (record { memory = id; is_write = true; address = a.address; len = n }))
    (sym (length-octets_at body a within.0))
write-at id body (a ∷ rest) (suc number) within = write-at id body rest number within.1

-- where there is none, the load has no such access
pub write_past : (id : ℕ) (body : List ℕ) (areas : List StoredArea) (number : ℕ)
    → length areas ≤ number
    → None ≡ slice_get (map (write_of id) (areas_in body areas)) number
write_past id body [] number past = refl
write_past id body (a ∷ rest) zero past = absurd (omega arith)
write_past id body (a ∷ rest) (suc number) past = write_past id body rest number (omega arith)

-- its octets are those that the load writes there
pub octets-at : (body : List ℕ) (areas : List StoredArea) (number : ℕ)
    → option_map (octets_at body) (slice_get areas number)
    ≡ slice_get (map (λ (a : Area). a.octets) (areas_in body areas)) number
octets-at body [] number = refl
octets-at body (a ∷ rest) zero = refl
octets-at body (a ∷ rest) (suc number) = octets-at body rest number

-- where there is no area, nothing is written
pub octets_past : (body : List ℕ) (areas : List StoredArea) (number : ℕ)
    → length areas ≤ number
    → None ≡ slice_get (map (λ (a : Area). a.octets) (areas_in body areas)) number
octets_past body [] number past = refl
octets_past body (a ∷ rest) zero past = absurd (omega arith)
octets_past body (a ∷ rest) (suc number) past = octets_past body rest number (omega arith)

-- they lie within the body
pub within-at : (len : ℕ) (areas : List StoredArea) (number : ℕ) (d : StoredArea)
    → number < length areas
    → AreWithin len areas
    → (get_or areas number d).from + (get_or areas number d).len ≤ len
within-at len [] number d there within = absurd (omega arith)
within-at len (x ∷ rest) zero d there within = within.0
within-at len (x ∷ rest) (suc number) d there within =
    within-at len rest number d (omega arith) within.1

-- ---- what is written is what a message makes of the memories

-- a load of several areas is one of the first, and then of the others
loaded-cons : (id : ℕ) (a : Area) (areas : List Area) (ms : Contents)
    → memories_loaded id areas (memories_loaded id (a ∷ []) ms) ≡ memories_loaded id (a ∷ areas) ms
loaded-cons id a areas [] = refl
loaded-cons id a areas (m ∷ ms) = go (loaded-cons id a areas ms) (m.0 == id) refl where
  go : memories_loaded id areas (memories_loaded id (a ∷ []) ms) ≡ memories_loaded id (a ∷ areas) ms
      → (b : Bool)
      → (m.0 == id) ≡ b
      → memories_loaded id areas
      (if b then (m.0, put_all m.1 (a ∷ [])) ∷ ms else m ∷ memories_loaded id (a ∷ []) ms)
      ≡ (if b then (m.0, put_all m.1 (a ∷ areas)) ∷ ms else m ∷ memories_loaded id (a ∷ areas) ms)
  go others true is = ap (λ b. if b then (m.0, put_all (put_all m.1 (a ∷ [])) areas) ∷ ms
      else (m.0, put_all m.1 (a ∷ [])) ∷ memories_loaded id areas ms) is
  go others false is = ap (λ b. if b then (m.0, put_all m.1 areas) ∷ memories_loaded id (a ∷ []) ms
      else m ∷ memories_loaded id areas (memories_loaded id (a ∷ []) ms)) is
      ∙ ap (λ (rest : Contents). m ∷ rest) others

-- a load of no areas changes nothing
loaded-none : (id : ℕ) (ms : Contents) → memories_loaded id [] ms ≡ ms
loaded-none id [] = refl
loaded-none id (m ∷ ms) = go (loaded-none id ms) (m.0 == id) where
  go : memories_loaded id [] ms ≡ ms → (b : Bool)
      → (if b then (m.0, m.1) ∷ ms else m ∷ memories_loaded id [] ms) ≡ m ∷ ms
  go others true = refl
  go others false = ap (λ (rest : Contents). m ∷ rest) others

put_areas : (id : ℕ) (areas : List Area) (ms : Contents)
    → put_each (map (write_of id) areas) (map (λ a. a.octets) areas) ms
    ≡ memories_loaded id areas ms
put_areas id [] ms = sym (loaded-none id ms)
put_areas id (a ∷ rest) ms =
    put_areas id rest (memories_loaded id (a ∷ []) ms) ∙ loaded-cons id a rest ms

put_none : (all : List Access) (ms : Contents) → put_each all [] ms ≡ ms
put_none [] ms = refl
put_none (a ∷ rest) ms = refl

-- the octets that are written, access by access, are what a message makes of the memories
pub written-effect : (m : Meaning) (ms : Contents) → put_each (accesses m) (octets_written m) ms
    ≡ effect m ms
written-effect Silent ms = refl
written-effect (Fault code) ms = refl
written-effect (Load id areas) ms = put_areas id areas ms
written-effect (Dump id ranges) ms = put_none (map (read_of id) ranges) ms
written-effect (Check id ranges) ms = put_none (map (read_of id) ranges) ms
