-- Texts put into a buffer one behind the other, and what requests mean.
use Rattle.std.proofs.Common.{◌≡◌, ◌∙◌, ap, sym, refl, ℕ, ◌+◌, ◌*◌, ◌<◌, ◌≤◌, ◌==◌, ◌||◌, nat_lt, nat_le, Bool, true, false, if◌then◌else◌, List, [], ◌∷◌, ◌++◌, length, map, take, drop, get_or, Option, None, Ok, Err, append-nil, append_assoc, arith}
use Rattle.std.proofs.Math.Seq.{drop-append-add, take-append_seam}
use Rattle.std.specs.List.{flat_map, AllByRecursion}
use Rattle.std.proofs.lemmas.Bool.{le-ltb}
use Rattle.std.proofs.lemmas.Bool.Decides.{nat_tests}
use Rattle.std.proofs.lemmas.Grind.{common_steps}
use Rattle.std.proofs.lemmas.List.{at_drop_more, drop-drop, length-append, length-map, length-take-le, take-append-drop}
use Rattle.std.proofs.lemmas.List.Concat.{flat_map-cons}
use Rattle.lpt_pus.specs.declared.failure_code.FailureCode.{FailureCode}
use Rattle.lpt_pus.specs.declared.failure_code.FailureCode.TheVariants.{ReplyTooLong}
use Rattle.lpt_memory.specs.declared.request.AreaRange.{AreaRange}
use Rattle.lpt_memory.specs.Memories.{put_at}
use Rattle.lpt_memory.specs.Meanings.{Fault, Dump, Check, range_fault, dump_length, unless, dump_meaning, check_meaning, body_meaning}
use Rattle.lpt_memory.specs.Ranges.{RangesFit}
use Rattle.lpt_memory.specs.Requests.{Request, front_range, request_in}
use Rattle.lpt_memory.specs.Spellings.{body_text, range_text, AreAreas, RangeFits}
use Rattle.lpt_memory.proofs.BodyLemmas.{body_again, range_again}
use Rattle.lpt_memory.proofs.BodyMeanings.{if_formed-known}
use Rattle.lpt_memory.proofs.PutLemmas.{length-put_at}
use Rattle.lpt_c.specs.declared.requests.LptRange.{LptRange}
use Rattle.lpt_c.specs.Buffers.{BufferText, code_for, left_by, needed_by}
use Rattle.lpt_c.specs.Codes.{bad_area}
use Rattle.lpt_c.specs.Requests.{any_empty, are_unfit, range_of, ranges_body, ranges_text, IsInRange, MeansCheck, MeansDump}

-- ---- octets put behind others

pub put_none : (out : List ℕ) (at : ℕ) → put_at out at [] ≡ out
put_none out at =
    let none : at + 0 ≡ at = omega arith in
    ap (λ (o : List ℕ). o ++ drop (at + 0) out) (append-nil (take at out))
    ∙ ap (λ (k : ℕ). take at out ++ drop k out) none
    ∙ take-append-drop at out

-- octets put behind others that were put: both as one
pub put_behind : (c a b : List ℕ) (at : ℕ)
    → at + (length a + length b) ≤ length c
    → put_at (put_at c at a) (at + length a) b ≡ put_at c at (a ++ b)
put_behind c a b at h =
    let front = take at c ++ a in
    let size : length front ≡ at + length a
    = length-append (take at c) a ∙ ap (λ (n : ℕ). n + length a)
    (length-take-le at c (omega arith)) in
    let back = drop (at + length a) c in
    let taken : take (at + length a) (front ++ back) ≡ front
    = ap (λ (n : ℕ). take n (front ++ back)) (sym size) ∙ take-append_seam front back in
    let dropped : drop (at + length a + length b) (front ++ back) ≡ drop (length b) back
    = ap (λ (n : ℕ). drop (n + length b) (front ++ back)) (sym size)
    ∙ drop-append-add front back (length b) in
    let rest : drop (length b) back ≡ drop (at + length (a ++ b)) c
    = drop-drop (length b) (at + length a) c
    ∙ ap (λ (n : ℕ). drop n c) (let n : at + length a + length b ≡ at + length (a ++ b)
    = omega (arith, length-append a b) in n) in
    ap (λ (o : List ℕ). (o ++ b) ++ drop (at + length a + length b) (front ++ back)) taken
    ∙ ap (λ (o : List ℕ). (front ++ b) ++ o) (dropped ∙ rest)
    ∙ ap (λ (o : List ℕ). o ++ drop (at + length (a ++ b)) c) (append_assoc (take at c) a b)

-- ---- the step of a loop that puts texts

-- the texts of what is left of a list are the next one and the others
text_more : {A B : Type 0} (text : B → List ℕ) (f : A → B) (xs : List A) (i : ℕ) (d : A)
    → i < length xs
    → flat_map text (map f (drop i xs))
    ≡ text (f (get_or xs i d)) ++ flat_map text (map f (drop (i + 1) xs))
text_more {A} text f xs i d within =
    at_drop_more (λ (ys : List A). flat_map text (map f ys)) xs i d within
    ∙ flat_map-cons text (f (get_or xs i d)) (map f (drop (i + 1) xs))

-- the next one has room
pub room_here : {A B : Type 0} (text : B → List ℕ) (f : A → B) (out : List ℕ) (at : ℕ)
    (xs : List A) (i : ℕ) (d : A)
    → i < length xs
    → at + length (flat_map text (map f (drop i xs))) ≤ length out
    → at + length (text (f (get_or xs i d))) ≤ length out
room_here text f out at xs i d within room =
    let one = text (f (get_or xs i d)) in
    let others = flat_map text (map f (drop (i + 1) xs)) in
    omega (
      arith,
      room,
      ap (λ (t : List ℕ). length t) (text_more text f xs i d within),
      length-append one others,
    )

-- what is left has room behind it
pub room_next : {A B : Type 0} (text : B → List ℕ) (f : A → B) (out new : List ℕ) (at after : ℕ)
    (xs : List A) (i : ℕ) (d : A)
    → i < length xs
    → new ≡ put_at out at (text (f (get_or xs i d)))
    → after ≡ at + length (text (f (get_or xs i d)))
    → at + length (flat_map text (map f (drop i xs))) ≤ length out
    → after + length (flat_map text (map f (drop (i + 1) xs))) ≤ length new
room_next text f out new at after xs i d within is behind room =
    let one = text (f (get_or xs i d)) in
    let others = flat_map text (map f (drop (i + 1) xs)) in
    omega (
      arith,
      room,
      behind,
      ap (λ (t : List ℕ). length t) (text_more text f xs i d within),
      length-append one others,
      ap (λ (t : List ℕ). length t) is,
      length-put_at out at one (room_here text f out at xs i d within room),
    )

-- what is left, put behind it, is all that was to be put
pub put_next : {A B : Type 0} (text : B → List ℕ) (f : A → B) (out new whole : List ℕ)
    (at after : ℕ)
    (xs : List A) (i : ℕ) (d : A)
    → i < length xs
    → new ≡ put_at out at (text (f (get_or xs i d)))
    → after ≡ at + length (text (f (get_or xs i d)))
    → at + length (flat_map text (map f (drop i xs))) ≤ length out
    → put_at out at (flat_map text (map f (drop i xs))) ≡ whole
    → put_at new after (flat_map text (map f (drop (i + 1) xs))) ≡ whole
put_next text f out new whole at after xs i d within is behind room left =
    let one = text (f (get_or xs i d)) in
    let others = flat_map text (map f (drop (i + 1) xs)) in
    let more = text_more text f xs i d within in
    let fit : at + (length one + length others) ≤ length out
    = omega (arith, room, ap (λ (t : List ℕ). length t) more, length-append one others) in
    ap (λ (o : List ℕ). put_at o after others) is
    ∙ ap (λ (n : ℕ). put_at (put_at out at one) n others) behind
    ∙ put_behind out one others at fit
    ∙ sym (ap (put_at out at) more)
    ∙ left

-- ---- places

pub length_ranges : (ranges : List AreaRange)
    → length (flat_map range_text ranges) ≡ 6 * length ranges
length_ranges [] = refl
length_ranges (r ∷ rest) =
    ap (λ (t : List ℕ). length t) (flat_map-cons range_text r rest)
    ∙ omega (arith, length-append (range_text r) (flat_map range_text rest), length_ranges rest)

-- a body of a head and places, put at the front of a buffer
pub put_body : (out before after head text : List ℕ) (n : ℕ)
    → length head ≡ 2
    → before ≡ put_at out 0 head
    → after ≡ put_at before 2 text
    → n ≡ 2 + length text
    → n ≤ length out
    → after ≡ (head ++ text) ++ drop n out
put_body out before after head text n two first second size fit =
    let front : 2 ≡ 0 + length head = omega (arith, two) in
    let whole : 0 + length (head ++ text) ≡ n = omega (arith, two, size, length-append head text) in
    second
    ∙ ap (λ (o : List ℕ). put_at o 2 text) first
    ∙ ap (λ (k : ℕ). put_at (put_at out 0 head) k text) front
    ∙ put_behind out head text 0 (omega (arith, two, size, fit))
    ∙ ap (λ (k : ℕ). (head ++ text) ++ drop k out) whole

-- the body has two octets besides its places, and each of these six
pub length_body : (memory : ℕ) (ranges : List LptRange)
    → length (ranges_body memory ranges) ≡ 2 + 6 * length ranges
length_body memory ranges =
    omega (arith, length_ranges (map range_of ranges), length-map ranges range_of)

no_fault : (none many empty : Bool)
    → (none || many || empty) ≡ false
    → (none ≡ false) × (many ≡ false) × (empty ≡ false)
no_fault true many empty h = absurd cc
no_fault false true empty h = absurd cc
no_fault false false true h = absurd cc
no_fault false false false h = (refl, refl, refl)

-- what can be asked for: some places, not too many, and none without octets
pub record AreFit (ranges : List LptRange) : Type 0 where
  pub some : 0 < length ranges
  pub few : length ranges ≤ 255
  pub full : any_empty ranges ≡ false

pub are_fit : (ranges : List LptRange) → are_unfit ranges ≡ false → AreFit ranges
are_fit ranges h =
    let no = no_fault (length ranges == 0) (nat_lt 255 (length ranges)) (any_empty ranges) h in
    let none : (length ranges == 0) ≡ false = no.0 in
    let many : nat_lt 255 (length ranges) ≡ false = no.1 in
    record { some = grind (arith, nat_tests); few = grind (arith, nat_tests); full = no.2 }

-- what is to be written of them
pub text_known : (memory : ℕ) (ranges : List LptRange)
    → are_unfit ranges ≡ false
    → Ok (ranges_body memory ranges) ≡ ranges_text memory ranges
text_known memory ranges fit =
    sym (ap (λ (b : Bool). if b then Err bad_area else Ok (ranges_body memory ranges)) fit)

-- places that are in their ranges, none of them without octets, have a spelling
pub ranges_spelled : (ranges : List LptRange)
    → any_empty ranges ≡ false
    → AllByRecursion IsInRange ranges
    → AllByRecursion RangeFits (map range_of ranges)
ranges_spelled [] some fits = tt
ranges_spelled (r ∷ rest) some fits =
    let none : (r.len == 0) ≡ false = grind (arith, common_steps, nat_tests) in
    let others : any_empty rest ≡ false = grind (arith, common_steps, nat_tests) in
    let above : 0 < r.len = grind (arith, nat_tests) in
    (record { address = fits.0.0; some = above; len = fits.0.1 }, ranges_spelled rest others fits.1)

-- ---- what a writer leaves

-- of a text that has no room
pub record LeftWithoutRoom (text : BufferText) (n : ℕ) (old : List ℕ) (needed : ℕ) : Type 0 where
  pub code : 103 ≡ code_for text old
  pub buffer : old ≡ left_by text old
  pub needed_is : n ≡ needed_by text needed

pub without_room : (text : BufferText) (body old : List ℕ) (n needed : ℕ)
    → Ok body ≡ text
    → n ≡ length body
    → length old < n
    → LeftWithoutRoom text n old needed
without_room text body old n needed is size short =
    let no : nat_le (length body) (length old) ≡ false = grind (arith, nat_tests) in
    record {
      code = sym (ap (λ (b : Bool). if b then 0 else 103) no)
          ∙ ap (λ (t : BufferText). code_for t old) is;
      buffer =
          sym (ap (λ (b : Bool). if b then body ++ drop (length body) old else old) no)
          ∙ ap (λ (t : BufferText). left_by t old) is;
      needed_is = size ∙ ap (λ (t : BufferText). needed_by t needed) is;
    }

-- of a text that has room
pub record LeftWithRoom (text : BufferText) (n : ℕ) (old new : List ℕ) (needed : ℕ) : Type 0 where
  pub code : 0 ≡ code_for text old
  pub buffer : new ≡ left_by text old
  pub needed_is : n ≡ needed_by text needed

pub with_room : (text : BufferText) (body old new : List ℕ) (n needed : ℕ)
    → Ok body ≡ text
    → n ≡ length body
    → n ≤ length old
    → new ≡ body ++ drop n old
    → LeftWithRoom text n old new needed
with_room text body old new n needed is size fit written =
    let yes : nat_le (length body) (length old) ≡ true = grind (arith, nat_tests) in
    record {
      code = sym (ap (λ (b : Bool). if b then 0 else 103) yes)
          ∙ ap (λ (t : BufferText). code_for t old) is;
      buffer =
          written
          ∙ ap (λ (k : ℕ). body ++ drop k old) size
          ∙ sym (ap (λ (b : Bool). if b then body ++ drop (length body) old else old) yes)
          ∙ ap (λ (t : BufferText). left_by t old) is;
      needed_is = size ∙ ap (λ (t : BufferText). needed_by t needed) is;
    }

-- ---- what requests mean

fault_none : (size : ℕ) (ranges : List AreaRange)
    → RangesFit size ranges
    → range_fault size ranges ≡ None
fault_none size [] fit = refl
fault_none size (r ∷ rest) fit =
    let within : nat_lt size (r.address + r.len) ≡ false = le-ltb _ _ fit.0 in
    rw within (fault_none size rest fit.1)

-- the body of a dump means it
pub dump_meant : (memory : ℕ) (ranges : List AreaRange)
    → AreAreas RangeFits ranges
    → MeansDump (body_text range_text memory ranges) memory ranges
unfolding body_meaning
dump_meant memory ranges fits sizes size known fit short =
    let r : Request AreaRange = record { memory = memory; areas = ranges } in
    let within : nat_lt 65542 (dump_length ranges) ≡ false = le-ltb _ _ short in
    if_formed-known dump_meaning sizes
    (request_in front_range (body_text range_text memory ranges)) r size
    (body_again front_range range_text RangeFits range_again memory ranges fits) known
    ∙ ap (λ (f : Option FailureCode). unless f
    (if nat_lt 65542 (dump_length ranges) then Fault ReplyTooLong else Dump memory ranges))
    (fault_none size ranges fit)
    ∙ ap (λ (long : Bool). if long then Fault ReplyTooLong else Dump memory ranges) within

-- the body of a check means it
pub check_meant : (memory : ℕ) (ranges : List AreaRange)
    → AreAreas RangeFits ranges
    → MeansCheck (body_text range_text memory ranges) memory ranges
unfolding body_meaning
check_meant memory ranges fits sizes size known fit =
    let r : Request AreaRange = record { memory = memory; areas = ranges } in
    if_formed-known check_meaning sizes
    (request_in front_range (body_text range_text memory ranges)) r size
    (body_again front_range range_text RangeFits range_again memory ranges fits) known
    ∙ ap (λ (f : Option FailureCode). unless f (Check memory ranges)) (fault_none size ranges fit)
