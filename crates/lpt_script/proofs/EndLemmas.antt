-- How the endings of events, lines and scripts follow from one another.
use Rattle.std.proofs.Common.{◌≡◌, ℕ, ◌+◌, List, [], ◌∷◌, ◌++◌, length, take, drop, Option, None, Some, is_some, Result, Ok, Err, true, false, refl, sym, ap, ◌∙◌, subst, append-nil, append_assoc, IfOk, IfErr, IfSome, slice_get, slice_index, slice_index_or, suc, ◌-◌, ◌<◌, ◌/◌, ◌%◌, take-add, arith}
use Rattle.lpt_text.proofs.StreamLemmas.{part_after, part_of_front, part_unchanged}
use Rattle.std.specs.List.{flat_map}
use Rattle.std.specs.Result.{OnOk}
use Rattle.std.proofs.lemmas.Grind.{flat_map-append}
use Rattle.std.proofs.Math.Seq.{take-suc}
use Rattle.std.proofs.lemmas.List.{take-append-drop}
use Rattle.std.proofs.KnownBytes.{Appends-trans}
use Rattle.std.specs.Io.KnownBytes.{Appends}
use Rattle.hex.specs.Hex.{encode_lower, encode_with, lower_digits}
use Rattle.std.specs.Prelude.{codes}
use Rattle.std.specs.Fmt.{decimal}
use Rattle.lpt_script_text.specs.Printing.{accepted_text, refused_text, line_of, memory_front, memory_text, octets_text, none_text}
use Rattle.lpt_text.specs.Streams.{AppendsPart}
use Rattle.lpt_text.specs.declared.fault.StreamFault.{StreamFault}
use Rattle.lpt_text.specs.declared.fault.StreamFault.TheVariants as faults
use Rattle.lpt_script.specs.Ends.{TextEnds, LineEnds, none_refused}
use Rattle.lpt_script.specs.Scripts.{Ran, text_printed, event_answered, event_stepped, stepped_as, lines_joined, unless_refused, and_then}
use Rattle.lpt_events.specs.declared.entry.Entry.{Entry}
use Rattle.lpt_events.specs.declared.event.Event.{Event}
use Rattle.lpt_events.specs.declared.fault.StepFault.{StepFault}
use Rattle.lpt_events.specs.declared.fault.StepFault.TheVariants.{Memory}
use Rattle.lpt_events.specs.declared.reply.Reply.{Reply}
use Rattle.lpt_world.specs.Worlds.{Shown, refusal_at, RefusedBy, with_entry}

-- ---- printed texts

-- what is printed without an event leaves the world as it is
pub quiet_ends : (w : Shown) (text : List ℕ) (r : Result Unit StreamFault) (a b : Option (List ℕ))
    → TextEnds text r a b
    → LineEnds (text_printed w text) (none_refused r) w a b
quiet_ends w text (Ok u) a b p = (refl, refl, refl, p)
quiet_ends w text (Err faults.Write) a b p = p
quiet_ends w text (Err faults.Memory) a b p = p
quiet_ends w text (Err faults.Read) a b p = p

-- ---- events

-- what stands last in a list
at_last : {X : Type 0} (xs : List X) (y : X) → slice_get (xs ++ y ∷ []) (length xs) ≡ Some y
at_last [] y = refl
at_last (x ∷ xs) y = at_last xs y

one_longer : {X : Type 0} (xs : List X) (y : X) → length (xs ++ y ∷ []) ≡ suc (length xs)
one_longer [] y = refl
one_longer (x ∷ xs) y = ap suc (one_longer xs y)

last_is : {X : Type 0} (xs : List X) (y : X)
    → slice_get (xs ++ y ∷ []) (length (xs ++ y ∷ []) - 1) ≡ Some y
last_is xs y =
    let long = one_longer xs y in
    let at : length (xs ++ y ∷ []) - 1 ≡ length xs = omega (arith, long) in
    subst (λ i. slice_get (xs ++ y ∷ []) i ≡ Some y) (sym at) (at_last xs y)

-- the answer of an accepted event: its entry is the last, and its line is that of its reply
pub accepted_ends : (w v : Shown) (e : Event) (reply : Reply)
    (r : Result (Option StepFault) StreamFault) (a b : Option (List ℕ))
    → refusal_at w 0 e ≡ None
    → reply ≡ event_answered w e
    → v ≡ with_entry w 0 e reply
    → IfSome (slice_get v.journal (length v.journal - 1))
    (λ x. TextEnds (accepted_text v.config.source x.event x.reply) r a b)
    → IfOk r (λ refused. refused ≡ None)
    → LineEnds (event_stepped w e) r v a b
accepted_ends w v e reply r a b free is same p was_accepted =
    subst (λ x. LineEnds (stepped_as w e x) r v a b) (sym free) (told r text was_accepted)
  where
    entry : Entry
    entry = record { seat = 0; event = e; reply = reply }

    after : Shown
    after = with_entry w 0 e reply

    of_last : IfSome (slice_get after.journal (length after.journal - 1))
        (λ x. TextEnds (accepted_text w.config.source x.event x.reply) r a b)
    of_last =
        subst (λ (u : Shown). IfSome (slice_get u.journal (length u.journal - 1))
        (λ x. TextEnds (accepted_text u.config.source x.event x.reply) r a b)) same p

    text : TextEnds (accepted_text w.config.source e (event_answered w e)) r a b
    text =
        subst (λ x. TextEnds (accepted_text w.config.source e x) r a b) is
        (subst (λ x. IfSome x (λ x. TextEnds (accepted_text w.config.source x.event x.reply) r a b))
        (last_is w.journal entry) of_last)

    told : (r : Result (Option StepFault) StreamFault)
        → TextEnds (accepted_text w.config.source e (event_answered w e)) r a b
        → IfOk r (λ refused. refused ≡ None)
        → LineEnds (stepped_as w e None) r v a b
    told (Ok f) p q = (refl, q, same ∙ ap (with_entry w 0 e) is, p)
    told (Err faults.Write) p q = p
    told (Err faults.Memory) p q = p
    told (Err faults.Read) p q = p

-- the answer of a refused event: out of memory prints nothing
pub refused_ends : (w v : Shown) (e : Event) (fault : StepFault) (r : Result (Option StepFault) StreamFault) (a b : Option (List ℕ))
    → RefusedBy (refusal_at w 0 e) fault
    → v ≡ w
    → TextEnds (refused_text fault) r a b
    → IfOk r (λ refused. refused ≡ Some fault)
    → (fault ≡ Memory → (r ≡ Err faults.Memory) × (a ≡ b))
    → LineEnds (event_stepped w e) r v a b
refused_ends w v e fault r a b by same p was_refused memory = by_reason (refusal_at w 0 e) by
  where
    told : (first : StepFault) → fault ≡ first → (r : Result (Option StepFault) StreamFault) → TextEnds (refused_text fault) r a b
        → IfOk r (λ refused. refused ≡ Some fault) → LineEnds (stepped_as w e (Some first)) r v a b
    told first is (Ok f) p q = (refl, q ∙ ap Some is, same, subst (λ x. Appends a b (refused_text x)) is p)
    told first is (Err faults.Write) p q = subst (λ x. AppendsPart a b (refused_text x)) is p
    told first is (Err faults.Memory) p q = subst (λ x. AppendsPart a b (refused_text x)) is p
    told first is (Err faults.Read) p q = p

    by_reason : (x : Option StepFault) → RefusedBy x fault → LineEnds (stepped_as w e x) r v a b
    by_reason None is =
        let ends = memory is in
        subst (λ x. LineEnds (stepped_as w e None) x v a b) (sym ends.0)
        (subst (λ x. AppendsPart a x (accepted_text w.config.source e (event_answered w e))) ends.1
        (part_unchanged a (accepted_text w.config.source e (event_answered w e))))
    by_reason (Some first) is = told first is r p was_refused

-- ---- one event after another

-- the second event, where the first was accepted
pub then_ends : (first : Ran) (second : Shown → Ran) (r : Result (Option StepFault) StreamFault) (w v : Shown) (a b c : Option (List ℕ))
    → LineEnds first (Ok None) w a b
    → LineEnds (second w) r v b c
    → LineEnds (and_then first second) r v a c
then_ends first second r w v a b c p q =
    subst (λ x. LineEnds (unless_refused x first second) r v a c) p.1
    (joined_ends r (subst (λ x. LineEnds (second x) r v b c) p.2 q))
  where
    joined_ends : (r : Result (Option StepFault) StreamFault) → LineEnds (second first.world) r v b c
        → LineEnds (lines_joined first (second first.world)) r v a c
    joined_ends (Ok f) q = (q.0, q.1, q.2, Appends-trans a b c first.text _ p.3 q.3)
    joined_ends (Err faults.Write) q = part_after a b c first.text _ p.3 q
    joined_ends (Err faults.Memory) q = part_after a b c first.text _ p.3 q
    joined_ends (Err faults.Read) q = q

-- the first event alone, where it was refused or its text could not be written
pub first_ends : (first : Ran) (v : Shown) (second : Shown → Ran) (r : Result (Option StepFault) StreamFault) (a b : Option (List ℕ))
    → first.bad ≡ None
    → LineEnds first r v a b
    → IfOk r (λ refused. is_some refused ≡ true)
    → LineEnds (and_then first second) r v a b
first_ends first v second r a b good p q = by_refused first.refused refl r p q
  where
    by_refused : (t : Option StepFault)
        → first.refused ≡ t
        → (r : Result (Option StepFault) StreamFault)
        → LineEnds first r v a b
        → IfOk r (λ refused. is_some refused ≡ true)
        → LineEnds (unless_refused t first second) r v a b
    by_refused (Some fault) is r p q = p
    by_refused None is (Ok f) p q = let never : true ≡ false = sym q ∙ ap is_some (p.1 ∙ is) in absurd cc
    by_refused None is (Err faults.Write) p q = part_of_front a b _ _ p
    by_refused None is (Err faults.Memory) p q = part_of_front a b _ _ p
    by_refused None is (Err faults.Read) p q = p

-- an event is no unreadable line
pub good_event : (w : Shown) (e : Event) → (event_stepped w e).bad ≡ None
good_event w e = go (refusal_at w 0 e) where
  go : (o : Option StepFault) → (stepped_as w e o).bad ≡ None
  go None = refl
  go (Some f) = refl

-- nor are two
pub good_events : (w : Shown) (e f : Event)
    → (and_then (event_stepped w e) (λ v. event_stepped v f)).bad ≡ None
good_events w e f = go (event_stepped w e).refused where
  go : (t : Option StepFault) → (unless_refused t (event_stepped w e) (λ v. event_stepped v f)).bad
      ≡ None
  go (Some fault) = good_event w e
  go None = good_event (event_stepped w e).world f

-- ---- a list of texts, one after another

-- the first n texts with the next are the first n + 1
front_next : {X : Type 0} (f : X → List ℕ) (xs : List X) (x : X) (n : ℕ) → n < length xs → x ≡ slice_index_or xs n x
    → flat_map f (take (n + 1) xs) ≡ flat_map f (take n xs) ++ f x
front_next f xs x n short at =
    let next : take (n + 1) xs ≡ take n xs ++ x ∷ [] =
    subst (λ k. take k xs ≡ take n xs ++ x ∷ []) (let e : suc n ≡ n + 1 = omega arith in e)
    (take-suc xs n x short ∙ ap (λ y. take n xs ++ y ∷ []) (sym at)) in
    ap (flat_map f) next ∙ flat_map-append f (take n xs) (x ∷ []) ∙ ap (λ t. flat_map f (take n xs) ++ t) (append-nil (f x))

-- the next text is written behind the first n
pub texts_next : {X : Type 0} (f : X → List ℕ) (xs : List X) (x : X) (n : ℕ) (a b c : Option (List ℕ))
    → n < length xs
    → x ≡ slice_index_or xs n x
    → Appends a b (flat_map f (take n xs))
    → Appends b c (f x)
    → Appends a c (flat_map f (take (n + 1) xs))
texts_next f xs x n a b c short at p q =
    subst (Appends a c) (sym (front_next f xs x n short at)) (Appends-trans a b c (flat_map f (take n xs)) (f x) p q)

-- a front part of the next behind the first n is a front part of all
pub texts_part : {X : Type 0} (f : X → List ℕ) (xs : List X) (x : X) (n : ℕ) (a b c : Option (List ℕ))
    → n < length xs
    → x ≡ slice_index_or xs n x
    → Appends a b (flat_map f (take n xs))
    → AppendsPart b c (f x)
    → AppendsPart a c (flat_map f xs)
texts_part f xs x n a b c short at p q =
    let rest = flat_map f (drop (n + 1) xs) in
    let whole : flat_map f (take (n + 1) xs) ++ rest ≡ flat_map f xs =
    sym (flat_map-append f (take (n + 1) xs) (drop (n + 1) xs)) ∙ ap (flat_map f) (take-append-drop (n + 1) xs) in
    let front = subst (AppendsPart a c) (sym (front_next f xs x n short at))
    (part_after a b c (flat_map f (take n xs)) (f x) p q) in
    subst (AppendsPart a c) whole (part_of_front a c (flat_map f (take (n + 1) xs)) rest front)

-- the fault of the next ends all
pub texts_end : {X : Type 0} (f : X → List ℕ) (xs : List X) (x : X) (n : ℕ) (fault : StreamFault) (a b c : Option (List ℕ))
    → n < length xs
    → x ≡ slice_index_or xs n x
    → Appends a b (flat_map f (take n xs))
    → TextEnds {A = Unit} (f x) (Err fault) b c
    → TextEnds {A = Unit} (flat_map f xs) (Err fault) a c
texts_end f xs x n faults.Write a b c short at p q = texts_part f xs x n a b c short at p q
texts_end f xs x n faults.Memory a b c short at p q = texts_part f xs x n a b c short at p q
texts_end f xs x n faults.Read a b c short at p q = q

-- ---- a text in two

-- the second text after the whole first
pub text_then : (front more : List ℕ) (r : Result Unit StreamFault) (a b c : Option (List ℕ))
    → Appends a b front
    → TextEnds more r b c
    → TextEnds (front ++ more) r a c
text_then front more (Ok done) a b c p q = Appends-trans a b c front more p q
text_then front more (Err faults.Write) a b c p q = part_after a b c front more p q
text_then front more (Err faults.Memory) a b c p q = part_after a b c front more p q
text_then front more (Err faults.Read) a b c p q = q

-- the fault of the first ends both
pub text_front : (front more : List ℕ) (fault : StreamFault) (a b : Option (List ℕ))
    → TextEnds {A = Unit} front (Err fault) a b
    → TextEnds {A = Unit} (front ++ more) (Err fault) a b
text_front front more faults.Write a b p = part_of_front a b front more p
text_front front more faults.Memory a b p = part_of_front a b front more p
text_front front more faults.Read a b p = p

-- ---- octets in hexadecimal digits, so many at a time

-- digits of octets in a row
digits_append : (xs ys : List ℕ) → encode_lower (xs ++ ys) ≡ encode_lower xs ++ encode_lower ys
unfolding encode_with
digits_append [] ys = refl
digits_append (x ∷ xs) ys =
    ap (λ t. slice_index lower_digits (x / 16) ∷ slice_index lower_digits (x % 16) ∷ t) (digits_append xs ys)

-- the digits of the next octets after those of the first
digits_next : (at n : ℕ) (octets : List ℕ)
    → encode_lower (take (at + n) octets) ≡ encode_lower (take at octets) ++ encode_lower (take n (drop at octets))
digits_next at n octets = ap encode_lower (take-add at n octets) ∙ digits_append (take at octets) _

-- the next octets are written behind the first
pub digits_more : (at n : ℕ) (octets : List ℕ) (a b c : Option (List ℕ))
    → Appends a b (encode_lower (take at octets))
    → Appends b c (encode_lower (take n (drop at octets)))
    → Appends a c (encode_lower (take (at + n) octets))
digits_more at n octets a b c p q =
    subst (Appends a c) (sym (digits_next at n octets)) (Appends-trans a b c _ _ p q)

-- a front part of the digits of the next octets is one of all
pub digits_part : (at n : ℕ) (octets : List ℕ) (a b c : Option (List ℕ))
    → Appends a b (encode_lower (take at octets))
    → AppendsPart b c (encode_lower (take n (drop at octets)))
    → AppendsPart a c (encode_lower octets)
digits_part at n octets a b c p q =
    let front = subst (AppendsPart a c) (sym (digits_next at n octets)) (part_after a b c _ _ p q) in
    let whole : encode_lower (take (at + n) octets) ++ encode_lower (drop (at + n) octets) ≡ encode_lower octets =
    sym (digits_append (take (at + n) octets) _) ∙ ap encode_lower (take-append-drop (at + n) octets) in
    subst (AppendsPart a c) whole (part_of_front a c _ (encode_lower (drop (at + n) octets)) front)

-- what was written out ends as a text does
pub written_ends : (text : List ℕ) (r : Result Unit StreamFault) (a b : Option (List ℕ))
    → OnOk r (Appends a b text)
    → IfErr r (λ e. e ≡ faults.Write)
    → IfErr r (λ e. AppendsPart a b text)
    → TextEnds text r a b
written_ends text (Ok done) a b ok fault part = ok
written_ends text (Err faults.Write) a b ok fault part = part
written_ends text (Err faults.Memory) a b ok fault part = part
written_ends text (Err faults.Read) a b ok fault part = let never : faults.Read ≡ faults.Write = fault in absurd cc

-- ---- a memory's line

-- its front and what ends it
memory_line : (id address : ℕ) (word : List ℕ)
    → memory_front id address ++ (word ++ 10 ∷ []) ≡ line_of (codes "memory" ∷ decimal id ∷ decimal address ∷ word ∷ [])
memory_line id address word =
    let end : List ℕ = word ++ 10 ∷ [] in
    append_assoc (codes "memory ") (decimal id ++ (32 ∷ (decimal address ++ (32 ∷ [])))) end
    ∙ ap (λ (t : List ℕ). codes "memory " ++ t)
    (append_assoc (decimal id) (32 ∷ (decimal address ++ (32 ∷ []))) end
    ∙ ap (λ (t : List ℕ). decimal id ++ (32 ∷ t)) (append_assoc (decimal address) (32 ∷ []) end))

-- the octets behind the front
pub memory_shown : (id address : ℕ) (m : List ℕ) (shown : Option (List ℕ)) (r : Result Unit StreamFault) (a b c : Option (List ℕ))
    → shown ≡ Some m
    → Appends a b (memory_front id address)
    → TextEnds (octets_text m ++ 10 ∷ []) r b c
    → TextEnds (memory_text id address shown) r a c
memory_shown id address m shown r a b c is p q =
    subst (λ x. TextEnds (memory_text id address x) r a c) (sym is)
    (subst (λ t. TextEnds t r a c) (memory_line id address (octets_text m))
    (text_then (memory_front id address) (octets_text m ++ 10 ∷ []) r a b c p q))

-- that there are none behind the front
pub memory_not_shown : (id address : ℕ) (shown : Option (List ℕ)) (r : Result Unit StreamFault) (a b c : Option (List ℕ))
    → shown ≡ None
    → Appends a b (memory_front id address)
    → TextEnds none_text r b c
    → TextEnds (memory_text id address shown) r a c
memory_not_shown id address shown r a b c is p q =
    subst (λ x. TextEnds (memory_text id address x) r a c) (sym is)
    (subst (λ t. TextEnds t r a c) (memory_line id address (codes "none"))
    (text_then (memory_front id address) none_text r a b c p q))

-- a fault at the front ends the line
pub memory_front_ends : (id address : ℕ) (shown : Option (List ℕ)) (fault : StreamFault) (a b : Option (List ℕ))
    → TextEnds {A = Unit} (memory_front id address) (Err fault) a b
    → TextEnds {A = Unit} (memory_text id address shown) (Err fault) a b
memory_front_ends id address (Some m) fault a b p =
    subst (λ t. TextEnds {A = Unit} t (Err fault) a b) (memory_line id address (octets_text m)) (text_front (memory_front id address) _ fault a b p)
memory_front_ends id address None fault a b p =
    subst (λ t. TextEnds {A = Unit} t (Err fault) a b) (memory_line id address (codes "none")) (text_front (memory_front id address) _ fault a b p)
