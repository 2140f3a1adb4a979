-- What a capture holds, read a header at a time.
use Rattle.std.proofs.Common.{◌≡◌, ◌∙◌, ap, sym, subst, refl, ⊎_elim, ℕ, suc, zero, ◌+◌, ◌-◌, ◌≤◌, ◌<◌, ◌==◌, ◌||◌, nat_lt, nat_le, Bool, true, false, if◌then◌else◌, List, [], ◌++◌, length, take, drop, slice_index, Option, Some, None, arith, append-nil, append_assoc, length-append, length-drop}
use Rattle.std.proofs.lemmas.Bool.{cases_lt, eq-eqb, ne_eqb}
use Rattle.std.proofs.lemmas.List.{get_or_append_left}
use Rattle.std.proofs.Math.Seq.{drop-append-add, take-append-add, drop-append-le}
use Rattle.lpt_packet.specs.Sizes.{longest_packet}
use Rattle.lpt_capture.specs.declared.fault.CaptureFault.{CaptureFault}
use Rattle.lpt_capture.specs.declared.fault.CaptureFault.TheVariants.{Header, Short, LinkType, Size, Pcapng}
use Rattle.lpt_capture.specs.Captured.{Finding, sound, broken_finding, before, number_at, begins_so, order_of, in_record, place_behind, some_records, records_of, is_pcapng, found_by, found_in}

-- ---- the octets in front

octet-front : (h b : List ℕ) (i : ℕ) → i < length h → slice_index (h ++ b) i ≡ slice_index h i
octet-front h b i within = get_or_append_left h b 0 i within

-- a number in front is the same, whatever comes behind
pub number-front : (t : Bool) (h b : List ℕ) (i : ℕ)
    → i + 3 < length h
    → number_at t (h ++ b) i ≡ number_at t h i
number-front false h b i within =
    let a = octet-front h b i (omega (arith, within)) in
    let c = octet-front h b (i + 1) (omega (arith, within)) in
    let d = octet-front h b (i + 2) (omega (arith, within)) in
    let e = octet-front h b (i + 3) within in
    rw (a, c, d, e) refl
number-front true h b i within =
    let a = octet-front h b i (omega (arith, within)) in
    let c = octet-front h b (i + 1) (omega (arith, within)) in
    let d = octet-front h b (i + 2) (omega (arith, within)) in
    let e = octet-front h b (i + 3) within in
    rw (a, c, d, e) refl

lt-false : (n m : ℕ) → m ≤ n → nat_lt n m ≡ false
lt-false n m h = search (arith, h)

lt-true : (n m : ℕ) → n < m → nat_lt n m ≡ true
lt-true n m h = search (arith, h)

le-true : (n m : ℕ) → n ≤ m → nat_le n m ≡ true
le-true n m h = search (arith, h)

-- ---- the front of the file

begins-front : (w x y z : ℕ) (h b : List ℕ)
    → 4 ≤ length h
    → begins_so w x y z (h ++ b) ≡ begins_so w x y z h
begins-front w x y z h b within =
    let size = length-append h b in
    let one : nat_le 4 (length (h ++ b)) ≡ true = le-true 4 _ (omega (arith, size, within)) in
    let two = le-true 4 (length h) within in
    let p = octet-front h b 0 (omega (arith, within)) in
    let q = octet-front h b 1 (omega (arith, within)) in
    let r = octet-front h b 2 (omega (arith, within)) in
    let s = octet-front h b 3 within in
    rw (one, two, p, q, r, s) refl

-- so is what they begin as
pub order-front : (h b : List ℕ) → 4 ≤ length h → order_of (h ++ b) ≡ order_of h
order-front h b within =
    let p = begins-front 0xa1 0xb2 0xc3 0xd4 h b within in
    let q = begins-front 0xa1 0xb2 0x3c 0x4d h b within in
    let r = begins-front 0xd4 0xc3 0xb2 0xa1 h b within in
    let s = begins-front 0x4d 0x3c 0xb2 0xa1 h b within in
    rw (p, q, r, s) refl

-- nothing behind
none-behind : (h b : List ℕ) → b ≡ [] → h ++ b ≡ h
none-behind h b none = ap (λ k. h ++ k) none ∙ append-nil h

-- where no octets of a record are left, the others are found
pub none-left : (at : ℕ) (b : List ℕ) (others : List ℕ → Finding) → in_record at 0 b others
    ≡ others b
none-left at b others =
    let whole = lt-false (length b) 0 (omega arith) in
    rw whole refl

-- octets that are no capture are found as they are, unless they are one of another form
pub other_front : (h b : List ℕ)
    → order_of h ≡ None
    → (length h < 4 → b ≡ [])
    → found_in (h ++ b) ≡ (if is_pcapng h then broken_finding [] Pcapng else sound (h ++ b))
unfolding found_in
other_front h b plain short =
    ⊎_elim (λ less.
    let same = none-behind h b (short less) in
    ap (λ o. found_by o (h ++ b)) (ap order_of same ∙ plain)
    ∙ ap (λ (other : Bool). if other then broken_finding [] Pcapng else sound (h ++ b))
    (ap is_pcapng same))
    (λ more.
    ap (λ o. found_by o (h ++ b)) (order-front h b more ∙ plain)
    ∙ ap (λ (other : Bool). if other then broken_finding [] Pcapng else sound (h ++ b))
    (begins-front 0x0a 0x0d 0x0d 0x0a h b more))
    (cases_lt (length h) 4)

-- a capture whose header is whole
pub capture_whole : (t : Bool) (h b : List ℕ)
    → order_of h ≡ Some t
    → 24 ≤ length h
    → found_in (h ++ b)
    ≡ (if number_at t h 20 == 147 then records_of t 24 (drop 24 h ++ b)
    else broken_finding [] (LinkType (number_at t h 20)))
unfolding found_in
capture_whole t h b is whole =
    let total = length-append h b in
    let long = lt-false (length (h ++ b)) 24 (omega (arith, total, whole)) in
    let type = number-front t h b 20 (omega (arith, whole)) in
    let rest = drop-append-le 24 h b whole in
    ap (λ o. found_by o (h ++ b)) (order-front h b (omega (arith, whole)) ∙ is)
    ∙ rw (long, type, rest) refl

-- of another link type
pub capture_other : (t : Bool) (h b : List ℕ)
    → order_of h ≡ Some t
    → 24 ≤ length h
    → (number_at t h 20 ≡ 147 → ⊥)
    → found_in (h ++ b) ≡ broken_finding [] (LinkType (number_at t h 20))
capture_other t h b is whole other =
    capture_whole t h b is whole
    ∙ ap (λ same. if same then records_of t 24 (drop 24 h ++ b) else broken_finding []
    (LinkType (number_at t h 20)))
    (ne_eqb (number_at t h 20) 147 other)

-- of this one: its records are what is found
pub capture_records : (t : Bool) (h b : List ℕ)
    → order_of h ≡ Some t
    → 24 ≤ length h
    → number_at t h 20 ≡ 147
    → found_in (h ++ b) ≡ in_record 0 0 (drop 24 h ++ b) (records_of t 24)
capture_records t h b is whole same =
    capture_whole t h b is whole
    ∙ ap (λ same. if same then records_of t 24 (drop 24 h ++ b) else broken_finding []
    (LinkType (number_at t h 20)))
    (eq-eqb (number_at t h 20) 147 same)
    ∙ sym (none-left 0 (drop 24 h ++ b) (records_of t 24))

-- and one whose header isn't
pub capture_short : (t : Bool) (h b : List ℕ)
    → order_of h ≡ Some t
    → length h < 24
    → b ≡ []
    → found_in (h ++ b) ≡ broken_finding [] Header
unfolding found_in
capture_short t h b is short none =
    let less = lt-true (length h) 24 short in
    ap (λ k. found_by (order_of k) k) (none-behind h b none)
    ∙ ap (λ o. found_by o h) is
    ∙ rw less refl

-- ---- a record

-- what is found of octets in which a record of s octets begins, where f is what is found behind it
abbrev with_others : (t : Bool) (at : ℕ) (b : List ℕ) → Finding → Finding
with_others t at b f =
    if length b == 0 then sound []
    else if nat_lt (length b) 16 then broken_finding [] (Short at)
    else if (number_at t b 8 == 0) || nat_lt longest_packet (number_at t b 8)
    then broken_finding [] (Size at (number_at t b 8))
    else if nat_lt (length (drop 16 b)) (number_at t b 8) then broken_finding (drop 16 b) (Short at)
    else before (take (number_at t b 8) (drop 16 b)) f

-- as many records as there may be are all
fuel : (n k : ℕ) (t : Bool) (at : ℕ) (b : List ℕ)
    → length b ≤ n
    → length b ≤ k
    → some_records n t at b ≡ some_records k t at b
fuel zero zero t at b h i = refl
fuel zero (suc k) t at b h i =
    let none = eq-eqb (length b) 0 (omega (arith, h)) in
    rw none refl
fuel (suc n) zero t at b h i =
    let none = eq-eqb (length b) 0 (omega (arith, i)) in
    rw none refl
fuel (suc n) (suc k) t at b h i =
    let s = number_at t b 8 in
    let one = length-drop 16 b in
    let two = length-drop s (drop 16 b) in
    ap (with_others t at b) (fuel n k t (place_behind at s) (drop s (drop 16 b))
    (omega (arith, one, two, h)) (omega (arith, one, two, i)))

-- no octets
pub no-records : (t : Bool) (at : ℕ) → records_of t at [] ≡ sound []
unfolding records_of
no-records t at = refl

-- no record
pub record_none : (t : Bool) (at : ℕ) (h b : List ℕ)
    → h ≡ []
    → b ≡ []
    → records_of t at (h ++ b) ≡ sound []
record_none t at h b none end = ap (λ k. records_of t at (k ++ b)) none ∙ ap (records_of t at) end
    ∙ no-records t at

-- one whose header isn't whole
pub record_short : (t : Bool) (at : ℕ) (h b : List ℕ)
    → 0 < length h
    → length h < 16
    → b ≡ []
    → records_of t at (h ++ b) ≡ broken_finding [] (Short at)
unfolding records_of
record_short t at h b some short end =
    let nonzero = ne_eqb (length h) 0 (λ e. omega (arith, e, some)) in
    let less = lt-true (length h) 16 short in
    ap (λ k. some_records (length k) t at k) (none-behind h b end)
    ∙ fuel (length h) (suc (length h)) t at h (omega arith) (omega arith)
    ∙ rw (nonzero, less) refl

-- what is found of a record of s octets, whose header was passed over, where f is found behind it
abbrev behind_header : (at s : ℕ) (b : List ℕ) → Finding → Finding
behind_header at s b f =
    if nat_lt (length b) s then broken_finding b (Short at) else before (take s b) f

-- one whose header is
pub record_whole : (t : Bool) (at : ℕ) (h b : List ℕ)
    → 16 ≤ length h
    → records_of t at (h ++ b)
    ≡ (if (number_at t h 8 == 0) || nat_lt longest_packet (number_at t h 8)
    then broken_finding [] (Size at (number_at t h 8))
    else in_record at (number_at t h 8) (drop 16 h ++ b)
    (records_of t (place_behind at (number_at t h 8))))
unfolding records_of
record_whole t at h b whole =
    let all = h ++ b in
    let n = length all in
    let s = number_at t h 8 in
    let c = drop 16 h ++ b in
    let place = place_behind at s in
    let total = length-append h b in
    let nonzero : (n == 0) ≡ false = ne_eqb n 0 (λ e. omega (arith, e, total, whole)) in
    let long : nat_lt n 16 ≡ false = lt-false n 16 (omega (arith, total, whole)) in
    let size : number_at t all 8 ≡ s = number-front t h b 8 (omega (arith, whole)) in
    let rest : drop 16 all ≡ c = drop-append-le 16 h b whole in
    let left = length-drop s c in
    let one = length-drop 16 all in
    let same : length c ≡ n - 16 = ap length (sym rest) ∙ one in
    fuel n (suc n) t at all (omega arith) (omega arith)
    ∙ rw (nonzero, long, size, rest)
    (ap (λ f. if (s == 0) || nat_lt longest_packet s then broken_finding []
    (Size at s) else behind_header at s c f)
    (fuel n (length (drop s c)) t place (drop s c) (omega (arith, left, same)) (omega arith)))

abbrev finding : List ℕ → Option CaptureFault → Finding
finding b f = record { octets = b; fault = f }

-- octets of a record that are given, where there are k more
given : (at k : ℕ) (xs b : List ℕ) (others : List ℕ → Finding)
    → in_record at (length xs + k) (xs ++ b) others ≡ before xs (in_record at k b others)
given at k xs b others =
    let total = length-append xs b in
    ⊎_elim (λ less.
    let one = lt-true (length (xs ++ b)) (length xs + k) (omega (arith, total, less)) in
    let two = lt-true (length b) k less in
    rw (one, two) refl)
    (λ more.
    let one = lt-false (length (xs ++ b)) (length xs + k) (omega (arith, total, more)) in
    let two = lt-false (length b) k more in
    let front = take-append-add xs b k in
    let rest = drop-append-add xs b k in
    rw (one, two, front, rest)
    (ap (λ o. finding o (others (drop k b)).fault)
    (append_assoc xs (take k b) (others (drop k b)).octets)))
    (cases_lt (length b) k)

pub record_given : (at left : ℕ) (xs b : List ℕ) (others : List ℕ → Finding)
    → length xs ≤ left
    → in_record at left (xs ++ b) others ≡ before xs (in_record at (left - length xs) b others)
record_given at left xs b others within =
    let all : length xs + (left - length xs) ≡ left = omega (arith, within) in
    subst (λ n. in_record at n (xs ++ b) others
    ≡ before xs (in_record at (left - length xs) b others)) all
    (given at (left - length xs) xs b others)
