-- What marks, and parts sent one after the other, say.
use Rattle.std.proofs.Common.{◌≡◌, ◌∙◌, ◌≤◌, ◌<◌, ◌≢◌, ◌⊎◌, ◌↔◌, ◌&&◌, ◌||◌, not, IsTrue, inl, inr, nat_lt, refl, sym, subst, ℕ, zero, suc, ◌+◌, Bool, true, false, if◌then◌else◌, List, [], ◌∷◌, length, drop, get_or, set, replicate, ap, Option, Some, None, arith}
use Rattle.std.proofs.lemmas.Bool.{false≢true, ltb-true, lt-ltb, eqb-true}
use Rattle.std.proofs.lemmas.Bool.Decides.{eqb_tells}
use Rattle.std.proofs.lemmas.List.{get_or-set_other, get_or-set_same, length-replicate, length-set}
use Rattle.lpt_packet.specs.declared.direction.Direction.{Direction}
use Rattle.lpt_packet.specs.Names.{Name}
use Rattle.lpt_events.specs.declared.entry.Entry.{Entry}
use Rattle.lpt_journal.specs.Link.{sent, is_held, is_lost}
use Rattle.lpt_world.specs.Worlds.{Shown, history}
use Rattle.lpt_share.specs.Finished.{packet_taken, is_let_off, is_number, is_taken, sends, is_sent, finishes, AreTakenOnce}
use Rattle.lpt_events.specs.declared.log.SeatLog.{SeatLog}
use Rattle.lpt_share.specs.FinishedInside.{are_fresh, is_fresh, mark, packets_marked, AreMarked}
use Rattle.lpt_share.specs.Settled.{sent_on, AreTakenInTurn, IsCarriedInOrder}
use Rattle.lpt_packet.proofs.BoolLemmas.{and_left, and_right, or_left, or_right}

-- ---- marks

unset : (b : Bool) (k n : ℕ) (ms : List Bool) → n ≢ k
    → get_or (if b then set ms k true else ms) n false ≡ get_or ms n false
unset true k n ms other = get_or-set_other ms k n true false other
unset false k n ms other = refl

-- a mark that is set stays, where it is set once more or not
still : (b : Bool) (k : ℕ) (ms : List Bool)
    → nat_lt k (length ms) ≡ b
    → get_or ms k false ≡ true
    → get_or (if b then set ms k true else ms) k false ≡ true
still true k ms is m = get_or-set_same ms k true false (ltb-true k (length ms) is)
still false k ms is m = m

-- a mark that has a place is set
put : (b : Bool) (k : ℕ) (ms : List Bool) → b ≡ true → k < length ms
    → get_or (if b then set ms k true else ms) k false ≡ true
put true k ms is within = get_or-set_same ms k true false within
put false k ms is within = absurd (false≢true is)

long : (b : Bool) (k : ℕ) (ms : List Bool) → length (if b then set ms k true else ms) ≡ length ms
long true k ms = length-set ms k true
long false k ms = refl

mark_says : (t : Option ℕ) (n : ℕ) (ms : List Bool)
    → get_or (mark t ms) n false ≡ true
    → (get_or ms n false ≡ true) ⊎ (is_number t n ≡ true)
mark_says None n ms m = inl m
mark_says (Some k) n ms m = elim (eqb_tells k n) [
  | inl t ↦ inr t.0
  | inr t ↦ inl (sym (unset (nat_lt k (length ms)) k n ms (λ e. t.1 (sym e))) ∙ m)
]

-- what is marked after entries was marked, or is taken by one of them
marks_say : (xs : List Entry) (n : ℕ) (ms : List Bool)
    → get_or (packets_marked xs ms) n false ≡ true
    → (get_or ms n false ≡ true) ⊎ (is_taken xs n ≡ true)
marks_say [] n ms m = inl m
marks_say (x ∷ xs) n ms m = elim (marks_say xs n (mark (packet_taken x.event) ms) m) [
  | inl before ↦ elim (mark_says (packet_taken x.event) n ms before) [
    | inl old ↦ inl old
    | inr now ↦ inr (or_left (is_number (packet_taken x.event) n) (is_taken xs n) now)
  ]
  | inr later ↦ inr (or_right (is_number (packet_taken x.event) n) (is_taken xs n) later)
]

-- each held packet that has a place has its mark, where nobody is let off
marked_at : (limit : ℕ) (logs : List SeatLog) (w : Shown) (n j : ℕ) (ms : List Bool)
    → AreMarked limit logs w n ms
    → j < length ms
    → is_held (history w) (n + j) ≡ true
    → is_let_off limit logs w.journal (n + j) ≡ false
    → get_or ms j false ≡ true
marked_at limit logs w n j [] all within held off = absurd (omega arith)
marked_at limit logs w n zero (m ∷ ms) all within held off =
    let same : n + 0 ≡ n = omega arith in
    all.0 (subst (λ k. is_held (history w) k ≡ true) same held)
    (subst (λ k. is_let_off limit logs w.journal k ≡ false) same off)
marked_at limit logs w n (suc j) (m ∷ ms) all within held off =
    let same : n + suc j ≡ n + 1 + j = omega arith in
    marked_at limit logs w (n + 1) j ms all.1 (omega arith)
    (subst (λ k. is_held (history w) k ≡ true) same held)
    (subst (λ k. is_let_off limit logs w.journal k ≡ false) same off)

-- no mark is set yet
blank : (count n : ℕ) → get_or (replicate count false) n false ≡ false
blank zero n = refl
blank (suc count) zero = refl
blank (suc count) (suc n) = blank count n

-- where each held packet has its mark, and no mark was set before the entries, each is taken
all_taken : (limit : ℕ) (logs : List SeatLog) (w : Shown) (xs : List Entry) (ms after : List Bool)
    → ms ≡ replicate (length (sent (history w))) false
    → after ≡ packets_marked xs ms
    → length after ≡ length ms
    → AreMarked limit logs w 0 after
    → (n : ℕ)
    → is_held (history w) n ≡ true
    → is_let_off limit logs w.journal n ≡ false
    → is_taken xs n ≡ true
all_taken limit logs w xs ms after blanks is long all n held off =
    let put : n < length (sent (history w)) = ltb-true n (length (sent (history w)))
    (and_left (nat_lt n (length (sent (history w)))) (not (is_lost (history w) n)) held) in
    let count : length ms ≡ length (sent (history w)) =
    ap length blanks ∙ length-replicate (length (sent (history w))) false in
    let within : n < length after = omega arith in
    let same : n ≡ 0 + n = omega arith in
    let set_there : get_or after n false ≡ true =
    marked_at limit logs w 0 n after all within
    (subst (λ k. is_held (history w) k ≡ true) same held)
    (subst (λ k. is_let_off limit logs w.journal k ≡ false) same off) in
    elim (marks_say xs n ms (subst (λ y. get_or y n false ≡ true) is set_there)) [
      | inl old ↦ absurd (false≢true (sym (blank (length (sent (history w))) n)
          ∙ sym (ap (λ y. get_or y n false) blanks) ∙ old))
      | inr now ↦ now
    ]

-- ---- the same the other way

mark_keeps : (t : Option ℕ) (n : ℕ) (ms : List Bool)
    → get_or ms n false ≡ true
    → get_or (mark t ms) n false ≡ true
mark_keeps None n ms m = m
mark_keeps (Some k) n ms m = elim (eqb_tells k n) [
  | inl t ↦ subst (λ j. get_or (mark (Some k) ms) j false ≡ true) t.1
      (still (nat_lt k (length ms)) k ms refl (subst (λ j. get_or ms j false ≡ true) (sym t.1) m))
  | inr t ↦ unset (nat_lt k (length ms)) k n ms (λ e. t.1 (sym e)) ∙ m
]

mark_sets : (t : Option ℕ) (n : ℕ) (ms : List Bool)
    → n < length ms
    → is_number t n ≡ true
    → get_or (mark t ms) n false ≡ true
mark_sets None n ms within is = absurd (false≢true is)
mark_sets (Some k) n ms within is =
    let same : k ≡ n = eqb-true k n is in
    subst (λ j. get_or (mark (Some k) ms) j false ≡ true) same
    (put (nat_lt k (length ms)) k ms
    (lt-ltb k (length ms) (subst (λ j. j < length ms) (sym same) within))
    (subst (λ j. j < length ms) (sym same) within))

mark_long : (t : Option ℕ) (ms : List Bool) → length (mark t ms) ≡ length ms
mark_long None ms = refl
mark_long (Some k) ms = long (nat_lt k (length ms)) k ms

either : (a b : Bool) → (a || b) ≡ true → (a ≡ true) ⊎ (b ≡ true)
either true b e = inl refl
either false b e = inr e

-- what was marked, or is taken by one of the entries, is marked after them
mark_after : (xs : List Entry) (n : ℕ) (ms : List Bool)
    → n < length ms
    → (get_or ms n false ≡ true) ⊎ (is_taken xs n ≡ true)
    → get_or (packets_marked xs ms) n false ≡ true
mark_after [] n ms within (inl m) = m
mark_after [] n ms within (inr t) = absurd (false≢true t)
mark_after (x ∷ xs) n ms within had =
    let there : n < length (mark (packet_taken x.event) ms) =
    omega (arith, mark_long (packet_taken x.event) ms) in
    elim had [
      | inl m ↦ mark_after xs n (mark (packet_taken x.event) ms) there
          (inl (mark_keeps (packet_taken x.event) n ms m))
      | inr t ↦ elim (either (is_number (packet_taken x.event) n) (is_taken xs n) t) [
        | inl now ↦ mark_after xs n (mark (packet_taken x.event) ms) there
            (inl (mark_sets (packet_taken x.event) n ms within now))
        | inr later ↦ mark_after xs n (mark (packet_taken x.event) ms) there (inr later)
      ]
    ]

marked_from : (limit : ℕ) (logs : List SeatLog) (w : Shown) (n : ℕ) (ms : List Bool)
    → ((j : ℕ) → j < length ms → is_held (history w) (n + j) ≡ true
    → is_let_off limit logs w.journal (n + j) ≡ false → get_or ms j false ≡ true)
    → AreMarked limit logs w n ms
marked_from limit logs w n [] all = tt
marked_from limit logs w n (m ∷ ms) all =
    let none : n + 0 ≡ n = omega arith in (
      λ held off. all zero (omega arith) (subst (λ k. is_held (history w) k ≡ true) (sym none) held)
          (subst (λ k. is_let_off limit logs w.journal k ≡ false) (sym none) off),
      marked_from limit logs w (n + 1) ms (λ j below held off.
          let same : n + 1 + j ≡ n + suc j = omega arith in
          all (suc j) (omega arith) (subst (λ k. is_held (history w) k ≡ true) same held)
          (subst (λ k. is_let_off limit logs w.journal k ≡ false) same off)),
    )

-- where each held packet is taken by the entries, each has its mark after them
all_marked : (limit : ℕ) (logs : List SeatLog) (w : Shown) (xs : List Entry) (ms after : List Bool)
    → after ≡ packets_marked xs ms
    → length after ≡ length ms
    → ((n : ℕ) → is_held (history w) n ≡ true → is_let_off limit logs w.journal n ≡ false
    → is_taken xs n ≡ true)
    → AreMarked limit logs w 0 after
all_marked limit logs w xs ms after is long all =
    marked_from limit logs w 0 after (λ j below held off.
    let within : j < length ms = omega arith in
    let same : 0 + j ≡ j = omega arith in
    subst (λ y. get_or y j false ≡ true) (sym is)
    (mark_after xs j ms within (inr (all j (subst (λ k. is_held (history w) k ≡ true) same held)
    (subst (λ k. is_let_off limit logs w.journal k ≡ false) same off)))))

-- ---- none twice

is_unset : (b : Bool) → not b ≡ true → b ≡ false
is_unset true h = absurd (false≢true h)
is_unset false h = refl

-- what has its mark is no number of a fresh packet
fresh_other : (t : Option ℕ) (n : ℕ) (ms : List Bool)
    → is_fresh t ms ≡ true
    → get_or ms n false ≡ true
    → is_number t n ≡ false
fresh_other None n ms fresh set = refl
fresh_other (Some k) n ms fresh set = elim (eqb_tells k n) [
  | inl t ↦ absurd (false≢true (sym (is_unset (get_or ms k false)
      (and_right (nat_lt k (length ms)) (not (get_or ms k false)) fresh))
      ∙ ap (λ j. get_or ms j false) t.1 ∙ set))
  | inr t ↦ t.0
]

neither : (a b : Bool) → a ≡ false → b ≡ false → (a || b) ≡ false
neither true b h k = absurd (false≢true (sym h))
neither false b h k = k

-- and isn't taken by entries whose packets are fresh
fresh_apart : (xs : List Entry) (n : ℕ) (ms : List Bool)
    → are_fresh xs ms ≡ true
    → get_or ms n false ≡ true
    → is_taken xs n ≡ false
fresh_apart [] n ms fresh set = refl
fresh_apart (x ∷ xs) n ms fresh set =
    let t = packet_taken x.event in
    let rest = are_fresh xs (mark t ms) in
    neither (is_number t n) (is_taken xs n)
    (fresh_other t n ms (and_left (is_fresh t ms) rest fresh) set)
    (fresh_apart xs n (mark t ms) (and_right (is_fresh t ms) rest fresh) (mark_keeps t n ms set))

-- a fresh packet that is taken is marked
fresh_set : (t : Option ℕ) (n : ℕ) (ms : List Bool)
    → t ≡ Some n
    → is_fresh t ms ≡ true
    → get_or (mark t ms) n false ≡ true
fresh_set None n ms is fresh = absurd cc
fresh_set (Some k) n ms is fresh =
    let same : k ≡ n = cc in
    let within : k < length ms = ltb-true k (length ms)
    (and_left (nat_lt k (length ms)) (not (get_or ms k false)) fresh) in
    subst (λ j. get_or (mark (Some k) ms) j false ≡ true) same
    (put (nat_lt k (length ms)) k ms (lt-ltb k (length ms) within) within)

-- entries whose packets are fresh take none twice
pub taken_once : (xs : List Entry) (ms : List Bool) → are_fresh xs ms ≡ true → AreTakenOnce xs
taken_once [] ms fresh = tt
taken_once (x ∷ xs) ms fresh =
    let t = packet_taken x.event in
    let rest = are_fresh xs (mark t ms) in (
      λ n is. fresh_apart xs n (mark t ms) (and_right (is_fresh t ms) rest fresh)
          (fresh_set t n ms is (and_left (is_fresh t ms) rest fresh)),
      taken_once xs (mark t ms) (and_right (is_fresh t ms) rest fresh),
    )

-- packets are taken in turn exactly where each had a mark that wasn't set, and each has it then
pub taken_if : (limit : ℕ) (logs : List SeatLog) (w : Shown) (xs : List Entry)
    (ms after : List Bool)
    (once all : Bool)
    → ms ≡ replicate (length (sent (history w))) false
    → after ≡ packets_marked xs ms
    → length after ≡ length ms
    → once ≡ are_fresh xs ms
    → (IsTrue all ↔ AreMarked limit logs w 0 after)
    → IsTrue (once && all) ↔ AreTakenInTurn limit logs w xs
taken_if limit logs w xs ms after true all blanks is long fresh marks = (
  λ told. (
    ap (are_fresh xs) (sym blanks) ∙ sym fresh,
    record { taken = all_taken limit logs w xs ms after blanks is long (marks.0 told) },
  ),
  λ both. marks.1 (all_marked limit logs w xs ms after is long both.1.taken),
)
taken_if limit logs w xs ms after false all blanks is long fresh marks = (
  λ told. absurd (false≢true told),
  λ both. absurd (false≢true (fresh ∙ ap (are_fresh xs) blanks ∙ both.0)),
)

-- ---- parts

after_not : {k n : ℕ} → k ≤ n → k ≢ n → k + 1 ≤ n
after_not least differ = omega (arith, differ)

at_entry : (fin snd : Bool) (x : Entry) (xs : List Entry) (d : Direction) (name : Name) (k n : ℕ)
    → sends x.event d name k ≡ snd
    → k ≤ n
    → (k ≤ n → n < sent_on xs d name k → is_sent xs d name n ≡ true)
    → (k + 1 ≤ n → n < sent_on xs d name (k + 1) → is_sent xs d name n ≡ true)
    → n < (if fin then k else (if snd then sent_on xs d name (k + 1) else sent_on xs d name k))
    → is_sent (x ∷ xs) d name n ≡ true
at_entry true snd x xs d name k n is least same next within = absurd (omega arith)
at_entry false false x xs d name k n is least same next within =
    or_right (sends x.event d name n) (is_sent xs d name n) (same least within)
at_entry false true x xs d name k n is least same next within = elim (eqb_tells k n) [
  | inl t ↦ or_left (sends x.event d name n) (is_sent xs d name n)
      (subst (λ j. sends x.event d name j ≡ true) t.1 is)
  | inr t ↦ let differ = t.1 in
      or_right (sends x.event d name n) (is_sent xs d name n) (next (after_not least differ) within)
]

-- each part before the next one is sent
pub sent_before : (xs : List Entry) (d : Direction) (name : Name) (k n : ℕ)
    → k ≤ n
    → n < sent_on xs d name k
    → is_sent xs d name n ≡ true
sent_before [] d name k n least within = absurd (omega arith)
sent_before (x ∷ xs) d name k n least within =
    at_entry (finishes x.event d name) (sends x.event d name k) x xs d name k n refl least
    (λ l b. sent_before xs d name k n l b)
    (λ l b. sent_before xs d name (k + 1) n l b) within

-- nothing is carried behind the last entry
pub none_behind : (xs : List Entry) (n : ℕ) (d : Direction) (name : Name) (parts : ℕ)
    → length xs ≤ n
    → ¬ (IsCarriedInOrder (drop n xs) d name parts)
none_behind [] zero d name parts past (inl a) = false≢true a
none_behind [] zero d name parts past (inr s) = false≢true s.1
none_behind [] (suc n) d name parts past (inl a) = false≢true a
none_behind [] (suc n) d name parts past (inr s) = false≢true s.1
none_behind (x ∷ xs) zero d name parts past c = absurd (omega arith)
none_behind (x ∷ xs) (suc n) d name parts past c = none_behind xs n d name parts (omega arith) c
