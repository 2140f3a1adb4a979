-- Where parts are sent in turn, none is sent twice.
use Rattle.std.proofs.Common.{◌≡◌, ◌∙◌, ◌≤◌, ◌<◌, ◌⊎◌, ◌&&◌, ◌||◌, ◌==◌, not, inl, inr, refl, sym, ap, subst, ℕ, ◌+◌, Bool, true, false, if◌then◌else◌, List, [], ◌∷◌, Option, Some, None, arith}
use Rattle.std.proofs.lemmas.Bool.{false≢true, eqb-true}
use Rattle.lpt_packet.specs.declared.direction.Direction.{Direction}
use Rattle.lpt_packet.specs.declared.direction.Direction.TheVariants.{Up, Down}
use Rattle.lpt_packet.specs.Names.{Name, same_name}
use Rattle.lpt_packet.proofs.BoolLemmas.{and_left, and_right}
use Rattle.lpt_packet.proofs.NameLemmas.{same_name-refl, same_name-true}
use Rattle.lpt_events.specs.Lanes.{same_direction}
use Rattle.lpt_events.specs.declared.entry.Entry.{Entry}
use Rattle.lpt_events.specs.declared.event.Event.{Event}
use Rattle.lpt_events.specs.declared.event.Event.TheVariants.{Send}
use Rattle.lpt_share.specs.Finished.{sends, is_sent, AreSentOnce}
use Rattle.lpt_share.specs.Turn.{sent_in, last_sent, follows, starts, is_next, are_in_turn, are_all_in_turn}
use Rattle.lpt_share.specs.declared.sending.Sent.{Sent}

-- whether a part that is sent is part k of the transaction
abbrev is_part : Option Sent → Name → ℕ → Bool
is_part None name k = false
is_part (Some s) name k = same_name s.name name && (s.part == k)

by_direction : (b : Bool) (name m : Name) (n k : ℕ)
    → (b && same_name name m && (n == k))
    ≡ is_part (if b then Some (record { name = name; part = n }) else None) m k
by_direction true name m n k = refl
by_direction false name m n k = refl

sends_is : (e : Event) (d : Direction) (m : Name) (k : ℕ) → sends e d m k
    ≡ is_part (sent_in d e) m k
sends_is (Send e name n) d m k = by_direction (same_direction e d) name m n k
sends_is _ d m k = refl

left_out : (p q : Bool) → (p || q) ≡ false → p ≡ false
left_out true q h = absurd (false≢true (sym h))
left_out false q h = refl

right_out : (p q : Bool) → (p || q) ≡ false → q ≡ false
right_out true q h = absurd (false≢true (sym h))
right_out false q h = h

neither : (p q : Bool) → p ≡ false → q ≡ false → (p || q) ≡ false
neither true q h k = absurd (false≢true (sym h))
neither false q h k = k

either : (p q : Bool) → (p || q) ≡ true → (p ≡ true) ⊎ (q ≡ true)
either true q h = inl refl
either false q h = inr h

-- the part that comes is another one than a part that was sent
other_part : (s a : Sent) (d : Direction) (m : Name) (k : ℕ) (xs : List Entry)
    → (follows (Some a) s ≡ true) ⊎ (starts d s xs ≡ true)
    → (a.name ≡ m → k ≤ a.part)
    → is_part (Some s) m 1 ≡ false
    → (b : Bool)
    → is_part (Some s) m k ≡ b
    → b ≡ false
other_part s a d m k xs how before none false is = refl
other_part s a d m k xs (inl next) before none true is =
    let named : s.name
    ≡ m = same_name-true s.name m (and_left (same_name s.name m) (s.part == k) is) in
    let same : s.name
    ≡ a.name =
    same_name-true s.name a.name
    (and_left (same_name s.name a.name) (s.part == a.part + 1) next) in
    let number : s.part ≡ k = eqb-true s.part k (and_right (same_name s.name m) (s.part == k) is) in
    let after : s.part
    ≡ a.part + 1 =
    eqb-true s.part (a.part + 1)
    (and_right (same_name s.name a.name) (s.part == a.part + 1) next) in
    let least : k ≤ a.part = before (sym same ∙ named) in
    absurd (omega (arith, number, after, least))
other_part s a d m k xs (inr first) before none true is =
    let named : same_name s.name m ≡ true = and_left (same_name s.name m) (s.part == k) is in
    let one : (s.part == 1) ≡ true = and_left (s.part == 1) (not (is_sent xs d s.name 1)) first in
    absurd (false≢true (sym none ∙ (λ i. named i && one i)))

-- nor is the next one an earlier part of it
no_earlier : (s a : Sent) (d : Direction) (m : Name) (k : ℕ) (xs : List Entry)
    → (follows (Some a) s ≡ true) ⊎ (starts d s xs ≡ true)
    → (a.name ≡ m → k ≤ a.part)
    → is_part (Some s) m 1 ≡ false
    → s.name ≡ m
    → k ≤ s.part
no_earlier s a d m k xs (inl next) before none named =
    let same : s.name ≡ a.name =
    same_name-true s.name a.name (and_left (same_name s.name a.name) (s.part == a.part + 1) next) in
    let after : s.part ≡ a.part + 1 =
    eqb-true s.part (a.part + 1)
    (and_right (same_name s.name a.name) (s.part == a.part + 1) next) in
    let least : k ≤ a.part = before (sym same ∙ named) in
    omega (arith, after, least)
no_earlier s a d m k xs (inr first) before none named =
    let one : (s.part == 1) ≡ true = and_left (s.part == 1) (not (is_sent xs d s.name 1)) first in
    let is_m : same_name s.name m ≡ true = ap (λ n. same_name s.name n) (sym named)
    ∙ same_name-refl s.name in
    absurd (false≢true (sym none ∙ (λ i. is_m i && one i)))

-- Behind a part of a transaction whose first isn't sent again no part up to that one is; and none
-- of another transaction whose first isn't.
none_again : (d : Direction) (a : Sent) (m : Name) (k : ℕ) (xs : List Entry)
    → are_in_turn d (Some a) xs ≡ true
    → is_sent xs d m 1 ≡ false
    → (a.name ≡ m → k ≤ a.part)
    → is_sent xs d m k ≡ false
none_again d a m k [] turn none before = refl
none_again d a m k (x ∷ xs) turn none before =
    step (λ b t n p. none_again d b m k xs t n p) (sent_in d x.event) refl where
      rest : is_sent xs d m 1 ≡ false
      rest = right_out (sends x.event d m 1) (is_sent xs d m 1) none

      goes : are_in_turn d (last_sent (Some a) (sent_in d x.event)) xs ≡ true
      goes =
          and_right (is_next d (Some a) (sent_in d x.event) xs)
          (are_in_turn d (last_sent (Some a) (sent_in d x.event)) xs) turn

      step : ((b : Sent)
          → are_in_turn d (Some b) xs ≡ true
          → is_sent xs d m 1 ≡ false
          → (b.name ≡ m → k ≤ b.part)
          → is_sent xs d m k ≡ false)
          → (s : Option Sent)
          → sent_in d x.event ≡ s
          → is_sent (x ∷ xs) d m k ≡ false
      step again None is =
          neither (sends x.event d m k) (is_sent xs d m k)
          (sends_is x.event d m k ∙ ap (λ s. is_part s m k) is)
          (again a (ap (λ s. are_in_turn d (last_sent (Some a) s) xs) (sym is) ∙ goes) rest before)
      step again (Some s) is =
          let next : is_next d (Some a) (Some s) xs ≡ true =
          ap (λ t. is_next d (Some a) t xs) (sym is)
          ∙ and_left (is_next d (Some a) (sent_in d x.event) xs)
          (are_in_turn d (last_sent (Some a) (sent_in d x.event)) xs) turn in
          let how = either (follows (Some a) s) (starts d s xs) next in
          let not_first : is_part (Some s) m 1 ≡ false =
          ap (λ t. is_part t m 1) (sym is) ∙ sym (sends_is x.event d m 1)
          ∙ left_out (sends x.event d m 1) (is_sent xs d m 1) none in
          let other : is_part (Some s) m k ≡ false =
          other_part s a d m k xs how before not_first (is_part (Some s) m k) refl in
          neither (sends x.event d m k) (is_sent xs d m k)
          (sends_is x.event d m k ∙ ap (λ t. is_part t m k) is ∙ other)
          (again s (ap (λ t. are_in_turn d (last_sent (Some a) t) xs) (sym is) ∙ goes) rest
          (no_earlier s a d m k xs how before not_first))

unsent : (b : Bool) → not b ≡ true → b ≡ false
unsent true h = absurd (false≢true h)
unsent false h = refl

-- the first part of the transaction that is sent now isn't sent again
first_gone : (d : Direction) (last : Option Sent) (s : Sent) (x : Entry) (xs : List Entry)
    → ((a : Sent) → last ≡ Some a → is_sent (x ∷ xs) d a.name 1 ≡ false)
    → is_next d last (Some s) xs ≡ true
    → is_sent xs d s.name 1 ≡ false
first_gone d None s x xs gone next =
    unsent (is_sent xs d s.name 1) (and_right (s.part == 1) (not (is_sent xs d s.name 1)) next)
first_gone d (Some a) s x xs gone next = elim (either (follows (Some a) s) (starts d s xs) next) [
  | inl goes ↦
      let same : s.name ≡ a.name =
      same_name-true s.name a.name
      (and_left (same_name s.name a.name) (s.part == a.part + 1) goes) in
      ap (λ n. is_sent xs d n 1) same
      ∙ right_out (sends x.event d a.name 1) (is_sent xs d a.name 1) (gone a refl)
  | inr first ↦
      unsent (is_sent xs d s.name 1) (and_right (s.part == 1) (not (is_sent xs d s.name 1)) first)
]

-- where parts are sent in turn, none is sent twice
once_behind : (d : Direction) (last : Option Sent) (xs : List Entry)
    → are_in_turn d last xs ≡ true
    → ((a : Sent) → last ≡ Some a → is_sent xs d a.name 1 ≡ false)
    → AreSentOnce d xs
once_behind d last [] turn gone = tt
once_behind d last (x ∷ xs) turn gone =
    step (λ l t g. once_behind d l xs t g) (sent_in d x.event) refl where
      goes : are_in_turn d (last_sent last (sent_in d x.event)) xs ≡ true
      goes =
          and_right (is_next d last (sent_in d x.event) xs)
          (are_in_turn d (last_sent last (sent_in d x.event)) xs) turn

      step : ((l : Option Sent)
          → are_in_turn d l xs ≡ true
          → ((a : Sent) → l ≡ Some a → is_sent xs d a.name 1 ≡ false)
          → AreSentOnce d xs)
          → (s : Option Sent)
          → sent_in d x.event ≡ s
          → AreSentOnce d (x ∷ xs)
      step again None is = (
        λ m k sent. absurd (false≢true (sym (ap (λ s. is_part s m k) is) ∙ sym (sends_is x.event d m k)
            ∙ sent)),
        again last (ap (λ s. are_in_turn d (last_sent last s) xs) (sym is) ∙ goes)
            (λ a same. right_out (sends x.event d a.name 1) (is_sent xs d a.name 1) (gone a same)),
      )
      step again (Some s) is =
          let next : is_next d last (Some s) xs ≡ true =
          ap (λ t. is_next d last t xs) (sym is)
          ∙ and_left (is_next d last (sent_in d x.event) xs)
          (are_in_turn d (last_sent last (sent_in d x.event)) xs) turn in
          let behind : are_in_turn d (Some s) xs ≡ true =
          ap (λ t. are_in_turn d (last_sent last t) xs) (sym is) ∙ goes in
          let first = first_gone d last s x xs gone next in (
            λ m k sent.
                let part : is_part (Some s) m k ≡ true =
                ap (λ t. is_part t m k) (sym is) ∙ sym (sends_is x.event d m k) ∙ sent in
                let named : s.name ≡ m =
                same_name-true s.name m (and_left (same_name s.name m) (s.part == k) part) in
                let number : s.part
                ≡ k = eqb-true s.part k (and_right (same_name s.name m) (s.part == k) part) in
                none_again d s m k xs behind (ap (λ n. is_sent xs d n 1) (sym named) ∙ first)
                (λ same. omega (arith, number)),
            again (Some s) behind
                (λ a same. let is_s : s ≡ a = cc in ap (λ t. is_sent xs d t.name 1) (sym is_s) ∙ first),
          )

pub sent_once : (d : Direction) (xs : List Entry) → are_in_turn d None xs ≡ true → AreSentOnce d xs
sent_once d xs turn = once_behind d None xs turn (λ a same. absurd cc)
