-- Octets of no packet, one behind the other.
use Rattle.std.proofs.Common.{◌≡◌, ◌∙◌, ◌⊎◌, inl, inr, ap, sym, refl, ℕ, suc, ◌+◌, ◌-◌, ◌<◌, ◌≤◌, Bool, true, false, if◌then◌else◌, List, ◌∷◌, length, drop, get_or, min, nat_le, take, length-drop, drop-cons, add-one, arith}
use Rattle.std.proofs.lemmas.Bool.Decides.{nat_tests}
use Rattle.std.proofs.lemmas.List.{drop_all, take_all}
use Rattle.lpt_packet.specs.Sizes.{longest_packet}
use Rattle.lpt_stream.specs.Strays.{is_stray, strays_in}

pub strays-first : (e : Bool) (b : List ℕ) → strays_in e b ≡ 0 + strays_in e (drop 0 b)
strays-first e b = omega arith

-- what is in front from a place on
pub rest-is : (at : ℕ) (b : List ℕ) → take (length b - at) (drop at b) ≡ drop at b
rest-is at b = take_all (length b - at) (drop at b) (omega (arith, length-drop at b))

pub front-is : (n : ℕ) (b : List ℕ) → n < length b → drop n b ≡ get_or b n 0 ∷ drop (n + 1) b
front-is n b some = drop-cons b n 0 some ∙ ap (λ k. get_or b n 0 ∷ drop k b) (sym (add-one n))

-- such an octet, and those behind it
some_there : (e : Bool) (x : ℕ) (b : List ℕ)
    → is_stray e (x ∷ b) ≡ true
    → strays_in e (x ∷ b) ≡ suc (strays_in e b)
unfolding strays_in
some_there e x b h = ap (λ (t : Bool). if t then suc (strays_in e b) else 0) h

none_there : (e : Bool) (x : ℕ) (b : List ℕ)
    → is_stray e (x ∷ b) ≡ false
    → strays_in e (x ∷ b) ≡ 0
unfolding strays_in
none_there e x b h = ap (λ (t : Bool). if t then suc (strays_in e b) else 0) h

-- one more
pub strays-next : (e : Bool) (n : ℕ) (b : List ℕ)
    → n < length b
    → is_stray e (drop n b) ≡ true
    → strays_in e b ≡ n + strays_in e (drop n b)
    → strays_in e b ≡ n + 1 + strays_in e (drop (n + 1) b)
strays-next e n b some here is =
    let front = front-is n b some in
    let more = some_there e (get_or b n 0) (drop (n + 1) b) (ap (is_stray e) (sym front) ∙ here) in
    let same = ap (strays_in e) front in
    omega (arith, is, more, same)

-- none
pub strays-none : (e : Bool) (n : ℕ) (b : List ℕ)
    → n < length b
    → is_stray e (drop n b) ≡ false
    → strays_in e (drop n b) ≡ 0
strays-none e n b some here =
    let front = front-is n b some in
    ap (strays_in e) front
    ∙ none_there e (get_or b n 0) (drop (n + 1) b) (ap (is_stray e) (sym front) ∙ here)

-- behind the last octet
strays-past : (e : Bool) (n : ℕ) (b : List ℕ) → length b ≤ n → strays_in e (drop n b) ≡ 0
unfolding strays_in
strays-past e n b h = rw drop_all refl

-- as many as are looked at: the longest packet's octets, or all
pub at-end : (e : Bool) (n : ℕ) (b : List ℕ)
    → n ≡ min longest_packet (length b)
    → (n ≡ longest_packet) ⊎ (strays_in e (drop n b) ≡ 0)
at-end e n b is = go (nat_le longest_packet (length b)) refl where
  go : (t : Bool) → nat_le longest_packet (length b) ≡ t
      → (n ≡ longest_packet) ⊎ (strays_in e (drop n b) ≡ 0)
  go true h = inl (grind (arith, nat_tests, is, h))
  go false h = inr (strays-past e n b (grind (arith, nat_tests, is, h)))

-- up to there, or to the longest packet's octets
pub counted : (n most size count rest : ℕ)
    → count ≡ n + rest
    → n ≤ most
    → most ≡ min longest_packet size
    → (n ≡ longest_packet) ⊎ (rest ≡ 0)
    → n ≡ min longest_packet count
counted n most size count rest is few size-is (inl all) = omega (arith, is, all)
counted n most size count rest is few size-is (inr none) = omega (arith, is, few, size-is, none)
