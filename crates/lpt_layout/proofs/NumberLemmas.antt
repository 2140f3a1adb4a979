-- Numbers of each width: how they are spelled, and that what is spelled is read.
use Rattle.std.proofs.Common.{◌≡◌, ◌∙◌, ap, sym, refl, ℕ, ◌+◌, ◌%◌, ◌^◌, ◌<◌, ◌≤◌, List, [], ◌∷◌, length, take, drop, get_or, arith}
use Rattle.std.proofs.lemmas.List.{drop_more, get_or-take, get_or-drop}
use Rattle.lpt_packet.specs.Numbers.{be, IsOctets}
use Rattle.lpt_packet.proofs.Codec.{word_cells}
use Rattle.lpt_pus.proofs.LongLemmas.{be-long}
use Rattle.lpt_layout.specs.declared.width.Width.{Width}
use Rattle.lpt_layout.specs.declared.width.Width.TheVariants.{Absent, Octet, Word, Long}
use Rattle.lpt_layout.specs.Numbers.{octets_of, number_at}

-- ---- sizes

-- a number has as many octets as its width says
pub length-be : (w : Width) (n : ℕ) → length (be n (octets_of w)) ≡ octets_of w
length-be Absent n = refl
length-be Octet n = refl
length-be Word n = refl
length-be Long n = refl

-- a number of a width is below its limit
pub number_at-fits : (w : Width) (b : List ℕ) (i : ℕ)
    → IsOctets b
    → number_at w b i < 256 ^ octets_of w
number_at-fits Absent b i o = omega arith
number_at-fits Octet b i o = omega (arith, o i)
number_at-fits Word b i o = omega (arith, o i, o (i + 1))
number_at-fits Long b i o = omega (arith, o i, o (i + 1), o (i + 2), o (i + 2 + 1))

-- ---- what stands at a place is the spelling of its number

next : (b : List ℕ) (i j : ℕ)
    → i + 1 ≡ j
    → i < length b
    → drop i b ≡ get_or b i 0 ∷ drop j b
next b i j e h = drop_more b i 0 h ∙ ap (λ k. get_or b i 0 ∷ drop k b) e

two_cells : (b : List ℕ) (i : ℕ)
    → i + 1 < length b
    → drop i b ≡ get_or b i 0 ∷ get_or b (i + 1) 0 ∷ drop (i + 2) b
two_cells b i h =
    next b i (i + 1) refl (omega arith)
    ∙ ap (λ r. get_or b i 0 ∷ r) (next b (i + 1) (i + 2) (omega arith) h)

pub be-number_at : (w : Width) (b : List ℕ) (i : ℕ)
    → IsOctets b
    → i + octets_of w ≤ length b
    → be (number_at w b i) (octets_of w) ≡ take (octets_of w) (drop i b)
be-number_at Absent b i o h = refl
be-number_at Octet b i o h =
    let small : get_or b i 0 % 256 ≡ get_or b i 0 = omega (arith, o i) in
    ap (λ n. n ∷ []) small ∙ sym (ap (take 1) (next b i (i + 1) refl (omega arith)))
be-number_at Word b i o h =
    word_cells (get_or b i 0) (get_or b (i + 1) 0) (o i) (o (i + 1))
    ∙ sym (ap (take 2) (two_cells b i (omega arith)))
be-number_at Long b i o h =
    let cells = two_cells b i (omega arith)
    ∙ ap (λ r. get_or b i 0 ∷ get_or b (i + 1) 0 ∷ r) (two_cells b (i + 2) (omega arith)) in
    be-long (get_or b i 0) (get_or b (i + 1) 0) (get_or b (i + 2) 0) (get_or b (i + 2 + 1) 0)
    (o i) (o (i + 1)) (o (i + 2)) (o (i + 2 + 1))
    ∙ sym (ap (take 4) cells)

-- ---- what is spelled at a place is read there

cell : (b : List ℕ) (i n k j : ℕ)
    → k < n
    → i + k ≡ j
    → get_or b j 0 ≡ get_or (take n (drop i b)) k 0
cell b i n k j h e =
    sym (get_or-take n (drop i b) k 0 h ∙ get_or-drop i b k 0 ∙ ap (λ m. get_or b m 0) e)

-- a number is read from its own octets alone
number_at-cut : (w : Width) (b : List ℕ) (i : ℕ)
    → number_at w b i ≡ number_at w (take (octets_of w) (drop i b)) 0
number_at-cut Absent b i = refl
number_at-cut Octet b i = cell b i 1 0 i (omega arith) (omega arith)
number_at-cut Word b i =
    omega (
      arith,
      cell b i 2 0 i (omega arith) (omega arith),
      cell b i 2 1 (i + 1) (omega arith) (omega arith),
    )
number_at-cut Long b i =
    omega (
      arith,
      cell b i 4 0 i (omega arith) (omega arith),
      cell b i 4 1 (i + 1) (omega arith) (omega arith),
      cell b i 4 2 (i + 2) (omega arith) (omega arith),
      cell b i 4 3 (i + 2 + 1) (omega arith) (omega arith),
    )

number_at-spelled : (w : Width) (n : ℕ)
    → n < 256 ^ octets_of w
    → number_at w (be n (octets_of w)) 0 ≡ n
number_at-spelled Absent n h = omega arith
number_at-spelled Octet n h = omega arith
number_at-spelled Word n h = omega arith
number_at-spelled Long n h = omega arith

pub number_at-be : (w : Width) (n : ℕ) (b : List ℕ) (i : ℕ)
    → n < 256 ^ octets_of w
    → take (octets_of w) (drop i b) ≡ be n (octets_of w)
    → number_at w b i ≡ n
number_at-be w n b i h e =
    number_at-cut w b i ∙ ap (λ c. number_at w c 0) e ∙ number_at-spelled w n h
