-- Numbers of 32 and 64 bits, and what stands at a place of octets.
use Rattle.std.proofs.Common.{◌==◌, ◌&&◌, nat_eq, ◌≡◌, ◌∙◌, refl, ap, sym, ℕ, suc, ◌+◌, ◌*◌, ◌/◌, ◌%◌, ◌^◌, ◌<◌, ◌≤◌, true, List, [], ◌∷◌, ◌++◌, length, take, drop, get_or, arith, take-append-drop}
use Rattle.std.proofs.Math.ListN.{get_or-append}
use Rattle.std.proofs.lemmas.List.{drop-drop, drop_more}
use Rattle.std.specs.Cmp.Lexicographic.{pointwise}
use Rattle.lpt_packet.proofs.SightLemmas.{same_octets-true}
use Rattle.lpt_packet.specs.Numbers.{be, same_octets, IsOctets}
use Rattle.lpt_pus.proofs.LongLemmas.{be-long}
use Rattle.lpt_pus.specs.Numbers.{long_at}
use Rattle.lpt_state.specs.Verdicts.{great_at, stands_at}

-- ---- what a spelling stands for

-- a number of 64 bits is two of 32
be-halves : (n : ℕ) → be n 8 ≡ be (n / 2 ^ 32) 4 ++ be (n % 2 ^ 32) 4
be-halves n =
    let a : n / 256 ^ 7 % 256 ≡ n / 2 ^ 32 / 256 ^ 3 % 256 = omega arith in
    let b : n / 256 ^ 6 % 256 ≡ n / 2 ^ 32 / 256 ^ 2 % 256 = omega arith in
    let c : n / 256 ^ 5 % 256 ≡ n / 2 ^ 32 / 256 ^ 1 % 256 = omega arith in
    let d : n / 256 ^ 4 % 256 ≡ n / 2 ^ 32 % 256 = omega arith in
    let e : n / 256 ^ 3 % 256 ≡ n % 2 ^ 32 / 256 ^ 3 % 256 = omega arith in
    let f : n / 256 ^ 2 % 256 ≡ n % 2 ^ 32 / 256 ^ 2 % 256 = omega arith in
    let g : n / 256 ^ 1 % 256 ≡ n % 2 ^ 32 / 256 ^ 1 % 256 = omega arith in
    let h : n % 256 ≡ n % 2 ^ 32 % 256 = omega arith in
    λ i. a i ∷ b i ∷ c i ∷ d i ∷ e i ∷ f i ∷ g i ∷ h i ∷ []

pub long_back : (n : ℕ) (rest : List ℕ) → n < 2 ^ 32 → long_at (be n 4 ++ rest) 0 ≡ n
long_back n rest h = omega arith

pub great_back : (n : ℕ) → n < 2 ^ 64 → great_at (be n 8) 0 ≡ n
great_back n h =
    let high : ℕ = n / 2 ^ 32 in
    let low : ℕ = n % 2 ^ 32 in
    let upper : long_at (be high 4 ++ be low 4) 0
    ≡ high = long_back high (be low 4) (omega arith) in
    let lower : long_at (be high 4 ++ be low 4) 4 ≡ low = long_back low [] (omega arith) in
    ap (λ (b : List ℕ). great_at b 0) (be-halves n)
    ∙ (λ i. 2 ^ 32 * upper i + lower i)
    ∙ omega arith

-- ---- what stands at a place is the spelling of what it says

pub held : (b : List ℕ) (i : ℕ) (octets : List ℕ)
    → stands_at b i octets ≡ true
    → drop i b ≡ octets ++ drop (i + length octets) b
held b i octets h =
    let n : ℕ = length octets in
    let is : take n (drop i b) ≡ octets = same_octets-true (take n (drop i b)) octets h in
    sym (take-append-drop n (drop i b))
    ∙ ap (λ (x : List ℕ). x ++ drop n (drop i b)) is
    ∙ ap (λ (x : List ℕ). octets ++ x) (drop-drop n i b)

pub one_cell : (b : List ℕ) (i : ℕ) → i < length b → drop i b ≡ get_or b i 0 ∷ drop (i + 1) b
one_cell b i h = drop_more b i 0 h

pub long_cells : (b : List ℕ) (i : ℕ) → i + 4 ≤ length b → IsOctets b
    → drop i b ≡ be (long_at b i) 4 ++ drop (i + 4) b
long_cells b i h o =
    let x : ℕ → ℕ = λ k. get_or b k 0 in
    let two : i + 1 + 1 ≡ i + 2 = omega arith in
    let three : i + 2 + 1 ≡ i + 3 = omega arith in
    let four : i + 3 + 1 ≡ i + 4 = omega arith in
    let second : drop (i + 1) b ≡ x (i + 1) ∷ drop (i + 2) b =
    one_cell b (i + 1) (omega arith) ∙ ap (λ (k : ℕ). x (i + 1) ∷ drop k b) two in
    let third : drop (i + 2) b ≡ x (i + 2) ∷ drop (i + 3) b =
    one_cell b (i + 2) (omega arith) ∙ ap (λ (k : ℕ). x (i + 2) ∷ drop k b) three in
    let fourth : drop (i + 3) b ≡ x (i + 3) ∷ drop (i + 4) b =
    one_cell b (i + 3) (omega arith) ∙ ap (λ (k : ℕ). x (i + 3) ∷ drop k b) four in
    let cells : be (65536 * (256 * x i + x (i + 1)) + (256 * x (i + 2) + x (i + 3))) 4 ≡ x i
    ∷ x (i + 1) ∷ x (i + 2) ∷ x (i + 3) ∷ [] =
    be-long (x i) (x (i + 1)) (x (i + 2)) (x (i + 3)) (o i) (o (i + 1)) (o (i + 2)) (o (i + 3)) in
    let last : i + 2 + 1 ≡ i + 3 = three in
    one_cell b i (omega arith)
    ∙ ap (λ (t : List ℕ). x i ∷ t) (second
    ∙ ap (λ (t : List ℕ). x (i + 1) ∷ t) (third ∙ ap (λ (t : List ℕ). x (i + 2) ∷ t) fourth))
    ∙ ap (λ (c : List ℕ). c ++ drop (i + 4) b) (sym cells)
    ∙ ap (λ (k : ℕ). be (65536 * (256 * x i + x (i + 1)) + (256 * x (i + 2) + x k)) 4
    ++ drop (i + 4) b) (sym last)

pub long_fits : (b : List ℕ) (i : ℕ) → IsOctets b → long_at b i < 2 ^ 32
long_fits b i o = omega (arith, o i, o (i + 1), o (i + 2), o (i + 2 + 1))

pub great_cells : (b : List ℕ) (i : ℕ) → i + 8 ≤ length b → IsOctets b
    → drop i b ≡ be (great_at b i) 8 ++ drop (i + 8) b
great_cells b i h o =
    let high : ℕ = long_at b i in
    let low : ℕ = long_at b (i + 4) in
    let upper : great_at b i / 2 ^ 32 ≡ high = omega (arith, long_fits b (i + 4) o) in
    let lower : great_at b i % 2 ^ 32 ≡ low = omega (arith, long_fits b (i + 4) o) in
    let eight : i + 4 + 4 ≡ i + 8 = omega arith in
    long_cells b i (omega arith) o
    ∙ ap (λ (t : List ℕ). be high 4 ++ t)
    (long_cells b (i + 4) (omega arith) o ∙ ap (λ (k : ℕ). be low 4 ++ drop k b) eight)
    ∙ (λ j. (be (sym upper j) 4 ++ be (sym lower j) 4) ++ drop (i + 8) b)
    ∙ ap (λ (t : List ℕ). t ++ drop (i + 8) b) (sym (be-halves (great_at b i)))

-- ---- octets behind

pub great_before : (a rest : List ℕ) (i : ℕ) → i + 8 ≤ length a → great_at (a ++ rest) i
    ≡ great_at a i
great_before a rest i h =
    let same : (k : ℕ) → k < length a → get_or (a ++ rest) k 0
    ≡ get_or a k 0 = λ k within. get_or-append a rest 0 k within in
    omega (
      arith,
      same i (omega arith),
      same (i + 1) (omega arith),
      same (i + 2) (omega arith),
      same (i + 2 + 1) (omega arith),
      same (i + 4) (omega arith),
      same (i + 4 + 1) (omega arith),
      same (i + 4 + 2) (omega arith),
      same (i + 4 + 2 + 1) (omega arith),
    )

-- ---- octets that are compared

-- octets are the same where they are one by one
pub pointwise_same : (a b : List ℕ) → pointwise nat_eq a b ≡ same_octets a b
pointwise_same [] [] = refl
pointwise_same [] (y ∷ b) = refl
pointwise_same (x ∷ a) [] = refl
pointwise_same (x ∷ a) (y ∷ b) = ap (λ t. (x == y) && t) (pointwise_same a b)
