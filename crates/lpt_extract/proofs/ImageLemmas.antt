-- Areas put over an image that begins at an address, and that grows as they come.
use Rattle.std.proofs.Common.{◌≡◌, ◌∙◌, ap, sym, subst, refl, ℕ, zero, suc, ◌+◌, ◌-◌, ◌≤◌, max, List, [], ◌∷◌, ◌++◌, length, take, drop, replicate, append_assoc, arith}
use Rattle.std.proofs.lemmas.List.{length-append, length-take, length-drop, length-replicate, take-append-le, drop-append-le, drop-drop, take_all, drop_all, drop-replicate, replicate-append-replicate}
use Rattle.lpt_memory.specs.declared.request.Area.{Area}
use Rattle.lpt_memory.specs.Memories.{put_at, put_all}
use Rattle.lpt_memory.specs.Ranges.{AreasFit}
use Rattle.lpt_extract.specs.Areas.{end_of, extent, image}

-- ---- behind an address

-- of two lists
drop-over : (f : ℕ) (xs ys : List ℕ) → drop f (xs ++ ys) ≡ drop f xs ++ drop (f - length xs) ys
drop-over zero xs ys =
    let none : zero - length xs ≡ 0 = omega arith in
    sym (ap (λ n. xs ++ drop n ys) none)
drop-over (suc f) [] ys =
    let all : suc f - 0 ≡ suc f = omega arith in
    sym (ap (λ n. drop n ys) all)
drop-over (suc f) (x ∷ xs) ys =
    let less : length (x ∷ xs) ≡ suc (length xs) = refl in
    let same : f - length xs ≡ suc f - length (x ∷ xs) = omega (arith, less) in
    drop-over f xs ys ∙ ap (λ n. drop f xs ++ drop n ys) same

-- of a front part
take-over : (f at : ℕ) (xs : List ℕ) → drop f (take at xs) ≡ take (at - f) (drop f xs)
take-over zero at xs =
    let all : at ≡ at - zero = omega arith in
    ap (λ n. take n xs) all
take-over (suc f) zero xs =
    let none : 0 ≡ zero - suc f = omega arith in
    ap (λ n. take n (drop (suc f) xs)) none
take-over (suc f) (suc at) [] = sym (take_all (suc at - suc f) [] (omega arith))
take-over (suc f) (suc at) (x ∷ xs) =
    let same : at - f ≡ suc at - suc f = omega arith in
    take-over f at xs ∙ ap (λ n. take n (drop f xs)) same

-- of octets that others were put over
drop-put_at : (f : ℕ) (content : List ℕ) (at : ℕ) (octets : List ℕ)
    → at + length octets ≤ length content
    → drop f (put_at content at octets) ≡ put_at (drop f content) (at - f) (drop (f - at) octets)
drop-put_at f content at octets fit =
    let n = at + length octets in
    let front : length (take at content) ≡ at = omega (arith, length-take at content, fit) in
    let both : length (take at content ++ octets) ≡ n =
    omega (arith, front, length-append (take at content) octets) in
    let left = length-drop (f - at) octets in
    let behind : f - n + n ≡ f + (at - f + length (drop (f - at) octets)) = omega (arith, left) in
    let last : drop (f - n) (drop n content)
    ≡ drop (at - f + length (drop (f - at) octets)) (drop f content) =
    drop-drop (f - n) n content ∙ ap (λ k. drop k content) (omega (arith, behind))
    ∙ sym (drop-drop (at - f + length (drop (f - at) octets)) f content) in
    drop-over f (take at content ++ octets) (drop n content)
    ∙ ap (λ k. drop f (take at content ++ octets) ++ drop (f - k) (drop n content)) both
    ∙ ap (λ ys. ys ++ drop (f - n) (drop n content)) (
    drop-over f (take at content) octets
    ∙ ap (λ k. drop f (take at content) ++ drop (f - k) octets) front
    ∙ ap (λ xs. xs ++ drop (f - at) octets) (take-over f at content)
    )
    ∙ ap (λ zs. (take (at - f) (drop f content) ++ drop (f - at) octets) ++ zs) last

-- of octets with others of one value behind them
drop-padded : (f : ℕ) (xs : List ℕ) (n v : ℕ)
    → drop f (xs ++ replicate n v)
    ≡ drop f xs ++ replicate (length xs + n - f - length (drop f xs)) v
drop-padded f xs n v =
    let left : n - (f - length xs) ≡ length xs + n - f - length (drop f xs) =
    omega (arith, length-drop f xs) in
    drop-over f xs (replicate n v)
    ∙ ap (λ ys. drop f xs ++ ys) (drop-replicate (f - length xs) n v)
    ∙ ap (λ k. drop f xs ++ replicate k v) left

-- ---- within what is there

pub length-put_at : (content : List ℕ) (at : ℕ) (octets : List ℕ)
    → at + length octets ≤ length content
    → length (put_at content at octets) ≡ length content
length-put_at content at octets fit =
    let n = at + length octets in
    omega (
      arith,
      fit,
      length-append (take at content ++ octets) (drop n content),
      length-append (take at content) octets,
      length-take at content,
      length-drop n content,
    )

put_at-behind : (content more : List ℕ) (at : ℕ) (octets : List ℕ)
    → at + length octets ≤ length content
    → put_at (content ++ more) at octets ≡ put_at content at octets ++ more
put_at-behind content more at octets fit =
    let n = at + length octets in
    ap (λ xs. (xs ++ octets) ++ drop n (content ++ more))
    (take-append-le at content more (omega (arith, fit)))
    ∙ ap (λ ys. (take at content ++ octets) ++ ys) (drop-append-le n content more fit)
    ∙ sym (append_assoc (take at content ++ octets) (drop n content) more)

pub fit-put_at : (content : List ℕ) (a : Area) (rest : List Area)
    → AreasFit (length content) (a ∷ rest)
    → AreasFit (length (put_at content a.address a.octets)) rest
fit-put_at content a rest fit =
    subst (λ n. AreasFit n rest) (sym (length-put_at content a.address a.octets fit.0)) fit.1

pub length-put_all : (content : List ℕ) (areas : List Area)
    → AreasFit (length content) areas
    → length (put_all content areas) ≡ length content
length-put_all content [] fit = refl
length-put_all content (a ∷ rest) fit =
    length-put_all (put_at content a.address a.octets) rest (fit-put_at content a rest fit)
    ∙ length-put_at content a.address a.octets fit.0

-- what stands behind the areas stays
put_all-behind : (content more : List ℕ) (areas : List Area)
    → AreasFit (length content) areas
    → put_all (content ++ more) areas ≡ put_all content areas ++ more
put_all-behind content more [] fit = refl
put_all-behind content more (a ∷ rest) fit =
    ap (λ c. put_all c rest) (put_at-behind content more a.address a.octets fit.0)
    ∙ put_all-behind (put_at content a.address a.octets) more rest (fit-put_at content a rest fit)

put_all-append : (content : List ℕ) (xs ys : List Area)
    → put_all content (xs ++ ys) ≡ put_all (put_all content xs) ys
put_all-append content [] ys = refl
put_all-append content (a ∷ xs) ys = put_all-append (put_at content a.address a.octets) xs ys

-- ---- one area more

pub extent-more : (areas : List Area) (a : Area) → extent (areas ++ a ∷ []) ≡ max (extent areas) (end_of a)
extent-more [] a = omega arith
extent-more (b ∷ areas) a = let rest = extent-more areas a in omega (arith, rest)

pub extent-fits : (n : ℕ) (areas : List Area) → extent areas ≤ n → AreasFit n areas
extent-fits n [] h = tt
extent-fits n (a ∷ areas) h = (omega (arith, h), extent-fits n areas (omega (arith, h)))

-- the image of an area more: the one of the others, made longer, with the area put over it as far as
-- it stands behind the image's first address
pub image-more : (from fill : ℕ) (areas : List Area) (a : Area) (old : List ℕ)
    → old ≡ image from fill areas
    → put_at
    (old ++ replicate (max (extent areas) (end_of a) - from - length old) fill)
    (a.address - from) (drop (from - a.address) a.octets)
    ≡ image from fill (areas ++ a ∷ [])
unfolding image
image-more from fill areas a old is =
    let e = extent areas in
    let n = max e (end_of a) - e in
    let xs = put_all (replicate e fill) areas in
    let long : length (replicate {A = ℕ} e fill) ≡ e = length-replicate e fill in
    let fit : AreasFit (length (replicate {A = ℕ} e fill)) areas =
    extent-fits (length (replicate {A = ℕ} e fill)) areas (omega (arith, long)) in
    let size : length xs ≡ e = length-put_all (replicate e fill) areas fit ∙ long in
    let size-n : length (replicate {A = ℕ} n fill) ≡ n = length-replicate n fill in
    let within : a.address + length a.octets ≤ length (xs ++ replicate n fill) =
    omega (arith, size, size-n, length-append xs (replicate n fill)) in
    let base : replicate (extent (areas ++ a ∷ [])) fill ≡ replicate e fill ++ replicate n fill =
    ap (λ k. replicate k fill) (extent-more areas a ∙ omega arith)
    ∙ sym (replicate-append-replicate e n fill) in
    let whole : put_all (replicate (extent (areas ++ a ∷ [])) fill) (areas ++ a ∷ [])
    ≡ put_at (xs ++ replicate n fill) a.address a.octets =
    ap (λ c. put_all c (areas ++ a ∷ [])) base
    ∙ put_all-append (replicate e fill ++ replicate n fill) areas (a ∷ [])
    ∙ ap (λ c. put_at c a.address a.octets)
    (put_all-behind (replicate e fill) (replicate n fill) areas fit) in
    let padded : old ++ replicate (max e (end_of a) - from - length old) fill
    ≡ drop from (xs ++ replicate n fill) =
    ap (λ o. o ++ replicate (max e (end_of a) - from - length o) fill) is
    ∙ ap (λ k. drop from xs ++ replicate (k - from - length (drop from xs)) fill)
    (omega (arith, size))
    ∙ sym (drop-padded from xs n fill) in
    ap (λ c. put_at c (a.address - from) (drop (from - a.address) a.octets)) padded
    ∙ sym (drop-put_at from (xs ++ replicate n fill) a.address a.octets within)
    ∙ ap (λ c. drop from c) (sym whole)

-- the image of no areas
pub image-none : (from fill : ℕ) → [] ≡ image from fill []
unfolding image
image-none from fill = sym (drop_all from [] (omega arith))
