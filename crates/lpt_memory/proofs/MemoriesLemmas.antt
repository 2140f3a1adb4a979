-- Memories, looked up, compared and written.
use Rattle.std.proofs.Common.{◌≡◌, ◌≢◌, ◌↔◌, IsTrue, ◌∙◌, ap, sym, subst, ℕ, suc, ◌+◌, ◌<◌, ◌==◌, Bool, true, false, List, [], ◌∷◌, ◌++◌, length, take, drop, get_or, set, refl, arith, Some, eq-eqb, cond}
use Rattle.std.proofs.lemmas.Grind.{common_steps}
use Rattle.std.proofs.lemmas.Bool.Decides.{nat_tests}
use Rattle.std.proofs.lemmas.List.{set_split, at_drop_more}
use Rattle.std.proofs.Math.Seq.{map-set_same}
use Rattle.lpt_memory.specs.declared.request.Area.{Area}
use Rattle.lpt_memory.specs.declared.request.AreaRange.{AreaRange}
use Rattle.lpt_memory.specs.Effects.{octets_of}
use Rattle.lpt_memory.specs.Meanings.{Sizes, size_of}
use Rattle.lpt_memory.specs.Memories.{Contents, size, sizes_of, put_all, memories_loaded}
use Rattle.lpt_memory.specs.MemoriesInside.{same_sizes}
use Rattle.lpt_memory.specs.Ranges.{RangesFit, ReadFits}

-- ---- sizes

-- lists of other lengths aren't the same
pub same_sizes-lengths : (xs ys : Sizes) → length xs ≢ length ys → same_sizes xs ys ≡ false
same_sizes-lengths [] [] h = absurd (h refl)
same_sizes-lengths [] (y ∷ ys) h = refl
same_sizes-lengths (x ∷ xs) [] h = refl
same_sizes-lengths (x ∷ xs) (y ∷ ys) h =
    let rest : same_sizes xs ys ≡ false = same_sizes-lengths xs ys (λ e. h (ap suc e)) in
    grind (arith, common_steps, nat_tests)

-- a list is the same as itself
pub same_sizes-refl : (xs : Sizes) → same_sizes xs xs ≡ true
same_sizes-refl [] = refl
same_sizes-refl (x ∷ xs) =
    let rest : same_sizes xs xs ≡ true = same_sizes-refl xs in
    grind (arith, common_steps, nat_tests)

-- lists that are found the same are equal
pub same_sizes-true : (xs ys : Sizes) → same_sizes xs ys ≡ true → xs ≡ ys
same_sizes-true [] [] e = refl
same_sizes-true [] (y ∷ ys) e = absurd cc
same_sizes-true (x ∷ xs) [] e = absurd cc
same_sizes-true (x ∷ xs) (y ∷ ys) e =
    let rest : same_sizes xs ys ≡ true → xs ≡ ys = same_sizes-true xs ys in
    grind (arith, common_steps, nat_tests)

-- a memory has as many octets as its size says
length-octets_of : (id n : ℕ) (ms : Contents)
    → size_of id (sizes_of ms) ≡ Some n
    → length (octets_of id ms) ≡ n
length-octets_of id n [] e = absurd cc
length-octets_of id n (m ∷ ms) e =
    let rest : size_of id (sizes_of ms) ≡ Some n → length (octets_of id ms)
    ≡ n = length-octets_of id n ms in
    grind (arith, common_steps, nat_tests)

-- ranges within a memory's size are within its octets
pub RangesFit-octets_of : (id : ℕ) (ranges : List AreaRange) (ms : Contents)
    → ReadFits (sizes_of ms) id ranges
    → RangesFit (length (octets_of id ms)) ranges
RangesFit-octets_of id ranges ms fits =
    subst (λ (n : ℕ). RangesFit n ranges)
    (sym (length-octets_of id fits.size ms fits.known)) fits.fit

-- ---- loads

-- what was put into the memory that was found is a load into all
pub loaded-found : (id : ℕ) (areas : List Area) (ms : Contents) (i : ℕ) (e : ℕ × List ℕ)
    (put : List ℕ)
    → i < length ms
    → (get_or ms i e).0 ≡ id
    → put ≡ put_all (get_or ms i e).1 areas
    → take i ms ++ memories_loaded id areas (drop i ms) ≡ memories_loaded id areas ms
    → set ms i ((get_or ms i e).0, put) ≡ memories_loaded id areas ms
loaded-found id areas ms i e put within found is_put left =
    let m = get_or ms i e in
    let test : (m.0 == id) ≡ true = eq-eqb m.0 id found in
    let step = at_drop_more (memories_loaded id areas) ms i e within in
    let chosen : memories_loaded id areas (m ∷ drop (i + 1) ms)
    ≡ (m.0, put_all m.1 areas) ∷ drop (i + 1) ms =
    ap (λ b. cond b ((m.0, put_all m.1 areas) ∷ drop (i + 1) ms)
    (m ∷ memories_loaded id areas (drop (i + 1) ms))) test in
    let next : suc i ≡ i + 1 = omega arith in
    set_split ms i (m.0, put) within
    ∙ ap (λ (p : List ℕ). take i ms ++ (m.0, p) ∷ drop (suc i) ms) is_put
    ∙ ap (λ (k : ℕ). take i ms ++ (m.0, put_all m.1 areas) ∷ drop k ms) next
    ∙ ap (λ (rest : Contents). take i ms ++ rest) (sym (step ∙ chosen))
    ∙ left

-- octets of the same number leave the sizes as they were
pub sizes_of-set : (ms : Contents) (i : ℕ) (e : ℕ × List ℕ) (put : List ℕ)
    → length put ≡ length (get_or ms i e).1
    → sizes_of (set ms i ((get_or ms i e).0, put)) ≡ sizes_of ms
sizes_of-set ms i e put same =
    map-set_same size ms i ((get_or ms i e).0, put) e (ap (λ (n : ℕ). ((get_or ms i e).0, n)) same)

-- what is computed of two lists says whether they are equal
pub same_sizes-decides : (b : Bool) (xs ys : Sizes)
    → b ≡ same_sizes xs ys
    → IsTrue b ↔ (xs ≡ ys)
same_sizes-decides b xs ys e = (
  λ t. same_sizes-true xs ys (sym e ∙ t),
  λ same. e ∙ ap (λ (zs : Sizes). same_sizes zs ys) same ∙ same_sizes-refl ys,
)
