-- The jobs of a list of messages: one more, one that changes, and the front.
use Rattle.std.proofs.Common.{◌≡◌, ◌≢◌, ◌∙◌, ap, sym, refl, ℕ, zero, suc, ◌+◌, ◌<◌, ◌≤◌, nat_lt, nat_le, Bool, true, false, not, cond, List, [], ◌∷◌, ◌++◌, length, set, drop, Option, Some, None, is_some, arith}
use Rattle.std.specs.Prelude.{slice_get}
use Rattle.std.specs.Option.{option_map}
use Rattle.std.proofs.lemmas.Bool.Decides.{nat_tests}
use Rattle.lpt_jobs.specs.declared.job.Job.{Job}
use Rattle.lpt_jobs.specs.Jobs.{Head, NoJob, claimed_in, was_claimed, head_of, head_by}
use Rattle.lpt_refinement.specs.Shows.{jobs_from}

-- ---- places

-- what is behind the first ones stands at a later place of the whole list
pub slice_get-drop : {A : Type 0} (xs : List A) (n k at : ℕ)
    → at ≡ n + k
    → slice_get (drop n xs) k ≡ slice_get xs at
slice_get-drop xs zero k at e = ap (slice_get xs) (sym (let s : at ≡ k = omega arith in s))
slice_get-drop [] (suc n) k at e = refl
slice_get-drop (x ∷ xs) (suc n) k zero e = absurd (omega arith)
slice_get-drop (x ∷ xs) (suc n) k (suc at) e = slice_get-drop xs n k at (omega arith)

-- without the first of them
pub drop_one : {A : Type 0} (xs : List A) (n : ℕ) → drop 1 (drop n xs) ≡ drop (n + 1) xs
drop_one xs n = go xs n (n + 1) (omega arith) where
  go : {A : Type 0} (xs : List A) (n m : ℕ) → m ≡ suc n → drop 1 (drop n xs) ≡ drop m xs
  go xs n zero e = absurd (omega arith)
  go [] zero (suc m) e = refl
  go (x ∷ xs) zero (suc m) e = ap (λ j. drop j xs) (sym (let s : m ≡ 0 = omega arith in s))
  go [] (suc n) (suc m) e = refl
  go (x ∷ xs) (suc n) (suc m) e = go xs n m (omega arith)

-- a place of a list has something exactly before its end
pub is_some-slice_get : {A : Type 0} (xs : List A) (n : ℕ)
    → is_some (slice_get xs n) ≡ not (nat_le (length xs) n)
is_some-slice_get [] n = let e : nat_le 0 n ≡ true = grind (arith, nat_tests) in sym (ap not e)
is_some-slice_get (x ∷ xs) zero =
    let e : nat_le (suc (length xs)) 0 ≡ false = grind (arith, nat_tests) in
    sym (ap not e)
is_some-slice_get (x ∷ xs) (suc n) =
    let e : nat_le (suc (length xs)) (suc n) ≡ nat_le (length xs) n = grind (arith, nat_tests) in
    is_some-slice_get xs n ∙ sym (ap not e)

-- ---- jobs of messages

-- one message more is one job more
pub jobs_from-append : (f : ℕ → List ℕ → Job) (n : ℕ) (ms : List (List ℕ)) (m : List ℕ)
    (at : ℕ)
    → at ≡ n + length ms
    → jobs_from f n (ms ++ m ∷ [])
    ≡ jobs_from f n ms ++ f at m ∷ []
jobs_from-append f n [] m at e =
    let same : n ≡ at = omega arith in
    ap (λ k. f k m ∷ []) same
jobs_from-append f n (x ∷ ms) m at e =
    ap (λ js. f n x ∷ js)
    (jobs_from-append f (suc n) ms m at (omega arith))

-- the job at a place
pub slice_get-jobs_from : (f : ℕ → List ℕ → Job) (n : ℕ) (ms : List (List ℕ)) (k at : ℕ)
    → at ≡ n + k
    → slice_get (jobs_from f n ms) k
    ≡ option_map (f at) (slice_get ms k)
slice_get-jobs_from f n [] k at e = refl
slice_get-jobs_from f n (x ∷ ms) zero at e =
    let same : n ≡ at = omega arith in
    ap (λ i. Some (f i x)) same
slice_get-jobs_from f n (x ∷ ms) (suc k) at e =
    slice_get-jobs_from f (suc n) ms k at (omega arith)

-- without the first job
pub drop-jobs_from : (f : ℕ → List ℕ → Job) (n : ℕ) (ms : List (List ℕ))
    → drop 1 (jobs_from f n ms) ≡ jobs_from f (n + 1) (drop 1 ms)
drop-jobs_from f n [] = refl
drop-jobs_from f n (m ∷ ms) =
    let e : suc n ≡ n + 1 = omega arith in
    ap (λ k. jobs_from f k ms) e

-- jobs that agree from a number on
jobs_from-same : (f g : ℕ → List ℕ → Job) (n : ℕ) (ms : List (List ℕ))
    → ((i : ℕ) (m : List ℕ) → n ≤ i → f i m ≡ g i m)
    → jobs_from f n ms ≡ jobs_from g n ms
jobs_from-same f g n [] same = refl
jobs_from-same f g n (m ∷ ms) same =
    let here : f n m ≡ g n m = same n m (omega arith) in
    let rest = jobs_from-same f g (suc n) ms (λ i x late. same i x (omega arith)) in
    λ i. here i ∷ rest i

-- one job is written over, and the others stay
pub set-jobs_from : (f g : ℕ → List ℕ → Job) (job : Job) (n : ℕ)
    (ms : List (List ℕ)) (k at : ℕ)
    → at ≡ n + k
    → ((i : ℕ) (m : List ℕ) → i ≢ at → f i m ≡ g i m)
    → ((m : List ℕ) → slice_get ms k ≡ Some m → job ≡ g at m)
    → set (jobs_from f n ms) k job ≡ jobs_from g n ms
set-jobs_from f g job n [] k at e same new = refl
set-jobs_from f g job n (x ∷ ms) zero at e same new =
    let here : at ≡ n = omega arith in
    let written : job ≡ g n x = new x refl ∙ ap (λ j. g j x) here in
    let rest : jobs_from f (suc n) ms ≡ jobs_from g (suc n) ms =
    jobs_from-same f g (suc n) ms (λ i m late. same i m (λ s. absurd (omega arith))) in
    λ i. written i ∷ rest i
set-jobs_from f g job n (x ∷ ms) (suc k) at e same new =
    let here : f n x ≡ g n x = same n x (λ s. absurd (omega arith)) in
    let rest = set-jobs_from f g job (suc n) ms k at (omega arith) same new in
    λ i. here i ∷ rest i

-- ---- claimed jobs, and the front

claimed_first : (t : Bool) (k : ℕ) → t ≡ true → cond t (1 + k) 0 ≡ 1 + k
claimed_first t k e = ap (λ u. cond u (1 + k) 0) e

none_claimed : (t : Bool) (k : ℕ) → t ≡ false → cond t (1 + k) 0 ≡ 0
none_claimed t k e = ap (λ u. cond u (1 + k) 0) e

-- where exactly the jobs before a number are claimed, that is the next to be claimed
pub claimed_in-jobs_from : (f : ℕ → List ℕ → Job) (claimed n : ℕ) (ms : List (List ℕ))
    → ((i : ℕ) (m : List ℕ) → was_claimed (f i m) ≡ nat_lt i claimed)
    → n ≤ claimed
    → claimed ≤ n + length ms
    → n + claimed_in (jobs_from f n ms) ≡ claimed
claimed_in-jobs_from f claimed n [] marks least most = omega arith
claimed_in-jobs_from f claimed n (m ∷ ms) marks least most =
    go (claimed_in-jobs_from f claimed (suc n) ms marks) (nat_lt n claimed) refl where
      rest : ℕ
      rest = claimed_in (jobs_from f (suc n) ms)

      go : (suc n ≤ claimed → claimed ≤ suc n + length ms → suc n + rest ≡ claimed)
          → (t : Bool)
          → nat_lt n claimed ≡ t
          → n + cond (was_claimed (f n m)) (1 + rest) 0 ≡ claimed
      go others true e =
          let below : n < claimed = grind (arith, nat_tests) in
          let here = claimed_first (was_claimed (f n m)) rest (marks n m ∙ e) in
          let after : suc n + rest ≡ claimed = others (omega arith) (omega arith) in
          omega arith
      go others false e =
          let past : claimed ≤ n = grind (arith, nat_tests) in
          let here = none_claimed (was_claimed (f n m)) rest (marks n m ∙ e) in
          omega arith

-- what stands at the front, by the first message
abbrev pub head_from : (List ℕ → Job) → Option (List ℕ) → Head
head_from job None = NoJob
head_from job (Some m) = head_by (job m)

pub head_of-jobs_from : (f : ℕ → List ℕ → Job) (n : ℕ) (ms : List (List ℕ))
    → head_of (jobs_from f n ms) ≡ head_from (f n) (slice_get ms 0)
head_of-jobs_from f n [] = refl
head_of-jobs_from f n (m ∷ ms) = refl
