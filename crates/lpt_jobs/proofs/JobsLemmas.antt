-- Jobs that change: which were claimed, and their order.
use Rattle.std.proofs.Common.{◌≡◌, ◌≢◌, ◌∙◌, refl, sym, ap, subst, ℕ, zero, suc, ◌+◌, ◌-◌, ◌^◌, ◌<◌, ◌≤◌, Bool, true, false, cond, if◌then◌else◌, List, [], ◌∷◌, ◌++◌, length, get_or, set, None, IsSome, nat_lt, arith}
use Rattle.std.specs.List.{slice_get}
use Rattle.std.specs.Option.{option_map, option_map_or, option_and_then}
use Rattle.std.proofs.lemmas.Bool.{cases_eq, false≢true}
use Rattle.std.proofs.lemmas.List.{get_or_append_left, get_or-set_same, get_or-set_other, length-set}
use Rattle.std.proofs.lemmas.List.Folds.{prefix_len-set, prefix_len-append}
use Rattle.std.proofs.lemmas.List.Sums.{prefix_len_is, prefix_len_passes}
use Rattle.std.proofs.Math.ListN.{get_or-append, length-append}
use Rattle.std.proofs.Math.Seq.{get_or-append_seam}
use Rattle.lpt_jobs.specs.declared.job.Job.{Job}
use Rattle.lpt_jobs.specs.declared.job.Job.TheVariants.{Waiting, Claimed, Committed}
use Rattle.lpt_jobs.specs.Jobs.{Jobs, claimed_in, was_claimed, message_in, oldest, oldest_unclaimed, is_out, is_claimed, AreInOrder}
use Rattle.lpt_jobs.specs.JobsInside.{IsKept}

-- ---- a claim

-- where the message of a job is there, the job stands in the queue
pub some-within : (f : List ℕ → ℕ × List ℕ) (jobs : List Job) (i : ℕ)
    → IsSome (option_map f (option_and_then message_in (slice_get jobs i)))
    → i < length jobs
some-within f [] i is = absurd (false≢true is)
some-within f (j ∷ jobs) zero is = omega arith
some-within f (j ∷ jobs) (suc i) is = omega (arith, some-within f jobs i is)

-- the message of the job at a place
pub message-at : (jobs : List Job) (i : ℕ) (d : Job)
    → i < length jobs
    → option_and_then message_in (slice_get jobs i) ≡ message_in (get_or jobs i d)
message-at [] i d lt = absurd (omega arith)
message-at (j ∷ jobs) zero d lt = refl
message-at (j ∷ jobs) (suc i) d lt = message-at jobs i d (omega arith)

-- the oldest job that waits, by the count of those before it
pub unclaimed-at : (q : Jobs) (claimed : ℕ) (j : Job)
    → claimed ≡ claimed_in q.jobs
    → claimed < length q.jobs
    → j ≡ get_or q.jobs claimed j
    → oldest_unclaimed q ≡ option_map {U = ℕ × List ℕ} (λ m. (q.first + claimed, m)) (message_in j)
unclaimed-at q claimed j count some is =
    let found : oldest q.jobs ≡ message_in j =
    ap (λ i. option_and_then message_in (slice_get q.jobs i)) (sym count)
    ∙ message-at q.jobs claimed j some ∙ ap message_in (sym is) in
    λ i. option_map {U = ℕ × List ℕ} (λ m. (q.first + sym count i, m)) (found i)

-- one job more was claimed once the oldest that waits is
pub claimed_in-claim : (jobs : List Job) (j : Job)
    → AreInOrder jobs
    → claimed_in jobs < length jobs
    → was_claimed j ≡ true
    → claimed_in (set jobs (claimed_in jobs) j) ≡ claimed_in jobs + 1
claimed_in-claim jobs j order some is =
    prefix_len_is was_claimed (set jobs n j) (n + 1) j (omega (arith, length-set jobs n j)) before behind
  where
    n : ℕ
    n = claimed_in jobs

    before : (k : ℕ) → k < n + 1 → was_claimed (get_or (set jobs n j) k j) ≡ true
    before k lt =
        grind (
          arith,
          cases_eq k n,
          get_or-set_same jobs n j j,
          get_or-set_other jobs n k j j,
          prefix_len_passes was_claimed jobs k j,
        )

    behind : n + 1 < length (set jobs n j) → was_claimed (get_or (set jobs n j) (n + 1) j) ≡ false
    behind lt =
        ap was_claimed (get_or-set_other jobs n (n + 1) j j (λ e. absurd (omega arith)))
        ∙ order (n + 1) j (omega arith) (omega (arith, length-set jobs n j))

-- the other jobs stay as they were
pub other-jobs : (jobs : List Job) (k i : ℕ) (j : Job)
    → i ≢ k
    → slice_get (set jobs k j) i ≡ slice_get jobs i
other-jobs [] k i j other = refl
other-jobs (x ∷ jobs) zero zero j other = absurd (other refl)
other-jobs (x ∷ jobs) zero (suc i) j other = refl
other-jobs (x ∷ jobs) (suc k) zero j other = refl
other-jobs (x ∷ jobs) (suc k) (suc i) j other =
    other-jobs jobs k i j (λ e. other (ap suc e))

-- ---- the order

-- a job that was claimed stands before the oldest that waits
pub is_before : (jobs : List Job) (i : ℕ) (d : Job)
    → AreInOrder jobs
    → i < length jobs
    → was_claimed (get_or jobs i d) ≡ true
    → i < claimed_in jobs
is_before jobs i d order lt is = grind (arith, order i d)

-- a job that is written before the oldest that waits leaves the order
pub order-set : (jobs : List Job) (i : ℕ) (j : Job)
    → AreInOrder jobs
    → claimed_in jobs ≤ claimed_in (set jobs i j)
    → i < claimed_in (set jobs i j)
    → AreInOrder (set jobs i j)
order-set jobs i j order more before k d past lt =
    ap was_claimed (get_or-set_other jobs i k j d (λ e. absurd (omega arith)))
    ∙ order k d (omega arith) (omega (arith, length-set jobs i j))

-- ---- a release

-- a job that waits is counted by none
pub claimed_in-push : (jobs : List Job) (j : Job)
    → was_claimed j ≡ false
    → claimed_in (jobs ++ j ∷ []) ≡ claimed_in jobs
claimed_in-push jobs j is = grind (arith, prefix_len-append was_claimed jobs (j ∷ []), is)

-- at the end it leaves the order
pub order-push : (jobs : List Job) (j : Job)
    → AreInOrder jobs
    → was_claimed j ≡ false
    → AreInOrder (jobs ++ j ∷ [])
order-push jobs j order is k d past lt =
    grind (
      arith,
      claimed_in-push jobs j is,
      length-append jobs (j ∷ []),
      cases_eq k (length jobs),
      get_or-append jobs (j ∷ []) d k,
      get_or-append_seam jobs j [] d,
      order k d,
    )

-- ---- a commit

-- a worker has only what was claimed
is_out-claimed : (j : Job) → is_out j ≡ true → was_claimed j ≡ true
is_out-claimed (Waiting m) is = is
is_out-claimed Claimed is = refl
is_out-claimed (Committed r) is = refl

-- the same of the job at a place
is_out-at : (jobs : List Job) (i : ℕ) (d : Job)
    → option_map_or is_out (slice_get jobs i) false ≡ true
    → (i < length jobs) × (was_claimed (get_or jobs i d) ≡ true)
is_out-at [] i d is = absurd (false≢true is)
is_out-at (j ∷ jobs) zero d is = (omega arith, is_out-claimed j is)
is_out-at (j ∷ jobs) (suc i) d is =
    let rest = is_out-at jobs i d is in
    (omega (arith, rest.0), rest.1)

-- the job of a number that is claimed stands in the queue, and was claimed
pub is_claimed-at : (q : Jobs) (n : ℕ) (d : Job)
    → is_claimed q n ≡ true
    → (n - q.first < length q.jobs) × (was_claimed (get_or q.jobs (n - q.first) d) ≡ true)
is_claimed-at q n d is = by (nat_lt n q.first) is
  where
    by : (past : Bool)
        → option_map_or is_out
        (if past then None else slice_get q.jobs (n - q.first)) false ≡ true
        → (n - q.first < length q.jobs) × (was_claimed (get_or q.jobs (n - q.first) d) ≡ true)
    by true is = absurd (false≢true is)
    by false is = is_out-at q.jobs (n - q.first) d is

-- ---- what a queue keeps

-- a queue to which a message is released, where there was memory for it
pub kept-push : (first : ℕ) (jobs : List Job) (claimed : ℕ) (j : Job) (added : Bool)
    → IsKept first jobs claimed
    → was_claimed j ≡ false
    → first + length jobs + 1 < 2 ^ 64
    → IsKept first (if added then jobs ++ j ∷ [] else jobs) claimed
kept-push first jobs claimed j false kept is room = kept
kept-push first jobs claimed j true kept is room = record {
  count = kept.count ∙ sym (claimed_in-push jobs j is);
  order = order-push jobs j kept.order is;
  numbers = omega (arith, length-append jobs (j ∷ []));
}

-- a queue whose oldest job that waits is claimed
pub kept-claim : (first : ℕ) (jobs : List Job) (claimed : ℕ) (j : Job)
    → IsKept first jobs claimed
    → claimed < length jobs
    → was_claimed j ≡ true
    → IsKept first (set jobs claimed j) (claimed + 1)
kept-claim first jobs claimed j kept some is =
    let n = claimed_in jobs in
    let more : claimed_in (set jobs n j) ≡ n + 1
    = claimed_in-claim jobs j kept.order (omega (arith, kept.count)) is in
    let same : set jobs claimed j ≡ set jobs n j = ap (λ (i : ℕ). set jobs i j) kept.count in
    let order = order-set jobs n j kept.order (omega arith) (omega arith) in
    record {
      count = ap (λ i. i + 1) kept.count ∙ sym more ∙ ap claimed_in (sym same);
      order = subst AreInOrder (sym same) order;
      numbers = omega (arith, length-set jobs claimed j);
    }

-- a queue of which a job that was claimed is written over by another
pub kept-commit : (first : ℕ) (jobs : List Job) (claimed i : ℕ) (j d : Job)
    → IsKept first jobs claimed
    → i < length jobs
    → was_claimed (get_or jobs i d) ≡ true
    → was_claimed j ≡ true
    → IsKept first (set jobs i j) claimed
kept-commit first jobs claimed i j d kept within was is =
    let same : claimed_in (set jobs i j) ≡ claimed_in jobs
    = prefix_len-set was_claimed jobs i j d (is ∙ sym was) in
    let before = is_before jobs i d kept.order within was in
    record {
      count = kept.count ∙ sym same;
      order = order-set jobs i j kept.order (omega arith) (omega arith);
      numbers = omega (arith, length-set jobs i j);
    }

-- a queue whose front job leaves, which was claimed
pub kept-pop : (first : ℕ) (jobs rest : List Job) (claimed : ℕ) (j : Job)
    → IsKept first jobs claimed
    → jobs ≡ j ∷ rest
    → was_claimed j ≡ true
    → IsKept (first + 1) rest (claimed - 1)
kept-pop first jobs rest claimed j kept front is =
    let all : IsKept first (j ∷ rest) claimed
    = subst (λ (js : List Job). IsKept first js claimed) front kept in
    let n = claimed_in rest in
    let more : claimed_in (j ∷ rest) ≡ 1 + n = ap (λ b. cond b (1 + n) 0) is in
    record {
      count = omega (arith, all.count, more);
      order = λ k d past lt. all.order (suc k) d (omega (arith, more)) (omega arith);
      numbers = omega (arith, all.numbers);
    }

-- a queue whose youngest job leaves, which waits
pub kept-pop_back : (first : ℕ) (jobs rest : List Job) (claimed : ℕ) (j : Job)
    → IsKept first jobs claimed
    → jobs ≡ rest ++ j ∷ []
    → was_claimed j ≡ false
    → IsKept first rest claimed
kept-pop_back first jobs rest claimed j kept back is =
    let all : IsKept first (rest ++ j ∷ []) claimed
    = subst (λ (js : List Job). IsKept first js claimed) back kept in
    let more = length-append rest (j ∷ []) in
    record {
      count = all.count ∙ claimed_in-push rest j is;
      order = λ k d past lt.
          ap was_claimed (sym (get_or_append_left rest (j ∷ []) d k lt))
          ∙ all.order k d (omega (arith, claimed_in-push rest j is, past)) (omega (arith, more, lt));
      numbers = omega (arith, all.numbers, more);
    }
