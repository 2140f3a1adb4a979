-- A job that is claimed.
use Rattle.std.proofs.Common.{◌≡◌, ◌∙◌, refl, sym, ap, ℕ, zero, suc, ◌+◌, ◌-◌, Bool, true, false, cond, List, [], ◌∷◌, Option, Some, None, IsSome, nat_lt, set, arith}
use Rattle.std.specs.List.{slice_get}
use Rattle.std.specs.Option.{option_map, option_map_or, option_and_then}
use Rattle.std.proofs.lemmas.Bool.Decides.{nat_tests}
use Rattle.lpt_jobs.specs.declared.job.Job.{Job}
use Rattle.lpt_jobs.specs.declared.job.Job.TheVariants.{Claimed}
use Rattle.lpt_jobs.specs.Jobs.{Jobs, after_claim, claimed_in, is_claimed, is_out, message_in, oldest, oldest_unclaimed}
use Rattle.lpt_node.specs.Jobs.{refusal_claim_of}

-- a worker has the job that was claimed
taken : (jobs : List Job) (k : ℕ) (x : ℕ × List ℕ) (n : ℕ)
    → option_map {U = ℕ × List ℕ} (λ m. (n, m)) (option_and_then message_in (slice_get jobs k))
    ≡ Some x
    → option_map_or is_out (slice_get (set jobs k Claimed) k) false ≡ true
taken [] k x n is = cc
taken (j ∷ jobs) zero x n is = refl
taken (j ∷ jobs) (suc k) x n is = taken jobs k x n is

number : (o : Option (List ℕ)) (x : ℕ × List ℕ) (n : ℕ)
    → option_map {U = ℕ × List ℕ} (λ m. (n, m)) o ≡ Some x
    → x.0 ≡ n
number None x n is = cc
number (Some m) x n is =
    let same : (n, m) ≡ x = cc in
    sym (ap (λ (y : ℕ × List ℕ). y.0) same)

at_place : (jobs : List Job) (first k : ℕ)
    → cond (nat_lt (first + k) first) None (slice_get jobs (first + k - first)) ≡ slice_get jobs k
at_place jobs first k =
    let not_before : nat_lt (first + k) first ≡ false = grind (arith, nat_tests) in
    let place : first + k - first ≡ k = omega arith in
    ap (λ (b : Bool). cond b None (slice_get jobs (first + k - first))) not_before
    ∙ ap (slice_get jobs) place

-- where a claim isn't refused, a job waits
pub one_waits : (u : Option (ℕ × List ℕ)) → refusal_claim_of u ≡ None → IsSome u
one_waits None free = absurd cc
one_waits (Some x) free = refl

-- the job that waited longest is a worker's once it is claimed
pub is_claimed-claimed : (q : Jobs) (x : ℕ × List ℕ)
    → oldest_unclaimed q ≡ Some x
    → is_claimed (after_claim q) x.0 ≡ true
is_claimed-claimed q x is =
    let k = claimed_in q.jobs in
    ap (is_claimed (after_claim q)) (number (oldest q.jobs) x (q.first + k) is)
    ∙ ap (λ (o : Option Job). option_map_or is_out o false)
    (at_place (set q.jobs k Claimed) q.first k)
    ∙ taken q.jobs k x (q.first + k) is
