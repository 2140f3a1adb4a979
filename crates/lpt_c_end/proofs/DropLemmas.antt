-- The oldest request of all that wasn't read is read as any message, and leaves.
use Rattle.std.proofs.Common.{◌≡◌, ◌∙◌, ap, refl, ℕ, ◌+◌, ◌-◌, Bool, true, false, if◌then◌else◌, List, [], ◌∷◌, length, drop, Option, Some, None, set, arith}
use Rattle.std.proofs.lemmas.List.{set-set}
use Rattle.std.specs.Option.{option_map}
use Rattle.lpt_packet.proofs.Readings.{eq_true}
use Rattle.lpt_memory.specs.Readings.{Source}
use Rattle.lpt_jobs.specs.Jobs.{Head, Jobs, Ready, after_claim, after_commit, claimed_in, head_of, next_claim, oldest, oldest_unclaimed, without_front}
use Rattle.lpt_jobs.specs.declared.job.Job.{Job}
use Rattle.lpt_jobs.specs.declared.job.Job.TheVariants.{Claimed, Committed}
use Rattle.lpt_node.specs.Jobs.{claimed_of, job_claimed, job_committed, refusal_apply, refusal_apply_of, refusal_claim, refusal_claim_of}
use Rattle.lpt_node.specs.Nodes.{NodeData}
use Rattle.lpt_events.specs.declared.config.Config.{Config}
use Rattle.lpt_c_end.specs.Changes.{read_as_by}
use Rattle.lpt_c_end.specs.Codes.{IsAnswer, node_code}
use Rattle.lpt_c_end.specs.Kept.{memories_refusal, sizes_in}
use Rattle.lpt_c_end.specs.declared.kept.Kept.{Kept}
use Rattle.lpt_c_end.specs.declared.kept.Kept.TheVariants.{Nowhere, Here, Elsewhere}

put_in_place : (q : Jobs) (r : Source)
    → after_commit (after_claim q) (next_claim q) r
    ≡ record { first = q.first; jobs = set q.jobs (claimed_in q.jobs) (Committed r) }
put_in_place q r =
    let k : ℕ = claimed_in q.jobs in
    let at : next_claim q - q.first ≡ k = omega arith in
    ap (λ (n : ℕ). record {
      first = q.first;
      jobs = set (set q.jobs k Claimed) n (Committed r);
    }) at
    ∙ ap (λ (js : List Job). record { first = q.first; jobs = js })
    (set-set q.jobs k Claimed (Committed r))

abbrev handed_in : NodeData → Source → Option (ℕ × List ℕ) → NodeData
handed_in d r o =
    (job_committed (claimed_of d o).0 (claimed_of d o).1.boot (claimed_of d o).1.job r).0

waits : (d : NodeData) (r : Source) (o : Option (List ℕ))
    → refusal_claim_of (option_map (λ m. (next_claim d.jobs, m)) o) ≡ None
    → handed_in d r (option_map (λ m. (next_claim d.jobs, m)) o)
    ≡ record d { jobs = after_commit (after_claim d.jobs) (next_claim d.jobs) r }
waits d r None none = absurd cc
waits d r (Some m) none =
    let counts : NodeData × Bool =
    (record d { jobs = after_commit (after_claim d.jobs) (next_claim d.jobs) r }, true) in
    let stale : NodeData × Bool = (record d { jobs = after_claim d.jobs }, false) in
    let chosen : Bool → NodeData × Bool = λ b. if b then counts else stale in
    ap (λ (b : Bool). (chosen b).0) (eq_true d.boot d.boot refl)

first_set : (js : List Job) (k n : ℕ) (r : Source)
    → refusal_claim_of (option_map (λ m. (k, m)) (oldest js)) ≡ None
    → n ≡ 0
    → (head_of (set js n (Committed r)) ≡ Ready r)
    × (drop 1 (set js n (Committed r)) ≡ drop 1 js)
first_set [] k n r free e = absurd cc
first_set (j ∷ js) k n r free e = (
  ap (λ (m : ℕ). head_of (set (j ∷ js) m (Committed r))) e,
  ap (λ (m : ℕ). drop 1 (set (j ∷ js) m (Committed r))) e,
)

-- the node once the oldest request that waits was read so
abbrev pub read_now : NodeData → Source → NodeData
read_now d r =
    (job_committed (job_claimed d).0 (job_claimed d).1.boot (job_claimed d).1.job r).0

-- it stands at the front then, and can leave
pub record IsReadFirst (d : NodeData) (r : Source) : Type 0 where
  pub ready : refusal_apply (read_now d r) ≡ None
  pub is : record (read_now d r) { jobs = without_front (read_now d r).jobs }
      ≡ record d { jobs = without_front d.jobs }

pub read_first : (d : NodeData) (r : Source)
    → refusal_claim d ≡ None
    → claimed_in d.jobs.jobs ≡ 0
    → IsReadFirst d r
read_first d r free first =
    let q : Jobs = record {
      first = d.jobs.first;
      jobs = set d.jobs.jobs (claimed_in d.jobs.jobs) (Committed r);
    } in
    let read : read_now d r ≡ record d { jobs = q } =
    waits d r (oldest d.jobs.jobs) free
    ∙ ap (λ (x : Jobs). record d { jobs = x }) (put_in_place d.jobs r) in
    let there =
    first_set d.jobs.jobs (next_claim d.jobs) (claimed_in d.jobs.jobs) r free first in
    record {
      ready =
          ap refusal_apply read ∙ ap (λ (h : Head). refusal_apply_of h) there.0;
      is =
          ap (λ (n : NodeData). record n { jobs = without_front n.jobs }) read
          ∙ ap (λ (js : List Job). record d {
            jobs = record { first = d.jobs.first + 1; jobs = js };
          }) there.1;
    }

-- if as many wait as there are, none was read
pub none_read : (js : List Job) → length js ≡ length js - claimed_in js → claimed_in js ≡ 0
none_read [] e = refl
none_read (j ∷ js) e = grind (arith, e)

-- an end that read the oldest request of all as this message can let it go
pub record CanLetGo (d at : NodeData) : Type 0 where
  pub ready : refusal_apply at ≡ None
  pub is : record at { jobs = without_front at.jobs }
      ≡ record d { jobs = without_front d.jobs }

of_reading : (d at : NodeData) (r : Source) → at ≡ read_now d r → IsReadFirst d r → CanLetGo d at
of_reading d at r same it = record {
  ready = ap refusal_apply same ∙ it.ready;
  is = ap (λ (n : NodeData). record n { jobs = without_front n.jobs }) same ∙ it.is;
}

-- what answers 0 wasn't refused
claims : (o : Option (ℕ × List ℕ)) (code : ℕ)
    → code ≡ 0
    → IsAnswer (node_code (refusal_claim_of o)) code
    → refusal_claim_of o ≡ None
claims None code zero is = absurd (omega (arith, zero, is))
claims (Some x) code zero is = refl

pub lets_go : (c : Config) (kept : Kept) (d at : NodeData) (m : List ℕ) (code : ℕ)
    → code ≡ 0
    → IsAnswer (memories_refusal kept (node_code (refusal_claim d))) code
    → length d.jobs.jobs ≡ length d.jobs.jobs - claimed_in d.jobs.jobs
    → at ≡ read_as_by m c (sizes_in kept) d
    → CanLetGo d at
lets_go c Nowhere d at m code zero is few same = absurd (omega (arith, zero, is))
lets_go c (Here ms) d at m code zero is few same =
    of_reading d at _ same
    (read_first d _ (claims (oldest_unclaimed d.jobs) code zero is) (none_read d.jobs.jobs few))
lets_go c (Elsewhere sizes) d at m code zero is few same =
    of_reading d at _ same
    (read_first d _ (claims (oldest_unclaimed d.jobs) code zero is) (none_read d.jobs.jobs few))
