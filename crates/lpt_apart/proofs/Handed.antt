-- A reading that is handed in at once, and one of no octets, which means nothing.
use Rattle.std.proofs.Common.{◌≡◌, ◌∙◌, ap, refl, ℕ, ◌-◌, Bool, true, false, if◌then◌else◌, List, [], Option, Some, None, set, arith}
use Rattle.std.proofs.lemmas.List.{set-set}
use Rattle.std.specs.Option.{option_map}
use Rattle.lpt_packet.specs.Packets.{packet_seen, spelling}
use Rattle.lpt_packet.proofs.Readings.{eq_true}
use Rattle.lpt_pus.specs.Commands.{command_in, Command}
use Rattle.lpt_memory.specs.Meanings.{command_meaning, meaning, Silent, Sizes}
use Rattle.lpt_memory.specs.Readings.{Source}
use Rattle.lpt_jobs.specs.Jobs.{Jobs, after_claim, after_commit, claimed_in, next_claim}
use Rattle.lpt_jobs.specs.declared.job.Job.{Job}
use Rattle.lpt_jobs.specs.declared.job.Job.TheVariants.{Claimed, Committed}
use Rattle.lpt_node.specs.Jobs.{claimed_of, job_committed, refusal_claim_of}
use Rattle.lpt_node.specs.Nodes.{NodeData}

-- a claim and a commit of a reading put it in the place of the oldest that waits
pub put_in_place : (q : Jobs) (r : Source)
    → after_commit (after_claim q) (next_claim q) r
    ≡ record { first = q.first; jobs = set q.jobs (claimed_in q.jobs) (Committed r) }
put_in_place q r =
    let k : ℕ = claimed_in q.jobs in
    let at : next_claim q - q.first ≡ k = omega arith in
    ap (λ (n : ℕ). record {
      first = q.first;
      jobs = set (set q.jobs k Claimed) n (Committed r);
    }) at
    ∙ ap (λ (js : List Job). record { first = q.first; jobs = js })
    (set-set q.jobs k Claimed (Committed r))

-- what a reading of this message makes of an end in which that job waits longest
abbrev handed_in : NodeData → Source → Option (ℕ × List ℕ) → NodeData
handed_in d r o =
    (job_committed (claimed_of d o).0 (claimed_of d o).1.boot (claimed_of d o).1.job r).0

pub waits : (d : NodeData) (r : Source) (o : Option (List ℕ))
    → refusal_claim_of (option_map (λ m. (next_claim d.jobs, m)) o) ≡ None
    → handed_in d r (option_map (λ m. (next_claim d.jobs, m)) o)
    ≡ record d { jobs = after_commit (after_claim d.jobs) (next_claim d.jobs) r }
waits d r None none = absurd cc
waits d r (Some m) none =
    let counts : NodeData × Bool =
    (record d { jobs = after_commit (after_claim d.jobs) (next_claim d.jobs) r }, true) in
    let stale : NodeData × Bool = (record d { jobs = after_claim d.jobs }, false) in
    let chosen : Bool → NodeData × Bool = λ b. if b then counts else stale in
    ap (λ (b : Bool). (chosen b).0) (eq_true d.boot d.boot refl)

-- no octets are a telecommand
pub no_command : (apid : ℕ) → command_in apid [] ≡ None
unfolding command_in packet_seen spelling
no_command apid = refl

-- and mean nothing
pub means_nothing : (apid : ℕ) (sizes : Sizes) → meaning apid sizes [] ≡ Silent
unfolding meaning
means_nothing apid sizes =
    ap (λ (o : Option Command). command_meaning sizes o) (no_command apid)
