-- Two ends apart keep the promise, since they are a world.
use Rattle.std.proofs.Common.{◌≡◌, ◌∙◌, ap, sym, subst, ℕ, nat_lt, Bool, true, false, if◌then◌else◌, List, [], ◌∷◌, drop, Some}
use Rattle.std.specs.List.{slice_get}
use Rattle.std.proofs.lemmas.List.{drop-map}
use Rattle.lpt_memory.specs.Memories.{Contents}
use Rattle.lpt_memory.specs.Readings.{Source}
use Rattle.lpt_events.specs.Configs.{IsConfig}
use Rattle.lpt_events.specs.declared.config.Config.{Config}
use Rattle.lpt_jobs.specs.Jobs.{head_by, head_of, Ready}
use Rattle.lpt_jobs.specs.declared.job.Job.TheVariants.{Waiting, Claimed, Committed}
use Rattle.lpt_journal.specs.Jobs.{left_by, jobs}
use Rattle.lpt_journal.specs.Journal.{History}
use Rattle.lpt_journal.specs.Replies.{history_after}
use Rattle.lpt_node.specs.Nodes.{NodeData}
use Rattle.lpt_refinement.specs.Shows.{job_shown, jobs_from}
use Rattle.lpt_refinement.specs.Views.{JobsView, jobs_view}
use Rattle.lpt_apart.specs.Ends.{Ends, Log}
use Rattle.lpt_apart.specs.TwoEnds.{AllDue, requests_executed, waiting, IsPromised}
use Rattle.lpt_apart.specs.Worlds.{IsAWorld}
use Rattle.lpt_apart.proofs.Dues.{all_due}
use Rattle.lpt_apart.proofs.Queues.{executed_told, message_of, waiting_told}

-- the first of these jobs is of the first of these messages, where it was read
of_first : (v : JobsView) (n : ℕ) (ms : List (List ℕ)) (r : Source)
    → head_of (jobs_from (job_shown v) n ms) ≡ Ready r
    → slice_get ms 0 ≡ Some r.message
of_first v n [] r is = absurd cc
of_first v n (m ∷ ms) r is = go (nat_lt n v.claimed) (v.committed n) is where
  read : Source
  read = record { apid = v.apid; sizes = v.sizes; message = m }

  go : (a b : Bool)
      → head_by (if a then (if b then Committed read else Claimed) else Waiting m) ≡ Ready r
      → Some m ≡ Some r.message
  go false b is = absurd cc
  go true false is = absurd cc
  go true true is = let same : read ≡ r = cc in ap (λ (s : Source). Some s.message) same

-- what stands at the spacecraft's front is the oldest request that waits
is_next : (c : Config) (first : Contents) (usual : Type 0) (e : Ends)
    → IsAWorld c first usual e
    → (r : Source)
    → head_of e.on_craft.jobs.jobs ≡ Ready r
    → slice_get (waiting e.log) 0 ≡ Some r.message
is_next c first usual e w r is =
    let h : History = history_after c first w.events in
    let v : JobsView = jobs_view c first h in
    let waits : waiting e.log ≡ drop v.applied v.messages =
    sym (ap waiting w.log) ∙ waiting_told c first w.events w.legal
    ∙ sym (drop-map message_of v.applied (jobs c h)) in
    let there : head_of e.on_craft.jobs.jobs
    ≡ head_of (jobs_from (job_shown v) v.applied (drop v.applied v.messages)) =
    ap (λ (n : NodeData). head_of n.jobs.jobs) (sym w.craft) ∙ ap head_of w.shown.jobs.jobs in
    ap (λ (ms : List (List ℕ)). slice_get ms 0) waits
    ∙ of_first v v.applied (drop v.applied v.messages) r (sym there ∙ is)

-- what is promised of a world is promised of ends that are one
pub promised : (c : Config) (first : Contents) (usual : Type 0) (e : Ends)
    → IsConfig c
    → IsAWorld c first usual e
    → IsPromised c first e
promised c first usual e good w = record {
  due = subst (λ (l : Log). AllDue l) w.log (all_due c first good w.events w.legal);
  memories =
      sym w.memories ∙ w.shown.memories
      ∙ ap (λ (ms : List (List ℕ)). left_by c.apid ms first)
      (sym (executed_told c first w.events w.legal) ∙ ap requests_executed w.log);
  next = is_next c first usual e w;
}
