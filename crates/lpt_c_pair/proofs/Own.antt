-- The ends of worked runs whose spacecraft's end has its memory.
use Rattle.std.proofs.Common.{◌≡◌, ◌∙◌, ap, sym, subst, refl, ℕ, ◌+◌, List, [], ◌∷◌, None}
use Rattle.lpt_events.specs.declared.side.Side.{Side}
use Rattle.lpt_events.specs.declared.side.Side.TheVariants.{Craft}
use Rattle.lpt_jobs.specs.declared.job.Job.{Job}
use Rattle.lpt_jobs.specs.declared.job.Job.TheVariants.{Committed}
use Rattle.lpt_node.specs.Jobs.{Execution, job_executed, refusal_apply}
use Rattle.lpt_node.specs.Nodes.{NodeData, NodeView, no_data}
use Rattle.lpt_state.specs.Spellings.{state_spelled}
use Rattle.lpt_c_end.specs.Changes.{IsNew, IsNewWith, execution_by}
use Rattle.lpt_c_end.specs.Contents.{memories_of, memories_told}
use Rattle.lpt_c_end.specs.Keeping.{IsResumedWith}
use Rattle.lpt_c_end.specs.Kept.{here_refusal}
use Rattle.lpt_c_end.specs.Codes.{node_code}
use Rattle.lpt_c_end.specs.Refusals.{sending_refusal}
use Rattle.lpt_c_end.specs.declared.end.End.{End}
use Rattle.lpt_c_end.specs.declared.kept.Kept.{Kept}
use Rattle.lpt_c_end.specs.declared.kept.Kept.TheVariants.{Here}
use Rattle.lpt_c_pair.specs.Pairs.{IsDone, IsKept, Execute, Resume}
use Rattle.lpt_c_pair.specs.Called.{content, loaded_content, memory}
use Rattle.lpt_c_pair.proofs.Computed.{executes, executes_quietly, loads, source, with_jobs}
use Rattle.lpt_c_pair.proofs.Making.{made_over}
use Rattle.lpt_c_pair.proofs.Stages.{AreRead, again_end, craft_end, is_kept, is_ready, none_read, resumes}
use Rattle.lpt_journal_examples.specs.Passes.{loaded_memories, usual, usual_memories}

-- the memory as it was first, and with the load
abbrev pub first_kept : Kept
first_kept = Here (memories_told content memory)

abbrev pub last_kept : Kept
last_kept = Here loaded_memories

module _ (k : End) (new_k : IsNew Craft usual memory content k) where
  -- an end before the load, with these requests
  abbrev pub before : (first : ℕ) (jobs : List Job) → AreRead jobs → End
  before first jobs all = craft_end first_kept refl (λ code. refl) k new_k first jobs all

  -- an end that is as a new one, but that it has the load
  abbrev pub with_load : End
  with_load = made_over k (no_data usual) last_kept None
      (is_ready (record k.node { at = no_data usual }) last_kept
      (ap (λ (n : NodeView). n.config) new_k.node) refl none_read)

  abbrev pub is_with_load : IsNewWith Craft usual last_kept with_load
  is_with_load = record {
    side = new_k.side;
    config = new_k.config;
    node = λ i. record (new_k.node i) { at = no_data usual };
    memories = refl;
    released = refl;
    outbox = refl;
  }

  -- an end with the load, with these requests, and one that is made again
  abbrev pub behind : (first : ℕ) (jobs : List Job) → AreRead jobs → End
  behind first jobs all =
      craft_end last_kept refl (λ code. refl) with_load is_with_load first jobs all

  abbrev pub again_behind : (first : ℕ) (jobs : List Job) → AreRead jobs → End
  again_behind first jobs all =
      again_end last_kept refl (λ code. refl) with_load is_with_load first jobs all

  -- ---- executions

  -- an execution over the memory as it was
  over : (d : NodeData)
      → execution_by k.config k.memories d
      ≡ ((job_executed usual d usual_memories).0, Here (job_executed usual d usual_memories).1)
  over d = λ i. execution_by (new_k.config i) (new_k.memories i) d

  -- the load is executed
  pub executes_it : (first : ℕ) (was : AreRead (Committed source ∷ []))
      → IsDone Execute (before first (Committed source ∷ []) was) (behind (first + 1) [] none_read)
  executes_it first was =
      let d : NodeData = with_jobs first (Committed source ∷ []) in (
        (λ i. here_refusal (new_k.memories i)
            (sending_refusal (node_code (refusal_apply d)) [])),
        record {
          node =
              sym (ap (λ (x : (NodeData × Execution) × Kept). x.0.0) (over d) ∙ executes first);
          memories =
              sym (ap (λ (x : (NodeData × Execution) × Kept). x.1) (over d)
              ∙ ap Here (loads first));
          outbox =
              sym (ap (λ (x : (NodeData × Execution) × Kept). x.0.1.packets) (over d)
              ∙ executes_quietly first);
          released = refl;
          side = refl;
          config = refl;
        },
      )

  -- ---- a start

  -- an end with the load is restored from its state
  pub resumes_it : (first : ℕ)
      → let e = behind first [] none_read in
      IsDone (Resume e.config (state_spelled e.node) memory loaded_content) e
      (again_behind first [] none_read)
      × IsKept usual e e.config (state_spelled e.node) (memories_of e.side memory loaded_content)
  resumes_it first =
      let e : End = behind first [] none_read in
      let new : End = again_behind first [] none_read in (
        subst (λ (s : Side). IsResumedWith s e.config (state_spelled e.node)
            (memories_of s memory loaded_content) new) (sym new_k.side)
            (resumes e first [] refl new_k.config new last_kept new_k.side new_k.side refl refl refl refl
            refl),
        is_kept e first [] refl new_k.config (memories_of e.side memory loaded_content)
            (λ i. memories_of (new_k.side i) memory loaded_content),
      )
