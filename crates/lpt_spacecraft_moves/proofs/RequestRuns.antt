-- A request that waits alone is claimed, read and executed by three moves.
use Rattle.std.proofs.Common.{◌≡◌, ◌∙◌, ap, refl, ℕ, List, [], ◌∷◌, ◌++◌, Some, None}
use Rattle.std.specs.Prelude.{reverse}
use Rattle.lpt_packet.specs.declared.direction.Direction.TheVariants.{Down}
use Rattle.lpt_events.specs.declared.config.Config.{Config}
use Rattle.lpt_events.specs.declared.worker.Worker.TheVariants.{W1}
use Rattle.lpt_jobs.specs.Jobs.{Jobs, head_of, oldest_unclaimed}
use Rattle.lpt_jobs.specs.declared.job.Job.{Job}
use Rattle.lpt_jobs.specs.declared.job.Job.TheVariants.{Waiting}
use Rattle.lpt_memory.specs.Memories.{Contents}
use Rattle.lpt_node.specs.Jobs.{Execution, job_claimed, job_executed, refusal_apply_of, refusal_claim_of}
use Rattle.lpt_node.specs.Nodes.{NodeData}
use Rattle.lpt_model.specs.Tickets.{Tickets, no_tickets, ticket_of, with_ticket}
use Rattle.lpt_apart.specs.Ends.{put_out, Pair, Move, Do, Apply, Claim, Commit}
use Rattle.lpt_acts.specs.Acts.{Execute}
use Rattle.lpt_spacecraft.specs.Serving.{Onboard, read_over}
use Rattle.lpt_spacecraft.proofs.ServingLemmas.{read_over-jobs}
use Rattle.lpt_spacecraft_moves.specs.Moves.{after_moves, octets_of, CanMakeAll}
use Rattle.lpt_spacecraft_moves.proofs.Runs.{Reaches, octets-put}

-- the moves
abbrev pub request : List Move
request = Do (Claim W1) ∷ Do (Commit W1) ∷ Do (Apply Execute) ∷ []

module _ (c : Config) (p : Pair) (m : List ℕ) (free : p.ends.tickets ≡ no_tickets)
    (waits : p.ends.on_craft.jobs.jobs ≡ Waiting m ∷ []) where
  abbrev q : Jobs
  q = record { first = p.ends.on_craft.jobs.first; jobs = Waiting m ∷ [] }

  whole : p.ends.on_craft.jobs ≡ q
  whole = ap (λ (js : List Job). record { first = p.ends.on_craft.jobs.first; jobs = js }) waits

  -- what the end does at once
  abbrev pub done : (NodeData × Execution) × Contents
  done = job_executed c (read_over c p.ends.memories p.ends.on_craft) p.ends.memories

  -- each of them can be made
  pub can_request : CanMakeAll c p request
  can_request = (
    (
      ap (λ (ts : Tickets). ticket_of ts W1) free,
      ap (λ (j : Jobs). refusal_claim_of (oldest_unclaimed j))
          whole,
    ),
    (
      refl,
      (
        ap (λ (js : List Job). refusal_apply_of (head_of js))
            (read_over-jobs c p.ends.memories p.ends.on_craft m waits),
        tt,
      ),
    ),
  )

  pub tickets_after : (after_moves c p request).ends.tickets ≡ no_tickets
  tickets_after =
      λ i. with_ticket (with_ticket (free i) W1 (Some (job_claimed p.ends.on_craft).1)) W1 None

  pub put_after : (after_moves c p request).ends.on_the_way
      ≡ put_out p.ends.on_the_way Down None done.0.1.packets
  put_after = refl

-- the request that waits is read and executed
pub request-run : (c : Config) (p : Pair) (s : Onboard) (m : List ℕ)
    → p.ends.on_craft ≡ s.node
    → p.ends.memories ≡ s.memories
    → p.ends.tickets ≡ no_tickets
    → s.node.jobs.jobs ≡ Waiting m ∷ []
    → let x = job_executed c (read_over c s.memories s.node) s.memories in
    Reaches c p (record { node = x.0.0; memories = x.1 }) x.0.1.packets
request-run c p s m node memories tickets waits =
    let at = ap (λ (d : NodeData). d.jobs.jobs) node ∙ waits in
    record {
      moves = request;
      own = (tt, (tt, (tt, tt)));
      can = can_request c p m tickets at;
      node = λ i. (job_executed c (read_over c (memories i) (node i)) (memories i)).0.0;
      memories = λ i. (job_executed c (read_over c (memories i) (node i)) (memories i)).1;
      tickets = tickets_after c p m tickets at;
      put = ap octets_of (put_after c p m tickets at)
          ∙ octets-put p.ends.on_the_way Down None (done c p m tickets at).0.1.packets
          ∙ (λ i. reverse
          (job_executed c (read_over c (memories i) (node i)) (memories i)).0.1.packets
          ++ octets_of p.ends.on_the_way);
    }
