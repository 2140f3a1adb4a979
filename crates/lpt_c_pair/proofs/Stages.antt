-- The ends that worked runs come to, and the calls between them, wherever the memory is.
use Rattle.std.proofs.Common.{◌≡◌, ◌∙◌, ap, sym, subst, refl, ℕ, ◌+◌, ◌<◌, ◌^◌, List, [], ◌∷◌, ◌++◌, Option, Some, None, Ok, arith}
use Rattle.std.specs.Prelude.{All, option_to_list}
use Rattle.std.specs.FinMap.{get-empty}
use Rattle.std.proofs.lemmas.List.Elements.{All-cons, All-nil}
use Rattle.lpt_acts.specs.Acts.{limits_of}
use Rattle.lpt_c_pair.specs.Called.{usual_own}
use Rattle.lpt_packet.specs.Names.{name_cmp}
use Rattle.lpt_ledger.specs.States.{state_of}
use Rattle.lpt_memory.specs.Meanings.{Sizes}
use Rattle.lpt_memory.specs.Readings.{Source}
use Rattle.lpt_events.specs.Arrivals.{Arrival, arrival}
use Rattle.lpt_events.specs.declared.config.Config.{Config}
use Rattle.lpt_events.specs.declared.side.Side.TheVariants.{Ground, Craft}
use Rattle.lpt_jobs.specs.declared.job.Job.{Job}
use Rattle.lpt_jobs.specs.declared.job.Job.TheVariants.{Committed, Waiting}
use Rattle.lpt_node.specs.Accepting.{packet_accepted}
use Rattle.lpt_node.specs.declared.accepted.Accepted.{Accepted}
use Rattle.lpt_node.specs.Jobs.{refusal_claim}
use Rattle.lpt_node.specs.Nodes.{NodeData, NodeView, is_open, no_data}
use Rattle.lpt_node.specs.Receiving.{plain_released}
use Rattle.lpt_node.specs.Requests.{plain_made, refusal_plain}
use Rattle.lpt_node.specs.Restarts.{node_restarted}
use Rattle.lpt_state.specs.Lastings.{IsEnd}
use Rattle.lpt_state.specs.Spellings.{state_spelled}
use Rattle.lpt_state.specs.Verdicts.{reading}
use Rattle.lpt_state.proofs.LawLemmas.{written_is_read}
use Rattle.lpt_c_end.specs.Changes.{IsNew, IsNewWith, delivery, read_by, read_over}
use Rattle.lpt_c_end.specs.Codes.{node_code}
use Rattle.lpt_c_end.specs.Keeping.{IsResumedWith}
use Rattle.lpt_c_end.specs.Kept.{memories_refusal, sizes_in}
use Rattle.lpt_c_end.specs.Ready.{IsReading, IsReady}
use Rattle.lpt_c_end.specs.Refusals.{ground_refusal}
use Rattle.lpt_c_end.specs.declared.end.End.{End}
use Rattle.lpt_c_end.specs.declared.kept.Kept.{Kept}
use Rattle.lpt_c_pair.specs.Pairs.{Drop, IsDone, IsKept, Packet, Plain, Read}
use Rattle.lpt_c_pair.proofs.Computed.{arrives, asked, no_runs, packet_is, with_jobs}
use Rattle.lpt_c_pair.proofs.Making.{made}
use Rattle.lpt_journal_examples.specs.Passes.{load, load_packet, usual}

-- the identifier and the size of the one memory
abbrev pub one : Sizes
one = (1, 256) ∷ []

-- requests that were read are for the one memory
abbrev pub AreRead : List Job → Type 0
AreRead jobs = All (IsReading 100 one) jobs

pub none_read : AreRead []
none_read = All-nil (IsReading 100 one)

-- one more waits
pub one_waits : (message : List ℕ) (jobs : List Job)
    → AreRead jobs
    → AreRead (Waiting message ∷ jobs)
one_waits message jobs all =
    All-cons (IsReading 100 one) (Waiting message) jobs (λ r is. absurd cc) all

-- one more was read
pub one_read : (s : Source) (jobs : List Job)
    → s.apid ≡ 100
    → s.sizes ≡ one
    → AreRead jobs
    → AreRead (Committed s ∷ jobs)
one_read s jobs apid sizes all =
    All-cons (IsReading 100 one) (Committed s) jobs
    (λ r is. let same : s ≡ r = cc in
    subst (λ (x : Source). (x.apid ≡ 100) × (x.sizes ≡ one)) same (apid, sizes)) all

-- requests that were read are for memories of these sizes, wherever they are
pub is_ready : (n : NodeView) (kept : Kept)
    → n.config ≡ usual
    → sizes_in kept ≡ Some one
    → AreRead n.at.jobs.jobs
    → IsReady n (sizes_in kept)
is_ready n kept config has all own is =
    let same : one ≡ own =
    let both : Some one ≡ Some own = sym has ∙ is in cc in
    subst (λ (s : Sizes). All (IsReading n.config.apid s) n.at.jobs.jobs) same
    (subst (λ (c : Config). All (IsReading c.apid one) n.at.jobs.jobs) (sym config) all)

-- ---- ground

module _ (g : End) (new_g : IsNew Ground usual [] [] g) where
  -- it has no memories
  pub ready_ground : (d : NodeData) → IsReady (record g.node { at = d }) (sizes_in g.memories)
  ready_ground d =
      subst (λ (o : Kept). IsReady (record g.node { at = d }) (sizes_in o)) (sym new_g.memories)
      (λ sizes is. absurd cc)

  -- it has asked for the load
  abbrev pub asked_end : End
  asked_end =
      made g asked.0 g.released (load_packet ∷ []) (omega arith) (ready_ground asked.0)

  pub asks : IsDone (Plain 1 0 6 2 load) g asked_end
  asks =
      let node : g.node.at ≡ no_data usual = ap (λ (n : NodeView). n.at) new_g.node in
      let is : plain_made g.config g.node.at 1 0 6 2 load ≡ asked =
      λ i. plain_made (new_g.config i) (node i) 1 0 6 2 load in (
        (λ i. ground_refusal (new_g.side i) (node_code (refusal_plain (new_g.config i) 6 2 14))),
        record {
          node = ap (λ (x : NodeData × List ℕ). x.0) (sym is);
          outbox =
              ap (λ (b : List ℕ). b ∷ []) (sym packet_is)
              ∙ (λ i. sym new_g.outbox i ++ ((sym is i).1 ∷ []));
          released = refl;
          fixed = record { side = refl; config = refl; memories = refl };
        },
      )

-- ---- the spacecraft

module _ (kept : Kept) (has : sizes_in kept ≡ Some one)
    (allows : (code : Option ℕ) → memories_refusal kept code ≡ code)
    (k : End) (new_k : IsNewWith Craft usual kept k) where
  -- its end, once it has released the load, with these requests
  abbrev pub craft_end : (first : ℕ) (jobs : List Job) → AreRead jobs → End
  craft_end first jobs all =
      made k (with_jobs first jobs) (Some load_packet) [] (omega arith)
      (subst (λ (o : Kept). IsReady (record k.node { at = with_jobs first jobs }) (sizes_in o))
      (sym new_k.memories)
      (is_ready (record k.node { at = with_jobs first jobs }) kept
      (ap (λ (n : NodeView). n.config) new_k.node) has all))

  -- restored from what was kept of that
  abbrev pub again_end : (first : ℕ) (jobs : List Job) → AreRead jobs → End
  again_end first jobs all =
      made k (node_restarted (with_jobs first jobs)) None [] (omega arith)
      (subst (λ (o : Kept).
      IsReady (record k.node { at = node_restarted (with_jobs first jobs) }) (sizes_in o))
      (sym new_k.memories)
      (is_ready (record k.node { at = node_restarted (with_jobs first jobs) }) kept
      (ap (λ (n : NodeView). n.config) new_k.node) has none_read))

  -- a packet of the load is taken by an end that is as a new one but for its requests
  takes_at : (e : End) (first : ℕ) (jobs : List Job)
      (all : AreRead (jobs ++ Waiting load_packet ∷ []))
      → e.side ≡ Craft
      → e.config ≡ usual
      → e.node.at ≡ with_jobs first jobs
      → e.outbox.items ≡ []
      → e.memories ≡ k.memories
      → e.side ≡ k.side
      → e.config ≡ k.config
      → IsDone (Packet load_packet) e (craft_end first (jobs ++ Waiting load_packet ∷ []) all)
  takes_at e first jobs all side config node outbox memories same_side same_config =
      let d : NodeData = with_jobs first (jobs ++ Waiting load_packet ∷ []) in
      let is : delivery e load_packet ≡ (d, plain_released load_packet) =
      (λ i. packet_accepted (side i) (config i) (node i) (arrival (side i)
      (config i).apid (config i).part_size load_packet))
      ∙ ap (λ (a : Arrival). packet_accepted Craft usual (with_jobs first jobs) a) arrives in
      record {
        node = ap (λ (x : NodeData × Accepted). x.0) (sym is);
        released = ap (λ (x : NodeData × Accepted). x.1.released) (sym is);
        outbox = λ i. sym outbox i ++ option_to_list (sym is i).1.packet;
        fixed = record {
          side = sym same_side;
          config = sym same_config;
          memories = sym memories;
        };
      }

  pub takes : (all : AreRead (Waiting load_packet ∷ []))
      → IsDone (Packet load_packet) k (craft_end 0 (Waiting load_packet ∷ []) all)
  takes all =
      takes_at k 0 [] all new_k.side new_k.config (ap (λ (n : NodeView). n.at) new_k.node)
      new_k.outbox refl refl refl

  pub takes_again : (first : ℕ) (jobs : List Job) (was : AreRead jobs)
      (all : AreRead (jobs ++ Waiting load_packet ∷ []))
      → IsDone (Packet load_packet) (craft_end first jobs was)
      (craft_end first (jobs ++ Waiting load_packet ∷ []) all)
  takes_again first jobs was all =
      takes_at (craft_end first jobs was) first jobs all new_k.side new_k.config refl refl refl refl
      refl

  -- where a request waits, it is refused by nothing to read one or to drop one
  allowed : (d : NodeData)
      → refusal_claim d ≡ None
      → memories_refusal k.memories (node_code (refusal_claim d)) ≡ None
  allowed d claims =
      ap (λ (o : Kept). memories_refusal o (node_code (refusal_claim d))) new_k.memories
      ∙ allows (node_code (refusal_claim d))
      ∙ ap node_code claims

  -- the oldest request that waits is read
  pub reads : (first : ℕ) (jobs : List Job) (was : AreRead jobs) (then_first : ℕ)
      (then_jobs : List Job) (all : AreRead then_jobs)
      → refusal_claim (with_jobs first jobs) ≡ None
      → with_jobs then_first then_jobs ≡ read_over usual one (with_jobs first jobs)
      → IsDone Read (craft_end first jobs was) (craft_end then_first then_jobs all)
  reads first jobs was then_first then_jobs all claims is = (
    allowed (with_jobs first jobs) claims,
    record {
      node =
          is
          ∙ (λ i. read_by usual (sym has i) (with_jobs first jobs))
          ∙ (λ i. read_by (sym new_k.config i) (sizes_in (sym new_k.memories i))
          (with_jobs first jobs));
      released = refl;
      outbox = refl;
      fixed = record { side = refl; config = refl; memories = refl };
    },
  )

  -- or it is dropped, if it is the oldest of all
  pub drops : (first : ℕ) (was : AreRead (Waiting load_packet ∷ []))
      → IsDone Drop (craft_end first (Waiting load_packet ∷ []) was)
      (craft_end (first + 1) [] none_read)
  drops first was = (
    allowed (with_jobs first (Waiting load_packet ∷ [])) refl,
    record {
      node = refl;
      released = refl;
      outbox = refl;
      fixed = record { side = refl; config = refl; memories = refl };
    },
  )

-- ---- states

-- an end of which a state can be written, with these requests
module _ (e : End) (first : ℕ) (jobs : List Job) (node : e.node.at ≡ with_jobs first jobs)
    (usually : e.config ≡ usual) where
  can_be_kept : IsEnd (record e.node { at = with_jobs first jobs })
  can_be_kept = record {
    fits = record {
      boot_fits = omega arith;
      clock_fits = omega arith;
      sent_fit = no_runs;
      received_fit = no_runs;
    };
    none_open = λ name. ap (λ o. is_open (state_of o)) (get-empty name_cmp name);
    own_limits = sym (ap limits_of (e.same_config ∙ usually));
  }

  is_end : IsEnd e.node
  is_end =
      subst (λ (d : NodeData). IsEnd (record e.node { at = d })) (sym node) can_be_kept

  boot_left : e.node.at.boot + 1 < 2 ^ 64
  boot_left =
      subst (λ (d : NodeData). d.boot + 1 < 2 ^ 64) (sym node)
      (let left : 0 + 1 < 2 ^ 64 = omega arith in left)

  -- it is restored from its state
  pub resumes : (new : End) (kept : Kept)
      → e.side ≡ Craft
      → new.side ≡ Craft
      → new.config ≡ e.config
      → new.node ≡ record e.node { at = node_restarted e.node.at }
      → new.memories ≡ kept
      → new.released ≡ None
      → new.outbox.items ≡ []
      → IsResumedWith Craft e.config (state_spelled e.node) kept new
  resumes new kept was side config same memories released outbox = record {
    side = side;
    config = config;
    node =
        (λ i. reading (sym (e.same_side ∙ was) i) (sym e.same_config i) (state_spelled e.node))
        ∙ written_is_read e.node is_end boot_left
        ∙ ap Ok (sym same);
    memories = memories;
    released = released;
    outbox = outbox;
  }

  -- what was kept of it is this
  pub is_kept : (kept : Kept)
      → kept ≡ e.memories
      → IsKept usual e e.config (state_spelled e.node) kept
  is_kept kept memories = record {
    own = usual_own;
    configured = usually;
    state_is = refl;
    reads = λ left.
        (λ i. reading (sym e.same_side i) (sym e.same_config i) (state_spelled e.node))
        ∙ written_is_read e.node is_end left;
    number_left = boot_left;
    memories = memories;
  }
