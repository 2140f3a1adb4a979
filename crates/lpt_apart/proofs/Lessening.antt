-- What a node does that looks at no name that its receiver knows, and how it closes one: so also
-- where its receiver has freed some names.
use Rattle.std.proofs.Common.{◌≡◌, ◌∙◌, ap, sym, refl, ℕ, Bool, true, false, ◌==◌, if◌then◌else◌, List, Option, Some, None}
use Rattle.std.specs.FinMap as maps
use Rattle.lpt_packet.specs.Names.{Name, same_name}
use Rattle.lpt_packet.proofs.NameLemmas.{same_name-true}
use Rattle.lpt_acts.specs.Acts.{Leaving, Execute, Refuse, Drop}
use Rattle.lpt_memory.specs.Memories.{Contents, effect}
use Rattle.lpt_memory.specs.Readings.{Source, source_meaning, Job}
use Rattle.lpt_events.specs.declared.config.Config.{Config}
use Rattle.lpt_events.specs.declared.side.Side.{Side}
use Rattle.lpt_jobs.specs.Jobs.{Head, NoJob, NotReady, Ready, head_of, after_commit}
use Rattle.lpt_ledger.specs.Marks.{Mark, Marks, Shut}
use Rattle.lpt_ledger.specs.States.{state_of, state_at}
use Rattle.lpt_execution.specs.declared.ending.Ending.{Ending}
use Rattle.lpt_execution.specs.declared.ending.Ending.TheVariants.{Refused}
use Rattle.lpt_execution.specs.declared.ending.Report.{Report}
use Rattle.lpt_execution.specs.Reporting.{message_reports, request_source, large_packets, opened_of}
use Rattle.lpt_ledger.specs.LeastFree.{least_free_in}
use Rattle.lpt_node.specs.Jobs.{Execution, claimed_of, job_committed, ending_at, report_packets, executed_with, executed_of, executed_so}
use Rattle.lpt_model.specs.State.{job_left}
use Rattle.lpt_node.specs.Nodes.{NodeData}
use Rattle.lpt_node.specs.Receiving.{with_report}
use Rattle.lpt_node.specs.Sending.{sent_of}
use Rattle.lpt_journal.proofs.MapLemmas.{get_insert}
use Rattle.lpt_apart.specs.Moves.{with_ledger, KnowsLess}

-- ---- what doesn't look at the names that a receiver knows

pub sent_less : (side : Side) (c : Config) (m : Marks) (n : NodeData) (name : Name) (k : ℕ)
    (o : Option (List ℕ))
    → ◌≡◌ {A = NodeData × List ℕ} (sent_of side c (with_ledger m n) name k o)
    (with_ledger m (sent_of side c n name k o).0, (sent_of side c n name k o).1)
sent_less side c m n name k None = refl
sent_less side c m n name k (Some x) = refl

pub sent_receiving : (side : Side) (c : Config) (n : NodeData) (name : Name) (k : ℕ)
    (o : Option (List ℕ))
    → (sent_of side c n name k o).0.receiving ≡ n.receiving
sent_receiving side c n name k None = refl
sent_receiving side c n name k (Some x) = refl

pub claimed_less : (m : Marks) (n : NodeData) (o : Option (ℕ × List ℕ))
    → ◌≡◌ {A = NodeData × Job} (claimed_of (with_ledger m n) o)
    (with_ledger m (claimed_of n o).0, (claimed_of n o).1)
claimed_less m n None = refl
claimed_less m n (Some x) = refl

pub claimed_receiving : (n : NodeData) (o : Option (ℕ × List ℕ))
    → (claimed_of n o).0.receiving ≡ n.receiving
claimed_receiving n None = refl
claimed_receiving n (Some x) = refl

-- what a commit comes to, by whether it is of this boot
abbrev pub committed_by : NodeData → (job : ℕ) → Source → Bool → NodeData × Bool
committed_by n job r b =
    if b then (record n { jobs = after_commit n.jobs job r }, true) else (n, false)

pub committed_less : (m : Marks) (n : NodeData) (boot job : ℕ) (r : Source)
    → (job_committed (with_ledger m n) boot job r).0 ≡ with_ledger m (job_committed n boot job r).0
committed_less m n boot job r = go (boot == n.boot) where
  go : (b : Bool)
      → (committed_by (with_ledger m n) job r b).0 ≡ with_ledger m (committed_by n job r b).0
  go true = refl
  go false = refl

pub committed_receiving : (n : NodeData) (boot job : ℕ) (r : Source)
    → (job_committed n boot job r).0.receiving ≡ n.receiving
committed_receiving n boot job r = go (boot == n.boot) where
  go : (b : Bool) → (committed_by n job r b).0.receiving ≡ n.receiving
  go true = refl
  go false = refl

executed_with_less : (c : Config) (m : Marks) (n : NodeData) (peer : ℕ) (end : Ending)
    (reports : List Report)
    (o : Option (Name × List ℕ))
    → ◌≡◌ {A = NodeData × Execution} (executed_with c (with_ledger m n) peer end reports o) (
      with_ledger m (executed_with c n peer end reports o).0,
      (executed_with c n peer end reports o).1,
    )
executed_with_less c m n peer end reports None = refl
executed_with_less c m n peer end reports (Some x) = refl

executed_with_receiving : (c : Config) (n : NodeData) (peer : ℕ) (end : Ending)
    (reports : List Report)
    (o : Option (Name × List ℕ))
    → (executed_with c n peer end reports o).0.receiving ≡ n.receiving
executed_with_receiving c n peer end reports None = refl
executed_with_receiving c n peer end reports (Some x) = refl

-- what an execution that ends so opens
abbrev message_of : Config → NodeData → Source → Ending → Option (Name × List ℕ)
message_of c n r end =
    opened_of (least_free_in n.sending.ledger (request_source r.apid r.message))
    (large_packets c.part_size
    (report_packets c (request_source r.apid r.message) n.sending n.clock
    (message_reports r.apid r.message end)))

executed_less : (c : Config) (m : Marks) (n : NodeData) (ms : Contents) (x : Head)
    → ◌≡◌ {A = (NodeData × Execution) × Contents} (executed_of c (with_ledger m n) ms x) (
      (with_ledger m (executed_of c n ms x).0.0, (executed_of c n ms x).0.1),
      (executed_of c n ms x).1,
    )
executed_less c m n ms NoJob = refl
executed_less c m n ms NotReady = refl
executed_less c m n ms (Ready r) =
    let end : Ending = ending_at c n ms r in
    ap (λ (y : NodeData × Execution). (y, effect (source_meaning r) ms))
    (executed_with_less c m n (request_source r.apid r.message) end
    (message_reports r.apid r.message end)
    (message_of c n r end))

executed_receiving : (c : Config) (n : NodeData) (ms : Contents) (x : Head)
    → (executed_of c n ms x).0.0.receiving ≡ n.receiving
executed_receiving c n ms NoJob = refl
executed_receiving c n ms NotReady = refl
executed_receiving c n ms (Ready r) =
    let end : Ending = ending_at c n ms r in
    executed_with_receiving c n (request_source r.apid r.message) end
    (message_reports r.apid r.message end)
    (message_of c n r end)

-- the same of one that leaves and ends so
so_less : (c : Config) (m : Marks) (n : NodeData) (end : Ending) (x : Head)
    → ◌≡◌ {A = NodeData × Execution} (executed_so c (with_ledger m n) (λ r. end) x)
    (with_ledger m (executed_so c n (λ r. end) x).0, (executed_so c n (λ r. end) x).1)
so_less c m n end NoJob = refl
so_less c m n end NotReady = refl
so_less c m n end (Ready r) =
    executed_with_less c m n (request_source r.apid r.message) end
    (message_reports r.apid r.message end)
    (message_of c n r end)

so_receiving : (c : Config) (n : NodeData) (end : Ending) (x : Head)
    → (executed_so c n (λ r. end) x).0.receiving ≡ n.receiving
so_receiving c n end NoJob = refl
so_receiving c n end NotReady = refl
so_receiving c n end (Ready r) =
    executed_with_receiving c n (request_source r.apid r.message) end
    (message_reports r.apid r.message end)
    (message_of c n r end)

pub left_less : (how : Leaving) (c : Config) (m : Marks) (n : NodeData) (ms : Contents)
    → ◌≡◌ {A = (NodeData × Execution) × Contents} (job_left how c (with_ledger m n) ms) (
      (with_ledger m (job_left how c n ms).0.0, (job_left how c n ms).0.1),
      (job_left how c n ms).1,
    )
left_less Execute c m n ms = executed_less c m n ms (head_of n.jobs.jobs)
left_less (Refuse code) c m n ms =
    ap (λ (y : NodeData × Execution). (y, ms))
    (so_less c m n (Refused code) (head_of n.jobs.jobs))
left_less Drop c m n ms = refl

pub left_receiving : (how : Leaving) (c : Config) (n : NodeData) (ms : Contents)
    → (job_left how c n ms).0.0.receiving ≡ n.receiving
left_receiving Execute c n ms = executed_receiving c n ms (head_of n.jobs.jobs)
left_receiving (Refuse code) c n ms = so_receiving c n (Refused code) (head_of n.jobs.jobs)
left_receiving Drop c n ms = refl

-- ---- what does

pub report_less : (m : Marks) (n : NodeData) (o : Option (List ℕ))
    → with_report (with_ledger m n) o ≡ with_ledger m (with_report n o)
report_less m n None = refl
report_less m n (Some b) = refl

pub report_receiving : (n : NodeData) (o : Option (List ℕ))
    → (with_report n o).receiving ≡ n.receiving
report_receiving n None = refl
report_receiving n (Some b) = refl

-- a report changes no name of a sender
pub report_ledger : (n : NodeData) (o : Option (List ℕ))
    → (with_report n o).sending.ledger ≡ n.sending.ledger
report_ledger n None = refl
report_ledger n (Some b) = refl

-- a name that isn't freed is as the receiver knows it
pub same_state : (less m : Marks) (freed : Name → Bool) (name : Name)
    → KnowsLess less freed m
    → freed name ≡ false
    → state_at less name ≡ state_at m name
same_state less m freed name knows free =
    ap state_of (knows name ∙ ap (λ (b : Bool). if b then None else maps.get m name) free)

-- the receiver closes a name that isn't freed
pub less_shut : (less m : Marks) (freed : Name → Bool) (name : Name)
    → KnowsLess less freed m
    → freed name ≡ false
    → KnowsLess (maps.insert less name Shut) freed (maps.insert m name Shut)
less_shut less m freed name knows free q =
    get_insert less name Shut q
    ∙ go (same_name q name) refl
    ∙ sym (ap (λ (o : Option Mark). if freed q then None else o) (get_insert m name Shut q)) where
      go : (b : Bool)
          → same_name q name ≡ b
          → (if b then Some Shut else maps.get less q)
          ≡ (if freed q then None else (if b then Some Shut else maps.get m q))
      go true e =
          let same : freed q ≡ false = ap freed (same_name-true q name e) ∙ free in
          sym (ap (λ (t : Bool). if t then None else Some Shut) same)
      go false e = knows q
