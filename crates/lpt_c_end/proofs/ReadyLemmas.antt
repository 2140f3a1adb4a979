-- Each call leaves the readings of an end's jobs those for its memories.
use Rattle.lpt_packet.specs.Names.{Name}
use Rattle.std.proofs.Common.{◌≡◌, ◌∙◌, refl, sym, subst, ap, ℕ, ◌-◌, Bool, true, false, if◌then◌else◌, List, [], ◌∷◌, Option, Some, None, ◌==◌}
use Rattle.std.specs.Prelude.{All, Result, Ok, Err, OnOk, OnErr}
use Rattle.std.proofs.lemmas.List.Elements.{All-nil, All-head, All-push, All-set, All-drop}
use Rattle.lpt_events.specs.Arrivals.{Arrival}
use Rattle.lpt_events.specs.declared.config.Config.{Config}
use Rattle.lpt_events.specs.declared.side.Side.{Side}
use Rattle.lpt_events.specs.Lanes.{same_direction}
use Rattle.lpt_execution.specs.declared.ending.Ending.{Ending}
use Rattle.lpt_execution.specs.declared.ending.Ending.TheVariants.{Refused}
use Rattle.lpt_jobs.specs.declared.job.Job.{Job}
use Rattle.lpt_jobs.specs.declared.job.Job.TheVariants.{Waiting, Claimed, Committed}
use Rattle.lpt_jobs.specs.Jobs.{head_of, Head, NoJob, NotReady, Ready, after_commit, claimed_in, oldest_unclaimed, without_front}
use Rattle.lpt_memory.specs.Meanings.{Sizes}
use Rattle.lpt_memory.specs.Ranges.{MeaningFits}
use Rattle.lpt_memory.specs.Memories.{Contents, sizes_of, effect}
use Rattle.lpt_packet.specs.declared.direction.Direction.{Direction}
use Rattle.lpt_pus.specs.declared.failure_code.FailureCode.{FailureCode}
use Rattle.lpt_node.specs.declared.accepted.Accepted.{Accepted}
use Rattle.lpt_node.specs.declared.expired.Expired.{Expired}
use Rattle.lpt_node.specs.Accepting.{packet_accepted}
use Rattle.lpt_node.specs.Restarts.{name_retired, node_restarted}
use Rattle.lpt_node.proofs.JobLemmas.{jobs_accepted}
use Rattle.lpt_memory.proofs.MeaningLemmas.{meaning-fits}
use Rattle.lpt_memory.proofs.PutLemmas.{sizes_of-effect}
use Rattle.lpt_memory.specs.Readings.{Source, source_meaning, Job as Ticket}
use Rattle.lpt_node.specs.Jobs.{FrontIsFor, IsReadFor, Execution, job_claimed, claimed_of, job_committed, ending_given, job_executed, executed_given, executed_of, executed_so, refused_front, with_opened}
use Rattle.lpt_node.specs.Nodes.{NodeData, NodeView, direction_from, message_at}
use Rattle.lpt_node.specs.Receiving.{with_report}
use Rattle.lpt_node.specs.Requests.{plain_made}
use Rattle.lpt_node.specs.Sending.{message_opened, part_sent, sent_of, sender_closed}
use Rattle.lpt_node.specs.Times.{clock_back, clock_ticked, reception_expired, expired_of, due, given_up}
use Rattle.lpt_c_end.specs.Changes.{ticked_by}
use Rattle.lpt_c_end.specs.Ready.{IsReading, IsReady}

-- ---- jobs

waiting-reading : (apid : ℕ) (sizes : Sizes) (m : List ℕ) → IsReading apid sizes (Waiting m)
waiting-reading apid sizes m r is = absurd cc

claimed-reading : (apid : ℕ) (sizes : Sizes) → IsReading apid sizes Claimed
claimed-reading apid sizes r is = absurd cc

committed-reading : (apid : ℕ) (sizes : Sizes) (s : Source)
    → s.apid ≡ apid
    → s.sizes ≡ sizes
    → IsReading apid sizes (Committed s)
committed-reading apid sizes s its fits r is =
    let same : s ≡ r = cc in
    subst (λ (x : Source). (x.apid ≡ apid) × (x.sizes ≡ sizes)) same (its, fits)

-- the first can be executed over such memories
front_readings : (apid : ℕ) (ms : Contents) (js : List Job)
    → All (IsReading apid (sizes_of ms)) js
    → FrontIsFor (head_of js) apid ms
front_readings apid ms [] all = tt
front_readings apid ms (Waiting m ∷ js) all = tt
front_readings apid ms (Claimed ∷ js) all = tt
front_readings apid ms (Committed r ∷ js) all = All-head (IsReading apid (sizes_of ms)) (Committed r) js all r refl

-- ---- what a node does

-- readings that are for some memories still are
abbrev Keeps : NodeData → NodeData → Type 0
Keeps d new = (apid : ℕ) (sizes : Sizes)
    → All (IsReading apid sizes) d.jobs.jobs
    → All (IsReading apid sizes) new.jobs.jobs

keeps_retired : (d a b : NodeData) (test : Bool)
    → Keeps d a
    → Keeps d b
    → Keeps d (if test then a else b)
keeps_retired d a b true ka kb = ka
keeps_retired d a b false ka kb = kb

keeps_report : (d : NodeData) (o : Option (List ℕ)) → Keeps d (with_report d o)
keeps_report d None = λ apid sizes all. all
keeps_report d (Some o) = λ apid sizes all. all

keeps_accepted : (side : Side) (c : Config) (d : NodeData) (a : Arrival)
    → Keeps d (packet_accepted side c d a).0
keeps_accepted side c d a apid sizes all =
    let P = IsReading apid sizes in
    jobs_accepted (All P) (λ js m these. All-push P js (Waiting m) these (waiting-reading apid sizes m)) side c d a all

keeps_sent : (side : Side) (c : Config) (d : NodeData) (name : Name) (k : ℕ) (o : Option (List ℕ))
    → Keeps d (sent_of side c d name k o).0
keeps_sent side c d name k None = λ apid sizes all. all
keeps_sent side c d name k (Some m) = λ apid sizes all. all

keeps_expired : (side : Side) (c : Config) (d : NodeData) (o : Option Name)
    → Keeps d (expired_of side c d o).0
keeps_expired side c d None = λ apid sizes all. all
keeps_expired side c d (Some name) = keeps_report _ _

-- ---- the same, of an end

ready : (n new : NodeView) (own : Option Sizes)
    → new.config ≡ n.config
    → Keeps n.at new.at
    → IsReady n own
    → IsReady new own
ready n new own config keeps is sizes some =
    keeps new.config.apid sizes
    (subst (λ (c : Config). All (IsReading c.apid sizes) n.at.jobs.jobs) (sym config)
    (is sizes some))

becomes : (n new : NodeView) (own : Option Sizes) (d : NodeData)
    → new.config ≡ n.config
    → new.at ≡ d
    → Keeps n.at d
    → IsReady n own
    → IsReady new own
becomes n new own d config at keeps is =
    ready n new own config (subst (Keeps n.at) (sym at) keeps) is

-- the same, of a call that may be refused
by_result : {A B : Type 0} (r : Result A B) (n new : NodeView) (own : Option Sizes) (d : NodeData)
    → new.config ≡ n.config
    → OnOk r (new.at ≡ d)
    → OnErr r (new.at ≡ n.at)
    → Keeps n.at d
    → IsReady n own
    → IsReady new own
by_result (Ok x) n new own d config ok err keeps is = becomes n new own d config ok keeps is
by_result (Err x) n new own d config ok err keeps is =
    becomes n new own n.at config err (λ apid sizes all. all) is

pub ready_same : (n new : NodeView) (own : Option Sizes)
    → new.config ≡ n.config
    → new.at ≡ n.at
    → IsReady n own
    → IsReady new own
ready_same n new own config at is = becomes n new own n.at config at (λ apid sizes all. all) is

pub ready_ticked : {A B : Type 0} (r : Result A B) (n new : NodeView) (own : Option Sizes)
    → new.config ≡ n.config
    → OnOk r (new.at ≡ clock_ticked n.at)
    → OnErr r (new.at ≡ n.at)
    → IsReady n own
    → IsReady new own
ready_ticked r n new own config ok err is = by_result r n new own _ config ok err
    (λ apid sizes all. all) is

pub ready_ticked_by : (n new : NodeView) (own : Option Sizes) (ticks : ℕ)
    → new.config ≡ n.config
    → new.at ≡ ticked_by ticks n.at
    → IsReady n own
    → IsReady new own
ready_ticked_by n new own ticks config at is = becomes n new own _ config at
    (λ apid sizes all. all) is

pub ready_rebased : (n new : NodeView) (own : Option Sizes) (ticks : ℕ)
    → new.config ≡ n.config
    → new.at ≡ clock_back ticks n.at
    → IsReady n own
    → IsReady new own
ready_rebased n new own ticks config at is = becomes n new own _ config at
    (λ apid sizes all. all) is

pub ready_opened : {A B : Type 0} (r : Result A B) (n new : NodeView) (own : Option Sizes)
    (name : Name) (m : List ℕ)
    → new.config ≡ n.config
    → OnOk r (new.at ≡ message_opened n.at name m)
    → OnErr r (new.at ≡ n.at)
    → IsReady n own
    → IsReady new own
ready_opened r n new own name m config ok err is = by_result r n new own _ config ok err
    (λ apid sizes all. all) is

pub ready_closed : {A B : Type 0} (r : Result A B) (n new : NodeView) (own : Option Sizes)
    (name : Name)
    → new.config ≡ n.config
    → OnOk r (new.at ≡ sender_closed n.at name)
    → OnErr r (new.at ≡ n.at)
    → IsReady n own
    → IsReady new own
ready_closed r n new own name config ok err is = by_result r n new own _ config ok err
    (λ apid sizes all. all) is

pub ready_retired : (n new : NodeView) (own : Option Sizes) (side : Side) (way : Direction)
    (name : Name)
    → new.config ≡ n.config
    → new.at ≡ name_retired side n.at way name
    → IsReady n own
    → IsReady new own
ready_retired n new own side way name config at is =
    becomes n new own _ config at
    (keeps_retired n.at _ _ (same_direction way (direction_from side)) (λ apid sizes all. all) (λ apid sizes all. all))
    is

pub ready_restarted : (n new : NodeView) (own : Option Sizes)
    → new.config ≡ n.config
    → new.at ≡ node_restarted n.at
    → IsReady n own
    → IsReady new own
ready_restarted n new own config at is = becomes n new own _ config at
    (λ apid sizes all. All-nil (IsReading apid sizes)) is

pub ready_accepted : (n new : NodeView) (own : Option Sizes) (side : Side) (c : Config)
    (r : Accepted) (a : Arrival)
    → new.config ≡ n.config
    → (new.at, r) ≡ packet_accepted side c n.at a
    → IsReady n own
    → IsReady new own
ready_accepted n new own side c r a config is_so is =
    becomes n new own _ config (ap (λ (x : NodeData × Accepted). x.0) is_so)
    (keeps_accepted side c n.at a) is

pub ready_sent : (n new : NodeView) (own : Option Sizes) (side : Side) (c : Config) (o : List ℕ)
    (name : Name) (k : ℕ)
    → new.config ≡ n.config
    → (new.at, o) ≡ part_sent side c n.at name k
    → IsReady n own
    → IsReady new own
ready_sent n new own side c o name k config is_so is =
    becomes n new own _ config (ap (λ (x : NodeData × List ℕ). x.0) is_so)
    (keeps_sent side c n.at name k (message_at n.at name)) is

pub ready_plain : (n new : NodeView) (own : Option Sizes) (c : Config) (o : List ℕ)
    (source flags service subtype : ℕ) (body : List ℕ)
    → new.config ≡ n.config
    → (new.at, o) ≡ plain_made c n.at source flags service subtype body
    → IsReady n own
    → IsReady new own
ready_plain n new own c o source flags service subtype body config is_so is =
    becomes n new own _ config (ap (λ (x : NodeData × List ℕ). x.0) is_so) (λ apid sizes all. all)
    is

pub ready_expired : (n new : NodeView) (own : Option Sizes) (side : Side) (c : Config) (r : Expired)
    → new.config ≡ n.config
    → (new.at, r) ≡ reception_expired side c n.at
    → IsReady n own
    → IsReady new own
ready_expired n new own side c r config is_so is =
    becomes n new own _ config (ap (λ (x : NodeData × Expired). x.0) is_so)
    (keeps_expired side c n.at (due c n.at)) is

pub ready_given_up : (n new : NodeView) (own : Option Sizes) (side : Side) (c : Config)
    (r : Expired) (name : Name)
    → new.config ≡ n.config
    → (new.at, r) ≡ given_up side c n.at name
    → IsReady n own
    → IsReady new own
ready_given_up n new own side c r name config is_so is =
    becomes n new own _ config (ap (λ (x : NodeData × Expired). x.0) is_so)
    (keeps_expired side c n.at (Some name)) is

-- ---- jobs that are read and executed

-- what stands first can be executed over an end's memories
pub front_ready : (n : NodeView) (own : Option Sizes) (m : Contents)
    → own ≡ Some (sizes_of m)
    → IsReady n own
    → IsReadFor n m
front_ready n own m some is = front_readings n.config.apid m n.at.jobs.jobs (is (sizes_of m) some)

keeps_claimed : (d : NodeData) (u : Option (ℕ × List ℕ)) → Keeps d (claimed_of d u).0
keeps_claimed d None = λ apid sizes all. all
keeps_claimed d (Some x) =
    λ apid sizes all. All-set (IsReading apid sizes) d.jobs.jobs (claimed_in d.jobs.jobs) Claimed
    (claimed-reading apid sizes) all

abbrev first_of : NodeData × Bool → NodeData
first_of x = x.0

-- a reading that is for them is handed in
committed_keeps : (apid : ℕ) (sizes : Sizes) (d : NodeData) (boot job : ℕ) (r : Source)
    → r.apid ≡ apid
    → r.sizes ≡ sizes
    → All (IsReading apid sizes) d.jobs.jobs
    → All (IsReading apid sizes) (job_committed d boot job r).0.jobs.jobs
committed_keeps apid sizes d boot job r its fits all = go (boot == d.boot) where
  go : (b : Bool)
      → All (IsReading apid sizes) (first_of (if b then (record d { jobs = after_commit d.jobs job r }, true) else (d, false))).jobs.jobs
  go true = All-set (IsReading apid sizes) d.jobs.jobs (job - d.jobs.first) (Committed r) (committed-reading apid sizes r its fits) all
  go false = all

-- a job was claimed and its reading handed in
pub ready_read : (n mid new : NodeView) (own : Option Sizes) (m : Sizes) (t : Ticket) (b : Bool)
    (boot job : ℕ) (r : Source)
    → own ≡ Some m
    → mid.config ≡ n.config
    → (mid.at, t) ≡ job_claimed n.at
    → new.config ≡ mid.config
    → (new.at, b) ≡ job_committed mid.at boot job r
    → r.apid ≡ n.config.apid
    → r.sizes ≡ m
    → IsReady n own
    → IsReady new own
ready_read n mid new own m t b boot job r is c1 k1 c2 k2 its fits all m' some =
    let same : m ≡ m' = cc in
    let apid : n.config.apid ≡ new.config.apid = ap (λ (c : Config). c.apid) (sym c1 ∙ sym c2) in
    let P = IsReading n.config.apid m' in
    let claim : All P mid.at.jobs.jobs =
    subst (λ (d : NodeData). All P d.jobs.jobs) (sym (ap (λ (y : NodeData × Ticket). y.0) k1))
    (keeps_claimed n.at (oldest_unclaimed n.at.jobs) n.config.apid m' (all m' some))
    in
    let commit : All P new.at.jobs.jobs =
    subst (λ (d : NodeData). All P d.jobs.jobs) (sym (ap (λ (y : NodeData × Bool). y.0) k2))
    (committed_keeps n.config.apid m' mid.at boot job r its (fits ∙ same) claim)
    in
    subst (λ (a : ℕ). All (IsReading a m') new.at.jobs.jobs) apid commit

opened_keeps : (d : NodeData) (o : Option (Name × List ℕ)) → Keeps d (with_opened d o)
opened_keeps d None = λ apid sizes all. all
opened_keeps d (Some x) = λ apid sizes all. all

-- what stands first is executed
executed_keeps : (c : Config) (d : NodeData) (ms : Contents) (h : Head) (apid : ℕ)
    → FrontIsFor h apid ms
    → All (IsReading apid (sizes_of ms)) d.jobs.jobs
    → All (IsReading apid (sizes_of (executed_of c d ms h).1)) (executed_of c d ms h).0.0.jobs.jobs
executed_keeps c d ms NoJob apid front all = all
executed_keeps c d ms NotReady apid front all = all
executed_keeps c d ms (Ready r) apid front all =
    let same : sizes_of (effect (source_meaning r) ms) ≡ sizes_of ms =
    sizes_of-effect (source_meaning r) ms
    (subst (λ (s : Sizes). MeaningFits s (source_meaning r)) front.1
    (meaning-fits r.apid r.sizes r.message))
    in
    subst (λ (s : Sizes). All (IsReading apid s) (executed_of c d ms (Ready r)).0.0.jobs.jobs) (sym same)
    (opened_keeps _ _ apid (sizes_of ms) (All-drop (IsReading apid (sizes_of ms)) 1 d.jobs.jobs all))

pub ready_executed : (n new : NodeView) (own after : Option Sizes) (m left : Contents)
    (x : Execution)
    → own ≡ Some (sizes_of m)
    → after ≡ Some (sizes_of left)
    → new.config ≡ n.config
    → ((new.at, x), left) ≡ job_executed n.config n.at m
    → IsReady n own
    → IsReady new after
ready_executed n new own after m left x some last config done all z is =
    let same : sizes_of left ≡ z = cc in
    let from = all (sizes_of m) some in
    let kept =
    executed_keeps n.config n.at m (head_of n.at.jobs.jobs) n.config.apid
    (front_readings n.config.apid m n.at.jobs.jobs from) from
    in
    let here : All (IsReading n.config.apid (sizes_of left)) new.at.jobs.jobs =
    subst (λ (w : (NodeData × Execution) × Contents). All (IsReading n.config.apid (sizes_of w.1)) w.0.0.jobs.jobs)
    (sym done) kept
    in
    subst (λ (c : Config). All (IsReading c.apid z) new.at.jobs.jobs) (sym config)
    (subst (λ (w : Sizes). All (IsReading n.config.apid w) new.at.jobs.jobs) same here)

-- what stands first is let go
pub ready_dropped : {A B : Type 0} (r : Result A B) (n new : NodeView) (own : Option Sizes)
    → new.config ≡ n.config
    → OnOk r (new.at ≡ record n.at { jobs = without_front n.at.jobs })
    → OnErr r (new.at ≡ n.at)
    → IsReady n own
    → IsReady new own
ready_dropped r n new own config ok err is =
    by_result r n new own _ config ok err
    (λ apid sizes all. All-drop (IsReading apid sizes) 1 n.at.jobs.jobs all) is

given_keeps : (c : Config) (d : NodeData) (end : Source → Ending) (h : Head)
    → Keeps d (executed_so c d end h).0
given_keeps c d end NoJob = λ apid sizes all. all
given_keeps c d end NotReady = λ apid sizes all. all
given_keeps c d end (Ready r) =
    λ apid sizes all. opened_keeps _ _ apid sizes
    (All-drop (IsReading apid sizes) 1 d.jobs.jobs all)

-- what stands first is executed where the memories are elsewhere
pub ready_given : (n new : NodeView) (own : Option Sizes) (octets : List ℕ) (x : Execution)
    → new.config ≡ n.config
    → (new.at, x) ≡ executed_given n.config n.at octets
    → IsReady n own
    → IsReady new own
ready_given n new own octets x config is_so is =
    becomes n new own _ config (ap (λ (y : NodeData × Execution). y.0) is_so)
    (given_keeps n.config n.at (ending_given n.config n.at octets) (head_of n.at.jobs.jobs)) is

-- what stands first is refused
pub ready_refused : (n new : NodeView) (own : Option Sizes) (code : FailureCode) (x : Execution)
    → new.config ≡ n.config
    → (new.at, x) ≡ refused_front n.config n.at code
    → IsReady n own
    → IsReady new own
ready_refused n new own code x config is_so is =
    becomes n new own _ config (ap (λ (y : NodeData × Execution). y.0) is_so)
    (given_keeps n.config n.at (λ r. Refused code) (head_of n.at.jobs.jobs)) is
