-- The oldest request stays what it is, until it is executed or its end is restarted.
use Rattle.std.proofs.Common.{◌≡◌, ◌∙◌, ap, sym, refl, ℕ, suc, Bool, true, false, if◌then◌else◌, List, [], ◌∷◌, ◌++◌, Option, Some, None, set, arith}
use Rattle.std.specs.Prelude.{slice_get, ⊤}
use Rattle.std.specs.Option.{option_and_then, option_map}
use Rattle.lpt_c_end.specs.Accesses.{access_word}
use Rattle.lpt_c_end.specs.declared.accessing.LptAccess.{LptAccess}
use Rattle.lpt_memory.specs.Given.{accesses}
use Rattle.lpt_c_end.specs.Changes.{read_by}
use Rattle.lpt_c_end.specs.Codes.{no_job, node_code}
use Rattle.lpt_c_end.specs.Kept.{memories_refusal, sizes_in}
use Rattle.lpt_c_end.specs.Words.{direction_from as direction_by}
use Rattle.lpt_c_end.specs.declared.end.End.{End}
use Rattle.lpt_c_end.specs.declared.kept.Kept.{Kept}
use Rattle.lpt_c_end.specs.declared.kept.Kept.TheVariants.{Nowhere, Here, Elsewhere}
use Rattle.lpt_c_pair.specs.Pairs.{Call, Open, Part, Plain, Finish, LetGo, Packet, Expire, GiveUp, Tick, Rebase, Read, Execute, ExecuteGiven, Drop, DropRead, Refuse, Retire, RetireFree, Restart, Resume, ResumeSized, Fails, IsDone}
use Rattle.lpt_c_pair.specs.Programs.{ToldWrite, IsTold}
use Rattle.lpt_apart.proofs.Handed.{put_in_place, waits}
use Rattle.lpt_c_pair.proofs.Lemmas.{no_fault}
use Rattle.lpt_c_pair.proofs.Telling.{copies, tells}
use Rattle.lpt_events.specs.Arrivals.{arrival}
use Rattle.lpt_events.specs.Lanes.{same_direction}
use Rattle.lpt_events.specs.declared.config.Config.{Config}
use Rattle.lpt_events.specs.declared.side.Side.{Side}
use Rattle.lpt_jobs.specs.Jobs.{Head, Jobs, NoJob, NotReady, Ready, claimed_in, head_of, oldest}
use Rattle.lpt_jobs.specs.declared.job.Job.{Job}
use Rattle.lpt_jobs.specs.declared.job.Job.TheVariants.{Waiting, Claimed, Committed}
use Rattle.lpt_memory.specs.Meanings.{Sizes}
use Rattle.lpt_memory.specs.Readings.{Source, source_meaning}
use Rattle.lpt_node.specs.Jobs.{job_claimed, front_reading, refusal_claim}
use Rattle.lpt_node.specs.Nodes.{NodeData, direction_from, message_at}
use Rattle.lpt_node.specs.Receiving.{with_report}
use Rattle.lpt_node.specs.Requests.{plain_made}
use Rattle.lpt_node.specs.Restarts.{name_retired}
use Rattle.lpt_node.specs.Sending.{sender_closed, message_opened, part_sent, sent_of}
use Rattle.lpt_node.specs.Times.{clock_back, due, reception_expired, expired_of, given_up, clock_ticked}
use Rattle.lpt_node.proofs.JobLemmas.{jobs_accepted}
use Rattle.lpt_packet.specs.Names.{Name}
use Rattle.lpt_packet.specs.declared.direction.Direction.{Direction}

-- this stands at the front of a node's requests, read
abbrev IsAtFront : Source → NodeData → Type 0
IsAtFront r d = head_of d.jobs.jobs ≡ Ready r

-- ---- lists of requests

-- one that comes behind doesn't change it
pushed : (r : Source) (js : List Job) (m : List ℕ)
    → head_of js ≡ Ready r
    → head_of (js ++ Waiting m ∷ []) ≡ Ready r
pushed r [] m is = absurd cc
pushed r (j ∷ js) m is = is

-- nor does the reading of one that waits
placed : (r : Source) (js : List Job) (x : Job)
    → head_of js ≡ Ready r
    → head_of (set js (claimed_in js) x) ≡ Ready r
placed r [] x is = absurd cc
placed r (Waiting m ∷ js) x is = absurd cc
placed r (Claimed ∷ js) x is = absurd cc
placed r (Committed s ∷ js) x is =
    let next : claimed_in (Committed s ∷ js) ≡ suc (claimed_in js) = omega arith in
    ap (λ (n : ℕ). head_of (set (Committed s ∷ js) n x)) next ∙ is

-- ---- nodes

sent_leaves : (s : Side) (c : Config) (d : NodeData) (name : Name) (k : ℕ) (o : Option (List ℕ))
    → (sent_of s c d name k o).0.jobs ≡ d.jobs
sent_leaves s c d name k None = refl
sent_leaves s c d name k (Some m) = refl

report_leaves : (d : NodeData) (o : Option (List ℕ)) → (with_report d o).jobs ≡ d.jobs
report_leaves d None = refl
report_leaves d (Some b) = refl

expired_leaves : (s : Side) (c : Config) (d : NodeData) (o : Option Name)
    → (expired_of s c d o).0.jobs ≡ d.jobs
expired_leaves s c d None = refl
expired_leaves s c d (Some name) = report_leaves _ _

either : (a b d : NodeData) (t : Bool)
    → a.jobs ≡ d.jobs
    → b.jobs ≡ d.jobs
    → (if t then a else b).jobs ≡ d.jobs
either a b d true of_a of_b = of_a
either a b d false of_a of_b = of_b

retired_leaves : (s : Side) (d : NodeData) (way : Direction) (name : Name)
    → (name_retired s d way name).jobs ≡ d.jobs
retired_leaves s d way name = either _ _ d (same_direction way (direction_from s)) refl refl

-- the node became this, whose requests are those that it had
leaves : (r : Source) (d e new : NodeData)
    → new ≡ e
    → e.jobs ≡ d.jobs
    → IsAtFront r d
    → IsAtFront r new
leaves r d e new is same front =
    ap (λ (x : NodeData). head_of x.jobs.jobs) is ∙ ap (λ (q : Jobs). head_of q.jobs) same ∙ front

-- a request was read
reads_leaves : (r : Source) (c : Config) (d : NodeData) (o : Option Sizes)
    → refusal_claim d ≡ None
    → IsAtFront r d
    → IsAtFront r (read_by c o d)
reads_leaves r c d None none front = front
reads_leaves r c d (Some sizes) none front =
    let x : Source = record { apid = c.apid; sizes = sizes; message = (job_claimed d).1.message } in
    ap (λ (e : NodeData). head_of e.jobs.jobs) (waits d x (oldest d.jobs.jobs) none)
    ∙ ap (λ (q : Jobs). head_of q.jobs) (put_in_place d.jobs x)
    ∙ placed r d.jobs.jobs (Committed x) front

-- ---- calls

-- no request leaves the queue, and its end goes on
abbrev pub GoesOn : Call → Type 0
GoesOn Execute = ⊥
GoesOn (ExecuteGiven octets) = ⊥
GoesOn Drop = ⊥
GoesOn DropRead = ⊥
GoesOn (Refuse code) = ⊥
GoesOn Restart = ⊥
GoesOn (Resume config state ms content) = ⊥
GoesOn (ResumeSized config state sizes) = ⊥
GoesOn call = ⊤

no_claim_fault : (kept : Kept) (d : NodeData)
    → memories_refusal kept (node_code (refusal_claim d)) ≡ None
    → refusal_claim d ≡ None
no_claim_fault Nowhere d is = absurd (let both : Some no_job ≡ None = is in cc)
no_claim_fault (Here ms) d is = no_fault (refusal_claim d) is
no_claim_fault (Elsewhere sizes) d is = no_fault (refusal_claim d) is

pub front_stays : (e new : End) (call : Call) (r : Source)
    → IsDone call e new
    → GoesOn call
    → head_of e.node.at.jobs.jobs ≡ Ready r
    → head_of new.node.at.jobs.jobs ≡ Ready r
front_stays e new (Open name m) r done on front =
    leaves r e.node.at (message_opened e.node.at name m) new.node.at done.1.node refl front
front_stays e new (Part name k) r done on front =
    leaves r e.node.at (part_sent e.side e.config e.node.at name k).0 new.node.at done.1.node
    (sent_leaves e.side e.config e.node.at name k (message_at e.node.at name)) front
front_stays e new (Plain source flags service subtype body) r done on front =
    leaves r e.node.at (plain_made e.config e.node.at source flags service subtype body).0
    new.node.at done.1.node refl front
front_stays e new (Finish name) r done on front =
    leaves r e.node.at (sender_closed e.node.at name) new.node.at done.1.node refl front
front_stays e new LetGo r done on front =
    leaves r e.node.at e.node.at new.node.at done.1.node refl front
front_stays e new (Packet b) r done on front =
    ap (λ (x : NodeData). head_of x.jobs.jobs) done.node
    ∙ jobs_accepted (λ js. head_of js ≡ Ready r) (pushed r) e.side e.config e.node.at
    (arrival e.side e.config.apid e.config.part_size b) front
front_stays e new Expire r done on front =
    leaves r e.node.at (reception_expired e.side e.config e.node.at).0 new.node.at done.1.node
    (expired_leaves e.side e.config e.node.at (due e.config e.node.at)) front
front_stays e new (GiveUp name) r done on front =
    leaves r e.node.at (given_up e.side e.config e.node.at name).0 new.node.at done.1.node
    (expired_leaves e.side e.config e.node.at (Some name)) front
front_stays e new Tick r done on front =
    leaves r e.node.at (clock_ticked e.node.at) new.node.at done.1.node refl front
front_stays e new (Rebase ticks) r done on front =
    leaves r e.node.at (clock_back ticks e.node.at) new.node.at done.1.node refl front
front_stays e new Read r done on front =
    ap (λ (x : NodeData). head_of x.jobs.jobs) done.1.node
    ∙ reads_leaves r e.config e.node.at (sizes_in e.memories)
    (no_claim_fault e.memories e.node.at done.0) front
front_stays e new Execute r done on front = absurd on
front_stays e new (ExecuteGiven octets) r done on front = absurd on
front_stays e new Drop r done on front = absurd on
front_stays e new DropRead r done on front = absurd on
front_stays e new (Refuse code) r done on front = absurd on
front_stays e new (Retire direction name) r done on front =
    leaves r e.node.at (name_retired e.side e.node.at (direction_by direction) name) new.node.at
    done.node (retired_leaves e.side e.node.at (direction_by direction) name) front
front_stays e new (RetireFree direction name) r done on front =
    leaves r e.node.at (name_retired e.side e.node.at (direction_by direction) name) new.node.at
    done.node (retired_leaves e.side e.node.at (direction_by direction) name) front
front_stays e new Fails r done on front =
    leaves r e.node.at e.node.at new.node.at done.node refl front
front_stays e new Restart r done on front = absurd on
front_stays e new (Resume config state ms content) r done on front = absurd on
front_stays e new (ResumeSized config state sizes) r done on front = absurd on

-- ---- what is told

-- the access of a number, by what stands at the front
abbrev told_at : (n : ℕ) → Head → Option LptAccess
told_at n h =
    option_and_then
    (λ (s : Source). option_map access_word (slice_get (accesses (source_meaning s)) n))
    (front_reading h)

-- what an access is told of was read
record IsFront (e : End) : Type 0 where
  read : Source
  is : head_of e.node.at.jobs.jobs ≡ Ready read

told_of_front : (e : End) (n : ℕ) (t : ToldWrite) → IsTold n t e → IsFront e
told_of_front e n t told = go (head_of e.node.at.jobs.jobs) refl where
  go : (h : Head) → head_of e.node.at.jobs.jobs ≡ h → IsFront e
  go (Ready r) is = record { read = r; is = is }
  go NoJob is =
      absurd (let none : None ≡ Some t.access = ap (told_at n) (sym is) ∙ told.access in cc)
  go NotReady is =
      absurd (let none : None ≡ Some t.access = ap (told_at n) (sym is) ∙ told.access in cc)

-- and stays what it is
pub told_stays : (e new : End) (call : Call) (n : ℕ) (t : ToldWrite)
    → IsDone call e new
    → GoesOn call
    → IsTold n t e
    → IsTold n t new
told_stays e new call n t done on told =
    let front = told_of_front e n t told in
    let still = front_stays e new call front.read done on front.is in
    record {
      access =
          tells new front.read still n ∙ sym (tells e front.read front.is n) ∙ told.access;
      octets =
          copies new front.read still n ∙ sym (copies e front.read front.is n) ∙ told.octets;
    }
