-- What an end does doesn't depend on the clock that its configuration began with, and on its limits
-- only as its node has them.
use Rattle.std.proofs.Common.{◌≡◌, ◌∙◌, ap, sym, refl, ℕ, Bool, true, false, if◌then◌else◌, List, [], ◌∷◌, Option, Some, None, is_some}
use Rattle.std.specs.FinMap as maps
use Rattle.lpt_apart.specs.TwoEnds.{Own, own_config}
use Rattle.lpt_c_end.specs.Changes.{delivery, expiry, giving_up, read_by, execution_by}
use Rattle.lpt_c_end.specs.Kept.{sizes_in}
use Rattle.lpt_c_end.specs.declared.end.End.{End}
use Rattle.lpt_c_end.specs.declared.kept.Kept.{Kept}
use Rattle.lpt_c_end.specs.declared.kept.Kept.TheVariants.{Nowhere, Here, Elsewhere}
use Rattle.lpt_c_pair.specs.Pairs.{IsEndOf}
use Rattle.lpt_packet.specs.Names.{Name}
use Rattle.lpt_pus.specs.declared.failure_code.FailureCode.{FailureCode}
use Rattle.lpt_events.specs.Arrivals.{Arrival, NotRead, AnIdle, Foreign, ARequest, AReport, NoPart, APart, AnAbort, arrival}
use Rattle.lpt_events.specs.declared.config.Config.{Config}
use Rattle.lpt_events.specs.declared.side.Side.{Side}
use Rattle.lpt_events.specs.declared.side.Side.TheVariants.{Ground, Craft}
use Rattle.lpt_execution.specs.Reporting.{message_reports, request_source, link_packets, large_packets, opened_of, applied_of}
use Rattle.lpt_execution.specs.declared.ending.Ending.{Ending}
use Rattle.lpt_execution.specs.declared.ending.Ending.TheVariants.{Refused}
use Rattle.lpt_execution.specs.declared.ending.Report.{Report}
use Rattle.lpt_jobs.specs.Jobs.{Head, NoJob, NotReady, Ready, head_of, without_front}
use Rattle.lpt_ledger.specs.LeastFree.{least_free_in}
use Rattle.lpt_ledger.specs.States.{state_at}
use Rattle.lpt_ledger.specs.declared.state.State.{State}
use Rattle.lpt_ledger.specs.declared.state.State.TheVariants.{Free, Open, Closed}
use Rattle.lpt_memory.specs.Meanings.{Sizes}
use Rattle.lpt_memory.specs.Memories.{Contents, effect}
use Rattle.lpt_memory.specs.Readings.{Source, source_meaning}
use Rattle.lpt_node.specs.Accepting.{packet_accepted}
use Rattle.lpt_node.specs.Jobs.{Execution, ending_at, report_packet, report_packets, reports_made, with_opened, job_executed, executed_of, executed_so, refused_front}
use Rattle.lpt_node.specs.Nodes.{Sending, NodeData, message_at}
use Rattle.lpt_node.specs.Requests.{refusal_plain, plain_made}
use Rattle.lpt_node.specs.Sending.{refusal_open, refusal_open_in, refusal_send, refusal_send_of, part_sent, sent_of, counted_kind}
use Rattle.lpt_node.specs.Times.{due, refusal_expire, refusal_give_up, reception_expired, expired_of, given_up, which_ends}
use Rattle.lpt_node.specs.declared.fault.NodeFault.TheVariants.{NotOpen}

module _ (c : Config) (t : Own) where
  open_in : (limit : ℕ) (s : State) (n len : ℕ)
      → refusal_open_in (own_config t c) limit s n len ≡ refusal_open_in c limit s n len
  open_in limit Free n len = refl
  open_in limit Open n len = refl
  open_in limit Closed n len = refl

  send_of : (k : ℕ) (m : Option (List ℕ))
      → refusal_send_of (own_config t c) k m ≡ refusal_send_of c k m
  send_of k None = refl
  send_of k (Some m) = refl

  part_of : (s : Side) (d : NodeData) (name : Name) (k : ℕ) (m : Option (List ℕ))
      → sent_of s (own_config t c) d name k m ≡ sent_of s c d name k m
  part_of s d name k None = refl
  part_of Ground d name k (Some m) = refl
  part_of Craft d name k (Some m) = refl

  taken : (s : Side) (d : NodeData) (a : Arrival)
      → packet_accepted s (own_config t c) d a ≡ packet_accepted s c d a
  taken s d NotRead = refl
  taken s d AnIdle = refl
  taken s d Foreign = refl
  taken s d (ARequest b) = refl
  taken s d (AReport service subtype) = refl
  taken s d NoPart = refl
  taken Ground d (APart q) = refl
  taken Craft d (APart q) = refl
  taken s d (AnAbort name reason) = refl

  ends_so : (s : Side) (d : NodeData) (o : Option Name)
      → expired_of s (own_config t c) d o ≡ expired_of s c d o
  ends_so s d None = refl
  ends_so Ground d (Some name) = refl
  ends_so Craft d (Some name) = refl

  reports : (peer : ℕ) (s : Sending) (clock : ℕ) (rs : List Report)
      → report_packets (own_config t c) peer s clock rs ≡ report_packets c peer s clock rs
  reports peer s clock [] = refl
  reports peer s clock (r ∷ rs) =
      λ i. (r, report_packet c peer s clock r) ∷ reports peer (counted_kind s r.kind) clock rs i

  -- what an execution makes of its reports' packets
  abbrev made_of : (d : NodeData) (r : Source) (end : Ending) → List (Report × List ℕ)
      → NodeData × Execution
  made_of d r end made =
      let reports = message_reports r.apid r.message end in
      let message =
      opened_of (least_free_in d.sending.ledger (request_source r.apid r.message))
      (large_packets c.part_size made) in (
        with_opened (record d {
          sending = reports_made d.sending reports;
          jobs = without_front d.jobs;
        }) message,
        record {
          applied = applied_of end message;
          packets = link_packets c.part_size made;
          opened = message;
        },
      )

  done_of : (d : NodeData) (ms : Contents) (h : Head)
      → executed_of (own_config t c) d ms h ≡ executed_of c d ms h
  done_of d ms NoJob = refl
  done_of d ms NotReady = refl
  done_of d ms (Ready r) =
      let end : Ending = ending_at c d ms r in
      let peer : ℕ = request_source r.apid r.message in
      let rs : List Report = message_reports r.apid r.message end in
      ap (λ (x : List (Report × List ℕ)). (made_of d r end x, effect (source_meaning r) ms))
      (reports peer d.sending d.clock rs)

  refused_of : (d : NodeData) (code : FailureCode) (h : Head)
      → executed_so (own_config t c) d (λ r. Refused code) h
      ≡ executed_so c d (λ r. Refused code) h
  refused_of d code NoJob = refl
  refused_of d code NotReady = refl
  refused_of d code (Ready r) =
      let peer : ℕ = request_source r.apid r.message in
      let rs : List Report = message_reports r.apid r.message (Refused code) in
      ap (λ (x : List (Report × List ℕ)). made_of d r (Refused code) x)
      (reports peer d.sending d.clock rs)

-- a reception that isn't refused to be given up is the one that is
which_open : (c : Config) (d : NodeData) (name : Name)
    → refusal_give_up d name ≡ None
    → which_ends c d (Some name) ≡ Some name
which_open c d name none = go (is_some (maps.get d.receiving.entries name)) none where
  go : (b : Bool)
      → (if b then None else Some NotOpen) ≡ None
      → (if b then Some name else None) ≡ Some name
  go true none = refl
  go false none = absurd cc

module _ {c : Config} {s : Side} {n : NodeData} {kept : Kept} {e : End}
    (is : IsEndOf c s n kept e) where
  pub refuses_open : (name : Name) (len : ℕ)
      → refusal_open e.config e.node.at name len ≡ refusal_open c n name len
  refuses_open name len =
      (λ i. refusal_open (is.config i) (is.node i) name len)
      ∙ open_in c is.own n.outgoing (state_at n.sending.ledger name)
      (maps.len n.sending.messages) len

  pub refuses_send : (name : Name) (k : ℕ)
      → refusal_send e.config e.node.at name k ≡ refusal_send c n name k
  refuses_send name k =
      (λ i. refusal_send (is.config i) (is.node i) name k)
      ∙ send_of c is.own k (message_at n name)

  pub sends : (name : Name) (k : ℕ)
      → part_sent e.side e.config e.node.at name k ≡ part_sent s c n name k
  sends name k =
      (λ i. part_sent (is.side i) (is.config i) (is.node i) name k)
      ∙ part_of c is.own s n name k (message_at n name)

  pub refuses_plain : (service subtype len : ℕ)
      → refusal_plain e.config service subtype len ≡ refusal_plain c service subtype len
  refuses_plain service subtype len = λ i. refusal_plain (is.config i) service subtype len

  pub asks : (source flags service subtype : ℕ) (body : List ℕ)
      → plain_made e.config e.node.at source flags service subtype body
      ≡ plain_made c n source flags service subtype body
  asks source flags service subtype body =
      λ i. plain_made (is.config i) (is.node i) source flags service subtype body

  pub takes : (b : List ℕ) → delivery e b ≡ packet_accepted s c n (arrival s c.apid c.part_size b)
  takes b =
      (λ i. packet_accepted (is.side i) (is.config i) (is.node i) (arrival (is.side i)
      (is.config i).apid (is.config i).part_size b))
      ∙ taken c is.own s n (arrival s c.apid c.part_size b)

  pub refuses_expire : refusal_expire e.config e.node.at ≡ refusal_expire c n
  refuses_expire = λ i. refusal_expire (is.config i) (is.node i)

  pub expires : expiry e ≡ reception_expired s c n
  expires =
      (λ i. reception_expired (is.side i) (is.config i) (is.node i))
      ∙ ends_so c is.own s n (due c n)

  pub gives_up : (name : Name)
      → refusal_give_up e.node.at name ≡ None
      → giving_up name e ≡ expired_of s c n (which_ends c n (Some name))
  gives_up name none =
      (λ i. given_up (is.side i) (is.config i) (is.node i) name)
      ∙ ends_so c is.own s n (Some name)
      ∙ ap (expired_of s c n) (sym (which_open c n name
      (sym (λ i. refusal_give_up (is.node i) name) ∙ none)))

  pub reads : read_by e.config (sizes_in e.memories) e.node.at ≡ read_by c (sizes_in kept) n
  reads = (λ i. read_by (is.config i) (sizes_in (is.memories i)) (is.node i)) ∙ read_of
      (sizes_in kept) where
        read_of : (o : Option Sizes) → read_by (own_config is.own c) o n ≡ read_by c o n
        read_of None = refl
        read_of (Some sizes) = refl

  pub executes : execution_by e.config e.memories e.node.at ≡ execution_by c kept n
  executes = (λ i. execution_by (is.config i) (is.memories i) (is.node i)) ∙ done_by kept where
    done_by : (o : Kept) → execution_by (own_config is.own c) o n ≡ execution_by c o n
    done_by Nowhere = refl
    done_by (Here m) =
        ap (λ (x : (NodeData × Execution) × Contents). (x.0, Here x.1))
        (done_of c is.own n m (head_of n.jobs.jobs))
    done_by (Elsewhere sizes) = refl

  pub executes_over : (m : Contents) → job_executed e.config e.node.at m ≡ job_executed c n m
  executes_over m =
      (λ i. job_executed (is.config i) (is.node i) m) ∙ done_of c is.own n m (head_of n.jobs.jobs)

  pub refuses_front : (code : FailureCode)
      → refused_front e.config e.node.at code ≡ refused_front c n code
  refuses_front code =
      (λ i. refused_front (is.config i) (is.node i) code)
      ∙ refused_of c is.own n code (head_of n.jobs.jobs)
