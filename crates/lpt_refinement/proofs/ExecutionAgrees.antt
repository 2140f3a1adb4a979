-- What the node does with a message that leaves is what the journal tells.
use Rattle.std.proofs.Common.{◌≡◌, ◌∙◌, ap, sym, refl, ℕ, nat_lt, List, [], ◌∷◌, ◌++◌, length, map, Option, Some, None, is_some}
use Rattle.std.specs.FinMap as maps
use Rattle.std.specs.Option.{option_map_or, option_map}
use Rattle.std.proofs.lemmas.List.{map-append}
use Rattle.lpt_packet.specs.declared.direction.Direction.TheVariants.{Down}
use Rattle.lpt_packet.specs.Names.{Name, named_by}
use Rattle.lpt_ledger.specs.LeastFree.{least_free_in, first_of_numbers, name_count}
use Rattle.lpt_ledger.specs.States.{state_of, is_free as is_free_mark}
use Rattle.lpt_events.specs.declared.config.Config.{Config}
use Rattle.lpt_events.specs.declared.entry.Release.{Release}
use Rattle.lpt_acts.specs.Acts.{Leaving, Execute, Refuse, Drop, ending_by, Apply}
use Rattle.lpt_events.specs.declared.reply.Answer.{Answer}
use Rattle.lpt_events.specs.declared.reply.Answer.TheVariants.{Applied}
use Rattle.lpt_events.specs.declared.side.Side.TheVariants.{Craft}
use Rattle.lpt_memory.specs.Effects.{answer}
use Rattle.lpt_memory.specs.Meanings.{meaning}
use Rattle.lpt_memory.specs.Memories.{Contents, sizes_of, effect}
use Rattle.lpt_memory.proofs.MeaningLemmas.{meaning-fits}
use Rattle.lpt_memory.proofs.PutLemmas.{sizes_of-effect}
use Rattle.lpt_memory.specs.Readings.{Source, source_meaning}
use Rattle.lpt_jobs.specs.Jobs.{Head, Ready, head_of, without_front}
use Rattle.lpt_execution.specs.declared.ending.Ending.{Ending}
use Rattle.lpt_execution.specs.declared.ending.Ending.TheVariants.{Silent, Refused}
use Rattle.lpt_execution.specs.declared.ending.Report.{Report}
use Rattle.lpt_execution.specs.Endings.{ending}
use Rattle.lpt_execution.specs.Reporting.{message_reports, request_source, link_packets, large_packets, opened_of, applied_of}
use Rattle.lpt_node.specs.Jobs.{Execution, ending_at, report_packets, reports_made, executed_with, executed_ending, executed_of, executed_so, not_executed, with_opened as node_opened}
use Rattle.lpt_node.specs.Nodes.{NodeData, Sending}
use Rattle.lpt_journal.specs.Journal.{SentPacket, Recorded, History, with_all}
use Rattle.lpt_journal.specs.Link.{sent}
use Rattle.lpt_journal.specs.Jobs.{executed, executed_now, left_by, memories}
use Rattle.lpt_journal.specs.Executions.{ending_of, reports_after, opened_down}
use Rattle.lpt_journal.specs.Receivers.{clock, limits}
use Rattle.lpt_journal.specs.Replies.{puts_told}
use Rattle.lpt_journal.specs.Senders.{Sender, FreeSender, OpenSender, ClosedSender, sender, is_free, least_free, packets_made}
use Rattle.lpt_journal.proofs.LeavingLemmas.{silent_reports, none_opened}
use Rattle.lpt_refinement.specs.Shows.{Shows, ShowsSending, mark_of}
use Rattle.lpt_model.specs.State.{State, job_left}
use Rattle.lpt_refinement.specs.Views.{Views, views, sending_view}
use Rattle.lpt_refinement.proofs.FrontShown.{source}
use Rattle.lpt_refinement.proofs.Refusals.{open_as_many}
use Rattle.lpt_refinement.proofs.ReportsMade.{packets_agree}

-- ---- what is asked before it

free_shown : (x : Sender) → is_free_mark (state_of (mark_of x)) ≡ is_free x
free_shown FreeSender = refl
free_shown (OpenSender m) = refl
free_shown ClosedSender = refl

-- the least free name of the ledger is the journal's
least_shown : {x : Sending} (h : History) (source : ℕ)
    → ShowsSending Craft x (sending_view h Down)
    → least_free_in x.ledger source ≡ least_free h Down source
unfolding least_free_in
least_shown {x = x} h source k =
    let same : (name : Name)
    → is_free_mark (state_of (maps.get x.ledger name)) ≡ is_free (sender h Down name) =
    λ name. ap (λ m. is_free_mark (state_of m)) (k.ledger name) ∙ free_shown (sender h Down name) in
    λ i. option_map (named_by source) (first_of_numbers name_count 0 (λ n. same (named_by source n) i))

-- it ends as the journal tells
ending_shown : (c : Config) (first : Contents) (s : State) (h : History) (how : Leaving)
    (m : List ℕ)
    → Shows s (views c first h)
    → ending_by how (ending_at c s.on_craft s.memories (source c first m))
    ≡ ending_of c first h how m
ending_shown c first s h how m k =
    let count = open_as_many h Down k.craft.sending in
    let free = least_shown h (request_source c.apid m) k.craft.sending in
    let sizes : sizes_of first ≡ sizes_of (memories c first h) = sym k.sizes in
    λ i. ending_by how
    (ending c.part_size (is_some (free i)) (nat_lt (count i) (k.craft.outgoing i))
    (answer (meaning c.apid (sizes i) m) (k.memories i)))

-- ---- what the journal tells of a message that leaves

-- its reports
abbrev pub reports : Config → Contents → History → Leaving → List ℕ → List Report
reports c first h how m = message_reports c.apid m (ending_of c first h how m)

-- with their packets
abbrev pub packets : Config → Contents → History → Leaving → List ℕ → List (Report × List ℕ)
packets c first h how m =
    reports_after c (request_source c.apid m) (packets_made h Down) (clock c h Craft)
    (reports c first h how m)

-- what it opens
abbrev pub message : Config → Contents → History → Leaving → List ℕ → Option (Name × List ℕ)
message c first h how m =
    opened_of (least_free h Down (request_source c.apid m))
    (large_packets c.part_size (packets c first h how m))

-- what it answers
abbrev pub told_answer : Config → Contents → History → Leaving → List ℕ → Answer
told_answer c first h how m =
    Applied (applied_of (ending_of c first h how m) (message c first h how m))

-- what it puts
abbrev pub on_link : Config → Contents → History → Leaving → List ℕ → List (List ℕ)
on_link c first h how m = link_packets c.part_size (packets c first h how m)

abbrev pub sent_down : List (List ℕ) → List SentPacket
sent_down bs = map (λ b. record { direction = Down; octets = b }) bs

-- the entry
abbrev pub told_entry : Config → Contents → History → Leaving → List ℕ → Recorded
told_entry c first h how m =
    let ps = sent_down (on_link c first h how m) in
    record {
      event = Apply how;
      reply = record {
        answer = told_answer c first h how m;
        puts = puts_told (length (sent h)) ps;
      };
      puts = ps;
      opens = opened_down (length h) (message c first h how m);
    }

-- the memories after it
abbrev pub told_memories : Config → Contents → History → Leaving → Option Release → Contents
told_memories c first h how o =
    left_by c.apid (map (λ r. r.message) (with_all (executed c h) (executed_now (Apply how) o)))
    first

-- the view after it
abbrev pub told_view : Config → Contents → History → Leaving → Release → Views
told_view c first h how r =
    record (views c first (told_entry c first h how r.message ∷ h)) {
      memories = told_memories c first h how (Some r);
    }

-- the same of the job at the front, where there is one
abbrev pub entry_by : Config → Contents → History → Leaving → Option Release → Recorded
entry_by c first h how o =
    let end = option_map_or (λ r. ending_of c first h how r.message) o Silent in
    let rs =
    option_map_or (λ r. message_reports c.apid r.message (ending_of c first h how r.message)) o
    [] in
    let peer = option_map_or (λ r. request_source c.apid r.message) o 0 in
    let bs = reports_after c peer (packets_made h Down) (clock c h Craft) rs in
    let opens = opened_of (least_free h Down peer) (large_packets c.part_size bs) in
    let ps = sent_down (link_packets c.part_size bs) in
    record {
      event = Apply how;
      reply = record {
        answer = Applied (applied_of end opens);
        puts = puts_told (length (sent h)) ps;
      };
      puts = ps;
      opens = opened_down (length h) opens;
    }

abbrev pub view_by : Config → Contents → History → Leaving → Option Release → Views
view_by c first h how o =
    record (views c first (entry_by c first h how o ∷ h)) {
      memories = told_memories c first h how o;
    }

-- ---- what the node does

-- the end and its answer, where the execution ends so and these packets are made
abbrev pub ended : Config
    → NodeData
    → Ending
    → List Report
    → List (Report × List ℕ)
    → Option (Name × List ℕ)
    → NodeData × Execution
ended c d end rs bs opens = (
  node_opened (record d { sending = reports_made d.sending rs; jobs = without_front d.jobs }) opens,
  record {
    applied = applied_of end opens;
    packets = link_packets c.part_size bs;
    opened = opens;
  },
)

-- the same, as the journal tells
abbrev pub ended_told : Config
    → Contents
    → State
    → History
    → Leaving
    → List ℕ
    → NodeData × Execution
ended_told c first s h how m =
    ended c s.on_craft (ending_of c first h how m) (reports c first h how m)
    (packets c first h how m) (message c first h how m)

-- the node does what the journal tells
execution_agrees : (c : Config) (first : Contents) (s : State) (h : History) (how : Leaving)
    (m : List ℕ)
    → Shows s (views c first h)
    → executed_ending c s.on_craft (source c first m)
    (ending_by how (ending_at c s.on_craft s.memories (source c first m)))
    ≡ ended_told c first s h how m
execution_agrees c first s h how m k =
    let peer = request_source c.apid m in
    let free = least_shown h peer k.craft.sending in
    let made : report_packets c peer s.on_craft.sending s.on_craft.clock (reports c first h how m)
    ≡ packets c first h how m =
    packets_agree c peer (reports c first h how m) s.on_craft.clock (clock c h Craft) k.craft.clock
    k.craft.sending in
    ap (executed_ending c s.on_craft (source c first m)) (ending_shown c first s h how m k)
    ∙ (λ i. ended c s.on_craft (ending_of c first h how m) (reports c first h how m) (made i)
    (opened_of (free i) (large_packets c.part_size (made i))))

-- one request more
left_by-more : (apid : ℕ) (ms : List (List ℕ)) (m : List ℕ) (first : Contents)
    → left_by apid (ms ++ m ∷ []) first
    ≡ effect (meaning apid (sizes_of (left_by apid ms first)) m) (left_by apid ms first)
left_by-more apid [] m first = refl
left_by-more apid (x ∷ ms) m first =
    left_by-more apid ms m (effect (meaning apid (sizes_of first) x) first)

told_more : (c : Config) (first : Contents) (h : History) (r : Release)
    → told_memories c first h Execute (Some r)
    ≡ effect (meaning c.apid (sizes_of (memories c first h)) r.message) (memories c first h)
told_more c first h r =
    ap (λ ms. left_by c.apid ms first) (map-append (λ r. r.message) (executed c h) (r ∷ []))
    ∙ left_by-more c.apid (map (λ r. r.message) (executed c h)) r.message first

-- the memories after an execution
memories_agree : (c : Config) (first : Contents) (s : State) (h : History) (r : Release)
    → Shows s (views c first h)
    → effect (source_meaning (source c first r.message)) s.memories
    ≡ told_memories c first h Execute (Some r)
memories_agree c first s h r k =
    (λ i. effect (meaning c.apid (sym k.sizes i) r.message) (k.memories i))
    ∙ sym (told_more c first h r)

-- the memories keep their sizes
pub told_sizes : (c : Config) (first : Contents) (h : History) (how : Leaving) (r : Release)
    → sizes_of (told_memories c first h how (Some r)) ≡ sizes_of (memories c first h)
told_sizes c first h Execute r =
    ap sizes_of (told_more c first h r)
    ∙ sizes_of-effect (meaning c.apid (sizes_of (memories c first h)) r.message)
    (memories c first h)
    (meaning-fits c.apid (sizes_of (memories c first h)) r.message)
told_sizes c first h (Refuse code) r = refl
told_sizes c first h Drop r = refl

-- ---- what is dropped

-- it leaves, and all else is as it was
dropped : (c : Config) (d : NodeData) (r : Source)
    → executed_ending c d r Silent
    ≡ (record d { jobs = without_front d.jobs }, not_executed)
dropped c d r =
    let peer = request_source r.apid r.message in
    let free = least_free_in d.sending.ledger peer in
    ap (λ rs. executed_with c d peer Silent rs
    (opened_of free (large_packets c.part_size (report_packets c peer d.sending d.clock rs))))
    (silent_reports r.apid r.message)
    ∙ ap (executed_with c d peer Silent []) (none_opened free)

-- ---- all of it

-- what the machine makes of the job at the front that leaves so
pub left_at : (c : Config) (first : Contents) (s : State) (h : History) (how : Leaving)
    (r : Release)
    → Shows s (views c first h)
    → head_of s.on_craft.jobs.jobs ≡ Ready (source c first r.message)
    → job_left how c s.on_craft s.memories
    ≡ (ended_told c first s h how r.message, told_memories c first h how (Some r))
left_at c first s h Execute r k front =
    ap (executed_of c s.on_craft s.memories) front
    ∙ (λ i. (execution_agrees c first s h Execute r.message k i, memories_agree c first s h r k i))
left_at c first s h (Refuse code) r k front =
    ap (λ (x : Head). (executed_so c s.on_craft (λ y. Refused code) x, s.memories)) front
    ∙ (λ i. (execution_agrees c first s h (Refuse code) r.message k i, k.memories i))
left_at c first s h Drop r k front =
    (λ i. (sym (dropped c s.on_craft (source c first r.message)) i, s.memories))
    ∙ (λ i. (execution_agrees c first s h Drop r.message k i, k.memories i))
