-- What is copied and told out of an end is what the log's newest facts are.
use Rattle.std.proofs.Common.{◌≡◌, ◌∙◌, ap, sym, subst, refl, ℕ, List, [], ◌∷◌, Option, Some, None}
use Rattle.std.specs.Option.{option_map}
use Rattle.lpt_acts.specs.Acts as act
use Rattle.lpt_apart.specs.Ends.{Left, Released, Log, with_abortion, with_release, with_report}
use Rattle.lpt_apart.specs.TwoEnds.{AllDue}
use Rattle.lpt_c_end.specs.Accesses.{IsAppliedGiven, first_read, length_refusal, unready}
use Rattle.lpt_c_end.specs.Calls.{IsApplied}
use Rattle.lpt_c_end.specs.Changes.{delivery}
use Rattle.lpt_c_end.specs.Codes.{elsewhere, node_code}
use Rattle.lpt_c_end.specs.Kept.{elsewhere_refusal, here_refusal, sizes_in, text_or_nothing}
use Rattle.lpt_c_end.specs.Refusals.{sending_refusal}
use Rattle.lpt_c_end.proofs.ReadyLemmas.{front_ready}
use Rattle.lpt_c_end.specs.declared.end.End.{End}
use Rattle.lpt_c_end.specs.declared.kept.Kept.{Kept}
use Rattle.lpt_c_end.specs.declared.kept.Kept.TheVariants.{Nowhere, Here, Elsewhere}
use Rattle.lpt_c_end.specs.declared.words.LptApplied.{LptApplied}
use Rattle.lpt_c_end.specs.declared.words.LptOutcome.{LptOutcome}
use Rattle.lpt_c_end.specs.Words.{applied_words, words}
use Rattle.lpt_c_pair.specs.Handed.{AllLeave, ExecutionsAreTold, GivenExecutionsAreTold, IsExecutedSo, IsHanded, LeavesReleased, MessagesAreHanded, MessagesStay}
use Rattle.lpt_c_pair.specs.Pairs.{AreEndsOf, Call, Open, Part, Plain, Finish, LetGo, Packet, Expire, GiveUp, Tick, Rebase, Read, Execute, ExecuteGiven, Drop, DropRead, Refuse, Retire, RetireFree, Restart, Resume, ResumeSized, Fails, InEnd, IsDone, IsEndOf, CallPlace, WithProgram, end_of, kept_in}
use Rattle.lpt_c_pair.specs.Runs.{CallTurn, Standing, CanTurnBy, CanStand, KeepsThePromise, stood, turned_by}
use Rattle.lpt_c_pair.proofs.Clockless.{executes, executes_over, takes}
use Rattle.lpt_c_pair.proofs.GivenLemmas.{not_short}
use Rattle.lpt_c_pair.proofs.Lemmas.{IsRead, no_fault, not_unsent, was_read}
use Rattle.lpt_c_pair.proofs.Telling.{is_there}
use Rattle.lpt_events.specs.Arrivals.{Arrival, NotRead, AnIdle, Foreign, ARequest, AReport, NoPart, APart, AnAbort, arrival}
use Rattle.lpt_events.specs.Sides.{direction_to}
use Rattle.lpt_events.specs.declared.applied.Applied.TheVariants.{Done}
use Rattle.lpt_events.specs.declared.config.Config.{Config}
use Rattle.lpt_events.specs.declared.side.Side.{Side}
use Rattle.lpt_events.specs.declared.side.Side.TheVariants.{Ground, Craft}
use Rattle.lpt_execution.specs.Reporting.{applied_of}
use Rattle.lpt_execution.specs.declared.ending.Ending.{Ending}
use Rattle.lpt_execution.specs.declared.ending.Ending.TheVariants as endings
use Rattle.lpt_jobs.specs.Jobs.{Head, NoJob, NotReady, Ready, head_of}
use Rattle.lpt_memory.specs.Memories.{Contents, sizes_of}
use Rattle.lpt_model.specs.State.{released_of}
use Rattle.lpt_node.proofs.GivenLemmas.{given_over}
use Rattle.lpt_node.specs.Jobs.{Execution, FrontIsFor, job_executed, executed_of, front_reading, refusal_apply}
use Rattle.lpt_node.specs.Accepting.{packet_accepted}
use Rattle.lpt_node.specs.declared.accepted.Accepted.{Accepted}
use Rattle.lpt_node.specs.Nodes.{NodeData}
use Rattle.lpt_node.specs.Receivers.{ReceiverState, part_received, received_from, after_offer, if_free, table_in, parts_with, kept_of}
use Rattle.lpt_node.specs.Receiving.{abort_head, after_received, part_accepted, receiver_of}
use Rattle.lpt_pus.specs.Telemetry.{Telemetry}
use Rattle.lpt_reception.specs.Received.{Parts, spelled}
use Rattle.lpt_table.specs.Offering as offering
use Rattle.lpt_table.specs.Offering.{OfferKind, part_offered}
use Rattle.lpt_table.specs.Tables.{Entries, TableState}
use Rattle.lpt_ledger.specs.States.{state_at}
use Rattle.lpt_ledger.specs.declared.state.State.{State}
use Rattle.lpt_ledger.specs.declared.state.State.TheVariants.{Free, Open, Closed}
use Rattle.lpt_events.specs.NamedParts.{NamedPart}
use Rattle.lpt_packet.specs.Names.{Name}
use Rattle.lpt_packet.specs.declared.direction.Direction.{Direction}

module _ (way : Direction) (log : Log) (m : List ℕ) where
  -- the log once a packet was taken
  abbrev logged : Accepted → Log
  logged x = with_abortion way x.outcome (with_release log (released_of way x.outcome) x.released)

  -- its newest fact is the release of this message, where one was released
  abbrev IsLogged : Accepted → Type 0
  IsLogged x = x.released ≡ Some m → logged x ≡ Released (released_of way x.outcome) m ∷ log

  of_offer : (side : Side) (d : NodeData) (q : NamedPart) (h : Option Telemetry)
      (r : ReceiverState) (parts : Parts) (o : OfferKind) (es : Entries)
      → IsLogged (after_received side d q (after_offer h r q.name parts o es)).1
  of_offer side d q h r parts offering.Kept es is = absurd cc
  of_offer side d q h r parts offering.Again es is = absurd cc
  of_offer side d q h r parts offering.Gap es is = absurd cc
  of_offer side d q h r parts offering.NoRoom es is = absurd cc
  of_offer side d q h r parts offering.Whole es is =
      let same : spelled parts ≡ m = cc in
      ap (λ (y : List ℕ). Released (Some (way, q.name)) y ∷ log) same
  of_offer side d q h r parts (offering.Conflict reason) es is = absurd cc

  of_free : (side : Side) (s : State) (d : NodeData) (q : NamedPart) (h : Option Telemetry)
      (r : ReceiverState) (parts : Parts) (o : OfferKind × TableState)
      → IsLogged (after_received side d q (if_free s r (received_from h r q.name parts o))).1
  of_free side Free d q h r parts o is = of_offer side d q h r parts o.0 o.1.entries is
  of_free side Open d q h r parts o is = absurd cc
  of_free side Closed d q h r parts o is = absurd cc

  of_part : (side : Side) (c : Config) (d : NodeData) (q : NamedPart)
      → IsLogged (part_accepted side c d q).1
  unfolding part_received
  of_part side c d q is =
      let r : ReceiverState = receiver_of c d.receiving in
      of_free side (state_at r.ledger q.name) d q (abort_head side c d q.name.source) r
      (parts_with (table_in r) q)
      (part_offered (table_in r) q.name q.number (kept_of q) d.clock) is

  of_arrival : (side : Side) (c : Config) (d : NodeData) (a : Arrival)
      → IsLogged (packet_accepted side c d a).1
  of_arrival side c d NotRead is = absurd cc
  of_arrival side c d AnIdle is = absurd cc
  of_arrival side c d Foreign is = absurd cc
  of_arrival side c d (ARequest b) is =
      let same : b ≡ m = cc in ap (λ (y : List ℕ). Released None y ∷ log) same
  of_arrival side c d (AReport service subtype) is = absurd cc
  of_arrival side c d NoPart is = absurd cc
  of_arrival side c d (AnAbort name reason) is = absurd cc
  of_arrival side c d (APart q) is = of_part side c d q is

-- what was taken at an end, by its node of the two ends apart
handed : (c : Config) (side : Side) (n : NodeData) (kept : Kept) (e new : End) (b : List ℕ)
    (told : LptOutcome) (m : List ℕ) (before after : Log)
    → IsEndOf c side n kept e
    → new.released ≡ (delivery e b).1.released
    → told ≡ words (delivery e b).1.outcome
    → new.released ≡ Some m
    → after
    ≡ logged (direction_to side) before m
    (packet_accepted side c n (arrival side c.apid c.part_size b)).1
    → AllDue after
    → IsHanded side told m before after
handed c side n kept e new b told m before after is released says copied log due =
    let a : Arrival = arrival side c.apid c.part_size b in
    let x : Accepted = (packet_accepted side c n a).1 in
    let same : (delivery e b).1 ≡ x = ap (λ (y : NodeData × Accepted). y.1) (takes is b) in
    let it : x.released ≡ Some m =
    ap (λ (y : Accepted). y.released) (sym same) ∙ sym released ∙ copied in
    let newest : after ≡ Released (released_of (direction_to side) x.outcome) m ∷ before =
    log ∙ of_arrival (direction_to side) before m side c n a it in
    record {
      outcome = x.outcome;
      says = says ∙ ap (λ (y : Accepted). words y.outcome) same;
      log = newest;
      due = (subst AllDue newest due).1;
    }

pub messages_are_handed : MessagesAreHanded
messages_are_handed c first s Ground b new told m before after can says copied =
    handed c Ground s.pair.ends.on_ground _ s.on_ground new b told m s.pair.ends.log _
    before.ends.ground can.0.released says (is_there new.released m copied) refl
    after.promised.due
messages_are_handed c first s Craft b new told m before after can says copied =
    handed c Craft s.pair.ends.on_craft _ s.on_craft new b told m s.pair.ends.log _
    before.ends.craft can.0.released says (is_there new.released m copied) refl
    after.promised.due

-- ---- calls that leave what was released

released_stays : (call : Call) (e new : End)
    → IsDone call e new
    → LeavesReleased call
    → new.released ≡ e.released
released_stays (Open name m) e new done may = done.1.released
released_stays (Part name k) e new done may = done.1.released
released_stays (Plain source flags service subtype body) e new done may = done.1.released
released_stays (Finish name) e new done may = done.1.released
released_stays LetGo e new done may = done.1.released
released_stays (Packet b) e new done may = absurd may
released_stays Expire e new done may = done.1.released
released_stays (GiveUp name) e new done may = done.1.released
released_stays Tick e new done may = done.1.released
released_stays (Rebase ticks) e new done may = done.1.released
released_stays Read e new done may = done.1.released
released_stays Execute e new done may = done.1.released
released_stays (ExecuteGiven octets) e new done may = done.1.released
released_stays Drop e new done may = done.1.released
released_stays DropRead e new done may = done.1.released
released_stays (Refuse code) e new done may = done.1.released
released_stays (Retire direction name) e new done may = done.released
released_stays (RetireFree direction name) e new done may = done.released
released_stays Fails e new done may = done.released
released_stays Restart e new done may = done.released
released_stays (Resume config state ms content) e new done may = absurd may
released_stays (ResumeSized config state sizes) e new done may = absurd may

module _ (c : Config) where
  -- what the end of a side has released
  abbrev released_at : Side → Standing → Option (List ℕ)
  released_at side s = (end_of side s.on_ground s.on_craft).released

  turn_leaves : (s : Standing) (of side : Side) (call : Call) (new : End)
      → CanTurnBy c s of call new
      → (of ≡ side → LeavesReleased call)
      → released_at side (turned_by c s of call new) ≡ released_at side s
  turn_leaves s Ground Ground call new can may =
      released_stays call s.on_ground new can.0 (may refl)
  turn_leaves s Ground Craft call new can may = refl
  turn_leaves s Craft Ground call new can may = refl
  turn_leaves s Craft Craft call new can may =
      released_stays call s.on_craft new can.0 (may refl)

  turns_leave : (s : Standing) (side : Side) (ts : List CallTurn)
      → CanStand c s ts
      → AllLeave side ts
      → released_at side (stood c s ts) ≡ released_at side s
  turns_leave s side [] can may = refl
  turns_leave s side (t ∷ ts) can may =
      turn_leaves (stood c s ts) t.side side t.call t.new can.1 may.1
      ∙ turns_leave s side ts can.0 may.0

-- what is copied is what was released
copied_is : (side : Side) (c : Config) (s : Standing) (b : List ℕ) (new : End) (ts : List CallTurn)
    → CanStand c (turned_by c s side (Packet b) new) ts
    → AllLeave side ts
    → (end_of side
    (stood c (turned_by c s side (Packet b) new) ts).on_ground
    (stood c (turned_by c s side (Packet b) new) ts).on_craft).released ≡ new.released
copied_is Ground c s b new ts can may =
    turns_leave c (turned_by c s Ground (Packet b) new) Ground ts can may
copied_is Craft c s b new ts can may =
    turns_leave c (turned_by c s Craft (Packet b) new) Craft ts can may

pub messages_stay : MessagesStay
messages_stay c first s side b new told ts m before after can says stand leave copied =
    messages_are_handed c first s side b new told m before after can says
    (ap (λ (o : Option (List ℕ)). text_or_nothing o)
    (sym (copied_is side c s b new ts stand leave)) ∙ copied)

-- ---- executions

-- a name that is told is that of the report
abbrev IsNamed : Execution → Type 0
IsNamed x =
    (name : Name) → x.applied ≡ Done (Some name) → option_map (λ y. y.0) x.opened ≡ Some name

names : (end : Ending) (opened : Option (Name × List ℕ)) (name : Name)
    → applied_of end opened ≡ Done (Some name)
    → option_map (λ y. y.0) opened ≡ Some name
names endings.Silent opened name is = absurd cc
names (endings.Refused code) opened name is = absurd cc
names (endings.Carried r) opened name is = cc

is_named : (c : Config) (d : NodeData) (ms : Contents) (h : Head)
    → IsNamed (executed_of c d ms h).0.1
is_named c d ms NoJob name is = absurd cc
is_named c d ms NotReady name is = absurd cc
is_named c d ms (Ready r) name is = names _ _ name is

-- where a call needs memories in their place, what isn't refused wasn't before
not_elsewhere : (kept : Kept) (o : Option ℕ) → here_refusal kept o ≡ None → o ≡ None
not_elsewhere Nowhere o none = absurd cc
not_elsewhere (Here ms) o none = none
not_elsewhere (Elsewhere sizes) o none = absurd cc

not_here : (kept : Kept) (o : Option ℕ) → elsewhere_refusal kept o ≡ None → o ≡ None
not_here Nowhere o none = absurd cc
not_here (Here ms) o none = absurd cc
not_here (Elsewhere sizes) o none = none

module _ (c : Config) (first : Contents) (s : Standing) where
  -- the execution of the two ends apart
  abbrev it : Execution
  it = (job_executed c s.pair.ends.on_craft s.pair.ends.memories).0.1

  told_so : (told : LptApplied)
      → KeepsThePromise c first s
      → IsRead (head_of s.on_craft.node.at.jobs.jobs)
      → told ≡ applied_words it.applied
      → AllDue (Left act.Execute ∷ with_report s.pair.ends.log it.opened)
      → IsExecutedSo s.on_craft told s.pair.ends.log
      (Left act.Execute ∷ with_report s.pair.ends.log it.opened)
  told_so told before front says due = record {
    request = front.read;
    read = ap front_reading front.is;
    oldest =
        before.promised.next front.read
        (ap (λ (n : NodeData). head_of n.jobs.jobs) (sym before.ends.craft.node) ∙ front.is);
    applied = it.applied;
    report = it.opened;
    says = says;
    log = refl;
    due = due.1;
    named =
        is_named c s.pair.ends.on_craft s.pair.ends.memories
        (head_of s.pair.ends.on_craft.jobs.jobs);
  }

  of_end : (new : End) (told : LptApplied) (w : CallPlace)
      → (are : AreEndsOf c s.pair s.on_ground s.on_craft)
      → are.place ≡ w
      → CanTurnBy c s Craft Execute new
      → IsApplied told s.on_craft
      → told ≡ applied_words it.applied
  of_end new told InEnd are at can says =
      let held : s.on_craft.memories ≡ Here s.pair.ends.memories =
      are.craft.memories ∙ ap (λ (x : CallPlace). kept_in x s.pair.ends.memories) at in
      let is : IsEndOf c Craft s.pair.ends.on_craft (Here s.pair.ends.memories) s.on_craft =
      record {
        side = are.craft.side;
        own = are.craft.own;
        config = are.craft.config;
        node = are.craft.node;
        memories = held;
      } in
      says ∙ ap (λ (x : (NodeData × Execution) × Kept). applied_words x.0.1.applied) (executes is)
  of_end new told WithProgram are at can says =
      absurd (let both : Some elsewhere ≡ None =
      sym (ap (λ (o : Kept). here_refusal o (sending_refusal (node_code
      (refusal_apply s.on_craft.node.at)) s.on_craft.outbox.items))
      (are.craft.memories ∙ ap (λ (x : CallPlace). kept_in x s.pair.ends.memories) at))
      ∙ can.0.0 in cc)

  of_program : (octets : List ℕ) (new : End) (told : LptApplied) (w : CallPlace)
      → (are : AreEndsOf c s.pair s.on_ground s.on_craft)
      → are.place ≡ w
      → CanTurnBy c s Craft (ExecuteGiven octets) new
      → IsAppliedGiven octets told s.on_craft
      → told ≡ applied_words it.applied
  of_program octets new told InEnd are at can says =
      let k : End = s.on_craft in
      absurd (let both : Some elsewhere ≡ None =
      sym (ap (λ (o : Kept). elsewhere_refusal o (sending_refusal
      (length_refusal (unready k) (first_read k) octets) k.outbox.items))
      (are.craft.memories ∙ ap (λ (x : CallPlace). kept_in x s.pair.ends.memories) at))
      ∙ can.0.0 in cc)
  of_program octets new told WithProgram are at can says =
      let k : End = s.on_craft in
      let ms : Contents = s.pair.ends.memories in
      let known : k.memories ≡ Elsewhere (sizes_of ms) =
      are.craft.memories ∙ ap (λ (x : CallPlace). kept_in x ms) at in
      let front : FrontIsFor (head_of k.node.at.jobs.jobs) k.node.config.apid ms =
      front_ready k.node (sizes_in k.memories) ms (ap sizes_in known) k.ready in
      says
      ∙ ap (λ (x : NodeData × Execution). applied_words x.1.applied)
      (given_over k.config k.node.at ms octets (head_of k.node.at.jobs.jobs)
      k.node.config.apid front can.1)
      ∙ ap (λ (x : (NodeData × Execution) × Contents). applied_words x.0.1.applied)
      (executes_over are.craft ms)

pub executions_are_told : ExecutionsAreTold
executions_are_told c first s new told before after can says =
    let k : End = s.on_craft in
    let o : Option ℕ = node_code (refusal_apply k.node.at) in
    told_so c first s told before
    (was_read (head_of k.node.at.jobs.jobs) (no_fault (refusal_apply k.node.at)
    (not_unsent o k.outbox.items
    (not_elsewhere k.memories (sending_refusal o k.outbox.items) can.0.0))))
    (of_end c first s new told before.ends.place before.ends refl can says) after.promised.due

pub given_executions_are_told : GivenExecutionsAreTold
given_executions_are_told c first s octets new told before after can says =
    let k : End = s.on_craft in
    let o : Option ℕ = length_refusal (unready k) (first_read k) octets in
    told_so c first s told before
    (was_read (head_of k.node.at.jobs.jobs) (no_fault (refusal_apply k.node.at)
    (not_short (unready k) (first_read k) octets (not_unsent o k.outbox.items
    (not_here k.memories (sending_refusal o k.outbox.items) can.0.0)))))
    (of_program c first s octets new told before.ends.place before.ends refl can says)
    after.promised.due
