-- A closed sender stays closed in each step that doesn't retire its name.
use Rattle.std.proofs.Common.{◌≡◌, ◌∙◌, ap, sym, refl, ℕ, ◌==◌, Bool, true, false, if◌then◌else◌, List, [], ◌∷◌, length, Option, Some, None}
use Rattle.std.specs.FinMap as maps
use Rattle.lpt_packet.specs.declared.direction.Direction.{Direction}
use Rattle.lpt_packet.specs.declared.direction.Direction.TheVariants.{Up, Down}
use Rattle.lpt_packet.specs.Names.{Name, same_name}
use Rattle.lpt_memory.specs.Memories.{Contents, sizes_of}
use Rattle.lpt_memory.specs.Readings.{Job, Source}
use Rattle.lpt_events.specs.Arrivals.{Arrival, APart, AnAbort, arrival_in}
use Rattle.lpt_events.specs.Sides.{sender_side, receiver_side}
use Rattle.lpt_events.specs.declared.config.Config.{Config}
use Rattle.lpt_events.specs.declared.side.Side.{Side}
use Rattle.lpt_events.specs.declared.side.Side.TheVariants.{Ground, Craft}
use Rattle.lpt_execution.specs.declared.ending.Ending.{Ending}
use Rattle.lpt_execution.specs.declared.ending.Ending.TheVariants.{Refused}
use Rattle.lpt_execution.specs.declared.ending.Report.{Report}
use Rattle.lpt_execution.specs.Reporting.{message_reports, request_source, large_packets, opened_of}
use Rattle.lpt_jobs.specs.Jobs.{Head, NoJob, NotReady, Ready, head_of, oldest_unclaimed}
use Rattle.lpt_ledger.specs.LeastFree.{IsLeastFree, least_free_in}
use Rattle.lpt_ledger.specs.Marks.{Marks, Opened, Shut}
use Rattle.lpt_ledger.specs.States.{state_of, state_at, closed_state}
use Rattle.lpt_ledger.specs.declared.state.State.{State as Known}
use Rattle.lpt_ledger.specs.declared.state.State.TheVariants as known
use Rattle.lpt_node.specs.Accepting.{packet_accepted}
use Rattle.lpt_node.specs.Jobs.{job_claimed, claimed_of, job_committed, ending_at, report_packets, reports_made, executed_with, executed_ending, executed_of, executed_so}
use Rattle.lpt_node.specs.Nodes.{Sending, NodeData, message_at}
use Rattle.lpt_part.specs.declared.reason.Reason.TheVariants as reason
use Rattle.lpt_node.specs.Receivers.{abort_report, reception_ended}
use Rattle.lpt_node.specs.Receiving.{receiver_of, with_receiver, abort_head, part_accepted}
use Rattle.lpt_node.specs.Sending.{refusal_open_in, message_opened, sender_closed, closed_by, counted_kind, part_sent, sent_of}
use Rattle.lpt_node.specs.Restarts.{node_restarted, node_within}
use Rattle.lpt_node.specs.Times.{clock_ticked, expired_of, clock_back, which_ends}
use Rattle.lpt_node.specs.declared.accepted.Accepted.{Accepted}
use Rattle.lpt_events.specs.NamedParts.{NamedPart}
use Rattle.lpt_model.specs.State.{job_left}
use Rattle.lpt_model.specs.Tickets.{ticket_of}
use Rattle.lpt_ledger.proofs.ClosingLemmas.{state_at-all_closed}
use Rattle.lpt_ledger.proofs.FirstLemmas.{IsLeastFree-least_free_in}
use Rattle.lpt_packet.proofs.NameLemmas.{same_name-true}
use Rattle.lpt_journal.proofs.MapLemmas.{get_insert, get_remove}
use Rattle.lpt_apart.specs.Ends.{Ends, node_at, with_node, Step, Open, Send, Plain, Finish, Accept, Tick, Expire, Claim, Commit, Apply, Retire, Restart, committed_on, after}
use Rattle.lpt_apart.specs.TwoEnds.{CanHappen}
use Rattle.lpt_apart.proofs.Fewer.{offer, all_parts, made_of, parted_is}
use Rattle.lpt_apart.proofs.Lessening.{committed_by, report_ledger}
use Rattle.lpt_apart.proofs.Offers.{offer_sending}
use Rattle.lpt_acts.specs.Acts.{Leaving, Execute, Refuse, Drop, On, Back, Within}

-- ---- ledgers

-- a name that is closed is closed still where another was free and is opened
kept_open : (m : Marks) (name i : Name)
    → state_at m i ≡ known.Free
    → state_at m name ≡ known.Closed
    → state_at (maps.insert m i Opened) name ≡ known.Closed
kept_open m name i free had = ap state_of (get_insert m i Opened name)
    ∙ go (same_name name i) refl where
      go : (b : Bool)
          → same_name name i ≡ b
          → state_of (if b then Some Opened else maps.get m name) ≡ known.Closed
      go true e =
          let same : name ≡ i = same_name-true name i e in
          absurd (let both : known.Free ≡ known.Closed =
          sym free ∙ ap (state_at m) (sym same) ∙ had in cc)
      go false e = had

-- or where another is closed
kept_shut : (m : Marks) (name i : Name)
    → state_at m name ≡ known.Closed
    → state_at (maps.insert m i Shut) name ≡ known.Closed
kept_shut m name i had = ap state_of (get_insert m i Shut name) ∙ go (same_name name i) where
  go : (b : Bool) → state_of (if b then Some Shut else maps.get m name) ≡ known.Closed
  go true = refl
  go false = had

kept_closed : (k : Known) (s : Sending) (name i : Name)
    → state_at s.ledger name ≡ known.Closed
    → state_at (closed_by k s i).ledger name ≡ known.Closed
kept_closed known.Open s name i had = kept_shut s.ledger name i had
kept_closed known.Free s name i had = had
kept_closed known.Closed s name i had = had

-- a name that another is taken out of a ledger beside
pub kept_removed : (m : Marks) (name i : Name)
    → same_name name i ≡ false
    → state_at m name ≡ known.Closed
    → state_at (maps.remove m i) name ≡ known.Closed
kept_removed m name i other had =
    ap state_of (get_remove m i name)
    ∙ ap (λ (b : Bool). state_of (if b then None else maps.get m name)) other ∙ had

-- ---- nodes

-- what a node whose message of some length isn't refused has under the name
free_of : (c : Config) (limit : ℕ) (k : Known) (n len : ℕ)
    → refusal_open_in c limit k n len ≡ None
    → k ≡ known.Free
free_of c limit known.Free n len e = refl
free_of c limit known.Open n len e = absurd cc
free_of c limit known.Closed n len e = absurd cc

sent_ledger : (side : Side) (c : Config) (n : NodeData) (name : Name) (k : ℕ) (o : Option (List ℕ))
    → (sent_of side c n name k o).0.sending.ledger ≡ n.sending.ledger
sent_ledger side c n name k None = refl
sent_ledger side c n name k (Some m) = refl

parted_ledger : (side : Side) (c : Config) (n : NodeData) (q : NamedPart)
    → (part_accepted side c n q).0.sending.ledger ≡ n.sending.ledger
parted_ledger side c n q =
    ap (λ (y : NodeData × Accepted). y.0.sending.ledger) (parted_is side c n q n.receiving.ledger)
    ∙ go (state_at n.receiving.ledger q.name) where
      go : (s : Known)
          → (made_of side c n q n.receiving.ledger s).0.sending.ledger ≡ n.sending.ledger
      go known.Free =
          offer_sending side c n q (abort_head side c n q.name.source) (all_parts side c n q)
          (offer side c n q).0 (offer side c n q).1.entries
      go known.Open = refl
      go known.Closed = refl

accepted_closed : (side : Side) (c : Config) (n : NodeData) (a : Arrival) (name : Name)
    → state_at n.sending.ledger name ≡ known.Closed
    → state_at (packet_accepted side c n a).0.sending.ledger name ≡ known.Closed
accepted_closed side c n (AnAbort i why) name had =
    kept_closed (state_at n.sending.ledger i) n.sending name i had
accepted_closed side c n (APart q) name had =
    ap (λ (m : Marks). state_at m name) (parted_ledger side c n q)
    ∙ had
accepted_closed side c n a name had = had

expired_ledger : (side : Side) (c : Config) (n : NodeData) (o : Option Name)
    → (expired_of side c n o).0.sending.ledger ≡ n.sending.ledger
expired_ledger side c n None = refl
expired_ledger side c n (Some name) =
    report_ledger (with_receiver n (reception_ended (receiver_of c n.receiving) name))
    (abort_report (abort_head side c n name.source) name reason.Expired)

claimed_ledger : (n : NodeData) (o : Option (ℕ × List ℕ))
    → (claimed_of n o).0.sending.ledger ≡ n.sending.ledger
claimed_ledger n None = refl
claimed_ledger n (Some x) = refl

committed_ledger : (n : NodeData) (boot job : ℕ) (r : Source)
    → (job_committed n boot job r).0.sending.ledger ≡ n.sending.ledger
committed_ledger n boot job r = go (boot == n.boot) where
  go : (b : Bool) → (committed_by n job r b).0.sending.ledger ≡ n.sending.ledger
  go true = refl
  go false = refl

reported_ledger : (s : Sending) (rs : List Report) → (reports_made s rs).ledger ≡ s.ledger
reported_ledger s [] = refl
reported_ledger s (r ∷ rs) = reported_ledger (counted_kind s r.kind) rs

-- what an execution opens was free
opened_free : (m : Marks) (source : ℕ) (o : Option Name) (bs : List (List ℕ)) (x : Name × List ℕ)
    → IsLeastFree m source o
    → opened_of o bs ≡ Some x
    → state_at m x.0 ≡ known.Free
opened_free m source (Some name) (b ∷ bs) x least e =
    let same : name ≡ x.0 = cc in ap (state_at m) (sym same) ∙ least.free
opened_free m source (Some name) [] x least e = absurd cc
opened_free m source None bs x least e = absurd cc

executed_with_closed : (c : Config) (n : NodeData) (peer : ℕ) (end : Ending) (rs : List Report)
    (o : Option (Name × List ℕ)) (name : Name)
    → ((x : Name × List ℕ) → o ≡ Some x → state_at n.sending.ledger x.0 ≡ known.Free)
    → state_at n.sending.ledger name ≡ known.Closed
    → state_at (executed_with c n peer end rs o).0.sending.ledger name ≡ known.Closed
executed_with_closed c n peer end rs None name free had =
    ap (λ (m : Marks). state_at m name) (reported_ledger n.sending rs) ∙ had
executed_with_closed c n peer end rs (Some x) name free had =
    ap (λ (m : Marks). state_at (maps.insert m x.0 Opened) name) (reported_ledger n.sending rs)
    ∙ kept_open n.sending.ledger name x.0 (free x refl) had

ending_closed : (c : Config) (n : NodeData) (end : Ending) (r : Source) (name : Name)
    → state_at n.sending.ledger name ≡ known.Closed
    → state_at (executed_ending c n r end).0.sending.ledger name ≡ known.Closed
ending_closed c n end r name had =
    let peer : ℕ = request_source r.apid r.message in
    let rs : List Report = message_reports r.apid r.message end in
    let bs : List (List ℕ) =
    large_packets c.part_size (report_packets c peer n.sending n.clock rs) in
    executed_with_closed c n peer end rs (opened_of (least_free_in n.sending.ledger peer) bs) name
    (λ x is. opened_free n.sending.ledger peer (least_free_in n.sending.ledger peer) bs x
    (IsLeastFree-least_free_in n.sending.ledger peer) is) had

executed_closed : (c : Config) (n : NodeData) (ms : Contents) (x : Head) (name : Name)
    → state_at n.sending.ledger name ≡ known.Closed
    → state_at (executed_of c n ms x).0.0.sending.ledger name ≡ known.Closed
executed_closed c n ms NoJob name had = had
executed_closed c n ms NotReady name had = had
executed_closed c n ms (Ready r) name had = ending_closed c n (ending_at c n ms r) r name had

so_closed : (c : Config) (n : NodeData) (end : Ending) (x : Head) (name : Name)
    → state_at n.sending.ledger name ≡ known.Closed
    → state_at (executed_so c n (λ r. end) x).0.sending.ledger name ≡ known.Closed
so_closed c n end NoJob name had = had
so_closed c n end NotReady name had = had
so_closed c n end (Ready r) name had = ending_closed c n end r name had

left_closed : (how : Leaving) (c : Config) (n : NodeData) (ms : Contents) (name : Name)
    → state_at n.sending.ledger name ≡ known.Closed
    → state_at (job_left how c n ms).0.0.sending.ledger name ≡ known.Closed
left_closed Execute c n ms name had = executed_closed c n ms (head_of n.jobs.jobs) name had
left_closed (Refuse code) c n ms name had =
    so_closed c n (Refused code) (head_of n.jobs.jobs) name had
left_closed Drop c n ms name had = had

-- ---- ends

-- the sender of a transaction is closed
abbrev pub IsShut : Ends → Direction → Name → Type 0
IsShut e d name = state_at (node_at e (sender_side d)).sending.ledger name ≡ known.Closed

shut_in : (name : Name) (a b : NodeData)
    → a ≡ b
    → state_at b.sending.ledger name ≡ known.Closed
    → state_at a.sending.ledger name ≡ known.Closed
shut_in name a b same shut = ap (λ (n : NodeData). state_at n.sending.ledger name) same ∙ shut

-- the node of a side has changed
changed : (e new : Ends) (side : Side) (n : NodeData) (d : Direction) (name : Name)
    → new.on_ground ≡ (with_node e side n).on_ground
    → new.on_craft ≡ (with_node e side n).on_craft
    → (state_at (node_at e side).sending.ledger name ≡ known.Closed
    → state_at n.sending.ledger name ≡ known.Closed)
    → IsShut e d name
    → IsShut new d name
changed e new Ground n Up name ground craft kept had =
    shut_in name new.on_ground n ground (kept had)
changed e new Ground n Down name ground craft kept had =
    shut_in name new.on_craft e.on_craft craft had
changed e new Craft n Up name ground craft kept had =
    shut_in name new.on_ground e.on_ground ground had
changed e new Craft n Down name ground craft kept had = shut_in name new.on_craft n craft (kept had)

-- nothing is retired
abbrev pub IsNoRetirement : Step → Type 0
IsNoRetirement (Retire d name) = ⊥
IsNoRetirement x = Unit {0}

-- a closed sender is closed still
pub closed_stays : (c : Config) (e : Ends) (x : Step) (d : Direction) (name : Name)
    → CanHappen c e x
    → IsNoRetirement x
    → IsShut e d name
    → IsShut (after c e x) d name
closed_stays c e (Open way i m) d name can stays had =
    let n : NodeData = node_at e (sender_side way) in
    changed e (after c e (Open way i m)) (sender_side way) (message_opened n i m) d name refl refl
    (kept_open n.sending.ledger name i
    (free_of c n.outgoing (state_at n.sending.ledger i) (maps.len n.sending.messages) (length m)
    can.1)) had
closed_stays c e (Send way i k) d name can stays had =
    let n : NodeData = node_at e (sender_side way) in
    changed e (after c e (Send way i k)) (sender_side way) (part_sent (sender_side way) c n i k).0 d
    name
    refl refl
    (λ shut. ap (λ (m : Marks). state_at m name)
    (sent_ledger (sender_side way) c n i k (message_at n i)) ∙ shut) had
closed_stays c e (Plain source flags service subtype body) Up name can stays had = had
closed_stays c e (Plain source flags service subtype body) Down name can stays had = had
closed_stays c e (Finish way i) d name can stays had =
    let n : NodeData = node_at e (sender_side way) in
    changed e (after c e (Finish way i)) (sender_side way) (sender_closed n i) d name refl refl
    (kept_closed (state_at n.sending.ledger i) n.sending name i) had
closed_stays c e (Accept way b) d name can stays had =
    let n : NodeData = node_at e (receiver_side way) in
    let a : Arrival = arrival_in c way b in
    changed e (after c e (Accept way b)) (receiver_side way)
    (packet_accepted (receiver_side way) c n a).0
    d name refl refl (accepted_closed (receiver_side way) c n a name) had
closed_stays c e (Tick side On) d name can stays had =
    changed e (after c e (Tick side On)) side (clock_ticked (node_at e side)) d name refl refl
    (λ shut. shut) had
closed_stays c e (Tick side (Back n)) d name can stays had =
    changed e (after c e (Tick side (Back n))) side (clock_back n (node_at e side)) d name refl refl
    (λ shut. shut) had
closed_stays c e (Tick side (Within l)) d name can stays had =
    changed e (after c e (Tick side (Within l))) side (node_within l (node_at e side)) d name refl refl
    (λ shut. shut) had
closed_stays c e (Expire side which) d name can stays had =
    let n : NodeData = node_at e side in
    changed e (after c e (Expire side which)) side (expired_of side c n (which_ends c n which)).0 d
    name refl refl
    (λ shut. ap (λ (m : Marks). state_at m name) (expired_ledger side c n (which_ends c n which))
    ∙ shut) had
closed_stays c e (Claim w) d name can stays had =
    changed e (after c e (Claim w)) Craft (job_claimed e.on_craft).0 d name refl refl
    (λ shut. ap (λ (m : Marks). state_at m name)
    (claimed_ledger e.on_craft (oldest_unclaimed e.on_craft.jobs)) ∙ shut) had
closed_stays c e (Commit w) d name can stays had = go (ticket_of e.tickets w) where
  go : (o : Option Job) → IsShut (committed_on c e w o) d name
  go None = had
  go (Some t) =
      let r : Source = record {
        apid = c.apid;
        sizes = sizes_of e.memories;
        message = t.message;
      } in
      changed e (committed_on c e w (Some t)) Craft (job_committed e.on_craft t.boot t.job r).0 d
      name
      refl
      refl
      (λ shut. ap (λ (m : Marks). state_at m name) (committed_ledger e.on_craft t.boot t.job r)
      ∙ shut)
      had
closed_stays c e (Apply how) d name can stays had =
    let x = job_left how c e.on_craft e.memories in
    changed e (after c e (Apply how)) Craft x.0.0 d name refl refl
    (left_closed how c e.on_craft e.memories name) had
closed_stays c e (Retire way i) d name can stays had = absurd stays
closed_stays c e (Restart side) d name can stays had =
    let n : NodeData = node_at e side in
    changed e (after c e (Restart side)) side (node_restarted n) d name refl refl
    (λ shut. state_at-all_closed n.sending.ledger name ∙ ap closed_state shut) had
