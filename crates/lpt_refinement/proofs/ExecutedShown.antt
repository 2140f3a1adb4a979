-- The oldest job leaves the queue: the answer and the longer journal.
use Rattle.std.proofs.Common.{◌≡◌, ◌∙◌, ap, sym, subst, refl, ℕ, nat_lt, false, if◌then◌else◌, List, [], ◌∷◌, ◌++◌, length, Option, Some, None}
use Rattle.std.specs.List.{list_any, find}
use Rattle.std.specs.Option.{option_map, option_or}
use Rattle.std.proofs.lemmas.List.{length-map}
use Rattle.lpt_packet.specs.declared.direction.Direction.{Direction}
use Rattle.lpt_packet.specs.declared.direction.Direction.TheVariants.{Up, Down}
use Rattle.lpt_packet.specs.Names.{Name}
use Rattle.lpt_events.specs.declared.config.Config.{Config}
use Rattle.lpt_events.specs.declared.entry.Opening.{Opening}
use Rattle.lpt_events.specs.declared.entry.Release.{Release}
use Rattle.lpt_acts.specs.Acts.{Leaving, Apply}
use Rattle.lpt_events.specs.declared.reply.Answer.{Answer}
use Rattle.lpt_events.specs.declared.side.Side.TheVariants.{Ground, Craft}
use Rattle.lpt_events.specs.Configs.{IsConfig}
use Rattle.lpt_execution.specs.Reporting.{request_source}
use Rattle.lpt_memory.specs.Memories.{Contents}
use Rattle.lpt_jobs.specs.Jobs.{without_front}
use Rattle.lpt_node.specs.Jobs.{Execution, reports_made, with_opened as node_opened}
use Rattle.lpt_node.specs.Nodes.{NodeData, Sending}
use Rattle.lpt_node.specs.Sending.{opened_in}
use Rattle.lpt_journal.specs.Journal.{SentPacket, History, with_all}
use Rattle.lpt_journal.specs.Jobs.{ticket, memories}
use Rattle.lpt_journal.specs.Executions.{effect_of, opened_down}
use Rattle.lpt_journal.specs.Receivers.{clock, limits}
use Rattle.lpt_journal.specs.Refusals.{refusal}
use Rattle.lpt_journal.specs.Replies.{puts_told, entry, reply}
use Rattle.lpt_journal.specs.Senders.{sender, sender_of, least_free, open_count, packets_made, current, is_over, is_opening_of, octets_put, messages_opened, opened}
use Rattle.lpt_refinement.specs.Shows.{Shows, ShowsSending, JobsFit}
use Rattle.lpt_model.specs.State.{State, after, put_some, put_all, left_on, as_list, add_opening}
use Rattle.lpt_refinement.specs.Views.{SendingView, views, jobs_view, sending_view}
use Rattle.lpt_refinement.proofs.FrontShown.{Front, front_is}
use Rattle.lpt_refinement.proofs.ExecutionAgrees.{reports, message, told_answer, on_link, sent_down, told_entry, told_memories, told_sizes, told_view, entry_by, view_by, ended_told, left_at}
use Rattle.lpt_refinement.proofs.JobsShown.{pop_shown}
use Rattle.lpt_refinement.proofs.LinkShown.{as_many_packets, link_more_all}
use Rattle.lpt_refinement.proofs.ReportLengths.{large_opened}
use Rattle.lpt_refinement.proofs.ReportsMade.{reports_shown}
use Rattle.lpt_refinement.proofs.OpenedShown.{opened_shown}

-- ---- the answer

put_told : (n : ℕ) (a : Answer) (bs : List (List ℕ))
    → put_some n a bs ≡ record { answer = a; puts = puts_told n (sent_down bs) }
put_told n a [] = refl
put_told n a (b ∷ bs) =
    let count : length (sent_down (b ∷ bs)) ≡ length (b ∷ bs) =
    length-map {B = SentPacket} (b ∷ bs) (λ b. record { direction = Down; octets = b }) in
    λ i. record { answer = a; puts = Some (record { first = n; count = sym count i }) }

pub left_answer : (c : Config) (first : Contents) (s : State) (h : History) (how : Leaving)
    → Shows s (views c first h)
    → JobsFit (jobs_view c first h) (ticket c h)
    → refusal c h (Apply how) ≡ None
    → (after c (length h) s (Apply how)).1 ≡ reply c first h (Apply how)
left_answer c first s h how k fits e =
    let f = front_is c first s h how k fits e in
    let m = f.job.message in
    ap (λ (x : (NodeData × Execution) × Contents). (left_on (length h) s x).1)
    (left_at c first s h how f.job k f.head)
    ∙ put_told (length s.link.packets) (told_answer c first h how m) (on_link c first h how m)
    ∙ ap (λ (n : ℕ). record {
      answer = told_answer c first h how m;
      puts = puts_told n (sent_down (on_link c first h how m));
    }) (as_many_packets k.link)
    ∙ sym (ap (λ (o : Option Release). (entry_by c first h how o).reply) f.is_front)

-- ---- what was sent

octets_down : (bs : List (List ℕ)) → octets_put (sent_down bs) Down ≡ bs
octets_down [] = refl
octets_down (b ∷ bs) = ap (λ ds. b ∷ ds) (octets_down bs)

octets_up : (bs : List (List ℕ)) → octets_put (sent_down bs) Up ≡ []
octets_up [] = refl
octets_up (b ∷ bs) = octets_up bs

opened_message : (place : ℕ) (o : Option (Name × List ℕ))
    → messages_opened (opened_down place o) Down ≡ as_list (option_map (λ x. x.1) o)
opened_message place None = refl
opened_message place (Some x) = refl

none_up : (place : ℕ) (o : Option (Name × List ℕ))
    → messages_opened (opened_down place o) Up ≡ []
none_up place None = refl
none_up place (Some x) = refl

-- what is sent in a direction, where these were opened and these packets made
abbrev sent_view : History → Direction → List Opening → List (List ℕ) → SendingView
sent_view h w os made = record {
  senders = λ q.
      sender_of (option_or (find (is_opening_of w q) os) (current h w q))
      (if list_any (is_opening_of w q) os then false else is_over h w q);
  made = made;
}

-- ground sends nothing
ground_shown : {x : Sending} (h : History) (place : ℕ) (o : Option (Name × List ℕ))
    (bs : List (List ℕ))
    → ShowsSending Ground x (sending_view h Up)
    → ShowsSending Ground x
    (sent_view h Up (opened_down place o)
    (with_all (packets_made h Up)
    (with_all (octets_put (sent_down bs) Up) (messages_opened (opened_down place o) Up))))
ground_shown {x = x} h place o bs k =
    subst (λ (ds : List (List ℕ)).
    ShowsSending Ground x (sent_view h Up (opened_down place o) (with_all (packets_made h Up) ds)))
    (sym (λ i. with_all (octets_up bs i) (none_up place o i))) (go o) where
      go : (o : Option (Name × List ℕ))
          → ShowsSending Ground x (sent_view h Up (opened_down place o) (packets_made h Up))
      go None = k
      go (Some m) = k

-- the sender where a report of data was opened as a message, or none
abbrev opened_by : Sending → Option (Name × List ℕ) → Sending
opened_by x None = x
opened_by x (Some m) = opened_in x m.0 m.1

opened_by_is : (d : NodeData) (o : Option (Name × List ℕ))
    → node_opened d o ≡ record d { sending = opened_by d.sending o }
opened_by_is d None = refl
opened_by_is d (Some x) = refl

-- the spacecraft opens a report of data, or none
craft_opens : {x : Sending} (h : History) (place : ℕ) (made : List (List ℕ))
    (o : Option (Name × List ℕ))
    → ShowsSending Craft x (record { senders = sender h Down; made = made })
    → ShowsSending Craft (opened_by x o) (sent_view h Down (opened_down place o) made)
craft_opens h place made None k = k
craft_opens h place made (Some m) k =
    opened_shown h Down made m.0
    (record { place = place; direction = Down; name = m.0; message = m.1 }) k

-- the spacecraft has sent the reports
craft_shown : (c : Config) (first : Contents) (s : State) (h : History) (how : Leaving) (m : List ℕ)
    → IsConfig c
    → Shows s (views c first h)
    → ShowsSending Craft
    (opened_by (reports_made s.on_craft.sending (reports c first h how m))
    (message c first h how m))
    (sending_view (told_entry c first h how m ∷ h) Down)
craft_shown c first s h how m in_range k =
    craft_opens h (length h) _ (message c first h how m)
    (reports_shown c (request_source c.apid m) (reports c first h how m) (clock c h Craft) _ _
    (octets_down (on_link c first h how m))
    (opened_message (length h) (message c first h how m)
    ∙ large_opened c.part_size in_range.part_size_fits.0 c (request_source c.apid m)
    (packets_made h Down)
    (clock c h Craft) c.apid m how
    (least_free h Down (request_source c.apid m))
    (nat_lt (open_count h Down) (limits c h Craft).outgoing)
    (effect_of c (memories c first h) m))
    k.craft.sending)

-- ---- all of it

openings_shown : (os os' : List Opening) (place : ℕ) (o : Option (Name × List ℕ))
    → os ≡ os'
    → add_opening os place o ≡ with_all os' (opened_down place o)
openings_shown os os' place None e = e
openings_shown os os' place (Some x) e =
    ap (λ ps. ps ++ record { place = place; direction = Down; name = x.0; message = x.1 } ∷ []) e

-- the state with this spacecraft, as the journal tells
abbrev done : Config → Contents → State → History → Leaving → Release → NodeData → State
done c first s h how r d = record s {
  on_craft = d;
  link = put_all s.link Down None (on_link c first h how r.message);
  memories = told_memories c first h how (Some r);
  opened = add_opening s.opened (length h) (message c first h how r.message);
}

done_shown : (c : Config) (first : Contents) (s : State) (h : History) (how : Leaving) (r : Release)
    → IsConfig c
    → Shows s (views c first h)
    → Shows
    (left_on (length h) s
    (ended_told c first s h how r.message, told_memories c first h how (Some r))).0
    (told_view c first h how r)
done_shown c first s h how r in_range k =
    let m = r.message in
    let rs = reports c first h how m in
    let d : NodeData = record s.on_craft {
      sending = reports_made s.on_craft.sending rs;
      jobs = without_front s.on_craft.jobs;
    } in
    subst (λ (x : NodeData). Shows (done c first s h how r x) (told_view c first h how r))
    (sym (opened_by_is d (message c first h how m)))
    (record {
      ground = record {
        sending =
            ground_shown h (length h) (message c first h how m) (on_link c first h how m)
            k.ground.sending;
        receiving = k.ground.receiving;
        outgoing = k.ground.outgoing;
        clock = k.ground.clock;
        boot = k.ground.boot;
      };
      craft = record {
        sending = craft_shown c first s h how m in_range k;
        receiving = k.craft.receiving;
        outgoing = k.craft.outgoing;
        clock = k.craft.clock;
        boot = k.craft.boot;
      };
      link = link_more_all Down None (on_link c first h how m) k.link;
      jobs = pop_shown k.jobs;
      tickets = k.tickets;
      memories = refl;
      sizes = told_sizes c first h how r ∙ k.sizes;
      opened = openings_shown s.opened (opened h) (length h) (message c first h how m) k.opened;
      released = k.released;
    })

pub left_shown : (c : Config) (first : Contents) (s : State) (h : History) (how : Leaving)
    → IsConfig c
    → Shows s (views c first h)
    → JobsFit (jobs_view c first h) (ticket c h)
    → refusal c h (Apply how) ≡ None
    → Shows (after c (length h) s (Apply how)).0 (views c first (entry c first h (Apply how) ∷ h))
left_shown c first s h how in_range k fits e =
    let f = front_is c first s h how k fits e in
    subst (λ (x : (NodeData × Execution) × Contents).
    Shows (left_on (length h) s x).0 (views c first (entry c first h (Apply how) ∷ h)))
    (sym (left_at c first s h how f.job k f.head))
    (subst (λ (o : Option Release).
    Shows
    (left_on (length h) s
    (ended_told c first s h how f.job.message, told_memories c first h how (Some f.job))).0
    (view_by c first h how o)) (sym f.is_front) (done_shown c first s h how f.job in_range k))
