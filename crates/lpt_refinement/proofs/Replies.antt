-- An event that isn't refused is answered as the journal says.
use Rattle.std.proofs.Common.{◌≡◌, ◌∙◌, ap, refl, ℕ, ◌+◌, Bool, true, false, List, length, Option, Some, None, nat_le, not, ◌&&◌, is_some, ◌-◌}
use Rattle.std.specs.FinMap as maps
use Rattle.lpt_packet.specs.declared.direction.Direction.{Direction}
use Rattle.lpt_packet.specs.Names.{Name}
use Rattle.lpt_events.specs.NamedParts.{NamedPart}
use Rattle.lpt_part.specs.declared.reason.Reason.{Reason}
use Rattle.lpt_part.specs.declared.reason.Reason.TheVariants as reason
use Rattle.lpt_node.specs.declared.accepted.Accepted.{Accepted}
use Rattle.lpt_events.specs.declared.config.Config.{Config}
use Rattle.lpt_events.specs.declared.side.Side.{Side}
use Rattle.lpt_events.specs.declared.side.Side.TheVariants.{Ground, Craft}
use Rattle.lpt_acts.specs.Acts.{Act, Open, Send, Plain, Finish, Lose, Damage, Take, Deliver, Tick, Expire, Claim, Commit, Apply, Retire, Restart, On, Back, Within}
use Rattle.lpt_events.specs.declared.fault.StepFault.TheVariants.{NotOpen, NoSuchPart}
use Rattle.lpt_events.specs.declared.outcome.Outcome.{Outcome}
use Rattle.lpt_events.specs.declared.outcome.Outcome.TheVariants.{Broken}
use Rattle.lpt_events.specs.declared.reply.Answer.{Answer}
use Rattle.lpt_events.specs.declared.reply.Answer.TheVariants.{Put, Delivered, Clock, Expired, Restarted}
use Rattle.lpt_events.specs.declared.reply.Reply.{Reply}
use Rattle.lpt_events.specs.Arrivals.{Arrival, NotRead, AnIdle, Foreign, ARequest, AReport, NoPart, APart, AnAbort}
use Rattle.lpt_events.specs.Lanes.{lane_direction}
use Rattle.lpt_events.specs.Sides.{receiver_side, direction_to}
use Rattle.lpt_node.specs.Accepting.{packet_accepted}
use Rattle.lpt_node.specs.Nodes.{NodeData}
use Rattle.lpt_node.specs.Receivers.{ReceiverState, abort_report, table_in}
use Rattle.lpt_node.specs.Receiving.{abort_head, receiver_of}
use Rattle.lpt_node.specs.Times.{expired_of}
use Rattle.lpt_reception.specs.Received.{Parts, contradicts, is_gap, is_whole, spelled}
use Rattle.lpt_table.specs.Offering.{is_open as is_there}
use Rattle.lpt_journal.specs.Delivery.{arrival_judged, outcome}
use Rattle.lpt_journal.specs.Due.{given_up}
use Rattle.lpt_journal.specs.Jobs.{ticket}
use Rattle.lpt_journal.specs.Journal.{History, SentPacket}
use Rattle.lpt_journal.specs.Link.{sent}
use Rattle.lpt_journal.specs.Hands.{in_hand}
use Rattle.lpt_journal.specs.Receivers.{as_kept, with_piece, heard, has_parts, is_closed, reception_count, limits}
use Rattle.lpt_journal.specs.Replies.{expired_now, abort_puts, expiry_puts, outcome_puts, send_puts, puts_told, reply}
use Rattle.lpt_journal.specs.Refusals.{refusal}
use Rattle.lpt_journal.specs.Senders.{Sender, FreeSender, OpenSender, ClosedSender, sender, is_open}
use Rattle.lpt_journal.proofs.OutcomeLemmas.{chosen}
use Rattle.lpt_journal.proofs.TestLemmas.{two_pass}
use Rattle.lpt_packet.proofs.BoolLemmas.{not_false}
use Rattle.lpt_refinement.specs.Shows.{Shows, ShowsReceiving, JobsFit}
use Rattle.lpt_model.specs.State.{State, after, end_of, as_list, put_some, expired_on, quiet, put_one}
use Rattle.lpt_refinement.specs.Views.{views, jobs_view, receiving_view}
use Rattle.lpt_refinement.proofs.ArrivalsAgree.{delivery, part_agrees, arrival_agrees}
use Rattle.lpt_refinement.proofs.DueShown.{which_shown}
use Rattle.lpt_refinement.proofs.ExecutedShown.{left_answer}
use Rattle.lpt_refinement.proofs.ClaimsShown.{claimed_answer}
use Rattle.lpt_refinement.proofs.CommitsShown.{committed_answer}
use Rattle.lpt_refinement.proofs.Fields.{receiving_at, clock_at, boot_at}
use Rattle.lpt_memory.specs.Memories.{Contents}
use Rattle.lpt_refinement.proofs.LinkShown.{as_many_packets}

-- a reply with this answer and these packets, the first of which got this number
abbrev reply_with : ℕ → Answer → List SentPacket → Reply
reply_with n a ps = record { answer = a; puts = puts_told n ps }

-- the reply tells of the report that an end made, where it made one
told_report : (c : Config) (h : History) (side : Side) (d : NodeData) (n : ℕ) (a : Answer)
    (name : Name) (r : Reason)
    → put_some n a (as_list (abort_report (abort_head side c d name.source) name r))
    ≡ reply_with n a (abort_puts c h side name r)
told_report c h Ground d n a name r = refl
told_report c h Craft d n a name r = refl

-- ---- sending

reply_sent : (c : Config) (h : History) (d : Direction) (name : Name) (k n : ℕ) (y : Sender)
    → is_open y ≡ true
    → put_one n (Put n) ≡ reply_with n (Put n) (send_puts c h d name k y)
reply_sent c h d name k n FreeSender e = absurd cc
reply_sent c h d name k n ClosedSender e = absurd cc
reply_sent c h d name k n (OpenSender m) e = refl

-- ---- delivering

-- the reply to a delivery
abbrev reply_to : ℕ → NodeData × Accepted → Reply
reply_to n x = put_some n (Delivered x.1.outcome) (as_list x.1.packet)

-- the reply that the journal tells of an outcome
abbrev reply_told : Config → History → Side → ℕ → Outcome → Reply
reply_told c h side n o = reply_with n (Delivered o) (outcome_puts c h side o)

told_part : (c : Config) (h : History) (side : Side) (n : ℕ) (d : NodeData) (t : ReceiverState)
    (q : NamedPart) (before with_it : Parts) (closed full contra again gap there whole : Bool)
    → reply_to n
    (delivery side closed full contra again gap there whole (abort_head side c d q.name.source) d t q before with_it)
    ≡ reply_told c h side n (chosen closed full contra again gap whole q (length (spelled with_it)))
told_part c h side n d t q before with_it true full contra again gap there whole = refl
told_part c h side n d t q before with_it false true contra again gap there whole = refl
told_part c h side n d t q before with_it false false true again gap there whole =
    told_report c h side d n (Delivered (Broken q.name reason.Conflict)) q.name reason.Conflict
told_part c h side n d t q before with_it false false false true gap there whole = refl
told_part c h side n d t q before with_it false false false false true true whole =
    told_report c h side d n (Delivered (Broken q.name reason.Discontinuity)) q.name reason.Discontinuity
told_part c h side n d t q before with_it false false false false true false whole =
    told_report c h side d n (Delivered (Broken q.name reason.Discontinuity)) q.name reason.Discontinuity
told_part c h side n d t q before with_it false false false false false there true = refl
told_part c h side n d t q before with_it false false false false false there false = refl

reply_delivered : (c : Config) (h : History) (w : Direction) (d : NodeData) (n : ℕ)
    → ShowsReceiving d.receiving (receiving_view c h w)
    → (a : Arrival)
    → reply_to n (packet_accepted (receiver_side w) c d a)
    ≡ reply_told c h (receiver_side w) n (arrival_judged c h w a)
reply_delivered c h w d n own NotRead = refl
reply_delivered c h w d n own AnIdle = refl
reply_delivered c h w d n own Foreign = refl
reply_delivered c h w d n own NoPart = refl
reply_delivered c h w d n own (AReport service subtype) = refl
reply_delivered c h w d n own (ARequest b) = refl
reply_delivered c h w d n own (AnAbort name r) = refl
reply_delivered c h w d n own (APart q) =
    let s = heard c h w q.name in
    ap (reply_to n) (part_agrees c h w d q own)
    ∙ told_part c h (receiver_side w) n d (receiver_of c d.receiving) q s (with_piece s q)
    (is_closed h w q.name)
    (not (has_parts s) && nat_le (limits c h (receiver_side w)).receptions (reception_count c h w))
    (contradicts s q.number (as_kept q)) (is_some (maps.get s q.number))
    (is_gap c.mode s q.number) (is_there (table_in (receiver_of c d.receiving)) q.name)
    (is_whole (with_piece s q))

-- ---- expiry

-- the reply to the end of what is due
reply_expired : (c : Config) (h : History) (side : Side) (d : NodeData) (n : ℕ) (o : Option Name)
    → put_some n (Expired (direction_to side) (expired_of side c d o).1.name)
    (as_list (expired_of side c d o).1.packet)
    ≡ reply_with n (expired_now (direction_to side) o) (expiry_puts c h side o)
reply_expired c h side d n None = refl
reply_expired c h side d n (Some name) =
    told_report c h side d n (Expired (direction_to side) name) name reason.Expired

-- ---- all events

pub reply_shown : (c : Config) (first : Contents) (s : State) (h : History) (e : Act)
    → Shows s (views c first h)
    → JobsFit (jobs_view c first h) (ticket c h)
    → refusal c h e ≡ None
    → (after c (length h) s e).1 ≡ reply c first h e
reply_shown c first s h (Open d name m) k fits e = refl
reply_shown c first s h (Send d name n) k fits e =
    ap (λ j. put_one j (Put j)) (as_many_packets k.link)
    ∙ reply_sent c h d name n (length (sent h)) (sender h d name)
    (not_false (is_open (sender h d name)) (two_pass _ _ NotOpen NoSuchPart e).0)
reply_shown c first s h (Plain source flags service subtype body) k fits e =
    ap (λ j. put_one j (Put j)) (as_many_packets k.link)
reply_shown c first s h (Finish d name) k fits e = refl
reply_shown c first s h (Lose n) k fits e = refl
reply_shown c first s h (Damage d b) k fits e =
    ap (λ j. put_one j (Put j)) (as_many_packets k.link)
reply_shown c first s h (Take l n) k fits e = refl
reply_shown c first s h (Tick side (Back n)) k fits e =
    ap (λ m. quiet (Clock (m - n))) (clock_at c first h side k)
reply_shown c first s h (Tick side (Within l)) k fits e =
    ap (λ m. quiet (Clock m)) (clock_at c first h side k)
reply_shown c first s h (Tick side On) k fits e =
    ap (λ n. quiet (Clock (n + 1))) (clock_at c first h side k)
reply_shown c first s h (Expire side which) k fits e =
    ap (λ (o : Option Name). (expired_on s side (expired_of side c (end_of s side) o)).1)
    (which_shown c first s h side which k)
    ∙ reply_expired c h side (end_of s side) (length s.link.packets)
    (given_up c h (direction_to side) which)
    ∙ ap (λ (n : ℕ). reply_with n
    (expired_now (direction_to side) (given_up c h (direction_to side) which))
    (expiry_puts c h side (given_up c h (direction_to side) which))) (as_many_packets k.link)
reply_shown c first s h (Deliver l) k fits e =
    let w = lane_direction l in
    let side = receiver_side w in
    ap (λ (a : Arrival). reply_to (length s.link.packets)
    (packet_accepted side c (end_of s side) a))
    (arrival_agrees c first s h l k)
    ∙ reply_delivered c h w (end_of s side) (length s.link.packets) (receiving_at c first h w k)
    (in_hand c h l)
    ∙ ap (λ (n : ℕ). reply_told c h side n (outcome c h l)) (as_many_packets k.link)
reply_shown c first s h (Claim w) k fits e = claimed_answer c first s h w k fits e
reply_shown c first s h (Commit w) k fits e = committed_answer c first s h w k
reply_shown c first s h (Apply how) k fits e = left_answer c first s h how k fits e
reply_shown c first s h (Retire d name) k fits e = refl
reply_shown c first s h (Restart side) k fits e =
    ap (λ n. quiet (Restarted (n + 1))) (boot_at c first h side k)
