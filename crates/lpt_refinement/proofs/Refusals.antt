-- The ends and the link refuse exactly what the journal says, where they show it.
use Rattle.std.proofs.Common.{◌≡◌, ◌∙◌, ap, sym, refl, ℕ, ◌==◌, nat_lt, nat_le, Bool, true, false, not, ◌&&◌, ◌||◌, if◌then◌else◌, [], ◌∷◌, length, Option, Some, None, is_some}
use Rattle.std.specs.Option.{option_map, option_map_or}
use Rattle.std.specs.List.{filter}
use Rattle.std.specs.Prelude.{slice_get}
use Rattle.std.proofs.lemmas.Option.{slice_get-map}
use Rattle.std.specs.FinMap as maps
use Rattle.lpt_packet.specs.declared.direction.Direction.{Direction}
use Rattle.lpt_packet.specs.Names.{Name}
use Rattle.lpt_part.specs.Splitting.{part_count}
use Rattle.lpt_ledger.specs.States.{state_of}
use Rattle.lpt_link.specs.declared.fault.LinkFault.TheVariants as link
use Rattle.lpt_link.specs.declared.packet.LinkPacket.{LinkPacket}
use Rattle.lpt_events.specs.Lanes.{lane_direction, same_direction}
use Rattle.lpt_link.specs.Links.{is_held_for}
use Rattle.lpt_events.specs.declared.config.Config.{Config}
use Rattle.lpt_events.specs.declared.side.Side.{Side}
use Rattle.lpt_events.specs.Sides.{direction_to, sender_side}
use Rattle.lpt_node.specs.declared.fault.NodeFault.TheVariants as node
use Rattle.lpt_node.specs.Nodes.{Sending}
use Rattle.lpt_events.specs.Damages.{is_damage_long, looks_whole}
use Rattle.lpt_events.specs.Requests.{is_part_request, is_too_long}
use Rattle.lpt_node.specs.Sending.{refusal_open_in, refusal_send_of, refusal_finish_in}
use Rattle.lpt_node.specs.Times.{refusal_expire_of}
use Rattle.lpt_acts.specs.Acts.{Act, Open, Send, Plain, Finish, Lose, Damage, Take, Deliver, Tick, Expire, Claim, Commit, Apply, Retire, Restart, On, Back, Within}
use Rattle.lpt_events.specs.declared.fault.StepFault.TheVariants.{InUse, Short, Long, TooMany, NotOpen, NoSuchPart, NotHeld, HandFull, HandEmpty, NothingDue, LooksWhole, ClockEnd, PartRequest}
use Rattle.lpt_journal.specs.Journal.{History}
use Rattle.lpt_journal.specs.Link.{sent, is_held, goes}
use Rattle.lpt_journal.specs.Hands.{hand}
use Rattle.lpt_journal.specs.Receivers.{clock, limits, heard, has_parts}
use Rattle.lpt_journal.specs.Due.{due}
use Rattle.lpt_journal.specs.Refusals.{refusal, first_fault, parts_open}
use Rattle.lpt_journal.specs.Senders.{Sender, FreeSender, OpenSender, ClosedSender, sender, is_free, is_open, open_count, opened_names}
use Rattle.lpt_node.specs.Faults.{node_fault}
use Rattle.lpt_refinement.specs.GoesOn.{Fits}
use Rattle.lpt_model.specs.State.{State, link_fault, refusal_of}
use Rattle.lpt_refinement.specs.Shows.{Shows, ShowsSending, mark_of, message_of, sent_packet}
use Rattle.lpt_refinement.specs.Views.{views, sending_view}
use Rattle.lpt_journal.proofs.MapLemmas.{len_once}
use Rattle.lpt_journal.proofs.CountLemmas.{open_named}
use Rattle.lpt_refinement.proofs.DueShown.{due_shown, open_at}
use Rattle.lpt_refinement.proofs.Fields.{sending_at, clock_at, outgoing_at}
use Rattle.lpt_refinement.proofs.FrontShown.{apply_refused}
use Rattle.lpt_refinement.proofs.ClaimsShown.{claim_refused}
use Rattle.lpt_refinement.proofs.CommitsShown.{commit_refused}
use Rattle.lpt_refinement.proofs.RetiredShown.{retire_refused}
use Rattle.lpt_memory.specs.Memories.{Contents}

-- ---- opening

by_lengths : (short long many : Bool)
    → option_map node_fault
    (if short then Some node.Short
    else if long then Some node.Long
    else if many then Some node.TooMany
    else None)
    ≡ first_fault ((short, Short) ∷ (long, Long) ∷ (many, TooMany) ∷ [])
by_lengths true long many = refl
by_lengths false true many = refl
by_lengths false false true = refl
by_lengths false false false = refl

refuses_open : (c : Config) (limit : ℕ) (x : Sender) (n len : ℕ)
    → option_map node_fault (refusal_open_in c limit (state_of (mark_of x)) n len)
    ≡ first_fault
    ((not (is_free x), InUse)
    ∷ (nat_le len c.part_size, Short)
    ∷ (nat_lt 65542 len, Long)
    ∷ (nat_le limit n, TooMany) ∷ [])
refuses_open c limit FreeSender n len =
    by_lengths (nat_le len c.part_size) (nat_lt 65542 len) (nat_le limit n)
refuses_open c limit (OpenSender m) n len = refl
refuses_open c limit ClosedSender n len = refl

is_some-message : (x : Sender) → is_some (message_of x) ≡ is_open x
is_some-message FreeSender = refl
is_some-message (OpenSender m) = refl
is_some-message ClosedSender = refl

-- a node has as many open messages as the journal has open transactions
pub open_as_many : {side : Side} {x : Sending} (h : History) (d : Direction)
    → ShowsSending side x (sending_view h d)
    → maps.len x.messages ≡ open_count h d
open_as_many {x = x} h d k =
    len_once x.messages (filter (λ q. is_open (sender h d q)) (opened_names h d))
    (λ name. ap is_some (k.messages name) ∙ is_some-message (sender h d name)
    ∙ sym (open_named h d name))

-- ---- sending and finishing

by_number : (outside : Bool)
    → option_map node_fault (if outside then Some node.NoSuchPart else None)
    ≡ first_fault ((outside, NoSuchPart) ∷ [])
by_number true = refl
by_number false = refl

refuses_send : (c : Config) (k : ℕ) (x : Sender)
    → option_map node_fault (refusal_send_of c k (message_of x))
    ≡ first_fault
    ((not (is_open x), NotOpen) ∷ ((k == 0) || nat_lt (parts_open c x) k, NoSuchPart) ∷ [])
refuses_send c k FreeSender = refl
refuses_send c k (OpenSender m) =
    by_number ((k == 0) || nat_lt (part_count (length m) c.part_size) k)
refuses_send c k ClosedSender = refl

refuses_finish : (x : Sender)
    → option_map node_fault (refusal_finish_in (state_of (mark_of x)))
    ≡ first_fault ((not (is_open x), NotOpen) ∷ [])
refuses_finish FreeSender = refl
refuses_finish (OpenSender m) = refl
refuses_finish ClosedSender = refl

-- ---- plain requests

by_request : (part long : Bool)
    → option_map node_fault
    (if part then Some node.PartRequest else if long then Some node.Long else None)
    ≡ first_fault ((part, PartRequest) ∷ (long, Long) ∷ [])
by_request true long = refl
by_request false true = refl
by_request false false = refl

-- ---- damaging

by_damage : (long whole : Bool)
    → (if long then Some Long else if whole then Some LooksWhole else None)
    ≡ first_fault ((long, Long) ∷ (whole, LooksWhole) ∷ [])
by_damage true whole = refl
by_damage false true = refl
by_damage false false = refl

-- ---- taking and delivering

held_for : (d : Direction) (o : Option LinkPacket)
    → option_map_or (λ p. p.held && same_direction p.direction d) o false
    ≡ (option_map_or (λ p. p.held) o false
    && option_map_or (λ p. same_direction p.direction d) (option_map sent_packet o) false)
held_for d None = refl
held_for d (Some p) = refl

-- the link has a packet for a lane where the journal holds it in its direction
held_agrees : (c : Config) (first : Contents) (s : State) (h : History) (d : Direction) (n : ℕ)
    → Shows s (views c first h)
    → is_held_for s.link d n ≡ (is_held h n && goes h d n)
held_agrees c first s h d n k =
    let packet : option_map sent_packet (slice_get s.link.packets n) ≡ slice_get (sent h) n =
    sym (slice_get-map sent_packet s.link.packets n) ∙ ap (λ ps. slice_get ps n) k.link.packets in
    held_for d (slice_get s.link.packets n)
    ∙ (λ i. k.link.held n i && option_map_or (λ p. same_direction p.direction d) (packet i) false)

by_mark : (held : Bool)
    → option_map link_fault (if held then None else Some link.NotHeld)
    ≡ first_fault ((not held, NotHeld) ∷ [])
by_mark true = refl
by_mark false = refl

by_hand : (full held : Bool)
    → option_map link_fault
    (if full then Some link.HandFull else if held then None else Some link.NotHeld)
    ≡ first_fault ((full, HandFull) ∷ (not held, NotHeld) ∷ [])
by_hand true held = refl
by_hand false true = refl
by_hand false false = refl

by_empty_hand : (full : Bool)
    → option_map link_fault (if full then None else Some link.HandEmpty)
    ≡ first_fault ((not full, HandEmpty) ∷ [])
by_empty_hand true = refl
by_empty_hand false = refl

-- ---- time

by_clock : (last : Bool)
    → option_map node_fault (if last then Some node.ClockEnd else None)
    ≡ first_fault ((last, ClockEnd) ∷ [])
by_clock true = refl
by_clock false = refl

by_due : (o : Option Name)
    → option_map node_fault (refusal_expire_of o)
    ≡ first_fault ((not (is_some o), NothingDue) ∷ [])
by_due None = refl
by_due (Some name) = refl

by_open : (name : Name) (b : Bool)
    → option_map node_fault (if b then None else Some node.NotOpen)
    ≡ first_fault ((not (is_some (if b then Some name else None)), NotOpen) ∷ [])
by_open name true = refl
by_open name false = refl

-- ---- all events

-- what is refused is what the journal refuses, for the same reason
pub refusal_shown : (c : Config) (first : Contents) (s : State) (h : History) (e : Act)
    → Shows s (views c first h)
    → Fits c first h
    → refusal_of c s e ≡ refusal c h e
refusal_shown c first s h (Open d name m) k fits =
    let own = sending_at c first h d k in
    (λ i. option_map node_fault
    (refusal_open_in c (outgoing_at c first h d k i) (state_of (own.ledger name i))
    (open_as_many h d own i) (length m)))
    ∙ refuses_open c (limits c h (sender_side d)).outgoing (sender h d name) (open_count h d)
    (length m)
refusal_shown c first s h (Send d name n) k fits =
    ap (λ o. option_map node_fault (refusal_send_of c n o))
    ((sending_at c first h d k).messages name)
    ∙ refuses_send c n (sender h d name)
refusal_shown c first s h (Plain source flags service subtype body) k fits =
    by_request (is_part_request service subtype) (is_too_long c (length body))
refusal_shown c first s h (Finish d name) k fits =
    ap (λ m. option_map node_fault (refusal_finish_in (state_of m)))
    ((sending_at c first h d k).ledger name)
    ∙ refuses_finish (sender h d name)
refusal_shown c first s h (Lose n) k fits =
    (λ i. option_map link_fault (if k.link.held n i then None else Some link.NotHeld))
    ∙ by_mark (is_held h n)
refusal_shown c first s h (Damage d b) k fits = by_damage (is_damage_long c b) (looks_whole b)
refusal_shown c first s h (Take l n) k fits =
    let w = lane_direction l in
    (λ i. option_map link_fault
    (if is_some (k.link.hands l i) then Some link.HandFull
    else if held_agrees c first s h w n k i then None
    else Some link.NotHeld))
    ∙ by_hand (is_some (hand h l)) (is_held h n && goes h w n)
refusal_shown c first s h (Deliver l) k fits =
    ap (λ o. option_map link_fault (if is_some o then None else Some link.HandEmpty))
    (k.link.hands l)
    ∙ by_empty_hand (is_some (hand h l))
refusal_shown c first s h (Tick side (Back n)) k fits = refl
refusal_shown c first s h (Tick side (Within l)) k fits = refl
refusal_shown c first s h (Tick side On) k fits =
    ap (λ n. option_map node_fault (if n == 4294967295 then Some node.ClockEnd else None))
    (clock_at c first h side k)
    ∙ by_clock (clock c h side == 4294967295)
refusal_shown c first s h (Expire side (Some name)) k fits =
    ap (λ b. option_map node_fault (if b then None else Some node.NotOpen))
    (open_at c first s h side name k)
    ∙ by_open name (has_parts (heard c h (direction_to side) name))
refusal_shown c first s h (Expire side None) k fits =
    ap (λ o. option_map node_fault (refusal_expire_of o)) (due_shown c first s h side k)
    ∙ by_due (due c h (direction_to side))
refusal_shown c first s h (Claim w) k fits = claim_refused c first s h w k fits.jobs
refusal_shown c first s h (Commit w) k fits = commit_refused c first s h w k
refusal_shown c first s h (Apply how) k fits = apply_refused c first s h how k fits.jobs
refusal_shown c first s h (Retire d name) k fits = retire_refused c first s h d name k fits
refusal_shown c first s h (Restart side) k fits = refl
