-- A transaction is retired: refusal, and the longer journal.
use Rattle.std.proofs.Common.{◌≡◌, ◌∙◌, ap, sym, refl, Bool, true, false, not, ◌&&◌, ◌||◌, if◌then◌else◌, [], ◌∷◌, Option, None}
use Rattle.std.specs.FinMap as maps
use Rattle.lpt_packet.specs.declared.direction.Direction.{Direction}
use Rattle.lpt_packet.specs.declared.direction.Direction.TheVariants.{Up, Down}
use Rattle.lpt_packet.specs.Names.{Name, same_name}
use Rattle.lpt_packet.proofs.NameLemmas.{same_name-true}
use Rattle.lpt_memory.specs.Memories.{Contents}
use Rattle.lpt_ledger.specs.States.{state_of}
use Rattle.lpt_events.specs.declared.config.Config.{Config}
use Rattle.lpt_events.specs.declared.entry.Opening.{Opening}
use Rattle.lpt_acts.specs.Acts.{Retire}
use Rattle.lpt_events.specs.declared.fault.StepFault.TheVariants.{NotOpen, StillOpen, NotClear}
use Rattle.lpt_events.specs.declared.side.Side.{Side}
use Rattle.lpt_events.specs.declared.side.Side.TheVariants.{Ground, Craft}
use Rattle.lpt_node.specs.Nodes.{Sending, Receiving}
use Rattle.lpt_journal.specs.Clear.{part_held, part_in_hand}
use Rattle.lpt_journal.specs.Journal.{History}
use Rattle.lpt_journal.specs.Receivers.{heard, has_parts, is_closed, last_tick, limits}
use Rattle.lpt_journal.specs.Refusals.{refusal, first_fault}
use Rattle.lpt_journal.specs.Replies.{entry}
use Rattle.lpt_journal.specs.Senders.{Sender, FreeSender, OpenSender, ClosedSender, sender, sender_of, is_free, is_open, current, is_over, packets_made}
use Rattle.lpt_journal.proofs.CountLemmas.{same_name-comm}
use Rattle.lpt_journal.proofs.MapLemmas.{get_remove}
use Rattle.lpt_journal.proofs.TestLemmas.{three_pass}
use Rattle.lpt_refinement.specs.GoesOn.{Fits}
use Rattle.lpt_refinement.specs.Shows.{Shows, ShowsSending, ShowsReceiving, mark_of, message_of, closed_mark}
use Rattle.lpt_model.specs.State.{State, refusal_of, refusal_retire_by, after_retire}
use Rattle.lpt_refinement.specs.Views.{SendingView, ReceivingView, views, sending_view, receiving_view}
use Rattle.lpt_refinement.proofs.ClearShown.{holds_shown, reception_shown}
use Rattle.lpt_refinement.proofs.Fields.{sending_at, with_sending, with_receiving}
use Rattle.lpt_events.specs.Sides.{receiver_side}

-- ---- refusal

-- by what the sender is, whether a part is on its way, and whether a reception is open
retire_by : (y : Sender) (held receives : Bool)
    → refusal_retire_by (state_of (mark_of y)) (not held && not receives)
    ≡ first_fault
    ((is_free y, NotOpen)
    ∷ (is_open y, StillOpen)
    ∷ (not (not held && not receives && not (is_open y)), NotClear) ∷ [])
retire_by FreeSender held receives = refl
retire_by (OpenSender m) held receives = refl
retire_by ClosedSender true receives = refl
retire_by ClosedSender false true = refl
retire_by ClosedSender false false = refl

pub retire_refused : (c : Config) (first : Contents) (s : State) (h : History) (d : Direction) (name : Name)
    → Shows s (views c first h)
    → Fits c first h
    → refusal_of c s (Retire d name) ≡ refusal c h (Retire d name)
retire_refused c first s h d name k fits =
    (λ i. refusal_retire_by (state_of ((sending_at c first h d k).ledger name i))
    (not (holds_shown c first s h d name k fits.tags i)
    && not (reception_shown c first s h d name k i)))
    ∙ retire_by (sender h d name) (part_held c h d name || part_in_hand c h d name)
    (has_parts (heard c h d name))

-- ---- the longer journal

-- what is sent in a direction once a name is free
abbrev freed_view : History → Direction → Name → SendingView
freed_view h d name = record {
  senders = λ q.
      sender_of (if same_name name q then None else current h d q) (is_over h d q);
  made = packets_made h d;
}

-- what is received in a direction once a name is free
abbrev forgotten_view : Config → History → Direction → Name → ReceivingView
forgotten_view c h d name = record {
  parts = heard c h d;
  closed = λ q. not (same_name name q) && is_closed h d q;
  last = last_tick c h d;
  limit = (limits c h (receiver_side d)).receptions;
  timeout = (limits c h (receiver_side d)).timeout;
}

mark_freed : (t : Bool) (o : Option Opening) (over : Bool)
    → (if t then None else mark_of (sender_of o over))
    ≡ mark_of (sender_of (if t then None else o) over)
mark_freed true o over = refl
mark_freed false o over = refl

no_message : (y : Sender) → is_open y ≡ false → message_of y ≡ None
no_message FreeSender e = refl
no_message (OpenSender m) e = absurd cc
no_message ClosedSender e = refl

-- the name of a sender that isn't open is freed
freed_shown : {side : Side} {x : Sending} (h : History) (d : Direction) (name : Name)
    → is_open (sender h d name) ≡ false
    → ShowsSending side x (sending_view h d)
    → ShowsSending side (record x { ledger = maps.remove x.ledger name }) (freed_view h d name)
freed_shown {x = x} h d name ended k = record {
  ledger = λ q.
      get_remove x.ledger name q
      ∙ (λ i. if same_name-comm q name i then None else k.ledger q i)
      ∙ mark_freed (same_name name q) (current h d q) (is_over h d q);
  messages = λ q. k.messages q ∙ go q (same_name name q) refl;
  count = k.count;
  types = k.types;
} where
  go : (q : Name) (t : Bool)
      → same_name name q ≡ t
      → message_of (sender h d q)
      ≡ message_of (sender_of (if t then None else current h d q) (is_over h d q))
  go q false e = refl
  go q true e =
      ap (λ n. message_of (sender h d n)) (sym (same_name-true name q e))
      ∙ no_message (sender h d name) ended

mark_forgotten : (t closed : Bool)
    → (if t then None else closed_mark closed) ≡ closed_mark (not t && closed)
mark_forgotten true closed = refl
mark_forgotten false closed = refl

-- the name of a reception that has ended is freed
forgotten_shown : {x : Receiving} (c : Config) (h : History) (d : Direction) (name : Name)
    → ShowsReceiving x (receiving_view c h d)
    → ShowsReceiving (record x { ledger = maps.remove x.ledger name }) (forgotten_view c h d name)
forgotten_shown {x = x} c h d name k = record {
  ledger = λ q.
      get_remove x.ledger name q
      ∙ (λ i. if same_name-comm q name i then None else k.ledger q i)
      ∙ mark_forgotten (same_name name q) (is_closed h d q);
  entries = k.entries;
  limit = k.limit;
  timeout = k.timeout;
}

pub retired_shown : (c : Config) (first : Contents) (s : State) (h : History) (d : Direction) (name : Name)
    → Shows s (views c first h)
    → refusal c h (Retire d name) ≡ None
    → Shows (after_retire s d name).0 (views c first (entry c first h (Retire d name) ∷ h))
retired_shown c first s h Up name k e =
    let ended = (three_pass _ _ _ NotOpen StillOpen NotClear e).1 in
    with_receiving Craft
    (with_sending Ground k (freed_shown h Up name ended k.ground.sending))
    (forgotten_shown c h Up name k.craft.receiving)
retired_shown c first s h Down name k e =
    let ended = (three_pass _ _ _ NotOpen StillOpen NotClear e).1 in
    with_receiving Ground
    (with_sending Craft k (freed_shown h Down name ended k.craft.sending))
    (forgotten_shown c h Down name k.ground.receiving)
