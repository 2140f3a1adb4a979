-- Opening and closing: the journal that follows is shown.
use Rattle.std.proofs.Common.{◌≡◌, ◌∙◌, ap, sym, subst, refl, ℕ, Bool, true, false, ◌||◌, if◌then◌else◌, cond, List, Option, Some, None}
use Rattle.std.specs.FinMap as maps
use Rattle.std.specs.Option.{option_or}
use Rattle.lpt_packet.specs.declared.direction.Direction.{Direction}
use Rattle.lpt_packet.specs.Names.{Name, same_name}
use Rattle.lpt_packet.proofs.NameLemmas.{same_name-true}
use Rattle.lpt_ledger.specs.Marks.{Mark, Opened, Shut}
use Rattle.lpt_ledger.specs.States.{state_of}
use Rattle.lpt_events.specs.declared.entry.Opening.{Opening}
use Rattle.lpt_events.specs.declared.side.Side.{Side}
use Rattle.lpt_node.specs.Nodes.{Sending}
use Rattle.lpt_node.specs.Sending.{opened_in, closed_in, closed_by}
use Rattle.lpt_journal.specs.Journal.{History}
use Rattle.lpt_journal.specs.Senders.{sender, sender_of, current, is_over, packets_made}
use Rattle.lpt_journal.proofs.CountLemmas.{same_name-comm}
use Rattle.lpt_journal.proofs.MapLemmas.{get_insert, get_remove}
use Rattle.lpt_refinement.specs.Shows.{ShowsSending, mark_of, message_of}
use Rattle.lpt_refinement.specs.Views.{SendingView, sending_view}

-- ---- opening

-- what is sent in a direction where these packets were made, and this opened under a name
abbrev pub opened_view : History → Direction → List (List ℕ) → Name → Opening → SendingView
opened_view h w packets name o = record {
  senders = λ q.
      sender_of (option_or (cond (same_name name q) (Some o) None) (current h w q))
      (if same_name name q || false then false else is_over h w q);
  made = packets;
}

mark_opened : (t : Bool) (o : Opening) (before : Option Opening) (over : Bool)
    → (if t then Some Opened else mark_of (sender_of before over))
    ≡ mark_of
    (sender_of (option_or (cond t (Some o) None) before) (if t || false then false else over))
mark_opened true o before over = refl
mark_opened false o before over = refl

message_opened : (t : Bool) (o : Opening) (before : Option Opening) (over : Bool)
    → (if t then Some o.message else message_of (sender_of before over))
    ≡ message_of
    (sender_of (option_or (cond t (Some o) None) before) (if t || false then false else over))
message_opened true o before over = refl
message_opened false o before over = refl

pub opened_shown : {side : Side} {x : Sending} (h : History) (w : Direction)
    (packets : List (List ℕ)) (name : Name) (o : Opening)
    → ShowsSending side x (record { senders = sender h w; made = packets })
    → ShowsSending side (opened_in x name o.message) (opened_view h w packets name o)
opened_shown {x = x} h w packets name o k = record {
  ledger = λ q.
      get_insert x.ledger name Opened q
      ∙ (λ i. if same_name-comm q name i then Some Opened else k.ledger q i)
      ∙ mark_opened (same_name name q) o (current h w q) (is_over h w q);
  messages = λ q.
      get_insert x.messages name o.message q
      ∙ (λ i. if same_name-comm q name i then Some o.message else k.messages q i)
      ∙ message_opened (same_name name q) o (current h w q) (is_over h w q);
  count = k.count;
  types = k.types;
}

-- ---- closing

-- what is sent in a direction where a name's sender was closed
abbrev pub closed_view : History → Direction → Name → SendingView
closed_view h w name = record {
  senders = λ q. sender_of (current h w q) (same_name name q || is_over h w q);
  made = packets_made h w;
}

-- where a sender isn't open, closing it changes nothing
closed_stays : {side : Side} {x : Sending} (h : History) (w : Direction) (name : Name)
    → ((over : Bool) → sender_of (current h w name) (over || is_over h w name) ≡ sender h w name)
    → ShowsSending side x (sending_view h w)
    → ShowsSending side x (closed_view h w name)
closed_stays {side = side} {x = x} h w name stays k = record {
  ledger = λ q. k.ledger q ∙ ap mark_of (go q (same_name name q) refl);
  messages = λ q. k.messages q ∙ ap message_of (go q (same_name name q) refl);
  count = k.count;
  types = k.types;
} where
  go : (q : Name) (t : Bool)
      → same_name name q ≡ t
      → sender h w q ≡ sender_of (current h w q) (t || is_over h w q)
  go q false s = refl
  go q true s =
      subst (λ (n : Name). sender h w n ≡ sender_of (current h w n) (true || is_over h w n))
      (same_name-true name q s) (sym (stays true))

-- an open sender is closed
open_closes : {side : Side} {x : Sending} (h : History) (w : Direction) (name : Name) (o : Opening)
    → current h w name ≡ Some o
    → ShowsSending side x (sending_view h w)
    → ShowsSending side
    (record x { ledger = maps.insert x.ledger name Shut; messages = maps.remove x.messages name })
    (closed_view h w name)
open_closes {x = x} h w name o e k = record {
  ledger = λ q.
      get_insert x.ledger name Shut q
      ∙ (λ i. if same_name-comm q name i then Some Shut else k.ledger q i)
      ∙ marks q (same_name name q) refl;
  messages = λ q.
      get_remove x.messages name q
      ∙ (λ i. if same_name-comm q name i then None else k.messages q i)
      ∙ messages_of q (same_name name q) refl;
  count = k.count;
  types = k.types;
} where
  some : (q : Name) → same_name name q ≡ true → current h w q ≡ Some o
  some q s = ap (λ n. current h w n) (sym (same_name-true name q s)) ∙ e

  marks : (q : Name) (t : Bool)
      → same_name name q ≡ t
      → (if t then Some Shut else mark_of (sender h w q))
      ≡ mark_of (sender_of (current h w q) (t || is_over h w q))
  marks q false s = refl
  marks q true s = sym (ap (λ p. mark_of (sender_of p true)) (some q s))

  messages_of : (q : Name) (t : Bool)
      → same_name name q ≡ t
      → (if t then None else message_of (sender h w q))
      ≡ message_of (sender_of (current h w q) (t || is_over h w q))
  messages_of q false s = refl
  messages_of q true s = sym (ap (λ p. message_of (sender_of p true)) (some q s))

-- by what the sender was
closed_as : {side : Side} {x : Sending} (h : History) (w : Direction) (name : Name)
    (o : Option Opening) (over : Bool)
    → current h w name ≡ o
    → is_over h w name ≡ over
    → ShowsSending side x (sending_view h w)
    → ShowsSending side (closed_by (state_of (mark_of (sender_of o over))) x name)
    (closed_view h w name)
closed_as h w name None over e was k =
    closed_stays h w name (λ t. ap (λ o. sender_of o (t || is_over h w name)) e
    ∙ sym (ap (λ o. sender_of o (is_over h w name)) e)) k
closed_as h w name (Some o) true e was k = closed_stays h w name both k where
  both : (t : Bool) → sender_of (current h w name) (t || is_over h w name) ≡ sender h w name
  both true = sym (ap (sender_of (current h w name)) was)
  both false = refl
closed_as h w name (Some o) false e was k = open_closes h w name o e k

-- a sender that is closed is shown
pub closed_shown : {side : Side} {x : Sending} (h : History) (w : Direction) (name : Name)
    → ShowsSending side x (sending_view h w)
    → ShowsSending side (closed_in x name) (closed_view h w name)
closed_shown {side = side} {x = x} h w name k =
    subst (λ (m : Option Mark).
    ShowsSending side (closed_by (state_of m) x name) (closed_view h w name))
    (sym (k.ledger name)) (closed_as h w name (current h w name) (is_over h w name) refl refl k)
