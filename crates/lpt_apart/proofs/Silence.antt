-- Of a name that its receiver has freed no part comes any more, until its sender has freed it too:
-- its parts may not be handed over, and a closed sender puts none out.
use Rattle.std.proofs.Common.{◌≡◌, ◌∙◌, ap, sym, subst, refl, ℕ, zero, suc, Bool, true, false, not, ◌&&◌, ◌||◌, List, [], ◌∷◌, Option, Some, None}
use Rattle.std.specs.List.{list_any}
use Rattle.std.specs.Prelude.{slice_get, cond}
use Rattle.lpt_packet.specs.declared.direction.Direction.{Direction}
use Rattle.lpt_packet.specs.declared.direction.Direction.TheVariants.{Up, Down}
use Rattle.lpt_packet.specs.Names.{Name, same_name}
use Rattle.lpt_packet.proofs.NameLemmas.{same_name-true}
use Rattle.lpt_memory.specs.Readings.{Job}
use Rattle.lpt_events.specs.Arrivals.{Arrival, arrival_in}
use Rattle.lpt_events.specs.Lanes.{same_direction}
use Rattle.lpt_events.specs.Sides.{sender_side, receiver_side}
use Rattle.lpt_events.specs.declared.config.Config.{Config}
use Rattle.lpt_events.specs.declared.side.Side.{Side}
use Rattle.lpt_events.specs.declared.side.Side.TheVariants.{Ground, Craft}
use Rattle.lpt_model.specs.State.{job_left}
use Rattle.lpt_node.specs.Nodes.{NodeData, message_at}
use Rattle.lpt_node.specs.Accepting.{packet_accepted}
use Rattle.lpt_node.specs.Requests.{plain_made}
use Rattle.lpt_node.specs.Sending.{refusal_send_of}
use Rattle.lpt_node.specs.Times.{expired_of, which_ends}
use Rattle.lpt_model.specs.State.{as_list}
use Rattle.lpt_model.specs.Tickets.{ticket_of}
use Rattle.lpt_journal.proofs.CountLemmas.{same_name-comm}
use Rattle.lpt_apart.specs.Ends.{PutOut, Ends, node_at, with_node, put_out, is_part, without, is_same, Step, Open, Send, Plain, Finish, Accept, Tick, Expire, Claim, Commit, Apply, Retire, Restart, committed_on, after, Pair, Move, Do, Free, freed_by, retired_by, pair_after}
use Rattle.lpt_apart.specs.TwoEnds.{CanHappen, CanMove}
use Rattle.lpt_apart.proofs.Closing.{kept_removed, IsShut, IsNoRetirement, closed_stays}
use Rattle.lpt_events.proofs.LaneLemmas.{same_direction-true}
use Rattle.lpt_packet.proofs.BoolLemmas.{and_false, and_left, and_right, not_true, or_false_left, or_false_right}

-- ---- what may be handed over

-- whether any part of a transaction may be handed over
abbrev pub has_part : Direction → Name → List PutOut → Bool
has_part d name ps = list_any (is_part d name) ps

-- where none of a list passes a test, what stands at a place doesn't
pub none_there : {A : Type 0} (test : A → Bool) (ps : List A) (k : ℕ) (p : A)
    → list_any test ps ≡ false
    → slice_get ps k ≡ Some p
    → test p ≡ false
none_there test [] k p none at = absurd cc
none_there test (q ∷ ps) zero p none at =
    let same : q ≡ p = cc in
    ap test (sym same) ∙ or_false_left (test q) (list_any test ps) none
none_there test (q ∷ ps) (suc k) p none at =
    none_there test ps k p (or_false_right (test q) (list_any test ps) none) at

none_put : (d : Direction) (name : Name) (ps : List PutOut) (way : Direction) (bs : List (List ℕ))
    → has_part d name ps ≡ false
    → has_part d name (put_out ps way None bs) ≡ false
none_put d name ps way [] none = none
none_put d name ps way (b ∷ bs) none =
    none_put d name (record { direction = way; part_of = None; octets = b } ∷ ps) way bs
    (λ i. and_false (same_direction way d) i || none i)

none_without : (d : Direction) (name : Name) (way : Direction) (i : Name) (ps : List PutOut)
    → has_part d name ps ≡ false
    → has_part d name (without way i ps) ≡ false
none_without d name way i [] none = none
none_without d name way i (p ∷ ps) none =
    go (not (is_part way i p))
    (none_without d name way i ps
    (or_false_right (is_part d name p) (has_part d name ps) none)) where
      go : (b : Bool)
          → has_part d name (without way i ps) ≡ false
          → has_part d name (cond b (p ∷ without way i ps) (without way i ps)) ≡ false
      go true rest = λ j. or_false_left (is_part d name p) (has_part d name ps) none j || rest j
      go false rest = rest

none_left : (d : Direction) (name : Name) (ps : List PutOut)
    → has_part d name (without d name ps) ≡ false
none_left d name [] = refl
none_left d name (p ∷ ps) = go (is_part d name p) refl (none_left d name ps) where
  go : (t : Bool)
      → is_part d name p ≡ t
      → has_part d name (without d name ps) ≡ false
      → has_part d name (cond (not t) (p ∷ without d name ps) (without d name ps)) ≡ false
  go true e rest = rest
  go false e rest = λ j. e j || rest j

-- ---- steps

same_ways : (e : Ends) (side : Side) (n : NodeData) → (with_node e side n).on_the_way ≡ e.on_the_way
same_ways e Ground n = refl
same_ways e Craft n = refl

-- what is sent of a transaction is of another than one that has no message
sends_other : (c : Config) (e : Ends) (way : Direction) (i : Name) (k : ℕ) (d : Direction)
    (name : Name)
    → refusal_send_of c k (message_at (node_at e (sender_side way)) i) ≡ None
    → message_at (node_at e (sender_side d)) name ≡ None
    → (same_direction way d && same_name i name) ≡ false
sends_other c e way i k d name can mute = go (same_direction way d && same_name i name) refl where
  go : (t : Bool) → (same_direction way d && same_name i name) ≡ t → t ≡ false
  go false is = refl
  go true is =
      let same_way : way ≡ d =
      same_direction-true way d (and_left (same_direction way d) (same_name i name) is) in
      let same : i ≡ name = same_name-true i name (and_right (same_direction way d) (same_name i name) is) in
      let none : message_at (node_at e (sender_side way)) i ≡ None =
      (λ j. message_at (node_at e (sender_side (same_way j))) (same j)) ∙ mute in
      absurd (let no : refusal_send_of c k None ≡ None = ap (refusal_send_of c k) (sym none) ∙ can
      in cc)

-- of a transaction that has no message no part is put out
none_step : (c : Config) (e : Ends) (x : Step) (d : Direction) (name : Name)
    → CanHappen c e x
    → IsNoRetirement x
    → message_at (node_at e (sender_side d)) name ≡ None
    → has_part d name e.on_the_way ≡ false
    → has_part d name (after c e x).on_the_way ≡ false
none_step c e (Open way i m) d name can stays mute none =
    ap (has_part d name) (same_ways e (sender_side way) _) ∙ none
none_step c e (Send way i k) d name can stays mute none =
    λ j. sends_other c e way i k d name can.1 mute j || none j
none_step c e (Plain source flags service subtype body) d name can stays mute none =
    none_put d name e.on_the_way Up
    ((plain_made c e.on_ground source flags service subtype body).1 ∷ []) none
none_step c e (Finish way i) d name can stays mute none =
    ap (has_part d name) (same_ways e (sender_side way) _) ∙ none
none_step c e (Accept way b) d name can stays mute none =
    let a : Arrival = arrival_in c way b in
    let side : Side = receiver_side way in
    none_put d name e.on_the_way Down (as_list (packet_accepted side c (node_at e side) a).1.packet)
    none
none_step c e (Tick side turn) d name can stays mute none =
    ap (has_part d name) (same_ways e side _) ∙ none
none_step c e (Expire side which) d name can stays mute none =
    none_put d name e.on_the_way Down
    (as_list (expired_of side c (node_at e side)
    (which_ends c (node_at e side) which)).1.packet) none
none_step c e (Claim w) d name can stays mute none = none
none_step c e (Commit w) d name can stays mute none = go (ticket_of e.tickets w) where
  go : (o : Option Job) → has_part d name (committed_on c e w o).on_the_way ≡ false
  go None = none
  go (Some t) = none
none_step c e (Apply how) d name can stays mute none =
    none_put d name e.on_the_way Down (job_left how c e.on_craft e.memories).0.1.packets none
none_step c e (Retire way i) d name can stays mute none = absurd stays
none_step c e (Restart side) d name can stays mute none =
    ap (has_part d name) (same_ways e side _) ∙ none

-- ---- moves

-- the sender of each freed name is closed, and no part of the name may be handed over
pub record AreSilent (freed : Direction → Name → Bool) (e : Ends) : Type 0 where
  pub shut : (d : Direction) (name : Name) → freed d name ≡ true → IsShut e d name
  pub gone : (d : Direction) (name : Name) → freed d name ≡ true
      → has_part d name e.on_the_way ≡ false

-- a closed sender has no message
abbrev pub AreMute : Ends → Type 0
AreMute e =
    (d : Direction) (name : Name)
    → IsShut e d name
    → message_at (node_at e (sender_side d)) name ≡ None

silent_step : (c : Config) (p : Pair) (x : Step)
    → CanHappen c p.ends x
    → IsNoRetirement x
    → AreMute p.ends
    → AreSilent p.freed p.ends
    → AreSilent p.freed (after c p.ends x)
silent_step c p x can stays mute silent = record {
  shut = λ d name is. closed_stays c p.ends x d name can stays (silent.shut d name is);
  gone = λ d name is.
      none_step c p.ends x d name can stays (mute d name (silent.shut d name is))
      (silent.gone d name is);
}

-- a sender that frees a name leaves another closed
shut_retired : (p : Pair) (way : Direction) (i : Name) (d : Direction) (name : Name)
    → is_same way i d name ≡ false
    → IsShut p.ends d name
    → IsShut (retired_by p way i).ends d name
shut_retired p Up i Up name other had =
    kept_removed p.ends.on_ground.sending.ledger name i (same_name-comm name i ∙ other) had
shut_retired p Up i Down name other had = had
shut_retired p Down i Up name other had = had
shut_retired p Down i Down name other had =
    kept_removed p.ends.on_craft.sending.ledger name i (same_name-comm name i ∙ other) had

-- a receiver that frees a name leaves all senders as they are
shut_freed : (p : Pair) (way : Direction) (i : Name) (d : Direction) (name : Name)
    → IsShut p.ends d name
    → IsShut (freed_by p way i).ends d name
shut_freed p Up i Up name had = had
shut_freed p Up i Down name had = had
shut_freed p Down i Up name had = had
shut_freed p Down i Down name had = had

-- another name of the freed ones, or this one
one_of : (way : Direction) (i : Name) (d : Direction) (name : Name) (b : Bool)
    (P : Direction → Name → Type 0)
    → (is_same way i d name || b) ≡ true
    → P way i
    → (b ≡ true → P d name)
    → P d name
one_of way i d name b P is this others = go (is_same way i d name) refl is where
  go : (t : Bool) → is_same way i d name ≡ t → (t || b) ≡ true → P d name
  go true same e =
      let at : way ≡ d = same_direction-true way d
      (and_left (same_direction way d) (same_name i name) same) in
      let named : i ≡ name =
      same_name-true i name (and_right (same_direction way d) (same_name i name) same) in
      subst (λ (n : Name). P d n) named (subst (λ (w : Direction). P w i) at this)
  go false same e = others e

-- freed names stay silent
pub silent_on : (c : Config) (p : Pair) (x : Move)
    → CanMove c p x
    → AreMute p.ends
    → AreSilent p.freed p.ends
    → AreSilent (pair_after c p x).freed (pair_after c p x).ends
silent_on c p (Do (Retire way i)) can mute silent = record {
  shut = λ d name is.
      shut_retired p way i d name
      (not_true (is_same way i d name) (and_left (not (is_same way i d name)) (p.freed d name) is))
      (silent.shut d name (and_right (not (is_same way i d name)) (p.freed d name) is));
  gone = λ d name is.
      none_without d name way i p.ends.on_the_way
      (silent.gone d name (and_right (not (is_same way i d name)) (p.freed d name) is));
}
silent_on c p (Do x) can mute silent = silent_step c p x can tt mute silent
silent_on c p (Free way i) can mute silent = record {
  shut = λ d name is.
      one_of way i d name (p.freed d name) (IsShut (freed_by p way i).ends) is
      (shut_freed p way i way i can.1.closed)
      (λ was. shut_freed p way i d name (silent.shut d name was));
  gone = λ d name is.
      one_of way i d name (p.freed d name)
      (λ (d : Direction) (name : Name). has_part d name
      (without way i p.ends.on_the_way) ≡ false) is
      (none_left way i p.ends.on_the_way)
      (λ was. none_without d name way i p.ends.on_the_way (silent.gone d name was));
}
