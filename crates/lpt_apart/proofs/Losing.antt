-- All held parts of a transaction are lost, one after the other.
use Rattle.std.proofs.Common.{◌≡◌, ◌∙◌, ap, sym, refl, ℕ, zero, suc, ◌<◌, ◌==◌, Bool, true, false, ◌&&◌, if◌then◌else◌, List, ◌∷◌, length, Option, Some, None, arith}
use Rattle.std.specs.Option.{option_map, option_map_or}
use Rattle.std.specs.Prelude.{slice_get}
use Rattle.std.proofs.lemmas.Bool.Decides.{nat_tests}
use Rattle.lpt_packet.specs.declared.direction.Direction.{Direction}
use Rattle.lpt_packet.specs.Names.{Name}
use Rattle.lpt_memory.specs.Memories.{Contents}
use Rattle.lpt_events.specs.Configs.{IsConfig}
use Rattle.lpt_events.specs.declared.config.Config.{Config}
use Rattle.lpt_events.specs.declared.event.Event.TheVariants as event
use Rattle.lpt_acts.specs.Acts.{Act, Lose}
use Rattle.lpt_events.specs.declared.lane.Lane.{Lane}
use Rattle.lpt_link.specs.declared.fault.LinkFault.TheVariants.{NotHeld}
use Rattle.lpt_link.specs.declared.packet.LinkPacket.{LinkPacket}
use Rattle.lpt_link.specs.Links.{LinkData, is_of, is_held, hand_of, with_lost, after_lose}
use Rattle.lpt_model.specs.State.{State, link_fault, refusal_of}
use Rattle.lpt_refinement.specs.Shows.{Shows}
use Rattle.lpt_refinement.specs.Views.{views}
use Rattle.lpt_journal.specs.Legal.{Legal}
use Rattle.lpt_journal.specs.Replies.{history_after}
use Rattle.lpt_journal.specs.Whole.{came}
use Rattle.lpt_apart.specs.Told.{log_told}
use Rattle.lpt_apart.specs.Worlds.{AreOfEvents}
use Rattle.lpt_apart.proofs.Links.{unheld, get_lost}
use Rattle.lpt_link.proofs.PacketLists.{length-with_lost}
use Rattle.lpt_apart.proofs.Ties.{longer}
use Rattle.lpt_packet.proofs.Readings.{true_eq}

-- whether a packet is a held part of a transaction
abbrev pub is_held_part : Direction → Name → LinkPacket → Bool
is_held_part d name p = p.held && is_of d name p

-- The held parts of a transaction below a number were lost after these events: the link is this,
-- and no other packet has changed.
pub record WereLost (c : Config) (first : Contents) (s : State) (es : List Act) (d : Direction)
    (name : Name) (n : ℕ) : Type 0 where
  pub link : LinkData
  pub events : List Act
  pub legal : Legal c first events
  pub shown : Shows (record s { link = link }) (views c first (history_after c first events))
  pub hands : (l : Lane) → hand_of link l ≡ hand_of s.link l
  pub clear : (k : ℕ)
      → k < n
      → option_map_or (is_held_part d name) (slice_get link.packets k) false ≡ false
  pub kept : (k : ℕ) (p : LinkPacket)
      → slice_get s.link.packets k ≡ Some p
      → is_of d name p ≡ false
      → slice_get link.packets k ≡ Some p
  pub many : length link.packets ≡ length s.link.packets
  pub tells : log_told c (history_after c first events) ≡ log_told c (history_after c first es)
  pub comes : (e : Direction) (i : Name) (k : ℕ)
      → came c (history_after c first events) e i k ≡ came c (history_after c first es) e i k
  pub alone : AreOfEvents es → AreOfEvents events

-- ---- one packet

held_is : (d : Direction) (name : Name) (o : Option LinkPacket)
    → option_map_or (is_held_part d name) o false ≡ true
    → option_map_or (λ p. p.held) o false ≡ true
held_is d name None e = absurd cc
held_is d name (Some p) e = left p.held (is_of d name p) e where
  left : (a b : Bool) → (a && b) ≡ true → a ≡ true
  left true b e = refl
  left false b e = absurd cc

unheld_fails : (d : Direction) (name : Name) (o : Option LinkPacket)
    → option_map_or (is_held_part d name) (option_map unheld o) false ≡ false
unheld_fails d name None = refl
unheld_fails d name (Some p) = refl

and_false : (a b : Bool) → b ≡ false → (a && b) ≡ false
and_false true b e = e
and_false false b e = refl

below_or_at : (k n : ℕ) → k < suc n → (k == n) ≡ false → k < n
below_or_at k n below e = grind (arith, nat_tests)

-- no number below the next holds a part where none below this does and it was lost
clear_on : (d : Direction) (name : Name) (ps : List LinkPacket) (n : ℕ)
    → ((k : ℕ) → k < n → option_map_or (is_held_part d name) (slice_get ps k) false ≡ false)
    → (k : ℕ)
    → k < suc n
    → option_map_or (is_held_part d name) (slice_get (with_lost ps n) k) false ≡ false
clear_on d name ps n clear k below =
    ap (λ (o : Option LinkPacket). option_map_or (is_held_part d name) o false) (get_lost ps n k)
    ∙ go (k == n) refl where
      go : (t : Bool)
          → (k == n) ≡ t
          → option_map_or (is_held_part d name)
          (if t then option_map unheld (slice_get ps k) else slice_get ps k) false
          ≡ false
      go true e = unheld_fails d name (slice_get ps k)
      go false e = clear k (below_or_at k n below e)

-- no number below the next holds a part where none below this does, and it holds none
clear_at : (d : Direction) (name : Name) (ps : List LinkPacket) (n : ℕ)
    → ((k : ℕ) → k < n → option_map_or (is_held_part d name) (slice_get ps k) false ≡ false)
    → option_map_or (is_held_part d name) (slice_get ps n) false ≡ false
    → (k : ℕ)
    → k < suc n
    → option_map_or (is_held_part d name) (slice_get ps k) false ≡ false
clear_at d name ps n clear none k below = go (k == n) refl where
  go : (t : Bool) → (k == n) ≡ t
      → option_map_or (is_held_part d name) (slice_get ps k) false ≡ false
  go true e =
      ap (λ (j : ℕ). option_map_or (is_held_part d name) (slice_get ps j) false) (true_eq k n e) ∙ none
  go false e = clear k (below_or_at k n below e)

-- a packet that is no part isn't the one that was lost
kept_on : (d : Direction) (name : Name) (ps : List LinkPacket) (n : ℕ)
    → option_map_or (is_held_part d name) (slice_get ps n) false ≡ true
    → (k : ℕ) (p : LinkPacket)
    → slice_get ps k ≡ Some p
    → is_of d name p ≡ false
    → slice_get (with_lost ps n) k ≡ Some p
kept_on d name ps n part k p there other = get_lost ps n k ∙ go (k == n) refl where
  go : (t : Bool)
      → (k == n) ≡ t
      → ◌≡◌ {A = Option LinkPacket}
      (if t then option_map unheld (slice_get ps k) else slice_get ps k) (Some p)
  go true e =
      let at : slice_get ps n ≡ Some p =
      ap (λ (j : ℕ). slice_get ps j) (sym (true_eq k n e)) ∙ there in
      let yes : is_held_part d name p ≡ true =
      sym (ap (λ (o : Option LinkPacket). option_map_or (is_held_part d name) o false) at) ∙ part in
      let no : is_held_part d name p ≡ false = and_false p.held (is_of d name p) other in
      absurd (let both : true ≡ false = sym yes ∙ no in cc)
  go false e = there

-- ---- all of them

module _ (c : Config) (first : Contents) (good : IsConfig c) (s : State) (es : List Act)
    (d : Direction) (name : Name) where
  lose_next : (n : ℕ) → WereLost c first s es d name n → WereLost c first s es d name (suc n)
  lose_next n had =
      go (option_map_or (is_held_part d name) (slice_get had.link.packets n) false) refl
    where
      go : (t : Bool)
          → option_map_or (is_held_part d name) (slice_get had.link.packets n) false ≡ t
          → WereLost c first s es d name (suc n)
      go false e = record {
        link = had.link;
        events = had.events;
        legal = had.legal;
        shown = had.shown;
        hands = had.hands;
        clear = clear_at d name had.link.packets n had.clear e;
        kept = had.kept;
        many = had.many;
        tells = had.tells;
        comes = had.comes;
        alone = had.alone;
      }
      go true e =
          let held : is_held had.link n ≡ true = held_is d name (slice_get had.link.packets n) e in
          let free : refusal_of c (record s { link = had.link }) (Lose n) ≡ None =
          ap (λ (t : Bool). option_map link_fault (if t then None else Some NotHeld)) held in
          let more = longer c first (record s { link = had.link }) had.events (Lose n) good
          had.legal
          had.shown tt free in
          record {
            link = after_lose had.link n;
            events = Lose n ∷ had.events;
            legal = more.legal;
            shown = more.shown;
            hands = had.hands;
            clear = clear_on d name had.link.packets n had.clear;
            kept = λ k p there other. kept_on d name had.link.packets n e k p
                (had.kept k p there other)
                other;
            many = length-with_lost had.link.packets n ∙ had.many;
            tells = had.tells;
            comes = had.comes;
            alone = λ u. (had.alone u, record { event = event.Lose n; is = refl });
          }

  -- all below a number
  pub lose_below : Legal c first es
      → Shows s (views c first (history_after c first es))
      → (n : ℕ)
      → WereLost c first s es d name n
  lose_below legal shown zero = record {
    link = s.link;
    events = es;
    legal = legal;
    shown = shown;
    hands = λ l. refl;
    clear = λ k below. absurd (omega arith);
    kept = λ k p there other. there;
    many = refl;
    tells = refl;
    comes = λ e i k. refl;
    alone = λ u. u;
  }
  lose_below legal shown (suc n) = lose_next n (lose_below legal shown n)
