-- Two ends that free names by lines free them in order.
use Rattle.std.proofs.Common.{◌≡◌, ◌∙◌, sym, refl, ℕ, ◌+◌, ◌<◌, ◌==◌, Bool, true, false, ◌&&◌, if◌then◌else◌, ◌⊎◌, inl, inr, List, [], ◌∷◌, Option, Some, None, is_some, arith}
use Rattle.std.proofs.lemmas.Bool.Decides.{nat_tests}
use Rattle.std.specs.FinMap as maps
use Rattle.lpt_packet.specs.declared.direction.Direction.{Direction}
use Rattle.lpt_packet.specs.Names.{Name}
use Rattle.lpt_packet.proofs.BoolLemmas.{and_left, and_right, not_true}
use Rattle.lpt_events.specs.Sides.{receiver_side}
use Rattle.lpt_events.specs.declared.config.Config.{Config}
use Rattle.lpt_apart.specs.Ends.{after_all, node_at, Do, Free, Move, Pair, pair_after, Accept, Retire, Send}
use Rattle.lpt_apart.specs.TwoEnds.{CanAll, no_pair_later, CanMove}
use Rattle.lpt_apart.proofs.Closing.{IsShut}
use Rattle.lpt_apart.proofs.Clocks.{ends_with_clocks_keep_the_promise, ends_with_clocks_withhold_nothing}
use Rattle.lpt_apart.specs.Freeing.{Act, CanAct, CanActAll, Comes, Hears, LinesFreeInOrder, Makes, Says, Sends, Talk, with_act, with_acts, part_line, with_answer}
use Rattle.lpt_apart.specs.Lines.{answer, Finished, Freed, is_unheard, Line, MaySay, Packet, Part, receives, sends}
use Rattle.lpt_apart.proofs.Holding.{AllHold, Holds, all_hold_on, holds_of}
use Rattle.lpt_apart.proofs.Turns.{InTurn, IsFirst, turns_on}
use Rattle.lpt_apart.proofs.Ways.{out_of, part_of, loose}

-- ---- what may be said holds

-- a line that an end may say holds
pub said_holds : (p : Pair) (xs : List Move) (l : Line) → MaySay p xs l → Holds p xs l
said_holds p xs (Part d name turn b) may = absurd may
said_holds p xs (Packet d b) may = (may.place, may.there)
said_holds p xs (Finished d name turn) may = (may.0, inr (may.1, may.2))
said_holds p xs (Freed d name turn) may = may

-- the line of a part that was made holds
pub made_holds : (c : Config) (p : Pair) (xs : List Move) (d : Direction) (name : Name) (k : ℕ)
    → Holds (pair_after c p (Do (Send d name k))) (Do (Send d name k) ∷ xs)
    (part_line c p xs d name k)
made_holds c p xs d name k = (omega arith, λ at. (0, refl))

-- ---- what is answered can be done

-- a move can be made, and frees no name again
pub record IsNext (c : Config) (p : Pair) (x : Move) : Type 0 where
  pub can : CanMove c p x
  pub first : IsFirst p x

-- so it is with an answer, where there is one
abbrev pub AllNext : Config → Pair → Option Move → Type 0
AllNext c p None = Unit {0}
AllNext c p (Some x) = IsNext c p x

-- two numbers are the same that a test says are
same_turn : (m n : ℕ) → (m == n) ≡ true → m ≡ n
same_turn m n is = grind (arith, nat_tests)

answers_part : (c : Config) (p : Pair) (xs : List Move) (d : Direction) (name : Name) (turn : ℕ)
    (b : List ℕ) (t : Bool)
    → (turn == receives xs d name) ≡ t
    → Holds p xs (Part d name turn b)
    → AllNext c p (if t then Some (Do (Accept d b)) else None)
answers_part c p xs d name turn b true is h =
    let now : turn ≡ receives xs d name = same_turn turn (receives xs d name) is in
    record { can = inl (out_of p.ends (part_of d name b) (h.1 (omega (arith, now)))); first = tt }
answers_part c p xs d name turn b false is h = tt

answers_finished : (c : Config) (p : Pair) (xs : List Move) (d : Direction) (name : Name)
    (turn : ℕ) (t : Bool)
    → (turn == receives xs d name && is_unheard p.ends d name) ≡ t
    → InTurn p xs
    → Holds p xs (Finished d name turn)
    → AllNext c p (if t then Some (Free d name) else None)
answers_finished c p xs d name turn false is turns h = tt
answers_finished c p xs d name turn true is turns h = go (p.freed d name) refl h.1 where
  now : turn ≡ receives xs d name
  now = same_turn turn (receives xs d name)
      (and_left (turn == receives xs d name) (is_unheard p.ends d name) is)

  heard : Bool
  heard = is_some (maps.get (node_at p.ends (receiver_side d)).receiving.entries name)

  unheard : heard ≡ false
  unheard = not_true heard (and_right (turn == receives xs d name) (is_unheard p.ends d name) is)

  go : (b : Bool)
      → p.freed d name ≡ b
      → (turn < sends xs d name) ⊎ ((turn ≡ sends xs d name) × IsShut p.ends d name)
      → IsNext c p (Free d name)
  go true freed (inl low) =
      let r : receives xs d name ≡ sends xs d name + 1 = turns.next d name freed in
      let it = now in
      absurd (omega (arith, low, r, it))
  go true freed (inr shut) =
      let r : receives xs d name ≡ sends xs d name + 1 = turns.next d name freed in
      let it = now in
      let same = shut.0 in
      absurd (omega (arith, same, r, it))
  go false first (inl low) =
      let r : receives xs d name ≡ sends xs d name = turns.same d name first in
      let it = now in
      absurd (omega (arith, low, r, it))
  go false first (inr shut) = record {
    can = (h.0, record { closed = shut.1; unheard = unheard });
    first = first;
  }

answers_freed : (c : Config) (p : Pair) (xs : List Move) (d : Direction) (name : Name)
    (turn : ℕ) (t : Bool)
    → (turn == sends xs d name) ≡ t
    → InTurn p xs
    → Holds p xs (Freed d name turn)
    → AllNext c p (if t then Some (Do (Retire d name)) else None)
answers_freed c p xs d name turn false is turns h = tt
answers_freed c p xs d name turn true is turns h = go (p.freed d name) refl where
  now : turn ≡ sends xs d name
  now = same_turn turn (sends xs d name) is

  go : (b : Bool) → p.freed d name ≡ b → IsNext c p (Do (Retire d name))
  go true freed = record { can = (h.0, freed); first = tt }
  go false first =
      let r : receives xs d name ≡ sends xs d name = turns.same d name first in
      let it = now in
      let low = h.1 in
      absurd (omega (arith, low, r, it))

-- whatever is heard that holds
pub answers : (c : Config) (p : Pair) (xs : List Move) (l : Line)
    → InTurn p xs
    → Holds p xs l
    → AllNext c p (answer p.ends xs l)
answers c p xs (Part d name turn b) turns h =
    answers_part c p xs d name turn b (turn == receives xs d name) refl h
answers c p xs (Packet d b) turns h =
    record { can = inl (out_of p.ends (loose d b) h); first = tt }
answers c p xs (Finished d name turn) turns h =
    answers_finished c p xs d name turn
    (turn == receives xs d name && is_unheard p.ends d name) refl turns h
answers c p xs (Freed d name turn) turns h =
    answers_freed c p xs d name turn (turn == sends xs d name) refl turns h

-- ---- runs

module _ (c : Config) (start : Pair) where
  -- moves can be made, the turns of names fit, and all that was said holds
  pub record IsSound (xs : List Move) (ls : List Line) : Type 0 where
    pub can : CanAll c start xs
    pub turns : InTurn (after_all c start xs) xs
    pub said : AllHold (after_all c start xs) xs ls

  -- so it is with one more move
  pub sound_move : (xs : List Move) (ls : List Line) (x : Move)
      → IsSound xs ls
      → IsNext c (after_all c start xs) x
      → IsSound (x ∷ xs) ls
  sound_move xs ls x s it = record {
    can = (s.can, it.can);
    turns = turns_on c (after_all c start xs) x xs it.can it.first s.turns;
    said = all_hold_on c (after_all c start xs) x xs ls it.can it.first s.turns s.said;
  }

  -- with one more line
  pub sound_line : (xs : List Move) (ls : List Line) (l : Line)
      → IsSound xs ls
      → Holds (after_all c start xs) xs l
      → IsSound xs (l ∷ ls)
  sound_line xs ls l s holds =
      record { can = s.can; turns = s.turns; said = (holds, s.said) }

  -- with an answer, or none
  pub sound_answer : (xs : List Move) (ls : List Line) (o : Option Move)
      → IsSound xs ls
      → AllNext c (after_all c start xs) o
      → IsSound (with_answer o xs) ls
  sound_answer xs ls None s it = s
  sound_answer xs ls (Some x) s it = sound_move xs ls x s it

  sound_act : (t : Talk) (x : Act)
      → IsSound t.moves t.said
      → CanAct c start t x
      → IsSound (with_act c start t x).moves (with_act c start t x).said
  sound_act t (Makes x) s can =
      sound_move t.moves t.said (Do x) s (record { can = can.1; first = tt })
  sound_act t (Sends d name k) s can =
      sound_line (Do (Send d name k) ∷ t.moves) t.said
      (part_line c (after_all c start t.moves) t.moves d name k)
      (sound_move t.moves t.said (Do (Send d name k)) s (record { can = can; first = tt }))
      (made_holds c (after_all c start t.moves) t.moves d name k)
  sound_act t (Says l) s can =
      sound_line t.moves t.said l s (said_holds (after_all c start t.moves) t.moves l can)
  sound_act t (Comes d b) s can =
      sound_move t.moves t.said (Do (Accept d b)) s (record { can = inr can; first = tt })
  sound_act t (Hears l) s can =
      let p : Pair = after_all c start t.moves in
      sound_answer t.moves t.said (answer p.ends t.moves l) s
      (answers c p t.moves l s.turns (holds_of p t.moves t.said l s.said can))

  -- so it is where nothing was done, with ends of which no name is freed
  pub sound_none : ((d : Direction) (name : Name) → start.freed d name ≡ false) → IsSound [] []
  sound_none none = record {
    can = tt;
    turns = record {
      next = λ d name is. absurd (let both : true ≡ false = sym is ∙ none d name in cc);
      same = λ d name is. refl;
    };
    said = tt;
  }

  -- and whatever was done with them
  sound_acts : (xs : List Act)
      → ((d : Direction) (name : Name) → start.freed d name ≡ false)
      → CanActAll c start xs
      → IsSound (with_acts c start xs).moves (with_acts c start xs).said
  sound_acts [] none can = sound_none none
  sound_acts (x ∷ xs) none can =
      sound_act (with_acts c start xs) x (sound_acts xs none can.0) can.1

-- what was done is a run of two ends apart
pub lines_free_in_order : LinesFreeInOrder
lines_free_in_order c first g k xs good_g good_k can =
    let start : Pair = no_pair_later c first g k in
    let s : IsSound c start (with_acts c start xs).moves (with_acts c start xs).said =
    sound_acts c start xs (λ d name. refl) can in
    let ms : List Move = (with_acts c start xs).moves in
    record {
      can = s.can;
      promised = ends_with_clocks_keep_the_promise c first g k ms good_g good_k s.can;
      whole = ends_with_clocks_withhold_nothing c first g k ms good_g good_k s.can;
    }
