-- What was said holds: each move leaves it so.
use Rattle.std.proofs.Common.{◌≡◌, ◌∙◌, sym, subst, refl, ℕ, zero, suc, ◌+◌, ◌<◌, ◌≤◌, Bool, true, false, ◌⊎◌, inl, inr, List, [], ◌∷◌, arith}
use Rattle.std.specs.Prelude.{Contains, length, slice_index_or}
use Rattle.lpt_packet.specs.declared.direction.Direction.{Direction}
use Rattle.lpt_packet.specs.declared.direction.Direction.TheVariants.{Up, Down}
use Rattle.lpt_packet.specs.Names.{Name}
use Rattle.lpt_packet.proofs.BoolLemmas.{and_false}
use Rattle.lpt_events.specs.Events.{IsEvent}
use Rattle.lpt_events.specs.Lanes.{same_direction}
use Rattle.lpt_events.specs.declared.config.Config.{Config}
use Rattle.lpt_events.specs.declared.event.Event.TheVariants as event
use Rattle.lpt_journal.proofs.CountLemmas.{same_name-comm}
use Rattle.lpt_apart.specs.Ends.{is_part, is_same, Pair, Move, Do, Free, freed_by, retired_by, pair_after, Step, Retire, after}
use Rattle.lpt_apart.specs.TwoEnds.{CanMove, CanHappen}
use Rattle.lpt_apart.proofs.Closing.{IsNoRetirement, IsShut, closed_stays, kept_removed}
use Rattle.lpt_apart.specs.Lines.{Line, Part, Packet, Finished, Freed, sends, receives}
use Rattle.lpt_apart.proofs.Turns.{InTurn, IsFirst, of_same, receives_freed, receives_other, sends_freed, sends_other, sends_step}
use Rattle.lpt_apart.proofs.Ways.{There, loose, other_part, part_of, there_step, there_without}

-- A part of the receiver's turn is on the way, and none is of a later turn than its sender's. A
-- packet that is no part is on the way. A name with which its sender is finished is closed there,
-- or was freed there since. One that its receiver has freed is in a later turn there.
abbrev pub Holds : Pair → List Move → Line → Type 0
Holds p xs (Part d name turn b) =
    (turn ≤ sends xs d name)
    × (receives xs d name ≤ turn → There p.ends.on_the_way (part_of d name b))
Holds p xs (Packet d b) = There p.ends.on_the_way (loose d b)
Holds p xs (Finished d name turn) =
    IsEvent (event.Retire d name)
    × ((turn < sends xs d name) ⊎ ((turn ≡ sends xs d name) × IsShut p.ends d name))
Holds p xs (Freed d name turn) = IsEvent (event.Retire d name) × (turn < receives xs d name)

-- ---- steps

holds_step : (c : Config) (p : Pair) (x : Step) (xs : List Move) (l : Line)
    → CanHappen c p.ends x
    → IsNoRetirement x
    → Holds p xs l
    → Holds (record p { ends = after c p.ends x }) (Do x ∷ xs) l
holds_step c p x xs (Part d name turn b) can stays h =
    let s : sends (Do x ∷ xs) d name ≡ sends xs d name = sends_step x xs d name stays in
    let low = h.0 in
    (omega (arith, low, s), λ at. there_step c p.ends x (part_of d name b) stays (h.1 at))
holds_step c p x xs (Packet d b) can stays h = there_step c p.ends x (loose d b) stays h
holds_step c p x xs (Finished d name turn) can stays h = (h.0, go h.1) where
  go : (turn < sends xs d name) ⊎ ((turn ≡ sends xs d name) × IsShut p.ends d name)
      → (turn < sends (Do x ∷ xs) d name)
      ⊎ ((turn ≡ sends (Do x ∷ xs) d name) × IsShut (after c p.ends x) d name)
  go (inl low) =
      let s : sends (Do x ∷ xs) d name ≡ sends xs d name = sends_step x xs d name stays in
      inl (omega (arith, low, s))
  go (inr it) =
      inr (
        it.0 ∙ sym (sends_step x xs d name stays),
        closed_stays c p.ends x d name can stays it.1,
      )
holds_step c p x xs (Freed d name turn) can stays h = h

-- ---- a sender frees a name

shut_retired : (p : Pair) (e : Direction) (i : Name) (d : Direction) (name : Name)
    → is_same e i d name ≡ false
    → IsShut p.ends d name
    → IsShut (retired_by p e i).ends d name
shut_retired p Up i Up name other had =
    kept_removed p.ends.on_ground.sending.ledger name i (same_name-comm name i ∙ other) had
shut_retired p Up i Down name other had = had
shut_retired p Down i Up name other had = had
shut_retired p Down i Down name other had =
    kept_removed p.ends.on_craft.sending.ledger name i (same_name-comm name i ∙ other) had

-- what is no part isn't one of a name
loose_other : (e : Direction) (i : Name) (d : Direction) (b : List ℕ)
    → is_part e i (loose d b) ≡ false
loose_other e i d b = and_false (same_direction d e)

retired_part : (c : Config) (p : Pair) (e : Direction) (i : Name) (xs : List Move)
    (d : Direction) (name : Name) (turn : ℕ) (b : List ℕ) (t : Bool)
    → is_same e i d name ≡ t
    → p.freed e i ≡ true
    → InTurn p xs
    → Holds p xs (Part d name turn b)
    → Holds (retired_by p e i) (Do (Retire e i) ∷ xs) (Part d name turn b)
retired_part c p e i xs d name turn b true is freed turns h =
    let s : sends (Do (Retire e i) ∷ xs) d name ≡ sends xs d name + 1 =
    sends_freed e i xs d name is in
    let r : receives xs d name ≡ sends xs d name + 1 =
    of_same e i d name (λ (d : Direction) (n : Name). receives xs d n ≡ sends xs d n + 1) is
    (turns.next e i freed) in
    let low = h.0 in
    (omega (arith, low, s), λ at. absurd (omega (arith, low, r, at)))
retired_part c p e i xs d name turn b false is freed turns h =
    let s : sends (Do (Retire e i) ∷ xs) d name ≡ sends xs d name =
    sends_other e i xs d name is in
    let low = h.0 in (
      omega (arith, low, s),
      λ at.
          there_without e i p.ends.on_the_way (part_of d name b) (other_part e i d name b is)
          (h.1 at),
    )

retired_finished : (c : Config) (p : Pair) (e : Direction) (i : Name) (xs : List Move)
    (d : Direction) (name : Name) (turn : ℕ) (t : Bool)
    → is_same e i d name ≡ t
    → (turn < sends xs d name) ⊎ ((turn ≡ sends xs d name) × IsShut p.ends d name)
    → (turn < sends (Do (Retire e i) ∷ xs) d name)
    ⊎ ((turn ≡ sends (Do (Retire e i) ∷ xs) d name) × IsShut (retired_by p e i).ends d name)
retired_finished c p e i xs d name turn true is (inl low) =
    let s : sends (Do (Retire e i) ∷ xs) d name ≡ sends xs d name + 1 =
    sends_freed e i xs d name is in
    inl (omega (arith, low, s))
retired_finished c p e i xs d name turn true is (inr it) =
    let s : sends (Do (Retire e i) ∷ xs) d name ≡ sends xs d name + 1 =
    sends_freed e i xs d name is in
    let now = it.0 in
    inl (omega (arith, now, s))
retired_finished c p e i xs d name turn false is (inl low) =
    let s : sends (Do (Retire e i) ∷ xs) d name ≡ sends xs d name =
    sends_other e i xs d name is in
    inl (omega (arith, low, s))
retired_finished c p e i xs d name turn false is (inr it) =
    inr (it.0 ∙ sym (sends_other e i xs d name is), shut_retired p e i d name is it.1)

holds_retired : (c : Config) (p : Pair) (e : Direction) (i : Name) (xs : List Move) (l : Line)
    → p.freed e i ≡ true
    → InTurn p xs
    → Holds p xs l
    → Holds (retired_by p e i) (Do (Retire e i) ∷ xs) l
holds_retired c p e i xs (Part d name turn b) freed turns h =
    retired_part c p e i xs d name turn b (is_same e i d name) refl freed turns h
holds_retired c p e i xs (Packet d b) freed turns h =
    there_without e i p.ends.on_the_way (loose d b) (loose_other e i d b) h
holds_retired c p e i xs (Finished d name turn) freed turns h =
    (h.0, retired_finished c p e i xs d name turn (is_same e i d name) refl h.1)
holds_retired c p e i xs (Freed d name turn) freed turns h = h

-- ---- a receiver frees a name

shut_freed : (p : Pair) (e : Direction) (i : Name) (d : Direction) (name : Name)
    → IsShut p.ends d name
    → IsShut (freed_by p e i).ends d name
shut_freed p Up i Up name had = had
shut_freed p Up i Down name had = had
shut_freed p Down i Up name had = had
shut_freed p Down i Down name had = had

freed_part : (c : Config) (p : Pair) (e : Direction) (i : Name) (xs : List Move)
    (d : Direction) (name : Name) (turn : ℕ) (b : List ℕ) (t : Bool)
    → is_same e i d name ≡ t
    → p.freed e i ≡ false
    → InTurn p xs
    → Holds p xs (Part d name turn b)
    → Holds (freed_by p e i) (Free e i ∷ xs) (Part d name turn b)
freed_part c p e i xs d name turn b true is first turns h =
    let r : receives (Free e i ∷ xs) d name ≡ receives xs d name + 1 =
    receives_freed e i xs d name is in
    let s : receives xs d name ≡ sends xs d name =
    of_same e i d name (λ (d : Direction) (n : Name). receives xs d n ≡ sends xs d n) is
    (turns.same e i first) in
    let low = h.0 in
    (low, λ at. absurd (omega (arith, low, r, s, at)))
freed_part c p e i xs d name turn b false is first turns h = (
  h.0,
  λ at.
      there_without e i p.ends.on_the_way (part_of d name b) (other_part e i d name b is)
      (h.1 (subst (λ (n : ℕ). n ≤ turn) (receives_other e i xs d name is) at)),
)

freed_before : (e : Direction) (i : Name) (xs : List Move) (d : Direction) (name : Name)
    (turn : ℕ) (t : Bool)
    → is_same e i d name ≡ t
    → turn < receives xs d name
    → turn < receives (Free e i ∷ xs) d name
freed_before e i xs d name turn true is low =
    let r : receives (Free e i ∷ xs) d name ≡ receives xs d name + 1 =
    receives_freed e i xs d name is in
    omega (arith, low, r)
freed_before e i xs d name turn false is low =
    let r : receives (Free e i ∷ xs) d name ≡ receives xs d name =
    receives_other e i xs d name is in
    omega (arith, low, r)

holds_freed : (c : Config) (p : Pair) (e : Direction) (i : Name) (xs : List Move) (l : Line)
    → p.freed e i ≡ false
    → InTurn p xs
    → Holds p xs l
    → Holds (freed_by p e i) (Free e i ∷ xs) l
holds_freed c p e i xs (Part d name turn b) first turns h =
    freed_part c p e i xs d name turn b (is_same e i d name) refl first turns h
holds_freed c p e i xs (Packet d b) first turns h =
    there_without e i p.ends.on_the_way (loose d b) (loose_other e i d b) h
holds_freed c p e i xs (Finished d name turn) first turns h = (h.0, go h.1) where
  go : (turn < sends xs d name) ⊎ ((turn ≡ sends xs d name) × IsShut p.ends d name)
      → (turn < sends xs d name)
      ⊎ ((turn ≡ sends xs d name) × IsShut (freed_by p e i).ends d name)
  go (inl low) = inl low
  go (inr it) = inr (it.0, shut_freed p e i d name it.1)
holds_freed c p e i xs (Freed d name turn) first turns h =
    (h.0, freed_before e i xs d name turn (is_same e i d name) refl h.1)

-- ---- moves

-- whatever move is made
pub holds_on : (c : Config) (p : Pair) (x : Move) (xs : List Move) (l : Line)
    → CanMove c p x
    → IsFirst p x
    → InTurn p xs
    → Holds p xs l
    → Holds (pair_after c p x) (x ∷ xs) l
holds_on c p (Do (Retire e i)) xs l can first turns h = holds_retired c p e i xs l can.1 turns h
holds_on c p (Do x) xs l can first turns h = holds_step c p x xs l can tt h
holds_on c p (Free e i) xs l can first turns h = holds_freed c p e i xs l first turns h

-- ---- all that was said

-- each of these holds
abbrev pub AllHold : Pair → List Move → List Line → Type 0
AllHold p xs [] = Unit {0}
AllHold p xs (l ∷ ls) = Holds p xs l × AllHold p xs ls

-- each move leaves it so
pub all_hold_on : (c : Config) (p : Pair) (x : Move) (xs : List Move) (ls : List Line)
    → CanMove c p x
    → IsFirst p x
    → InTurn p xs
    → AllHold p xs ls
    → AllHold (pair_after c p x) (x ∷ xs) ls
all_hold_on c p x xs [] can first turns h = tt
all_hold_on c p x xs (l ∷ ls) can first turns h =
    (holds_on c p x xs l can first turns h.0, all_hold_on c p x xs ls can first turns h.1)

holds_at : (p : Pair) (xs : List Move) (ls : List Line) (k : ℕ) (l : Line)
    → AllHold p xs ls
    → k < length ls
    → slice_index_or ls k l ≡ l
    → Holds p xs l
holds_at p xs [] k l h low is = absurd (omega (arith, low))
holds_at p xs (m ∷ ls) zero l h low is = subst (λ (it : Line). Holds p xs it) is h.0
holds_at p xs (m ∷ ls) (suc k) l h low is = holds_at p xs ls k l h.1 (omega (arith, low)) is

-- what is one of these holds
pub holds_of : (p : Pair) (xs : List Move) (ls : List Line) (l : Line)
    → AllHold p xs ls
    → Contains ls l
    → Holds p xs l
holds_of p xs ls l h it = holds_at p xs ls it.0 l h it.1 it.2
