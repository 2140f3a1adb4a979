-- The turns of a name at both ends are the same, but where its receiver has freed it and its
-- sender hasn't: then the receiver's is the next one.
use Rattle.std.proofs.Common.{◌≡◌, ◌∙◌, ap, sym, subst, refl, ℕ, ◌+◌, Bool, true, false, not, ◌&&◌, ◌||◌, if◌then◌else◌, List, ◌∷◌}
use Rattle.lpt_packet.specs.declared.direction.Direction.{Direction}
use Rattle.lpt_packet.specs.Names.{Name, same_name}
use Rattle.lpt_packet.proofs.BoolLemmas.{and_left, and_right, not_true, or_false_left, or_false_right}
use Rattle.lpt_packet.proofs.NameLemmas.{same_name-true}
use Rattle.lpt_events.specs.Lanes.{same_direction}
use Rattle.lpt_events.specs.declared.config.Config.{Config}
use Rattle.lpt_events.proofs.LaneLemmas.{same_direction-true}
use Rattle.lpt_apart.specs.Ends.{is_same, Pair, Move, Do, Free, pair_after, Step, Open, Send, Plain, Finish, Accept, Tick, Expire, Claim, Commit, Apply, Retire, Restart, after}
use Rattle.lpt_apart.specs.TwoEnds.{CanMove}
use Rattle.lpt_apart.proofs.Closing.{IsNoRetirement}
use Rattle.lpt_apart.specs.Lines.{sends, receives}

-- what is so of a transaction is so of the same one
pub of_same : (e : Direction) (i : Name) (d : Direction) (name : Name)
    (P : Direction → Name → Type 0)
    → is_same e i d name ≡ true
    → P e i
    → P d name
of_same e i d name P is had =
    let way : e ≡ d =
    same_direction-true e d (and_left (same_direction e d) (same_name i name) is) in
    let named : i ≡ name =
    same_name-true i name (and_right (same_direction e d) (same_name i name) is) in
    subst (λ (n : Name). P d n) named (subst (λ (w : Direction). P w i) way had)

-- the turns of the names of both ends fit
pub record InTurn (p : Pair) (xs : List Move) : Type 0 where
  pub next : (d : Direction) (name : Name)
      → p.freed d name ≡ true
      → receives xs d name ≡ sends xs d name + 1
  pub same : (d : Direction) (name : Name)
      → p.freed d name ≡ false
      → receives xs d name ≡ sends xs d name

-- a receiver frees a name that it hasn't freed since its sender did
abbrev pub IsFirst : Pair → Move → Type 0
IsFirst p (Do x) = Unit {0}
IsFirst p (Free d name) = p.freed d name ≡ false

-- ---- steps

-- a step that frees no name frees none at its sender
pub sends_step : (x : Step) (xs : List Move) (d : Direction) (name : Name)
    → IsNoRetirement x
    → sends (Do x ∷ xs) d name ≡ sends xs d name
sends_step (Open way i m) xs d name stays = refl
sends_step (Send way i k) xs d name stays = refl
sends_step (Plain source flags service subtype body) xs d name stays = refl
sends_step (Finish way i) xs d name stays = refl
sends_step (Accept way b) xs d name stays = refl
sends_step (Tick side turn) xs d name stays = refl
sends_step (Expire side which) xs d name stays = refl
sends_step (Claim w) xs d name stays = refl
sends_step (Commit w) xs d name stays = refl
sends_step (Apply how) xs d name stays = refl
sends_step (Retire way i) xs d name stays = absurd stays
sends_step (Restart side) xs d name stays = refl

-- ---- freed names

-- a sender that has freed a name is in its next turn
pub sends_freed : (e : Direction) (i : Name) (xs : List Move) (d : Direction) (name : Name)
    → is_same e i d name ≡ true
    → sends (Do (Retire e i) ∷ xs) d name ≡ sends xs d name + 1
sends_freed e i xs d name is =
    ap (λ (b : Bool). if b then sends xs d name + 1 else sends xs d name) is

-- another name stays in its turn there
pub sends_other : (e : Direction) (i : Name) (xs : List Move) (d : Direction) (name : Name)
    → is_same e i d name ≡ false
    → sends (Do (Retire e i) ∷ xs) d name ≡ sends xs d name
sends_other e i xs d name is =
    ap (λ (b : Bool). if b then sends xs d name + 1 else sends xs d name) is

-- so is a receiver
pub receives_freed : (e : Direction) (i : Name) (xs : List Move) (d : Direction) (name : Name)
    → is_same e i d name ≡ true
    → receives (Free e i ∷ xs) d name ≡ receives xs d name + 1
receives_freed e i xs d name is =
    ap (λ (b : Bool). if b then receives xs d name + 1 else receives xs d name) is

-- and another name stays in its turn
pub receives_other : (e : Direction) (i : Name) (xs : List Move) (d : Direction) (name : Name)
    → is_same e i d name ≡ false
    → receives (Free e i ∷ xs) d name ≡ receives xs d name
receives_other e i xs d name is =
    ap (λ (b : Bool). if b then receives xs d name + 1 else receives xs d name) is

-- ---- moves

step_turns : (c : Config) (p : Pair) (x : Step) (xs : List Move)
    → IsNoRetirement x
    → InTurn p xs
    → InTurn (record p { ends = after c p.ends x }) (Do x ∷ xs)
step_turns c p x xs stays t = record {
  next = λ d name is.
      let s : sends (Do x ∷ xs) d name ≡ sends xs d name = sends_step x xs d name stays in
      t.next d name is ∙ ap (λ (n : ℕ). n + 1) (sym s);
  same = λ d name is. t.same d name is ∙ sym (sends_step x xs d name stays);
}

retire_turns : (c : Config) (p : Pair) (e : Direction) (i : Name) (xs : List Move)
    → p.freed e i ≡ true
    → InTurn p xs
    → InTurn (pair_after c p (Do (Retire e i))) (Do (Retire e i) ∷ xs)
retire_turns c p e i xs freed t = record {
  next = λ d name is.
      let other : is_same e i d name ≡ false =
      not_true (is_same e i d name) (and_left (not (is_same e i d name)) (p.freed d name) is) in
      t.next d name (and_right (not (is_same e i d name)) (p.freed d name) is)
      ∙ ap (λ (n : ℕ). n + 1) (sym (sends_other e i xs d name other));
  same = λ d name is. same d name (is_same e i d name) refl is;
} where
  same : (d : Direction) (name : Name) (b : Bool)
      → is_same e i d name ≡ b
      → (not b && p.freed d name) ≡ false
      → receives xs d name ≡ sends (Do (Retire e i) ∷ xs) d name
  same d name true it is =
      of_same e i d name (λ (d : Direction) (n : Name). receives xs d n ≡ sends xs d n + 1) it
      (t.next e i freed)
      ∙ sym (sends_freed e i xs d name it)
  same d name false it is = t.same d name is ∙ sym (sends_other e i xs d name it)

free_turns : (c : Config) (p : Pair) (e : Direction) (i : Name) (xs : List Move)
    → p.freed e i ≡ false
    → InTurn p xs
    → InTurn (pair_after c p (Free e i)) (Free e i ∷ xs)
free_turns c p e i xs first t = record {
  next = λ d name is. next d name (is_same e i d name) refl is;
  same = λ d name is.
      receives_other e i xs d name (or_false_left (is_same e i d name) (p.freed d name) is)
      ∙ t.same d name (or_false_right (is_same e i d name) (p.freed d name) is);
} where
  next : (d : Direction) (name : Name) (b : Bool)
      → is_same e i d name ≡ b
      → (b || p.freed d name) ≡ true
      → receives (Free e i ∷ xs) d name ≡ sends xs d name + 1
  next d name true it is =
      receives_freed e i xs d name it
      ∙ ap (λ (n : ℕ). n + 1)
      (of_same e i d name (λ (d : Direction) (n : Name). receives xs d n ≡ sends xs d n) it
      (t.same e i first))
  next d name false it is = receives_other e i xs d name it ∙ t.next d name is

-- whatever move is made
pub turns_on : (c : Config) (p : Pair) (x : Move) (xs : List Move)
    → CanMove c p x
    → IsFirst p x
    → InTurn p xs
    → InTurn (pair_after c p x) (x ∷ xs)
turns_on c p (Do (Retire e i)) xs can first t = retire_turns c p e i xs can.1 t
turns_on c p (Do x) xs can first t = step_turns c p x xs tt t
turns_on c p (Free e i) xs can first t = free_turns c p e i xs first t
