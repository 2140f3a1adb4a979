-- What an end has is the same in two lists of moves that differ by moves of the other end: so it
-- answers and says the same.
use Rattle.std.proofs.Common.{◌≡◌, ◌∙◌, ap, sym, subst, refl, ℕ, ◌+◌, ◌<◌, ◌==◌, Bool, true, false, not, ◌&&◌, if◌then◌else◌, inr, List, ◌∷◌, length, Option, Some, None, is_some}
use Rattle.std.specs.FinMap as maps
use Rattle.lpt_acts.specs.Acts.{On, Back, Within}
use Rattle.lpt_packet.specs.declared.direction.Direction.{Direction}
use Rattle.lpt_packet.specs.declared.direction.Direction.TheVariants.{Up, Down}
use Rattle.lpt_packet.specs.Names.{Name}
use Rattle.lpt_events.specs.Sides.{receiver_side, sender_side}
use Rattle.lpt_events.specs.declared.config.Config.{Config}
use Rattle.lpt_events.specs.declared.side.Side.{Side}
use Rattle.lpt_events.specs.declared.side.Side.TheVariants.{Ground, Craft}
use Rattle.lpt_ledger.specs.States.{state_at}
use Rattle.lpt_model.specs.Tickets.{ticket_of}
use Rattle.lpt_node.specs.Jobs.{refusal_claim, refusal_apply}
use Rattle.lpt_node.specs.Nodes.{NodeData}
use Rattle.lpt_node.specs.Sending.{refusal_finish, refusal_open, refusal_send, part_sent}
use Rattle.lpt_node.specs.Times.{refusal_tick, refusal_end, can_set_back}
use Rattle.lpt_apart.specs.Ends.{after_all, Ends, PutOut, Do, Free, Move, Pair, Accept, Apply, Claim, Commit, Expire, Finish, Open, Plain, Restart, Retire, Send, Step, Tick}
use Rattle.lpt_apart.specs.TwoEnds.{CanMove}
use Rattle.lpt_apart.specs.Resets.{side_of}
use Rattle.lpt_apart.proofs.Local.{Aboard, aboard, is_of_craft, is_of_ground, next_aboard, next_ground}
use Rattle.lpt_apart.specs.Freeing.{part_line}
use Rattle.lpt_apart.specs.Lines.{answer, Finished, Freed, is_freed_receiving, is_freed_sending, is_unheard, Line, MaySay, Packet, Part, receives, sends}
use Rattle.lpt_apart.specs.ResetsFreeing.{speaker}
use Rattle.lpt_apart.proofs.Holding.{Holds}
use Rattle.lpt_apart.proofs.Loose.{craft_left, craft_ways, from_loose, ground_left, ground_ways, loose_in, to_loose}
use Rattle.lpt_apart.proofs.Ways.{There, loose}

-- ---- turns

-- a move of the spacecraft frees no name of ground's
craft_sends : (x : Move) (name : Name) → side_of x ≡ Craft → is_freed_sending x Up name ≡ false
craft_sends (Do (Retire Up i)) name of = absurd cc
craft_sends (Do (Retire Down i)) name of = refl
craft_sends (Do x) name of = refl
craft_sends (Free d i) name of = refl

craft_receives : (x : Move) (name : Name)
    → side_of x ≡ Craft
    → is_freed_receiving x Down name ≡ false
craft_receives (Do x) name of = refl
craft_receives (Free Up i) name of = refl
craft_receives (Free Down i) name of = absurd cc

-- nor one of ground a name of the spacecraft's
ground_sends : (x : Move) (name : Name) → side_of x ≡ Ground → is_freed_sending x Down name ≡ false
ground_sends (Do (Retire Up i)) name of = refl
ground_sends (Do (Retire Down i)) name of = absurd cc
ground_sends (Do x) name of = refl
ground_sends (Free d i) name of = refl

ground_receives : (x : Move) (name : Name)
    → side_of x ≡ Ground
    → is_freed_receiving x Up name ≡ false
ground_receives (Do x) name of = refl
ground_receives (Free Up i) name of = absurd cc
ground_receives (Free Down i) name of = refl

-- a turn stays where no name is freed
stays : (b : Bool) (n : ℕ) → b ≡ false → (if b then n + 1 else n) ≡ n
stays b n is = ap (λ (t : Bool). if t then n + 1 else n) is

-- ---- steps and answers

-- a step that an end makes by itself, or by which it sends a part
abbrev pub IsSteady : Step → Type 0
IsSteady (Accept d b) = ⊥
IsSteady (Retire d name) = ⊥
IsSteady _ = Unit {0}

-- the side whose end hears a line
abbrev pub hearer : Line → Side
hearer (Part d name turn b) = receiver_side d
hearer (Packet d b) = receiver_side d
hearer (Finished d name turn) = receiver_side d
hearer (Freed d name turn) = sender_side d

-- an answer is a move of the end that heard
abbrev pub IsOf : Side → Option Move → Type 0
IsOf side None = Unit {0}
IsOf side (Some x) = side_of x ≡ side

-- whatever was heard
pub answers_of : (e : Ends) (xs : List Move) (l : Line) → IsOf (hearer l) (answer e xs l)
answers_of e xs (Part d name turn b) = go (turn == receives xs d name) where
  go : (t : Bool) → IsOf (receiver_side d) (if t then Some (Do (Accept d b)) else None)
  go true = refl
  go false = tt
answers_of e xs (Packet d b) = refl
answers_of e xs (Finished d name turn) =
    go (turn == receives xs d name && is_unheard e d name) where
      go : (t : Bool) → IsOf (receiver_side d) (if t then Some (Free d name) else None)
      go true = refl
      go false = tt
answers_of e xs (Freed d name turn) = go (turn == sends xs d name) where
  go : (t : Bool) → IsOf (sender_side d) (if t then Some (Do (Retire d name)) else None)
  go true = refl
  go false = tt

-- ---- what an end has

module _ (c : Config) (start : Pair) where
  -- two ends after these moves
  abbrev at : List Move → Pair
  at xs = after_all c start xs

  -- ground has the same: its node, its turns, and what it put out that is no part
  pub record SameGround (xs ys : List Move) : Type 0 where
    pub node : (at xs).ends.on_ground ≡ (at ys).ends.on_ground
    pub sends_as : (name : Name) → sends xs Up name ≡ sends ys Up name
    pub receives_as : (name : Name) → receives xs Down name ≡ receives ys Down name
    pub ways : loose_in Up (at xs).ends.on_the_way ≡ loose_in Up (at ys).ends.on_the_way

  -- so does the spacecraft
  pub record SameCraft (xs ys : List Move) : Type 0 where
    pub has : aboard (at xs).ends ≡ aboard (at ys).ends
    pub sends_as : (name : Name) → sends xs Down name ≡ sends ys Down name
    pub receives_as : (name : Name) → receives xs Up name ≡ receives ys Up name
    pub ways : loose_in Down (at xs).ends.on_the_way ≡ loose_in Down (at ys).ends.on_the_way

  -- that is so of the same moves
  pub ground_itself : (xs : List Move) → SameGround xs xs
  ground_itself xs =
      record { node = refl; sends_as = λ name. refl; receives_as = λ name. refl; ways = refl }

  pub craft_itself : (xs : List Move) → SameCraft xs xs
  craft_itself xs =
      record { has = refl; sends_as = λ name. refl; receives_as = λ name. refl; ways = refl }

  -- and the other way about
  pub ground_sym : (xs ys : List Move) → SameGround xs ys → SameGround ys xs
  ground_sym xs ys s = record {
    node = sym s.node;
    sends_as = λ name. sym (s.sends_as name);
    receives_as = λ name. sym (s.receives_as name);
    ways = sym s.ways;
  }

  pub craft_sym : (xs ys : List Move) → SameCraft xs ys → SameCraft ys xs
  craft_sym xs ys s = record {
    has = sym s.has;
    sends_as = λ name. sym (s.sends_as name);
    receives_as = λ name. sym (s.receives_as name);
    ways = sym s.ways;
  }

  -- with a move of its own in both
  pub ground_both : (x : Move) (xs ys : List Move)
      → side_of x ≡ Ground
      → SameGround xs ys
      → SameGround (x ∷ xs) (x ∷ ys)
  ground_both x xs ys of s = record {
    node = (is_of_ground c (at xs) x of).next ∙ ap (next_ground c x) s.node
        ∙ sym (is_of_ground c (at ys) x of).next;
    sends_as = λ name.
        ap (λ (n : ℕ). if is_freed_sending x Up name then n + 1 else n) (s.sends_as name);
    receives_as = λ name.
        ap (λ (n : ℕ). if is_freed_receiving x Down name then n + 1 else n) (s.receives_as name);
    ways = ground_ways c x (at xs) (at ys) of s.node s.ways;
  }

  pub craft_both : (x : Move) (xs ys : List Move)
      → side_of x ≡ Craft
      → SameCraft xs ys
      → SameCraft (x ∷ xs) (x ∷ ys)
  craft_both x xs ys of s = record {
    has = (is_of_craft c (at xs) x of).next ∙ ap (next_aboard c x) s.has
        ∙ sym (is_of_craft c (at ys) x of).next;
    sends_as = λ name.
        ap (λ (n : ℕ). if is_freed_sending x Down name then n + 1 else n) (s.sends_as name);
    receives_as = λ name.
        ap (λ (n : ℕ). if is_freed_receiving x Up name then n + 1 else n) (s.receives_as name);
    ways = craft_ways c x (at xs) (at ys) of s.has s.ways;
  }

  -- with one of the other end's in the first
  pub ground_beside : (x : Move) (xs ys : List Move)
      → side_of x ≡ Craft
      → SameGround xs ys
      → SameGround (x ∷ xs) ys
  ground_beside x xs ys of s = record {
    node = (is_of_craft c (at xs) x of).leaves ∙ s.node;
    sends_as = λ name.
        stays (is_freed_sending x Up name) (sends xs Up name) (craft_sends x name of)
        ∙ s.sends_as name;
    receives_as = λ name.
        stays (is_freed_receiving x Down name) (receives xs Down name) (craft_receives x name of)
        ∙ s.receives_as name;
    ways = ground_left c x (at xs) of ∙ s.ways;
  }

  pub craft_beside : (x : Move) (xs ys : List Move)
      → side_of x ≡ Ground
      → SameCraft xs ys
      → SameCraft (x ∷ xs) ys
  craft_beside x xs ys of s = record {
    has = (is_of_ground c (at xs) x of).leaves ∙ s.has;
    sends_as = λ name.
        stays (is_freed_sending x Down name) (sends xs Down name) (ground_sends x name of)
        ∙ s.sends_as name;
    receives_as = λ name.
        stays (is_freed_receiving x Up name) (receives xs Up name) (ground_receives x name of)
        ∙ s.receives_as name;
    ways = craft_left c x (at xs) of ∙ s.ways;
  }

  -- with one of the other end's in both
  pub ground_beside_both : (x : Move) (xs ys : List Move)
      → side_of x ≡ Craft
      → SameGround xs ys
      → SameGround (x ∷ xs) (x ∷ ys)
  ground_beside_both x xs ys of s =
      ground_sym (x ∷ ys) (x ∷ xs)
      (ground_beside x ys (x ∷ xs) of (ground_sym (x ∷ xs) ys (ground_beside x xs ys of s)))

  pub craft_beside_both : (x : Move) (xs ys : List Move)
      → side_of x ≡ Ground
      → SameCraft xs ys
      → SameCraft (x ∷ xs) (x ∷ ys)
  craft_beside_both x xs ys of s =
      craft_sym (x ∷ ys) (x ∷ xs)
      (craft_beside x ys (x ∷ xs) of (craft_sym (x ∷ xs) ys (craft_beside x xs ys of s)))

  -- an end of this side has the same
  abbrev pub Same : Side → (xs ys : List Move) → Type 0
  Same Ground xs ys = SameGround xs ys
  Same Craft xs ys = SameCraft xs ys

  -- ---- what it says

  said_packet : (d : Direction) (b : List ℕ) (xs ys : List Move)
      → loose_in d (at xs).ends.on_the_way ≡ loose_in d (at ys).ends.on_the_way
      → There (loose_in d (at xs).ends.on_the_way) (loose d b)
      → There (at ys).ends.on_the_way (loose d b)
  said_packet d b xs ys ways at_it =
      from_loose d (loose d b) (at ys).ends.on_the_way
      (subst (λ (ps : List PutOut). There ps (loose d b)) ways at_it)

  -- what it may say after some moves holds after the others
  pub says_same : (l : Line) (xs ys : List Move)
      → Same (speaker l) xs ys
      → MaySay (at xs) xs l
      → Holds (at ys) ys l
  says_same (Part d name turn b) xs ys s may = absurd may
  says_same (Packet Up b) xs ys s may =
      said_packet Up b xs ys s.ways
      (to_loose Up (loose Up b) (at xs).ends.on_the_way refl (may.place, may.there))
  says_same (Packet Down b) xs ys s may =
      said_packet Down b xs ys s.ways
      (to_loose Down (loose Down b) (at xs).ends.on_the_way refl (may.place, may.there))
  says_same (Finished Up name turn) xs ys s may = (
    may.0,
    inr (
      may.1 ∙ s.sends_as name,
      ap (λ (n : NodeData). state_at n.sending.ledger name) (sym s.node) ∙ may.2,
    ),
  )
  says_same (Finished Down name turn) xs ys s may = (
    may.0,
    inr (
      may.1 ∙ s.sends_as name,
      ap (λ (a : Aboard). state_at a.node.sending.ledger name) (sym s.has) ∙ may.2,
    ),
  )
  says_same (Freed Up name turn) xs ys s may =
      (may.0, subst (λ (n : ℕ). turn < n) (s.receives_as name) may.1)
  says_same (Freed Down name turn) xs ys s may =
      (may.0, subst (λ (n : ℕ). turn < n) (s.receives_as name) may.1)

  -- the line of a part is the same
  pub part_same : (d : Direction) (name : Name) (k : ℕ) (xs ys : List Move)
      → Same (sender_side d) xs ys
      → part_line c (at xs) xs d name k ≡ part_line c (at ys) ys d name k
  part_same Up name k xs ys s = λ i.
      Part Up name (s.sends_as name i) (part_sent Ground c (s.node i) name k).1
  part_same Down name k xs ys s = λ i.
      Part Down name (s.sends_as name i) (part_sent Craft c ((s.has i).node) name k).1

  -- ---- what it does

  -- it can make such a step after some moves that it can make after the others
  pub can_same : (x : Step) (xs ys : List Move)
      → IsSteady x
      → Same (side_of (Do x)) xs ys
      → CanMove c (at xs) (Do x)
      → CanMove c (at ys) (Do x)
  can_same (Open Up name m) xs ys steady s can =
      (can.0, ap (λ (n : NodeData). refusal_open c n name (length m)) (sym s.node) ∙ can.1)
  can_same (Open Down name m) xs ys steady s can =
      (can.0, ap (λ (a : Aboard). refusal_open c a.node name (length m)) (sym s.has) ∙ can.1)
  can_same (Send Up name k) xs ys steady s can =
      (can.0, ap (λ (n : NodeData). refusal_send c n name k) (sym s.node) ∙ can.1)
  can_same (Send Down name k) xs ys steady s can =
      (can.0, ap (λ (a : Aboard). refusal_send c a.node name k) (sym s.has) ∙ can.1)
  can_same (Plain source flags service subtype body) xs ys steady s can = can
  can_same (Finish Up name) xs ys steady s can =
      (can.0, ap (λ (n : NodeData). refusal_finish n name) (sym s.node) ∙ can.1)
  can_same (Finish Down name) xs ys steady s can =
      (can.0, ap (λ (a : Aboard). refusal_finish a.node name) (sym s.has) ∙ can.1)
  can_same (Accept d b) xs ys steady s can = absurd steady
  can_same (Tick Ground On) xs ys steady s can =
      ap (λ (n : NodeData). refusal_tick n) (sym s.node) ∙ can
  can_same (Tick Craft On) xs ys steady s can =
      ap (λ (a : Aboard). refusal_tick a.node) (sym s.has) ∙ can
  can_same (Tick Ground (Back n)) xs ys steady s can =
      ap (λ (d : NodeData). can_set_back n d) (sym s.node) ∙ can
  can_same (Tick Craft (Back n)) xs ys steady s can =
      ap (λ (a : Aboard). can_set_back n a.node) (sym s.has) ∙ can
  can_same (Tick side (Within l)) xs ys steady s can = can
  can_same (Expire Ground which) xs ys steady s can =
      ap (λ (n : NodeData). refusal_end c n which) (sym s.node) ∙ can
  can_same (Expire Craft which) xs ys steady s can =
      ap (λ (a : Aboard). refusal_end c a.node which) (sym s.has) ∙ can
  can_same (Claim w) xs ys steady s can = (
    ap (λ (a : Aboard). ticket_of a.tickets w) (sym s.has) ∙ can.0,
    ap (λ (a : Aboard). refusal_claim a.node) (sym s.has) ∙ can.1,
  )
  can_same (Commit w) xs ys steady s can =
      ap (λ (a : Aboard). is_some (ticket_of a.tickets w)) (sym s.has) ∙ can
  can_same (Apply how) xs ys steady s can =
      ap (λ (a : Aboard). refusal_apply a.node) (sym s.has) ∙ can
  can_same (Retire d name) xs ys steady s can = absurd steady
  can_same (Restart side) xs ys steady s can = can

  -- ---- what it answers

  -- it answers the same
  pub answers_same : (l : Line) (xs ys : List Move)
      → Same (hearer l) xs ys
      → answer (at xs).ends xs l ≡ answer (at ys).ends ys l
  answers_same (Part Up name turn b) xs ys s = λ i.
      if turn == s.receives_as name i then Some (Do (Accept Up b)) else None
  answers_same (Part Down name turn b) xs ys s = λ i.
      if turn == s.receives_as name i then Some (Do (Accept Down b)) else None
  answers_same (Packet d b) xs ys s = refl
  answers_same (Finished Up name turn) xs ys s = λ i.
      if turn == s.receives_as name i
      && not (is_some (maps.get ((s.has i).node).receiving.entries name))
      then Some (Free Up name)
      else None
  answers_same (Finished Down name turn) xs ys s = λ i.
      if turn == s.receives_as name i && not (is_some (maps.get (s.node i).receiving.entries name))
      then Some (Free Down name)
      else None
  answers_same (Freed Up name turn) xs ys s = λ i.
      if turn == s.sends_as name i then Some (Do (Retire Up name)) else None
  answers_same (Freed Down name turn) xs ys s = λ i.
      if turn == s.sends_as name i then Some (Do (Retire Down name)) else None
