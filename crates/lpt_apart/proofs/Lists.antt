-- What is left of the moves of machines that are reset, with and without what each did and didn't
-- keep: all of these lists are sound with what was said.
use Rattle.std.proofs.Common.{◌≡◌, ◌∙◌, sym, subst, refl, ℕ, List, ◌∷◌}
use Rattle.lpt_packet.specs.declared.direction.Direction.{Direction}
use Rattle.lpt_packet.specs.Names.{Name}
use Rattle.lpt_events.specs.Sides.{sender_side}
use Rattle.lpt_events.specs.declared.config.Config.{Config}
use Rattle.lpt_events.specs.declared.side.Side.{Side}
use Rattle.lpt_events.specs.declared.side.Side.TheVariants.{Ground, Craft}
use Rattle.lpt_acts.specs.Acts.{Within, limits_of}
use Rattle.lpt_apart.specs.Ends.{after_all, Do, Move, Pair, pair_after, Accept, Retire, Restart, Send, Step, Tick}
use Rattle.lpt_apart.specs.TwoEnds.{CanMove}
use Rattle.lpt_apart.specs.Deeds.{with_restart}
use Rattle.lpt_apart.specs.Resets.{Lived, Reset, Write, left_without, lived_after, move_made, made_forgotten, side_of}
use Rattle.lpt_apart.specs.Freeing.{IsOwn, part_line}
use Rattle.lpt_apart.specs.Lines.{Line}
use Rattle.lpt_apart.specs.ResetsFreeing.{IsAsKept}
use Rattle.lpt_apart.proofs.Holding.{Holds}
use Rattle.lpt_apart.proofs.Sides.{IsSteady, Same, SameCraft, SameGround, can_same, craft_beside, craft_beside_both, craft_both, craft_itself, ground_beside, ground_beside_both, ground_both, ground_itself, part_same}
use Rattle.lpt_apart.proofs.Talking.{IsNext, IsSound, made_holds, sound_line, sound_move}

module _ (c : Config) (start : Pair) where
  -- two ends after these moves
  abbrev at : List Move → Pair
  at xs = after_all c start xs

  -- each list of moves is sound with what was said, and what an end has is the same without what
  -- the other did and didn't keep
  pub record IsTold (l : Lived) (ls : List Line) : Type 0 where
    pub all : IsSound c start l.moves ls
    pub no_ground : IsSound c start l.but_ground ls
    pub no_craft : IsSound c start l.but_craft ls
    pub no_both : IsSound c start l.but_both ls
    pub ground : SameGround c start l.moves l.but_craft
    pub ground_back : SameGround c start l.but_ground l.but_both
    pub craft : SameCraft c start l.moves l.but_ground
    pub craft_back : SameCraft c start l.but_craft l.but_both

  -- the moves but for what the other side's end did and didn't keep
  abbrev pub other_without : Lived → Side → List Move
  other_without l Ground = l.but_craft
  other_without l Craft = l.but_ground

  pub same_other : (l : Lived) (ls : List Line) (side : Side)
      → IsTold l ls
      → Same c start side l.moves (other_without l side)
  same_other l ls Ground t = t.ground
  same_other l ls Craft t = t.craft

  pub same_back : (l : Lived) (ls : List Line) (side : Side)
      → IsTold l ls
      → Same c start side (left_without l side) l.but_both
  same_back l ls Ground t = t.ground_back
  same_back l ls Craft t = t.craft_back

  -- and it is sound
  pub sound_other : (l : Lived) (ls : List Line) (side : Side)
      → IsTold l ls
      → IsSound c start (other_without l side) ls
  sound_other l ls Ground t = t.no_craft
  sound_other l ls Craft t = t.no_ground

  -- ---- moves

  -- with a move that its reset deletes
  pub makes : (l : Lived) (ls : List Line) (x : Move) (side : Side)
      → side_of x ≡ side
      → IsTold l ls
      → IsNext c (at l.moves) x
      → IsNext c (at (other_without l side)) x
      → IsTold (move_made c l side x) ls
  makes l ls x Ground of t next beside = record {
    all = sound_move c start l.moves ls x t.all next;
    no_ground = t.no_ground;
    no_craft = sound_move c start l.but_craft ls x t.no_craft beside;
    no_both = t.no_both;
    ground = ground_both c start x l.moves l.but_craft of t.ground;
    ground_back = t.ground_back;
    craft = craft_beside c start x l.moves l.but_ground of t.craft;
    craft_back = craft_beside c start x l.but_craft l.but_both of t.craft_back;
  }
  makes l ls x Craft of t next beside = record {
    all = sound_move c start l.moves ls x t.all next;
    no_ground = sound_move c start l.but_ground ls x t.no_ground beside;
    no_craft = t.no_craft;
    no_both = t.no_both;
    ground = ground_beside c start x l.moves l.but_craft of t.ground;
    ground_back = ground_beside c start x l.but_ground l.but_both of t.ground_back;
    craft = craft_both c start x l.moves l.but_ground of t.craft;
    craft_back = t.craft_back;
  }

  -- what an end makes by itself is steady
  pub steady : (x : Step) → IsOwn x → IsSteady x
  steady (Send d name k) own = absurd own
  steady (Accept d b) own = absurd own
  steady (Retire d name) own = absurd own
  steady x own = tt

  -- ---- parts

  -- a move can be made after each list of moves
  pub record IsNextOfAll (l : Lived) (x : Move) : Type 0 where
    pub all : IsNext c (at l.moves) x
    pub no_ground : IsNext c (at l.but_ground) x
    pub no_craft : IsNext c (at l.but_craft) x
    pub no_both : IsNext c (at l.but_both) x

  -- with one that a restart forgets
  pub forgets : (l : Lived) (ls : List Line) (x : Move) (side : Side)
      → side_of x ≡ side
      → IsTold l ls
      → IsNextOfAll l x
      → IsTold (made_forgotten c l x) ls
  forgets l ls x Ground of t next = record {
    all = sound_move c start l.moves ls x t.all next.all;
    no_ground = sound_move c start l.but_ground ls x t.no_ground next.no_ground;
    no_craft = sound_move c start l.but_craft ls x t.no_craft next.no_craft;
    no_both = sound_move c start l.but_both ls x t.no_both next.no_both;
    ground = ground_both c start x l.moves l.but_craft of t.ground;
    ground_back = ground_both c start x l.but_ground l.but_both of t.ground_back;
    craft = craft_beside_both c start x l.moves l.but_ground of t.craft;
    craft_back = craft_beside_both c start x l.but_craft l.but_both of t.craft_back;
  }
  forgets l ls x Craft of t next = record {
    all = sound_move c start l.moves ls x t.all next.all;
    no_ground = sound_move c start l.but_ground ls x t.no_ground next.no_ground;
    no_craft = sound_move c start l.but_craft ls x t.no_craft next.no_craft;
    no_both = sound_move c start l.but_both ls x t.no_both next.no_both;
    ground = ground_beside_both c start x l.moves l.but_craft of t.ground;
    ground_back = ground_beside_both c start x l.but_ground l.but_both of t.ground_back;
    craft = craft_both c start x l.moves l.but_ground of t.craft;
    craft_back = craft_both c start x l.but_craft l.but_both of t.craft_back;
  }

  -- what was said holds after each list of moves
  pub record HoldsInAll (l : Lived) (m : Line) : Type 0 where
    pub all : Holds (at l.moves) l.moves m
    pub no_ground : Holds (at l.but_ground) l.but_ground m
    pub no_craft : Holds (at l.but_craft) l.but_craft m
    pub no_both : Holds (at l.but_both) l.but_both m

  -- with a line more
  pub says : (l : Lived) (ls : List Line) (m : Line)
      → IsTold l ls
      → HoldsInAll l m
      → IsTold l (m ∷ ls)
  says l ls m t h = record {
    all = sound_line c start l.moves ls m t.all h.all;
    no_ground = sound_line c start l.but_ground ls m t.no_ground h.no_ground;
    no_craft = sound_line c start l.but_craft ls m t.no_craft h.no_craft;
    no_both = sound_line c start l.but_both ls m t.no_both h.no_both;
    ground = t.ground;
    ground_back = t.ground_back;
    craft = t.craft;
    craft_back = t.craft_back;
  }

  -- the lists of a side's own, and of the other's
  pub in_all : (P : List Move → Type 0) (l : Lived) (side : Side)
      → P l.moves
      → P (left_without l side)
      → P (other_without l side)
      → P l.but_both
      → P l.moves × P l.but_ground × P l.but_craft × P l.but_both
  in_all P l Ground all own other both = (all, own, other, both)
  in_all P l Craft all own other both = (all, other, own, both)

  -- a step that could be made as its end was kept can be made after each list
  pub forgets_next : (l : Lived) (ls : List Line) (x : Step)
      → IsSteady x
      → IsTold l ls
      → CanMove c (at l.moves) (Do x)
      → CanMove c (at (left_without l (side_of (Do x)))) (Do x)
      → IsNextOfAll l (Do x)
  forgets_next l ls x is t can can_own =
      let side : Side = side_of (Do x) in
      let own : List Move = left_without l side in
      let it =
      in_all (λ (xs : List Move). IsNext c (at xs) (Do x)) l side
      (record { can = can; first = tt })
      (record { can = can_own; first = tt })
      (record {
        can = can_same c start x l.moves (other_without l side) is (same_other l ls side t) can;
        first = tt;
      })
      (record {
        can = can_same c start x own l.but_both is (same_back l ls side t) can_own;
        first = tt;
      }) in
      record { all = it.0; no_ground = it.1; no_craft = it.2; no_both = it.3 }

  -- its line holds after each list of moves, behind it
  pub part_holds : (l : Lived) (ls : List Line) (d : Direction) (name : Name) (k : ℕ)
      → IsTold l ls
      → IsAsKept c start l d name k
      → HoldsInAll (made_forgotten c l (Do (Send d name k)))
      (part_line c (at l.moves) l.moves d name k)
  part_holds l ls d name k t kept =
      let side : Side = sender_side d in
      let x : Move = Do (Send d name k) in
      let own : List Move = left_without l side in
      let line : List Move → Line = λ xs. part_line c (at xs) xs d name k in
      let as_own : line l.moves ≡ line own = sym kept.same in
      let holds : (xs : List Move)
      → line l.moves ≡ line xs
      → Holds (pair_after c (at xs) x) (x ∷ xs) (line l.moves) =
      λ xs same.
      subst (λ (m : Line). Holds (pair_after c (at xs) x) (x ∷ xs) m) (sym same)
      (made_holds c (at xs) xs d name k) in
      let it =
      in_all (λ (xs : List Move). Holds (pair_after c (at xs) x) (x ∷ xs) (line l.moves)) l side
      (holds l.moves refl)
      (holds own as_own)
      (holds (other_without l side)
      (part_same c start d name k l.moves (other_without l side) (same_other l ls side t)))
      (holds l.but_both
      (as_own ∙ part_same c start d name k own l.but_both (same_back l ls side t))) in
      record { all = it.0; no_ground = it.1; no_craft = it.2; no_both = it.3 }

  -- ---- what is kept, and resets

  -- once an end is kept
  pub keeps : (l : Lived) (ls : List Line) (side : Side)
      → IsTold l ls
      → IsTold (lived_after c l (Write side)) ls
  keeps l ls Ground t = record {
    all = t.all;
    no_ground = t.all;
    no_craft = t.no_craft;
    no_both = t.no_craft;
    ground = t.ground;
    ground_back = t.ground;
    craft = craft_itself c start l.moves;
    craft_back = craft_itself c start l.but_craft;
  }
  keeps l ls Craft t = record {
    all = t.all;
    no_ground = t.no_ground;
    no_craft = t.all;
    no_both = t.no_ground;
    ground = ground_itself c start l.moves;
    ground_back = ground_itself c start l.but_ground;
    craft = t.craft;
    craft_back = t.craft;
  }

  -- behind other moves the end of a side is restarted, and has other limits
  restarts : (xs : List Move) (ls : List Line) (d : Config) (side : Side)
      → IsSound c start xs ls
      → IsSound c start (with_restart d side xs) ls
  restarts xs ls d side sound =
      sound_move c start (Do (Restart side) ∷ xs) ls (Do (Tick side (Within (limits_of d))))
      (sound_move c start xs ls (Do (Restart side)) sound (record { can = tt; first = tt }))
      (record { can = tt; first = tt })

  -- the same end in both
  ground_restarts : (xs ys : List Move) (d : Config)
      → SameGround c start xs ys
      → SameGround c start (with_restart d Ground xs) (with_restart d Ground ys)
  ground_restarts xs ys d same =
      ground_both c start (Do (Tick Ground (Within (limits_of d)))) (Do (Restart Ground) ∷ xs)
      (Do (Restart Ground) ∷ ys) refl
      (ground_both c start (Do (Restart Ground)) xs ys refl same)

  craft_restarts : (xs ys : List Move) (d : Config)
      → SameCraft c start xs ys
      → SameCraft c start (with_restart d Craft xs) (with_restart d Craft ys)
  craft_restarts xs ys d same =
      craft_both c start (Do (Tick Craft (Within (limits_of d)))) (Do (Restart Craft) ∷ xs)
      (Do (Restart Craft) ∷ ys) refl
      (craft_both c start (Do (Restart Craft)) xs ys refl same)

  -- the other end in both
  ground_restarts_beside : (xs : List Move) (d : Config)
      → SameGround c start (with_restart d Craft xs) xs
  ground_restarts_beside xs d =
      ground_beside c start (Do (Tick Craft (Within (limits_of d)))) (Do (Restart Craft) ∷ xs) xs
      refl
      (ground_beside c start (Do (Restart Craft)) xs xs refl (ground_itself c start xs))

  craft_restarts_beside : (xs : List Move) (d : Config)
      → SameCraft c start (with_restart d Ground xs) xs
  craft_restarts_beside xs d =
      craft_beside c start (Do (Tick Ground (Within (limits_of d)))) (Do (Restart Ground) ∷ xs) xs
      refl
      (craft_beside c start (Do (Restart Ground)) xs xs refl (craft_itself c start xs))

  -- once a machine is reset
  pub resets : (l : Lived) (ls : List Line) (side : Side) (d : Config)
      → IsTold l ls
      → IsTold (lived_after c l (Reset side d)) ls
  resets l ls Ground d t = record {
    all = restarts l.but_ground ls d Ground t.no_ground;
    no_ground = t.no_ground;
    no_craft = restarts l.but_both ls d Ground t.no_both;
    no_both = t.no_both;
    ground = ground_restarts l.but_ground l.but_both d t.ground_back;
    ground_back = t.ground_back;
    craft = craft_restarts_beside l.but_ground d;
    craft_back = craft_restarts_beside l.but_both d;
  }
  resets l ls Craft d t = record {
    all = restarts l.but_craft ls d Craft t.no_craft;
    no_ground = restarts l.but_both ls d Craft t.no_both;
    no_craft = t.no_craft;
    no_both = t.no_both;
    ground = ground_restarts_beside l.but_craft d;
    ground_back = ground_restarts_beside l.but_both d;
    craft = craft_restarts l.but_craft l.but_both d t.craft_back;
    craft_back = t.craft_back;
  }
