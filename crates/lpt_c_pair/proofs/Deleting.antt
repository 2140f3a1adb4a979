-- What a program did and didn't keep can be deleted from what was done.
use Rattle.std.proofs.Common.{◌≡◌, ◌∙◌, ap, sym, refl, ℕ, List, [], ◌∷◌, ◌++◌}
use Rattle.lpt_c_end.specs.declared.end.End.{End}
use Rattle.lpt_c_pair.specs.Pairs.{Call}
use Rattle.lpt_c_pair.specs.Programs.{Act, Calls, Gives, Program, Puts, Settles, TakesBack, ToldWrite, Writes, program_after, came_by, put_told, program_started, stood_by, CanActAll}
use Rattle.lpt_c_pair.specs.Resets.{ActDeed, Does, Keeps, Lived, Machines, ResetProgramsKeepTheirMemories, ResetsCraft, ResetsGround, Stays, CanLive, CanLiveAll, actor, did, just_begun, lived_after, lived_all, machines_of, act_stayed}
use Rattle.lpt_c_pair.proofs.Programs.{programs_keep_their_memories}
use Rattle.lpt_c_pair.proofs.Withholding.{programs_withhold_nothing}
use Rattle.lpt_events.specs.declared.config.Config.{Config}
use Rattle.lpt_events.specs.declared.side.Side.{Side}
use Rattle.lpt_events.specs.declared.side.Side.TheVariants.{Ground, Craft}
use Rattle.lpt_memory.specs.Memories.{Contents}

-- what the spacecraft's machine has
pub record Aboard : Type 0 where
  pub end : End
  pub memories : Contents
  pub ahead : List ToldWrite
  pub owed : List ToldWrite
  pub stood : Contents

abbrev pub aboard : Machines → Aboard
aboard m = record {
  end = m.on_craft;
  memories = m.memories;
  ahead = m.ahead;
  owed = m.owed;
  stood = m.stood;
}

-- that of ground and that of the spacecraft are all
both : (m n : Machines) → m.on_ground ≡ n.on_ground → aboard m ≡ aboard n → m ≡ n
both m n ground craft = λ i. record {
  on_ground = ground i;
  on_craft = (craft i).end;
  memories = (craft i).memories;
  ahead = (craft i).ahead;
  owed = (craft i).owed;
  stood = (craft i).stood;
}

module _ (c : Config) (start : Program) where
  -- the machines after these acts
  abbrev pub at : List Act → Machines
  at xs = machines_of (came_by c start xs)

  -- what each list of acts has of each machine
  pub record IsLived (l : Lived) : Type 0 where
    pub can : CanActAll c start l.acts
    pub ground : l.machines.on_ground ≡ (at l.acts).on_ground
    pub craft : aboard l.machines ≡ aboard (at l.acts)
    pub ground_still : (at l.but_craft).on_ground ≡ (at l.acts).on_ground
    pub ground_back : (at l.but_both).on_ground ≡ (at l.but_ground).on_ground
    pub craft_still : aboard (at l.but_ground) ≡ aboard (at l.acts)
    pub craft_back : aboard (at l.but_both) ≡ aboard (at l.but_craft)

  -- ---- acts

  -- a call of ground's program
  calls_ground : (l : Lived) (call : Call) (new : End)
      → IsLived l
      → CanLive c start l (Does (Calls (record { side = Ground; call = call; new = new })))
      → IsLived (did l Ground (Calls (record { side = Ground; call = call; new = new })))
  calls_ground l call new r can = record {
    can = (r.can, can);
    ground = refl;
    craft = r.craft;
    ground_still = refl;
    ground_back = r.ground_back;
    craft_still = r.craft_still;
    craft_back = r.craft_back;
  }

  -- an act of the spacecraft's program, which makes this of what its machine has
  record IsOfCraft (x : Act) : Type 0 where
    next : Aboard → Aboard
    of_machines : (l : Lived) → aboard (did l Craft x).machines ≡ next (aboard l.machines)
    of_run : (p : Program) → aboard (machines_of (program_after c p x))
        ≡ next (aboard (machines_of p))
    leaves_machines : (l : Lived) → (did l Craft x).machines.on_ground ≡ l.machines.on_ground
    leaves_run : (p : Program) → (program_after c p x).ends.on_ground ≡ p.ends.on_ground

  acts_craft : (l : Lived) (x : Act)
      → IsOfCraft x
      → IsLived l
      → CanLive c start l (Does x)
      → IsLived (did l Craft x)
  acts_craft l x of r can = record {
    can = (r.can, can);
    ground =
        of.leaves_machines l ∙ r.ground ∙ sym (of.leaves_run (came_by c start l.acts));
    craft =
        of.of_machines l ∙ ap of.next r.craft ∙ sym (of.of_run (came_by c start l.acts));
    ground_still = r.ground_still ∙ sym (of.leaves_run (came_by c start l.acts));
    ground_back = r.ground_back ∙ sym (of.leaves_run (came_by c start l.but_ground));
    craft_still =
        of.of_run (came_by c start l.but_ground)
        ∙ ap of.next r.craft_still
        ∙ sym (of.of_run (came_by c start l.acts));
    craft_back = r.craft_back;
  }

  craft_stays : (l : Lived) (x : Act)
      → IsOfCraft x
      → IsLived l
      → CanLive c start l (Stays x)
      → IsLived (act_stayed l x)
  craft_stays l x of r can = record {
    can = (r.can, can);
    ground =
        of.leaves_machines l ∙ r.ground ∙ sym (of.leaves_run (came_by c start l.acts));
    craft =
        of.of_machines l ∙ ap of.next r.craft ∙ sym (of.of_run (came_by c start l.acts));
    ground_still =
        of.leaves_run (came_by c start l.but_craft) ∙ r.ground_still
        ∙ sym (of.leaves_run (came_by c start l.acts));
    ground_back =
        of.leaves_run (came_by c start l.but_both) ∙ r.ground_back
        ∙ sym (of.leaves_run (came_by c start l.but_ground));
    craft_still =
        of.of_run (came_by c start l.but_ground)
        ∙ ap of.next r.craft_still
        ∙ sym (of.of_run (came_by c start l.acts));
    craft_back =
        of.of_run (came_by c start l.but_both)
        ∙ ap of.next r.craft_back
        ∙ sym (of.of_run (came_by c start l.but_craft));
  }

  call_of_craft : (call : Call) (new : End)
      → IsOfCraft (Calls (record { side = Craft; call = call; new = new }))
  call_of_craft call new = record {
    next = λ a. record a { end = new };
    of_machines = λ l. refl;
    of_run = λ p. refl;
    leaves_machines = λ l. refl;
    leaves_run = λ p. refl;
  }

  of_writes : (t : ToldWrite) → IsOfCraft (Writes t)
  of_writes t = record {
    next = λ a. record a {
      memories = put_told (t ∷ []) a.memories;
      ahead = a.ahead ++ t ∷ [];
      stood = stood_by a.ahead a.memories a.stood;
    };
    of_machines = λ x. refl;
    of_run = λ p. refl;
    leaves_machines = λ x. refl;
    leaves_run = λ p. refl;
  }

  of_gives : (octets : List ℕ) (owed : List ToldWrite) (new : End)
      → IsOfCraft (Gives octets owed new)
  of_gives octets owed new = record {
    next = λ a. record a { end = new; ahead = []; owed = owed };
    of_machines = λ x. refl;
    of_run = λ p. refl;
    leaves_machines = λ x. refl;
    leaves_run = λ p. refl;
  }

  of_puts : (ms : Contents) → IsOfCraft (Puts ms)
  of_puts ms = record {
    next = λ a. record a { memories = ms };
    of_machines = λ x. refl;
    of_run = λ p. refl;
    leaves_machines = λ x. refl;
    leaves_run = λ p. refl;
  }

  of_settles : IsOfCraft Settles
  of_settles = record {
    next = λ a. record a { memories = put_told a.owed a.memories; owed = [] };
    of_machines = λ x. refl;
    of_run = λ p. refl;
    leaves_machines = λ x. refl;
    leaves_run = λ p. refl;
  }

  of_takes_back : IsOfCraft TakesBack
  of_takes_back = record {
    next = λ a. record a { memories = stood_by a.ahead a.memories a.stood; ahead = [] };
    of_machines = λ x. refl;
    of_run = λ p. refl;
    leaves_machines = λ x. refl;
    leaves_run = λ p. refl;
  }

  does : (l : Lived) (x : Act)
      → IsLived l
      → CanLive c start l (Does x)
      → IsLived (did l (actor x) x)
  does l (Calls t) r can = by_side t.side can where
    by_side : (side : Side)
        → CanLive c start l (Does (Calls (record { side = side; call = t.call; new = t.new })))
        → IsLived (did l side (Calls (record { side = side; call = t.call; new = t.new })))
    by_side Ground can = calls_ground l t.call t.new r can
    by_side Craft can =
        acts_craft l (Calls (record { side = Craft; call = t.call; new = t.new }))
        (call_of_craft t.call t.new) r can
  does l (Writes t) r can = acts_craft l (Writes t) (of_writes t) r can
  does l (Gives octets owed new) r can =
      acts_craft l (Gives octets owed new) (of_gives octets owed new) r can
  does l (Puts ms) r can = acts_craft l (Puts ms) (of_puts ms) r can
  does l Settles r can = acts_craft l Settles of_settles r can
  does l TakesBack r can = acts_craft l TakesBack of_takes_back r can

  -- ---- acts that no reset deletes

  call_stays : (l : Lived) (side : Side) (call : Call) (new : End)
      → IsLived l
      → CanLive c start l (Stays (Calls (record { side = side; call = call; new = new })))
      → IsLived (act_stayed l (Calls (record { side = side; call = call; new = new })))
  call_stays l Ground call new r can = record {
    can = (r.can, can);
    ground = refl;
    craft = r.craft;
    ground_still = refl;
    ground_back = refl;
    craft_still = r.craft_still;
    craft_back = r.craft_back;
  }
  call_stays l Craft call new r can =
      craft_stays l (Calls (record { side = Craft; call = call; new = new }))
      (call_of_craft call new) r can

  -- ---- deeds

  pub lives : (l : Lived) (x : ActDeed)
      → IsLived l
      → CanLive c start l x
      → IsLived (lived_after c start l x)
  lives l (Does x) r can = does l x r can
  lives l (Stays (Calls t)) r can = call_stays l t.side t.call t.new r can
  lives l (Stays (Writes t)) r can = craft_stays l (Writes t) (of_writes t) r can
  lives l (Stays (Gives octets owed new)) r can =
      craft_stays l (Gives octets owed new) (of_gives octets owed new) r can
  lives l (Stays (Puts ms)) r can = craft_stays l (Puts ms) (of_puts ms) r can
  lives l (Stays Settles) r can = craft_stays l Settles of_settles r can
  lives l (Stays TakesBack) r can = craft_stays l TakesBack of_takes_back r can
  lives l (Keeps Ground) r can = record {
    can = r.can;
    ground = r.ground;
    craft = r.craft;
    ground_still = r.ground_still;
    ground_back = r.ground_still;
    craft_still = refl;
    craft_back = refl;
  }
  lives l (Keeps Craft) r can = record {
    can = r.can;
    ground = r.ground;
    craft = r.craft;
    ground_still = refl;
    ground_back = refl;
    craft_still = r.craft_still;
    craft_back = r.craft_still;
  }
  lives l (ResetsGround config state new) r can = record {
    can = can;
    ground = refl;
    craft = r.craft ∙ sym r.craft_still;
    ground_still = refl;
    ground_back = r.ground_back;
    craft_still = refl;
    craft_back = refl;
  }
  lives l (ResetsCraft config state sizes ms new) r can =
      let none : (came_by c start l.but_craft).ahead ≡ [] = can.1.1 in
      let a : Aboard → Aboard = λ x. record {
        end = new;
        memories = ms;
        ahead = x.ahead;
        owed = x.owed;
        stood = x.stood;
      } in
      record {
        can = can;
        ground = r.ground ∙ sym r.ground_still;
        craft = λ i. record {
          end = new;
          memories = ms;
          ahead = sym none i;
          owed = (came_by c start l.but_craft).owed;
          stood = (came_by c start l.but_craft).stood;
        };
        ground_still = refl;
        ground_back = refl;
        craft_still = ap a r.craft_back;
        craft_back = r.craft_back;
      }

  lives_all : (l : Lived) (xs : List ActDeed)
      → IsLived l
      → CanLiveAll c start l xs
      → IsLived (lived_all c start l xs)
  lives_all l [] r can = r
  lives_all l (x ∷ xs) r can =
      lives (lived_all c start l xs) x (lives_all l xs r can.0) can.1

-- machines whose programs have just begun
pub begun_so : (c : Config) (start : Program) → IsLived c start (just_begun start)
begun_so c start = record {
  can = tt;
  ground = refl;
  craft = refl;
  ground_still = refl;
  ground_back = refl;
  craft_still = refl;
  craft_back = refl;
}

pub reset_programs_keep_their_memories : ResetProgramsKeepTheirMemories
reset_programs_keep_their_memories c a b none nothing sizes first g k xs good_g good_k same new_g
    new_k can =
    let start : Program = program_started c first a b g k in
    let l : Lived = lived_all c start (just_begun start) xs in
    let r : IsLived c start l =
    lives_all c start (just_begun start) xs (begun_so c start) can in
    record {
      can = r.can;
      machines = both l.machines (machines_of (came_by c start l.acts)) r.ground r.craft;
      kept =
          programs_keep_their_memories c a b none nothing sizes first g k l.acts good_g good_k
          same new_g new_k r.can;
      whole =
          programs_withhold_nothing c a b none nothing sizes first g k l.acts good_g good_k same
          new_g new_k r.can;
    }
