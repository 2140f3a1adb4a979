-- Two ends behind handles, when the spacecraft's program has the memories, and either machine is
-- reset at any time.
--
-- A reset deletes what its program did since it last kept its end, but for what was written over
-- memories: those stay as they are.
use Rattle.std.specs.Prelude.{◌≡◌, ℕ, List, [], ◌∷◌, ◌++◌, ⊤}
use Rattle.lpt_apart.specs.TwoEnds.{later, Own, own_config, came_since, WithholdsNothing}
use Rattle.lpt_c_end.specs.Changes.{IsNew}
use Rattle.lpt_c_end.specs.Sizes.{sizes_said, IsNewSized}
use Rattle.lpt_c_end.specs.declared.end.End.{End}
use Rattle.lpt_c_end.specs.declared.memories.LptMemory.{LptMemory}
use Rattle.lpt_c_end.specs.declared.sizing.LptSize.{LptSize}
use Rattle.lpt_c_pair.specs.Pairs.{Resume, ResumeSized}
use Rattle.lpt_c_pair.specs.Programs.{Act, Calls, Gives, KeepsItsMemories, Program, Puts, Settles, TakesBack, ToldWrite, Writes, came_by, put_told, program_started, stood_by, CanAct, CanActAll}
use Rattle.lpt_c_pair.specs.Withheld.{moves_of, turns_of}
use Rattle.lpt_events.specs.Configs.{IsConfig}
use Rattle.lpt_events.specs.declared.config.Config.{Config}
use Rattle.lpt_events.specs.declared.side.Side.{Side}
use Rattle.lpt_events.specs.declared.side.Side.TheVariants.{Ground, Craft}
use Rattle.lpt_memory.specs.Memories.{Contents, sizes_of}

-- ---- machines

-- the ends that the programs have, and what the spacecraft's program has besides
pub record Machines : Type 0 where
  pub on_ground : End
  pub on_craft : End
  pub memories : Contents
  pub ahead : List ToldWrite
  pub owed : List ToldWrite
  pub stood : Contents

-- those of a run
abbrev pub machines_of : Program → Machines
machines_of p = record {
  on_ground = p.ends.on_ground;
  on_craft = p.ends.on_craft;
  memories = p.memories;
  ahead = p.ahead;
  owed = p.owed;
  stood = p.stood;
}

-- the end of a side became this
abbrev pub with_end : Machines → Side → End → Machines
with_end m Ground e = record m { on_ground = e }
with_end m Craft e = record m { on_craft = e }

-- what an act makes of them
abbrev pub machines_after : Machines → Act → Machines
machines_after m (Calls t) = with_end m t.side t.new
machines_after m (Writes t) =
    record m {
      memories = put_told (t ∷ []) m.memories;
      ahead = m.ahead ++ t ∷ [];
      stood = stood_by m.ahead m.memories m.stood;
    }
machines_after m (Gives octets owed new) = record m { on_craft = new; ahead = []; owed = owed }
machines_after m (Puts ms) = record m { memories = ms }
machines_after m Settles = record m { memories = put_told m.owed m.memories; owed = [] }
machines_after m TakesBack =
    record m { memories = stood_by m.ahead m.memories m.stood; ahead = [] }

-- whose program does an act
abbrev pub actor : Act → Side
actor (Calls t) = t.side
actor (Writes t) = Craft
actor (Gives octets owed new) = Craft
actor (Puts ms) = Craft
actor Settles = Craft
actor TakesBack = Craft

-- ---- what is kept, and what is deleted

-- The machines; the acts that are left of all; and those but for what ground's program did since it
-- last kept its end, but for what the spacecraft's did, and but for what either did.
pub record Lived : Type 0 where
  pub machines : Machines
  pub acts : List Act
  pub but_ground : List Act
  pub but_craft : List Act
  pub but_both : List Act

-- A program does something, which a reset deletes if its end wasn't kept since; or what no reset
-- deletes; the program of a side keeps its end's state, the spacecraft's with what it owes; or a
-- machine is reset, and its end is restored from a state. These are the spacecraft's memories then:
-- as they were, or with what its program put back or wrote again at its start.
pub data ActDeed : Type 0 where
  Does : Act → ActDeed
  Stays : Act → ActDeed
  Keeps : Side → ActDeed
  ResetsGround : Config → (state : List ℕ) → (new : End) → ActDeed
  ResetsCraft : Config
      → (state : List ℕ)
      → List LptSize
      → (memories : Contents)
      → (new : End)
      → ActDeed

-- the call that makes ground's end again
abbrev pub again_ground : Config → List ℕ → End → Act
again_ground config state new =
    Calls (record { side = Ground; call = Resume config state [] []; new = new })

-- the call that makes the spacecraft's end again
abbrev pub again_craft : Config → List ℕ → List LptSize → End → Act
again_craft config state sizes new =
    Calls (record { side = Craft; call = ResumeSized config state sizes; new = new })

-- a program of this side did something
abbrev pub did : Lived → Side → Act → Lived
did l Ground x = record l {
  machines = machines_after l.machines x;
  acts = x ∷ l.acts;
  but_craft = x ∷ l.but_craft;
}
did l Craft x = record l {
  machines = machines_after l.machines x;
  acts = x ∷ l.acts;
  but_ground = x ∷ l.but_ground;
}

-- a program did what no reset deletes: such as leaves the state that it is to keep as it is
abbrev pub act_stayed : Lived → Act → Lived
act_stayed l x = record {
  machines = machines_after l.machines x;
  acts = x ∷ l.acts;
  but_ground = x ∷ l.but_ground;
  but_craft = x ∷ l.but_craft;
  but_both = x ∷ l.but_both;
}

-- what a deed makes of them, if two ends began so
abbrev pub lived_after : Config → (start : Program) → Lived → ActDeed → Lived
lived_after c start l (Does x) = did l (actor x) x
lived_after c start l (Stays x) = act_stayed l x
lived_after c start l (Keeps Ground) = record l { but_ground = l.acts; but_both = l.but_craft }
lived_after c start l (Keeps Craft) = record l { but_craft = l.acts; but_both = l.but_ground }
lived_after c start l (ResetsGround config state new) = record l {
  machines = record l.machines { on_ground = new };
  acts = again_ground config state new ∷ l.but_ground;
  but_craft = again_ground config state new ∷ l.but_both;
}
lived_after c start l (ResetsCraft config state sizes ms new) = record l {
  machines = record {
    on_ground = l.machines.on_ground;
    on_craft = new;
    memories = ms;
    ahead = [];
    owed = (came_by c start l.but_craft).owed;
    stood = (came_by c start l.but_craft).stood;
  };
  acts = again_craft config state sizes new ∷ Puts ms ∷ l.but_craft;
  but_ground = again_craft config state sizes new ∷ Puts ms ∷ l.but_both;
}

-- An act can be done as before, after what is left of all. An end can be kept at any time. A
-- machine can be reset if what is left can be done without what is deleted; its end is made
-- again of what was kept of it; and the memories are such that what was owed when it was kept
-- makes the same of them as of those that were there.
abbrev pub CanLive : Config → (start : Program) → Lived → ActDeed → Type 0
CanLive c start l (Does x) = CanAct c (came_by c start l.acts) x
CanLive c start l (Stays x) = CanAct c (came_by c start l.acts) x
CanLive c start l (Keeps side) = ⊤
CanLive c start l (ResetsGround config state new) =
    CanActAll c start (again_ground config state new ∷ l.but_ground)
CanLive c start l (ResetsCraft config state sizes ms new) =
    CanActAll c start (again_craft config state sizes new ∷ Puts ms ∷ l.but_craft)

-- after these deeds, the newest of which stands first
abbrev pub lived_all : Config → (start : Program) → Lived → List ActDeed → Lived
lived_all c start l [] = l
lived_all c start l (x ∷ xs) = lived_after c start (lived_all c start l xs) x

-- each of them can be done after those before it
abbrev pub CanLiveAll : Config → (start : Program) → Lived → List ActDeed → Type 0
CanLiveAll c start l [] = ⊤
CanLiveAll c start l (x ∷ xs) =
    CanLiveAll c start l xs × CanLive c start (lived_all c start l xs) x

-- ---- the law

-- machines whose programs have just begun, and kept their ends
abbrev pub just_begun : Program → Lived
just_begun start = record {
  machines = machines_of start;
  acts = [];
  but_ground = [];
  but_craft = [];
  but_both = [];
}

-- What is left of all that was done can be done, and comes to the ends, the memories and what is
-- owed that the machines have. So they keep the promise, and the memories are as it says. What came
-- whole with what is left was released.
pub record IsLeft (c : Config) (first : Contents) (start : Program) (l : Lived) : Type 0 where
  pub can : CanActAll c start l.acts
  pub machines : l.machines ≡ machines_of (came_by c start l.acts)
  pub kept : KeepsItsMemories c first (came_by c start l.acts)
  pub whole : WithholdsNothing c (came_by c start l.acts).ends.pair.ends.log
      (came_since c start.ends.pair (moves_of (turns_of l.acts)))

-- whatever was done with two new ends and with memories that begin so, whenever machines were reset
abbrev pub ResetProgramsKeepTheirMemories : Type 0
ResetProgramsKeepTheirMemories =
    (c : Config) (a : ℕ) (b : Own)
    (none : List LptMemory) (nothing : List ℕ) (sizes : List LptSize) (first : Contents)
    (g k : End) (xs : List ActDeed)
    → IsConfig (later a c)
    → IsConfig (own_config b c)
    → sizes_said sizes ≡ sizes_of first
    → IsNew Ground (later a c) none nothing g
    → IsNewSized (own_config b c) sizes k
    → CanLiveAll c (program_started c first a b g k) (just_begun (program_started c first a b g k))
    xs
    → IsLeft c first (program_started c first a b g k)
    (lived_all c (program_started c first a b g k) (just_begun (program_started c first a b g k))
    xs)

-- ---- whenever it comes

-- the acts but for what the other side's program did since it last kept its end
abbrev pub but_other : Lived → Side → List Act
but_other l Ground = l.but_craft
but_other l Craft = l.but_ground

-- An act can be done after what is left, and also after that but for what the other end's program
-- did and didn't keep. Then a machine can be reset at any time: its end is restored from what was
-- kept of it, and what was owed then makes the same of the memories.
abbrev pub IsCareful : Config → (start : Program) → Lived → ActDeed → Type 0
IsCareful c start l (Does x) =
    CanAct c (came_by c start l.acts) x × CanAct c (came_by c start (but_other l (actor x))) x
IsCareful c start l (Stays x) =
    CanAct c (came_by c start l.acts) x
    × CanAct c (came_by c start l.but_ground) x
    × CanAct c (came_by c start l.but_craft) x
    × CanAct c (came_by c start l.but_both) x
IsCareful c start l (Keeps side) = ⊤
IsCareful c start l (ResetsGround config state new) =
    CanAct c (came_by c start l.but_ground) (again_ground config state new)
IsCareful c start l (ResetsCraft config state sizes ms new) =
    CanAct c (came_by c start l.but_craft) (Puts ms)
    × CanAct c (came_by c start (Puts ms ∷ l.but_craft)) (again_craft config state sizes new)

-- all deeds are so
abbrev pub AreCareful : Config → (start : Program) → Lived → List ActDeed → Type 0
AreCareful c start l [] = ⊤
AreCareful c start l (x ∷ xs) =
    AreCareful c start l xs × IsCareful c start (lived_all c start l xs) x

-- so nothing more is asked of the times at which machines are reset
abbrev pub CarefulMachinesMayBeReset : Type 0
CarefulMachinesMayBeReset =
    (c : Config) (start : Program) (xs : List ActDeed)
    → AreCareful c start (just_begun start) xs
    → CanLiveAll c start (just_begun start) xs
