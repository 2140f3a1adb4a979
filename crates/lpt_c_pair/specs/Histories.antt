-- Two ends behind handles, of which each has what is its own, and either machine is reset at any
-- time.
--
-- A reset deletes the calls that its program made since it last kept its end. So what is left is a
-- run of calls.
use Rattle.std.specs.Prelude.{◌≡◌, ◌⊎◌, ℕ, List, [], ◌∷◌, ⊤}
use Rattle.lpt_apart.specs.TwoEnds.{later, Own, own_config, came_since, WithholdsNothing}
use Rattle.lpt_c_end.specs.Changes.{IsNew}
use Rattle.lpt_c_end.specs.Contents.{memories_told}
use Rattle.lpt_c_end.specs.declared.end.End.{End}
use Rattle.lpt_c_end.specs.declared.memories.LptMemory.{LptMemory}
use Rattle.lpt_c_pair.specs.Pairs.{Finish, LetGo, Part, Plain, Resume, IsDone}
use Rattle.lpt_c_pair.specs.Runs.{CallTurn, Standing, standing_begun, stood, CanStand, CanTurnBy, KeepsThePromise}
use Rattle.lpt_c_pair.specs.Withheld.{moves_of}
use Rattle.lpt_events.specs.Configs.{IsConfig}
use Rattle.lpt_events.specs.declared.config.Config.{Config}
use Rattle.lpt_events.specs.declared.side.Side.{Side}
use Rattle.lpt_events.specs.declared.side.Side.TheVariants.{Ground, Craft}
use Rattle.lpt_memory.specs.Memories.{Contents}
use Rattle.lpt_packet.specs.Names.{Name}
use Rattle.lpt_state.specs.Spellings.{state_spelled}

-- The ends that the programs have; the calls that are left of all; and those but for what
-- ground's program made since it last kept its end, but for what the spacecraft's did, and but
-- for what either did. The newest stands first.
pub record History : Type 0 where
  pub on_ground : End
  pub on_craft : End
  pub calls : List CallTurn
  pub but_ground : List CallTurn
  pub but_craft : List CallTurn
  pub but_both : List CallTurn

-- A call was made, and a reset deletes it if its end wasn't kept since; or no reset does;
-- the program of a side keeps its end's state, and the spacecraft's with it the memories; or a
-- machine is reset, and its end is restored from a state and memories.
pub data CallDeed : Type 0 where
  Makes : CallTurn → CallDeed
  Stays : CallTurn → CallDeed
  Keeps : Side → CallDeed
  Resets : Side → Config → (state : List ℕ) → List LptMemory → (content : List ℕ) → (new : End)
      → CallDeed

-- the call that makes an end again
abbrev pub again : Side → Config → List ℕ → List LptMemory → List ℕ → End → CallTurn
again side config state ms content new =
    record { side = side; call = Resume config state ms content; new = new }

-- the program of a side made a call
abbrev pub call_made : History → Side → CallTurn → History
call_made h Ground t = record h {
  on_ground = t.new;
  calls = t ∷ h.calls;
  but_craft = t ∷ h.but_craft;
}
call_made h Craft t = record h {
  on_craft = t.new;
  calls = t ∷ h.calls;
  but_ground = t ∷ h.but_ground;
}

-- the program of a side made a call that no reset deletes: such as leaves the state that it is to
-- keep as it is
abbrev pub call_stayed : History → Side → CallTurn → History
call_stayed h Ground t = record {
  on_ground = t.new;
  on_craft = h.on_craft;
  calls = t ∷ h.calls;
  but_ground = t ∷ h.but_ground;
  but_craft = t ∷ h.but_craft;
  but_both = t ∷ h.but_both;
}
call_stayed h Craft t = record {
  on_ground = h.on_ground;
  on_craft = t.new;
  calls = t ∷ h.calls;
  but_ground = t ∷ h.but_ground;
  but_craft = t ∷ h.but_craft;
  but_both = t ∷ h.but_both;
}

-- a machine was reset, and this call made its end again
abbrev pub reset_by : History → Side → CallTurn → History
reset_by h Ground t = record h {
  on_ground = t.new;
  calls = t ∷ h.but_ground;
  but_craft = t ∷ h.but_both;
}
reset_by h Craft t = record h {
  on_craft = t.new;
  calls = t ∷ h.but_craft;
  but_ground = t ∷ h.but_both;
}

-- what a deed makes of them
abbrev pub gone_on : History → CallDeed → History
gone_on h (Makes t) = call_made h t.side t
gone_on h (Stays t) = call_stayed h t.side t
gone_on h (Keeps Ground) = record h { but_ground = h.calls; but_both = h.but_craft }
gone_on h (Keeps Craft) = record h { but_craft = h.calls; but_both = h.but_ground }
gone_on h (Resets side config state ms content new) =
    reset_by h side (again side config state ms content new)

-- what a reset of a side's machine leaves
abbrev pub left_without : History → Side → List CallTurn
left_without h Ground = h.but_ground
left_without h Craft = h.but_craft

-- A call can be made as before, after what is left. An end can be kept at any time. A machine can
-- be reset if what is left can be done without what is deleted, and its end is restored from
-- what was kept.
abbrev pub CanGoOn : Config → (start : Standing) → History → CallDeed → Type 0
CanGoOn c start h (Makes t) = CanStand c start (t ∷ h.calls)
CanGoOn c start h (Stays t) = CanStand c start (t ∷ h.calls)
CanGoOn c start h (Keeps side) = ⊤
CanGoOn c start h (Resets side config state ms content new) =
    CanStand c start (again side config state ms content new ∷ left_without h side)

-- after these deeds, the newest of which stands first
abbrev pub gone_all : History → List CallDeed → History
gone_all h [] = h
gone_all h (x ∷ xs) = gone_on (gone_all h xs) x

-- each of them can be done after those before it
abbrev pub CanGoOnAll : Config → (start : Standing) → History → List CallDeed → Type 0
CanGoOnAll c start h [] = ⊤
CanGoOnAll c start h (x ∷ xs) = CanGoOnAll c start h xs × CanGoOn c start (gone_all h xs) x

-- programs that have just begun, and kept their ends
abbrev pub just_begun : Standing → History
just_begun s = record {
  on_ground = s.on_ground;
  on_craft = s.on_craft;
  calls = [];
  but_ground = [];
  but_craft = [];
  but_both = [];
}

-- What is left can be done, comes to the ends that the programs have, and keeps the promise. What
-- came whole with what is left was released.
pub record IsLeft (c : Config) (first : Contents) (start : Standing) (h : History) : Type 0 where
  pub can : CanStand c start h.calls
  pub on_ground : h.on_ground ≡ (stood c start h.calls).on_ground
  pub on_craft : h.on_craft ≡ (stood c start h.calls).on_craft
  pub kept : KeepsThePromise c first (stood c start h.calls)
  pub whole : WithholdsNothing c (stood c start h.calls).pair.ends.log
      (came_since c start.pair (moves_of h.calls))

-- whatever calls were made of two ends that were new, whenever machines were reset
abbrev pub ResetEndsOfCKeepThePromise : Type 0
ResetEndsOfCKeepThePromise =
    (c : Config) (a : ℕ) (b : Own)
    (none : List LptMemory) (nothing : List ℕ) (ms : List LptMemory) (content : List ℕ)
    (g k : End) (xs : List CallDeed)
    → IsConfig (later a c)
    → IsConfig (own_config b c)
    → IsNew Ground (later a c) none nothing g
    → IsNew Craft (own_config b c) ms content k
    → CanGoOnAll c (standing_begun c (memories_told content ms) a b g k)
    (just_begun (standing_begun c (memories_told content ms) a b g k)) xs
    → IsLeft c (memories_told content ms) (standing_begun c (memories_told content ms) a b g k)
    (gone_all (just_begun (standing_begun c (memories_told content ms) a b g k)) xs)

-- ---- whenever it comes

-- the calls but for what the other side's program made since it last kept its end
abbrev pub but_other : History → Side → List CallTurn
but_other h Ground = h.but_craft
but_other h Craft = h.but_ground

-- A call can be made after what is left, and also after that but for what the other end's program
-- made and didn't keep: so that is handed over only once it was kept. Then a machine can be reset
-- at any time, and its end is restored from what was kept of it.
abbrev pub IsCareful : Config → (start : Standing) → History → CallDeed → Type 0
IsCareful c start h (Makes t) =
    CanTurnBy c (stood c start h.calls) t.side t.call t.new
    × CanTurnBy c (stood c start (but_other h t.side)) t.side t.call t.new
IsCareful c start h (Stays t) =
    CanTurnBy c (stood c start h.calls) t.side t.call t.new
    × CanTurnBy c (stood c start h.but_ground) t.side t.call t.new
    × CanTurnBy c (stood c start h.but_craft) t.side t.call t.new
    × CanTurnBy c (stood c start h.but_both) t.side t.call t.new
IsCareful c start h (Keeps side) = ⊤
IsCareful c start h (Resets side config state ms content new) =
    CanTurnBy c (stood c start (left_without h side)) side (Resume config state ms content) new

-- all deeds are so
abbrev pub AreCareful : Config → (start : Standing) → History → List CallDeed → Type 0
AreCareful c start h [] = ⊤
AreCareful c start h (x ∷ xs) = AreCareful c start h xs × IsCareful c start (gone_all h xs) x

-- so nothing more is asked of the times at which machines are reset
abbrev pub CarefulProgramsMayBeReset : Type 0
CarefulProgramsMayBeReset =
    (c : Config) (start : Standing) (xs : List CallDeed)
    → AreCareful c start (just_begun start) xs
    → CanGoOnAll c start (just_begun start) xs

-- ---- what stays

-- these leave an end's state as it is, so that a reset needn't delete them: it is restored from
-- what was kept before
abbrev pub SendingsLeaveTheState : Type 0
SendingsLeaveTheState =
    (e new : End) (name : Name) (k source flags service subtype : ℕ) (body : List ℕ)
    → IsDone (Part name k) e new ⊎ IsDone (Plain source flags service subtype body) e new
    ⊎ IsDone (Finish name) e new ⊎ IsDone LetGo e new
    → state_spelled new.node ≡ state_spelled e.node
