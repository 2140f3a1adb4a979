-- Runs of two ends behind handles, and what is promised of them.
use Rattle.std.specs.Prelude.{ℕ, List, [], ◌∷◌, ⊤}
use Rattle.lpt_apart.specs.Ends.{after_all, Pair}
use Rattle.lpt_apart.specs.TwoEnds.{later, no_pair_later, Own, own_config, IsPromised}
use Rattle.lpt_c_end.specs.Changes.{IsNew}
use Rattle.lpt_c_end.specs.Contents.{memories_told}
use Rattle.lpt_c_end.specs.declared.end.End.{End}
use Rattle.lpt_c_end.specs.declared.memories.LptMemory.{LptMemory}
use Rattle.lpt_c_pair.specs.Pairs.{AreEndsOf, Call, IsDone, moves, Promises}
use Rattle.lpt_events.specs.Configs.{IsConfig}
use Rattle.lpt_events.specs.declared.config.Config.{Config}
use Rattle.lpt_events.specs.declared.side.Side.{Side}
use Rattle.lpt_events.specs.declared.side.Side.TheVariants.{Ground, Craft}
use Rattle.lpt_memory.specs.Memories.{Contents}

-- a call of the end of a side, and what that end became
pub record CallTurn : Type 0 where
  pub side : Side
  pub call : Call
  pub new : End

-- two ends behind handles, and the ends apart that they are
pub record Standing : Type 0 where
  pub pair : Pair
  pub on_ground : End
  pub on_craft : End

-- two new ends; ground's clock begins so many ticks later, and the spacecraft has this of its own
abbrev pub standing_begun : Config → Contents → (ticks_ground : ℕ) → (own_craft : Own)
    → (on_ground on_craft : End)
    → Standing
standing_begun c first a b g k =
    record { pair = no_pair_later c first a b; on_ground = g; on_craft = k }

-- the ends after a call of the end of this side
abbrev pub turned_by : Config → Standing → Side → Call → End → Standing
turned_by c s Ground call new = record {
  pair = after_all c s.pair (moves Ground call);
  on_ground = new;
  on_craft = s.on_craft;
}
turned_by c s Craft call new = record {
  pair = after_all c s.pair (moves Craft call);
  on_ground = s.on_ground;
  on_craft = new;
}

-- the call was of the end as it stood, and the program keeps what it promises of it
abbrev pub CanTurnBy : Config → Standing → Side → Call → End → Type 0
CanTurnBy c s Ground call new =
    IsDone call s.on_ground new × Promises c s.pair s.on_ground s.on_craft Ground call
CanTurnBy c s Craft call new =
    IsDone call s.on_craft new × Promises c s.pair s.on_ground s.on_craft Craft call

-- the ends after these calls, the newest of which stands first
abbrev pub stood : Config → Standing → List CallTurn → Standing
stood c s [] = s
stood c s (t ∷ ts) = turned_by c (stood c s ts) t.side t.call t.new

-- each call was made after those before it
abbrev pub CanStand : Config → Standing → List CallTurn → Type 0
CanStand c s [] = ⊤
CanStand c s (t ∷ ts) = CanStand c s ts × CanTurnBy c (stood c s ts) t.side t.call t.new

-- the ends are two ends apart, which keep the promise
pub record KeepsThePromise (c : Config) (first : Contents) (s : Standing) : Type 0 where
  pub ends : AreEndsOf c s.pair s.on_ground s.on_craft
  pub promised : IsPromised c first s.pair.ends

-- whatever calls were made of two ends that were new, each with a clock and limits of its own:
-- those of the configuration are ground's
abbrev pub EndsOfCKeepThePromise : Type 0
EndsOfCKeepThePromise =
    (c : Config) (a : ℕ) (b : Own)
    (none : List LptMemory) (nothing : List ℕ) (ms : List LptMemory) (content : List ℕ)
    (g k : End) (ts : List CallTurn)
    → IsConfig (later a c)
    → IsConfig (own_config b c)
    → IsNew Ground (later a c) none nothing g
    → IsNew Craft (own_config b c) ms content k
    → CanStand c (standing_begun c (memories_told content ms) a b g k) ts
    → KeepsThePromise c (memories_told content ms)
    (stood c (standing_begun c (memories_told content ms) a b g k) ts)
