-- Two ends behind handles withhold nothing that came whole.
use Rattle.std.specs.Prelude.{◌≡◌, ℕ, List, [], ◌∷◌, ◌++◌}
use Rattle.lpt_apart.specs.Ends.{Move}
use Rattle.lpt_apart.specs.TwoEnds.{later, no_pair_later, Own, own_config, came_since, WithholdsNothing}
use Rattle.lpt_c_end.specs.Changes.{IsNew}
use Rattle.lpt_c_end.specs.Contents.{memories_told}
use Rattle.lpt_c_end.specs.Sizes.{sizes_said, IsNewSized}
use Rattle.lpt_c_end.specs.declared.end.End.{End}
use Rattle.lpt_c_end.specs.declared.memories.LptMemory.{LptMemory}
use Rattle.lpt_c_end.specs.declared.sizing.LptSize.{LptSize}
use Rattle.lpt_c_pair.specs.Pairs.{ExecuteGiven, moves}
use Rattle.lpt_c_pair.specs.Programs.{Act, Calls, Writes, Gives, Puts, Settles, TakesBack, program_started, came_by, CanActAll}
use Rattle.lpt_c_pair.specs.Runs.{CallTurn, standing_begun, stood, CanStand}
use Rattle.lpt_events.specs.Configs.{IsConfig}
use Rattle.lpt_events.specs.declared.config.Config.{Config}
use Rattle.lpt_events.specs.declared.side.Side.TheVariants.{Ground, Craft}
use Rattle.lpt_memory.specs.Memories.{Contents, sizes_of}

-- the moves of these calls, the newest first
abbrev pub moves_of : List CallTurn → List Move
moves_of [] = []
moves_of (t ∷ ts) = moves t.side t.call ++ moves_of ts

-- the calls that these acts are, the newest first
abbrev pub turns_of : List Act → List CallTurn
turns_of [] = []
turns_of (Calls t ∷ xs) = t ∷ turns_of xs
turns_of (Writes t ∷ xs) = turns_of xs
turns_of (Gives octets owed new ∷ xs) =
    record { side = Craft; call = ExecuteGiven octets; new = new } ∷ turns_of xs
turns_of (Puts ms ∷ xs) = turns_of xs
turns_of (Settles ∷ xs) = turns_of xs
turns_of (TakesBack ∷ xs) = turns_of xs

-- Whatever calls were made of two ends that were new: what was last opened under a name, and each
-- part of which `lpt_end_packet` took since then, and since its receiver was last restarted or made
-- again, was released since, unless there was no room, or its reception expired or was broken
-- off.
abbrev pub EndsOfCWithholdNothing : Type 0
EndsOfCWithholdNothing =
    (c : Config) (a : ℕ) (b : Own)
    (none : List LptMemory) (nothing : List ℕ) (ms : List LptMemory) (content : List ℕ)
    (g k : End) (ts : List CallTurn)
    → IsConfig (later a c)
    → IsConfig (own_config b c)
    → IsNew Ground (later a c) none nothing g
    → IsNew Craft (own_config b c) ms content k
    → CanStand c (standing_begun c (memories_told content ms) a b g k) ts
    → WithholdsNothing c
    (stood c (standing_begun c (memories_told content ms) a b g k) ts).pair.ends.log
    (came_since c (no_pair_later c (memories_told content ms) a b) (moves_of ts))

-- the same if the spacecraft's program has the memories
abbrev pub ProgramsWithholdNothing : Type 0
ProgramsWithholdNothing =
    (c : Config) (a : ℕ) (b : Own)
    (none : List LptMemory) (nothing : List ℕ) (sizes : List LptSize) (first : Contents)
    (g k : End) (xs : List Act)
    → IsConfig (later a c)
    → IsConfig (own_config b c)
    → sizes_said sizes ≡ sizes_of first
    → IsNew Ground (later a c) none nothing g
    → IsNewSized (own_config b c) sizes k
    → CanActAll c (program_started c first a b g k) xs
    → WithholdsNothing c (came_by c (program_started c first a b g k) xs).ends.pair.ends.log
    (came_since c (no_pair_later c first a b) (moves_of (turns_of xs)))
