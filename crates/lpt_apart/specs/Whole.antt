-- The parts that came by steps, by moves, and to a world are the same.
use Rattle.std.specs.Prelude.{ℕ, Bool, List, [], ◌∷◌, ◌≡◌, false}
use Rattle.lpt_packet.specs.declared.direction.Direction.{Direction}
use Rattle.lpt_packet.specs.Names.{Name}
use Rattle.lpt_memory.specs.Memories.{Contents}
use Rattle.lpt_events.specs.declared.config.Config.{Config}
use Rattle.lpt_acts.specs.Acts.{Act}
use Rattle.lpt_events.specs.Configs.{IsConfig}
use Rattle.lpt_journal.specs.Legal.{Legal}
use Rattle.lpt_journal.specs.Replies.{history_after}
use Rattle.lpt_journal.specs.Whole as journal
use Rattle.lpt_apart.specs.Ends.{Step, Move}
use Rattle.lpt_apart.specs.TwoEnds.{came_after, came_moved}
use Rattle.lpt_apart.specs.Worlds.{ends_reached, CanRun}
use Rattle.lpt_apart.specs.Moves.{came_to}
use Rattle.lpt_apart.specs.Plays.{AllForward, steps_of, moves_of}

-- whether part k of a transaction was handed over since it was opened, and since its receiver was
-- restarted
abbrev pub came : Config → Contents → List Step → Direction → Name → (k : ℕ) → Bool
came c first [] d name k = false
came c first (x ∷ xs) d name k =
    came_after c (ends_reached c first xs) x d name k (came c first xs d name k)

-- and of moves
abbrev pub came_in : Config → Contents → List Move → Direction → Name → (k : ℕ) → Bool
came_in c first [] d name k = false
came_in c first (x ∷ xs) d name k =
    came_moved c (came_to c first xs) x d name k (came_in c first xs d name k)

-- the parts that came to a world come by the steps that its journal is
abbrev pub WorldsBringTheSame : Type 0
WorldsBringTheSame =
    (c : Config) (first : Contents) (es : List Act) (d : Direction) (name : Name) (k : ℕ)
    → IsConfig c
    → AllForward es
    → Legal c first es
    → came c first (steps_of c first es) d name k
    ≡ journal.came c (history_after c first es) d name k

-- the parts that came by steps come by the moves that they are
abbrev pub MovesBringTheSame : Type 0
MovesBringTheSame =
    (c : Config) (first : Contents) (xs : List Step) (d : Direction) (name : Name) (k : ℕ)
    → CanRun c first xs
    → came_in c first (moves_of xs) d name k ≡ came c first xs d name k
