-- What goes up of a large message by what is heard.
use Rattle.std.specs.Prelude.{◌≡◌, ℕ, List, [], ◌∷◌, ◌++◌, Option}
use Rattle.std.specs.Io.KnownBytes.{Appends}
use Rattle.lpt_ground.specs.declared.asked.Terms.{Terms}
use Rattle.lpt_ground.specs.declared.pass.End.TheVariants as ends
use Rattle.lpt_ground.specs.declared.pass.Step.{Step}
use Rattle.lpt_ground.specs.declared.pass.Step.TheVariants.{Put, Listen, Stop}
use Rattle.lpt_ground.specs.Carrying.{Answer, Nothing, Came, Quiet, Over, AllCome, AllTold, Comes, Hears, packets_of}
use Rattle.lpt_ground.specs.declared.large.Large.{Large}
use Rattle.lpt_ground.specs.Parts.{part_packet}
use Rattle.lpt_ground.specs.Uplinks.{Way, at_end, with_packet, next_way, with_part_put, with_round}

-- once what was to put a part, or to listen, got nothing
abbrev pub after_step : Way → Step → Way
after_step w (Put k) = with_part_put w k
after_step w Listen = w
after_step w (Stop e) = w

-- once it was answered so
abbrev pub after_answer : Large → Terms → Way → Answer → Way
after_answer l terms w Nothing = after_step w (next_way l w)
after_answer l terms w (Came o) = with_packet l terms w o
after_answer l terms w Quiet = with_round l terms w
after_answer l terms w Over = at_end w

-- once it was answered so, one answer after the other
abbrev pub come_to : Large → Terms → Way → List Answer → Way
come_to l terms w [] = w
come_to l terms w (a ∷ rest) = come_to l terms (after_answer l terms w a) rest

-- what is written by a step, if nothing has come
abbrev pub written_by : Large → Way → Step → List ℕ
written_by l w (Put k) = part_packet l w.used w.count k
written_by l w Listen = []
written_by l w (Stop e) = []

-- what is written if it is answered so
abbrev pub written_at : Large → Way → Answer → List ℕ
written_at l w Nothing = written_by l w (next_way l w)
written_at l w (Came o) = []
written_at l w Quiet = []
written_at l w Over = []

-- what is written by these answers, one after the other
abbrev pub all_written : Large → Terms → Way → List Answer → List ℕ
all_written l terms w [] = []
all_written l terms w (a ∷ rest) =
    written_at l w a ++ all_written l terms (after_answer l terms w a) rest

-- one answer was given, of such a packet if it is one, it came to that by it, and what goes up by
-- it was written
pub record Stepped (P : List ℕ → Type 0) (l : Large) (terms : Terms) (w v : Way)
    (had has : Option (List Answer)) (old new : Option (List ℕ)) : Type 0 where
  pub answer : Answer
  pub told : Hears had has (answer ∷ [])
  pub comes : Comes P answer
  pub came : v ≡ after_answer l terms w answer
  pub written : Appends old new (written_at l w answer)

-- the same of answers, one after the other
pub record Went (P : List ℕ → Type 0) (l : Large) (terms : Terms) (w v : Way)
    (had has : Option (List Answer)) (old new : Option (List ℕ)) : Type 0 where
  pub answers : List Answer
  pub told : Hears had has answers
  pub comes : AllCome P answers
  pub came : v ≡ come_to l terms w answers
  pub written : Appends old new (all_written l terms w answers)

-- ---- the law

-- one that ends as done, whatever was heard
abbrev pub DoneIsTold : Type 0
DoneIsTold =
    (l : Large) (terms : Terms) (w : Way) (answers : List Answer)
    → next_way l (come_to l terms w answers) ≡ Stop ends.Done
    → AllTold terms w.of_request.asked (packets_of answers)
