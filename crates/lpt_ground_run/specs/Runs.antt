-- What became of requests, in runs.
use Rattle.std.specs.Prelude.{List, [], ◌∷◌, ◌++◌, replicate}
use Rattle.lpt_ground.specs.declared.asked.Asked.{Asked}
use Rattle.lpt_ground.specs.declared.asked.Fate.{Fate}
use Rattle.lpt_ground.specs.declared.asked.Fate.TheVariants as fates
use Rattle.lpt_ground_run.specs.declared.runs.Outcome.{Outcome}
use Rattle.lpt_ground_run.specs.declared.runs.Outcome.TheVariants.{Open, Done, Failed}
use Rattle.lpt_ground_run.specs.declared.runs.GroundRun.{GroundRun}

-- what became of a request of this fate
abbrev pub outcome_of : Fate → Outcome
outcome_of fates.Waiting = Open
outcome_of (fates.Done o) = Done
outcome_of (fates.Failed notice) = Failed notice

-- the same of a request
abbrev pub became : Asked → Outcome
became a = outcome_of a.fate

-- what became of each, if that is said in runs
abbrev pub spread : List GroundRun → List Outcome
spread [] = []
spread (r ∷ rs) = replicate r.count r.outcome ++ spread rs
