-- A pass: what it does next, and what becomes of it by what is heard.
use Rattle.std.specs.Prelude.{ℕ, ◌+◌, ◌-◌, ◌==◌, Bool, true, false, ◌||◌, is_some, if◌then◌else◌, List, drop, position, Option, Some, None}
use Rattle.std.specs.List.{list_all}
use Rattle.lpt_ground.specs.declared.asked.Asked.{Asked}
use Rattle.lpt_ground.specs.declared.asked.Fate.{Fate}
use Rattle.lpt_ground.specs.declared.asked.Fate.TheVariants.{Waiting, Done, Failed}
use Rattle.lpt_ground.specs.declared.asked.Terms.{Terms}
use Rattle.lpt_ground.specs.declared.pass.End.{End}
use Rattle.lpt_ground.specs.declared.pass.End.TheVariants as ends
use Rattle.lpt_ground.specs.declared.pass.Pass.{Pass}
use Rattle.lpt_ground.specs.declared.pass.Step.{Step}
use Rattle.lpt_ground.specs.declared.pass.Step.TheVariants.{Put, Listen, Stop}
use Rattle.lpt_ground.specs.Telling.{is_waiting, said_in, requests_told}

-- ---- its state

-- The requests with their fates; the place behind the one that was put last in this round; how many
-- are still to be put in it at least; how many more waits may settle nothing; whether something was
-- settled since the last wait; and whether nothing more will be heard.
pub record PassState : Type 0 where
  pub asked : List Asked
  pub at : ℕ
  pub owed : ℕ
  pub left : ℕ
  pub news : Bool
  pub ended : Bool

-- that of a pass
abbrev pub state_of : Pass → PassState
state_of p = record {
  asked = p.asked.items;
  at = p.at;
  owed = p.owed;
  left = p.left;
  news = p.news;
  ended = p.ended;
}

-- that of a pass that begins
abbrev pub pass_begun : Terms → List Asked → PassState
pass_begun terms asked = record {
  asked = asked;
  at = 0;
  owed = 0;
  left = terms.tries;
  news = false;
  ended = false;
}

-- ---- what it does next

-- a packet settled it
abbrev pub has_come : Fate → Bool
has_come Waiting = false
has_come (Done o) = true
has_come (Failed notice) = false

-- the same of a request
abbrev pub is_done : Asked → Bool
is_done a = has_come a.fate

-- once none waits
abbrev pub end_of : List Asked → End
end_of asked = if list_all is_done asked then ends.Done else ends.Failed

-- The next that waits behind the place; if none does, the first, if this round owes one.
abbrev pub put_from : PassState → (first : ℕ) → (behind : Option ℕ) → Step
put_from s first (Some k) = Put (s.at + k)
put_from s first None = if s.owed == 0 then Listen else Put first

-- if this is the first that waits, or none does
abbrev pub step_from : PassState → Option ℕ → Step
step_from s None = Stop (end_of s.asked)
step_from s (Some first) =
    if s.ended then Stop ends.Ended
    else if s.left == 0 then Stop ends.Given
    else put_from s first (position is_waiting (drop s.at s.asked))

-- what a pass does next
unfoldable pub next_step : PassState → Step
next_step s = step_from s (position is_waiting s.asked)

-- ---- what becomes of it

-- once the request at this place was put
abbrev pub put : PassState → (k : ℕ) → PassState
put s k = record s { at = k + 1; owed = s.owed - 1 }

-- once octets were heard
unfoldable pub octets_heard : Terms → PassState → List ℕ → PassState
octets_heard terms s o = record s {
  asked = requests_told s.asked o (said_in terms s.asked o);
  news = is_some (said_in terms s.asked o) || s.news;
}

-- so many are put at least in each round but the first
abbrev pub least : ℕ
least = 8

-- once nothing was heard for the wait: a new round begins
abbrev pub pass_waited : Terms → PassState → PassState
pass_waited terms s = record s {
  at = 0;
  owed = least;
  left = (if s.news then terms.tries else s.left - 1);
  news = false;
}

-- once nothing more will be heard
abbrev pub pass_closed : PassState → PassState
pass_closed s = record s { ended = true }
