-- The steps that a journal is, and the log that it tells, by the lists: these compute.
use Rattle.std.proofs.Common.{◌≡◌, ◌∙◌, ap, sym, refl, Bool, true, false, ◌&&◌, List, [], ◌∷◌, ◌++◌, length, drop}
use Rattle.lpt_packet.proofs.BoolLemmas.{and_left, and_right}
use Rattle.lpt_events.specs.declared.config.Config.{Config}
use Rattle.lpt_events.specs.declared.entry.Release.{Release}
use Rattle.lpt_acts.specs.Acts.{Act, Back, On, Tick, Within}
use Rattle.lpt_journal.specs.Journal.{Recorded, History, with_all}
use Rattle.lpt_journal.specs.Releases.{released_by, releases}
use Rattle.lpt_journal.specs.Replies.{history_after}
use Rattle.lpt_apart.specs.Ends.{Log, Step}
use Rattle.lpt_apart.specs.Plays.{AllForward, IsForward, step_of, with_step, steps_of}
use Rattle.lpt_apart.specs.Told.{with_openings, with_releases, with_ended, with_event, log_told}
use Rattle.lpt_journal_examples.specs.Passes.{usual_memories}
use Rattle.lpt_journal_examples.proofs.Listed.{recorded_listed, recorded_is}
use Rattle.lpt_journal_examples.proofs.ListedReleases.{releases_listed, releases_is}

-- ---- steps

-- the steps that a journal is, by the lists
abbrev pub steps_listed : Config → List Act → List Step
steps_listed c [] = []
steps_listed c (e ∷ es) = with_step (step_of (recorded_listed c es) e) (steps_listed c es)

-- they are the same
pub steps_is : (c : Config) (es : List Act)
    → steps_of c usual_memories es ≡ steps_listed c es
steps_is c [] = refl
steps_is c (e ∷ es) = λ i. with_step (step_of (recorded_is c es i) e) (steps_is c es i)

-- ---- the log

-- what a list grew by stands behind it
behind : {A : Type 0} (xs ys : List A) → drop (length xs) (with_all xs ys) ≡ ys
behind xs [] = all xs where
  all : {A : Type 0} (xs : List A) → drop (length xs) xs ≡ []
  all [] = refl
  all (x ∷ xs) = all xs
behind xs (y ∷ ys) = go xs where
  go : (xs : List _) → drop (length xs) (xs ++ y ∷ ys) ≡ y ∷ ys
  go [] = refl
  go (x ∷ xs) = go xs

-- what an entry releases, by the lists
abbrev pub newly : Config → Recorded → History → List Release
newly c x h = drop (length (releases_listed c h)) (releases_listed c (x ∷ h))

newly_is : (c : Config) (x : Recorded) (h : History) → released_by c x h ≡ newly c x h
newly_is c x h =
    sym (behind (releases c h) (released_by c x h))
    ∙ (λ i. drop (length (releases_is c h i)) (releases_is c (x ∷ h) i))

-- the log that a history tells, by the lists
abbrev pub told_listed : Config → History → Log
told_listed c [] = []
told_listed c (x ∷ h) =
    with_event x.event x.puts
    (with_openings x.opens
    (with_ended x.event x.reply.answer (with_releases (newly c x h) (told_listed c h))))

told_is : (c : Config) (h : History) → log_told c h ≡ told_listed c h
told_is c [] = refl
told_is c (x ∷ h) = λ i.
    with_event x.event x.puts
    (with_openings x.opens
    (with_ended x.event x.reply.answer (with_releases (newly_is c x h i) (told_is c h i))))

-- the log of a journal, by the lists
pub told_of : (c : Config) (es : List Act)
    → log_told c (history_after c usual_memories es) ≡ told_listed c (recorded_listed c es)
told_of c es = ap (log_told c) (recorded_is c es) ∙ told_is c (recorded_listed c es)

-- ---- clocks

-- an act sets no clock back
abbrev is_forward : Act → Bool
is_forward (Tick side (Back n)) = false
is_forward _ = true

-- none of them does
abbrev pub are_forward : List Act → Bool
are_forward [] = true
are_forward (e ∷ es) = is_forward e && are_forward es

act_is_forward : (e : Act) → is_forward e ≡ true → IsForward e
act_is_forward (Tick side On) is = tt
act_is_forward (Tick side (Back n)) is = absurd cc
act_is_forward (Tick side (Within l)) is = tt
act_is_forward e is = tt

pub all_are_forward : (es : List Act) → are_forward es ≡ true → AllForward es
all_are_forward [] is = tt
all_are_forward (e ∷ es) is = (
  act_is_forward e (and_left (is_forward e) (are_forward es) is),
  all_are_forward es (and_right (is_forward e) (are_forward es) is),
)
