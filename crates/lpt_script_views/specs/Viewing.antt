-- What the lines of a script that may ask for views do to a world, what they print, and how that
-- ends.
use Rattle.std.specs.Prelude.{◌≡◌, ℕ, ◌+◌, Bool, true, is_some, List, [], ◌∷◌, Option, Some, None, Result, Ok, Err}
use Rattle.std.specs.Io.KnownBytes.{Appends}
use Rattle.lpt_script_words.specs.Grammar.{reading_of}
use Rattle.lpt_script_words.specs.declared.grammar.Reading.{Reading}
use Rattle.lpt_script_words.specs.declared.grammar.Reading.TheVariants.{Skipped, Asks, Unreadable}
use Rattle.lpt_text.specs.Reading.{IsWhole, IsFront, IsCutFront}
use Rattle.lpt_text.specs.Taking.{Story}
use Rattle.lpt_text.specs.Texts.{lines}
use Rattle.lpt_text.specs.declared.fault.StreamFault.TheVariants as faults
use Rattle.lpt_script.specs.Ends.{LinesEnd}
use Rattle.lpt_script.specs.Scripts.{Ran, Script, line_ran, text_printed, then_rest}
use Rattle.lpt_script.specs.declared.end.ScriptEnd.{ScriptEnd}
use Rattle.lpt_script.specs.declared.fault.ScriptFault.{ScriptFault}
use Rattle.lpt_script.specs.declared.fault.ScriptFault.TheVariants as scripts
use Rattle.lpt_world.specs.Worlds.{Shown}
use Rattle.lpt_script_views.specs.Views.{asked_view, view_text}
use Rattle.lpt_script_views.specs.declared.views.View.{View}
use Rattle.lpt_script_views.specs.declared.viewing.Viewing.{Viewing}

-- ---- a line

-- what a line of this number does that a script doesn't read, by the view that it asks for
abbrev pub unread_ran : Shown → (number : ℕ) → Option View → Ran
unread_ran w n None = line_ran Unreadable n w
unread_ran w n (Some v) = text_printed w (view_text w v)

-- what a line does, by what a script reads of it
abbrev pub viewed_as : Shown → (line : List ℕ) → (number : ℕ) → Reading → Ran
viewed_as w line n Skipped = line_ran Skipped n w
viewed_as w line n (Asks c) = line_ran (Asks c) n w
viewed_as w line n Unreadable = unread_ran w n (asked_view line)

-- what a line of this number does
abbrev pub line_viewed : Shown → (line : List ℕ) → (number : ℕ) → Ran
line_viewed w line n = viewed_as w line n (reading_of w.config.source line)

-- ---- lines

-- what lines do, from this world on, the first of which has this number, with so many refused before
abbrev pub lines_viewed : List (List ℕ) → Shown → (number refused : ℕ) → Script
lines_viewed [] w n refused = record { text = []; refused = refused; bad = None }
lines_viewed (line ∷ more) w n refused =
    let ran = line_viewed w line n in
    then_rest ran n refused (lines_viewed more) ran.bad

-- what a script does to a world
abbrev pub script_viewed : Shown → List ℕ → Script
script_viewed w text = lines_viewed (lines text) w 1 0

-- How the run of a script ends, as one without views does.
abbrev pub ViewsEnd :
    Shown → Result ScriptEnd ScriptFault
    → (read_before read_after written_before written_after : Option (List ℕ))
    → (read_failed write_failed : Bool) → Type 0
ViewsEnd w (Ok end) old new before after read_failed write_failed =
    IsWhole old new (λ text. LinesEnd (script_viewed w text) (Ok end) before after)
ViewsEnd w (Err (scripts.Line n)) old new before after read_failed write_failed =
    IsFront old new (λ text. LinesEnd (script_viewed w text) (Err (scripts.Line n)) before after)
ViewsEnd w (Err (scripts.Stream faults.Read)) old new before after read_failed write_failed =
    IsCutFront old new read_failed
    (λ text. ((script_viewed w text).bad ≡ None) × Appends before after (script_viewed w text).text)
ViewsEnd w (Err (scripts.Stream faults.Write)) old new before after read_failed write_failed =
    IsFront old new
    (λ text. LinesEnd (script_viewed w text) (Err (scripts.Stream faults.Write)) before after)
    × (write_failed ≡ true)
ViewsEnd w (Err (scripts.Stream faults.Memory)) old new before after read_failed write_failed =
    IsFront old new
    (λ text. LinesEnd (script_viewed w text) (Err (scripts.Stream faults.Memory)) before after)
ViewsEnd w (Err scripts.Config) old new before after read_failed write_failed =
    (old ≡ new) × (before ≡ after)

-- ---- inside

-- what lines leave: how many were refused, and the number of the unreadable one that ended them
pub record ViewsLeft : Type 0 where
  pub refused : ℕ
  pub bad : Option ℕ

-- what lines do on this world; none is run behind an unreadable one
abbrev pub view_story :
    Shown → (bad : Option ℕ) → List (List ℕ) → (number refused : ℕ) → Story ViewsLeft
view_story w (Some k) ls n refused =
    record { text = []; left = record { refused = refused; bad = Some k } }
view_story w None ls n refused =
    let script = lines_viewed ls w n refused in
    record { text = script.text; left = record { refused = script.refused; bad = script.bad } }

-- the same by the struct
abbrev pub story_of : Viewing → List (List ℕ) → (number refused : ℕ) → Story ViewsLeft
story_of r ls n refused = view_story r.world r.bad ls n refused

-- whether an unreadable line ended it
abbrev pub is_ended : Viewing → Bool
is_ended r = is_some r.bad
