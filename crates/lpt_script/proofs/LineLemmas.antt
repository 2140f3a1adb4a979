-- What a line of a script does, taken alone.
use Rattle.std.proofs.Common.{◌≡◌, ◌⊎◌, ℕ, ◌+◌, ◌<◌, List, [], ◌∷◌, ◌++◌, length, Option, None, Some, is_some, Ok, Err, Bool, false, refl, sym, ap, ◌∙◌, subst, inl, inr, append-nil, length-append, arith}
use Rattle.std.specs.Int.{from_bool}
use Rattle.std.specs.Io.KnownBytes.{Appends}
use Rattle.std.proofs.lemmas.Bool.Decides.{nat_tests}
use Rattle.lpt_text.specs.Taking.{IsBehind, Story, behind, failures, is_last, unless_last}
use Rattle.lpt_text.specs.declared.fault.StreamFault.{StreamFault}
use Rattle.lpt_text.specs.declared.fault.StreamFault.TheVariants as faults
use Rattle.lpt_text.specs.Streams.{AppendsPart}
use Rattle.lpt_text.proofs.StreamLemmas.{part_of_front}
use Rattle.lpt_text.specs.declared.taking.Taken.{Taken}
use Rattle.lpt_text.specs.declared.taking.Taken.TheVariants.{Done, Failed, Over}
use Rattle.lpt_events.specs.declared.fault.StepFault.{StepFault}
use Rattle.lpt_script.specs.Ends.{LineEnds, TextEnds}
use Rattle.lpt_script.specs.Runs.{RunLeft, ended_by, run_story, unless_bad}
use Rattle.lpt_script.specs.RunsInside.{LineTaken}
use Rattle.lpt_script.specs.Scripts.{Ran, lines_left, lines_ran, line_ran, says, says_now, shows_left, then_rest}
use Rattle.lpt_script_words.specs.declared.showing.Show.{Show}
use Rattle.lpt_script_words.specs.declared.grammar.Reading.{Reading}
use Rattle.lpt_script_words.specs.declared.grammar.Reading.TheVariants.{Unreadable}
use Rattle.lpt_script_words.specs.Grammar.{reading_of}
use Rattle.lpt_world.specs.Worlds.{Shown}

-- a line that is too long is unreadable
pub unread : (source : ℕ) (line : List ℕ)
    → 140000 < length line
    → reading_of source line ≡ Unreadable
unfolding reading_of
unread source line long = grind (arith, nat_tests)

-- so is the line of which it is the front
same_reading : (source : ℕ) (line rest : List ℕ)
    → IsBehind line rest
    → reading_of source (line ++ rest) ≡ reading_of source line
same_reading source line rest (inl none) =
    ap (λ x. reading_of source (line ++ x)) none ∙ ap (reading_of source) (append-nil line)
same_reading source line rest (inr long) =
    unread source (line ++ rest) (omega (arith, length-append line rest)) ∙ sym (unread source line long)

-- what a line and those behind it do, by what it says and whether it ends them
story_by :
    (later : Bool) → (kept : List Show) → Shown → (n refused : ℕ) → List (List ℕ) → Reading → Option ℕ
    → Story RunLeft
story_by later kept w n refused more r bad =
    let ran = line_ran (says_now later r) n w in
    let script = then_rest ran n refused (lines_ran later more) bad in
    record {
      text = script.text;
      left = record {
        refused = script.refused;
        bad = script.bad;
        left = unless_bad script.bad (lines_left later more ran.world (n + 1) (kept ++ shows_left later r));
      };
    }

-- a line does what it does alone, and then those behind it do the rest
pub line_story : (later : Bool) (kept : List Show) (w : Shown) (n refused : ℕ) (line rest : List ℕ)
    (more : List (List ℕ)) (taken : Taken)
    → IsBehind line rest
    → let ran = line_ran (says later w.config.source line) n w in
    ran.bad ≡ ended_by taken n
    → from_bool (is_some ran.refused) ≡ failures taken
    → run_story later kept w None ((line ++ rest) ∷ more) n refused
    ≡ behind ran.text (run_story later (kept ++ shows_left later (reading_of w.config.source line)) ran.world
    (ended_by taken n) (unless_last taken more) (n + 1) (refused + failures taken))
unfolding story_by
line_story later kept w n refused line rest more taken long ended failed =
    ap (λ r. story_by later kept w n refused more r (line_ran (says_now later r) n w).bad)
    (same_reading w.config.source line rest long)
    ∙ by_taken taken ended failed
  where
    reading : Reading
    reading = reading_of w.config.source line

    ran : Ran
    ran = line_ran (says later w.config.source line) n w

    by_taken : (taken : Taken) → ran.bad ≡ ended_by taken n → from_bool (is_some ran.refused) ≡ failures taken
        → story_by later kept w n refused more reading ran.bad
        ≡ behind ran.text (run_story later (kept ++ shows_left later reading) ran.world
        (ended_by taken n) (unless_last taken more) (n + 1) (refused + failures taken))
    by_taken Done ended failed =
        ap (story_by later kept w n refused more reading) ended
        ∙ ap (λ k. behind ran.text (run_story later (kept ++ shows_left later reading) ran.world None more (n + 1) (refused + k))) failed
    by_taken Failed ended failed =
        ap (story_by later kept w n refused more reading) ended
        ∙ ap (λ k. behind ran.text (run_story later (kept ++ shows_left later reading) ran.world None more (n + 1) (refused + k))) failed
    by_taken Over ended failed =
        let told : List ℕ → ℕ → Story RunLeft =
        λ t k. record { text = t; left = record { refused = k; bad = Some n; left = None } } in
        let none : refused ≡ refused + 0 = omega arith in
        ap (story_by later kept w n refused more reading) ended
        ∙ ap (λ t. told t refused) (sym (append-nil ran.text))
        ∙ ap (λ k. told (ran.text ++ []) k) none

-- a front part of what a line writes is one of what it and those behind it write
pub line_part : (later : Bool) (kept : List Show) (w : Shown) (n refused : ℕ) (line : List ℕ)
    (more : List (List ℕ)) (a b : Option (List ℕ))
    → AppendsPart a b (line_ran (says later w.config.source line) n w).text
    → AppendsPart a b (run_story later kept w None (line ∷ more) n refused).text
line_part later kept w n refused line more a b part = by_bad ran.bad
  where
    ran : Ran
    ran = line_ran (says later w.config.source line) n w

    by_bad : (bad : Option ℕ) → AppendsPart a b (then_rest ran n refused (lines_ran later more) bad).text
    by_bad None =
        part_of_front a b ran.text
        (lines_ran later more ran.world (n + 1) (refused + from_bool (is_some ran.refused))).text part
    by_bad (Some k) = part

-- ---- what became of a line

-- of one whose command was refused
pub taken_refused : (ran : Ran) (n : ℕ) (r : Option StepFault) (f : StepFault) (w : Shown) (a b : Option (List ℕ))
    → r ≡ Some f
    → LineEnds ran (Ok r) w a b
    → LineTaken ran n (Ok Failed) w a b
taken_refused ran n r f w a b is p = (p.0, ap (λ x. from_bool (is_some x)) (sym p.1 ∙ is), p.2, p.3)

-- of one whose command was not
pub taken_done : (ran : Ran) (n : ℕ) (r : Option StepFault) (w : Shown) (a b : Option (List ℕ))
    → r ≡ None
    → LineEnds ran (Ok r) w a b
    → LineTaken ran n (Ok Done) w a b
taken_done ran n r w a b is p = (p.0, ap (λ x. from_bool (is_some x)) (sym p.1 ∙ is), p.2, p.3)

-- of one that could not be run
pub taken_fault : (ran : Ran) (n : ℕ) (fault : StreamFault) (w : Shown) (a b : Option (List ℕ))
    → LineEnds ran (Err fault) w a b
    → LineTaken ran n (Err fault) w a b
taken_fault ran n faults.Write w a b p = p
taken_fault ran n faults.Memory w a b p = p
taken_fault ran n faults.Read w a b p = p

-- of one whose text could not be written
pub taken_text : (ran : Ran) (n : ℕ) (fault : StreamFault) (w : Shown) (a b : Option (List ℕ))
    → TextEnds {A = Unit} ran.text (Err fault) a b
    → LineTaken ran n (Err fault) w a b
taken_text ran n faults.Write w a b p = p
taken_text ran n faults.Memory w a b p = p
taken_text ran n faults.Read w a b p = p

-- by which faults that ends
pub fault_taken : (ran : Ran) (n : ℕ) (fault : StreamFault) (w : Shown) (a b : Option (List ℕ))
    → LineTaken ran n (Err fault) w a b
    → (fault ≡ faults.Write) ⊎ (fault ≡ faults.Memory)
fault_taken ran n faults.Write w a b p = inl refl
fault_taken ran n faults.Memory w a b p = inr refl
fault_taken ran n faults.Read w a b p = absurd p

-- ---- by the fields of the world on which it is run

none_of : (bad : Option ℕ) → is_some bad ≡ false → bad ≡ None
none_of None fresh = refl
none_of (Some n) fresh = cc

-- a line ends a run where it is the last that is taken
pub ended_last : (taken : Taken) (n : ℕ) → is_some (ended_by taken n) ≡ is_last taken
ended_last Done n = refl
ended_last Failed n = refl
ended_last Over n = refl

-- a line was run
pub takes_line : (later next_later : Bool) (kept next_kept : List Show) (w v : Shown) (bad next_bad : Option ℕ)
    (n : ℕ) (line : List ℕ) (taken : Taken) (a b : Option (List ℕ))
    → is_some bad ≡ false
    → next_later ≡ later
    → next_kept ≡ kept ++ shows_left later (reading_of w.config.source line)
    → next_bad ≡ ended_by taken n
    → LineTaken (line_ran (says later w.config.source line) n w) n (Ok taken) v a b
    → (text : List ℕ) × Appends a b text
    × ((rest : List ℕ) (refused : ℕ) (more : List (List ℕ)) → IsBehind line rest
    → run_story later kept w bad ((line ++ rest) ∷ more) n refused
    ≡ behind text (run_story next_later next_kept v next_bad (unless_last taken more) (n + 1) (refused + failures taken)))
takes_line later next_later kept next_kept w v bad next_bad n line taken a b fresh same keeps ends p =
    let ran = line_ran (says later w.config.source line) n w in (
      ran.text,
      p.3,
      λ rest refused more long.
          let ls = unless_last taken more in
          let k = refused + failures taken in
          ap (λ x. run_story later kept w x ((line ++ rest) ∷ more) n refused) (none_of bad fresh)
          ∙ line_story later kept w n refused line rest more taken long p.0 p.1
          ∙ ap (λ x. behind ran.text (run_story later x ran.world (ended_by taken n) ls (n + 1) k)) (sym keeps)
          ∙ ap (λ x. behind ran.text (run_story later next_kept x (ended_by taken n) ls (n + 1) k)) (sym p.2)
          ∙ ap (λ x. behind ran.text (run_story later next_kept v x ls (n + 1) k)) (sym ends)
          ∙ ap (λ x. behind ran.text (run_story x next_kept v next_bad ls (n + 1) k)) (sym same),
    )

-- a line could not be run
pub breaks_line : (later : Bool) (kept : List Show) (w v : Shown) (bad : Option ℕ) (n : ℕ) (line : List ℕ)
    (fault : StreamFault) (a b : Option (List ℕ))
    → is_some bad ≡ false
    → LineTaken (line_ran (says later w.config.source line) n w) n (Err fault) v a b
    → (refused : ℕ) (more : List (List ℕ))
    → AppendsPart a b (run_story later kept w bad (line ∷ more) n refused).text
breaks_line later kept w v bad n line fault a b fresh p refused more =
    subst (λ x. AppendsPart a b (run_story later kept w x (line ∷ more) n refused).text) (sym (none_of bad fresh))
    (line_part later kept w n refused line more a b (by_fault fault p))
  where
    by_fault : (fault : StreamFault) → LineTaken (line_ran (says later w.config.source line) n w) n (Err fault) v a b
        → AppendsPart a b (line_ran (says later w.config.source line) n w).text
    by_fault faults.Write p = p
    by_fault faults.Memory p = p
    by_fault faults.Read p = absurd p
