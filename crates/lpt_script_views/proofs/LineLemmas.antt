-- What a line of a script that may ask for views does, taken alone.
use Rattle.std.proofs.Common.{◌≡◌, ℕ, ◌+◌, ◌<◌, nat_lt, List, [], ◌∷◌, ◌++◌, length, Option, None, Some, is_some, Ok, Err, false, true, refl, sym, ap, ◌∙◌, subst, inl, inr, append-nil, length-append, arith}
use Rattle.std.specs.Int.{from_bool}
use Rattle.std.specs.Io.KnownBytes.{Appends}
use Rattle.std.proofs.lemmas.Bool.Decides.{nat_tests}
use Rattle.lpt_text.specs.Taking.{IsBehind, Story, behind, failures, unless_last}
use Rattle.lpt_text.specs.declared.fault.StreamFault.{StreamFault}
use Rattle.lpt_text.specs.declared.fault.StreamFault.TheVariants as faults
use Rattle.lpt_text.specs.Streams.{AppendsPart}
use Rattle.lpt_text.proofs.StreamLemmas.{part_of_front}
use Rattle.lpt_text.specs.declared.taking.Taken.{Taken}
use Rattle.lpt_text.specs.declared.taking.Taken.TheVariants.{Done, Failed, Over}
use Rattle.lpt_script.proofs.LineLemmas.{unread}
use Rattle.lpt_script.specs.Runs.{ended_by}
use Rattle.lpt_script.specs.RunsInside.{LineTaken}
use Rattle.lpt_script.specs.Scripts.{Ran, line_ran, then_rest}
use Rattle.lpt_script_words.specs.declared.grammar.Reading.TheVariants.{Unreadable}
use Rattle.lpt_world.specs.Worlds.{Shown}
use Rattle.lpt_script_views.specs.Viewing.{ViewsLeft, line_viewed, lines_viewed, unread_ran, view_story, viewed_as}
use Rattle.lpt_script_views.specs.Views.{asked_view}

-- a line that is too long asks for no view
asked_none : (line : List ℕ) → 140000 < length line → asked_view line ≡ None
asked_none line long =
    let test : nat_lt 140000 (length line) ≡ true = grind (arith, nat_tests) in
    rw test refl

-- it is unreadable
pub long_line : (w : Shown) (line : List ℕ) (n : ℕ)
    → 140000 < length line
    → line_viewed w line n ≡ line_ran Unreadable n w
long_line w line n long =
    ap (viewed_as w line n) (unread w.config.source line long)
    ∙ ap (unread_ran w n) (asked_none line long)

-- whatever is behind octets of a line that were taken, the line does the same
same_line : (w : Shown) (line rest : List ℕ) (n : ℕ)
    → IsBehind line rest
    → line_viewed w (line ++ rest) n ≡ line_viewed w line n
same_line w line rest n (inl none) =
    ap (λ x. line_viewed w (line ++ x) n) none ∙ ap (λ x. line_viewed w x n) (append-nil line)
same_line w line rest n (inr long) =
    long_line w (line ++ rest) n (omega (arith, length-append line rest)) ∙ sym (long_line w line n long)

-- what a line and those behind it do, by what it does and whether it ends them
story_by : (ran : Ran) → (n refused : ℕ) → List (List ℕ) → Option ℕ → Story ViewsLeft
story_by ran n refused more bad =
    let script = then_rest ran n refused (lines_viewed more) bad in
    record { text = script.text; left = record { refused = script.refused; bad = script.bad } }

-- a line does what it does alone, and then those behind it do the rest
line_story : (w : Shown) (n refused : ℕ) (line rest : List ℕ) (more : List (List ℕ)) (taken : Taken)
    → IsBehind line rest
    → let ran = line_viewed w line n in
    ran.bad ≡ ended_by taken n
    → from_bool (is_some ran.refused) ≡ failures taken
    → view_story w None ((line ++ rest) ∷ more) n refused
    ≡ behind ran.text (view_story ran.world (ended_by taken n) (unless_last taken more) (n + 1)
    (refused + failures taken))
unfolding story_by
line_story w n refused line rest more taken long ended failed =
    ap (λ r. story_by r n refused more r.bad) (same_line w line rest n long)
    ∙ by_taken taken ended failed
  where
    ran : Ran
    ran = line_viewed w line n

    by_taken : (taken : Taken) → ran.bad ≡ ended_by taken n
        → from_bool (is_some ran.refused) ≡ failures taken
        → story_by ran n refused more ran.bad
        ≡ behind ran.text (view_story ran.world (ended_by taken n) (unless_last taken more) (n + 1)
        (refused + failures taken))
    by_taken Done ended failed =
        ap (story_by ran n refused more) ended
        ∙ ap (λ k. behind ran.text (view_story ran.world None more (n + 1) (refused + k))) failed
    by_taken Failed ended failed =
        ap (story_by ran n refused more) ended
        ∙ ap (λ k. behind ran.text (view_story ran.world None more (n + 1) (refused + k))) failed
    by_taken Over ended failed =
        let told : List ℕ → ℕ → Story ViewsLeft =
        λ t k. record { text = t; left = record { refused = k; bad = Some n } } in
        let none : refused ≡ refused + 0 = omega arith in
        ap (story_by ran n refused more) ended
        ∙ ap (λ t. told t refused) (sym (append-nil ran.text))
        ∙ ap (λ k. told (ran.text ++ []) k) none

-- a front part of what a line writes is one of what it and those behind it write
line_part : (w : Shown) (n refused : ℕ) (line : List ℕ) (more : List (List ℕ)) (a b : Option (List ℕ))
    → AppendsPart a b (line_viewed w line n).text
    → AppendsPart a b (view_story w None (line ∷ more) n refused).text
line_part w n refused line more a b part = by_bad ran.bad
  where
    ran : Ran
    ran = line_viewed w line n

    by_bad : (bad : Option ℕ) → AppendsPart a b (then_rest ran n refused (lines_viewed more) bad).text
    by_bad None =
        part_of_front a b ran.text
        (lines_viewed more ran.world (n + 1) (refused + from_bool (is_some ran.refused))).text part
    by_bad (Some k) = part

-- ---- by the fields of the world on which it is run

none_of : (bad : Option ℕ) → is_some bad ≡ false → bad ≡ None
none_of None fresh = refl
none_of (Some n) fresh = cc

-- a line was run
pub takes_line : (w v : Shown) (bad next_bad : Option ℕ) (n : ℕ) (line : List ℕ) (taken : Taken)
    (a b : Option (List ℕ))
    → is_some bad ≡ false
    → next_bad ≡ ended_by taken n
    → LineTaken (line_viewed w line n) n (Ok taken) v a b
    → (text : List ℕ) × Appends a b text
    × ((rest : List ℕ) (refused : ℕ) (more : List (List ℕ)) → IsBehind line rest
    → view_story w bad ((line ++ rest) ∷ more) n refused
    ≡ behind text (view_story v next_bad (unless_last taken more) (n + 1) (refused + failures taken)))
takes_line w v bad next_bad n line taken a b fresh ends p =
    let ran = line_viewed w line n in (
      ran.text,
      p.3,
      λ rest refused more long.
          let ls = unless_last taken more in
          let k = refused + failures taken in
          ap (λ x. view_story w x ((line ++ rest) ∷ more) n refused) (none_of bad fresh)
          ∙ line_story w n refused line rest more taken long p.0 p.1
          ∙ ap (λ x. behind ran.text (view_story x (ended_by taken n) ls (n + 1) k)) (sym p.2)
          ∙ ap (λ x. behind ran.text (view_story v x ls (n + 1) k)) (sym ends),
    )

-- a line could not be run
pub breaks_line : (w v : Shown) (bad : Option ℕ) (n : ℕ) (line : List ℕ) (fault : StreamFault)
    (a b : Option (List ℕ))
    → is_some bad ≡ false
    → LineTaken (line_viewed w line n) n (Err fault) v a b
    → (refused : ℕ) (more : List (List ℕ))
    → AppendsPart a b (view_story w bad (line ∷ more) n refused).text
breaks_line w v bad n line fault a b fresh p refused more =
    subst (λ x. AppendsPart a b (view_story w x (line ∷ more) n refused).text)
    (sym (none_of bad fresh))
    (line_part w n refused line more a b (by_fault fault p))
  where
    by_fault : (fault : StreamFault) → LineTaken (line_viewed w line n) n (Err fault) v a b
        → AppendsPart a b (line_viewed w line n).text
    by_fault faults.Write p = p
    by_fault faults.Memory p = p
    by_fault faults.Read p = absurd p
