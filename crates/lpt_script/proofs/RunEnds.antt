-- How the run of a script ends.
use Rattle.std.proofs.Common.{◌≡◌, ◌≢◌, ℕ, ◌+◌, ◌<◌, List, [], ◌∷◌, ◌++◌, length, Option, None, Some, unwrap_or, Result, Ok, Err, IfOk, Bool, true, false, refl, sym, ap, ◌∙◌, subst, inl, inr, ◌⊎◌, append-nil, is_some, arith}
use Rattle.std.proofs.KnownBytes.{Appends-kept}
use Rattle.std.specs.Bool.{⊤}
use Rattle.std.specs.Int.{from_bool}
use Rattle.std.specs.Io.KnownBytes.{Appends, Consumes, Keeps}
use Rattle.lpt_text.proofs.Pieces.{lines-long_end}
use Rattle.lpt_text.proofs.StreamLemmas.{part_unchanged, part_whole}
use Rattle.lpt_text.specs.Reading.{EndsLine, EndsLong}
use Rattle.lpt_text.specs.Streams.{AppendsPart, ReadEnds, WriteEnds}
use Rattle.lpt_text.specs.Taking.{LinesTaken, TakesText}
use Rattle.lpt_text.specs.Texts.{lines}
use Rattle.lpt_text.specs.declared.fault.StreamFault.{StreamFault}
use Rattle.lpt_text.specs.declared.fault.StreamFault.TheVariants as faults
use Rattle.lpt_script.proofs.LineLemmas.{unread}
use Rattle.lpt_script.specs.Ends.{LinesEnd, LinesLeave, RunEnds, streams_end}
use Rattle.lpt_script.specs.Runs.{run_story, script_end, unless_bad}
use Rattle.lpt_script.specs.RunsInside.{is_ended, story_of}
use Rattle.lpt_script.specs.Scripts.{Left, Ran, is_later, kept_of, left_of, lines_left, lines_ran, line_ran, script_ran, says, says_now, then_rest}
use Rattle.lpt_script.specs.declared.end.ScriptEnd.{ScriptEnd}
use Rattle.lpt_script.specs.declared.fault.ScriptFault.TheVariants as scripts
use Rattle.lpt_script.specs.declared.running.Running.{Running}
use Rattle.lpt_world.specs.Worlds.{Shown}

-- ---- what was written is passed on

-- the lines ran well, and the writer passed on what was written
pub ok_kept : (later : Bool) (w : Shown) (end : ScriptEnd) (old new a b c : Option (List ℕ)) (failed wrote more : Bool)
    → RunEnds later w (Ok end) old new a b failed wrote
    → Keeps b c
    → RunEnds later w (Ok end) old new a c failed more
ok_kept later w end old new a b c failed wrote more p q =
    (p.0, p.1, p.2, p.3, (p.4.0, p.4.1, Appends-kept a b c (script_ran later w p.0).text p.4.2 q))

-- the lines ran well, and the writer could not pass on what was written
pub flush_failed : (later : Bool) (w : Shown) (end : ScriptEnd) (fault : StreamFault) (old new a b c : Option (List ℕ)) (failed wrote had more : Bool)
    → RunEnds later w (Ok end) old new a b failed wrote
    → Keeps b c
    → fault ≡ faults.Write
    → WriteEnds {A = Unit} (Err fault) had more
    → RunEnds later w (Err (scripts.Stream fault)) old new a c failed more
flush_failed later w end fault old new a b c failed wrote had more p q cause ends =
    let text = (script_ran later w p.0).text in
    subst (λ f. WriteEnds {A = Unit} (Err f) had more → RunEnds later w (Err (scripts.Stream f)) old new a c failed more) (sym cause)
    (λ ends. (
      (
        p.0,
        [],
        subst (Consumes old new) (sym (append-nil p.0)) p.1,
        inl (refl, p.2),
        p.3,
        part_whole a c text (Appends-kept a b c text p.4.2 q),
      ),
      ends,
    )) ends

-- no memory for a world
pub memory_ends : (later : Bool) (first : Shown) (read : List ℕ) (old new before : Option (List ℕ)) (failed wrote : Bool)
    → Consumes old new read
    → RunEnds later first (Err (scripts.Stream faults.Memory)) old new before before failed wrote
memory_ends later first read old new before failed wrote p =
    ([], read, p, inr (inl (inl refl)), (omega arith), part_unchanged before (script_ran later first []).text)

-- ---- a line that is too long ends a script

bad_behind : (later : Bool) (front : List (List ℕ)) (line : List ℕ) (w : Shown) (n refused : ℕ)
    → 140000 < length line
    → (lines_ran later (front ++ line ∷ []) w n refused).bad ≡ None
    → ⊥
bad_behind later [] line w n refused long good =
    let said = ap (says_now later) (unread w.config.source line long) in
    let bad = ap (λ r. (then_rest (line_ran r n w) n refused (lines_ran later []) (line_ran r n w).bad).bad) said in
    let never : None ≡ Some n = sym good ∙ bad in absurd cc
bad_behind later (l ∷ front) line w n refused long good =
    by_bad (λ v m k. bad_behind later front line v m k long) ran.bad good
  where
    ran : Ran
    ran = line_ran (says later w.config.source l) n w

    by_bad : ((v : Shown) (m k : ℕ) → (lines_ran later (front ++ line ∷ []) v m k).bad ≡ None → ⊥)
        → (bad : Option ℕ)
        → (then_rest ran n refused (lines_ran later (front ++ line ∷ [])) bad).bad ≡ None
        → ⊥
    by_bad behind (Some k) good = absurd cc
    by_bad behind None good =
        behind ran.world (n + 1) (refused + from_bool (is_some ran.refused)) good

whole_lines : (later : Bool) (w : Shown) (text : List ℕ)
    → EndsLine text ⊎ EndsLong text
    → (script_ran later w text).bad ≡ None
    → EndsLine text
whole_lines later w text (inl ends) good = ends
whole_lines later w text (inr long) good =
    let cut = ap lines long.2 ∙ lines-long_end long.0 long.1 long.3 long.4 (omega (arith, long.5)) in
    absurd (bad_behind later (lines long.0) long.1 w 1 0 long.5
    (subst (λ ls. (lines_ran later ls w 1 0).bad ≡ None) cut good))

-- ---- the lines were taken

same_left : (bad : Option ℕ) (l m : Left) → bad ≡ None → unless_bad bad l ≡ Some m → l ≡ m
same_left None l m good is = ap (λ o. unwrap_or o l) is
same_left (Some n) l m good is = absurd cc

-- what a run did that no line ended
none_ended : (r t : Running) (text : List ℕ) (refused : ℕ) (a c : Option (List ℕ))
    → r.bad ≡ None
    → t.bad ≡ None
    → TakesText story_of r t text refused a c
    → LinesEnd (script_ran (is_later r.shows) r.world text) (Ok (record { refused = refused })) a c
    × (lines_left (is_later r.shows) (lines text) r.world 1 (kept_of r.shows) ≡ left_of t.world (kept_of t.shows))
none_ended r t text refused a c fresh good told = (
  (
    bad,
    sym (ap (λ s. s.left.refused) is),
    subst (Appends a c) (sym (append-nil told.1) ∙ sym (ap (λ s. s.text) is)) told.3,
  ),
  same_left (script_ran (is_later r.shows) r.world text).bad
      (lines_left (is_later r.shows) (lines text) r.world 1 (kept_of r.shows)) (left_of t.world (kept_of t.shows)) bad
      (ap (λ s. s.left.left) is),
)
  where
    is : run_story (is_later r.shows) (kept_of r.shows) r.world None (lines text) 1 0
        ≡ record { text = told.1 ++ []; left = record { refused = refused; bad = None; left = Some (left_of t.world (kept_of t.shows)) } }
    is =
        ap (λ b. run_story (is_later r.shows) (kept_of r.shows) r.world b (lines text) 1 0) (sym fresh) ∙ told.2
        ∙ ap (λ b. record {
          text = told.1 ++ (run_story (is_later t.shows) (kept_of t.shows) t.world b [] told.0 refused).text;
          left = (run_story (is_later t.shows) (kept_of t.shows) t.world b [] told.0 refused).left;
        }) good

    bad : (script_ran (is_later r.shows) r.world text).bad ≡ None
    bad = ap (λ s. s.left.bad) is

-- what a run did that this line ended
line_ended : (r t : Running) (text : List ℕ) (n refused : ℕ) (a c : Option (List ℕ))
    → r.bad ≡ None
    → t.bad ≡ Some n
    → TakesText story_of r t text refused a c
    → LinesEnd (script_ran (is_later r.shows) r.world text) (Err (scripts.Line n)) a c
line_ended r t text n refused a c fresh ended told =
    (ap (λ s. s.left.bad) is, subst (Appends a c) (sym (append-nil told.1) ∙ sym (ap (λ s. s.text) is)) told.3)
  where
    is : run_story (is_later r.shows) (kept_of r.shows) r.world None (lines text) 1 0
        ≡ record { text = told.1 ++ []; left = record { refused = refused; bad = Some n; left = None } }
    is =
        ap (λ b. run_story (is_later r.shows) (kept_of r.shows) r.world b (lines text) 1 0) (sym fresh) ∙ told.2
        ∙ ap (λ b. record {
          text = told.1 ++ (run_story (is_later t.shows) (kept_of t.shows) t.world b [] told.0 refused).text;
          left = (run_story (is_later t.shows) (kept_of t.shows) t.world b [] told.0 refused).left;
        }) ended

-- how the script ends
pub script_ends : (r t : Running) (bad : Option ℕ) (taken : Result ℕ StreamFault) (old new a c : Option (List ℕ)) (failed had wrote : Bool)
    → r.bad ≡ None
    → t.bad ≡ bad
    → LinesTaken story_of r t (is_ended t) taken old new a c failed
    → WriteEnds taken had wrote
    → RunEnds (is_later r.shows) r.world (script_end taken bad) old new a c failed wrote
script_ends r t None (Ok refused) old new a c failed had wrote fresh is taken ends =
    let p = subst (λ b. LinesTaken story_of r t (is_some b) (Ok refused) old new a c failed) is taken in
    (p.0, p.1, p.2, p.3, (none_ended r t p.0 refused a c fresh is p.4).0)
script_ends r t (Some n) (Ok refused) old new a c failed had wrote fresh is taken ends =
    let p = subst (λ b. LinesTaken story_of r t (is_some b) (Ok refused) old new a c failed) is taken in
    (p.0, p.1, p.2, p.3, p.4, line_ended r t p.0 n refused a c fresh is p.5)
script_ends r t bad (Err faults.Read) old new a c failed had wrote fresh is taken ends = cut t.bad refl
  where
    cut : (b : Option ℕ) → t.bad ≡ b → RunEnds (is_later r.shows) r.world (Err (scripts.Stream faults.Read)) old new a c failed wrote
    cut (Some n) at = let never : true ≡ false = sym (ap is_some at) ∙ taken.0 in absurd cc
    cut None at =
        let p = taken.1 in
        let told = (none_ended r t p.0 p.9.0 a c fresh at p.9.1).0 in
        (p.0, p.1, p.2, p.3, whole_lines (is_later r.shows) r.world p.0 p.4 told.0, p.5, p.6, p.7, p.8, (told.0, told.2))
script_ends r t bad (Err faults.Write) old new a c failed had wrote fresh is taken ends = (
  (
    taken.0,
    taken.1,
    taken.2,
    taken.3,
    taken.4,
    subst (λ b. AppendsPart a c (run_story (is_later r.shows) (kept_of r.shows) r.world b (lines taken.0) 1 0).text) fresh taken.5,
  ),
  ends,
)
script_ends r t bad (Err faults.Memory) old new a c failed had wrote fresh is taken ends = (
  taken.0,
  taken.1,
  taken.2,
  taken.3,
  taken.4,
  subst (λ b. AppendsPart a c (run_story (is_later r.shows) (kept_of r.shows) r.world b (lines taken.0) 1 0).text) fresh taken.5,
)

-- what it leaves
pub script_leaves : (r t : Running) (bad : Option ℕ) (taken : Result ℕ StreamFault) (old new a c : Option (List ℕ)) (failed : Bool)
    → r.bad ≡ None
    → t.bad ≡ bad
    → LinesTaken story_of r t (is_ended t) taken old new a c failed
    → IfOk (script_end taken bad) (λ end. LinesLeave (is_later r.shows) (kept_of r.shows) r.world end (left_of t.world (kept_of t.shows)) old new a c)
script_leaves r t None (Ok refused) old new a c failed fresh is taken =
    let p = subst (λ b. LinesTaken story_of r t (is_some b) (Ok refused) old new a c failed) is taken in
    (p.0, p.1, p.2, p.3, none_ended r t p.0 refused a c fresh is p.4)
script_leaves r t (Some n) (Ok refused) old new a c failed fresh is taken = tt
script_leaves r t bad (Err fault) old new a c failed fresh is taken = tt

-- it ends by no configuration
pub no_config : (bad : Option ℕ) (taken : Result ℕ StreamFault) → script_end taken bad ≢ Err scripts.Config
no_config None (Ok refused) = λ is. cc
no_config (Some n) (Ok refused) = λ is. cc
no_config bad (Err fault) = λ is. cc

-- how it leaves the writer
pub script_writes : (bad : Option ℕ) (taken : Result ℕ StreamFault) (had failed : Bool)
    → WriteEnds taken had failed
    → WriteEnds (streams_end (script_end taken bad)) had failed
script_writes None (Ok refused) had failed p = p
script_writes (Some n) (Ok refused) had failed p = p
script_writes bad (Err fault) had failed p = p

-- and the reader
pub script_reads : (bad : Option ℕ) (taken : Result ℕ StreamFault) (had failed : Bool)
    → ReadEnds ⊤ taken had failed
    → ReadEnds ⊤ (streams_end (script_end taken bad)) had failed
script_reads None (Ok refused) had failed p = p
script_reads (Some n) (Ok refused) had failed p = p
script_reads bad (Err fault) had failed p = p
