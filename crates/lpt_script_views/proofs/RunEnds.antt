-- How the run of a script that may ask for views ends.
use Rattle.std.proofs.Common.{◌≡◌, ℕ, ◌+◌, ◌<◌, List, [], ◌∷◌, ◌++◌, length, Option, None, Some, Result, Ok, Err, Bool, true, false, refl, sym, ap, ◌∙◌, subst, inl, inr, ◌⊎◌, append-nil, is_some, arith}
use Rattle.std.proofs.KnownBytes.{Appends-kept, Consumes-nil}
use Rattle.std.specs.Int.{from_bool}
use Rattle.std.specs.Io.KnownBytes.{Appends, Consumes, Keeps}
use Rattle.lpt_text.proofs.Pieces.{lines-long_end}
use Rattle.lpt_text.proofs.StreamLemmas.{part_unchanged, part_whole}
use Rattle.lpt_text.specs.Reading.{EndsLine, EndsLong}
use Rattle.lpt_text.specs.Streams.{AppendsPart, WriteEnds}
use Rattle.lpt_text.specs.Taking.{LinesTaken, TakesText}
use Rattle.lpt_text.specs.Texts.{lines}
use Rattle.lpt_text.specs.declared.fault.StreamFault.{StreamFault}
use Rattle.lpt_text.specs.declared.fault.StreamFault.TheVariants as faults
use Rattle.lpt_script.specs.Ends.{LinesEnd}
use Rattle.lpt_script.specs.Runs.{script_end}
use Rattle.lpt_script.specs.Scripts.{Ran, then_rest}
use Rattle.lpt_script.specs.declared.end.ScriptEnd.{ScriptEnd}
use Rattle.lpt_script.specs.declared.fault.ScriptFault.TheVariants as scripts
use Rattle.lpt_world.specs.Worlds.{Shown}
use Rattle.lpt_script_views.proofs.LineLemmas.{long_line}
use Rattle.lpt_script_views.specs.Viewing.{ViewsEnd, is_ended, line_viewed, lines_viewed, script_viewed, story_of, view_story}
use Rattle.lpt_script_views.specs.declared.viewing.Viewing.{Viewing}

-- ---- what was written is passed on

-- the lines ran well, and the writer passed on what was written
pub ok_kept : (w : Shown) (end : ScriptEnd) (old new a b c : Option (List ℕ)) (failed wrote more : Bool)
    → ViewsEnd w (Ok end) old new a b failed wrote
    → Keeps b c
    → ViewsEnd w (Ok end) old new a c failed more
ok_kept w end old new a b c failed wrote more p q =
    (p.0, p.1, p.2, p.3, (p.4.0, p.4.1, Appends-kept a b c (script_viewed w p.0).text p.4.2 q))

-- the lines ran well, and the writer could not pass on what was written
pub flush_failed : (w : Shown) (end : ScriptEnd) (fault : StreamFault) (old new a b c : Option (List ℕ))
    (failed wrote had more : Bool)
    → ViewsEnd w (Ok end) old new a b failed wrote
    → Keeps b c
    → fault ≡ faults.Write
    → WriteEnds {A = Unit} (Err fault) had more
    → ViewsEnd w (Err (scripts.Stream fault)) old new a c failed more
flush_failed w end fault old new a b c failed wrote had more p q cause ends =
    let text = (script_viewed w p.0).text in
    subst (λ f. WriteEnds {A = Unit} (Err f) had more
    → ViewsEnd w (Err (scripts.Stream f)) old new a c failed more) (sym cause)
    (λ ends. (
      (
        p.0,
        [],
        subst (Consumes old new) (sym (append-nil p.0)) p.1,
        inl (refl, p.2),
        p.3,
        part_whole a c text (Appends-kept a b c text p.4.2 q),
      ),
      ends,
    )) ends

-- no memory for a world
pub memory_ends : (w : Shown) (old a : Option (List ℕ)) (failed wrote : Bool)
    → ViewsEnd w (Err (scripts.Stream faults.Memory)) old old a a failed wrote
memory_ends w old a failed wrote = (
  [],
  [],
  Consumes-nil old,
  inr (inl (inl refl)),
  (omega arith),
  part_unchanged a (script_viewed w []).text,
)

-- ---- a line that is too long ends a script

bad_behind : (front : List (List ℕ)) (line : List ℕ) (w : Shown) (n refused : ℕ)
    → 140000 < length line
    → (lines_viewed (front ++ line ∷ []) w n refused).bad ≡ None
    → ⊥
bad_behind [] line w n refused long good =
    let bad = ap (λ (r : Ran). (then_rest r n refused (lines_viewed []) r.bad).bad)
    (long_line w line n long) in
    let never : None ≡ Some n = sym good ∙ bad in absurd cc
bad_behind (l ∷ front) line w n refused long good =
    by_bad (λ v m k. bad_behind front line v m k long) ran.bad good
  where
    ran : Ran
    ran = line_viewed w l n

    by_bad : ((v : Shown) (m k : ℕ) → (lines_viewed (front ++ line ∷ []) v m k).bad ≡ None → ⊥)
        → (bad : Option ℕ)
        → (then_rest ran n refused (lines_viewed (front ++ line ∷ [])) bad).bad ≡ None
        → ⊥
    by_bad behind (Some k) good = absurd cc
    by_bad behind None good =
        behind ran.world (n + 1) (refused + from_bool (is_some ran.refused)) good

whole_lines : (w : Shown) (text : List ℕ)
    → EndsLine text ⊎ EndsLong text
    → (script_viewed w text).bad ≡ None
    → EndsLine text
whole_lines w text (inl ends) good = ends
whole_lines w text (inr long) good =
    let cut = ap lines long.2
    ∙ lines-long_end long.0 long.1 long.3 long.4 (omega (arith, long.5)) in
    absurd (bad_behind (lines long.0) long.1 w 1 0 long.5
    (subst (λ ls. (lines_viewed ls w 1 0).bad ≡ None) cut good))

-- ---- the lines were taken

-- what a run left, by whether a line ended it
left_so : (r t : Viewing) (text : List ℕ) (refused : ℕ) (bad : Option ℕ) (a c : Option (List ℕ))
    → r.bad ≡ None
    → t.bad ≡ bad
    → TakesText story_of r t text refused a c
    → ((script_viewed r.world text).bad ≡ bad)
    × ((script_viewed r.world text).refused ≡ refused)
    × Appends a c (script_viewed r.world text).text
left_so r t text refused bad a c fresh ended told = by_bad bad ended
  where
    by_bad : (bad : Option ℕ) → t.bad ≡ bad
        → ((script_viewed r.world text).bad ≡ bad)
        × ((script_viewed r.world text).refused ≡ refused)
        × Appends a c (script_viewed r.world text).text
    by_bad None ended =
        let is = ap (λ b. view_story r.world b (lines text) 1 0) (sym fresh) ∙ told.2
        ∙ ap (λ b. record {
          text = told.1 ++ (view_story t.world b [] told.0 refused).text;
          left = (view_story t.world b [] told.0 refused).left;
        }) ended in (
          ap (λ s. s.left.bad) is,
          ap (λ s. s.left.refused) is,
          subst (Appends a c) (sym (append-nil told.1) ∙ sym (ap (λ s. s.text) is)) told.3,
        )
    by_bad (Some n) ended =
        let is = ap (λ b. view_story r.world b (lines text) 1 0) (sym fresh) ∙ told.2
        ∙ ap (λ b. record {
          text = told.1 ++ (view_story t.world b [] told.0 refused).text;
          left = (view_story t.world b [] told.0 refused).left;
        }) ended in (
          ap (λ s. s.left.bad) is,
          ap (λ s. s.left.refused) is,
          subst (Appends a c) (sym (append-nil told.1) ∙ sym (ap (λ s. s.text) is)) told.3,
        )

-- how the script ends
pub script_ends : (r t : Viewing) (bad : Option ℕ) (taken : Result ℕ StreamFault)
    (old new a c : Option (List ℕ)) (failed had wrote : Bool)
    → r.bad ≡ None
    → t.bad ≡ bad
    → LinesTaken story_of r t (is_ended t) taken old new a c failed
    → WriteEnds taken had wrote
    → ViewsEnd r.world (script_end taken bad) old new a c failed wrote
script_ends r t None (Ok refused) old new a c failed had wrote fresh is taken ends =
    let p = subst (λ b. LinesTaken story_of r t (is_some b) (Ok refused) old new a c failed) is taken in
    let left = left_so r t p.0 refused None a c fresh is p.4 in
    (p.0, p.1, p.2, p.3, (left.0, sym left.1, left.2))
script_ends r t (Some n) (Ok refused) old new a c failed had wrote fresh is taken ends =
    let p = subst (λ b. LinesTaken story_of r t (is_some b) (Ok refused) old new a c failed) is taken in
    let left = left_so r t p.0 refused (Some n) a c fresh is p.5 in
    (p.0, p.1, p.2, p.3, p.4, (left.0, left.2))
script_ends r t bad (Err faults.Read) old new a c failed had wrote fresh is taken ends = cut t.bad refl
  where
    cut : (b : Option ℕ) → t.bad ≡ b
        → ViewsEnd r.world (Err (scripts.Stream faults.Read)) old new a c failed wrote
    cut (Some n) at = let never : true ≡ false = sym (ap is_some at) ∙ taken.0 in absurd cc
    cut None at =
        let p = taken.1 in
        let left = left_so r t p.0 p.9.0 None a c fresh at p.9.1 in (
          p.0,
          p.1,
          p.2,
          p.3,
          whole_lines r.world p.0 p.4 left.0,
          p.5,
          p.6,
          p.7,
          p.8,
          (left.0, left.2),
        )
script_ends r t bad (Err faults.Write) old new a c failed had wrote fresh is taken ends = (
  (
    taken.0,
    taken.1,
    taken.2,
    taken.3,
    taken.4,
    subst (λ b. AppendsPart a c (view_story r.world b (lines taken.0) 1 0).text) fresh taken.5,
  ),
  ends,
)
script_ends r t bad (Err faults.Memory) old new a c failed had wrote fresh is taken ends = (
  taken.0,
  taken.1,
  taken.2,
  taken.3,
  taken.4,
  subst (λ b. AppendsPart a c (view_story r.world b (lines taken.0) 1 0).text) fresh taken.5,
)
