-- How a message's packets go on, and what is told with the last of them.
use Rattle.std.proofs.Common.{◌≡◌, ◌≢◌, ◌∙◌, ap, sym, subst, refl, inl, inr, ◌⊎◌, ℕ, ◌+◌, ◌≤◌, ◌==◌, Bool, true, false, not, ◌||◌, ◌&&◌, if◌then◌else◌, List, [], ◌∷◌, ◌++◌, length, append-nil, append_assoc}
use Rattle.std.specs.Prelude.{Option, Some, None, is_some}
use Rattle.std.specs.List.{AllByRecursion}
use Rattle.std.proofs.lemmas.Bool.Decides.{eqb_tells}
use Rattle.lpt_packet.proofs.BoolLemmas.{or_assoc, or_false, or_false_left, or_false_right, or_right, some_is}
use Rattle.lpt_packet.proofs.Readings.{eq_true, true_eq}
use Rattle.lpt_part.specs.Parts.{Piece, nth_part}
use Rattle.lpt_part.specs.Splitting as message_part
use Rattle.lpt_part.specs.Splitting.{part_count}
use Rattle.lpt_carried.specs.declared.name.Name.{Name}
use Rattle.lpt_carried.specs.declared.reading.Reading.{Reading}
use Rattle.lpt_carried.specs.Carried.{part_carried, part_of}
use Rattle.lpt_layout_join.specs.Came.{Came, are_of, message_of, nothing_came, octets_of}
use Rattle.lpt_layout_join.specs.Counts.{Counted, packet_counted}
use Rattle.lpt_layout_join.specs.Gathered.{came, is_end, is_part}
use Rattle.lpt_layout_join.specs.Laws.{IsSplit}
use Rattle.lpt_layout_join.specs.Writes.{unfit}
use Rattle.lpt_layout_join.proofs.PartsLemmas.{joined-all, nth-more, octets-come, octets-kept}
use Rattle.lpt_layout_each.specs.Eaches.{Course, Goes, Held, Run, course_by, end_by, end_run, fresh, gave_before, held_begun, held_from, is_same, missing_at, more, news_from, news_listed, no_run, nothing, run_before, run_turn, staleness, step, step_by, step_of, told_in_order}
use Rattle.lpt_layout_each.specs.News.{News, Given}
use Rattle.lpt_layout_each.specs.Sends.{Belongs, FirstBeforeLast}
use Rattle.lpt_layout_each.proofs.FitLemmas.{fit-any}
use Rattle.lpt_layout_each.proofs.InnerLemmas.{IsInner, none_inner, run-cases}
use Rattle.lpt_layout_each.proofs.PartLemmas.{Are, are-own, octets-own}
use Rattle.lpt_layout_each.proofs.KeptLemmas as keeps

no_true : true ≡ false → ⊥
no_true h = cc

no_some : {A : Type 0} (x : A) → ◌≡◌ {A = Option A} (Some x) None → ⊥
no_some x h = cc

module _ (r : Reading) (any : Bool) (n : Name) (m : List ℕ) (p : ℕ) (split : IsSplit p m)
    (number : ℕ) (some : 1 ≤ number) (within : number ≤ part_count (length m) p) where
  abbrev total : ℕ
  total = part_count (length m) p

  abbrev nth : ℕ → Piece
  nth k = nth_part p n.id m k

  abbrev Lack : List Piece → Type 0
  Lack qs = keeps.Lack r any n m p split number some within qs

  abbrev IsKept : Option Came → Held → List Piece → Type 0
  IsKept last h qs = keeps.IsKept r any n m p split number some within last h qs

  abbrev IsBefore : Run → Type 0
  IsBefore run = keeps.IsBefore r any n m p split number some within run

  -- the run began with the message's first part, and nothing was given out since; or that didn't
  -- come yet, and before it comes no packet of these carries a last one
  abbrev pub Stands : Run → (gave : Bool) → (done rest : List (List ℕ)) → Type 0
  Stands run gave done rest =
      (IsBefore run × (gave ≡ false))
      ⊎ ((came r n 1 done ≡ false) × FirstBeforeLast r n p m rest)

  -- this is kept behind packets of the message, before others
  pub record IsAt (last : Option Came) (done rest : List (List ℕ)) (c : Course) : Type 0 where
    pub qs : List Piece
    pub lack : Lack qs
    pub shown : (k : ℕ) → came r n k done ≡ true → is_some (octets_of qs k) ≡ true
    pub kept : IsKept last c.held qs
    pub inner : IsInner c.run
    pub stands : Stands c.run c.gave done rest

  pub came-more : (k : ℕ) (bs : List (List ℕ)) (b : List ℕ) (o : Option Piece)
      → part_of n (part_carried r b) ≡ o
      → came r n k (bs ++ b ∷ []) ≡ (came r n k bs || is_part k o)
  came-more k [] b o is =
      or_false (is_part k (part_of n (part_carried r b))) ∙ ap (is_part k) is
  came-more k (x ∷ bs) b o is =
      ap (λ (e : Bool). is_part k (part_of n (part_carried r x)) || e) (came-more k bs b o is)
      ∙ sym (or_assoc (is_part k (part_of n (part_carried r x))) (came r n k bs) (is_part k o))

  -- a packet that carries no part of the name
  none-step : (last : Option Came) (done rest : List (List ℕ)) (b : List ℕ) (c : Course)
      → part_of n (part_carried r b) ≡ None
      → IsAt last done (b ∷ rest) c
      → IsAt last (done ++ b ∷ []) rest c
  none-step last done rest b c is h = record {
    qs = h.qs;
    lack = h.lack;
    shown = λ k e. h.shown k (sym (same k) ∙ e);
    kept = h.kept;
    inner = h.inner;
    stands = still h.stands;
  } where
    same : (k : ℕ) → came r n k (done ++ b ∷ []) ≡ came r n k done
    same k = came-more k done b None is ∙ or_false (came r n k done)

    still : Stands c.run c.gave done (b ∷ rest) → Stands c.run c.gave (done ++ b ∷ []) rest
    still (inl w) = inl w
    still (inr (w, inl v)) = absurd (no_some (nth 1) (sym v.is ∙ is))
    still (inr (w, inr v)) = inr (same 1 ∙ w, v.1)

  -- how the run stands with part k
  stands-step : (now : ℕ) (done rest : List (List ℕ)) (b : List ℕ) (c : Course) (k : ℕ)
      → part_of n (part_carried r b) ≡ Some (nth k)
      → 1 ≤ k
      → k ≤ total
      → k ≢ number
      → IsInner c.run
      → Stands c.run c.gave done (b ∷ rest)
      → (s : Run) × (run_turn c.run now (nth k) ≡ Goes s) × IsInner s
      × Stands s (gave_before c k) (done ++ b ∷ []) rest
  stands-step now done rest b c k is least most other inner (inl h) =
      let begun = keeps.begins_before r any n m p split number some within c.run (k == 1) h.0 in
      let w = keeps.run-front r any n m p split number some within now c.run k inner begun least
      most other in
      (w.0, w.1, w.2, inl (w.3, before (k == 1))) where
        before : (one : Bool) → (if one then false else c.gave) ≡ false
        before true = refl
        before false = h.1
  stands-step now done rest b c k is least most other inner (inr h) = go (k == 1) refl h.1 where
    began : (k == 1) ≡ true
        → (s : Run) × (run_turn c.run now (nth k) ≡ Goes s) × IsInner s
        × Stands s (gave_before c k) (done ++ b ∷ []) rest
    began one =
        let begun : IsBefore (run_before c.run k) =
        subst (λ (run : Run). IsBefore run)
        (sym (ap (λ (e : Bool). if e then no_run else c.run) one))
        (keeps.none_before r any n m p split number some within) in
        let w = keeps.run-front r any n m p split number some within now c.run k inner begun least
        most other in
        (w.0, w.1, w.2, inl (w.3, ap (λ (e : Bool). if e then false else c.gave) one))

    go : (one : Bool)
        → (k == 1) ≡ one
        → FirstBeforeLast r n p m (b ∷ rest)
        → (s : Run) × (run_turn c.run now (nth k) ≡ Goes s) × IsInner s
        × Stands s (gave_before c k) (done ++ b ∷ []) rest
    go true one calm = began one
    go false one (inl v) =
        let its : nth 1 ≡ nth k = same_piece (nth 1) (nth k) (sym v.is ∙ is) in
        began (eq_true k 1 (sym (ap (λ (q : Piece). q.number) its))) where
          same_piece : (a b : Piece) → ◌≡◌ {A = Option Piece} (Some a) (Some b) → a ≡ b
          same_piece a b e = cc
    go false one (inr v) = elim (run-cases now (nth k) c.run inner) [
      | inl w ↦ (
        w.0,
        w.1,
        w.2,
        inr (
          came-more 1 done b (Some (nth k)) is
              ∙ (λ i. h.0 i || one i),
          v.1,
        ),
      )
      | inr w ↦ absurd (no_true (sym w.0 ∙ sym (ap is_end is) ∙ v.0))
    ]

  -- a part of the message behind others
  part-step : (now : ℕ) (last : Option Came) (done rest : List (List ℕ)) (b : List ℕ) (c : Course)
      (k : ℕ)
      → part_of n (part_carried r b) ≡ Some (nth k)
      → 1 ≤ k
      → k ≤ total
      → k ≢ number
      → IsAt last done (b ∷ rest) c
      → (d : Course) × (◌≡◌ {A = Course × Option News} (step r any now c (nth k)) (d, None))
      × IsAt last (done ++ b ∷ []) rest d
  unfolding step
  part-step now last done rest b c k is least most other h =
      let run = stands-step now done rest b c k is least most other h.inner h.stands in
      let kept = keeps.gather-waits r any n m p split number some within true last c.held h.qs k
      h.kept h.lack least most other in (
        record {
          held = kept.0;
          run = run.0;
          stale = staleness c k && true;
          gave = gave_before c k || false;
        },
        ap (step_by r any c (nth k)) run.1
            ∙ ap (λ (w : Held × Option News).
            (course_by run.0 (staleness c k) (gave_before c k) w.0 w.1, w.1)) kept.1,
        record {
          qs = h.qs ++ nth k ∷ [];
          lack = keeps.lack-more r any n m p split number some within h.qs k h.lack least most
              other;
          shown = λ i e. shown i (came r n i done) refl
              (sym (came-more i done b (Some (nth k)) is) ∙ e);
          kept = kept.2;
          inner = run.2;
          stands = subst (λ (g : Bool). Stands run.0 g (done ++ b ∷ []) rest)
              (sym (or_false (gave_before c k))) run.3;
        },
      ) where
        still : (i : ℕ) → is_some (octets_of h.qs i) ≡ true
            → is_some (octets_of (h.qs ++ nth k ∷ []) i) ≡ true
        still i e =
            let w = some_is (octets_of h.qs i) e in
            ap is_some (octets-kept h.qs (nth k) i w.0 w.1)

        shown : (i : ℕ) (before : Bool)
            → came r n i done ≡ before
            → (came r n i done || (k == i)) ≡ true
            → is_some (octets_of (h.qs ++ nth k ∷ []) i) ≡ true
        shown i true was e = still i (h.shown i was)
        shown i false was e =
            let same : k ≡ i = true_eq k i (sym (ap (λ (a : Bool). a || (k == i)) was) ∙ e) in
            subst (λ (j : ℕ). is_some (octets_of (h.qs ++ nth k ∷ []) j) ≡ true) same
            (ap is_some (octets-come m p n.id split h.qs k h.lack.are))

  -- a packet before the last
  front-step : (now : ℕ) (last : Option Came) (done rest : List (List ℕ)) (b : List ℕ) (c : Course)
      → Belongs r n p m b
      → is_part number (part_of n (part_carried r b)) ≡ false
      → IsAt last done (b ∷ rest) c
      → (d : Course)
      × (◌≡◌ {A = Course × Option News} (step_of r any now c (part_of n (part_carried r b)))
      (d, None))
      × IsAt last (done ++ b ∷ []) rest d
  front-step now last done rest b c (inl none) first h =
      (c, ap (step_of r any now c) none, none-step last done rest b c none h)
  front-step now last done rest b c (inr (k, one)) first h =
      let w = part-step now last done rest b c k one.is one.some one.within other h in
      (w.0, ap (step_of r any now c) one.is ∙ w.1, w.2) where
        other : k ≢ number
        other e =
            no_true (sym (eq_true k number e) ∙ sym (ap (is_part number) one.is) ∙ first)

  pub front-all : (rest : List (List ℕ)) (i : Counted) (last : Option Came) (done : List (List ℕ))
      (c : Course)
      → AllByRecursion (Belongs r n p m) rest
      → came r n number rest ≡ false
      → IsAt last done rest c
      → IsAt last (done ++ rest) [] (held_from r any n i c rest)
      × (news_from r any n i c rest ≡ [])
  front-all [] i last done c all first h = (
    subst (λ (bs : List (List ℕ)). IsAt last bs [] c) (sym (append-nil done)) h,
    refl,
  )
  front-all (b ∷ rest) i last done c all first h =
      let now = missing_at r i b in
      let part = part_of n (part_carried r b) in
      let w = front-step now last done rest b c all.0
      (or_false_left (is_part number part) (came r n number rest) first) h in
      let more = front-all rest (packet_counted r i b) last (done ++ b ∷ []) w.0 all.1
      (or_false_right (is_part number part) (came r n number rest) first) w.2 in (
        subst (λ (bs : List (List ℕ)).
            IsAt last bs [] (held_from r any n i c (b ∷ rest)))
            (append_assoc done (b ∷ []) rest)
            (subst (λ (s : Course × Option News). IsAt last ((done ++ b ∷ []) ++ rest) []
            (held_from r any n (packet_counted r i b) s.0 rest)) (sym w.1) more.0),
        ap (λ (s : Course × Option News).
            news_listed s.1 ++ news_from r any n (packet_counted r i b) s.0 rest) w.1
            ∙ more.1,
      )

  -- ---- the last packet

  -- this is kept behind a message
  pub record IsBegun (last : Option Came) (c : Course) : Type 0 where
    pub held : c.held ≡ held_begun last nothing_came
    pub inner : IsInner c.run

  -- all parts are there
  pub all-there : (qs : List Piece)
      → Lack qs
      → ((k : ℕ) → 1 ≤ k → k ≤ total → k ≢ number → is_some (octets_of qs k) ≡ true)
      → message_of (qs ++ nth number ∷ []) ≡ Some m
  all-there qs h each =
      joined-all m p n.id split (qs ++ nth number ∷ [])
      (nth-more m p n.id split qs number h.are some within) at where
        at : (k : ℕ) → 1 ≤ k → k ≤ total
            → octets_of (qs ++ nth number ∷ []) k ≡ Some (message_part.part_of m p k)
        at k least most = elim (eqb_tells k number) [
          | inl v ↦
              subst (λ (j : ℕ). octets_of (qs ++ nth number ∷ []) j
              ≡ Some (message_part.part_of m p j)) (sym v.1)
              (octets-come m p n.id split qs number h.are)
          | inr v ↦
              let w = some_is (octets_of qs k) (each k least most v.1) in
              octets-kept qs (nth number) k (message_part.part_of m p k)
              (w.1 ∙ ap Some (octets-own m p n.id split qs k w.0 h.are least most w.1))
        ]

  pub last-step : (now : ℕ) (last : Option Came) (done : List (List ℕ)) (c : Course)
      → unfit r any false m ≡ None
      → (h : IsAt last done [] c)
      → message_of (h.qs ++ nth number ∷ []) ≡ Some m
      → IsBefore (run_before c.run number)
      → gave_before c number ≡ false
      → (d : Course) × (l : Came)
      × (◌≡◌ {A = Course × Option News} (step r any now c (nth number)) (d, Some (Given m)))
      × IsBegun (Some l) d
  unfolding step
  last-step now last done c fit h whole before nothing =
      elim (keeps.run-last r any n m p split number some within now c.run h.inner before) [
        | inl w ↦
            let g = keeps.gather-gives r any n m p split number some within true last c.held h.qs
            fit h.kept h.lack whole in (
              record {
                held = held_begun (Some g.0) nothing_came;
                run = w.0;
                stale = staleness c number && false;
                gave = gave_before c number || true;
              },
              g.0,
              ap (step_by r any c (nth number)) w.1
                  ∙ ap (λ (u : Held × Option News).
                  (course_by w.0 (staleness c number) (gave_before c number) u.0 u.1, u.1)) g.1,
              record { held = refl; inner = w.2 },
            )
        | inr w ↦
            let d = w.0 in
            let e : Course = record c { run = no_run } in (
              fresh (Some d),
              d,
              ap (step_by r any c (nth number)) w.2
                  ∙ ap (end_run r any e (nth number) d m) (fit-any r any w.1 m fit)
                  ∙ ap (λ (g : Bool). end_by r any e (nth number) d m (g && is_same c.held.last m))
                  nothing
                  ∙ ap (λ (own : Bool).
                  (fresh (Some d), Some (told_in_order own c.held.new m)))
                  (own last c.held h.qs h.kept h.lack d w.3 w.4),
              record { held = refl; inner = none_inner },
            )
      ] where
        own : (last : Option Came) (g : Held) (qs : List Piece)
            → IsKept last g qs
            → Lack qs
            → (d : Came)
            → Are m p n.id split d.parts
            → message_of d.parts ≡ Some m
            → (not c.stale || are_of g.new.parts d.parts) ≡ true
        own None g qs kept lack d are is =
            or_right (not c.stale) (are_of g.new.parts d.parts)
            (ap (λ (x : Held). are_of x.new.parts d.parts) kept
            ∙ are-own m p n.id split qs d.parts m lack.are are is)
        own (Some l) g qs kept lack d are is =
            or_right (not c.stale) (are_of g.new.parts d.parts)
            (ap (λ (x : Held). are_of x.new.parts d.parts) kept.2
            ∙ are-own m p n.id split kept.0 d.parts m kept.1.are are is)
