-- A message whose parts come in their order is given out with one of them.
use Rattle.std.proofs.Common.{◌≡◌, ◌∙◌, ap, sym, subst, refl, inl, inr, ◌⊎◌, ℕ, ◌+◌, ◌≤◌, ◌==◌, nat_le, nat_lt, Bool, true, false, ◌||◌, if◌then◌else◌, List, [], ◌∷◌, ◌++◌, Option, Some, None, append-nil, append_assoc, arith}
use Rattle.std.specs.Prelude.{is_some}
use Rattle.std.proofs.lemmas.List.Concat.{flat_map-append}
use Rattle.lpt_packet.proofs.BoolLemmas.{and_left, and_right, le_true, true_lt}
use Rattle.lpt_packet.proofs.Readings.{eq_true, eq_false}
use Rattle.lpt_packet.proofs.SightLemmas.{same_octets-true}
use Rattle.lpt_part.specs.Parts.{Piece}
use Rattle.lpt_carried.specs.declared.name.Name.{Name}
use Rattle.lpt_carried.specs.declared.reading.Reading.{Reading}
use Rattle.lpt_layout_join.specs.Came.{Came, message_of, nothing_came}
use Rattle.lpt_carried.specs.Carried.{part_carried, part_of}
use Rattle.lpt_layout_join.specs.declared.ending.MisfitAs.{MisfitAs}
use Rattle.lpt_layout_join.specs.declared.order.Order.{Order}
use Rattle.lpt_layout_join.specs.Counts.{Counted, all_counted, nothing_counted, packet_counted}
use Rattle.lpt_layout_join.specs.Orders.{no_order, order_after, with_again, with_first, with_next}
use Rattle.lpt_layout_join.specs.Writes.{unfit}
use Rattle.lpt_layout_each.specs.Eaches.{Course, Ends, Gives, GivesUp, Goes, Held, Run, Turn, Waits, after, after_all, all_turn, alone, are_own, counts_of, course_held, end_by, end_run, gather, gave_before, go_on, held_from, is_given, is_old, is_same, news, news_left, news_listed, missing_at, more, new_turn, news_from, no_run, nothing, repeats, run_before, run_by, run_joined, run_turn, spells, step, step_by, step_of, told_in_order, turn, turn_fit, turn_joined}
use Rattle.lpt_layout_each.specs.Laws.{Continues, InOrder, Runs, higher}
use Rattle.lpt_layout_each.specs.News.{News, parts_dropped, messages_in, messages_of}
use Rattle.lpt_layout_each.proofs.FitLemmas.{fit-any}
use Rattle.lpt_layout_each.proofs.HeldsLemmas.{news_from-append}

no_true : true ≡ false → ⊥
no_true h = cc

pub messages-append : (vs ws : List News)
    → messages_in (vs ++ ws) ≡ messages_in vs ++ messages_in ws
messages-append vs ws = flat_map-append messages_of vs ws

-- ---- what the others make of a part

-- no message is given out, or this one, and it is the last
abbrev Told : Option Came → Held × Option News → Type 0
Told l w =
    ((is_given w.1 ≡ false) × (messages_in (news_listed w.1) ≡ []) × (w.0.last ≡ l))
    ⊎ ((m : List ℕ) × (d : Came) × (messages_in (news_listed w.1) ≡ m ∷ []) × (w.0.last ≡ Some d)
    × (message_of d.parts ≡ Some m))

-- what is given up tells of none; parts that are given out are joined to the message
abbrev IsQuiet : Turn → Type 0
IsQuiet (Waits c) = Unit {0}
IsQuiet (GivesUp w c) = (is_given (Some w) ≡ false) × (messages_in (news_listed (Some w)) ≡ [])
IsQuiet (Gives c m) = message_of c.parts ≡ Some m

abbrev AreQuiet : Option Turn → Type 0
AreQuiet None = Unit {0}
AreQuiet (Some t) = IsQuiet t

all-told : (l : Option Came) (c : Came) (o : Option Turn) → AreQuiet o → Told l (after_all l c o)
all-told l c None q = inl (refl, refl, refl)
all-told l c (Some (Waits d)) q = inl (refl, refl, refl)
all-told l c (Some (GivesUp w d)) q = inl (refl, refl, refl)
all-told l c (Some (Gives d m)) q = inr (m, d, refl, refl, q)

after-told : (l : Option Came) (now : Turn) (o : Option Turn)
    → IsQuiet now
    → AreQuiet o
    → Told l (after l now o)
after-told l (Waits c) o q k = all-told l c o k
after-told l (GivesUp w c) o q k = inl (q.0, q.1, refl)
after-told l (Gives c m) o q k = inr (m, c, refl, refl, q)

module _ (r : Reading) (any again : Bool) (q : Piece) where
  fit-quiet : (c : Came) (m : List ℕ) (o : Option MisfitAs)
      → message_of c.parts ≡ Some m
      → IsQuiet (turn_fit again q c m o)
  fit-quiet c m None is = is
  fit-quiet c m (Some e) is = (refl, refl)

  joined-quiet : (c : Came) (o : Option (List ℕ))
      → message_of c.parts ≡ o
      → IsQuiet (turn_joined r any again q c o)
  joined-quiet c None is = tt
  joined-quiet c (Some m) is = fit-quiet c m (unfit r any false m) is

  turn-quiet : (c : Came) → IsQuiet (turn r any again c q)
  unfolding turn
  turn-quiet c = by (is_some (more c q).against) where
    by : (b : Bool) → IsQuiet (if b then GivesUp (parts_dropped (more c q)) (alone q)
        else turn_joined r any again q (more c q) (message_of (more c q).parts))
    by true = (refl, refl)
    by false = joined-quiet (more c q) (message_of (more c q).parts) refl

  all-quiet : (o : Option Came) → AreQuiet (all_turn r any again o q)
  all-quiet None = tt
  all-quiet (Some c) = turn-quiet c

  gather-told : (h : Held) → Told h.last (gather r any again h q)
  unfolding gather
  gather-told h = after-told h.last (new_turn r any again h q) (all_turn r any again h.all q)
      (quiet (is_old h.last q)) (all-quiet h.all) where
        quiet : (old : Bool) → IsQuiet (if old then Waits h.new else turn r any again h.new q)
        quiet true = tt
        quiet false = turn-quiet h.new

-- where a message was given out since the run began, the last of them is this
abbrev GaveBy : (gave : Bool) → Option Came → List (List ℕ) → Type 0
GaveBy gave last ms =
    (gave ≡ false)
    ⊎ ((xs : List (List ℕ)) × (l : List ℕ) × (d : Came) × (ms ≡ xs ++ l ∷ []) × (last ≡ Some d)
    × (message_of d.parts ≡ Some l))

gave-next : (gave : Bool) (last : Option Came) (ms : List (List ℕ)) (w : Held × Option News)
    → GaveBy gave last ms
    → Told last w
    → GaveBy (gave || is_given w.1) w.0.last (ms ++ messages_in (news_listed w.1))
gave-next gave last ms w (inl e) (inl v) = inl (λ i. e i || v.0 i)
gave-next gave last ms w (inr u) (inl v) =
    inr (u.0, u.1, u.2, ap (λ ns. ms ++ ns) v.1 ∙ append-nil ms ∙ u.3, v.2 ∙ u.4, u.5)
gave-next gave last ms w g (inr v) = inr (ms, v.0, v.1, ap (λ ns. ms ++ ns) v.2, v.3, v.4)

module _ (r : Reading) (any : Bool) (n : Name) where
  -- what is told of a packet, behind so many counts
  abbrev told_at : Counted → Course → List ℕ → List News
  told_at k c b = news_listed (step_of r any (missing_at r k b) c (part_of n (part_carried r b))).1

  abbrev next_at : Counted → Course → List ℕ → Course
  next_at k c b = (step_of r any (missing_at r k b) c (part_of n (part_carried r b))).0

  news-more : (k : Counted) (c : Course) (bs : List (List ℕ)) (b : List ℕ)
      → news_from r any n k c (bs ++ b ∷ [])
      ≡ news_from r any n k c bs ++ told_at (all_counted r k bs) (held_from r any n k c bs) b
  news-more k c [] b = append-nil (told_at k c b)
  news-more k c (x ∷ bs) b =
      let i = packet_counted r k x in
      let d = next_at k c x in
      ap (λ (ws : List News). told_at k c x ++ ws) (news-more i d bs b)
      ∙ sym (append_assoc (told_at k c x) (news_from r any n i d bs)
      (told_at (all_counted r i bs) (held_from r any n i d bs) b))

  -- ---- the run

  turn-is : (run : Run) (now : ℕ) (q : Piece) (s : Run) (o : Option (List ℕ))
      → run_before run q.number ≡ s
      → q.number ≤ s.order.count + 1
      → is_some (more s.came q).against ≡ false
      → message_of (more s.came q).parts ≡ o
      → run_turn run now q ≡ run_joined (order_after s.order q.number now) (more s.came q) o
  unfolding run_turn
  turn-is run now q s o before next agrees is =
      ap (λ (t : Run). if nat_le q.number (t.order.count + 1)
      then run_by (order_after t.order q.number now) (more t.came q) else Goes no_run) before
      ∙ ap (λ (b : Bool). if b then run_by (order_after s.order q.number now) (more s.came q)
      else Goes no_run) (le_true q.number (s.order.count + 1) next)
      ∙ ap (λ (b : Bool). if b then Goes no_run
      else run_joined (order_after s.order q.number now) (more s.came q)
      (message_of (more s.came q).parts))
      agrees
      ∙ ap (run_joined (order_after s.order q.number now) (more s.came q)) is

  before-one : (run : Run) (i : ℕ) → i ≡ 1 → run_before run i ≡ no_run
  before-one run i h = ap (λ (b : Bool). if b then no_run else run) (eq_true i 1 h)

  before-more : (run : Run) (i : ℕ) → 2 ≤ i → run_before run i ≡ run
  before-more run i h = ap (λ (b : Bool). if b then no_run else run)
      (eq_false i 1 (λ e. omega (arith, e, h)))

  -- ---- a step

  told-own : (own : Bool) (c : Came) (m : List ℕ)
      → messages_in (news_listed (Some (told_in_order own c m))) ≡ m ∷ []
  told-own true c m = refl
  told-own false c m = refl

  -- among these messages it is
  abbrev Among : List ℕ → List (List ℕ) → Type 0
  Among m ms = (earlier : List (List ℕ)) × (later : List (List ℕ)) × (ms ≡ earlier ++ m ∷ later)

  same_one : (o : Option (List ℕ)) (l m : List ℕ) → o ≡ Some l → spells o m ≡ true → l ≡ m
  same_one None l m is same = absurd cc
  same_one (Some k) l m is same = of_some k l is ∙ same_octets-true k m same where
    of_some : (k l : List ℕ) → ◌≡◌ {A = Option (List ℕ)} (Some k) (Some l) → l ≡ k
    of_some k l e = cc

  -- it was given out
  was_given : (gave : Bool) (last : Option Came) (m : List ℕ) (ms ns : List (List ℕ))
      → GaveBy gave last ms
      → gave ≡ true
      → is_same last m ≡ true
      → Among m (ms ++ ns)
  was_given gave last m ms ns (inl e) was same = absurd (no_true (sym was ∙ e))
  was_given gave last m ms ns (inr w) was same =
      let its : w.1 ≡ m = same_one (message_of w.2.parts) w.1 m w.5
      (sym (ap (λ (l : Option Came). is_same l m) w.4) ∙ same) in (
        w.0,
        ns,
        ap (λ (xs : List (List ℕ)). xs ++ ns) w.3 ∙ append_assoc w.0 (w.1 ∷ []) ns
            ∙ ap (λ (l : List ℕ). w.0 ++ l ∷ ns) its,
      )

  -- with the last part it is given out, or it was
  step-ends : (now : ℕ) (c : Course) (q : Piece) (d : Came) (m : List ℕ) (sure : Bool)
      (ms : List (List ℕ))
      → unfit r any false m ≡ None
      → run_turn c.run now q ≡ Ends d m sure
      → GaveBy (gave_before c q.number) c.held.last ms
      → Among m (ms ++ messages_in (news_listed (step r any now c q).1))
  unfolding step
  step-ends now c q d m sure ms fit turns gave =
      let e : Course = record c { run = no_run } in
      subst (λ (w : Course × Option News). Among m (ms ++ messages_in (news_listed w.1)))
      (sym (ap (step_by r any c q) turns ∙ ap (end_run r any e q d m) (fit-any r any sure m fit)))
      (go (repeats e q.number m) refl) where
        go : (again : Bool)
            → repeats (record c { run = no_run }) q.number m ≡ again
            → Among m (ms ++ messages_in
            (news_listed (end_by r any (record c { run = no_run }) q d m again).1))
        go true e =
            was_given (gave_before c q.number) c.held.last m ms
            (messages_in (news_listed (go_on r any false (record c { run = no_run }) q).1)) gave
            (and_left (gave_before c q.number) (is_same c.held.last m) e)
            (and_right (gave_before c q.number) (is_same c.held.last m) e)
        go false e =
            (ms, [], ap (λ ns. ms ++ ns) (told-own (are_own c d) c.held.new m))

  step-goes : (now : ℕ) (c : Course) (q : Piece) (run : Run) (ms : List (List ℕ))
      → run_turn c.run now q ≡ Goes run
      → GaveBy (gave_before c q.number) c.held.last ms
      → ((step r any now c q).0.run ≡ run)
      × GaveBy (step r any now c q).0.gave (step r any now c q).0.held.last
      (ms ++ messages_in (news_listed (step r any now c q).1))
  unfolding step
  step-goes now c q run ms turns gave =
      subst (λ (w : Course × Option News). (w.0.run ≡ run)
      × GaveBy w.0.gave w.0.held.last (ms ++ messages_in (news_listed w.1)))
      (sym (ap (step_by r any c q) turns)) (
        refl,
        gave-next (gave_before c q.number) c.held.last ms (gather r any true c.held q) gave
            (gather-told r any true q c.held),
      )

  gave-one : (c : Course) (i : ℕ) → i ≡ 1 → gave_before c i ≡ false
  gave-one c i h = ap (λ (b : Bool). if b then false else c.gave) (eq_true i 1 h)

  gave-more : (c : Course) (i : ℕ) → 2 ≤ i → c.gave ≡ gave_before c i
  gave-more c i h =
      sym (ap (λ (b : Bool). if b then false else c.gave)
      (eq_false i 1 (λ e. omega (arith, e, h))))

  -- ---- the packets

  -- these came in their order, up to this number
  record IsUpTo (run : Run) (k : ℕ) (d : Came) : Type 0 where
    count_is : run.order.count ≡ k
    came_is : run.came ≡ d

  -- how many they are, with another one than the first
  ordered-count : (o : Order) (i now : ℕ)
      → 2 ≤ i
      → i ≤ o.count + 1
      → (order_after o i now).count ≡ higher o.count i
  ordered-count o i now some next =
      ap (λ (b : Bool). (if b then with_first now
      else if nat_lt o.count i then (if i == o.count + 1 then with_next o i now else no_order)
      else with_again o).count) (eq_false i 1 (λ e. omega (arith, e, some)))
      ∙ behind (nat_lt o.count i) refl where
        behind : (b : Bool) → nat_lt o.count i ≡ b
            → (if b then (if i == o.count + 1 then with_next o i now else no_order)
            else with_again o).count
            ≡ (if b then i else o.count)
        behind false e = refl
        behind true e =
            let past = true_lt o.count i e in
            let is : i ≡ o.count + 1 = omega (arith, past, next) in
            ap (λ (t : Bool). (if t then with_next o i now else no_order).count)
            (eq_true i (o.count + 1) is)

  -- up to which the run came behind packets, and what was given out since it began
  abbrev IsOn : Course → ℕ → Came → List (List ℕ) → Type 0
  IsOn c k d ms = IsUpTo c.run k d × GaveBy c.gave c.held.last ms

  step-on : (k : Counted) (c : Course) (q : Piece) (b : List ℕ) (s : Run) (ms : List (List ℕ))
      → part_of n (part_carried r b) ≡ Some q
      → run_before c.run q.number ≡ s
      → q.number ≤ s.order.count + 1
      → Continues s.came q
      → GaveBy (gave_before c q.number) c.held.last ms
      → ((next_at k c b).run
      ≡ record { order = order_after s.order q.number (missing_at r k b); came = more s.came q })
      × GaveBy (next_at k c b).gave (next_at k c b).held.last (ms ++ messages_in (told_at k c b))
  step-on k c q b s ms is before next goes gave =
      let now = missing_at r k b in
      let on : Run = record { order = order_after s.order q.number now; came = more s.came q } in
      subst (λ (o : Option Piece). ((step_of r any now c o).0.run ≡ on)
      × GaveBy (step_of r any now c o).0.gave (step_of r any now c o).0.held.last
      (ms ++ messages_in (news_listed (step_of r any now c o).1)))
      (sym is)
      (step-goes now c q on ms (turn-is c.run now q s None before next goes.agrees goes.waits) gave)

  up-next : (k : Counted) (c : Course) (b : List ℕ) (q : Piece) (i : ℕ) (d : Came)
      (ms : List (List ℕ))
      → IsOn c i d ms
      → part_of n (part_carried r b) ≡ Some q
      → 2 ≤ q.number
      → q.number ≤ i + 1
      → Continues d q
      → IsOn (next_at k c b) (higher i q.number) (more d q) (ms ++ messages_in (told_at k c b))
  up-next k c b q i d ms at is some next goes =
      let up = at.0 in
      let within = subst (λ (j : ℕ). q.number ≤ j + 1) (sym up.count_is) next in
      let on = step-on k c q b c.run ms is (before-more c.run q.number some) within
      (subst (λ (e : Came). Continues e q) (sym up.came_is) goes)
      (subst (λ (g : Bool). GaveBy g c.held.last ms) (gave-more c q.number some) at.1) in (
        record {
          count_is = ap (λ (t : Run). t.order.count) on.0
              ∙ ordered-count c.run.order q.number (missing_at r k b) some within
              ∙ ap (λ (j : ℕ). higher j q.number) up.count_is;
          came_is = ap (λ (t : Run). t.came) on.0 ∙ ap (λ (e : Came). more e q) up.came_is;
        },
        on.1,
      )

  -- one packet, and those behind it
  on-more : (k : Counted) (c : Course) (b : List ℕ) (bs : List (List ℕ)) (i : ℕ) (d : Came)
      (ms : List (List ℕ))
      → IsOn (held_from r any n (packet_counted r k b) (next_at k c b) bs) i d
      ((ms ++ messages_in (told_at k c b))
      ++ messages_in (news_from r any n (packet_counted r k b) (next_at k c b) bs))
      → IsOn (held_from r any n k c (b ∷ bs)) i d
      (ms ++ messages_in (news_from r any n k c (b ∷ bs)))
  on-more k c b bs i d ms h =
      let told = told_at k c b in
      let behind = news_from r any n (packet_counted r k b) (next_at k c b) bs in
      subst (λ (ns : List (List ℕ)).
      IsOn (held_from r any n (packet_counted r k b) (next_at k c b) bs) i d ns)
      (append_assoc ms (messages_in told) (messages_in behind)
      ∙ ap (λ ns. ms ++ ns) (sym (messages-append told behind))) h

  runs-on : (bs : List (List ℕ)) (k : Counted) (c : Course) (i : ℕ) (d e : Came) (to : ℕ)
      (ms : List (List ℕ))
      → IsOn c i d ms
      → Runs r n d i bs e to
      → IsOn (held_from r any n k c bs) to e (ms ++ messages_in (news_from r any n k c bs))
  runs-on [] k c i d e to ms at runs = (
    record { count_is = at.0.count_is ∙ runs.1; came_is = at.0.came_is ∙ runs.0 },
    subst (GaveBy c.gave c.held.last) (sym (append-nil ms)) at.1,
  )
  runs-on (b ∷ bs) k c i d e to ms at (inl w) =
      let same : ◌≡◌ {A = Course × Option News}
      (step_of r any (missing_at r k b) c (part_of n (part_carried r b))) (c, None) =
      ap (step_of r any (missing_at r k b) c) w.0 in
      on-more k c b bs to e ms
      (subst (λ (u : Course × Option News).
      IsOn (held_from r any n (packet_counted r k b) u.0 bs) to e
      ((ms ++ messages_in (news_listed u.1))
      ++ messages_in (news_from r any n (packet_counted r k b) u.0 bs)))
      (sym same)
      (runs-on bs (packet_counted r k b) c i d e to (ms ++ [])
      (subst (IsOn c i d) (sym (append-nil ms)) at) w.1))
  runs-on (b ∷ bs) k c i d e to ms at (inr w) =
      on-more k c b bs to e ms
      (runs-on bs (packet_counted r k b) (next_at k c b) (higher i w.0.number) (more d w.0) e to
      (ms ++ messages_in (told_at k c b))
      (up-next k c b w.0 i d ms at w.1 w.2 w.3 w.4) w.5)

  pub order_given : (k : Counted) (c : Course) (front : List (List ℕ)) (last m : List ℕ)
      → InOrder r any n m front last
      → (earlier : List (List ℕ)) × (later : List (List ℕ))
      × (messages_in (news_from r any n k c (front ++ last ∷ [])) ≡ earlier ++ m ∷ later)
  order_given k c front last m h =
      let low : h.part.number ≤ 0 + 1 = omega (arith, h.one) in
      let began = step-on k c h.part h.first no_run [] h.begins
      (before-one c.run h.part.number h.one) low h.continues
      (inl (gave-one c h.part.number h.one)) in
      let first_on : IsOn (next_at k c h.first) 1 (more nothing_came h.part)
      ([] ++ messages_in (told_at k c h.first)) = (
        record {
          count_is = ap (λ (t : Run). t.order.count) began.0
              ∙ ap (λ (i : ℕ). (order_after no_order i (missing_at r k h.first)).count) h.one;
          came_is = ap (λ (t : Run). t.came) began.0;
        },
        began.1,
      ) in
      let on = on-more k c h.first h.middle h.number h.came []
      (runs-on h.middle (packet_counted r k h.first) (next_at k c h.first) 1
      (more nothing_came h.part) h.came h.number
      (messages_in (told_at k c h.first)) first_on h.runs) in
      let front_news = news_from r any n k c (h.first ∷ h.middle) in
      let behind = held_from r any n k c (h.first ∷ h.middle) in
      let at = all_counted r k (h.first ∷ h.middle) in
      let q = h.final in
      let told = step-ends (missing_at r at last) behind q (more behind.run.came q) m _
      (messages_in front_news) h.fit
      (turn-is behind.run (missing_at r at last) q behind.run (Some m)
      (before-more behind.run q.number h.behind_first)
      (subst (λ (i : ℕ). q.number ≤ i + 1) (sym on.0.count_is) h.next)
      (ap (λ (d : Came). is_some (more d q).against) on.0.came_is ∙ h.agrees)
      (ap (λ (d : Came). message_of (more d q).parts) on.0.came_is ∙ h.joined))
      (subst (λ (g : Bool). GaveBy g behind.held.last (messages_in front_news))
      (gave-more behind q.number h.behind_first) on.1) in
      subst (Among m)
      (sym (
      ap (λ (bs : List (List ℕ)). messages_in (news_from r any n k c (bs ++ last ∷ []))) h.are
      ∙ ap messages_in (news-more k c (h.first ∷ h.middle) last)
      ∙ messages-append front_news (told_at at behind last)
      ∙ ap (λ (o : Option Piece). messages_in front_news ++ messages_in
      (news_listed (step_of r any (missing_at r at last) behind o).1)) h.ends))
      told

  -- and whatever comes behind
  pub order_kept : (before front behind : List (List ℕ)) (last m : List ℕ)
      → InOrder r any n m front last
      → (earlier : List (List ℕ)) × (later : List (List ℕ)) × (after : List (List ℕ))
      × (messages_in (news_from r any n (counts_of r before) (course_held r any n before)
      (front ++ last ∷ []))
      ≡ earlier ++ m ∷ later)
      × (messages_in (news r any n (before ++ (front ++ last ∷ []) ++ behind))
      ≡ messages_in (news_from r any n nothing_counted nothing before)
      ++ (earlier ++ m ∷ later) ++ after)
  order_kept before front behind last m h =
      let here = front ++ last ∷ [] in
      let k = counts_of r before in
      let c = course_held r any n before in
      let a = news_from r any n nothing_counted nothing before in
      let x = news_from r any n k c here in
      let all = before ++ here in
      let b = news_from r any n (counts_of r all) (course_held r any n all) behind in
      let l = news_left (course_held r any n (before ++ here ++ behind)) in
      let given = order_given k c front last m h in (
        given.0,
        given.1,
        messages_in b ++ messages_in l,
        given.2,
        messages-append (news_from r any n nothing_counted nothing (before ++ here ++ behind)) l
            ∙ ap (λ (ws : List News). messages_in ws ++ messages_in l)
            (news_from-append r any n nothing_counted nothing (before ++ here) behind
            ∙ ap (λ (ws : List News). ws ++ b)
            (news_from-append r any n nothing_counted nothing before here))
            ∙ ap (λ (ms : List (List ℕ)). ms ++ messages_in l)
            (messages-append (a ++ x) b
            ∙ ap (λ (ms : List (List ℕ)). ms ++ messages_in b) (messages-append a x))
            ∙ append_assoc (messages_in a ++ messages_in x) (messages_in b) (messages_in l)
            ∙ ap (λ (ms : List (List ℕ)).
            (messages_in a ++ ms) ++ (messages_in b ++ messages_in l)) given.2,
      )
