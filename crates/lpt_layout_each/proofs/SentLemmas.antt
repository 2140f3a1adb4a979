-- Over packets of messages one behind the other, just these messages are given out.
use Rattle.std.proofs.Common.{◌≡◌, ◌∙◌, ap, sym, subst, refl, inl, inr, ℕ, ◌+◌, ◌≤◌, ◌==◌, Bool, true, false, ◌||◌, if◌then◌else◌, List, [], ◌∷◌, ◌++◌, map, length, arith}
use Rattle.std.specs.Prelude.{Option, Some, None, is_some}
use Rattle.lpt_packet.proofs.BoolLemmas.{none_is, or_false, or_false_left, or_false_right}
use Rattle.lpt_packet.proofs.Readings.{eq_false, eq_true}
use Rattle.lpt_part.specs.Parts.{Piece, nth_part}
use Rattle.lpt_part.specs.Splitting.{part_count}
use Rattle.lpt_carried.specs.declared.name.Name.{Name}
use Rattle.lpt_carried.specs.declared.reading.Reading.{Reading}
use Rattle.lpt_carried.specs.Carried.{part_carried, part_of}
use Rattle.lpt_layout_join.specs.Came.{Came, highest, nothing_came}
use Rattle.lpt_layout_join.specs.Counts.{Counted, all_counted, nothing_counted, packet_counted}
use Rattle.lpt_layout_join.specs.Gathered.{came, carry}
use Rattle.lpt_layout_join.specs.Laws.{IsSplit}
use Rattle.lpt_layout_each.specs.Eaches.{Course, Held, Run, held_begun, held_from, missing_at, more, news_from, news_left, news_listed, no_run, nothing, run_before, step_of}
use Rattle.lpt_layout_each.specs.News.{News, Given, parts_dropped}
use Rattle.lpt_layout_each.specs.Sends.{FirstBeforeLast, IsSentBy, Sends}
use Rattle.lpt_layout_each.proofs.HeldsLemmas.{news_from-append}
use Rattle.lpt_layout_each.proofs.InnerLemmas.{IsInner, none_inner}
use Rattle.lpt_layout_each.proofs.FrontLemmas as goes
use Rattle.lpt_layout_each.proofs.KeptLemmas as keeps

no_true : true ≡ false → ⊥
no_true h = cc

no_some : {A : Type 0} (x : A) → ◌≡◌ {A = Option A} (Some x) None → ⊥
no_some x h = cc

-- ---- messages

module _ (r : Reading) (any : Bool) (n : Name) where
  -- this is kept behind a message, or at the beginning
  record IsFresh (last : Option Came) (c : Course) : Type 0 where
    pub held : c.held ≡ held_begun last nothing_came
    pub inner : IsInner c.run

  held_from-append : (i : Counted) (c : Course) (bs cs : List (List ℕ))
      → held_from r any n i c (bs ++ cs)
      ≡ held_from r any n (all_counted r i bs) (held_from r any n i c bs) cs
  held_from-append i c [] cs = refl
  held_from-append i c (b ∷ bs) cs =
      held_from-append (packet_counted r i b)
      (step_of r any (missing_at r i b) c (part_of n (part_carried r b))).0 bs cs

  -- packets that carry no part of the name
  none-from : (bs : List (List ℕ)) (i : Counted) (c : Course)
      → carry r n bs ≡ false
      → (held_from r any n i c bs ≡ c) × (news_from r any n i c bs ≡ [])
  none-from [] i c none = (refl, refl)
  none-from (b ∷ bs) i c none =
      let part = part_of n (part_carried r b) in
      let here = none_is part (or_false_left (is_some part) (carry r n bs) none) in
      let rest = none-from bs (packet_counted r i b) c
      (or_false_right (is_some part) (carry r n bs) none) in (
        ap (λ (o : Option Piece). held_from r any n (packet_counted r i b)
            (step_of r any (missing_at r i b) c o).0 bs) here
            ∙ rest.0,
        ap (λ (o : Option Piece). news_listed (step_of r any (missing_at r i b) c o).1
            ++ news_from r any n (packet_counted r i b)
            (step_of r any (missing_at r i b) c o).0 bs) here
            ∙ rest.1,
      )

  begun-kept : (m : List ℕ) (p : ℕ) (split : IsSplit p m) (number : ℕ) (some : 1 ≤ number)
      (within : number ≤ part_count (length m) p) (last : Option Came) (c : Course)
      (rest : List (List ℕ))
      → IsFresh last c
      → FirstBeforeLast r n p m rest
      → goes.IsAt r any n m p split number some within last [] rest c
  begun-kept m p split number some within last c rest h order = record {
    qs = [];
    lack = keeps.none_lack r any n m p split number some within;
    shown = λ k e. absurd (no_true (sym e));
    kept = kept last c.held h.held;
    inner = h.inner;
    stands = inr (refl, order);
  } where
    kept : (last : Option Came) (g : Held)
        → g ≡ held_begun last nothing_came
        → keeps.IsKept r any n m p split number some within last g []
    kept None g e = e
    kept (Some l) g e = ([], keeps.none_lack r any n m p split number some within, e)

  -- its packets give it out
  one_sent : (i : Counted) (last : Option Came) (c : Course) (m : List ℕ) (bs : List (List ℕ))
      → IsFresh last c
      → IsSentBy r any n m bs
      → (l : Came) × IsFresh (Some l) (held_from r any n i c bs)
      × (news_from r any n i c bs ≡ Given m ∷ [])
  one_sent i last c m bs begun h =
      subst (λ (xs : List (List ℕ)). (l : Came) × IsFresh (Some l) (held_from r any n i c xs)
      × (news_from r any n i c xs ≡ Given m ∷ [])) (sym h.are) sent where
        all-came : (k : ℕ) → 1 ≤ k → k ≤ part_count (length m) h.size
            → (came r n k h.front || (h.number == k)) ≡ true
        all-came k least most =
            sym (goes.came-more r any n m h.size h.split h.number h.ends.some h.ends.within k
            h.front h.last (Some (nth_part h.size n.id m h.number)) h.ends.is)
            ∙ subst (λ (xs : List (List ℕ)). came r n k xs ≡ true) h.are (h.all k least most)

        sent : (l : Came) × IsFresh (Some l) (held_from r any n i c (h.front ++ h.last ∷ []))
            × (news_from r any n i c (h.front ++ h.last ∷ []) ≡ Given m ∷ [])
        sent =
            let x = h.number in
            let some = h.ends.some in
            let within = h.ends.within in
            let j = all_counted r i h.front in
            let front = goes.front-all r any n m h.size h.split x some within h.front i last [] c
            h.belong h.first
            (begun-kept m h.size h.split x some within last c h.front begun h.order) in
            let at = front.0 in
            let before = held_from r any n i c h.front in
            let now = missing_at r j h.last in
            let whole = goes.all-there r any n m h.size h.split x some within at.qs at.lack
            (λ k least most other. at.shown k
            (sym (or_false (came r n k h.front))
            ∙ sym (ap (λ (e : Bool). came r n k h.front || e)
            (eq_false x k (λ e. other (sym e))))
            ∙ all-came k least most)) in
            let ready = began before.run before.gave at.stands in
            let end = goes.last-step r any n m h.size h.split x some within now last h.front before
            h.fit at whole ready.0 ready.1 in
            let ends = ap (step_of r any now before) h.ends.is ∙ end.2 in (
              end.1,
              subst (λ (d : Course). IsFresh (Some end.1) d)
                  (sym (held_from-append i c h.front (h.last ∷ [])
                  ∙ ap (λ (s : Course × Option News). s.0) ends))
                  (record { held = end.3.held; inner = end.3.inner }),
              news_from-append r any n i c h.front (h.last ∷ [])
                  ∙ (λ a. front.1 a ++ (news_listed (ends a).1 ++ [])),
            ) where
              began : (run : Run) (gave : Bool)
                  → goes.Stands r any n m h.size h.split h.number h.ends.some h.ends.within run gave
                  h.front []
                  → keeps.IsBefore r any n m h.size h.split h.number h.ends.some h.ends.within
                  (run_before run h.number)
                  × ((if h.number == 1 then false else gave) ≡ false)
              began run gave (inl w) = (
                keeps.begins_before r any n m h.size h.split h.number h.ends.some h.ends.within run
                    (h.number == 1) w.0,
                quiet (h.number == 1),
              ) where
                quiet : (one : Bool) → (if one then false else gave) ≡ false
                quiet true = refl
                quiet false = w.1
              began run gave (inr w) =
                  let one : (h.number == 1) ≡ true =
                  sym (ap (λ (e : Bool). e || (h.number == 1)) w.0)
                  ∙ all-came 1 (omega arith) (omega (arith, h.ends.some, h.ends.within)) in (
                    subst (λ (run : Run). keeps.IsBefore r any n m h.size h.split h.number
                        h.ends.some
                        h.ends.within run)
                        (sym (ap (λ (e : Bool). if e then no_run else run) one))
                        (keeps.none_before r any n m h.size h.split h.number h.ends.some
                        h.ends.within),
                    ap (λ (e : Bool). if e then false else gave) one,
                  )

  -- nothing is left of it
  nothing_left : (last : Option Came) (c : Course) → IsFresh last c → news_left c ≡ []
  nothing_left last c h =
      ap (λ (g : Held). if highest g.new.parts == 0 then [] else parts_dropped g.new ∷ []) h.held
      ∙ ap (λ (e : Bool). if e then [] else parts_dropped nothing_came ∷ []) (eq_true 0 0 refl)

  all_sent : (ms : List (List ℕ)) (i : Counted) (last : Option Came) (c : Course)
      (bs : List (List ℕ))
      → IsFresh last c
      → Sends r any n ms bs
      → news_from r any n i c bs ++ news_left (held_from r any n i c bs) ≡ map Given ms
  all_sent [] i last c bs begun none =
      let nothing = none-from bs i c none in
      (λ a. nothing.1 a ++ news_left (nothing.0 a)) ∙ nothing_left last c begun
  all_sent (m ∷ ms) i last c bs begun h =
      let front = h.0 in
      let rest = h.1 in
      let one = one_sent i last c m front begun h.3 in
      let j = all_counted r i front in
      let d = held_from r any n i c front in
      let more = all_sent ms j (Some one.0) d rest one.1 h.4 in
      ap (λ (xs : List (List ℕ)). news_from r any n i c xs ++ news_left (held_from r any n i c xs))
      h.2
      ∙ (λ a. news_from-append r any n i c front rest a
      ++ news_left (held_from-append i c front rest a))
      ∙ (λ a. (one.2 a ++ news_from r any n j d rest) ++ news_left (held_from r any n j d rest))
      ∙ ap (λ (ws : List News). Given m ∷ ws) more

  pub sent_given : (ms bs : List (List ℕ))
      → Sends r any n ms bs
      → news_from r any n nothing_counted nothing bs
      ++ news_left (held_from r any n nothing_counted nothing bs) ≡ map Given ms
  sent_given ms bs h =
      all_sent ms nothing_counted None nothing bs (record { held = refl; inner = none_inner }) h
