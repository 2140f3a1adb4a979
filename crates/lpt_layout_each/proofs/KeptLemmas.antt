-- What is kept of a message as its packets come, before the last of them, and with that one.
use Rattle.std.proofs.Common.{◌≡◌, ◌≢◌, ◌∙◌, ap, sym, subst, refl, inl, inr, ◌⊎◌, ℕ, ◌+◌, ◌≤◌, nat_le, Bool, true, false, if◌then◌else◌, List, [], ◌∷◌, ◌++◌, length}
use Rattle.std.specs.Prelude.{Option, Some, None}
use Rattle.lpt_part.specs.Parts.{Piece, nth_part}
use Rattle.lpt_part.specs.Splitting.{part_count}
use Rattle.lpt_carried.specs.declared.name.Name.{Name}
use Rattle.lpt_carried.specs.declared.reading.Reading.{Reading}
use Rattle.lpt_layout_join.specs.declared.order.Order.{Order}
use Rattle.lpt_layout_join.specs.Came.{Came, message_of, octets_of}
use Rattle.lpt_layout_join.specs.Gathered.{came}
use Rattle.lpt_layout_join.specs.Laws.{IsSplit}
use Rattle.lpt_layout_join.specs.Orders.{order_after}
use Rattle.lpt_layout_join.specs.Writes.{unfit}
use Rattle.lpt_layout_join.proofs.PartsLemmas.{agrees, nth-more}
use Rattle.lpt_layout_each.specs.Eaches.{Ends, Gives, Goes, Held, Run, RunTurn, Turn, Waits, after, gather, is_old, message_given, more, no_run, run_before, run_by, run_joined, run_turn, turn, turn_by, turn_fit, turn_joined}
use Rattle.lpt_layout_each.specs.News.{News}
use Rattle.lpt_layout_each.proofs.InnerLemmas.{IsInner, run-cases}
use Rattle.lpt_layout_each.proofs.PartLemmas.{Are, lacks-more, lacks-none, only, only-is, only-more, whole-own}

-- ---- one message

module _ (r : Reading) (any : Bool) (n : Name) (m : List ℕ) (p : ℕ) (split : IsSplit p m)
    (number : ℕ) (some : 1 ≤ number) (within : number ≤ part_count (length m) p) where
  abbrev total : ℕ
  total = part_count (length m) p

  abbrev nth : ℕ → Piece
  nth k = nth_part p n.id m k

  -- parts of the message, and not the one that comes last
  pub record Lack (qs : List Piece) : Type 0 where
    pub are : Are m p n.id split qs
    pub lacks : octets_of qs number ≡ None

  pub none_lack : Lack []
  none_lack = record { are = tt; lacks = refl }

  pub lack-more : (qs : List Piece) (k : ℕ)
      → Lack qs
      → 1 ≤ k
      → k ≤ total
      → k ≢ number
      → Lack (qs ++ nth k ∷ [])
  lack-more qs k h least most other = record {
    are = nth-more m p n.id split qs k h.are least most;
    lacks = lacks-more m p n.id split qs k number other h.lacks;
  }

  pub waits : (qs : List Piece) → Lack qs → message_of qs ≡ None
  waits qs h = lacks-none m p n.id split qs number h.are some within h.lacks

  -- ---- turns

  turn-is : (again : Bool) (qs : List Piece) (k : ℕ)
      → Are m p n.id split qs
      → 1 ≤ k
      → k ≤ total
      → turn r any again (only qs) (nth k)
      ≡ turn_joined r any again (nth k) (only (qs ++ nth k ∷ [])) (message_of (qs ++ nth k ∷ []))
  unfolding turn
  turn-is again qs k are least most =
      ap (turn_by r any again (nth k))
      (only-more qs (nth k) (agrees m p n.id split qs k are least most))

  turn-waits : (again : Bool) (qs : List Piece) (k : ℕ)
      → Lack qs
      → 1 ≤ k
      → k ≤ total
      → k ≢ number
      → turn r any again (only qs) (nth k) ≡ Waits (only (qs ++ nth k ∷ []))
  turn-waits again qs k h least most other =
      turn-is again qs k h.are least most
      ∙ ap (turn_joined r any again (nth k) (only (qs ++ nth k ∷ [])))
      (waits (qs ++ nth k ∷ []) (lack-more qs k h least most other))

  turn-gives : (again : Bool) (qs : List Piece)
      → unfit r any false m ≡ None
      → Are m p n.id split qs
      → message_of (qs ++ nth number ∷ []) ≡ Some m
      → turn r any again (only qs) (nth number) ≡ Gives (only (qs ++ nth number ∷ [])) m
  turn-gives again qs fit are whole =
      turn-is again qs number are some within
      ∙ ap (turn_joined r any again (nth number) (only (qs ++ nth number ∷ []))) whole
      ∙ ap (turn_fit again (nth number) (only (qs ++ nth number ∷ [])) m) fit

  -- ---- what is gathered

  -- this is kept behind a message, or at the beginning, and all parts since then are these
  abbrev pub IsKept : Option Came → Held → List Piece → Type 0
  IsKept None h qs = h ≡ record { last = None; all = None; new = only qs }
  IsKept (Some l) h qs =
      (ns : List Piece) × Lack ns
      × (h ≡ record { last = Some l; all = Some (only qs); new = only ns })

  pub gather-waits : (again : Bool) (last : Option Came) (h : Held) (qs : List Piece) (k : ℕ)
      → IsKept last h qs
      → Lack qs
      → 1 ≤ k
      → k ≤ total
      → k ≢ number
      → (g : Held) × (◌≡◌ {A = Held × Option News} (gather r any again h (nth k)) (g, None))
      × IsKept last g (qs ++ nth k ∷ [])
  unfolding gather
  gather-waits again None h qs k kept lack least most other = (
    record { last = None; all = None; new = only (qs ++ nth k ∷ []) },
    ap (λ (x : Held). gather r any again x (nth k)) kept
        ∙ ap (λ (t : Turn). after None t None) (turn-waits again qs k lack least most other),
    refl,
  )
  gather-waits again (Some l) h qs k kept lack least most other =
      let ns = kept.0 in
      let all = turn-waits again qs k lack least most other in
      let new = go ns kept.1 (is_old (Some l) (nth k)) in (
        record { last = Some l; all = Some (only (qs ++ nth k ∷ [])); new = only new.0 },
        ap (λ (x : Held). gather r any again x (nth k)) kept.2
            ∙ (λ i. after (Some l) (new.2 i) (Some (all i))),
        (new.0, new.1, refl),
      ) where
        go : (ns : List Piece)
            → Lack ns
            → (old : Bool)
            → (ms : List Piece) × Lack ms
            × ((if old then Waits (only ns) else turn r any again (only ns) (nth k))
            ≡ Waits (only ms))
        go ns h true = (ns, h, refl)
        go ns h false = (
          ns ++ nth k ∷ [],
          lack-more ns k h least most other,
          turn-waits again ns k h least most other,
        )

  -- parts, with the last to come
  abbrev every : List Piece → Came
  every qs = only (qs ++ nth number ∷ [])

  pub gather-gives : (again : Bool) (last : Option Came) (h : Held) (qs : List Piece)
      → unfit r any false m ≡ None
      → IsKept last h qs
      → Lack qs
      → message_of (qs ++ nth number ∷ []) ≡ Some m
      → (d : Came)
      × (◌≡◌ {A = Held × Option News} (gather r any again h (nth number)) (message_given d m))
  unfolding gather
  gather-gives again None h qs fit kept lack whole = (
    every qs,
    ap (λ (x : Held). gather r any again x (nth number)) kept
        ∙ ap (λ (t : Turn). after None t None) (turn-gives again qs fit lack.are whole),
  )
  gather-gives again (Some l) h qs fit kept lack whole =
      let ns = kept.0 in
      let all = turn-gives again qs fit lack.are whole in
      let end = go ns kept.1 (is_old (Some l) (nth number)) in (
        end.0,
        ap (λ (x : Held). gather r any again x (nth number)) kept.2
            ∙ (λ i. after (Some l)
            (if is_old (Some l) (nth number) then Waits (only ns)
            else turn r any again (only ns) (nth number)) (Some (all i)))
            ∙ end.1,
      ) where
        by : (ns : List Piece) (o : Option (List ℕ))
            → Lack ns
            → message_of (ns ++ nth number ∷ []) ≡ o
            → (d : Came)
            × (◌≡◌ {A = Held × Option News}
            (after (Some l) (turn_joined r any again (nth number) (every ns) o)
            (Some (Gives (every qs) m))) (message_given d m))
        by ns None h e = (every qs, refl)
        by ns (Some w) h e =
            let its : w ≡ m =
            (whole-own m p n.id split (ns ++ nth number ∷ []) w
            (nth-more m p n.id split ns number h.are some within) e).1 in
            let new = every ns in (
              new,
              ap (λ (x : List ℕ). after (Some l)
                  (turn_joined r any again (nth number) new (Some x))
                  (Some (Gives (every qs) m))) its
                  ∙ ap (λ (f : _). after (Some l) (turn_fit again (nth number) new m f)
                  (Some (Gives (every qs) m))) fit,
            )

        go : (ns : List Piece)
            → Lack ns
            → (old : Bool)
            → (d : Came)
            × (◌≡◌ {A = Held × Option News}
            (after (Some l) (if old then Waits (only ns)
            else turn r any again (only ns) (nth number)) (Some (Gives (every qs) m)))
            (message_given d m))
        go ns h true = (every qs, refl)
        go ns h false =
            let w = by ns (message_of (ns ++ nth number ∷ [])) h refl in (
              w.0,
              ap (λ (t : Turn). after (Some l) t (Some (Gives (every qs) m)))
                  (turn-is again ns number h.are some within)
                  ∙ w.1,
            )

  -- ---- the run

  -- it has parts of the message, and not the one that comes last
  pub record IsBefore (run : Run) : Type 0 where
    pub parts : Lack run.came.parts
    pub agree : run.came.against ≡ None

  pub none_before : IsBefore no_run
  none_before = record { parts = none_lack; agree = refl }

  pub begins_before : (run : Run) (one : Bool)
      → IsBefore run
      → IsBefore (if one then no_run else run)
  begins_before run true h = none_before
  begins_before run false h = h

  more-before : (c : Came) (k : ℕ)
      → c.against ≡ None
      → Are m p n.id split c.parts
      → 1 ≤ k
      → k ≤ total
      → more c (nth k) ≡ only (c.parts ++ nth k ∷ [])
  more-before c k agree are least most =
      ap (λ (d : Came). more d (nth k)) (only-is c agree)
      ∙ only-more c.parts (nth k) (agrees m p n.id split c.parts k are least most)

  pub run-front : (now : ℕ) (run : Run) (k : ℕ)
      → IsInner run
      → IsBefore (run_before run k)
      → 1 ≤ k
      → k ≤ total
      → k ≢ number
      → (s : Run) × (run_turn run now (nth k) ≡ Goes s) × IsInner s × IsBefore s
  unfolding run_turn
  run-front now run k inner h least most other =
      let w = go (run_before run k) (nat_le k ((run_before run k).order.count + 1)) h in
      elim (run-cases now (nth k) run inner) [
        | inl v ↦ (
          v.0,
          v.1,
          v.2,
          subst (λ (s : Run). IsBefore s) (same_run w.0 v.0 (sym w.1 ∙ v.1)) w.2,
        )
        | inr v ↦ absurd (no_end w.0 v.1 v.2 v.3 (sym w.1 ∙ v.4))
      ] where
        same_run : (a b : Run) → Goes a ≡ Goes b → a ≡ b
        same_run a b e = cc

        no_end : (a : Run) (d : Came) (w : List ℕ) (sure : Bool) → Goes a ≡ Ends d w sure → ⊥
        no_end a d w sure e = cc

        go : (b : Run) (near : Bool)
            → IsBefore b
            → (s : Run)
            × ((if near then run_by (order_after b.order k now) (more b.came (nth k))
            else Goes no_run) ≡ Goes s) × IsBefore s
        go b false h = (no_run, refl, none_before)
        go b true h =
            let all = b.came.parts ++ nth k ∷ [] in
            let lack = lack-more b.came.parts k h.parts least most other in
            let o = order_after b.order k now in (
              record { order = o; came = only all },
              ap (run_by o) (more-before b.came k h.agree h.parts.are least most)
                  ∙ ap (run_joined o (only all)) (waits all lack),
              record { parts = lack; agree = refl },
            )

  -- where it is a message, it is this one
  abbrev IsOwn : RunTurn → Type 0
  IsOwn (Goes s) = Unit {0}
  IsOwn (Ends d w sure) = Are m p n.id split d.parts × (message_of d.parts ≡ Some w) × (w ≡ m)

  -- with the last packet it goes on, or is the message
  pub run-last : (now : ℕ) (run : Run)
      → IsInner run
      → IsBefore (run_before run number)
      → ((s : Run) × (run_turn run now (nth number) ≡ Goes s) × IsInner s)
      ⊎ ((d : Came) × (sure : Bool) × (run_turn run now (nth number) ≡ Ends d m sure)
      × Are m p n.id split d.parts × (message_of d.parts ≡ Some m))
  unfolding run_turn
  run-last now run inner h =
      elim (run-cases now (nth number) run inner) [
        | inl v ↦ inl v
        | inr v ↦
            let own = subst IsOwn v.4
            (go (run_before run number) (nat_le number ((run_before run number).order.count + 1)) h)
            in
            inr (
              v.1,
              v.3,
              v.4 ∙ ap (λ (w : List ℕ). Ends v.1 w v.3) own.2,
              own.0,
              own.1 ∙ ap Some own.2,
            )
      ] where
        joined : (o : Order) (ds : List Piece) (w : Option (List ℕ))
            → Are m p n.id split ds
            → message_of ds ≡ w
            → IsOwn (run_joined o (only ds) w)
        joined o ds None are e = tt
        joined o ds (Some w) are e = (are, e, (whole-own m p n.id split ds w are e).1)

        go : (b : Run) (near : Bool)
            → IsBefore b
            → IsOwn (if near then run_by (order_after b.order number now) (more b.came (nth number))
            else Goes no_run)
        go b false h = tt
        go b true h =
            let all = b.came.parts ++ nth number ∷ [] in
            let o = order_after b.order number now in
            subst IsOwn
            (sym (ap (run_by o) (more-before b.came number h.agree h.parts.are some within)))
            (joined o all (message_of all)
            (nth-more m p n.id split b.came.parts number h.parts.are some within) refl)
