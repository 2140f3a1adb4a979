-- Parts that came in their order, with one more: none of them is a last one, and none is missing.
use Rattle.std.proofs.Common.{◌≡◌, ◌∙◌, ap, sym, subst, refl, inl, inr, ◌⊎◌, ℕ, ◌+◌, ◌≤◌, ◌==◌, nat_le, nat_lt, Bool, true, false, if◌then◌else◌, List, [], ◌∷◌, ◌++◌, length, arith}
use Rattle.std.specs.Prelude.{Option, Some, None, is_some}
use Rattle.std.specs.Option.{option_or}
use Rattle.std.proofs.lemmas.Bool.Decides.{eqb_tells}
use Rattle.lpt_packet.proofs.BoolLemmas.{true_le}
use Rattle.lpt_packet.proofs.Readings.{eq_true, true_eq}
use Rattle.lpt_part.specs.declared.kind.Kind.{Kind}
use Rattle.lpt_part.specs.declared.kind.Kind.TheVariants.{First, Middle, Last}
use Rattle.lpt_part.specs.Parts.{Piece, same_kind}
use Rattle.lpt_layout_join.specs.declared.last_part.LastPart.{LastPart}
use Rattle.lpt_layout_join.specs.declared.order.Order.{Order}
use Rattle.lpt_layout_join.specs.Came.{Came, contradicts, joined_by, last_by, last_of, last_told, message_of, octets_joined, octets_of}
use Rattle.lpt_layout_join.specs.Orders.{no_order, order_after, with_again, with_first, with_next}
use Rattle.lpt_layout_join.proofs.CameLemmas.{first_told-more, octets-more}
use Rattle.lpt_layout_each.specs.Eaches.{Ends, Goes, Run, RunTurn, more, no_run, run_before, run_by, run_joined, run_turn}
use Rattle.lpt_layout_each.proofs.PartLemmas.{joined-some, message-last, only, only-is, only-more}

-- none of these parts is a last one, each up to their count is there, and they agree
pub record IsInner (run : Run) : Type 0 where
  pub agree : run.came.against ≡ None
  pub none : last_of run.came.parts ≡ None
  pub there : (k : ℕ) → 1 ≤ k → k ≤ run.order.count
      → is_some (octets_of run.came.parts k) ≡ true

pub none_inner : IsInner no_run
none_inner = record {
  agree = refl;
  none = refl;
  there = λ k some within. absurd (omega (arith, some, within));
}

pub before-inner : (run : Run) (n : ℕ) → IsInner run → IsInner (run_before run n)
before-inner run n h = by (n == 1) where
  by : (one : Bool) → IsInner (if one then no_run else run)
  by true = none_inner
  by false = h

-- a part up to the count is the one that came, or was there before
order-cases : (o : Order) (n now k : ℕ)
    → 1 ≤ k
    → k ≤ (order_after o n now).count
    → (k ≡ n) ⊎ (k ≤ o.count)
order-cases o n now k some h =
    by (n == 1) (nat_lt o.count n) (n == o.count + 1) refl refl h where
      by : (a b c : Bool)
          → (n == 1) ≡ a
          → (n == o.count + 1) ≡ c
          → k ≤ (if a then with_first now
          else if b then (if c then with_next o n now else no_order) else with_again o).count
          → (k ≡ n) ⊎ (k ≤ o.count)
      by true b c one next within =
          let is = true_eq n 1 one in
          inl (omega (arith, is, some, within))
      by false true true one next within =
          let is = true_eq n (o.count + 1) next in
          elim (eqb_tells k n) [
            | inl v ↦ inl v.1
            | inr v ↦ let isnt = v.1 in inr (omega (arith, is, within, isnt))
          ]
      by false true false one next within = absurd (omega (arith, some, within))
      by false false c one next within = inr within

-- a last part tells that it is one
last-kind : (q : Piece) (l : LastPart) → last_told q ≡ Some l → same_kind q.kind Last ≡ true
last-kind q l e = by q.kind e where
  by : (kind : Kind) → last_by kind q.number (length q.octets) ≡ Some l → same_kind kind Last ≡ true
  by First e = absurd cc
  by Middle e = absurd cc
  by Last e = refl

last-number : (q : Piece) (l : LastPart) → last_told q ≡ Some l → l.number ≡ q.number
last-number q l e = by q.kind e where
  by : (kind : Kind) → last_by kind q.number (length q.octets) ≡ Some l → l.number ≡ q.number
  by First e = absurd cc
  by Middle e = absurd cc
  by Last e =
      let it : record { number = q.number; len = length q.octets } ≡ l = cc in
      sym (ap (λ (x : LastPart). x.number) it)

module _ (now : ℕ) (q : Piece) where
  -- so it stays, until a last part makes a message of them
  abbrev pub GoesOn : RunTurn → Type 0
  GoesOn w =
      ((s : Run) × (w ≡ Goes s) × IsInner s)
      ⊎ ((same_kind q.kind Last ≡ true) × (d : Came) × (m : List ℕ) × (sure : Bool)
      × (w ≡ Ends d m sure))

  module _ (s : Run) (h : IsInner s) (next : q.number ≤ s.order.count + 1) where
    abbrev qs : List Piece
    qs = s.came.parts

    abbrev all : List Piece
    all = s.came.parts ++ q ∷ []

    abbrev o : Order
    o = order_after s.order q.number now

    last-all : last_of all ≡ last_told q
    last-all =
        first_told-more last_told qs q
        ∙ ap (λ (l : Option LastPart). option_or l (last_told q)) h.none

    octets-here : (k : ℕ) → k ≡ q.number → is_some (octets_of all k) ≡ true
    octets-here k e =
        ap is_some (octets-more qs q k true (eq_true q.number k (sym e)))
        ∙ by (octets_of qs k) where
          by : (x : Option (List ℕ)) → is_some (option_or x (Some q.octets)) ≡ true
          by None = refl
          by (Some x) = refl

    octets-still : (k : ℕ) → is_some (octets_of qs k) ≡ true → is_some (octets_of all k) ≡ true
    octets-still k e = by (q.number == k) refl where
      or-some : (x y : Option (List ℕ)) → is_some x ≡ true → is_some (option_or x y) ≡ true
      or-some None y e = absurd cc
      or-some (Some x) y e = refl

      by : (same : Bool) → (q.number == k) ≡ same → is_some (octets_of all k) ≡ true
      by same is =
          ap is_some (octets-more qs q k same is)
          ∙ or-some (octets_of qs k) (if same then Some q.octets else None) e

    there-all : (k : ℕ) → 1 ≤ k → (k ≡ q.number) ⊎ (k ≤ s.order.count)
        → is_some (octets_of all k) ≡ true
    there-all k some (inl e) = octets-here k e
    there-all k some (inr le) = octets-still k (h.there k some le)

    -- a last part would make them whole
    last-none : message_of all ≡ None → (l : Option LastPart) → last_told q ≡ l → l ≡ None
    last-none waits None e = refl
    last-none waits (Some l) e =
        let number = last-number q l e in
        let whole : is_some (octets_joined (octets_of all) l.number) ≡ true =
        joined-some (octets_of all) l.number
        (λ k some within. there-all k some (near k (omega (arith, number, within)))) in
        let none : octets_joined (octets_of all) l.number ≡ None =
        sym (ap (joined_by (octets_of all)) (last-all ∙ e)) ∙ waits in
        absurd (no_true (sym whole ∙ ap is_some none)) where
          no_true : true ≡ false → ⊥
          no_true h = cc

          near : (k : ℕ) → k ≤ q.number → (k ≡ q.number) ⊎ (k ≤ s.order.count)
          near k le = elim (eqb_tells k q.number) [
            | inl v ↦ inl v.1
            | inr v ↦ let isnt = v.1 in inr (omega (arith, le, isnt, next))
          ]

    joined-on : (w : Option (List ℕ)) → message_of all ≡ w → GoesOn (run_joined o (only all) w)
    joined-on None e =
        inl (
          record { order = o; came = only all },
          refl,
          record {
            agree = refl;
            none = last-all ∙ last-none e (last_told q) refl;
            there = λ k some within.
                there-all k some (order-cases s.order q.number now k some within);
          },
        )
    joined-on (Some m) e =
        let l = message-last all m e in
        inr (last-kind q l.0 (sym last-all ∙ l.1), only all, m, _, refl)

    by-on : (b : Bool) → contradicts qs q ≡ b → GoesOn (run_by o (more (only qs) q))
    by-on true e =
        inl (
          no_run,
          ap (λ (t : Bool). run_by o
              (if t then record (only qs) { against = Some 0 } else only all)) e,
          none_inner,
        )
    by-on false e =
        subst GoesOn
        (sym (ap (run_by o) (only-more qs q e)))
        (joined-on (message_of all) refl)

    pub near-on : GoesOn (run_by o (more s.came q))
    near-on =
        subst (λ (c : Came). GoesOn (run_by o (more c q))) (sym (only-is s.came h.agree))
        (by-on (contradicts qs q) refl)

  pub run-cases : (run : Run) → IsInner run → GoesOn (run_turn run now q)
  unfolding run_turn
  run-cases run h = by (nat_le q.number ((run_before run q.number).order.count + 1)) refl where
    s : Run
    s = run_before run q.number

    by : (near : Bool)
        → nat_le q.number ((run_before run q.number).order.count + 1) ≡ near
        → GoesOn (if near
        then run_by (order_after (run_before run q.number).order q.number now)
        (more (run_before run q.number).came q)
        else Goes no_run)
    by true e =
        near-on (run_before run q.number) (before-inner run q.number h)
        (true_le q.number ((run_before run q.number).order.count + 1) e)
    by false e = inl (no_run, refl, none_inner)
