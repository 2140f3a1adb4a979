-- What is given out is joined of parts that stand among the packets.
use Rattle.std.proofs.Common.{◌≡◌, sym, subst, refl, inl, inr, ℕ, ◌+◌, ◌==◌, nat_le, Bool, true, false, if◌then◌else◌, List, [], ◌∷◌, ◌++◌, append-nil, append_assoc, Option, Some, None, Result, Ok, Err}
use Rattle.std.specs.List.{AllByRecursion}
use Rattle.std.specs.Prelude.{is_some}
use Rattle.lpt_part.specs.Parts.{Piece}
use Rattle.lpt_layout_join.specs.declared.ending.MisfitAs.{MisfitAs}
use Rattle.lpt_carried.specs.declared.name.Name.{Name}
use Rattle.lpt_carried.specs.declared.reading.Reading.{Reading}
use Rattle.lpt_carried.specs.declared.skip.Skip.{Skip}
use Rattle.lpt_layout_join.specs.Came.{Came, contradicts, message_of, nothing_came}
use Rattle.lpt_carried.specs.Carried.{Named, part_carried, name_of, part_of}
use Rattle.lpt_layout_join.specs.declared.order.Order.{Order}
use Rattle.lpt_layout_join.specs.Counts.{nothing_counted}
use Rattle.lpt_layout_join.specs.Orders.{order_after}
use Rattle.lpt_layout_join.specs.Writes.{unfit}
use Rattle.lpt_layout_each.specs.Eaches.{Held, Turn, Waits, GivesUp, Gives, after, after_all, all_turn, alone, held_begun, counts_of, course_held, is_old, missing_at, news_listed, more, new_turn, nothing, step, step_of, turn, turn_fit, turn_joined, Course, Ends, Goes, Run, RunTurn, are_own, end_by, end_run, gather, go_on, no_run, repeats, run_before, run_by, run_joined, run_turn, seed, step_by, told_in_order}
use Rattle.lpt_layout_each.specs.Laws.{AreAgreed, IsGood, IsThere}
use Rattle.lpt_layout_each.specs.News.{Event, News, Given, Dropped, Unfit, Overtaken, parts_dropped, messages_of}
use Rattle.lpt_layout_each.specs.Streams.{events_from, of, told_by}
use Rattle.lpt_layout_each.proofs.FitLemmas.{fit-sure}
use Rattle.lpt_layout_each.proofs.HeldsLemmas.{held_from-next}

module _ (r : Reading) (any : Bool) (all : List (List ℕ)) where
  -- news of a message tells one that is joined of parts that are there
  abbrev IsSound : Name → News → Type 0
  IsSound n (Given m) = IsGood r any all n m
  IsSound n (Dropped came last) = Unit {0}
  IsSound n (Unfit e) = Unit {0}
  IsSound n (Overtaken parts last m) = IsGood r any all n m

  -- ---- of one name

  module _ (n : Name) where
    abbrev IsTold : Option News → Type 0
    IsTold None = Unit {0}
    IsTold (Some w) = IsSound n w

    -- all parts that are kept are there, and agree
    abbrev IsFrom : Came → Type 0
    IsFrom c = AllByRecursion (IsThere r n all) c.parts × AreAgreed [] c.parts

    abbrev SomeFrom : Option Came → Type 0
    SomeFrom None = Unit {0}
    SomeFrom (Some c) = IsFrom c

    abbrev HeldFrom : Held → Type 0
    HeldFrom h = SomeFrom h.all × IsFrom h.new

    abbrev TurnFrom : Turn → Type 0
    TurnFrom (Waits c) = IsFrom c
    TurnFrom (GivesUp w c) = IsSound n w × IsFrom c
    TurnFrom (Gives c m) = IsGood r any all n m

    abbrev AllTurnFrom : Option Turn → Type 0
    AllTurnFrom None = Unit {0}
    AllTurnFrom (Some t) = TurnFrom t

    parts-more : (qs : List Piece) (q : Piece)
        → AllByRecursion (IsThere r n all) qs
        → IsThere r n all q
        → AllByRecursion (IsThere r n all) (qs ++ q ∷ [])
    parts-more [] q h here = (here, tt)
    parts-more (p ∷ qs) q h here = (h.0, parts-more qs q h.1 here)

    agree-more : (before qs : List Piece) (q : Piece)
        → AreAgreed before qs
        → contradicts (before ++ qs) q ≡ false
        → AreAgreed before (qs ++ q ∷ [])
    agree-more before [] q h e =
        (subst (λ (xs : List Piece). contradicts xs q ≡ false) (append-nil before) e, tt)
    agree-more before (p ∷ qs) q h e = (
      h.0,
      agree-more (before ++ p ∷ []) qs q h.1
          (subst (λ (xs : List Piece). contradicts xs q ≡ false)
          (sym (append_assoc before (p ∷ []) qs)) e),
    )

    more-from : (c : Came) (q : Piece) → IsFrom c → IsThere r n all q → IsFrom (more c q)
    more-from c q h here = go (is_some c.against) (contradicts c.parts q) refl where
      go : (a b : Bool)
          → contradicts c.parts q ≡ b
          → IsFrom (if a then c else if b then record c { against = Some 0 }
          else record c { parts = c.parts ++ q ∷ [] })
      go true b e = h
      go false true e = h
      go false false e = (parts-more c.parts q h.0 here, agree-more [] c.parts q h.1 e)

    seed-from : (again : Bool) (q : Piece) → IsThere r n all q → IsFrom (seed again q)
    seed-from true q here = more-from nothing_came q (tt, tt) here
    seed-from false q here = (tt, tt)

    fit-from : (again : Bool) (q : Piece) (c : Came) (m : List ℕ) (o : Option MisfitAs)
        → unfit r any false m ≡ o
        → message_of c.parts ≡ Some m
        → IsFrom c
        → IsThere r n all q
        → TurnFrom (turn_fit again q c m o)
    fit-from again q c m None e is h here = record {
      parts = c.parts;
      there = h.0;
      agree = h.1;
      joined = is;
      fit = fit-sure r any false m e;
    }
    fit-from again q c m (Some f) e is h here = (tt, seed-from again q here)

    joined-from : (again : Bool) (q : Piece) (c : Came) (o : Option (List ℕ))
        → message_of c.parts ≡ o
        → IsFrom c
        → IsThere r n all q
        → TurnFrom (turn_joined r any again q c o)
    joined-from again q c None is h here = h
    joined-from again q c (Some m) is h here = fit-from again
        q c m (unfit r any false m) refl is h here

    turn-from : (again : Bool) (c : Came) (q : Piece)
        → IsFrom c
        → IsThere r n all q
        → TurnFrom (turn r any again c q)
    unfolding turn
    turn-from again c q h here = go (is_some (more c q).against) where
      go : (a : Bool)
          → TurnFrom (if a then GivesUp (parts_dropped (more c q)) (alone q)
          else turn_joined r any again q (more c q) (message_of (more c q).parts))
      go true = (tt, more-from nothing_came q (tt, tt) here)
      go false = joined-from again q (more c q) (message_of (more c q).parts) refl
          (more-from c q h here) here

    begun-from : (last : Option Came) (c : Came) → IsFrom c → HeldFrom (held_begun last c)
    begun-from None c h = (tt, h)
    begun-from (Some l) c h = (h, h)

    new_turn-from : (again : Bool) (h : Held) (q : Piece)
        → HeldFrom h
        → IsThere r n all q
        → TurnFrom (new_turn r any again h q)
    new_turn-from again h q k here = go (is_old h.last q) where
      go : (b : Bool) → TurnFrom (if b then Waits h.new else turn r any again h.new q)
      go true = k.1
      go false = turn-from again h.new q k.1 here

    all_turn-from : (again : Bool) (o : Option Came) (q : Piece)
        → SomeFrom o
        → IsThere r n all q
        → AllTurnFrom (all_turn r any again o q)
    all_turn-from again None q k here = tt
    all_turn-from again (Some c) q k here = turn-from again c q k here

    after_all-from : (last : Option Came) (c : Came) (o : Option Turn)
        → IsFrom c
        → AllTurnFrom o
        → HeldFrom (after_all last c o).0 × IsTold (after_all last c o).1
    after_all-from last c None new old = ((tt, new), tt)
    after_all-from last c (Some (Waits a)) new old = ((old, new), tt)
    after_all-from last c (Some (GivesUp w a)) new old = ((tt, new), tt)
    after_all-from last c (Some (Gives a m)) new old = (((tt, tt), (tt, tt)), old)

    after-from : (last : Option Came) (t : Turn) (o : Option Turn)
        → TurnFrom t
        → AllTurnFrom o
        → HeldFrom (after last t o).0 × IsTold (after last t o).1
    after-from last (Waits c) o new old = after_all-from last c o new old
    after-from last (GivesUp w c) o new old = (begun-from last c new.1, new.0)
    after-from last (Gives c m) o new old = (((tt, tt), (tt, tt)), new)

    gather-from : (again : Bool) (h : Held) (q : Piece)
        → HeldFrom h
        → IsThere r n all q
        → HeldFrom (gather r any again h q).0 × IsTold (gather r any again h q).1
    unfolding gather
    gather-from again h q k here =
        after-from h.last (new_turn r any again h q) (all_turn r any again h.all q)
        (new_turn-from again h q k here) (all_turn-from again h.all q k.0 here)

    -- ---- by the run

    abbrev CourseFrom : Course → Type 0
    CourseFrom c = HeldFrom c.held × IsFrom c.run.came

    abbrev RunTurnFrom : RunTurn → Type 0
    RunTurnFrom (Goes run) = IsFrom run.came
    RunTurnFrom (Ends d m sure) = IsFrom d × (message_of d.parts ≡ Some m)

    run_joined-from : (at : Order) (c : Came) (o : Option (List ℕ))
        → message_of c.parts ≡ o
        → IsFrom c
        → RunTurnFrom (run_joined at c o)
    run_joined-from at c None is h = h
    run_joined-from at c (Some m) is h = (h, is)

    run_by-from : (at : Order) (c : Came) → IsFrom c → RunTurnFrom (run_by at c)
    run_by-from at c h = go (is_some c.against) where
      go : (a : Bool)
          → RunTurnFrom (if a then Goes no_run else run_joined at c (message_of c.parts))
      go true = (tt, tt)
      go false = run_joined-from at c (message_of c.parts) refl h

    run-from : (run : Run) (now : ℕ) (q : Piece)
        → IsFrom run.came
        → IsThere r n all q
        → RunTurnFrom (run_turn run now q)
    unfolding run_turn
    run-from run now q h here =
        go (run_before run q.number) (nat_le q.number ((run_before run q.number).order.count + 1))
        (before (q.number == 1)) where
          before : (one : Bool) → IsFrom (if one then no_run else run).came
          before true = (tt, tt)
          before false = h

          go : (run : Run) (next : Bool)
              → IsFrom run.came
              → RunTurnFrom
              (if next then run_by (order_after run.order q.number now) (more run.came q)
              else Goes no_run)
          go run true h =
              run_by-from (order_after run.order q.number now) (more run.came q)
              (more-from run.came q h here)
          go run false h = (tt, tt)

    go_on-from : (again : Bool) (c : Course) (q : Piece)
        → CourseFrom c
        → IsThere r n all q
        → CourseFrom (go_on r any again c q).0 × IsTold (go_on r any again c q).1
    go_on-from again c q k here =
        let g = gather-from again c.held q k.0 here in ((g.0, k.1), g.1)

    in_order-sound : (own : Bool) (c : Came) (m : List ℕ)
        → IsGood r any all n m
        → IsSound n (told_in_order own c m)
    in_order-sound true c m good = good
    in_order-sound false c m good = good

    end_by-from : (c : Course) (q : Piece) (d : Came) (m : List ℕ) (again : Bool)
        → CourseFrom c
        → IsGood r any all n m
        → IsThere r n all q
        → CourseFrom (end_by r any c q d m again).0 × IsTold (end_by r any c q d m again).1
    end_by-from c q d m true k good here = go_on-from false c q k here
    end_by-from c q d m false k good here =
        ((((tt, tt), (tt, tt)), (tt, tt)), in_order-sound (are_own c d) c.held.new m good)

    end_run-from : (c : Course) (q : Piece) (d : Came) (m : List ℕ) (sure : Bool)
        (o : Option MisfitAs)
        → unfit r any sure m ≡ o
        → CourseFrom c
        → IsFrom d
        → message_of d.parts ≡ Some m
        → IsThere r n all q
        → CourseFrom (end_run r any c q d m o).0 × IsTold (end_run r any c q d m o).1
    end_run-from c q d m sure None e k from is here =
        end_by-from c q d m (repeats c q.number m) k
        (record {
          parts = d.parts;
          there = from.0;
          agree = from.1;
          joined = is;
          fit = fit-sure r any sure m e;
        }) here
    end_run-from c q d m sure (Some f) e k from is here = go_on-from false c q k here

    step_by-from : (c : Course) (q : Piece) (t : RunTurn)
        → CourseFrom c
        → RunTurnFrom t
        → IsThere r n all q
        → CourseFrom (step_by r any c q t).0 × IsTold (step_by r any c q t).1
    step_by-from c q (Goes run) k from here =
        go_on-from true (record c { run = run }) q (k.0, from) here
    step_by-from c q (Ends d m sure) k from here =
        end_run-from (record c { run = no_run }) q d m sure (unfit r any sure m) refl
        (k.0, (tt, tt))
        from.0 from.1 here

    step_of-from : (now : ℕ) (c : Course) (o : Option Piece)
        → ((q : Piece) → o ≡ Some q → IsThere r n all q)
        → CourseFrom c
        → CourseFrom (step_of r any now c o).0 × IsTold (step_of r any now c o).1
    unfolding step
    step_of-from now c None are k = (k, tt)
    step_of-from now c (Some q) are k =
        step_by-from c q (run_turn c.run now q) k (run-from c.run now q k.1 (are q refl))
        (are q refl)

    -- each part that these packets carry is there
    abbrev AreIn : List (List ℕ) → Type 0
    AreIn bs = AllByRecursion
        (λ b. (q : Piece) → part_of n (part_carried r b) ≡ Some q → IsThere r n all q) bs

  -- ---- of all names

  abbrev IsSoundEvent : Event → Type 0
  IsSoundEvent e = IsSound e.0 e.1

  listed-sound : (n : Name) (o : Option News)
      → IsTold n o
      → AllByRecursion IsSoundEvent (of n (news_listed o))
  listed-sound n None h = tt
  listed-sound n (Some w) h = (h, tt)

  append-sound : (ds es : List Event)
      → AllByRecursion IsSoundEvent ds
      → AllByRecursion IsSoundEvent es
      → AllByRecursion IsSoundEvent (ds ++ es)
  append-sound [] es h k = k
  append-sound (d ∷ ds) es h k = (h.0, append-sound ds es h.1 k)

  told-sound : (before : List (List ℕ)) (b : List ℕ) (v : Result Named Skip)
      → ((n : Name) → CourseFrom n (course_held r any n before))
      → ((n : Name) (q : Piece) → part_of n (part_carried r b) ≡ Some q → IsThere r n all q)
      → AllByRecursion IsSoundEvent (told_by r any before b v)
  told-sound before b (Ok c) from are =
      let n = name_of c in
      let o = part_of n (part_carried r b) in
      let now = missing_at r (counts_of r before) b in
      listed-sound n (step_of r any now (course_held r any n before) o).1
      (step_of-from n now (course_held r any n before) o (are n) (from n)).1
  told-sound before b (Err e) from are = tt

  events-sound : (before bs : List (List ℕ))
      → ((n : Name) → CourseFrom n (course_held r any n before))
      → ((n : Name) → AreIn n bs)
      → AllByRecursion IsSoundEvent (events_from r any before bs)
  events-sound before [] from are = tt
  events-sound before (b ∷ bs) from are =
      append-sound (told_by r any before b (part_carried r b))
      (events_from r any (before ++ b ∷ []) bs)
      (told-sound before b (part_carried r b) from (λ n. (are n).0))
      (events-sound (before ++ b ∷ []) bs
      (λ n. subst (CourseFrom n) (sym (held_from-next r any n nothing_counted nothing before b))
      (step_of-from n (missing_at r (counts_of r before) b) (course_held r any n before)
      (part_of n (part_carried r b)) (are n).0 (from n)).0)
      (λ n. (are n).1))

  sound-there : (front back : List Event) (e : Event)
      → AllByRecursion IsSoundEvent (front ++ e ∷ back)
      → IsSoundEvent e
  sound-there [] back e h = h.0
  sound-there (d ∷ front) back e h = sound-there front back e h.1

-- each part that packets carry is among them
in-more : (r : Reading) (n : Name) (c : List ℕ) (all bs : List (List ℕ))
    → AllByRecursion (λ b. (q : Piece) → part_of n (part_carried r b) ≡ Some q → IsThere r n all q)
    bs
    → AllByRecursion
    (λ b. (q : Piece) → part_of n (part_carried r b) ≡ Some q → IsThere r n (c ∷ all) q) bs
in-more r n c all [] h = tt
in-more r n c all (b ∷ bs) h = (λ q is. inr (h.0 q is), in-more r n c all bs h.1)

are_in : (r : Reading) (n : Name) (bs : List (List ℕ))
    → AllByRecursion (λ b. (q : Piece) → part_of n (part_carried r b) ≡ Some q → IsThere r n bs q)
    bs
are_in r n [] = tt
are_in r n (b ∷ bs) = (λ q is. inl is, in-more r n b bs bs (are_in r n bs))

-- each message that is given out
told_good : (r : Reading) (any : Bool) (bs : List (List ℕ)) (n : Name) (m : List ℕ) (w : News)
    → IsSound r any bs n w
    → messages_of w ≡ m ∷ []
    → IsGood r any bs n m
told_good r any bs n m (Given x) h e = subst (IsGood r any bs n) (first x m e) h where
  first : (x m : List ℕ) → ◌≡◌ {A = List (List ℕ)} (x ∷ []) (m ∷ []) → x ≡ m
  first x m e = cc
told_good r any bs n m (Dropped parts last) h e = absurd cc
told_good r any bs n m (Unfit f) h e = absurd cc
told_good r any bs n m (Overtaken parts last x) h e =
    subst (IsGood r any bs n) (first x m e) h where
      first : (x m : List ℕ) → ◌≡◌ {A = List (List ℕ)} (x ∷ []) (m ∷ []) → x ≡ m
      first x m e = cc

pub given_good : (r : Reading) (any : Bool) (bs : List (List ℕ)) (n : Name) (m : List ℕ)
    (front back : List Event) (w : News)
    → events_from r any [] bs ≡ front ++ (n, w) ∷ back
    → messages_of w ≡ m ∷ []
    → IsGood r any bs n m
given_good r any bs n m front back w is gives =
    told_good r any bs n m w
    (sound-there r any bs front back (n, w)
    (subst (AllByRecursion (IsSoundEvent r any bs)) is
    (events-sound r any bs [] bs (λ k. ((tt, (tt, tt)), (tt, tt))) (λ k. are_in r k bs)))) gives
