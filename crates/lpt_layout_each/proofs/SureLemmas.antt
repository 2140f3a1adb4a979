-- What is given out by a layout without a checksum is joined of parts that came in their order.
use Rattle.std.proofs.Common.{◌≡◌, ◌∙◌, ap, sym, subst, refl, ℕ, ◌+◌, ◌==◌, ◌||◌, nat_le, Bool, true, false, if◌then◌else◌, List, [], ◌∷◌, ◌++◌, append-nil, append_assoc, Option, Some, None, Result, Ok, Err}
use Rattle.std.specs.Prelude.{is_some}
use Rattle.std.specs.Option.{option_or}
use Rattle.std.specs.List.{AllByRecursion}
use Rattle.lpt_part.specs.Parts.{Piece}
use Rattle.lpt_layout_join.specs.declared.ending.MisfitAs.{MisfitAs}
use Rattle.lpt_layout_join.specs.declared.ending.MisfitAs.TheVariants.{Unsure}
use Rattle.lpt_layout_join.specs.declared.last_part.LastPart.{LastPart}
use Rattle.lpt_carried.specs.declared.name.Name.{Name}
use Rattle.lpt_layout_join.specs.declared.order.Order.{Order}
use Rattle.lpt_carried.specs.declared.reading.Reading.{Reading}
use Rattle.lpt_carried.specs.declared.skip.Skip.{Skip}
use Rattle.lpt_layout_join.specs.Came.{Came, contradicts, last_of, message_of}
use Rattle.lpt_carried.specs.Carried.{Named, part_carried, name_of, part_of}
use Rattle.lpt_layout_join.specs.Counts.{Counted, all_counted, nothing_counted}
use Rattle.lpt_layout_join.specs.InOrder.{IsInOrder}
use Rattle.lpt_layout_join.specs.Orders.{is_in_order, order_after}
use Rattle.lpt_layout_join.specs.Writes.{misfit, unfit}
use Rattle.lpt_layout_join.proofs.InOrderLemmas.{CameSo, came-other, came-part, in_order, none-came, octets-own}
use Rattle.lpt_layout_each.specs.Eaches.{Course, Gives, GivesUp, Goes, Held, Run, Turn, Waits, after, after_all, all_turn, alone, are_own, counts_of, end_by, end_run, gather, go_on, course_held, is_old, news_listed, missing_at, more, new_turn, no_run, nothing, repeats, run_before, run_by, run_joined, run_turn, step, step_by, step_of, told_in_order, turn, turn_fit, turn_joined}
use Rattle.lpt_layout_each.specs.News.{Event, News, parts_dropped, messages_in, messages_of}
use Rattle.lpt_layout_each.specs.Streams.{events_from, of, told_by}
use Rattle.lpt_layout_each.proofs.HeldsLemmas.{counted-next, held_from-next}

-- with packets behind them they stand so still
order-behind : (r : Reading) (n : Name) (bs cs : List (List ℕ)) (m : List ℕ)
    → IsInOrder r n bs m
    → IsInOrder r n (bs ++ cs) m
order-behind r n bs cs m h = record {
  parts = h.parts;
  joined = h.joined;
  last = h.last;
  last_is = h.last_is;
  front = h.front;
  behind = h.behind ++ cs;
  are = ap (λ (xs : List (List ℕ)). xs ++ cs) h.are ∙ append_assoc h.front h.behind cs;
  stand = h.stand;
}

-- a part more that agrees is behind the others
more-agrees : (c : Came) (q : Piece)
    → is_some (more c q).against ≡ false
    → (contradicts c.parts q ≡ false) × ((more c q).parts ≡ c.parts ++ q ∷ [])
more-agrees c q h = go (is_some c.against) refl (contradicts c.parts q) refl h where
  go : (s : Bool) → is_some c.against ≡ s
      → (t : Bool) → contradicts c.parts q ≡ t
      → is_some (if s then c else if t then record c { against = Some 0 }
      else record c { parts = c.parts ++ q ∷ [] }).against ≡ false
      → (contradicts c.parts q ≡ false)
      × ((if s then c else if t then record c { against = Some 0 }
      else record c { parts = c.parts ++ q ∷ [] }).parts ≡ c.parts ++ q ∷ [])
  go true e t f k = absurd (cc (sym e ∙ k))
  go false e true f k = absurd cc
  go false e false f k = (f, refl)

module _ (r : Reading) (bare : r.layout.has_checksum ≡ false) where
  -- only what is sure is given out
  some_unsure : (x : Option MisfitAs) → option_or x (Some Unsure) ≡ None → ⊥
  some_unsure None e = cc
  some_unsure (Some f) e = cc

  sure-of : (sure : Bool) (m : List ℕ) → unfit r false sure m ≡ None → sure ≡ true
  sure-of true m h = refl
  sure-of false m h =
      absurd (some_unsure (misfit r m)
      (ap (λ (t : Bool). option_or (misfit r m) (if t || false then None else Some Unsure))
      (sym bare) ∙ h))

  not_false : (sure : Bool) → sure ≡ false → sure ≡ true → ⊥
  not_false sure e f = cc

  -- ---- what is gathered in whatever order tells no message

  abbrev NoMessage : Turn → Type 0
  NoMessage (Waits c) = Unit {0}
  NoMessage (GivesUp w c) = messages_of w ≡ []
  NoMessage (Gives c m) = ⊥

  abbrev NoMessageOf : Option Turn → Type 0
  NoMessageOf None = Unit {0}
  NoMessageOf (Some t) = NoMessage t

  fit-none : (again : Bool) (q : Piece) (c : Came) (m : List ℕ) (o : Option MisfitAs)
      → unfit r false false m ≡ o
      → NoMessage (turn_fit again q c m o)
  fit-none again q c m None e = not_false false refl (sure-of false m e)
  fit-none again q c m (Some f) e = refl

  joined-none : (again : Bool) (q : Piece) (c : Came) (o : Option (List ℕ))
      → NoMessage (turn_joined r false again q c o)
  joined-none again q c None = tt
  joined-none again q c (Some m) = fit-none again q c m (unfit r false false m) refl

  turn-none : (again : Bool) (c : Came) (q : Piece) → NoMessage (turn r false again c q)
  unfolding turn
  turn-none again c q = go (is_some (more c q).against) where
    go : (a : Bool)
        → NoMessage (if a then GivesUp (parts_dropped (more c q)) (alone q)
        else turn_joined r false again q (more c q) (message_of (more c q).parts))
    go true = refl
    go false = joined-none again q (more c q) (message_of (more c q).parts)

  new-none : (again : Bool) (h : Held) (q : Piece) → NoMessage (new_turn r false again h q)
  new-none again h q = go (is_old h.last q) where
    go : (b : Bool) → NoMessage (if b then Waits h.new else turn r false again h.new q)
    go true = tt
    go false = turn-none again h.new q

  all-none : (again : Bool) (o : Option Came) (q : Piece) → NoMessageOf (all_turn r false again o q)
  all-none again None q = tt
  all-none again (Some c) q = turn-none again c q

  after_all-none : (last : Option Came) (c : Came) (o : Option Turn)
      → NoMessageOf o
      → messages_in (news_listed (after_all last c o).1) ≡ []
  after_all-none last c None h = refl
  after_all-none last c (Some (Waits a)) h = refl
  after_all-none last c (Some (GivesUp w a)) h = refl
  after_all-none last c (Some (Gives a m)) h = absurd h

  after-none : (last : Option Came) (t : Turn) (o : Option Turn)
      → NoMessage t
      → NoMessageOf o
      → messages_in (news_listed (after last t o).1) ≡ []
  after-none last (Waits c) o h k = after_all-none last c o k
  after-none last (GivesUp w c) o h k = append-nil (messages_of w) ∙ h
  after-none last (Gives c m) o h k = absurd h

  gather-none : (again : Bool) (h : Held) (q : Piece)
      → messages_in (news_listed (gather r false again h q).1) ≡ []
  unfolding gather
  gather-none again h q =
      after-none h.last (new_turn r false again h q) (all_turn r false again h.all q)
      (new-none again h q) (all-none again h.all q)

  -- ---- by the run, of one name

  module _ (n : Name) where
    abbrev RunSo : List (List ℕ) → Run → Type 0
    RunSo bs run = CameSo r n bs run.order run.came.parts

    -- these packets have given this
    abbrev StepSo : List (List ℕ) → Course × Option News → Type 0
    StepSo bs s = RunSo bs s.0.run
        × ((m : List ℕ) → messages_in (news_listed s.1) ≡ m ∷ [] → IsInOrder r n bs m)

    module _ (bs : List (List ℕ)) (b : List ℕ) (c : Course) (q : Piece)
        (is : part_of n (part_carried r b) ≡ Some q) (so : RunSo bs c.run) where
      abbrev bsb : List (List ℕ)
      bsb = bs ++ b ∷ []

      abbrev now : ℕ
      now = missing_at r (counts_of r bs) b

      now-is : now ≡ (all_counted r nothing_counted bsb).missing
      now-is = sym (ap (λ (k : Counted). k.missing) (counted-next r nothing_counted bs b))

      goes-so : (again : Bool) (run : Run) → RunSo bsb run
          → StepSo bsb (go_on r false again (record c { run = run }) q)
      goes-so again run h = (
        h,
        λ m e. absurd (no_more m (sym (gather-none again c.held q) ∙ e)),
      ) where
        no_more : (m : List ℕ) → ◌≡◌ {A = List (List ℕ)} [] (m ∷ []) → ⊥
        no_more m e = cc

      before-so : RunSo bs (run_before c.run q.number)
      before-so = go (q.number == 1) where
        go : (t : Bool) → RunSo bs (if t then no_run else c.run)
        go true = none-came r n bs []
        go false = so

      told-one : (own : Bool) (d : Came) (m x : List ℕ)
          → messages_in (news_listed (Some (told_in_order own d m))) ≡ x ∷ []
          → m ≡ x
      told-one true d m x e = cc
      told-one false d m x e = cc

      -- it is given out, or was
      end_by-so : (d : Came) (m : List ℕ) (again : Bool)
          → IsInOrder r n bsb m
          → StepSo bsb (end_by r false (record c { run = no_run }) q d m again)
      end_by-so d m true is = goes-so false no_run (none-came r n bsb [])
      end_by-so d m false is = (
        none-came r n bsb [],
        λ x e. subst (IsInOrder r n bsb) (told-one (are_own c d) c.held.new m x e) is,
      )

      -- the message is whole
      end-so : (o : Order) (d : Came) (m : List ℕ) (sure : Bool) (u : Option MisfitAs)
          → unfit r false sure m ≡ u
          → CameSo r n bsb o d.parts
          → message_of d.parts ≡ Some m
          → sure ≡ is_in_order (last_of d.parts) o
          → StepSo bsb (end_run r false (record c { run = no_run }) q d m u)
      end-so o d m sure (Some e) fit h joined is = goes-so false no_run (none-came r n bsb [])
      end-so o d m sure None fit h joined is =
          end_by-so d m (repeats (record c { run = no_run }) q.number m)
          (whole (last_of d.parts) refl) where
            all : is_in_order (last_of d.parts) o ≡ true
            all = sym is ∙ sure-of sure m fit

            whole : (l : Option LastPart) → last_of d.parts ≡ l → IsInOrder r n bsb m
            whole None e = absurd (cc (ap (λ (x : Option LastPart). is_in_order x o) (sym e) ∙ all))
            whole (Some l) e =
                let s = in_order r n bsb o d.parts l h e all in
                record {
                  parts = d.parts;
                  joined = joined;
                  last = l;
                  last_is = e;
                  front = s.0;
                  behind = s.1;
                  are = s.2;
                  stand = s.3;
                }

      joined-so : (o : Order) (d : Came) (w : Option (List ℕ))
          → message_of d.parts ≡ w
          → CameSo r n bsb o d.parts
          → StepSo bsb (step_by r false c q (run_joined o d w))
      joined-so o d None e h = goes-so true (record { order = o; came = d }) h
      joined-so o d (Some m) e h =
          let sure = is_in_order (last_of d.parts) o in
          end-so o d m sure (unfit r false sure m) refl h e refl

      abbrev s : Run
      s = run_before c.run q.number

      step-so : StepSo bsb (step r false now c q)
      unfolding step run_turn
      step-so = near (nat_le q.number (s.order.count + 1)) where
        with : (a : Bool)
            → is_some (more s.came q).against ≡ a
            → StepSo bsb (step_by r false c q (if a then Goes no_run
            else run_joined (order_after s.order q.number now) (more s.came q)
            (message_of (more s.came q).parts)))
        with true e = goes-so true no_run (none-came r n bsb [])
        with false e =
            let agrees = more-agrees s.came q e in
            joined-so (order_after s.order q.number now) (more s.came q)
            (message_of (more s.came q).parts) refl
            (subst (λ (i : ℕ). CameSo r n bsb (order_after s.order q.number i)
            (more s.came q).parts)
            (sym now-is)
            (subst (CameSo r n bsb
            (order_after s.order q.number (all_counted r nothing_counted bsb).missing))
            (sym agrees.1)
            (came-part r n bs b s.came.parts q is
            (octets-own s.came.parts q agrees.0) s.order before-so)))

        near : (t : Bool)
            → StepSo bsb
            (step_by r false c q
            (if t then run_by (order_after s.order q.number now) (more s.came q)
            else Goes no_run))
        near true = with (is_some (more s.came q).against) refl
        near false = goes-so true no_run (none-came r n bsb [])

    step_of-so : (bs : List (List ℕ)) (b : List ℕ) (c : Course) (o : Option Piece)
        → part_of n (part_carried r b) ≡ o
        → RunSo bs c.run
        → StepSo (bs ++ b ∷ []) (step_of r false (missing_at r (counts_of r bs) b) c o)
    step_of-so bs b c None is so = (
      came-other r n bs b c.run.order c.run.came.parts is so,
      λ m e. absurd cc,
    )
    step_of-so bs b c (Some q) is so = step-so bs b c q is so

  -- ---- of all names

  module _ (all : List (List ℕ)) where
    abbrev IsSoundEvent : Event → Type 0
    IsSoundEvent e = (m : List ℕ) → messages_of e.1 ≡ m ∷ [] → IsInOrder r e.0 all m

    listed-sound : (n : Name) (o : Option News)
        → ((m : List ℕ) → messages_in (news_listed o) ≡ m ∷ [] → IsInOrder r n all m)
        → AllByRecursion IsSoundEvent (of n (news_listed o))
    listed-sound n None h = tt
    listed-sound n (Some w) h = (λ m e. h m (append-nil (messages_of w) ∙ e), tt)

    append-sound : (ds es : List Event)
        → AllByRecursion IsSoundEvent ds
        → AllByRecursion IsSoundEvent es
        → AllByRecursion IsSoundEvent (ds ++ es)
    append-sound [] es h k = k
    append-sound (d ∷ ds) es h k = (h.0, append-sound ds es h.1 k)

    told-sound : (before behind : List (List ℕ)) (b : List ℕ) (v : Result Named Skip)
        → all ≡ (before ++ b ∷ []) ++ behind
        → ((n : Name) → RunSo n before (course_held r false n before).run)
        → AllByRecursion IsSoundEvent (told_by r false before b v)
    told-sound before behind b (Ok c) are so =
        let n = name_of c in
        let o = part_of n (part_carried r b) in
        let s = step_of-so n before b (course_held r false n before) o refl (so n) in
        listed-sound n
        (step_of r false (missing_at r (counts_of r before) b) (course_held r false n before) o).1
        (λ m e. subst (λ (xs : List (List ℕ)). IsInOrder r n xs m) (sym are)
        (order-behind r n (before ++ b ∷ []) behind m (s.1 m e)))
    told-sound before behind b (Err e) are so = tt

    events-sound : (before bs : List (List ℕ))
        → all ≡ before ++ bs
        → ((n : Name) → RunSo n before (course_held r false n before).run)
        → AllByRecursion IsSoundEvent (events_from r false before bs)
    events-sound before [] are so = tt
    events-sound before (b ∷ bs) are so =
        let all_are = are ∙ sym (append_assoc before (b ∷ []) bs) in
        append-sound (told_by r false before b (part_carried r b))
        (events_from r false (before ++ b ∷ []) bs)
        (told-sound before bs b (part_carried r b) all_are so)
        (events-sound (before ++ b ∷ []) bs all_are
        (λ n. subst (λ (c : Course). RunSo n (before ++ b ∷ []) c.run)
        (sym (held_from-next r false n nothing_counted nothing before b))
        (step_of-so n before b (course_held r false n before) (part_of n (part_carried r b)) refl
        (so n)).0))

    sound-there : (front back : List Event) (e : Event)
        → AllByRecursion IsSoundEvent (front ++ e ∷ back)
        → IsSoundEvent e
    sound-there [] back e h = h.0
    sound-there (d ∷ front) back e h = sound-there front back e h.1

pub given-in-order : (r : Reading) (bs : List (List ℕ)) (n : Name) (m : List ℕ)
    (front back : List Event) (w : News)
    → r.layout.has_checksum ≡ false
    → events_from r false [] bs ≡ front ++ (n, w) ∷ back
    → messages_of w ≡ m ∷ []
    → IsInOrder r n bs m
given-in-order r bs n m front back w bare is gives =
    sound-there r bare bs front back (n, w)
    (subst (AllByRecursion (IsSoundEvent r bare bs)) is
    (events-sound r bare bs [] bs refl (λ k. none-came r k [] []))) m gives
