-- What is kept and told, by what a part makes of the others.
use Rattle.std.proofs.Common.{◌≡◌, ◌∙◌, ap, sym, subst, refl, ℕ, ◌+◌, ◌≤◌, Bool, true, false, if◌then◌else◌, List, Option, Some, None, arith}
use Rattle.std.specs.Option.{option_map}
use Rattle.lpt_part.specs.Parts.{Piece}
use Rattle.lpt_layout_join.specs.declared.came.CameAs.{CameAs}
use Rattle.lpt_carried.specs.declared.reading.Reading.{Reading}
use Rattle.lpt_layout_join.specs.declared.ending.MisfitAs.{MisfitAs}
use Rattle.lpt_layout_join.specs.Came.{Came, nothing_came}
use Rattle.lpt_layout_join.specs.Writes.{unfit}
use Rattle.lpt_layout_join.specs.CameInside.{Shows, last_in, part_at}
use Rattle.lpt_layout_each.specs.declared.held.HeldAs.{HeldAs}
use Rattle.lpt_layout_each.specs.declared.news.NewsAs.TheVariants as said
use Rattle.lpt_layout_each.specs.declared.turn.Turn.TheVariants as code
use Rattle.lpt_layout_each.specs.Eaches.{Held, Turn, Waits, GivesUp, Gives, after, after_all, all_turn, alone, held_begun, message_given, is_old, more, step, turn, Course, Ends, Goes, Run, end_by, end_run, gather, go_on, no_run, repeats, run_turn, seed, step_by}
use Rattle.lpt_layout_each.specs.Helds.{Holds, IsTurnOfAll, ShowsSome, Takes}
use Rattle.lpt_layout_each.specs.News.{News, Dropped, Unfit, parts_dropped}

-- ---- a step

module _ (r : Reading) (any again : Bool) (h : Held) (q : Piece) where
  -- of a part of the last message
  pub step-old : is_old h.last q ≡ true
      → after_all h.last h.new (all_turn r any again h.all q) ≡ gather r any again h q
  unfolding gather
  step-old e =
      ap (λ (b : Bool). after h.last (if b then Waits h.new else turn r any again h.new q)
      (all_turn r any again h.all q)) (sym e)

  -- of another, by what it makes of the new parts
  new_step : (now : Turn)
      → is_old h.last q ≡ false
      → turn r any again h.new q ≡ now
      → after h.last now (all_turn r any again h.all q) ≡ gather r any again h q
  unfolding gather
  new_step now e is =
      ap (λ (u : Turn). after h.last u (all_turn r any again h.all q)) (sym is)
      ∙ ap (λ (b : Bool). after h.last (if b then Waits h.new else turn r any again h.new q)
      (all_turn r any again h.all q)) (sym e)

  pub step-waits : (c : Came)
      → is_old h.last q ≡ false
      → turn r any again h.new q ≡ Waits c
      → after_all h.last c (all_turn r any again h.all q) ≡ gather r any again h q
  step-waits c e is = new_step (Waits c) e is

  pub step-gives_up : (w : News) (c : Came)
      → is_old h.last q ≡ false
      → turn r any again h.new q ≡ GivesUp w c
      → ◌≡◌ {A = Held × Option News} (held_begun h.last c, Some w) (gather r any again h q)
  step-gives_up w c e is = new_step (GivesUp w c) e is

  pub step-gives : (c : Came) (m : List ℕ)
      → is_old h.last q ≡ false
      → turn r any again h.new q ≡ Gives c m
      → message_given c m ≡ gather r any again h q
  step-gives c m e is = new_step (Gives c m) e is

-- ---- all parts

-- behind a message, or none
pub begun-none : (l : Option Came) (last all : Option CameAs) (c : Came)
    → last ≡ None
    → all ≡ None
    → ShowsSome l last
    → ShowsSome (option_map (λ _. c) l) all
begun-none None last None c e k h = tt
begun-none None last (Some s) c e k h = absurd cc
begun-none (Some d) None all c e k h = absurd h
begun-none (Some d) (Some t) all c e k h = absurd cc

pub begun-some : (l : Option Came) (last : Option CameAs) (t s : CameAs) (c : Came)
    → last ≡ Some t
    → ShowsSome l last
    → Shows c s
    → ShowsSome (option_map (λ _. c) l) (Some s)
begun-some None None t s c e h k = absurd cc
begun-some None (Some u) t s c e h k = absurd h
begun-some (Some d) last t s c e h k = k

-- ---- what is told

-- parts that are given up, as they are held
pub dropped-shown : (c : Came) (s : CameAs)
    → Shows c s
    → ◌≡◌ {A = News} (Dropped (λ n. part_at s (n + 1)) (last_in s)) (parts_dropped c)
dropped-shown c s h =
    let least : (n : ℕ) → 1 ≤ n + 1 = λ n. omega arith in
    λ i. Dropped (λ n. h.parts_are (n + 1) (least n) i) (h.last_is i)

-- ---- by what a part makes of all

module _ (again : Bool) (l a : Option Came) (c : Came) (q : Piece) (g : HeldAs) where
  abbrev with_part : Option Came
  with_part = option_map (λ d. more d q) a

  -- they aren't kept
  pub after_none : (o : Option Turn)
      → ShowsSome l g.last
      → ShowsSome with_part g.all
      → Shows c g.rest
      → IsTurnOfAll again a q None o
      → Takes (g, None) (after_all l c o)
  after_none o h all k t = go a o all t where
    go : (b : Option Came) (o : Option Turn)
        → ShowsSome (option_map (λ d. more d q) b) g.all
        → IsTurnOfAll again b q None o
        → Takes (g, None) (after_all l c o)
    go None None all u =
        record { holds = record { last = h; all = all; new = k }; tells = refl }
    go None (Some now) all u = absurd u
    go (Some d) None all u = absurd u
    go (Some d) (Some now) all u = absurd u

  -- parts are missing
  pub after_waits : (o : Option Turn)
      → ShowsSome l g.last
      → ShowsSome with_part g.all
      → Shows c g.rest
      → IsTurnOfAll again a q (Some code.Waits) o
      → Takes (g, None) (after_all l c o)
  after_waits o h all k t = go a o all t where
    go : (b : Option Came) (o : Option Turn)
        → ShowsSome (option_map (λ d. more d q) b) g.all
        → IsTurnOfAll again b q (Some code.Waits) o
        → Takes (g, None) (after_all l c o)
    go None None all u = absurd u
    go None (Some now) all u = absurd u
    go (Some d) None all u = absurd u
    go (Some d) (Some now) all u =
        subst (λ (n : Turn). Takes (g, None) (after_all l c (Some n))) (sym u)
        (record { holds = record { last = h; all = all; new = k }; tells = refl })

  -- they are given up
  abbrev without : HeldAs
  without = record { last = g.last; all = None; rest = g.rest }

  given_up : (now : Turn) (w : News) (d : Came)
      → now ≡ GivesUp w d
      → ShowsSome l g.last
      → Shows c g.rest
      → Takes (without, None) (after_all l c (Some now))
  given_up now w d is h k =
      subst (λ (n : Turn). Takes (without, None) (after_all l c (Some n))) (sym is)
      (record { holds = record { last = h; all = tt; new = k }; tells = refl })

  pub after_broken : (o : Option Turn)
      → ShowsSome l g.last
      → Shows c g.rest
      → IsTurnOfAll again a q (Some code.Broken) o
      → Takes (without, None) (after_all l c o)
  after_broken o h k t = go a o t where
    go : (b : Option Came) (o : Option Turn)
        → IsTurnOfAll again b q (Some code.Broken) o
        → Takes (without, None) (after_all l c o)
    go None None u = absurd u
    go None (Some now) u = absurd u
    go (Some d) None u = absurd u
    go (Some d) (Some now) u = given_up now (parts_dropped (more d q)) (alone q) u h k

  pub after_unfit : (e : MisfitAs) (o : Option Turn)
      → ShowsSome l g.last
      → Shows c g.rest
      → IsTurnOfAll again a q (Some (code.Unfit e)) o
      → Takes (without, None) (after_all l c o)
  after_unfit e o h k t = go a o t where
    go : (b : Option Came) (o : Option Turn)
        → IsTurnOfAll again b q (Some (code.Unfit e)) o
        → Takes (without, None) (after_all l c o)
    go None None u = absurd u
    go None (Some now) u = absurd u
    go (Some d) None u = absurd u
    go (Some d) (Some now) u = given_up now (Unfit e) (seed again q) u h k

-- they are joined to a message
pub after_gives : (again : Bool) (l a : Option Came) (c : Came) (q : Piece) (s : Option CameAs)
    (m : List ℕ) (g : HeldAs)
    (o : Option Turn)
    → ((b : Option Came) → ShowsSome b s → Holds (held_begun b nothing_came) g)
    → ShowsSome (option_map (λ d. more d q) a) s
    → IsTurnOfAll again a q (Some (code.Gives m)) o
    → Takes (g, Some (said.Given m)) (after_all l c o)
after_gives again l a c q s m g o holds all t = go a o all t where
  go : (b : Option Came) (o : Option Turn)
      → ShowsSome (option_map (λ d. more d q) b) s
      → IsTurnOfAll again b q (Some (code.Gives m)) o
      → Takes (g, Some (said.Given m)) (after_all l c o)
  go None None all u = absurd u
  go None (Some now) all u = absurd u
  go (Some d) None all u = absurd u
  go (Some d) (Some now) all u =
      subst (λ (n : Turn). Takes (g, Some (said.Given m)) (after_all l c (Some n))) (sym u)
      (record { holds = holds (Some (more d q)) all; tells = refl })

-- ---- by the run

module _ (r : Reading) (any : Bool) (now : ℕ) (c : Course) (q : Piece) where
  -- it goes on
  pub step-goes_on : (run : Run)
      → run_turn c.run now q ≡ Goes run
      → go_on r any true (record c { run = run }) q ≡ step r any now c q
  unfolding step
  step-goes_on run e = sym (ap (step_by r any c q) e)

  -- the message may be given out
  pub step-ends : (d : Came) (m : List ℕ) (sure : Bool)
      → run_turn c.run now q ≡ Ends d m sure
      → unfit r any sure m ≡ None
      → end_by r any (record c { run = no_run }) q d m (repeats c q.number m) ≡ step r any now c q
  unfolding step
  step-ends d m sure e fit =
      sym (ap (step_by r any c q) e ∙ ap (end_run r any (record c { run = no_run }) q d m) fit)

  -- it may not be
  pub step-unfit : (d : Came) (m : List ℕ) (sure : Bool) (e : MisfitAs)
      → run_turn c.run now q ≡ Ends d m sure
      → unfit r any sure m ≡ Some e
      → go_on r any false (record c { run = no_run }) q ≡ step r any now c q
  unfolding step
  step-unfit d m sure f e fit =
      sym (ap (step_by r any c q) e ∙ ap (end_run r any (record c { run = no_run }) q d m) fit)
