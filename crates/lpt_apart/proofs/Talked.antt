-- Steps that two new ends can do they can also do if they free names by lines.
use Rattle.std.proofs.Common.{if◌then◌else◌, ◌≡◌, ◌∙◌, ap, sym, subst, refl, ℕ, zero, suc, ◌+◌, ◌==◌, Bool, true, false, not, ◌&&◌, inl, inr, List, [], ◌∷◌, Option, Some, None, arith}
use Rattle.std.proofs.lemmas.Bool.Decides.{nat_tests}
use Rattle.std.specs.Prelude.{Contains, slice_get}
use Rattle.lpt_packet.specs.declared.direction.Direction.{Direction}
use Rattle.lpt_packet.specs.declared.direction.Direction.TheVariants.{Down}
use Rattle.lpt_packet.specs.Names.{Name}
use Rattle.lpt_packet.proofs.NameLemmas.{same_name-refl}
use Rattle.lpt_memory.specs.Memories.{Contents}
use Rattle.lpt_events.specs.Arrivals.{arrival_in}
use Rattle.lpt_events.specs.Events.{IsEvent}
use Rattle.lpt_events.specs.Sides.{receiver_side, sender_side}
use Rattle.lpt_events.specs.declared.config.Config.{Config}
use Rattle.lpt_events.specs.declared.event.Event.TheVariants as event
use Rattle.lpt_events.proofs.LaneLemmas.{same_direction-refl}
use Rattle.lpt_node.specs.Accepting.{packet_accepted}
use Rattle.lpt_node.specs.Sending.{part_sent}
use Rattle.lpt_model.specs.State.{as_list}
use Rattle.lpt_apart.specs.Ends.{after_all, Ends, PutOut, node_at, without, is_same, Do, Free, Move, Pair, pair_after, no_pair, Accept, Retire, Send, Step}
use Rattle.lpt_apart.specs.TwoEnds.{CanAll, CanMove, IsOnTheWay, IsOver}
use Rattle.lpt_apart.specs.Moves.{CanMoveAll, came_to}
use Rattle.lpt_apart.specs.Plays.{moves_of}
use Rattle.lpt_apart.proofs.Freely.{steps_are_moves}
use Rattle.lpt_apart.specs.Freeing.{Act, CanAct, CanActAll, Comes, Hears, IsOwn, Makes, Says, Sends, StepsAreTalked, Talk, with_act, with_acts, part_line, with_answer}
use Rattle.lpt_apart.specs.Lines.{Finished, Freed, is_unheard, Line, Packet, Part, receives, sends}
use Rattle.lpt_apart.proofs.Turns.{receives_freed, receives_other, sends_freed, sends_other}
use Rattle.lpt_apart.proofs.Ways.{There, part_of}
use Rattle.lpt_apart.proofs.Before.{apart, left_before, part_before, put_before}

-- ---- what is contained

further : {A : Type 0} (y x : A) (xs : List A) → Contains xs x → Contains (y ∷ xs) x
further y x xs it = let low = it.1 in (suc it.0, omega (arith, low), it.2)

foremost : {A : Type 0} (x : A) (xs : List A) → Contains (x ∷ xs) x
foremost x xs = (0, omega arith, refl)

same_number : (n : ℕ) → (n == n) ≡ true
same_number n = grind (arith, nat_tests)

-- ---- talks

module _ (c : Config) (start : Pair) where
  abbrev at : List Move → Pair
  at ms = after_all c start ms

  -- acts can be done, and come to this
  record Gets (t : Talk) : Type 0 where
    acts : List Act
    can : CanActAll c start acts
    are : with_acts c start acts ≡ t

  -- one more
  gets : (t u : Talk) (x : Act)
      → Gets t
      → CanAct c start t x
      → with_act c start t x ≡ u
      → Gets u
  gets t u x g can same = record {
    acts = x ∷ g.acts;
    can = (g.can, subst (λ (s : Talk). CanAct c start s x) (sym g.are) can);
    are = ap (λ (s : Talk). with_act c start s x) g.are ∙ same;
  }

  -- acts come to these moves, in whose turns names are freed at both ends; each part that is on the
  -- way was said in its receiver's turn
  record Talks (ms : List Move) : Type 0 where
    said : List Line
    gets : Gets (record { moves = ms; said = said })
    turns : (d : Direction) (name : Name) → receives ms d name ≡ sends ms d name
    lined : (p : PutOut) (name : Name)
        → There (at ms).ends.on_the_way p
        → p.part_of ≡ Some name
        → Contains said (Part p.direction name (receives ms p.direction name) p.octets)

  -- with a step of an end's own
  talks_own : (ms : List Move) (x : Step)
      → IsOwn x
      → CanMove c (at ms) (Do x)
      → Talks ms
      → Talks (Do x ∷ ms)
  talks_own ms (Send d name k) own can t = absurd own
  talks_own ms (Accept d b) own can t = absurd own
  talks_own ms (Retire d name) own can t = absurd own
  talks_own ms x own can t = record {
    said = t.said;
    gets = gets (record { moves = ms; said = t.said })
        (record { moves = Do x ∷ ms; said = t.said }) (Makes x) t.gets (own, can) refl;
    turns = t.turns;
    lined = λ p name there tagged.
        t.lined p name (part_before c (at ms).ends x p name own tagged there) tagged;
  }

  -- with a part that is sent
  talks_part : (ms : List Move) (d : Direction) (name : Name) (k : ℕ)
      → CanMove c (at ms) (Do (Send d name k))
      → Talks ms
      → Talks (Do (Send d name k) ∷ ms)
  talks_part ms d name k can t =
      let line : Line = part_line c (at ms) ms d name k in
      record {
        said = line ∷ t.said;
        gets = gets (record { moves = ms; said = t.said })
            (record { moves = Do (Send d name k) ∷ ms; said = line ∷ t.said }) (Sends d name k)
            t.gets can refl;
        turns = t.turns;
        lined = λ p i there tagged. go p i there.0 there.1 tagged;
      } where
        octets : List ℕ
        octets = (part_sent (sender_side d) c (node_at (at ms).ends (sender_side d)) name k).1

        go : (p : PutOut) (i : Name) (n : ℕ)
            → slice_get (part_of d name octets ∷ (at ms).ends.on_the_way) n ≡ Some p
            → p.part_of ≡ Some i
            → Contains (Part d name (sends ms d name) octets ∷ t.said)
            (Part p.direction i (receives ms p.direction i) p.octets)
        go p i zero there tagged =
            let same : part_of d name octets ≡ p = cc in
            let named : Some name ≡ Some i = ap (λ (q : PutOut). q.part_of) same ∙ tagged in
            let is : name ≡ i = cc in
            subst (λ (l : Line). Contains (Part d name (sends ms d name) octets ∷ t.said) l)
            ((λ j. Part d name (sym (t.turns d name) j) octets)
            ∙ (λ j. Part ((same j).direction) (is j) (receives ms ((same j).direction) (is j))
            ((same j).octets)))
            (foremost (Part d name (sends ms d name) octets) t.said)
        go p i (suc n) there tagged =
            further (Part d name (sends ms d name) octets)
            (Part p.direction i (receives ms p.direction i) p.octets) t.said
            (t.lined p i (n, there) tagged)

  -- what is handed over brings no part on the way
  accepted_before : (ms : List Move) (d : Direction) (b : List ℕ) (p : PutOut) (name : Name)
      → p.part_of ≡ Some name
      → There (at (Do (Accept d b) ∷ ms)).ends.on_the_way p
      → There (at ms).ends.on_the_way p
  accepted_before ms d b p name tagged there =
      let e : Ends = (at ms).ends in
      put_before e.on_the_way p name Down
      (as_list (packet_accepted (receiver_side d) c (node_at e (receiver_side d))
      (arrival_in c d b)).1.packet) tagged there

  -- with octets that are handed over, by whatever act, once these lines were said
  talks_accepted : (ms : List Move) (said : List Line) (d : Direction) (b : List ℕ) (x : Act)
      → (t : Talks ms)
      → ((l : Line) → Contains t.said l → Contains said l)
      → Gets (record { moves = ms; said = said })
      → CanAct c start (record { moves = ms; said = said }) x
      → with_act c start (record { moves = ms; said = said }) x
      ≡ record { moves = Do (Accept d b) ∷ ms; said = said }
      → Talks (Do (Accept d b) ∷ ms)
  talks_accepted ms said d b x t more g can same = record {
    said = said;
    gets = gets (record { moves = ms; said = said })
        (record { moves = Do (Accept d b) ∷ ms; said = said }) x g can same;
    turns = t.turns;
    lined = λ p name there tagged.
        more (Part p.direction name (receives ms p.direction name) p.octets)
        (t.lined p name (accepted_before ms d b p name tagged there) tagged);
  }

  -- a packet that is on the way
  talks_heard : (ms : List Move) (d : Direction) (b : List ℕ)
      → IsOnTheWay (at ms).ends d b
      → Talks ms
      → Talks (Do (Accept d b) ∷ ms)
  talks_heard ms d b on t = go on.packet.part_of refl where
    there : There (at ms).ends.on_the_way on.packet
    there = (on.place, on.there)

    go : (o : Option Name) → on.packet.part_of ≡ o → Talks (Do (Accept d b) ∷ ms)
    go None none =
        let is : on.packet ≡ record { direction = d; part_of = None; octets = b } =
        (λ i. record { direction = on.goes i; part_of = none i; octets = on.octets i }) in
        let said : List Line = Packet d b ∷ t.said in
        talks_accepted ms said d b (Hears (Packet d b)) t
        (λ l it. further (Packet d b) l t.said it)
        (gets (record { moves = ms; said = t.said }) (record { moves = ms; said = said })
        (Says (Packet d b)) t.gets
        (record { place = on.place; there = on.there ∙ ap (λ (p : PutOut). Some p) is }) refl)
        (foremost (Packet d b) t.said) refl
    go (Some name) tagged =
        let turn : ℕ = receives ms d name in
        let line : Line = Part d name turn b in
        let has : Contains t.said line =
        subst (λ (l : Line). Contains t.said l)
        (λ i. Part (on.goes i) name (receives ms (on.goes i) name) (on.octets i))
        (t.lined on.packet name there tagged) in
        talks_accepted ms t.said d b (Hears line) t (λ l it. it) t.gets has
        (ap (λ (y : Bool). record {
          moves = with_answer (if y then Some (Do (Accept d b)) else None) ms;
          said = t.said;
        }) (same_number turn))

  talks_accept : (ms : List Move) (d : Direction) (b : List ℕ)
      → CanMove c (at ms) (Do (Accept d b))
      → Talks ms
      → Talks (Do (Accept d b) ∷ ms)
  talks_accept ms d b (inl on) t = talks_heard ms d b on t
  talks_accept ms d b (inr harmless) t =
      talks_accepted ms t.said d b (Comes d b) t (λ l it. it) t.gets harmless refl

  -- ---- a name is freed

  itself : (d : Direction) (name : Name) → is_same d name d name ≡ true
  itself d name i = same_direction-refl d i && same_name-refl name i

  -- with a name that is freed at its receiver, and then at its sender
  talks_retire : (ms : List Move) (d : Direction) (name : Name)
      → IsEvent (event.Retire d name)
      → IsOver (at ms).ends d name
      → Talks ms
      → Talks (Do (Retire d name) ∷ Free d name ∷ ms)
  talks_retire ms d name named over t = record {
    said = said_both;
    gets = gets (talk freed said_both) (talk retired said_both) (Hears (Freed d name turn)) tells
        (foremost (Freed d name turn) said_finished)
        (ap (λ (y : Bool). talk (with_answer (if y then Some (Do (Retire d name)) else None) freed)
        said_both) (same_number turn));
    turns = λ e i. fits e i (is_same d name e i) refl;
    lined = lined;
  } where
    turn : ℕ
    turn = sends ms d name

    freed : List Move
    freed = Free d name ∷ ms

    retired : List Move
    retired = Do (Retire d name) ∷ freed

    said_finished : List Line
    said_finished = Finished d name turn ∷ t.said

    said_both : List Line
    said_both = Freed d name turn ∷ said_finished

    talk : List Move → List Line → Talk
    talk xs ls = record { moves = xs; said = ls }

    heard : (turn == receives ms d name && is_unheard (at ms).ends d name) ≡ true
    heard i = (ap (λ (n : ℕ). turn == n) (t.turns d name) ∙ same_number turn) i
        && not (over.unheard i)

    finishes : Gets (talk ms said_finished)
    finishes =
        gets (talk ms t.said) (talk ms said_finished) (Says (Finished d name turn)) t.gets
        (named, refl, over.closed) refl

    frees : Gets (talk freed said_finished)
    frees =
        gets (talk ms said_finished) (talk freed said_finished) (Hears (Finished d name turn))
        finishes (foremost (Finished d name turn) t.said)
        (ap (λ (y : Bool). talk (with_answer (if y then Some (Free d name) else None) ms)
        said_finished) heard)

    tells : Gets (talk freed said_both)
    tells =
        let r : receives freed d name ≡ receives ms d name + 1 =
        receives_freed d name ms d name (itself d name) in
        let s = t.turns d name in
        gets (talk freed said_finished) (talk freed said_both) (Says (Freed d name turn)) frees
        (named, omega (arith, r, s)) refl

    fits : (e : Direction) (i : Name) (b : Bool)
        → is_same d name e i ≡ b
        → receives retired e i ≡ sends retired e i
    fits e i true is =
        receives_freed d name ms e i is ∙ ap (λ (n : ℕ). n + 1) (t.turns e i)
        ∙ sym (sends_freed d name freed e i is)
    fits e i false is =
        receives_other d name ms e i is ∙ t.turns e i ∙ sym (sends_other d name freed e i is)

    lined : (p : PutOut) (i : Name)
        → There (without d name (without d name (at ms).ends.on_the_way)) p
        → p.part_of ≡ Some i
        → Contains said_both (Part p.direction i (receives retired p.direction i) p.octets)
    lined p i there tagged =
        let ways : List PutOut = (at ms).ends.on_the_way in
        let outer = left_before d name p (without d name ways) there.0 there.1 in
        let inner = left_before d name p ways outer.0.0 outer.0.1 in
        let other : is_same d name p.direction i ≡ false =
        apart d name p i tagged inner.1 in
        let line : ℕ → Line = λ n. Part p.direction i n p.octets in
        further (Freed d name turn) (line (receives retired p.direction i)) said_finished
        (further (Finished d name turn) (line (receives retired p.direction i)) t.said
        (subst (λ (n : ℕ). Contains t.said (line n))
        (sym (receives_other d name ms p.direction i other))
        (t.lined p i inner.0 tagged)))

  -- ---- runs

  -- two new ends
  talks_none : start.ends.on_the_way ≡ [] → Talks []
  talks_none none = record {
    said = [];
    gets = record { acts = []; can = tt; are = refl };
    turns = λ d name. refl;
    lined = λ p name there tagged.
        absurd (let none_there : slice_get [] there.0 ≡ Some p =
        ap (λ (ps : List PutOut). slice_get ps there.0) (sym none) ∙ there.1 in cc);
  }

  -- whatever steps two ends can do by moves
  talks : (xs : List Step)
      → start.ends.on_the_way ≡ []
      → CanAll c start (moves_of xs)
      → Talks (moves_of xs)
  talks [] none can = talks_none none
  talks (Send d name k ∷ xs) none can =
      talks_part (moves_of xs) d name k can.1 (talks xs none can.0)
  talks (Accept d b ∷ xs) none can =
      talks_accept (moves_of xs) d b can.1 (talks xs none can.0)
  talks (Retire d name ∷ xs) none can =
      talks_retire (moves_of xs) d name can.0.1.0 can.0.1.1 (talks xs none can.0.0)
  talks (x ∷ xs) none can = talks_own (moves_of xs) x tt can.1 (talks xs none can.0)

-- ends that were new come to the same
same_ends : (c : Config) (first : Contents) (ms : List Move)
    → after_all c (no_pair c first) ms ≡ came_to c first ms
same_ends c first [] = refl
same_ends c first (x ∷ ms) = ap (λ (p : Pair). pair_after c p x) (same_ends c first ms)

same_can : (c : Config) (first : Contents) (ms : List Move)
    → CanMoveAll c first ms
    → CanAll c (no_pair c first) ms
same_can c first [] can = tt
same_can c first (x ∷ ms) can = (
  same_can c first ms can.0,
  subst (λ (p : Pair). CanMove c p x) (sym (same_ends c first ms)) can.1,
)

-- whatever steps they can do
pub steps_are_talked : StepsAreTalked
steps_are_talked c first xs can =
    let t = talks c (no_pair c first) xs refl
    (same_can c first (moves_of xs) (steps_are_moves c first xs can).can) in
    record {
      acts = t.gets.acts;
      can = t.gets.can;
      moves = ap (λ (it : Talk). it.moves) t.gets.are;
    }
