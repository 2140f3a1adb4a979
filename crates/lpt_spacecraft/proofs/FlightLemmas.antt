-- What is noted of a packet or a tick, and the names that are freed.
use Rattle.std.proofs.Common.{◌≡◌, ◌∙◌, ap, sym, subst, refl, ℕ, ◌+◌, ◌<◌, Bool, true, false, if◌then◌else◌, List, [], ◌∷◌, ◌++◌, length, drop, Option, Some, None, append-nil, append_assoc, get_or, add-one, drop-cons}
use Rattle.std.specs.Io.KnownBytes.{Appends}
use Rattle.std.proofs.KnownBytes.{Appends-nil}
use Rattle.lpt_node.specs.Nodes.{NodeData}
use Rattle.lpt_stream.specs.Streams.{all_octets}
use Rattle.lpt_spacecraft.specs.Flights.{names_cleared, clearing, due_now, name_freed, is_due, noting, state_of, told_first, told_freed, use_of, uses_of}
use Rattle.lpt_spacecraft.specs.Serving.{Onboard}
use Rattle.lpt_spacecraft.specs.Streams.{flight_of, onboard, Flies}
use Rattle.lpt_spacecraft.specs.Telling.{all_noted, name_used, used_up, Hears}
use Rattle.lpt_spacecraft.specs.declared.pace.PaceCourse.{PaceCourse}
use Rattle.lpt_spacecraft.specs.declared.pace.Pace.{Pace}
use Rattle.lpt_spacecraft.specs.declared.pace.Use.{Use}
use Rattle.lpt_spacecraft.specs.declared.spacecraft.Spacecraft.{Spacecraft}
use Rattle.lpt_spacecraft.specs.declared.told.Told.{Told}
use Rattle.lpt_spacecraft.proofs.FoldLemmas.{hears-more}

-- ---- one thing after another

drop-at : (ts : List Told) (i : ℕ) (z : Told)
    → i < length ts
    → drop i ts ≡ get_or ts i z ∷ drop (i + 1) ts
drop-at ts i z h = rw (add-one, drop-cons ts i z) refl

-- what is noted of the things from a place on
pub noted-at : (d : NodeData) (ts : List Told) (i : ℕ) (z : Told)
    → i < length ts
    → all_noted d (drop i ts)
    ≡ (get_or ts i z ∷ used_up d (name_used (get_or ts i z))) ++ all_noted d (drop (i + 1) ts)
noted-at d ts i z h = ap (all_noted d) (drop-at ts i z h)

-- the names that they used
used-at : (reuse clock : ℕ) (ts : List Told) (i : ℕ) (z : Told)
    → i < length ts
    → uses_of reuse clock (drop i ts)
    ≡ use_of reuse clock (name_used (get_or ts i z)) ++ uses_of reuse clock (drop (i + 1) ts)
used-at reuse clock ts i z h = ap (uses_of reuse clock) (drop-at ts i z h)

-- with one more there, what is left is less
pub left-next : {A : Type 0} (new now more left rest all : List A)
    → new ≡ now ++ more
    → left ≡ more ++ rest
    → now ++ left ≡ all
    → new ++ rest ≡ all
left-next new now more left rest all is less h =
    ap (λ l. l ++ rest) is ∙ append_assoc now more rest ∙ ap (λ l. now ++ l) (sym less) ∙ h

-- the names that were used, with one more
pub used-next : (p q : Pace) (clock : ℕ) (ts : List Told) (i : ℕ) (z : Told)
    (new now all : List Use)
    → new ≡ now ++ use_of p.reuse clock (name_used (get_or ts i z))
    → p ≡ q
    → i < length ts
    → now ++ uses_of q.reuse clock (drop i ts) ≡ all
    → new ++ uses_of q.reuse clock (drop (i + 1) ts) ≡ all
used-next p q clock ts i z new now all is same h was =
    left-next new now (use_of q.reuse clock (name_used (get_or ts i z)))
    (uses_of q.reuse clock (drop i ts)) (uses_of q.reuse clock (drop (i + 1) ts)) all
    (is ∙ ap (λ (x : Pace). now ++ use_of x.reuse clock (name_used (get_or ts i z))) same)
    (used-at q.reuse clock ts i z h) was

-- what was told of some things, and those that are left
pub record TellsSome (a b : Option (List Told)) (left all : List Told) : Type 0 where
  pub so_far : List Told
  pub hears : Hears a b so_far
  pub are : so_far ++ left ≡ all

-- one more is told
pub tells-next : (a b d : Option (List Told)) (ts all : List Told) (i : ℕ) (z : Told)
    → i < length ts
    → TellsSome a b (drop i ts) all
    → Hears b d (get_or ts i z ∷ [])
    → TellsSome a d (drop (i + 1) ts) all
tells-next a b d ts all i z within h more =
    let t = get_or ts i z in
    record {
      so_far = h.so_far ++ t ∷ [];
      hears = hears-more a b d h.so_far (t ∷ []) h.hears more;
      are = left-next (h.so_far ++ t ∷ []) h.so_far (t ∷ []) (drop i ts) (drop (i + 1) ts) all refl
          (drop-at ts i z within) h.are;
    }

-- all are told
pub tells-all : (a b : Option (List Told)) (left all : List Told)
    → left ≡ []
    → TellsSome a b left all
    → Hears a b all
tells-all a b left all none h =
    subst (Hears a b) (sym (append-nil h.so_far) ∙ ap (λ l. h.so_far ++ l) (sym none) ∙ h.are)
    h.hears

-- ---- a packet, and a tick

-- an end came to that, what it made was written, and what has happened was noted
pub noting-flies : (s t : Spacecraft) (q r : PaceCourse) (x : Onboard × List (List ℕ))
    (what ts : List Told) (old new : Option (List ℕ)) (had has : List Told)
    → r.pace ≡ q.pace
    → onboard t ≡ x.0
    → Appends old new (all_octets x.1)
    → what ≡ ts
    → r.uses.items ≡ q.uses.items ++ uses_of q.pace.reuse t.node.at.clock what
    → has ≡ had ++ all_noted t.node.at what
    → Flies (noting (flight_of s q) x ts) t r old new (Some had) (Some has)
noting-flies s t q r x what ts old new had has paced is written same uses told =
    let used : r.uses.items ≡ q.uses.items ++ uses_of q.pace.reuse x.0.node.clock ts =
    uses ∙ (λ i. q.uses.items ++ uses_of q.pace.reuse (is i).node.clock (same i)) in
    record {
      flight = λ i. record { end = is i; reuse = (paced i).reuse; uses = used i };
      written = written;
      told = told ∙ (λ i. had ++ all_noted (is i).node (same i));
    }

-- ---- names that are freed

-- Some names were freed: what is made of these, is what is made of those behind what was told.
pub record ClearsOn (reuse : ℕ) (d at : NodeData) (us left : List Use) (had has : List Told) :
    Type 0 where
  pub so_far : List Told
  pub told : has ≡ had ++ so_far
  pub is : names_cleared reuse d us ≡ told_first so_far (names_cleared reuse at left)

pub clears-none : (reuse : ℕ) (d : NodeData) (us : List Use) (had : List Told)
    → ClearsOn reuse d d us us had had
clears-none reuse d us had =
    record { so_far = []; told = sym (append-nil had); is = refl }

-- the first is due, and is freed
clears-front : (reuse : ℕ) (at : NodeData) (left : List Use) (u : Use)
    → Some u ≡ due_now reuse at.clock left
    → names_cleared reuse at left
    ≡ told_first (told_freed (state_of at u) u)
    (names_cleared reuse (name_freed at u) (drop 1 left))
clears-front reuse at [] u due = absurd cc
clears-front reuse at (v ∷ vs) u due = go (is_due reuse at.clock v) refl due
  where
    on : Use → NodeData × List Use × List Told
    on w = told_first (told_freed (state_of at w) w) (names_cleared reuse (name_freed at w) vs)

    go : (b : Bool)
        → is_due reuse at.clock v ≡ b
        → Some u ≡ (if b then Some v else None)
        → (if b then on v else (at, v ∷ vs, [])) ≡ on u
    go true e h =
        let same : v ≡ u = cc in
        ap on same
    go false e h = absurd cc

pub clears-next : (reuse : ℕ) (d at next : NodeData) (us left rest : List Use)
    (had has more : List Told) (u : Use)
    → Some u ≡ due_now reuse at.clock left
    → rest ≡ drop 1 left
    → next ≡ name_freed at u
    → more ≡ has ++ told_freed (state_of at u) u
    → ClearsOn reuse d at us left had has
    → ClearsOn reuse d next us rest had more
clears-next reuse d at next us left rest had has more u due behind is told h =
    let now = told_freed (state_of at u) u in
    record {
      so_far = h.so_far ++ now;
      told = told ∙ ap (λ l. l ++ now) h.told ∙ append_assoc had h.so_far now;
      is = h.is ∙ ap (told_first h.so_far) (clears-front reuse at left u due)
          ∙ (λ i. let x = names_cleared reuse (sym is i) (sym behind i) in
          (x.0, x.1, sym (append_assoc h.so_far now x.2) i));
    }

-- none is due any more
clears-stop : (reuse : ℕ) (at : NodeData) (left : List Use)
    → None ≡ due_now reuse at.clock left
    → names_cleared reuse at left ≡ (at, left, [])
clears-stop reuse at [] none = refl
clears-stop reuse at (v ∷ vs) none = go (is_due reuse at.clock v) refl none
  where
    on : NodeData × List Use × List Told
    on = told_first (told_freed (state_of at v) v) (names_cleared reuse (name_freed at v) vs)

    go : (b : Bool)
        → is_due reuse at.clock v ≡ b
        → None ≡ (if b then Some v else None)
        → (if b then on else (at, v ∷ vs, [])) ≡ (at, v ∷ vs, [])
    go true e h = absurd cc
    go false e h = refl

pub clears-end : (reuse : ℕ) (d at : NodeData) (us left : List Use) (had has : List Told)
    → None ≡ due_now reuse at.clock left
    → ClearsOn reuse d at us left had has
    → (at ≡ (names_cleared reuse d us).0) × (left ≡ (names_cleared reuse d us).1)
    × (has ≡ had ++ (names_cleared reuse d us).2)
clears-end reuse d at us left had has none h =
    let e = sym (h.is ∙ ap (told_first h.so_far) (clears-stop reuse at left none)) in (
      ap (λ (x : NodeData × List Use × List Told). x.0) e,
      ap (λ (x : NodeData × List Use × List Told). x.1) e,
      h.told ∙ ap (λ l. had ++ l) (sym (append-nil h.so_far))
          ∙ ap (λ (x : NodeData × List Use × List Told). had ++ x.2) e,
    )

-- an end at which names were freed
pub clearing-flies : (s t : Spacecraft) (q r : PaceCourse) (x : NodeData × List Use × List Told)
    (old : Option (List ℕ)) (had has : List Told)
    → r.pace ≡ q.pace
    → t.memories ≡ s.memories
    → t.node.at ≡ x.0
    → r.uses.items ≡ x.1
    → has ≡ had ++ x.2
    → Flies (clearing (flight_of s q) x) t r old old (Some had) (Some has)
clearing-flies s t q r x old had has paced memories node uses told = record {
  flight = λ i. record {
    end = record { node = node i; memories = memories i };
    reuse = (paced i).reuse;
    uses = uses i;
  };
  written = Appends-nil old;
  told = told;
}
