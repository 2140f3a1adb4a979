-- Turns of a spacecraft that waits, one after the other.
use Rattle.std.proofs.Common.{◌≡◌, ◌⊎◌, ◌∙◌, ap, sym, subst, refl, inl, inr, ℕ, ◌+◌, ◌-◌, ◌^◌, ◌≤◌, Bool, List, [], ◌∷◌, ◌++◌, length, Option, Some, None, Ok, Err, append-nil, append_assoc, length-append, arith}
use Rattle.std.specs.Io.KnownBytes.{Consumes, Keeps}
use Rattle.std.proofs.KnownBytes.{Appends-kept, Appends-nil, Consumes-nil, Consumes-trans}
use Rattle.lpt_events.specs.declared.config.Config.{Config}
use Rattle.lpt_text.specs.Streams.{failed_write, ReadFails}
use Rattle.lpt_text.specs.declared.fault.StreamFault.{StreamFault}
use Rattle.lpt_text.specs.declared.fault.StreamFault.TheVariants as faults
use Rattle.lpt_text.proofs.StreamLemmas.{part_whole}
use Rattle.lpt_stream.specs.Streams.{all_octets}
use Rattle.lpt_spacecraft.specs.Flights.{Astray, Flight, Made, Packet, new_flight, onward, inputs_served}
use Rattle.lpt_spacecraft.specs.Streams.{flight_of, onboard, plain, Breaks, Flies}
use Rattle.lpt_spacecraft.specs.Telling.{Hears}
use Rattle.lpt_spacecraft.specs.Waiting.{Attends, AttendsTo, Falters, Gains, Heeds, Idles, IsWithoutEnd, Skips, WaitTurn, due_at, dues_at, given_as, givens, inputs_at, made_at, since_at, turns_bring}
use Rattle.lpt_spacecraft.specs.declared.inlet.Happening.{Happening}
use Rattle.lpt_spacecraft.specs.declared.inlet.Happening.TheVariants as happens
use Rattle.lpt_spacecraft.specs.declared.pace.PaceCourse.{PaceCourse}
use Rattle.lpt_spacecraft.specs.declared.pace.Pace.{Pace}
use Rattle.lpt_spacecraft.specs.declared.spacecraft.Spacecraft.{Spacecraft}
use Rattle.lpt_spacecraft.specs.declared.stop.Stop.{Stop}
use Rattle.lpt_spacecraft.specs.declared.told.Told.{Told}
use Rattle.lpt_spacecraft.specs.declared.told.Told.TheVariants as tells
use Rattle.lpt_spacecraft.proofs.FoldLemmas.{counted-few, flies-then, hears-none, served-append}
use Rattle.lpt_spacecraft.proofs.WritingLemmas.{part-behind}

-- ---- what is given

pub gains-none : (a : Option (List Happening)) → Gains a a []
gains-none None = tt
gains-none (Some xs) = sym (append-nil xs)

-- and more
pub gains-more : (a b d : Option (List Happening)) (xs ys : List Happening)
    → Gains a b xs
    → Gains b d ys
    → Gains a d (xs ++ ys)
gains-more None b d xs ys h k = tt
gains-more (Some zs) None d xs ys h k = absurd h
gains-more (Some zs) (Some bs) None xs ys h k = absurd k
gains-more (Some zs) (Some bs) (Some ds) xs ys h k =
    k ∙ ap (λ l. l ++ ys) h ∙ append_assoc zs xs ys

-- and no more
pub gains-same : (a b d : Option (List Happening)) (xs : List Happening)
    → Gains a b xs
    → Gains b d []
    → Gains a d xs
gains-same a b d xs h k = subst (Gains a d) (append-nil xs) (gains-more a b d xs [] h k)

-- ---- one turn more

-- how many packets came since the last tick by packets, after these turns
abbrev pub since_behind : (every since : ℕ) → List WaitTurn → ℕ
since_behind every since [] = since
since_behind every since (x ∷ xs) = since_behind every (since_at every since x) xs

since-more : (every since : ℕ) (xs : List WaitTurn) (x : WaitTurn)
    → since_behind every since (xs ++ x ∷ []) ≡ since_at every (since_behind every since xs) x
since-more every since [] x = refl
since-more every since (y ∷ ys) x = since-more every (since_at every since y) ys x

givens-more : (xs : List WaitTurn) (x : WaitTurn)
    → givens (xs ++ x ∷ []) ≡ givens xs ++ given_as x ∷ []
givens-more [] x = refl
givens-more (y ∷ ys) x = ap (λ l. given_as y ∷ l) (givens-more ys x)

due_first : (x : WaitTurn) (ns ms : List ℕ) → due_at x (ns ++ ms) ≡ due_at x ns ++ ms
due_first (Heeds due b) ns ms = refl
due_first (Idles due) ns ms = refl
due_first (Skips place len) ns ms = refl

dues-more : (xs : List WaitTurn) (x : WaitTurn) → dues_at (xs ++ x ∷ []) ≡ dues_at xs ++ due_at x []
dues-more [] x = refl
dues-more (y ∷ ys) x = ap (due_at y) (dues-more ys x) ∙ due_first y (dues_at ys) (due_at x [])

bring-more : (every since : ℕ) (xs : List WaitTurn) (x : WaitTurn)
    → turns_bring every since (xs ++ x ∷ [])
    ≡ turns_bring every since xs ++ inputs_at every (since_behind every since xs) x
bring-more every since [] x = append-nil (inputs_at every since x)
bring-more every since (y ∷ ys) x =
    let first = inputs_at every since y in
    let n = since_at every since y in
    ap (λ l. first ++ l) (bring-more every n ys x)
    ∙ sym (append_assoc first (turns_bring every n ys)
    (inputs_at every (since_behind every n ys) x))

-- no more packets came than turns
few-at : (every since count : ℕ) (x : WaitTurn) → since ≤ count → since_at every since x ≤ count + 1
few-at every since count (Heeds due b) h = counted-few every since count (Packet due b) h
few-at every since count (Idles due) h = omega (arith, h)
few-at every since count (Skips place len) h = omega (arith, h)

-- what they make with it
made-more : (pace : Pace) (s : Spacecraft) (xs : List WaitTurn) (x : WaitTurn) (since : ℕ)
    → since ≡ since_behind pace.every 0 xs
    → made_at pace s (xs ++ x ∷ [])
    ≡ onward (λ g. inputs_served s.config g (inputs_at pace.every since x)) (made_at pace s xs)
made-more pace s xs x since is =
    let f = new_flight pace.reuse (onboard s) in
    ap (inputs_served s.config f) (bring-more pace.every 0 xs x)
    ∙ served-append s.config f (turns_bring pace.every 0 xs)
    (inputs_at pace.every (since_behind pace.every 0 xs) x)
    ∙ ap (λ n. onward (λ g. inputs_served s.config g (inputs_at pace.every n x))
    (made_at pace s xs))
    (sym is)

-- octets that are passed over make nothing, and are told
pub skip-flies : (c : Config) (s : Spacecraft) (q : PaceCourse) (old : Option (List ℕ))
    (had has : Option (List Told)) (place len : ℕ)
    → Hears had has (tells.Skipped place len ∷ [])
    → Flies (inputs_served c (flight_of s q) (Astray place len ∷ [])) s q old old had has
skip-flies c s q old had has place len h =
    record { flight = refl; written = Appends-nil old; told = h }

-- ---- the turns that were taken

-- what is known before and after
pub record Sides : Type 0 where
  pub was : Option (List Happening)
  pub gave : Option (List Happening)
  pub old : Option (List ℕ)
  pub new : Option (List ℕ)
  pub asked : Option (List ℕ)
  pub answered : Option (List ℕ)
  pub had : Option (List Told)
  pub has : Option (List Told)

pub record IsAttended (pace : Pace) (s t : Spacecraft) (q : PaceCourse) (e : Sides) (count : ℕ) :
    Type 0 where
  pub turns : List WaitTurn
  pub given : Gains e.was e.gave (givens turns)
  pub flies : Flies (made_at pace s turns) t q e.old e.new e.had e.has
  pub answers : Consumes e.asked e.answered (dues_at turns)
  pub count_is : length turns ≡ count
  pub since_is : q.since ≡ since_behind pace.every 0 turns
  pub pace_is : q.pace ≡ pace
  pub few : q.since ≤ count

-- none was
pub attended-none : (pace : Pace) (s : Spacecraft) (q : PaceCourse) (was : Option (List Happening))
    (old asked : Option (List ℕ)) (had : Option (List Told))
    → q.pace ≡ pace
    → q.since ≡ 0
    → q.uses.items ≡ []
    → IsAttended pace s s q
    (record {
      was = was;
      gave = was;
      old = old;
      new = old;
      asked = asked;
      answered = asked;
      had = had;
      has = had;
    }) 0
attended-none pace s q was old asked had paced since unused = record {
  turns = [];
  given = gains-none was;
  flies = record {
    flight = λ i. record { end = onboard s; reuse = (paced i).reuse; uses = unused i };
    written = Appends-nil old;
    told = hears-none had;
  };
  answers = Consumes-nil asked;
  count_is = refl;
  since_is = since;
  pace_is = paced;
  few = omega (arith, since);
}

-- all that was written was passed on
pub attended-passed : (pace : Pace) (s t : Spacecraft) (q : PaceCourse) (e : Sides)
    (passed : Option (List ℕ)) (count : ℕ)
    → IsAttended pace s t q e count
    → Keeps e.new passed
    → IsAttended pace s t q (record e { new = passed }) count
attended-passed pace s t q e passed count h kept = record {
  turns = h.turns;
  given = h.given;
  flies = record {
    flight = h.flies.flight;
    written = Appends-kept e.old e.new passed (all_octets (made_at pace s h.turns).packets)
        h.flies.written kept;
    told = h.flies.told;
  };
  answers = h.answers;
  count_is = h.count_is;
  since_is = h.since_is;
  pace_is = h.pace_is;
  few = h.few;
}

-- what a turn makes of an end on its course, whose configuration and pace these are
abbrev pub made_then : Config → Pace → Spacecraft → PaceCourse → WaitTurn → Made
made_then c pace s q x = inputs_served c (flight_of s q) (inputs_at pace.every q.since x)

flies-turn : (pace : Pace) (s mid t : Spacecraft) (q r : PaceCourse) (c : Config)
    (old between new : Option (List ℕ)) (had mids has : Option (List Told)) (xs : List WaitTurn)
    (x : WaitTurn)
    → q.since ≡ since_behind pace.every 0 xs
    → q.pace ≡ pace
    → c ≡ s.config
    → Flies (made_at pace s xs) mid q old between had mids
    → Flies (made_then c q.pace mid q x) t r between new mids has
    → Flies (made_at pace s (xs ++ x ∷ [])) t r old new had has
flies-turn pace s mid t q r c old between new had mids has xs x is paced same before next =
    let at : Flies (made_then s.config pace mid q x) t r between new mids has =
    subst (λ (p : Pace). Flies (made_then s.config p mid q x) t r between new mids has) paced
    (subst (λ (k : Config). Flies (made_then k q.pace mid q x) t r between new mids has) same next)
    in
    subst (λ (y : Made). Flies y t r old new had has) (sym (made-more pace s xs x q.since is))
    (flies-then (made_at pace s xs) (λ g. inputs_served s.config g (inputs_at pace.every q.since x))
    mid t
    q r old between new had mids has before at)

-- one more was
pub attended-next : (pace : Pace) (s mid t : Spacecraft) (q r : PaceCourse) (c : Config) (e : Sides)
    (gave : Option (List Happening)) (new answered : Option (List ℕ)) (has : Option (List Told))
    (x : WaitTurn) (count : ℕ)
    → IsAttended pace s mid q e count
    → c ≡ s.config
    → Gains e.gave gave (given_as x ∷ [])
    → Consumes e.answered answered (due_at x [])
    → Flies (made_then c q.pace mid q x) t r e.new new e.has has
    → r.since ≡ since_at q.pace.every q.since x
    → r.pace ≡ q.pace
    → IsAttended pace s t r
    (record e { gave = gave; new = new; answered = answered; has = has }) (count + 1)
attended-next pace s mid t q r c e gave new answered has x count h same given asks flies counted
    paced =
    let on : r.since ≡ since_at pace.every q.since x =
    counted ∙ ap (λ (p : Pace). since_at p.every q.since x) h.pace_is in
    record {
      turns = h.turns ++ x ∷ [];
      given = subst (Gains e.was gave) (sym (givens-more h.turns x))
          (gains-more e.was e.gave gave (givens h.turns) (given_as x ∷ []) h.given given);
      flies = flies-turn pace s mid t q r c e.old e.new new e.had e.has has h.turns x h.since_is
          h.pace_is same h.flies flies;
      answers = subst (Consumes e.asked answered) (sym (dues-more h.turns x))
          (Consumes-trans e.asked e.answered answered (dues_at h.turns) (due_at x []) h.answers
          asks);
      count_is = length-append h.turns (x ∷ []) ∙ ap (λ n. n + 1) h.count_is;
      since_is = on ∙ ap (λ n. since_at pace.every n x) h.since_is
          ∙ sym (since-more pace.every 0 h.turns x);
      pace_is = paced ∙ h.pace_is;
      few = subst (λ n. n ≤ count + 1) (sym on) (few-at pace.every q.since count x h.few);
    }

-- ---- how it ends

attends-all : (pace : Pace) (s t : Spacecraft) (q : PaceCourse) (e : Sides) (count : ℕ)
    → (h : IsAttended pace s t q e count)
    → Attends pace s t e.old e.new e.asked e.answered e.had e.has h.turns
attends-all pace s t q e count h = record {
  writes = (ap (λ (g : Flight). g.end) h.flies.flight, h.flies.written);
  told = h.flies.told;
  answers = h.answers;
}

-- work broke off between two turns
falters-between : (pace : Pace) (s t : Spacecraft) (q : PaceCourse) (e : Sides) (count : ℕ)
    → (h : IsAttended pace s t q e count)
    → Falters pace s t e.old e.new e.asked e.answered e.had e.has h.turns
falters-between pace s t q e count h = record {
  before = h.turns;
  last = None;
  are = sym (append-nil h.turns);
  breaks = (
    inl (ap (λ (g : Flight). g.end.memories) h.flies.flight),
    part_whole e.old e.new (all_octets (made_at pace s h.turns).packets) h.flies.written,
  );
  told = h.flies.told;
  answers = h.answers;
}

-- at the end that was given
pub attends-end : (stop : Stop) (pace : Pace) (s t : Spacecraft) (q : PaceCourse) (e : Sides)
    (gave : Option (List Happening)) (count : ℕ)
    → IsAttended pace s t q e count
    → Gains e.gave gave (happens.End stop ∷ [])
    → AttendsTo pace (Ok stop) s t e.was gave e.old e.new e.asked e.answered e.had e.has
attends-end stop pace s t q e gave count h given = (
  h.turns,
  gains-more e.was e.gave gave (givens h.turns) (happens.End stop ∷ []) h.given given,
  attends-all pace s t q e count h,
)

-- at a fault between two turns
pub attends-fault : (fault : StreamFault) (pace : Pace) (s t : Spacecraft) (q : PaceCourse)
    (e : Sides)
    (gave : Option (List Happening)) (count : ℕ)
    → IsAttended pace s t q e count
    → Gains e.gave gave []
    → AttendsTo pace (Err fault) s t e.was gave e.old e.new e.asked e.answered e.had e.has
attends-fault faults.Read pace s t q e gave count h given = (
  h.turns,
  gains-same e.was e.gave gave (givens h.turns) h.given given,
  attends-all pace s t q e count h,
)
attends-fault faults.Write pace s t q e gave count h given = (
  h.turns,
  gains-same e.was e.gave gave (givens h.turns) h.given given,
  falters-between pace s t q e count h,
)
attends-fault faults.Memory pace s t q e gave count h given = (
  h.turns,
  gains-same e.was e.gave gave (givens h.turns) h.given given,
  falters-between pace s t q e count h,
)

-- work broke off in a turn
broken : (pace : Pace) (s mid t : Spacecraft) (q : PaceCourse) (c : Config) (e : Sides)
    (gave : Option (List Happening)) (new answered : Option (List ℕ)) (x : WaitTurn) (count : ℕ)
    → (h : IsAttended pace s mid q e count)
    → c ≡ s.config
    → Gains e.gave gave (given_as x ∷ [])
    → Consumes e.answered answered (due_at x [])
    → Breaks mid.memories (plain (made_then c q.pace mid q x)) t.memories e.new new
    → (turns : List WaitTurn) × Gains e.was gave (givens turns)
    × Falters pace s t e.old new e.asked answered e.had e.has turns
broken pace s mid t q c e gave new answered x count h same given asks broke =
    let y = made_at pace s h.turns in
    let f : Flight → Made = λ g. inputs_served s.config g (inputs_at pace.every q.since x) in
    let at : Breaks y.flight.end.memories (plain (f y.flight)) t.memories e.new new =
    subst (λ (g : Flight). Breaks g.end.memories (plain (f g)) t.memories e.new new)
    h.flies.flight
    (subst (λ (p : Pace). Breaks mid.memories (plain (made_then s.config p mid q x)) t.memories
    e.new new) h.pace_is
    (subst (λ (k : Config). Breaks mid.memories (plain (made_then k q.pace mid q x)) t.memories
    e.new new) same broke)) in (
      h.turns ++ x ∷ [],
      subst (Gains e.was gave) (sym (givens-more h.turns x))
          (gains-more e.was e.gave gave (givens h.turns) (given_as x ∷ []) h.given given),
      record {
        before = h.turns;
        last = Some x;
        are = refl;
        breaks = subst (λ (z : Made). Breaks y.flight.end.memories (plain z) t.memories e.old new)
            (sym (made-more pace s h.turns x q.since h.since_is))
            (at.0, part-behind e.old e.new new y.packets (f y.flight).packets h.flies.written at.1);
        told = h.flies.told;
        answers = subst (Consumes e.asked answered) (sym (dues-more h.turns x))
            (Consumes-trans e.asked e.answered answered (dues_at h.turns) (due_at x []) h.answers
            asks);
      },
    )

pub attends-broken : (fault : StreamFault) (pace : Pace) (s mid t : Spacecraft) (q : PaceCourse)
    (c : Config) (e : Sides) (gave : Option (List Happening)) (new answered : Option (List ℕ))
    (x : WaitTurn) (count : ℕ)
    → (fault ≡ faults.Write) ⊎ (fault ≡ faults.Memory)
    → IsAttended pace s mid q e count
    → c ≡ s.config
    → Gains e.gave gave (given_as x ∷ [])
    → Consumes e.answered answered (due_at x [])
    → Breaks mid.memories (plain (made_then c q.pace mid q x)) t.memories e.new new
    → AttendsTo pace (Err fault) s t e.was gave e.old new e.asked answered e.had e.has
attends-broken faults.Read pace s mid t q c e gave new answered x count (inl is) h same given asks
    broke = absurd cc
attends-broken faults.Read pace s mid t q c e gave new answered x count (inr is) h same given asks
    broke = absurd cc
attends-broken faults.Write pace s mid t q c e gave new answered x count is h same given asks broke
    = broken pace s mid t q c e gave new answered x count h same given asks broke
attends-broken faults.Memory pace s mid t q c e gave new answered x count is h same given asks broke
    = broken pace s mid t q c e gave new answered x count h same given asks broke

-- so many turns were taken
pub without-end : (pace : Pace) (s t : Spacecraft) (q : PaceCourse) (e : Sides) (count : ℕ)
    → IsAttended pace s t q e count
    → count ≡ 2 ^ 64 - 1
    → IsWithoutEnd t e.was e.gave
without-end pace s t q e count h most = inl (h.turns, h.given, h.count_is ∙ most)

-- ---- how a fault of the inlet leaves it, and the writer

pub inlet-fails : (Over : Type 0) (fault : StreamFault) (first had failed : Bool)
    → ReadFails ⊥ fault had failed
    → had ≡ first
    → ReadFails Over fault first failed
inlet-fails Over faults.Read first had failed (inl h) same = inl h
inlet-fails Over faults.Read first had failed (inr h) same = absurd h
inlet-fails Over faults.Write first had failed h same = h ∙ same
inlet-fails Over faults.Memory first had failed h same = h ∙ same

pub memory-fails : (fault : StreamFault) (first failed : Bool)
    → (fault ≡ faults.Read) ⊎ (fault ≡ faults.Memory)
    → failed ≡ first
    → failed ≡ failed_write fault first
memory-fails faults.Read first failed is same = same
memory-fails faults.Write first failed (inl is) same = absurd cc
memory-fails faults.Write first failed (inr is) same = absurd cc
memory-fails faults.Memory first failed is same = same
