-- What comes, one input further.
use Rattle.std.proofs.Common.{◌≡◌, ◌∙◌, ap, sym, subst, refl, inl, inr, ℕ, suc, ◌+◌, ◌<◌, ◌≤◌, ◌==◌, Bool, true, false, if◌then◌else◌, List, [], ◌∷◌, ◌++◌, length, Option, Some, None, Result, Ok, Err, append-nil, append_assoc, length-append, arith}
use Rattle.std.specs.Prelude.{IfErr}
use Rattle.std.specs.List.{AllByRecursion}
use Rattle.std.proofs.KnownBytes.{Appends-nil, Consumes-nil, Consumes-trans}
use Rattle.lpt_events.specs.declared.config.Config.{Config}
use Rattle.lpt_memory.specs.Memories.{Contents}
use Rattle.lpt_stream.specs.Streams.{all_octets}
use Rattle.lpt_text.specs.Streams.{AppendsPart}
use Rattle.lpt_spacecraft.specs.Flights.{FlightEvent, Flight, Made, Input, Came, Ticked, Cleared, Noise, Packet, behind_made, came_with, clock_ticks, counted_on, due_before, dues_of, inputs_by, inputs_of, onward, inputs_served, since_by, size_of, step, stretch_of, stretches_of}
use Rattle.lpt_spacecraft.specs.Serving.{beaten, packet_taken}
use Rattle.lpt_spacecraft.specs.Streams.{flight_of, length_of, plain, Answers, Breaks, Flies}
use Rattle.lpt_spacecraft.specs.Stretches.{octets_of, stretch_octets}
use Rattle.lpt_spacecraft.specs.Telling.{Hears}
use Rattle.lpt_spacecraft.specs.declared.pace.PaceCourse.{PaceCourse}
use Rattle.lpt_spacecraft.specs.declared.spacecraft.Spacecraft.{Spacecraft}
use Rattle.lpt_spacecraft.specs.declared.told.Told.{Told}
use Rattle.lpt_spacecraft.proofs.StretchLemmas.{stretch-next}
use Rattle.lpt_spacecraft.proofs.WritingLemmas.{appends-list, part-behind, part-first, part-grown, Grows}

-- with nothing behind
made-nil : (x : Made)
    → behind_made x (record { flight = x.flight; packets = []; told = [] }) ≡ x
made-nil x =
    λ i. record {
      flight = x.flight;
      packets = append-nil x.packets i;
      told = append-nil x.told i;
    }

made-assoc : (x y z : Made)
    → behind_made (behind_made x y) z ≡ behind_made x (behind_made y z)
made-assoc x y z =
    λ i. record {
      flight = z.flight;
      packets = append_assoc x.packets y.packets z.packets i;
      told = append_assoc x.told y.told z.told i;
    }

-- what comes behind other inputs is taken by the end that those leave
pub served-append : (c : Config) (f : Flight) (xs ys : List Input)
    → inputs_served c f (xs ++ ys) ≡ onward (λ g. inputs_served c g ys) (inputs_served c f xs)
served-append c f [] ys = refl
served-append c f (x ∷ xs) ys =
    let next = step c f x in
    ap (behind_made next) (served-append c next.flight xs ys)
    ∙ sym (made-assoc next (inputs_served c next.flight xs)
    (inputs_served c (inputs_served c next.flight xs).flight ys))

-- nothing was told
pub hears-none : (a : Option (List Told)) → Hears a a []
hears-none None = tt
hears-none (Some xs) = sym (append-nil xs)

-- what was told, and more
pub hears-more : (a b d : Option (List Told)) (xs ys : List Told)
    → Hears a b xs
    → Hears b d ys
    → Hears a d (xs ++ ys)
hears-more None b d xs ys h k = tt
hears-more (Some zs) None d xs ys h k = absurd h
hears-more (Some zs) (Some bs) None xs ys h k = absurd k
hears-more (Some zs) (Some bs) (Some ds) xs ys h k =
    k ∙ ap (λ l. l ++ ys) h ∙ append_assoc zs xs ys

-- one thing behind another
pub flies-then : (x : Made) (f : Flight → Made) (s t : Spacecraft) (q r : PaceCourse)
    (old mid new : Option (List ℕ)) (had between has : Option (List Told))
    → Flies x s q old mid had between
    → Flies (f (flight_of s q)) t r mid new between has
    → Flies (onward f x) t r old new had has
flies-then x f s t q r old mid new had between has h k =
    let at : Flies (f x.flight) t r mid new between has =
    subst (λ (g : Flight). Flies (f g) t r mid new between has) h.flight k in
    record {
      flight = at.flight;
      written = appends-list old mid new x.packets (f x.flight).packets h.written at.written;
      told = hears-more had between has x.told (f x.flight).told h.told at.told;
    }

-- ---- events

-- how many packets came since the last tick, after these
abbrev pub since_after : (every since : ℕ) → List FlightEvent → ℕ
since_after every since [] = since
since_after every since (e ∷ es) = since_after every (since_by every since e) es

-- one event more
pub since-next : (every since : ℕ) (es : List FlightEvent) (e : FlightEvent)
    → since_after every since (es ++ e ∷ []) ≡ since_by every (since_after every since es) e
since-next every since [] e = refl
since-next every since (d ∷ es) e = since-next every (since_by every since d) es e

pub stretches-next : (es : List FlightEvent) (e : FlightEvent)
    → stretches_of (es ++ e ∷ []) ≡ stretches_of es ++ stretch_of e ∷ []
stretches-next [] e = refl
stretches-next (d ∷ es) e = ap (λ ss. stretch_of d ∷ ss) (stretches-next es e)

due_first : (e : FlightEvent) (ns ms : List ℕ) → due_before e (ns ++ ms) ≡ due_before e ns ++ ms
due_first (Packet due b) ns ms = refl
due_first (Noise b) ns ms = refl

pub dues-next : (es : List FlightEvent) (e : FlightEvent)
    → dues_of (es ++ e ∷ []) ≡ dues_of es ++ due_before e []
dues-next [] e = refl
dues-next (d ∷ es) e =
    ap (due_before d) (dues-next es e) ∙ due_first d (dues_of es) (due_before e [])

size_is : (e : FlightEvent) → length (octets_of (stretch_of e)) ≡ size_of e
size_is (Packet due b) = refl
size_is (Noise b) = refl

-- how many octets they have
pub length-next : (es : List FlightEvent) (e : FlightEvent)
    → length_of (es ++ e ∷ []) ≡ length_of es + size_of e
length-next es e =
    ap (λ ss. length (stretch_octets ss)) (stretches-next es e)
    ∙ ap length (stretch-next (stretches_of es) (stretch_of e))
    ∙ length-append (stretch_octets (stretches_of es)) (octets_of (stretch_of e))
    ∙ ap (λ n. length_of es + n) (size_is e)

-- the place behind an event and others
place_on : (place : ℕ) (e : FlightEvent) (es : List FlightEvent)
    → (place + size_of e) + length_of es ≡ place + length_of (e ∷ es)
place_on place e es =
    let sum : length_of (e ∷ es) ≡ size_of e + length_of es =
    length-append (octets_of (stretch_of e)) (stretch_octets (stretches_of es))
    ∙ ap (λ n. n + length_of es) (size_is e) in
    omega (arith, sum)

-- what comes with one more
pub inputs-next : (every since place : ℕ) (es : List FlightEvent) (e : FlightEvent)
    → inputs_of every since place (es ++ e ∷ [])
    ≡ inputs_of every since place es
    ++ inputs_by every (since_after every since es) (place + length_of es) e
inputs-next every since place [] e =
    let here : place ≡ place + length_of [] = omega arith in
    append-nil (inputs_by every since place e) ∙ ap (λ p. inputs_by every since p e) here
inputs-next every since place (d ∷ es) e =
    let first = inputs_by every since place d in
    let n = since_by every since d in
    let on = place + size_of d in
    ap (λ xs. first ++ xs) (inputs-next every n on es e)
    ∙ ap (λ p. first ++ (inputs_of every n on es ++ inputs_by every (since_after every n es) p e))
    (place_on place d es)
    ∙ sym (append_assoc first (inputs_of every n on es)
    (inputs_by every (since_after every n es) (place + length_of (d ∷ es)) e))

-- ---- answers

all-more : (ns ms : List ℕ) → AllByRecursion (λ n. n ≡ 0) ns → AllByRecursion (λ n. n ≡ 0) ms
    → AllByRecursion (λ n. n ≡ 0) (ns ++ ms)
all-more [] ms h k = k
all-more (n ∷ ns) ms h k = (h.0, all-more ns ms h.1 k)

-- the clock's answers, and more
pub answers-more : (is_asked : Bool) (a b d : Option (List ℕ)) (ns ms : List ℕ)
    → Answers is_asked a b ns
    → Answers is_asked b d ms
    → Answers is_asked a d (ns ++ ms)
answers-more true a b d ns ms h k = Consumes-trans a b d ns ms h k
answers-more false a b d ns ms h k = (k.0 ∙ h.0, all-more ns ms h.1 k.1)

-- none
pub answers-none : (is_asked : Bool) (a : Option (List ℕ)) → Answers is_asked a a []
answers-none true a = Consumes-nil a
answers-none false a = (refl, tt)

-- ---- ticks by packets

counted_by : Bool → ℕ → ℕ
counted_by t n = if t then 0 else n

counted_few : (t : Bool) (n : ℕ) → counted_by t n ≤ n
unfolding counted_by
counted_few true n = omega arith
counted_few false n = omega arith

-- no more came than events
pub counted-few : (every since count : ℕ) (e : FlightEvent) → since ≤ count → since_by every since e
    ≤
    count + 1
unfolding counted_by
counted-few every since count (Packet due b) h =
    let few : counted_on every since ≤ since + 1 = counted_few (since + 1 == every) (since + 1) in
    omega (arith, few)
counted-few every since count (Noise b) h = omega arith

-- ---- one packet, with its tick

-- what it makes, where the tick comes or doesn't
abbrev pub with_tick : Config → Flight → List ℕ → Bool → Made
with_tick c f b t =
    onward (λ g. inputs_served c g (if t then Ticked ∷ Cleared ∷ [] else [])) (step c f (Came b))

-- no tick comes
pub no-tick : (c : Config) (f : Flight) (b : List ℕ) (every since : ℕ)
    → (since + 1 == every) ≡ false
    → inputs_served c f (came_with every since b) ≡ step c f (Came b)
no-tick c f b every since none = ap (with_tick c f b) none ∙ made-nil (step c f (Came b))

-- one comes
pub one-tick : (c : Config) (f : Flight) (b : List ℕ) (every since : ℕ)
    → (since + 1 == every) ≡ true
    → inputs_served c f (came_with every since b)
    ≡ onward (λ g. inputs_served c g (Ticked ∷ Cleared ∷ [])) (step c f (Came b))
one-tick c f b every since due = ap (with_tick c f b) due

-- the tick leaves the memories as they are
same_memories : (c : Config) (f : Flight) (b : List ℕ) (t : Bool)
    → (with_tick c f b t).flight.end.memories ≡ (packet_taken c f.end b).0.memories
same_memories c f b true = refl
same_memories c f b false = refl

-- work broke off in the packet
pub packet-breaks : (c : Config) (f : Flight) (b : List ℕ) (every since : ℕ) (now : Contents)
    (old new : Option (List ℕ))
    → Breaks f.end.memories (packet_taken c f.end b) now old new
    → Breaks f.end.memories (plain (inputs_served c f (came_with every since b))) now old new
packet-breaks c f b every since now old new (inl same, part) =
    (inl same, part-first old new (packet_taken c f.end b).1 _ part)
packet-breaks c f b every since now old new (inr same, part) = (
  inr (same ∙ sym (same_memories c f b (since + 1 == every))),
  part-first old new (packet_taken c f.end b).1 _ part,
)

-- or in the tick behind it
pub tick-breaks : (c : Config) (f : Flight) (s : Spacecraft) (q : PaceCourse) (b : List ℕ)
    (every since : ℕ) (now : Contents) (old between new : Option (List ℕ))
    (had has : Option (List Told))
    → (since + 1 == every) ≡ true
    → Flies (step c f (Came b)) s q old between had has
    → now ≡ (flight_of s q).end.memories
    → AppendsPart between new (all_octets (beaten c (flight_of s q).end).1)
    → Breaks f.end.memories (plain (inputs_served c f (came_with every since b))) now old new
tick-breaks c f s q b every since now old between new had has due h same part =
    let first = step c f (Came b) in
    subst (λ x. Breaks f.end.memories (plain x) now old new) (sym (one-tick c f b every since due)) (
      inr (same ∙ ap (λ (g : Flight). g.end.memories) h.flight),
      part-behind old between new first.packets
          (inputs_served c first.flight (Ticked ∷ Cleared ∷ [])).packets h.written
          (part-first between new (beaten c first.flight.end).1 _
          (subst (λ (g : Flight). AppendsPart between new (all_octets (beaten c g.end).1)) h.flight
          part)),
    )

-- one thing alone
pub served-one : (c : Config) (f : Flight) (x : Input) → inputs_served c f (x ∷ []) ≡ step c f x
served-one c f x = made-nil (step c f x)

-- the tick was done
pub tick-done : (c : Config) (f : Flight) (s t : Spacecraft) (q r : PaceCourse) (b : List ℕ)
    (every since : ℕ) (old between new : Option (List ℕ)) (had mid has : Option (List Told))
    → (since + 1 == every) ≡ true
    → Flies (step c f (Came b)) s q old between had mid
    → Flies (inputs_served c (flight_of s q) (Ticked ∷ Cleared ∷ [])) t r between new mid has
    → Flies (inputs_served c f (came_with every since b)) t r old new had has
tick-done c f s t q r b every since old between new had mid has due h k =
    subst (λ x. Flies x t r old new had has) (sym (one-tick c f b every since due))
    (flies-then (step c f (Came b)) (λ g. inputs_served c g (Ticked ∷ Cleared ∷ [])) s t q r old
    between
    new had mid has h k)

-- what holds after any fault
pub any-err : {A E : Type 0} (P : Type 0) (r : Result A E) → P → IfErr r (λ _. P)
any-err P (Ok x) p = tt
any-err P (Err e) p = p

-- ---- ticks by a clock

-- no tick
pub ticks-none : (c : Config) (s : Spacecraft) (q : PaceCourse) (old : Option (List ℕ))
    (had : Option (List Told))
    → Flies (inputs_served c (flight_of s q) (clock_ticks 0)) s q old old had had
ticks-none c s q old had =
    record { flight = refl; written = Appends-nil old; told = hears-none had }

-- what so many ticks make, with one more
pub ticks-one : (c : Config) (f : Flight) (k : ℕ)
    → inputs_served c f (clock_ticks (suc k))
    ≡ onward (λ g. inputs_served c g (Ticked ∷ Cleared ∷ [])) (inputs_served c f (clock_ticks k))
ticks-one c f k = served-append c f (clock_ticks k) (Ticked ∷ Cleared ∷ [])

-- and was done
pub ticks-next : (c d : Config) (f : Flight) (s t : Spacecraft) (q r : PaceCourse) (k : ℕ)
    (old between new : Option (List ℕ)) (had mid has : Option (List Told))
    → d ≡ c
    → Flies (inputs_served c f (clock_ticks k)) s q old between had mid
    → Flies (inputs_served d (flight_of s q) (Ticked ∷ Cleared ∷ [])) t r between new mid has
    → Flies (inputs_served c f (clock_ticks (k + 1))) t r old new had has
ticks-next c d f s t q r k old between new had mid has same h more =
    let one : suc k ≡ k + 1 = omega arith in
    subst (λ n. Flies (inputs_served c f (clock_ticks n)) t r old new had has) one
    (subst (λ x. Flies x t r old new had has) (sym (ticks-one c f k))
    (flies-then (inputs_served c f (clock_ticks k)) (λ g. inputs_served c g (Ticked ∷ Cleared ∷ []))
    s t q r old
    between new had mid has h
    (subst (λ (z : Config). Flies (inputs_served z (flight_of s q) (Ticked ∷ Cleared ∷ [])) t r
    between new
    mid has) same more)))

-- what they write grows
pub ticks-grow : (c : Config) (f : Flight)
    → Grows (λ k. (inputs_served c f (clock_ticks k)).packets)
ticks-grow c f =
    λ k. let before = inputs_served c f (clock_ticks k) in (
      (inputs_served c before.flight (Ticked ∷ Cleared ∷ [])).packets,
      ap (λ (x : Made). x.packets) (ticks-one c f k),
    )

-- the tick behind them was broken off
pub tick-part : (c : Config) (f : Flight) (s : Spacecraft) (q : PaceCourse) (k : ℕ)
    (old between new : Option (List ℕ)) (had has : Option (List Told))
    → Flies (inputs_served c f (clock_ticks k)) s q old between had has
    → AppendsPart between new (all_octets (beaten c (flight_of s q).end).1)
    → AppendsPart old new (all_octets (inputs_served c f (clock_ticks (suc k))).packets)
tick-part c f s q k old between new had has h part =
    let first = inputs_served c f (clock_ticks k) in
    subst (λ (x : Made). AppendsPart old new (all_octets x.packets)) (sym (ticks-one c f k))
    (part-behind old between new first.packets
    (inputs_served c first.flight (Ticked ∷ Cleared ∷ [])).packets h.written
    (part-first between new (beaten c first.flight.end).1 _
    (subst (λ (g : Flight). AppendsPart between new (all_octets (beaten c g.end).1)) h.flight
    part)))

-- so it is a front part of what more of them write
pub ticks-part : (c d : Config) (f : Flight) (s : Spacecraft) (q : PaceCourse) (k n : ℕ)
    (old between new : Option (List ℕ)) (had has : Option (List Told))
    → d ≡ c
    → k < n
    → Flies (inputs_served c f (clock_ticks k)) s q old between had has
    → AppendsPart between new (all_octets (beaten d (flight_of s q).end).1)
    → AppendsPart old new (all_octets (inputs_served c f (clock_ticks n)).packets)
ticks-part c d f s q k n old between new had has same less h part =
    part-grown (λ j. (inputs_served c f (clock_ticks j)).packets) (ticks-grow c f) old new (suc k) n
    (omega (arith, less))
    (tick-part c f s q k old between new had has h
    (subst (λ (z : Config). AppendsPart between new (all_octets (beaten z (flight_of s q).end).1))
    same part))

-- what comes behind ticks was done
pub behind-ticks : (c : Config) (f : Flight) (s t : Spacecraft) (q r : PaceCourse) (due : ℕ)
    (xs : List Input) (old between new : Option (List ℕ)) (had mid has : Option (List Told))
    → Flies (inputs_served c f (clock_ticks due)) s q old between had mid
    → Flies (inputs_served c (flight_of s q) xs) t r between new mid has
    → Flies (inputs_served c f (clock_ticks due ++ xs)) t r old new had has
behind-ticks c f s t q r due xs old between new had mid has h k =
    subst (λ x. Flies x t r old new had has) (sym (served-append c f (clock_ticks due) xs))
    (flies-then (inputs_served c f (clock_ticks due)) (λ g. inputs_served c g xs) s t q r old
    between new had mid
    has h k)

-- it broke off in the ticks
pub breaks-ticks : (c : Config) (f : Flight) (due : ℕ) (xs : List Input) (before now : Contents)
    (old new : Option (List ℕ))
    → now ≡ before
    → AppendsPart old new (all_octets (inputs_served c f (clock_ticks due)).packets)
    → Breaks before (plain (inputs_served c f (clock_ticks due ++ xs))) now old new
breaks-ticks c f due xs before now old new same part =
    let first = inputs_served c f (clock_ticks due) in
    subst (λ x. Breaks before (plain x) now old new) (sym (served-append c f (clock_ticks due) xs))
    (inl same, part-first old new first.packets (inputs_served c first.flight xs).packets part)

-- or behind them
pub breaks-behind : (c : Config) (f : Flight) (s : Spacecraft) (q : PaceCourse) (due : ℕ)
    (xs : List Input) (before now : Contents) (old between new : Option (List ℕ))
    (had has : Option (List Told))
    → s.memories ≡ before
    → Flies (inputs_served c f (clock_ticks due)) s q old between had has
    → Breaks s.memories (plain (inputs_served c (flight_of s q) xs)) now between new
    → Breaks before (plain (inputs_served c f (clock_ticks due ++ xs))) now old new
breaks-behind c f s q due xs before now old between new had has same h broke =
    let first = inputs_served c f (clock_ticks due) in
    let at : Breaks before (plain (inputs_served c first.flight xs)) now between new =
    subst (λ (g : Flight). Breaks before (plain (inputs_served c g xs)) now between new) h.flight
    (subst (λ ms. Breaks ms (plain (inputs_served c (flight_of s q) xs)) now between new) same
    broke) in
    let is = sym (served-append c f (clock_ticks due) xs) in
    subst (λ x. Breaks before (plain x) now old new) is (
      at.0,
      part-behind old between new first.packets (inputs_served c first.flight xs).packets h.written
          at.1,
    )
