-- Events that are taken, one after the other.
use Rattle.std.proofs.Common.{◌≡◌, ◌∙◌, ap, sym, subst, refl, inl, ℕ, ◌+◌, ◌-◌, ◌^◌, ◌≤◌, min, Bool, true, List, [], ◌∷◌, ◌++◌, length, take, drop, Option, Some, None, append-nil, length-append, arith}
use Rattle.std.specs.Io.KnownBytes.{Consumes, Keeps}
use Rattle.std.proofs.KnownBytes.{Appends-kept, Appends-nil, Consumes-nil, Consumes-trans}
use Rattle.std.proofs.lemmas.List.{length-take-le}
use Rattle.lpt_events.specs.declared.config.Config.{Config}
use Rattle.lpt_text.proofs.StreamLemmas.{part_whole}
use Rattle.lpt_stream.specs.Pieces.{up_to_limit}
use Rattle.lpt_stream.specs.Streams.{all_octets}
use Rattle.lpt_spacecraft.specs.Flights.{FlightEvent, Flight, Made, Packet, came_with, clock_ticks, counted_on, dues_of, inputs_by, inputs_of, new_flight, onward, inputs_served, stretches_of}
use Rattle.lpt_spacecraft.specs.Fronts.{StandsSo}
use Rattle.lpt_spacecraft.specs.Streams.{flight_of, length_of, onboard, plain, served_by, Answers, Breaks, BreaksOff, Flies, Serves}
use Rattle.lpt_spacecraft.specs.Stretches.{Framed}
use Rattle.lpt_spacecraft.specs.declared.pace.PaceCourse.{PaceCourse}
use Rattle.lpt_spacecraft.specs.declared.pace.Pace.{Pace}
use Rattle.lpt_spacecraft.specs.declared.spacecraft.Spacecraft.{Spacecraft}
use Rattle.lpt_spacecraft.specs.declared.told.Told.{Told}
use Rattle.lpt_spacecraft.proofs.FoldLemmas.{answers-more, answers-none, counted-few, dues-next, flies-then, hears-none, inputs-next, length-next, served-append, since-next, since_after, stretches-next}
use Rattle.lpt_spacecraft.proofs.StretchLemmas.{so-far-frame, so-far-more, so-far-none, IsCutSoFar}
use Rattle.lpt_spacecraft.proofs.WritingLemmas.{part-behind}

-- what came of a run, with the reads, the writes, the clock's answers and what was told before and
-- after it
pub record Ends : Type 0 where
  pub before : Option (List ℕ)
  pub after : Option (List ℕ)
  pub old : Option (List ℕ)
  pub new : Option (List ℕ)
  pub asked : Option (List ℕ)
  pub answered : Option (List ℕ)
  pub had : Option (List Told)
  pub has : Option (List Told)

-- the events that came were taken, and these octets are held behind them
pub record IsServed (pace : Pace) (s t : Spacecraft) (q : PaceCourse) (e : Ends) (held : List ℕ)
    (ended step : Bool) (count place : ℕ) : Type 0 where
  pub stream : List ℕ
  pub events : List FlightEvent
  pub consumed : Consumes e.before e.after stream
  pub cut : IsCutSoFar pace.passing stream (stretches_of events) ended step held
  pub flies : Flies (served_by pace s events) t q e.old e.new e.had e.has
  pub answers : Answers pace.clocked e.asked e.answered (dues_of events)
  pub count_is : length events ≡ count
  pub since_is : q.since ≡ since_after pace.every 0 events
  pub pace_is : q.pace ≡ pace
  pub place_is : place ≡ up_to_limit (length_of events)
  pub few : q.since ≤ count

-- none came
pub served-none : (pace : Pace) (s : Spacecraft) (q : PaceCourse) (a old asked : Option (List ℕ))
    (had : Option (List Told)) (held : List ℕ) (ended step : Bool)
    → held ≡ []
    → step ≡ true
    → q.pace ≡ pace
    → q.since ≡ 0
    → q.uses.items ≡ []
    → IsServed pace s s q
    (record {
      before = a;
      after = a;
      old = old;
      new = old;
      asked = asked;
      answered = asked;
      had = had;
      has = had;
    }) held ended step 0 0
served-none pace s q a old asked had held ended step none on paced since unused = record {
  stream = [];
  events = [];
  consumed = Consumes-nil a;
  cut = so-far-none pace.passing ended step held none on;
  flies = record {
    flight = λ i. record { end = onboard s; reuse = (paced i).reuse; uses = unused i };
    written = Appends-nil old;
    told = hears-none had;
  };
  answers = answers-none pace.clocked asked;
  count_is = refl;
  since_is = since;
  pace_is = paced;
  place_is = refl;
  few = omega (arith, since);
}

-- what one event more makes
pub by-next : (pace : Pace) (s : Spacecraft) (events : List FlightEvent) (x : FlightEvent)
    → served_by pace s (events ++ x ∷ [])
    ≡ onward (λ g. inputs_served s.config g (inputs_by pace.every (since_after pace.every 0 events)
    (0 + length_of events) x)) (served_by pace s events)
by-next pace s events x =
    let f = new_flight pace.reuse (onboard s) in
    ap (inputs_served s.config f) (inputs-next pace.every 0 0 events x)
    ∙ served-append s.config f (inputs_of pace.every 0 0 events)
    (inputs_by pace.every (since_after pace.every 0 events) (0 + length_of events) x)

-- where it is a packet
by-packet : (pace : Pace) (s : Spacecraft) (events : List FlightEvent) (due : ℕ) (b : List ℕ)
    (since : ℕ)
    → since ≡ since_after pace.every 0 events
    → served_by pace s (events ++ Packet due b ∷ [])
    ≡ onward (λ g. inputs_served s.config g (clock_ticks due ++ came_with pace.every since b))
    (served_by pace s events)
by-packet pace s events due b since is =
    by-next pace s events (Packet due b)
    ∙ ap (λ n. onward (λ g. inputs_served s.config g (clock_ticks due ++ came_with pace.every n b))
    (served_by pace s events)) (sym is)

-- what a packet makes of an end on its course, whose configuration and pace these are
abbrev pub made_next : Config → Pace → Spacecraft → PaceCourse → (due : ℕ) → List ℕ → Made
made_next c pace s q due b =
    inputs_served c (flight_of s q) (clock_ticks due ++ came_with pace.every q.since b)

-- it was taken
flies-next : (pace : Pace) (s mid t : Spacecraft) (q r : PaceCourse) (c : Config)
    (old between new : Option (List ℕ)) (had mids has : Option (List Told))
    (events : List FlightEvent) (due : ℕ) (b : List ℕ)
    → q.since ≡ since_after pace.every 0 events
    → q.pace ≡ pace
    → c ≡ s.config
    → Flies (served_by pace s events) mid q old between had mids
    → Flies (made_next c q.pace mid q due b) t r between new mids has
    → Flies (served_by pace s (events ++ Packet due b ∷ [])) t r old new had has
flies-next pace s mid t q r c old between new had mids has events due b is paced same before next =
    let at : Flies (made_next s.config pace mid q due b) t r between new mids has =
    subst (λ (p : Pace). Flies (made_next s.config p mid q due b) t r between new mids has) paced
    (subst (λ (k : Config). Flies (made_next k q.pace mid q due b) t r between new mids has) same
    next) in
    subst (λ (x : Made). Flies x t r old new had has)
    (sym (by-packet pace s events due b q.since is))
    (flies-then (served_by pace s events)
    (λ g. inputs_served s.config g (clock_ticks due ++ came_with pace.every q.since b)) mid t q r
    old
    between new had mids has before at)

-- work broke off in it
pub breaks-next : (pace : Pace) (s mid t : Spacecraft) (q : PaceCourse) (c : Config)
    (old between new asked answered : Option (List ℕ)) (had has : Option (List Told))
    (events : List FlightEvent) (due : ℕ) (b : List ℕ)
    → q.since ≡ since_after pace.every 0 events
    → q.pace ≡ pace
    → c ≡ s.config
    → Flies (served_by pace s events) mid q old between had has
    → Breaks mid.memories (plain (made_next c q.pace mid q due b)) t.memories between new
    → Answers pace.clocked asked answered (dues_of (events ++ Packet due b ∷ []))
    → BreaksOff pace s t old new asked answered had has (events ++ Packet due b ∷ [])
breaks-next pace s mid t q c old between new asked answered had has events due b is paced same
    before next answers =
    let x = served_by pace s events in
    let f : Flight → Made =
    λ g. inputs_served s.config g (clock_ticks due ++ came_with pace.every q.since b) in
    let at : Breaks x.flight.end.memories (plain (f x.flight)) t.memories between new =
    subst (λ (g : Flight). Breaks g.end.memories (plain (f g)) t.memories between new)
    before.flight
    (subst (λ (p : Pace). Breaks mid.memories (plain (made_next s.config p mid q due b)) t.memories
    between new) paced
    (subst (λ (k : Config). Breaks mid.memories (plain (made_next k q.pace mid q due b)) t.memories
    between new) same next)) in
    record {
      taken = events;
      last = Some (Packet due b);
      are = refl;
      breaks = subst (λ (y : Made). Breaks x.flight.end.memories (plain y) t.memories old new)
          (sym (by-packet pace s events due b q.since is))
          (at.0, part-behind old between new x.packets (f x.flight).packets before.written at.1);
      told = before.told;
      answers = answers;
    }

-- it broke off between two events
pub breaks-between : (pace : Pace) (s t : Spacecraft) (q : PaceCourse)
    (old new asked answered : Option (List ℕ)) (had has : Option (List Told))
    (events : List FlightEvent)
    → Flies (served_by pace s events) t q old new had has
    → Answers pace.clocked asked answered (dues_of events)
    → BreaksOff pace s t old new asked answered had has events
breaks-between pace s t q old new asked answered had has events h answers = record {
  taken = events;
  last = None;
  are = sym (append-nil events);
  breaks = (
    inl (ap (λ (g : Flight). g.end.memories) h.flight),
    part_whole old new (all_octets (served_by pace s events).packets) h.written,
  );
  told = h.told;
  answers = answers;
}

-- all were taken
pub serves-all : (pace : Pace) (s t : Spacecraft) (q : PaceCourse)
    (old new asked answered : Option (List ℕ)) (had has : Option (List Told))
    (events : List FlightEvent)
    → Flies (served_by pace s events) t q old new had has
    → Answers pace.clocked asked answered (dues_of events)
    → Serves pace s t old new asked answered had has events
serves-all pace s t q old new asked answered had has events h answers = record {
  writes = (ap (λ (g : Flight). g.end) h.flight, h.written);
  told = h.told;
  answers = answers;
}

pub place-next : (events : List FlightEvent) (x : FlightEvent) (at next len : ℕ)
    → at ≡ up_to_limit (length_of events)
    → length_of (events ++ x ∷ []) ≡ length_of events + len
    → next ≡ min (at + len) (2 ^ 64 - 1)
    → next ≡ up_to_limit (length_of (events ++ x ∷ []))
place-next events x at next len is sum then = omega (arith, is, sum, then)

-- the clock's answers, with one more
pub asks-next : (is_asked : Bool) (a b d : Option (List ℕ)) (events : List FlightEvent) (due : ℕ)
    (octets : List ℕ)
    → Answers is_asked a b (dues_of events)
    → Answers is_asked b d (due ∷ [])
    → Answers is_asked a d (dues_of (events ++ Packet due octets ∷ []))
asks-next is_asked a b d events due octets h k =
    subst (Answers is_asked a d) (sym (dues-next events (Packet due octets)))
    (answers-more is_asked a b d (dues_of events) (due ∷ []) h k)

-- with more read behind, after all that was written was passed on
pub served-more : {step : Bool} (pace : Pace) (s t : Spacecraft) (q : PaceCourse) (e : Ends)
    (d passed : Option (List ℕ)) (held read left : List ℕ) (ended now : Bool) (count place : ℕ)
    → IsServed pace s t q e held ended step count place
    → Consumes e.after d read
    → (ended ≡ true → (now ≡ true) × (read ≡ []))
    → left ≡ held ++ read
    → Keeps e.new passed
    → IsServed pace s t q (record e { after = d; new = passed }) left now step count place
served-more pace s t q e d passed held read left ended now count place h more stays is kept =
    record {
      stream = h.stream ++ read;
      events = h.events;
      consumed = Consumes-trans e.before e.after d h.stream read h.consumed more;
      cut = so-far-more pace.passing h.stream (stretches_of h.events) ended now _ held read left
          h.cut stays is;
      flies = record {
        flight = h.flies.flight;
        written = Appends-kept e.old e.new passed (all_octets (served_by pace s h.events).packets)
            h.flies.written kept;
        told = h.flies.told;
      };
      answers = h.answers;
      count_is = h.count_is;
      since_is = h.since_is;
      pace_is = h.pace_is;
      place_is = h.place_is;
      few = h.few;
    }

-- and with the packet in front taken
pub served-next : (pace : Pace) (s mid t : Spacecraft) (q r : PaceCourse) (c : Config) (e : Ends)
    (new answered : Option (List ℕ)) (has : Option (List Told))
    (held now octets : List ℕ) (ended over step on : Bool) (due count place len then : ℕ)
    → IsServed pace s mid q e held ended step count place
    → c ≡ s.config
    → StandsSo pace.passing step ended held (Framed (take len held)) true (drop len held)
    → len ≤ length held
    → octets ≡ take len held
    → Answers pace.clocked e.answered answered (due ∷ [])
    → Flies (made_next c q.pace mid q due octets) t r e.new new e.has has
    → r.since ≡ counted_on q.pace.every q.since
    → r.pace ≡ q.pace
    → then ≡ min (place + len) (2 ^ 64 - 1)
    → now ≡ drop len held
    → over ≡ ended
    → on ≡ true
    → IsServed pace s t r (record e { new = new; answered = answered; has = has }) now over on
    (count + 1) then
served-next pace s mid t q r c e new answered has held now octets ended over step on due count place
    len then h same front within is asks flies counted paced placed left stays stepped =
    let x = Packet due (take len held) in
    let since_on : r.since ≡ counted_on pace.every q.since =
    counted ∙ ap (λ (p : Pace). counted_on p.every q.since) h.pace_is in
    let fits : length (take len held) ≡ len = length-take-le len held within in
    record {
      stream = h.stream;
      events = h.events ++ x ∷ [];
      consumed = h.consumed;
      cut = subst (λ ss. IsCutSoFar pace.passing h.stream ss over on now)
          (sym (stretches-next h.events x))
          (so-far-frame pace.passing h.stream (stretches_of h.events) ended over step on held now
          len h.cut front left stays stepped);
      flies = flies-next pace s mid t q r c e.old e.new new e.had e.has has h.events due
          (take len held) h.since_is h.pace_is same h.flies
          (subst (λ o. Flies (made_next c q.pace mid q due o) t r e.new new e.has has) is flies);
      answers = asks-next pace.clocked e.asked e.answered answered h.events due (take len held)
          h.answers asks;
      count_is = length-append h.events (x ∷ []) ∙ ap (λ n. n + 1) h.count_is;
      since_is = since_on ∙ ap (counted_on pace.every) h.since_is
          ∙ sym (since-next pace.every 0 h.events x);
      pace_is = paced ∙ h.pace_is;
      place_is = place-next h.events x place then len h.place_is
          (length-next h.events x ∙ ap (λ n. length_of h.events + n) fits) placed;
      few = subst (λ n. n ≤ count + 1) (sym since_on) (counted-few pace.every q.since count x h.few);
    }
