-- Octets that are passed over, and told of.
use Rattle.std.proofs.Common.{◌≡◌, ◌∙◌, ap, sym, subst, refl, ℕ, ◌+◌, ◌-◌, ◌^◌, ◌≤◌, min, Bool, List, [], ◌∷◌, ◌++◌, length, take, drop, Option, append-nil, length-append, zero-add, arith}
use Rattle.std.proofs.KnownBytes.{Appends-nil}
use Rattle.std.proofs.lemmas.List.{length-take-le}
use Rattle.lpt_stream.specs.Pieces.{up_to_limit}
use Rattle.lpt_spacecraft.specs.Flights.{Astray, FlightEvent, Made, Noise, dues_of, onward, inputs_served, stretches_of}
use Rattle.lpt_spacecraft.specs.Fronts.{StandsSo}
use Rattle.lpt_spacecraft.specs.Streams.{flight_of, length_of, served_by, Answers, Flies}
use Rattle.lpt_spacecraft.specs.Stretches.{Passed}
use Rattle.lpt_spacecraft.specs.Telling.{Hears}
use Rattle.lpt_spacecraft.specs.declared.pace.PaceCourse.{PaceCourse}
use Rattle.lpt_spacecraft.specs.declared.pace.Pace.{Pace}
use Rattle.lpt_spacecraft.specs.declared.spacecraft.Spacecraft.{Spacecraft}
use Rattle.lpt_spacecraft.specs.declared.told.Told.{Told}
use Rattle.lpt_spacecraft.specs.declared.told.Told.TheVariants as tells
use Rattle.lpt_spacecraft.proofs.FoldLemmas.{dues-next, flies-then, length-next, served-one, since-next, stretches-next}
use Rattle.lpt_spacecraft.proofs.EventLemmas.{by-next, place-next, Ends, IsServed}
use Rattle.lpt_spacecraft.proofs.StretchLemmas.{so-far-run, IsCutSoFar}

-- so many at a place were told of, behind what came
flies-noise : (pace : Pace) (s t : Spacecraft) (q : PaceCourse) (old new : Option (List ℕ))
    (had mids has : Option (List Told)) (events : List FlightEvent) (b : List ℕ) (place len : ℕ)
    → place ≡ up_to_limit (length_of events)
    → length b ≡ len
    → Flies (served_by pace s events) t q old new had mids
    → Hears mids has (tells.Skipped place len ∷ [])
    → Flies (served_by pace s (events ++ Noise b ∷ [])) t q old new had has
flies-noise pace s t q old new had mids has events b place len at size before told =
    let f = flight_of t q in
    let here : up_to_limit (0 + length_of events) ≡ place =
    ap up_to_limit (zero-add (length_of events)) ∙ sym at in
    let one : Flies (inputs_served s.config f (Astray place len ∷ [])) t q new new mids has =
    subst (λ (x : Made). Flies x t q new new mids has)
    (sym (served-one s.config f (Astray place len)))
    (record { flight = refl; written = Appends-nil new; told = told }) in
    subst (λ (x : Made). Flies x t q old new had has)
    (sym (by-next pace s events (Noise b)
    ∙ (λ i. onward (λ g. inputs_served s.config g (Astray (here i) (size i) ∷ []))
    (served_by pace s events))))
    (flies-then (served_by pace s events) (λ g. inputs_served s.config g (Astray place len ∷ [])) t
    t q q
    old new new had mids has before one)

-- no answer is asked for
asks-noise : (is_asked : Bool) (a b : Option (List ℕ)) (events : List FlightEvent) (octets : List ℕ)
    → Answers is_asked a b (dues_of events)
    → Answers is_asked a b (dues_of (events ++ Noise octets ∷ []))
asks-noise is_asked a b events octets h =
    subst (Answers is_asked a b)
    (sym (dues-next events (Noise octets) ∙ append-nil (dues_of events))) h

noise-place : (events : List FlightEvent) (b : List ℕ) (place then len : ℕ)
    → place ≡ up_to_limit (length_of events)
    → length b ≡ len
    → then ≡ min (place + len) (2 ^ 64 - 1)
    → then ≡ up_to_limit (length_of (events ++ Noise b ∷ []))
noise-place events b place then len is size placed =
    place-next events (Noise b) place then len is
    (length-next events (Noise b) ∙ ap (λ n. length_of events + n) size) placed

-- a run was passed over, and told of
pub served-passed : (pace : Pace) (s t : Spacecraft) (q : PaceCourse) (e : Ends)
    (has : Option (List Told)) (held now : List ℕ) (ended step on : Bool)
    (count place len then : ℕ)
    → IsServed pace s t q e held ended step count place
    → StandsSo pace.passing step ended held (Passed (take len held)) on (drop len held)
    → len ≤ length held
    → now ≡ drop len held
    → Hears e.has has (tells.Skipped place len ∷ [])
    → then ≡ min (place + len) (2 ^ 64 - 1)
    → IsServed pace s t q (record e { has = has }) now ended on (count + 1) then
served-passed pace s t q e has held now ended step on count place len then h run within left told
    placed =
    let b = take len held in
    let x = Noise b in
    let size : length b ≡ len = length-take-le len held within in
    record {
      stream = h.stream;
      events = h.events ++ x ∷ [];
      consumed = h.consumed;
      cut = subst (λ ss. IsCutSoFar pace.passing h.stream ss ended on now)
          (sym (stretches-next h.events x))
          (so-far-run pace.passing h.stream (stretches_of h.events) ended step on held now len
          h.cut run left);
      flies = flies-noise pace s t q e.old e.new e.had e.has has h.events b place len h.place_is
          size h.flies told;
      answers = asks-noise pace.clocked e.asked e.answered h.events b h.answers;
      count_is = length-append h.events (x ∷ []) ∙ ap (λ n. n + 1) h.count_is;
      since_is = h.since_is ∙ sym (since-next pace.every 0 h.events x);
      pace_is = h.pace_is;
      place_is = noise-place h.events b place then len h.place_is size placed;
      few = omega (arith, h.few);
    }
