-- Stretches of a stream that are handed over, one after the other.
use Rattle.std.proofs.Common.{◌≡◌, ◌⊎◌, ◌∙◌, ap, sym, subst, refl, inl, inr, ℕ, ◌+◌, ◌-◌, ◌^◌, ◌≤◌, min, Bool, true, false, List, [], ◌∷◌, ◌++◌, length, take, drop, Option, Some, Ok, Err, append-nil, length-append, zero-add, arith}
use Rattle.std.specs.Io.KnownBytes.{Consumes}
use Rattle.std.proofs.KnownBytes.{Consumes-nil, Consumes-trans}
use Rattle.std.proofs.lemmas.List.{length-take-le}
use Rattle.lpt_text.specs.Streams.{ReadFails}
use Rattle.lpt_text.specs.declared.fault.StreamFault.{StreamFault}
use Rattle.lpt_text.specs.declared.fault.StreamFault.TheVariants as faults
use Rattle.lpt_stream.specs.Pieces.{up_to_limit}
use Rattle.lpt_spacecraft.specs.Fronts.{SearchFails, StandsSo}
use Rattle.lpt_spacecraft.specs.Streams.{StopsAt}
use Rattle.lpt_spacecraft.specs.Stretches.{Stretch, Framed, Passed, octets_of, stretch_octets}
use Rattle.lpt_spacecraft.specs.Waiting.{Gains, HandsFront, HandsOver, IsUnending, handed_as, handed_from, unwritten_fault}
use Rattle.lpt_spacecraft.specs.declared.inlet.Happening.{Happening}
use Rattle.lpt_spacecraft.specs.declared.inlet.Happening.TheVariants as happens
use Rattle.lpt_spacecraft.specs.declared.passing.Passing.{Passing}
use Rattle.lpt_spacecraft.specs.declared.stop.Stop.{Stop}
use Rattle.lpt_spacecraft.proofs.SearchLemmas.{search-reader}
use Rattle.lpt_spacecraft.proofs.StreamLemmas.{grown}
use Rattle.lpt_spacecraft.proofs.StretchLemmas.{cut-here, cut-whole, so-far-frame, so-far-more, so-far-none, so-far-run, stretch-next, IsCutSoFar}
use Rattle.lpt_spacecraft.proofs.TurnLemmas.{gains-more, gains-none}
use Rattle.lpt_spacecraft.proofs.WritingLemmas.{none_lost}

-- ---- one stretch more

handed-more : (place : ℕ) (ss : List Stretch) (s : Stretch)
    → handed_from place (ss ++ s ∷ [])
    ≡ handed_from place ss ++ handed_as (place + length (stretch_octets ss)) s ∷ []
handed-more place [] s =
    let here : place ≡ place + length (stretch_octets []) = omega arith in
    ap (λ p. handed_as p s ∷ []) here
handed-more place (d ∷ ss) s =
    let on = place + length (octets_of d) in
    let sum = length-append (octets_of d) (stretch_octets ss) in
    let same : on + length (stretch_octets ss) ≡ place + length (stretch_octets (d ∷ ss)) =
    omega (arith, sum) in
    ap (λ l. handed_as place d ∷ l)
    (handed-more on ss s ∙ ap (λ p. handed_from on ss ++ handed_as p s ∷ []) same)

place-more : (ss : List Stretch) (s : Stretch) (place then len : ℕ)
    → place ≡ up_to_limit (length (stretch_octets ss))
    → length (octets_of s) ≡ len
    → then ≡ min (place + len) (2 ^ 64 - 1)
    → then ≡ up_to_limit (length (stretch_octets (ss ++ s ∷ [])))
place-more ss s place then len is size placed =
    let sum : length (stretch_octets (ss ++ s ∷ []))
    ≡ length (stretch_octets ss) + length (octets_of s) =
    ap length (stretch-next ss s) ∙ length-append (stretch_octets ss) (octets_of s) in
    omega (arith, is, size, placed, sum)

-- ---- those that were handed over

pub record IsRelayed (passing : Passing) (before after : Option (List ℕ))
    (had has : Option (List Happening)) (left : List ℕ) (ended step : Bool)
    (count place : ℕ) : Type 0
  where
    pub stream : List ℕ
    pub stretches : List Stretch
    pub consumed : Consumes before after stream
    pub cut : IsCutSoFar passing stream stretches ended step left
    pub gains : Gains had has (handed_from 0 stretches)
    pub count_is : length stretches ≡ count
    pub place_is : place ≡ up_to_limit (length (stretch_octets stretches))

-- none was
pub relayed-none : (passing : Passing) (a : Option (List ℕ)) (had : Option (List Happening))
    (left : List ℕ) (ended step : Bool)
    → left ≡ []
    → step ≡ true
    → IsRelayed passing a a had had left ended step 0 0
relayed-none passing a had left ended step none on = record {
  stream = [];
  stretches = [];
  consumed = Consumes-nil a;
  cut = so-far-none passing ended step left none on;
  gains = gains-none had;
  count_is = refl;
  place_is = refl;
}

-- more was read
pub relayed-more : {step : Bool} (passing : Passing) (a b d : Option (List ℕ))
    (had has : Option (List Happening))
    (left read rest : List ℕ) (ended now : Bool) (count place : ℕ)
    → IsRelayed passing a b had has left ended step count place
    → Consumes b d read
    → (ended ≡ true → (now ≡ true) × (read ≡ []))
    → rest ≡ left ++ read
    → IsRelayed passing a d had has rest now step count place
relayed-more passing a b d had has left read rest ended now count place h more stays is = record {
  stream = h.stream ++ read;
  stretches = h.stretches;
  consumed = Consumes-trans a b d h.stream read h.consumed more;
  cut = so-far-more passing h.stream h.stretches ended now _ left read rest h.cut stays is;
  gains = h.gains;
  count_is = h.count_is;
  place_is = h.place_is;
}

gains-next : (had has now : Option (List Happening)) (ss : List Stretch) (s : Stretch)
    → Gains had has (handed_from 0 ss)
    → Gains has now (handed_as (length (stretch_octets ss)) s ∷ [])
    → Gains had now (handed_from 0 (ss ++ s ∷ []))
gains-next had has now ss s h more =
    let n = length (stretch_octets ss) in
    subst (Gains had now)
    (ap (λ p. handed_from 0 ss ++ handed_as p s ∷ []) (sym (zero-add n))
    ∙ sym (handed-more 0 ss s))
    (gains-more had has now (handed_from 0 ss) (handed_as n s ∷ []) h more)

-- a frame was handed over
pub relayed-frame : (passing : Passing) (a b : Option (List ℕ))
    (had has now : Option (List Happening))
    (left rest octets : List ℕ) (ended over step on : Bool) (count place len then : ℕ)
    → IsRelayed passing a b had has left ended step count place
    → StandsSo passing step ended left (Framed (take len left)) true (drop len left)
    → len ≤ length left
    → octets ≡ take len left
    → Gains has now (happens.Packet octets ∷ [])
    → then ≡ min (place + len) (2 ^ 64 - 1)
    → rest ≡ drop len left
    → over ≡ ended
    → on ≡ true
    → IsRelayed passing a b had now rest over on (count + 1) then
relayed-frame passing a b had has now left rest octets ended over step on count place len then h
    front within is given placed behind stays stepped =
    let s = Framed (take len left) in
    record {
      stream = h.stream;
      stretches = h.stretches ++ s ∷ [];
      consumed = h.consumed;
      cut = so-far-frame passing h.stream h.stretches ended over step on left rest len h.cut
          front behind stays stepped;
      gains = gains-next had has now h.stretches s h.gains
          (subst (λ o. Gains has now (happens.Packet o ∷ [])) is given);
      count_is = length-append h.stretches (s ∷ []) ∙ ap (λ n. n + 1) h.count_is;
      place_is = place-more h.stretches s place then len h.place_is
          (length-take-le len left within) placed;
    }

-- as a run is told of
gains-run : (has now : Option (List Happening)) (ss : List Stretch) (b : List ℕ) (place len : ℕ)
    → place ≡ up_to_limit (length (stretch_octets ss))
    → length b ≡ len
    → Gains has now (happens.Skipped place len ∷ [])
    → Gains has now (handed_as (length (stretch_octets ss)) (Passed b) ∷ [])
gains-run has now ss b place len is size given =
    subst (λ p. Gains has now (happens.Skipped p (length b) ∷ [])) is
    (subst (λ n. Gains has now (happens.Skipped place n ∷ [])) (sym size) given)

-- a run was
pub relayed-run : (passing : Passing) (a b : Option (List ℕ))
    (had has now : Option (List Happening))
    (left rest : List ℕ) (ended step on : Bool) (count place len then : ℕ)
    → IsRelayed passing a b had has left ended step count place
    → StandsSo passing step ended left (Passed (take len left)) on (drop len left)
    → len ≤ length left
    → rest ≡ drop len left
    → Gains has now (happens.Skipped place len ∷ [])
    → then ≡ min (place + len) (2 ^ 64 - 1)
    → IsRelayed passing a b had now rest ended on (count + 1) then
relayed-run passing a b had has now left rest ended step on count place len then h run within behind
    given placed =
    let octets = take len left in
    let s = Passed octets in
    let size : length octets ≡ len = length-take-le len left within in
    record {
      stream = h.stream;
      stretches = h.stretches ++ s ∷ [];
      consumed = h.consumed;
      cut = so-far-run passing h.stream h.stretches ended step on left rest len h.cut run
          behind;
      gains = gains-next had has now h.stretches s h.gains
          (gains-run has now h.stretches octets place len h.place_is size given);
      count_is = length-append h.stretches (s ∷ []) ∙ ap (λ n. n + 1) h.count_is;
      place_is = place-more h.stretches s place then len h.place_is size placed;
    }

-- ---- how it ends

-- where no more is handed over, or read
pub hands-front : {step : Bool} (passing : Passing) (a b : Option (List ℕ))
    (had has : Option (List Happening))
    (left : List ℕ) (ended : Bool) (count place : ℕ)
    → IsRelayed passing a b had has left ended step count place
    → HandsFront passing a b had has [] (λ _ _. Unit)
hands-front passing a b had has left ended count place h = record {
  stream = h.stream;
  stretches = h.stretches;
  rest = left;
  consumed = none_lost a b h.stream h.consumed;
  cut = cut-here passing h.stream h.stretches ended _ left h.cut;
  gains = h.gains;
  holds = tt;
}

-- octets were lost
hands-lost : {step : Bool} (passing : Passing) (a b d : Option (List ℕ))
    (had has : Option (List Happening)) (left lost : List ℕ) (ended : Bool) (count place : ℕ)
    → IsRelayed passing a b had has left ended step count place
    → Consumes b d lost
    → HandsFront passing a d had has lost (λ _ _. Unit)
hands-lost passing a b d had has left lost ended count place h more = record {
  stream = h.stream;
  stretches = h.stretches;
  rest = left;
  consumed = Consumes-trans a b d h.stream lost h.consumed more;
  cut = cut-here passing h.stream h.stretches ended _ left h.cut;
  gains = h.gains;
  holds = tt;
}

-- it stops there
pub hands-stop : {step : Bool} (passing : Passing) (a b : Option (List ℕ))
    (had has : Option (List Happening))
    (left : List ℕ) (ended : Bool) (count place : ℕ) (stop : Stop)
    → (h : IsRelayed passing a b had has left ended step count place)
    → ((n : ℕ) → place ≡ up_to_limit n → StopsAt passing stop n left b)
    → HandsOver passing (Ok (Some stop)) a b had has
hands-stop passing a b had has left ended count place stop h at = record {
  stream = h.stream;
  stretches = h.stretches;
  rest = left;
  consumed = none_lost a b h.stream h.consumed;
  cut = cut-here passing h.stream h.stretches ended _ left h.cut;
  gains = h.gains;
  holds = at (length (stretch_octets h.stretches)) h.place_is;
}

-- a fault ended a search
pub hands-fault : {step : Bool} (fault : StreamFault) (passing : Passing) (a b d : Option (List ℕ))
    (had has : Option (List Happening)) (left : List ℕ) (ended bad failed : Bool)
    (count place : ℕ)
    → SearchFails fault left ended b d bad failed
    → IsRelayed passing a b had has left ended step count place
    → HandsOver passing (Err (unwritten_fault fault)) a d had has
hands-fault faults.Read passing a b d had has left ended bad failed count place found h =
    hands-front passing a d had has (left ++ found.0) ended count place
    (relayed-more passing a b d had has left found.0 (left ++ found.0) ended ended count place h
    found.1 (λ k. (k, found.2 k)) refl)
hands-fault faults.Write passing a b d had has left ended bad failed count place found h =
    (found.0, hands-lost passing a b d had has left found.0 ended count place h found.1)
hands-fault faults.Memory passing a b d had has left ended bad failed count place found h =
    (found.0, hands-lost passing a b d had has left found.0 ended count place h found.1)

unwritten-reader : (Over : Type 0) (fault : StreamFault) (first failed : Bool)
    → ReadFails Over fault first failed
    → ReadFails Over (unwritten_fault fault) first failed
unwritten-reader Over faults.Read first failed h = h
unwritten-reader Over faults.Write first failed h = h
unwritten-reader Over faults.Memory first failed h = h

-- how it leaves the reader
pub hands-reader : {step : Bool} (fault : StreamFault) (passing : Passing) (a b d : Option (List ℕ))
    (had has : Option (List Happening)) (left : List ℕ) (ended first bad failed : Bool)
    (count place : ℕ)
    → SearchFails fault left ended b d bad failed
    → bad ≡ first
    → IsRelayed passing a b had has left ended step count place
    → ReadFails (IsUnending passing a d) (unwritten_fault fault) first failed
hands-reader fault passing a b d had has left ended first bad failed count place found same h =
    unwritten-reader (IsUnending passing a d) fault first failed
    (search-reader (IsUnending passing a d) fault left ended b d first bad failed found same
    (λ read came many. inr (
      h.stream ++ read,
      Consumes-trans a b d h.stream read h.consumed came,
      grown h.stream left read (stretch_octets h.stretches)
          (cut-whole passing h.stream h.stretches ended _ left h.cut) many,
    )))

-- so many stretches came
pub unending : {step : Bool} (passing : Passing) (a b : Option (List ℕ))
    (had has : Option (List Happening))
    (left : List ℕ) (ended : Bool) (count place : ℕ)
    → IsRelayed passing a b had has left ended step count place
    → count ≡ 2 ^ 64 - 1
    → IsUnending passing a b
unending passing a b had has left ended count place h most = inl (
  h.stream,
  h.stretches,
  left,
  h.consumed,
  cut-here passing h.stream h.stretches ended _ left h.cut,
  h.count_is ∙ most,
)
