-- How work on a stream ends.
use Rattle.std.specs.Prelude.{IfErr, IfOk}
use Rattle.std.proofs.Common.{◌≡◌, ◌⊎◌, ◌∙◌, ap, sym, subst, refl, inl, inr, ℕ, ◌+◌, ◌-◌, ◌^◌, ◌≤◌, Bool, true, Result, Ok, Err, List, [], ◌∷◌, ◌++◌, length, take, drop, Option, length-append, arith}
use Rattle.std.specs.Io.KnownBytes.{Consumes, IsAtEnd, Keeps}
use Rattle.std.proofs.KnownBytes.{Appends-kept, Consumes-trans}
use Rattle.lpt_events.specs.declared.config.Config.{Config}
use Rattle.lpt_text.specs.declared.fault.StreamFault.{StreamFault}
use Rattle.lpt_text.specs.declared.fault.StreamFault.TheVariants as faults
use Rattle.lpt_text.specs.Streams.{ReadFails}
use Rattle.lpt_stream.specs.Pieces.{up_to_limit}
use Rattle.lpt_stream.specs.Streams.{all_octets}
use Rattle.lpt_spacecraft.specs.Flights.{Made, Packet, stretches_of}
use Rattle.lpt_spacecraft.specs.Fronts.{SearchFails, StandsSo}
use Rattle.lpt_spacecraft.specs.Streams.{length_of, plain, served_by, Answers, Breaks, BreaksOff, Flies, IsEndless, ReadsCut, ServesTo, StopsAt}
use Rattle.lpt_spacecraft.specs.Stretches.{Framed, stretch_octets}
use Rattle.lpt_spacecraft.specs.declared.pace.PaceCourse.{PaceCourse}
use Rattle.lpt_spacecraft.specs.declared.pace.Pace.{Pace}
use Rattle.lpt_spacecraft.specs.declared.spacecraft.Spacecraft.{Spacecraft}
use Rattle.lpt_spacecraft.specs.declared.stop.Stop.{Stop}
use Rattle.lpt_spacecraft.specs.declared.told.Told.{Told}
use Rattle.lpt_spacecraft.proofs.FoldLemmas.{stretches-next}
use Rattle.lpt_spacecraft.proofs.WritingLemmas.{none_lost}
use Rattle.lpt_spacecraft.proofs.EventLemmas.{asks-next, breaks-between, breaks-next, made_next, served-more, serves-all, Ends, IsServed}
use Rattle.lpt_spacecraft.proofs.SearchLemmas.{search-reader}
use Rattle.lpt_spacecraft.proofs.StretchLemmas.{cut-here, cut-whole, so-far-frame, IsCutSoFar}

-- so work ends with this
abbrev pub EndsWith : Pace → Result Stop StreamFault → (s t : Spacecraft) → Ends → Type 0
EndsWith pace r s t e =
    ServesTo pace r s t e.before e.after e.old e.new e.asked e.answered e.had e.has

-- what was written was passed on
kept-flies : (x : Made) (t : Spacecraft) (q : PaceCourse) (old new passed : Option (List ℕ))
    (had has : Option (List Told))
    → Flies x t q old new had has
    → Keeps new passed
    → Flies x t q old passed had has
kept-flies x t q old new passed had has h kept = record {
  flight = h.flight;
  written = Appends-kept old new passed (all_octets x.packets) h.written kept;
  told = h.told;
}

-- it stopped there, or the last octets couldn't be passed on
pub serve-stop : {step : Bool} (r : Result Stop StreamFault) (stop : Stop) (pace : Pace)
    (s t : Spacecraft)
    (q : PaceCourse) (e : Ends) (passed : Option (List ℕ)) (held : List ℕ) (ended : Bool)
    (count place : ℕ)
    → IfOk r (λ x. x ≡ stop)
    → IfErr r (λ e. e ≡ faults.Write)
    → (h : IsServed pace s t q e held ended step count place)
    → Keeps e.new passed
    → StopsAt pace.passing stop (length_of h.events) held e.after
    → EndsWith pace r s t (record e { new = passed })
serve-stop (Ok x) stop pace s t q e passed held ended count place is fault h kept at = (
  h.stream,
  h.events,
  held,
  none_lost e.before e.after h.stream h.consumed,
  cut-here pace.passing h.stream (stretches_of h.events) ended _ held h.cut,
  (
    subst (λ x. StopsAt pace.passing x (length_of h.events) held e.after) (sym is) at,
    serves-all pace s t q e.old passed e.asked e.answered e.had e.has h.events
        (kept-flies (served_by pace s h.events) t q e.old e.new passed e.had e.has h.flies kept)
        h.answers,
  ),
)
serve-stop (Err faults.Read) stop pace s t q e passed held ended count place is fault h kept at =
    absurd cc
serve-stop (Err faults.Write) stop pace s t q e passed held ended count place is fault h kept at = (
  h.stream,
  h.events,
  held,
  none_lost e.before e.after h.stream h.consumed,
  cut-here pace.passing h.stream (stretches_of h.events) ended _ held h.cut,
  breaks-between pace s t q e.old passed e.asked e.answered e.had e.has h.events
      (kept-flies (served_by pace s h.events) t q e.old e.new passed e.had e.has h.flies kept)
      h.answers,
)
serve-stop (Err faults.Memory) stop pace s t q e passed held ended count place is fault h kept at =
    absurd cc

-- no more came
pub serve-read : {step : Bool} (pace : Pace) (s t : Spacecraft) (q : PaceCourse) (e : Ends)
    (held : List ℕ)
    (ended : Bool) (count place : ℕ)
    → IsServed pace s t q e held ended step count place
    → EndsWith pace (Err faults.Read) s t e
serve-read pace s t q e held ended count place h = (
  h.stream,
  h.events,
  held,
  none_lost e.before e.after h.stream h.consumed,
  cut-here pace.passing h.stream (stretches_of h.events) ended _ held h.cut,
  serves-all pace s t q e.old e.new e.asked e.answered e.had e.has h.events h.flies h.answers,
)

-- a write failed
serve-write : {step : Bool} (pace : Pace) (s t : Spacecraft) (q : PaceCourse) (e : Ends)
    (held : List ℕ)
    (ended : Bool) (count place : ℕ)
    → IsServed pace s t q e held ended step count place
    → EndsWith pace (Err faults.Write) s t e
serve-write pace s t q e held ended count place h = (
  h.stream,
  h.events,
  held,
  none_lost e.before e.after h.stream h.consumed,
  cut-here pace.passing h.stream (stretches_of h.events) ended _ held h.cut,
  breaks-between pace s t q e.old e.new e.asked e.answered e.had e.has h.events h.flies h.answers,
)

-- octets were lost
serve-lost : {step : Bool} (pace : Pace) (s t : Spacecraft) (q : PaceCourse) (e : Ends)
    (d passed : Option (List ℕ))
    (held lost : List ℕ) (ended : Bool) (count place : ℕ)
    → IsServed pace s t q e held ended step count place
    → Consumes e.after d lost
    → Keeps e.new passed
    → EndsWith pace (Err faults.Memory) s t (record e { after = d; new = passed })
serve-lost pace s t q e d passed held lost ended count place h more kept = (
  lost,
  (
    h.stream,
    h.events,
    held,
    Consumes-trans e.before e.after d h.stream lost h.consumed more,
    cut-here pace.passing h.stream (stretches_of h.events) ended _ held h.cut,
    breaks-between pace s t q e.old passed e.asked e.answered e.had e.has h.events
        (kept-flies (served_by pace s h.events) t q e.old e.new passed e.had e.has h.flies kept)
        h.answers,
  ),
)

-- a read or a write failed before the next packet or in a run that is passed over
pub serve-fault : {step : Bool} (fault : StreamFault) (pace : Pace) (s t : Spacecraft)
    (q : PaceCourse) (e : Ends)
    (d passed : Option (List ℕ)) (held : List ℕ) (ended bad failed : Bool) (count place : ℕ)
    → SearchFails fault held ended e.after d bad failed
    → IsServed pace s t q e held ended step count place
    → Keeps e.new passed
    → EndsWith pace (Err fault) s t (record e { after = d; new = passed })
serve-fault faults.Read pace s t q e d passed held ended bad failed count place found h kept =
    serve-read pace s t q (record e { after = d; new = passed }) (held ++ found.0) ended count place
    (served-more pace s t q e d passed held found.0 (held ++ found.0) ended ended count place h
    found.1 (λ k. (k, found.2 k)) refl kept)
serve-fault faults.Write pace s t q e d passed held ended bad failed count place found h kept =
    serve-write pace s t q (record e { after = d; new = passed }) (held ++ found.0) ended count
    place
    (served-more pace s t q e d passed held found.0 (held ++ found.0) ended ended count place h
    found.1 (λ k. (k, found.2 k)) refl kept)
serve-fault faults.Memory pace s t q e d passed held ended bad failed count place found h kept =
    serve-lost pace s t q e d passed held found.0 ended count place h found.1 kept

broken : {step : Bool} (pace : Pace) (s mid t : Spacecraft) (q : PaceCourse) (c : Config) (e : Ends)
    (new answered : Option (List ℕ)) (held octets : List ℕ) (ended : Bool) (due count place len : ℕ)
    → IsServed pace s mid q e held ended step count place
    → c ≡ s.config
    → StandsSo pace.passing step ended held (Framed (take len held)) true (drop len held)
    → octets ≡ take len held
    → Answers pace.clocked e.answered answered (due ∷ [])
    → Breaks mid.memories (plain (made_next c q.pace mid q due octets)) t.memories e.new new
    → ReadsCut pace.passing e.before e.after []
    (λ events rest. BreaksOff pace s t e.old new e.asked answered e.had e.has events)
broken pace s mid t q c e new answered held octets ended due count place len h same front at asks
    broke =
    let x = Packet due (take len held) in (
      h.stream,
      h.events ++ x ∷ [],
      drop len held,
      none_lost e.before e.after h.stream h.consumed,
      cut-here pace.passing h.stream (stretches_of (h.events ++ x ∷ [])) ended true (drop len held)
          (subst (λ ss. IsCutSoFar pace.passing h.stream ss ended true (drop len held))
          (sym (stretches-next h.events x))
          (so-far-frame pace.passing h.stream (stretches_of h.events) ended ended _ true held
          (drop len held) len h.cut front refl refl refl)),
      breaks-next pace s mid t q c e.old e.new new e.asked answered e.had e.has h.events due
          (take len held) h.since_is h.pace_is same h.flies
          (subst (λ o. Breaks mid.memories (plain (made_next c q.pace mid q due o)) t.memories
          e.new new) at broke)
          (asks-next pace.clocked e.asked e.answered answered h.events due (take len held)
          h.answers asks),
    )

-- work broke off in the packet in front
pub serve-broken : {step : Bool} (fault : StreamFault) (pace : Pace) (s mid t : Spacecraft)
    (q : PaceCourse)
    (c : Config) (e : Ends) (new answered : Option (List ℕ)) (held octets : List ℕ)
    (ended : Bool) (due count place len : ℕ)
    → (fault ≡ faults.Write) ⊎ (fault ≡ faults.Memory)
    → IsServed pace s mid q e held ended step count place
    → c ≡ s.config
    → StandsSo pace.passing step ended held (Framed (take len held)) true (drop len held)
    → octets ≡ take len held
    → Answers pace.clocked e.answered answered (due ∷ [])
    → Breaks mid.memories (plain (made_next c q.pace mid q due octets)) t.memories e.new new
    → EndsWith pace (Err fault) s t (record e { new = new; answered = answered })
serve-broken faults.Read pace s mid t q c e new answered held octets ended due count place len
    (inl is) h same front at asks broke = absurd cc
serve-broken faults.Read pace s mid t q c e new answered held octets ended due count place len
    (inr is) h same front at asks broke = absurd cc
serve-broken faults.Write pace s mid t q c e new answered held octets ended due count place len is
    h same front at asks broke
    = broken pace s mid t q c e new answered held octets ended due count place len h same front at
    asks broke
serve-broken faults.Memory pace s mid t q c e new answered held octets ended due count place len is
    h same front at asks broke = (
      [],
      broken pace s mid t q c e new answered held octets ended due count place
          len h same front at asks broke,
    )

-- so many events came
pub endless : {step : Bool} (pace : Pace) (s t : Spacecraft) (q : PaceCourse) (e : Ends)
    (held : List ℕ)
    (ended : Bool) (count place : ℕ)
    → IsServed pace s t q e held ended step count place
    → count ≡ 2 ^ 64 - 1
    → IsEndless pace.passing t e.before e.after
endless pace s t q e held ended count place h most =
    inl (
      h.stream,
      h.events,
      held,
      none_lost e.before e.after h.stream h.consumed,
      cut-here pace.passing h.stream (stretches_of h.events) ended _ held h.cut,
      h.count_is ∙ most,
    )

-- what was read behind the rest of a stream was read behind the stream
pub grown : (stream held read front : List ℕ)
    → stream ≡ front ++ held
    → 18446744073709551615 ≤ length (held ++ read)
    → 18446744073709551615 ≤ length (stream ++ read)
grown stream held read front is many =
    let first : length stream ≡ length front + length held =
    ap length is ∙ length-append front held in
    let sum = length-append stream read in
    let part = length-append held read in
    omega (arith, first, sum, part, many)

-- how a fault leaves the reader that ends a search
pub serve-reader : {step : Bool} (fault : StreamFault) (pace : Pace) (s t : Spacecraft)
    (q : PaceCourse)
    (e : Ends) (d : Option (List ℕ)) (held : List ℕ) (ended first had failed : Bool)
    (count place : ℕ)
    → SearchFails fault held ended e.after d had failed
    → had ≡ first
    → IsServed pace s t q e held ended step count place
    → ReadFails (IsEndless pace.passing t e.before d) fault first failed
serve-reader fault pace s t q e d held ended first had failed count place found same h =
    search-reader (IsEndless pace.passing t e.before d) fault held ended e.after d first had failed
    found same
    (λ read came many. inr (inr (
      h.stream ++ read,
      Consumes-trans e.before e.after d h.stream read h.consumed came,
      grown h.stream held read (stretch_octets (stretches_of h.events))
          (cut-whole pace.passing h.stream (stretches_of h.events) ended _ held h.cut) many,
    )))
