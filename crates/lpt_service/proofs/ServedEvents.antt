-- Openings, freed names and expiries are steps of the service.
use Rattle.std.proofs.Common.{◌≡◌, ◌∙◌, ap, refl, ℕ, ◌≤◌, Bool, true, false, not, ◌&&◌, ◌||◌, if◌then◌else◌, List, [], ◌∷◌, ◌++◌, length, map, Option, Some, None}
use Rattle.std.specs.List.{slice_get, find}
use Rattle.std.specs.Option.{is_some, option_or}
use Rattle.lpt_packet.specs.declared.direction.Direction.{Direction}
use Rattle.lpt_packet.specs.Names.{Name, same_name}
use Rattle.lpt_packet.proofs.NameLemmas.{same_name-refl}
use Rattle.lpt_packet.proofs.BoolLemmas.{not_false}
use Rattle.lpt_memory.specs.Memories.{Contents}
use Rattle.lpt_events.specs.Lanes.{same_direction}
use Rattle.lpt_events.specs.Sides.{direction_to}
use Rattle.lpt_events.specs.declared.config.Config.{Config}
use Rattle.lpt_events.specs.declared.entry.Opening.{Opening}
use Rattle.lpt_events.specs.declared.entry.Release.{Release}
use Rattle.lpt_events.specs.declared.fault.StepFault.TheVariants.{NotOpen, StillOpen, NotClear}
use Rattle.lpt_events.specs.declared.side.Side.{Side}
use Rattle.lpt_events.proofs.LaneLemmas.{same_direction-refl}
use Rattle.lpt_acts.specs.Acts.{Act, Open, Expire, Retire}
use Rattle.lpt_journal.specs.Abortions.{Abortion, abortion_at}
use Rattle.lpt_journal.specs.Clear.{is_clear}
use Rattle.lpt_journal.specs.Due.{given_up}
use Rattle.lpt_journal.specs.Headline.{WasAsked}
use Rattle.lpt_journal.specs.Jobs.{jobs, jobs_applied}
use Rattle.lpt_journal.specs.Journal.{Recorded, History}
use Rattle.lpt_journal.specs.Receivers.{closed_after, is_closed}
use Rattle.lpt_journal.specs.Refusals.{refusal, expiry_fault}
use Rattle.lpt_journal.specs.Replies.{expired_now, entry}
use Rattle.lpt_journal.specs.Releases.{released_by}
use Rattle.lpt_journal.specs.Senders.{is_opening_of, current, sender, sender_of, is_free, is_open, is_over}
use Rattle.lpt_service.specs.Served.{slot_of, view, steps}
use Rattle.lpt_service.specs.Service as service
use Rattle.lpt_journal.proofs.AbortionOwed.{IsAbortionOf}
use Rattle.lpt_journal.proofs.Releasing.{IsReleaseOf, OwesReleases}
use Rattle.lpt_journal.proofs.Steps.{IsSound}
use Rattle.lpt_journal.proofs.TestLemmas.{one_passes, three_pass}
use Rattle.lpt_service.proofs.SeenLemmas.{over_now, opened_now, freed_now, stands, named_so, received_there}

-- ---- each event

-- what is known of a history before an event that can happen, and of the event
pub record IsKnown (c : Config) (first : Contents) (h : History) (e : Act) : Type 0 where
  pub can : refusal c h e ≡ None
  pub sound : IsSound c h
  pub free : (d : Direction) (name : Name) → current h d name ≡ None → is_closed h d name ≡ false
  pub opens : (d : Direction) (name : Name) (o : Opening)
      → find (is_opening_of d name) (entry c first h e).opens ≡ Some o
      → current h d name ≡ None
  pub frees : OwesReleases c h (entry c first h e)
  pub aborts : (j : ℕ) (a : Abortion)
      → slice_get (abortion_at (length h) e (entry c first h e).reply.answer) j ≡ Some a
      → IsAbortionOf c h (entry c first h e) a
  pub asked : (k : ℕ) (r : Release)
      → slice_get (released_by c (entry c first h e) h) k ≡ Some r
      → r.of ≡ None
      → WasAsked c h r.message
  pub applied_fits : jobs_applied h ≤ length (jobs c h)

-- an event makes steps that can happen, and that lead to what is seen after it
abbrev pub Serves : Config → Contents → History → Act → Type 0
Serves c first h e =
    let x = entry c first h e in
    service.IsRun c.apid (view c first h) (steps c x h) (view c first (x ∷ h))

-- the opening of a name that is free
pub opened_slot : (h : History) (o : Opening)
    → is_closed h o.direction o.name ≡ false
    → (e : Direction) (other : Name)
    → slot_of (option_or (find (is_opening_of e other) (o ∷ [])) (current h e other))
    (is_closed h e other)
    ≡ service.with_slot o.direction o.name (service.Opened o.message)
    (λ d name. slot_of (current h d name) (is_closed h d name)) e other
opened_slot h o still e other =
    opened_now (current h e other) o (same_direction o.direction e && same_name o.name other)
    (is_closed h e other)
    (λ is. named_so (is_closed h) o.direction e o.name other is ∙ still)

pub found_itself : (o : Opening) → find (is_opening_of o.direction o.name) (o ∷ []) ≡ Some o
found_itself o = λ j.
    if (same_direction-refl o.direction j && same_name-refl o.name j) then Some o else None

pub serves_open : (c : Config) (first : Contents) (h : History) (d : Direction) (name : Name)
    (m : List ℕ)
    → IsKnown c first h (Open d name m)
    → Serves c first h (Open d name m)
serves_open c first h d name m known =
    let o : Opening = record { place = length h; direction = d; name = name; message = m } in
    let none = known.opens d name o (found_itself o) in (
      ap (λ w. slot_of w (is_closed h d name)) none,
      λ j. record (view c first h) {
        names = λ e other. opened_slot h o (known.free d name none) e other j;
      },
    )

not_free : (o : Option Opening) (over : Bool)
    → is_free (sender_of o over) ≡ false
    → is_some o ≡ true
not_free None over is = absurd cc
not_free (Some o) over is = refl

pub serves_retire : (c : Config) (first : Contents) (h : History) (d : Direction) (name : Name)
    → IsKnown c first h (Retire d name)
    → Serves c first h (Retire d name)
serves_retire c first h d name known =
    let t =
    three_pass (is_free (sender h d name)) (is_open (sender h d name)) (not (is_clear c h d name))
    NotOpen StillOpen NotClear known.can in (
      stands (current h d name) (is_closed h d name)
          (not_free (current h d name) (is_over h d name) t.0),
      λ j. record (view c first h) {
        names = λ e other. freed_now (current h e other)
            (same_direction d e && same_name name other) (is_closed h e other) j;
      },
    )

-- a reception that is given up
pub ended_slot : (h : History) (d : Direction) (name : Name) (o : Opening)
    → current h d name ≡ Some o
    → (e : Direction) (other : Name)
    → slot_of (current h e other)
    ((same_direction d e && same_name name other) || is_closed h e other)
    ≡ service.with_slot d name service.Over
    (λ d name. slot_of (current h d name) (is_closed h d name)) e other
ended_slot h d name o was e other =
    over_now (current h e other) (same_direction d e && same_name name other) (is_closed h e other)
    (λ is. (o, named_so (current h) d e name other is ∙ was))

-- what stands under a name whose message can be released
pub can_release : (h : History) (x : Recorded) (r : Release) (d : Direction) (name : Name)
    → (of : IsReleaseOf h x r (d, name))
    → slot_of (current h d name) (is_closed h d name) ≡ service.Opened of.opening.message
can_release h x r d name of = λ j. slot_of (of.is_current j) (of.was_open j)

pub serves_expire : (c : Config) (first : Contents) (h : History) (side : Side)
    (which : Option Name)
    → IsKnown c first h (Expire side which)
    → Serves c first h (Expire side which)
serves_expire c first h side which known =
    go (given_up c h d which) refl
    (not_false (is_some (given_up c h d which))
    (one_passes (not (is_some (given_up c h d which))) (expiry_fault which) known.can)) where
      d : Direction
      d = direction_to side

      go : (o : Option Name)
          → given_up c h (direction_to side) which ≡ o
          → is_some o ≡ true
          → service.IsRun c.apid (view c first h)
          (map (λ (e : Abortion). service.GiveUp e.direction e.name)
          (abortion_at (length h) (Expire side which) (expired_now (direction_to side) o))
          ++ [] ++ [])
          (record (view c first h) {
            names = λ e other. slot_of (current h e other)
                (closed_after (Expire side which) (expired_now (direction_to side) o) e other
                (is_closed h e other));
          })
      go None is some = absurd cc
      go (Some name) is some =
          let a : Abortion =
          record { place = length h; direction = direction_to side; name = name } in
          let it = known.aborts 0 a
          (ap (λ o. slice_get (abortion_at (length h) (Expire side which)
          (expired_now (direction_to side) o)) 0) is) in
          let of = it.ends_it in (
            (of.opening.message, can_release h _ _ (direction_to side) name of),
            λ j. record (view c first h) {
              names = λ e other. (
                  (λ i. slot_of (current h e other)
                  ((received_there side e i && same_name name other) || is_closed h e other))
                  ∙ ended_slot h (direction_to side) name of.opening of.is_current e other) j;
            },
          )
