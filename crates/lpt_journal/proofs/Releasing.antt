-- What a release is of, and that each was the only one of its opening.
use Rattle.std.proofs.Common.{◌≡◌, ◌∙◌, ap, sym, refl, ℕ, suc, ◌-◌, ◌<◌, ◌≤◌, Bool, true, false, not, ◌&&◌, inl, inr, ◌∷◌, length, drop, Option, Some, None, if◌then◌else◌, arith}
use Rattle.std.specs.List.{slice_get, find}
use Rattle.std.specs.Option.{option_or, option_and_then}
use Rattle.lpt_packet.specs.declared.direction.Direction.{Direction}
use Rattle.lpt_packet.specs.Names.{Name, same_name}
use Rattle.lpt_events.specs.Lanes.{lane_direction, same_direction}
use Rattle.lpt_events.specs.declared.config.Config.{Config}
use Rattle.lpt_acts.specs.Acts.{Act, Deliver, Expire, Retire}
use Rattle.lpt_events.specs.declared.reply.Answer.{Answer}
use Rattle.lpt_events.specs.declared.entry.Opening.{Opening}
use Rattle.lpt_events.specs.declared.entry.Release.{Release}
use Rattle.lpt_events.specs.Sides.{same_side, receiver_side}
use Rattle.lpt_journal.specs.Journal.{Recorded, History}
use Rattle.lpt_journal.specs.Senders.{is_opening_of, retires, current}
use Rattle.lpt_journal.specs.Receivers.{ends, closed_after, is_closed}
use Rattle.lpt_journal.specs.Releases.{released_by, releases}
use Rattle.lpt_journal.specs.Headline.{before, opening_of, AtMostOncePerOpening}
use Rattle.lpt_journal.proofs.TestLemmas.{IsOldOrNew, with_all_cases}
use Rattle.lpt_packet.proofs.BoolLemmas.{or_right}
use Rattle.lpt_memory.specs.Memories.{Contents}
use Rattle.lpt_journal.proofs.Steps.{IsSound, IsKnown, Owes}

-- ---- what an entry owes for what it releases

-- A release is of the message last opened under its transaction's name, whose reception was not
-- ended before and is by the release.
pub record IsReleaseOf (h : History) (x : Recorded) (r : Release)
    (t : Direction × Name) : Type 0 where
  pub opening : Opening
  pub is_current : current h t.0 t.1 ≡ Some opening
  pub is_message : r.message ≡ opening.message
  pub was_open : is_closed h t.0 t.1 ≡ false
  pub is_ended : is_closed (x ∷ h) t.0 t.1 ≡ true

-- at most one release, of this place, and a large one is of the message last opened under its name
pub record OwesReleases (c : Config) (h : History) (x : Recorded) : Type 0 where
  pub one : (k : ℕ) (r : Release) → slice_get (released_by c x h) k ≡ Some r → k ≡ 0
  pub place : (k : ℕ) (r : Release) → slice_get (released_by c x h) k ≡ Some r → r.place ≡ length h
  pub large : (k : ℕ) (r : Release) (t : Direction × Name)
      → slice_get (released_by c x h) k ≡ Some r
      → r.of ≡ Some t
      → IsReleaseOf h x r t

-- ---- what holds of past releases

-- the opening of a transaction before a place
abbrev pub opening_then : History → ℕ → Direction × Name → Option Opening
opening_then h place t = current (before place h) t.0 t.1

-- a large release is of its transaction's last opening at its place, which stands before now
pub record IsPast (h : History) (r : Release) (t : Direction × Name) : Type 0 where
  pub place_fits : r.place < length h
  pub opening : Opening
  pub is_current : opening_then h r.place t ≡ Some opening
  pub is_message : r.message ≡ opening.message
  pub same_direction : opening.direction ≡ t.0
  pub same_name : opening.name ≡ t.1
  pub was_before : opening.place < length h

-- each large release is past, its transaction is closed until opened again, and openings differ
pub record ArePast (c : Config) (h : History) : Type 0 where
  pub each : (k : ℕ) (r : Release) (t : Direction × Name)
      → slice_get (releases c h) k ≡ Some r
      → r.of ≡ Some t
      → IsPast h r t
  pub closed : (k : ℕ) (r : Release) (t : Direction × Name) (o u : Opening)
      → slice_get (releases c h) k ≡ Some r
      → r.of ≡ Some t
      → opening_then h r.place t ≡ Some o
      → current h t.0 t.1 ≡ Some u
      → u.place ≡ o.place
      → is_closed h t.0 t.1 ≡ true
  pub once : AtMostOncePerOpening c h

-- ---- places

-- what stood before an old place stands before it still
pub before_old : (h : History) (x : Recorded) (place : ℕ)
    → place ≤ length h
    → before place (x ∷ h) ≡ before place h
before_old h x place within =
    let e : suc (length h) - place ≡ suc (length h - place) =
    omega arith in ap (λ n. drop n (x ∷ h)) e

-- all of the history stood before the newest place
pub before_new : (h : History) (x : Recorded) (place : ℕ)
    → place ≡ length h
    → before place (x ∷ h) ≡ h
before_new h x place e =
    let one : suc (length h) - place ≡ 1 = omega arith in ap (λ n. drop n (x ∷ h)) one

-- the opening of a release is that of its transaction
pub opening_is : (h : History) (r : Release) (t : Direction × Name)
    → r.of ≡ Some t
    → opening_of h r ≡ opening_then h r.place t
opening_is h r t e = ap (option_and_then (λ t. current (before r.place h) t.0 t.1)) e

-- a release with an opening is a large one
pub is_large : (h : History) (r : Release) (o : Opening)
    → opening_of h r ≡ Some o
    → (t : Direction × Name) × (r.of ≡ Some t)
is_large h r o e = go r.of refl e where
  go : (f : Option (Direction × Name))
      → r.of ≡ f
      → option_and_then (λ t. current (before r.place h) t.0 t.1) f ≡ Some o
      → (t : Direction × Name) × (r.of ≡ Some t)
  go None is k = absurd cc
  go (Some t) is k = (t, is)

-- ---- ended receptions

closed_after_stays : (e : Act) (a : Answer) (d : Direction) (name : Name)
    → ¬ (retires e d name ≡ true)
    → closed_after e a d name true ≡ true
closed_after_stays (Deliver l) a d name stays =
    or_right (same_direction (lane_direction l) d && ends a name) true refl
closed_after_stays (Expire side which) a d name stays =
    or_right (same_side side (receiver_side d) && ends a name) true refl
closed_after_stays (Retire e i) a d name
    stays = go (same_direction e d && same_name i name) stays where
      go : (t : Bool) → ¬ (t ≡ true) → (not t && true) ≡ true
      go true other = absurd (other refl)
      go false other = refl
closed_after_stays e a d name stays = refl

-- a closed transaction stays closed while it isn't retired
pub closed_stays : (h : History) (x : Recorded) (d : Direction) (name : Name)
    → is_closed h d name ≡ true
    → ¬ (retires x.event d name ≡ true)
    → is_closed (x ∷ h) d name ≡ true
closed_stays h x d name e stays =
    ap (closed_after x.event x.reply.answer d name) e
    ∙ closed_after_stays x.event x.reply.answer d name stays

-- an opening that is the last one and not the newest was the last one before, and isn't retired
pub was_current : (c : Config) (h : History) (x : Recorded) (d : Direction) (name : Name)
    (u : Opening)
    → Owes c h x
    → current (x ∷ h) d name ≡ Some u
    → u.place < length h
    → (current h d name ≡ Some u) × (¬ (retires x.event d name ≡ true))
was_current c h x d name u owes e older =
    go (retires x.event d name) (find (is_opening_of d name) x.opens) refl refl e where
      go : (b : Bool) (f : Option Opening)
          → retires x.event d name ≡ b
          → find (is_opening_of d name) x.opens ≡ f
          → ◌≡◌ {A = Option Opening} (if b then None else option_or f (current h d name)) (Some u)
          → (current h d name ≡ Some u) × (¬ (retires x.event d name ≡ true))
      go true f r i k = absurd cc
      go false (Some v) r i k =
          let place : v.place ≡ length h = (owes.opens d name v i).place in
          let same : v ≡ u = cc in
          let at : u.place ≡ length h = ap (λ (w : Opening). w.place) (sym same) ∙ place in
          absurd (omega arith)
      go false None r i k = (k, λ yes. cc)

-- ---- the steps

pub new_past : (c : Config) (h : History) (x : Recorded) (r : Release) (t : Direction × Name)
    → IsSound c h
    → r.place ≡ length h
    → IsReleaseOf h x r t
    → IsPast (x ∷ h) r t
new_past c h x r t sound place of =
    let known : IsKnown c h t.0 t.1 of.opening = sound.openings t.0 t.1 of.opening of.is_current in
    record {
      place_fits = omega arith;
      opening = of.opening;
      is_current = ap (λ g. current g t.0 t.1) (before_new h x r.place place) ∙ of.is_current;
      is_message = of.is_message;
      same_direction = known.same_direction;
      same_name = known.same_name;
      was_before = omega (arith, known.place_fits);
    }

pub old_past : (h : History) (x : Recorded) (r : Release) (t : Direction × Name)
    → IsPast h r t
    → IsPast (x ∷ h) r t
old_past h x r t p = record {
  place_fits = omega (arith, p.place_fits);
  opening = p.opening;
  is_current =
      ap (λ g. current g t.0 t.1) (before_old h x r.place (omega (arith, p.place_fits)))
      ∙ p.is_current;
  is_message = p.is_message;
  same_direction = p.same_direction;
  same_name = p.same_name;
  was_before = omega (arith, p.was_before);
}

-- each large release is past after an entry
pub each_step : (c : Config) (h : History) (x : Recorded)
    → IsSound c h
    → OwesReleases c h x
    → ArePast c h
    → (k : ℕ) (r : Release) (t : Direction × Name)
    → slice_get (releases c (x ∷ h)) k ≡ Some r
    → r.of ≡ Some t
    → IsPast (x ∷ h) r t
each_step c h x sound owes past k r t e of =
    go (with_all_cases (releases c h) (released_by c x h) k r e) where
      go : IsOldOrNew (releases c h) (released_by c x h) k r
          → IsPast (x ∷ h) r t
      go (inl old) = old_past h x r t (past.each k r t old of)
      go (inr fresh) =
          new_past c h x r t sound (owes.place fresh.0 r fresh.2)
          (owes.large fresh.0 r t fresh.2 of)

-- a released transaction is closed after an entry, until it is opened again
pub closed_step : (c : Config) (first : Contents) (h : History) (x : Recorded)
    → Owes c h x
    → IsSound c h
    → OwesReleases c h x
    → ArePast c h
    → (k : ℕ) (r : Release) (t : Direction × Name) (o u : Opening)
    → slice_get (releases c (x ∷ h)) k ≡ Some r
    → r.of ≡ Some t
    → opening_then (x ∷ h) r.place t ≡ Some o
    → current (x ∷ h) t.0 t.1 ≡ Some u
    → u.place ≡ o.place
    → is_closed (x ∷ h) t.0 t.1 ≡ true
closed_step c first h x pays sound owes past k r t o u e of was now at =
    go (with_all_cases (releases c h) (released_by c x h) k r e) where
      go : IsOldOrNew (releases c h) (released_by c x h) k r
          → is_closed (x ∷ h) t.0 t.1 ≡ true
      go (inl old) =
          let p = past.each k r t old of in
          let first : opening_then h r.place t ≡ Some o =
          ap (λ g. current g t.0 t.1) (sym (before_old h x r.place (omega (arith, p.place_fits))))
          ∙ was in
          let same : p.opening ≡ o =
          let is : opening_then h r.place t ≡ Some p.opening = p.is_current in cc in
          let older : u.place < length h =
          let q : p.opening.place ≡ o.place =
          ap (λ (v : Opening). v.place) same in omega (arith, p.was_before) in
          let w = was_current c h x t.0 t.1 u pays now older in
          closed_stays h x t.0 t.1 (past.closed k r t o u old of first w.0 at) w.1
      go (inr fresh) = (owes.large fresh.0 r t fresh.2 of).is_ended
