-- What waits and what was executed is ground's, by what was due.
use Rattle.std.proofs.Common.{◌≡◌, ◌∙◌, ap, sym, subst, refl, ℕ, zero, suc, Bool, true, false, if◌then◌else◌, ◌⊎◌, inl, inr, List, [], ◌∷◌, ◌++◌, take, drop, Option, Some, None}
use Rattle.std.specs.List.{slice_get}
use Rattle.lpt_packet.specs.declared.direction.Direction.{Direction}
use Rattle.lpt_packet.specs.declared.direction.Direction.TheVariants.{Up}
use Rattle.lpt_packet.specs.Names.{Name, same_name}
use Rattle.lpt_packet.proofs.BoolLemmas.{and_left}
use Rattle.lpt_events.specs.Lanes.{same_direction}
use Rattle.lpt_events.specs.declared.side.Side.TheVariants.{Ground, Craft}
use Rattle.lpt_events.proofs.LaneLemmas.{same_direction-true}
use Rattle.lpt_journal.specs.Jobs.{went_up}
use Rattle.lpt_journal.proofs.TestLemmas.{place_in, no_place}
use Rattle.lpt_acts.specs.Acts.{Execute, Refuse, Drop}
use Rattle.lpt_apart.specs.Ends.{Fact, Opened, Asked, Released, Aborted, Left, Retired, Restarted, Log, is_same}
use Rattle.lpt_apart.specs.TwoEnds.{message_awaited, waiting, requests_executed, IsDue, AllDue}
use Rattle.lpt_passes.specs.Asked.{IsOfGroundIn, ExecutedWasAsked}

-- what was ground's is so after a fact
grounds_later : (x : Fact) (log : Log) (m : List ℕ) → IsOfGroundIn log m → IsOfGroundIn (x ∷ log) m
grounds_later x log m (inl a) = inl (suc a.0, a.1)
grounds_later x log m (inr o) = inr (suc o.0, o.1, o.2)

-- an awaited message was opened
pub awaited_opened : (to : Direction) (log : Log) (name : Name) (m : List ℕ)
    → message_awaited log to name ≡ Some m
    → (k : ℕ) × (name : Name) × (slice_get log k ≡ Some (Opened to name m))
awaited_opened to [] name m e = absurd cc
awaited_opened to (x ∷ log) name m e = go x refl e (awaited_opened to log name m) where
  later : (k : ℕ) × (name : Name) × (slice_get log k ≡ Some (Opened to name m))
      → (k : ℕ) × (name : Name) × (slice_get (x ∷ log) k ≡ Some (Opened to name m))
  later it = (suc it.0, it.1, it.2)

  kept : (b : Bool)
      → ◌≡◌ {A = Option (List ℕ)} (if b then None else message_awaited log to name) (Some m)
      → message_awaited log to name ≡ Some m
  kept true k = absurd cc
  kept false k = k

  go : (y : Fact)
      → x ≡ y
      → ◌≡◌ {A = Option (List ℕ)} (message_awaited (y ∷ log) to name) (Some m)
      → (message_awaited log to name ≡ Some m
      → (k : ℕ) × (name : Name) × (slice_get log k ≡ Some (Opened to name m)))
      → (k : ℕ) × (name : Name) × (slice_get (x ∷ log) k ≡ Some (Opened to name m))
  go (Opened d i n) is k rest = at (is_same d i to name) refl k where
    at : (b : Bool)
        → is_same d i to name ≡ b
        → ◌≡◌ {A = Option (List ℕ)} (if b then Some n else message_awaited log to name) (Some m)
        → (k : ℕ) × (name : Name) × (slice_get (x ∷ log) k ≡ Some (Opened to name m))
    at true t k =
        let same : n ≡ m = cc in
        let way : d ≡ to =
        same_direction-true d to (and_left (same_direction d to) (same_name i name) t) in
        (0, i, ap Some is ∙ (λ j. Some (Opened (way j) i (same j))))
    at false t k = later (rest k)
  go (Asked b) is k rest = later (rest k)
  go (Released of n) is k rest = later (rest (kept _ k))
  go (Aborted d i) is k rest = later (rest (kept _ k))
  go (Left how) is k rest = later (rest k)
  go (Retired d i) is k rest = later (rest (kept _ k))
  go (Restarted side) is k rest = later (rest k)

-- what is released and goes up is ground's
released_grounds : (of : Option (Direction × Name)) (m : List ℕ) (log : Log)
    → went_up of ≡ true
    → IsDue (Released of m) log
    → IsOfGroundIn log m
released_grounds None m log up due = inl (place_in log (Asked m) due)
released_grounds (Some t) m log up due =
    let way : t.0 ≡ Up = same_direction-true t.0 Up up in
    inr (awaited_opened Up log t.1 m (ap (λ d. message_awaited log d t.1) (sym way) ∙ due))

-- ---- lists

in_front : {A : Type 0} (xs ys : List A) (k : ℕ) (y : A)
    → slice_get (xs ++ ys) k ≡ Some y
    → ((j : ℕ) × (slice_get xs j ≡ Some y)) ⊎ ((j : ℕ) × (slice_get ys j ≡ Some y))
in_front [] ys k y e = inr (k, e)
in_front (x ∷ xs) ys zero y e = inl (0, e)
in_front (x ∷ xs) ys (suc k) y e = more (in_front xs ys k y e) where
  more : ((j : ℕ) × (slice_get xs j ≡ Some y)) ⊎ ((j : ℕ) × (slice_get ys j ≡ Some y))
      → ((j : ℕ) × (slice_get (x ∷ xs) j ≡ Some y)) ⊎ ((j : ℕ) × (slice_get ys j ≡ Some y))
  more (inl a) = inl (suc a.0, a.1)
  more (inr b) = inr b

fewer : {A : Type 0} (ws : List A) (k : ℕ) (m : A)
    → slice_get (drop 1 ws) k ≡ Some m
    → (j : ℕ) × (slice_get ws j ≡ Some m)
fewer [] k m f = absurd (no_place k m f)
fewer (w ∷ ws) k m f = (suc k, f)

first : {A : Type 0} (ws : List A) (k : ℕ) (m : A)
    → slice_get (take 1 ws) k ≡ Some m
    → slice_get ws k ≡ Some m
first [] k m f = f
first (w ∷ ws) zero m f = f
first (w ∷ ws) (suc k) m f = absurd (no_place k m f)

only : {A : Type 0} (n : A) (k : ℕ) (m : A) → slice_get (n ∷ []) k ≡ Some m → n ≡ m
only n zero m f = cc
only n (suc k) m f = absurd (no_place k m f)

-- ---- what waits

-- each of these is ground's
abbrev AreGrounds : Log → List (List ℕ) → Type 0
AreGrounds log ms = (k : ℕ) (m : List ℕ) → slice_get ms k ≡ Some m → IsOfGroundIn log m

-- what is released waits, where it came up
released_waits : (of : Option (Direction × Name)) (n : List ℕ) (log : Log) (k : ℕ) (m : List ℕ)
    (b : Bool)
    → went_up of ≡ b
    → IsDue (Released of n) log
    → AreGrounds log (waiting log)
    → slice_get (if b then waiting log ++ n ∷ [] else waiting log) k ≡ Some m
    → IsOfGroundIn log m
released_waits of n log k m false t due had f = had k m f
released_waits of n log k m true t due had f =
    elim (in_front (waiting log) (n ∷ []) k m f) [
      | inl a ↦ had a.0 m a.1
      | inr b ↦
          subst (λ c. IsOfGroundIn log c) (only n b.0 m b.1) (released_grounds of n log t due)
    ]

waits_after : (x : Fact) (log : Log) (k : ℕ) (m : List ℕ)
    → IsDue x log
    → AreGrounds log (waiting log)
    → slice_get (waiting (x ∷ log)) k ≡ Some m
    → IsOfGroundIn log m
waits_after (Opened d i n) log k m due had f = had k m f
waits_after (Asked b) log k m due had f = had k m f
waits_after (Released of n) log k m due had f =
    released_waits of n log k m (went_up of) refl due had f
waits_after (Aborted d i) log k m due had f = had k m f
waits_after (Left how) log k m due had f =
    let it = fewer (waiting log) k m f in had it.0 m it.1
waits_after (Retired d i) log k m due had f = had k m f
waits_after (Restarted Ground) log k m due had f = had k m f
waits_after (Restarted Craft) log k m due had f = absurd (no_place k m f)

waiting_grounds : (log : Log) → AllDue log → AreGrounds log (waiting log)
waiting_grounds [] all k m e = absurd (no_place k m e)
waiting_grounds (x ∷ log) all k m e =
    grounds_later x log m (waits_after x log k m all.1 (waiting_grounds log all.0) e)

-- ---- what was executed

done_after : (x : Fact) (log : Log) (k : ℕ) (m : List ℕ)
    → AreGrounds log (waiting log)
    → AreGrounds log (requests_executed log)
    → slice_get (requests_executed (x ∷ log)) k ≡ Some m
    → IsOfGroundIn log m
done_after (Opened d i n) log k m waits had f = had k m f
done_after (Asked b) log k m waits had f = had k m f
done_after (Released of n) log k m waits had f = had k m f
done_after (Aborted d i) log k m waits had f = had k m f
done_after (Left Execute) log k m waits had f =
    elim (in_front (requests_executed log) (take 1 (waiting log)) k m f) [
      | inl a ↦ had a.0 m a.1
      | inr b ↦ waits b.0 m (first (waiting log) b.0 m b.1)
    ]
done_after (Left (Refuse code)) log k m waits had f = had k m f
done_after (Left Drop) log k m waits had f = had k m f
done_after (Retired d i) log k m waits had f = had k m f
done_after (Restarted side) log k m waits had f = had k m f

executed_grounds : (log : Log) → AllDue log → AreGrounds log (requests_executed log)
executed_grounds [] all k m e = absurd (no_place k m e)
executed_grounds (x ∷ log) all k m e =
    grounds_later x log m
    (done_after x log k m (waiting_grounds log all.0) (executed_grounds log all.0) e)

pub executed_was_asked : ExecutedWasAsked
executed_was_asked log k m all e = executed_grounds log all k m e
