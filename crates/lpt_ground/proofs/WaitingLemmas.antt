-- The first request that waits, and what is settled from there on.
use Rattle.std.proofs.Common.{◌≡◌, refl, ℕ, ◌+◌, ◌≤◌, ◌&&◌, Bool, true, false, not, List, drop, Option, Some, None, arith}
use Rattle.std.specs.List.{position, position_or_len, slice_get}
use Rattle.lpt_pus.specs.Telemetry.{Telemetry}
use Rattle.lpt_ground.specs.declared.asked.Asked.{Asked}
use Rattle.lpt_ground.specs.declared.telling.Said.{Said}
use Rattle.lpt_ground.specs.declared.telling.Said.TheVariants as said
use Rattle.lpt_ground.specs.Telling.{fate_by, request_fated, is_waiting, settles, waits}
use Rattle.lpt_ground.proofs.PlaceLemmas.{position-Some_from, position-None_from, prefix_len-set_more, prefix_len-weaker}

-- ---- what is settled

not-settled : (starts : Bool) (t : Telemetry) (a : Asked)
    → not (is_waiting a) ≡ true
    → not (settles starts t a) ≡ true
not-settled starts t a h = no (is_waiting a) _ h
  where
    no : (b c : Bool) → not b ≡ true → not (b && c) ≡ true
    no true c is = absurd cc
    no false c is = refl

-- no request in front of the first that waits is settled
front-settles : (starts : Bool) (t : Telemetry) (xs : List Asked) (from : ℕ)
    → from ≤ position_or_len is_waiting xs
    → from ≤ position_or_len (settles starts t) xs
front-settles starts t xs from front =
    omega (
      arith,
      front,
      prefix_len-weaker (λ a. not (is_waiting a)) (λ a. not (settles starts t a)) xs
          (not-settled starts t),
    )

pub settles-from : (starts : Bool) (t : Telemetry) (xs : List Asked) (from k : ℕ)
    → from ≤ position_or_len is_waiting xs
    → position (settles starts t) (drop from xs) ≡ Some k
    → position (settles starts t) xs ≡ Some (from + k)
settles-from starts t xs from k front is =
    position-Some_from (settles starts t) xs from k (front-settles starts t xs from front) is

pub settles-nowhere : (starts : Bool) (t : Telemetry) (xs : List Asked) (from : ℕ)
    → from ≤ position_or_len is_waiting xs
    → position (settles starts t) (drop from xs) ≡ None
    → position (settles starts t) xs ≡ None
settles-nowhere starts t xs from front is =
    position-None_from (settles starts t) xs from (front-settles starts t xs from front) is

-- ---- what waits once one of them is settled

settled-waits : (f : Said) (o : List ℕ) → not (waits (fate_by f o)) ≡ true
settled-waits said.Done o = refl
settled-waits (said.Failed code) o = refl

fated-front : (xs : List Asked) (k : ℕ) (f : Said) (o : List ℕ) (a : Option Asked) (from : ℕ)
    → from ≤ position_or_len is_waiting xs
    → from ≤ position_or_len is_waiting (request_fated xs k (fate_by f o) a)
fated-front xs k f o None from front = front
fated-front xs k f o (Some a) from front =
    omega (
      arith,
      front,
      prefix_len-set_more (λ x. not (is_waiting x)) xs k
          (record a { fate = fate_by f o }) (settled-waits f o),
    )

-- none in front of the first that waited waits then
pub fated-first : (xs : List Asked) (k : ℕ) (f : Said) (o : List ℕ) (from : ℕ)
    → from ≡ position_or_len is_waiting xs
    → from ≤ position_or_len is_waiting (request_fated xs k (fate_by f o) (slice_get xs k))
fated-first xs k f o from first =
    fated-front xs k f o (slice_get xs k) from (omega (arith, first))
