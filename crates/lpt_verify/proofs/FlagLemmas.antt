-- A flag of a sum of flags, by its bit and by division.
use Rattle.std.proofs.Common.{◌≡◌, ℕ, ◌^◌, ◌/◌, ◌%◌, ◌==◌, bit_and, nat_eq, arith, inl, inr}
use mathlib.Core.Bool.{not}
use Rattle.std.proofs.lemmas.Nat.{bit_set_by_shift, and_mask}
use Rattle.std.proofs.lemmas.Grind.{common_steps}
use Rattle.lpt_verify.specs.Reports.{IsFlag, asks}

-- a bit is set exactly where the number, divided by the bit's value, is odd
bit_by_division : (n k : ℕ) → not (nat_eq (bit_and n (2 ^ k)) 0) ≡ (n / 2 ^ k % 2 == 1)
bit_by_division n k =
    let odd : bit_and (n / 2 ^ k) 1 ≡ n / 2 ^ k % 2 = and_mask (n / 2 ^ k) 1 in
    let set = bit_set_by_shift n k in
    grind (arith, common_steps, odd, set)

-- each flag is a bit
pub flag_by_division : (flags flag : ℕ)
    → IsFlag flag
    → not (nat_eq (bit_and flags flag) 0) ≡ asks flags flag
flag_by_division flags flag (inl is_1) = rw is_1 (bit_by_division flags 0)
flag_by_division flags flag (inr (inl is_2)) = rw is_2 (bit_by_division flags 1)
flag_by_division flags flag (inr (inr is_8)) = rw is_8 (bit_by_division flags 3)
