-- What an option that was made of a result says of it.
use Rattle.std.proofs.Common.{◌≡◌, Result, Ok, Err}
use Rattle.std.specs.Prelude.{Some}
use Rattle.std.specs.Result.{result_ok}

-- a result whose value is there is `Ok`
pub result_ok-some : {X E : Type 0} (r : Result X E) (x : X) → result_ok r ≡ Some x → r ≡ Ok x
result_ok-some (Ok y) x h = cc
result_ok-some (Err e) x h = absurd cc
