-- A stream that is named by itself.
use Rattle.std.proofs.Common.{refl, ℕ, List, Option, Some, None}
use Rattle.lpt_ground_run.specs.Handing.{IsNamed}

pub named-itself : (octets : Option (List ℕ)) (longest : ℕ) → IsNamed octets longest octets longest
named-itself None longest = tt
named-itself (Some all) longest = (refl, refl)
