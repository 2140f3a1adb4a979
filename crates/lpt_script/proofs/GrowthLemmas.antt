-- What was written stays, whatever is written behind it.
use Rattle.std.proofs.Common.{ℕ, List, ◌++◌, Option}
use Rattle.std.proofs.KnownBytes.{Appends-trans}
use Rattle.lpt_script.specs.Ends.{Grows}

pub grows_on : (a b c : Option (List ℕ)) → Grows a b → Grows b c → Grows a c
grows_on a b c p q = (p.0 ++ q.0, Appends-trans a b c p.0 q.0 p.1 q.1)
