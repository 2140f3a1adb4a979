-- Lists of octets: what is cut out of them.
use Rattle.std.proofs.Common.{ℕ, zero, suc, ◌+◌, List, [], ◌∷◌, take, drop, arith}
use Rattle.std.proofs.lemmas.List.{get_or-drop}
use Rattle.lpt_packet.specs.Numbers.{IsOctets}

pub IsOctets-take : (n : ℕ) (b : List ℕ) → IsOctets b → IsOctets (take n b)
IsOctets-take zero b o i = omega arith
IsOctets-take (suc n) [] o i = omega arith
IsOctets-take (suc n) (x ∷ b) o zero = o 0
IsOctets-take (suc n) (x ∷ b) o (suc i) = IsOctets-take n b (λ j. o (suc j)) i

pub IsOctets-drop : (n : ℕ) (b : List ℕ) → IsOctets b → IsOctets (drop n b)
IsOctets-drop n b o i = rw get_or-drop (o (n + i))
