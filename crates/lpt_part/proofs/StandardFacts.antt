-- Worked values of the definitions, which compute.
use Rattle.std.proofs.Common.{◌≡◌, refl, [], ◌∷◌}
use Rattle.std.specs.Prelude.{Some, None}
use Rattle.lpt_part.specs.declared.kind.Kind.TheVariants.{Middle, Last}
use Rattle.lpt_part.specs.declared.reason.Reason.TheVariants.{Expired}
use Rattle.lpt_part.specs.Aborts.{abort_verdict, abort_in}
use Rattle.lpt_part.specs.Parts.{part_verdict, part_in}
use Rattle.lpt_part.specs.Splitting.{part_count, part_of, kind_at}

-- nine octets in parts of eight: the second part is the last octet
part_of-nine : part_of (0 ∷ 1 ∷ 2 ∷ 3 ∷ 4 ∷ 5 ∷ 6 ∷ 7 ∷ 8 ∷ []) 8 2 ≡ 8 ∷ []
part_of-nine = refl

-- the longest message has 8,193 parts of eight octets
part_count-longest : part_count 65542 8 ≡ 8193
part_count-longest = refl

-- the second of two parts is the last
kind_at-two : kind_at 2 2 ≡ Last
kind_at-two = refl

-- the last part of transaction 7, number 3, of four octets
part_in-last : part_in 8 Last (0 ∷ 7 ∷ 0 ∷ 3 ∷ 16 ∷ 17 ∷ 18 ∷ 19 ∷ [])
    ≡ Some record { id = 7; number = 3; kind = Last; octets = 16 ∷ 17 ∷ 18 ∷ 19 ∷ [] }
unfolding part_verdict
part_in-last = refl

-- the same octets are no intermediate part
part_in-middle : part_in 8 Middle (0 ∷ 7 ∷ 0 ∷ 3 ∷ 16 ∷ 17 ∷ 18 ∷ 19 ∷ []) ≡ None
unfolding part_verdict
part_in-middle = refl

-- transaction 7 has expired
abort_in-expired : abort_in (0 ∷ 7 ∷ 1 ∷ []) ≡ Some (7, Expired)
unfolding abort_verdict
abort_in-expired = refl

-- there is no reason 4
abort_in-four : abort_in (0 ∷ 7 ∷ 4 ∷ []) ≡ None
unfolding abort_verdict
abort_in-four = refl
