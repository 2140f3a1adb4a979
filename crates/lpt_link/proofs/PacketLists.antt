-- The list of the link's packets, after one is put or lost.
use Rattle.std.proofs.Common.{◌≡◌, ℕ, zero, suc, ◌<◌, List, [], ◌∷◌, ◌++◌, length, slice_get, refl, ap, arith}
use Rattle.std.specs.Option.{option_map}
use Rattle.lpt_link.specs.declared.packet.LinkPacket.{LinkPacket}
use Rattle.lpt_link.specs.Links.{with_lost}

-- the packets before one that is put stay where they are
pub slice_get-push : (ps : List LinkPacket) (q : LinkPacket) (n : ℕ)
    → n < length ps
    → slice_get (ps ++ q ∷ []) n ≡ slice_get ps n
slice_get-push [] q n h = absurd (omega arith)
slice_get-push (p ∷ ps) q zero h = refl
slice_get-push (p ∷ ps) q (suc n) h = slice_get-push ps q n (omega arith)

-- as many packets as before a loss
pub length-with_lost : (ps : List LinkPacket) (n : ℕ) → length (with_lost ps n) ≡ length ps
length-with_lost [] n = refl
length-with_lost (p ∷ ps) zero = refl
length-with_lost (p ∷ ps) (suc n) = ap suc (length-with_lost ps n)

-- each goes where it went
pub goes_lost : (ps : List LinkPacket) (n m : ℕ)
    → option_map (λ p. p.direction) (slice_get (with_lost ps n) m)
    ≡ option_map (λ p. p.direction) (slice_get ps m)
goes_lost [] n m = refl
goes_lost (p ∷ ps) zero zero = refl
goes_lost (p ∷ ps) zero (suc m) = refl
goes_lost (p ∷ ps) (suc n) zero = refl
goes_lost (p ∷ ps) (suc n) (suc m) = goes_lost ps n m
