-- Numbers of four octets.
use Rattle.std.proofs.Common.{◌≡◌, ◌∙◌, ap, ℕ, ◌+◌, ◌*◌, ◌/◌, ◌%◌, ◌<◌, [], ◌∷◌, ◌++◌, bit_or, arith}
use Rattle.std.proofs.lemmas.Nat.{or_shifted}
use Rattle.lpt_packet.specs.Numbers.{be}

-- four octets are the spelling of their number
pub be-long : (w x y z : ℕ)
    → w < 256
    → x < 256
    → y < 256
    → z < 256
    → be (65536 * (256 * w + x) + (256 * y + z)) 4 ≡ w ∷ x ∷ y ∷ z ∷ []
be-long w x y z p q r s =
    let n = 65536 * (256 * w + x) + (256 * y + z) in
    let first : n / 16777216 % 256 ≡ w = omega arith in
    let second : n / 65536 % 256 ≡ x = omega arith in
    let third : n / 256 % 256 ≡ y = omega arith in
    let fourth : n % 256 ≡ z = omega arith in
    cc

-- two numbers of two octets, one above the other, are spelled one behind the other
pub be-joined : (a b : ℕ)
    → a < 65536
    → b < 65536
    → be (bit_or (a * 65536 % 4294967296) b) 4 ≡ be a 2 ++ be b 2
be-joined a b p q =
    let n = a * 65536 + b in
    let above : a * 65536 % 4294967296 ≡ a * 65536 = omega arith in
    let joined : bit_or (a * 65536 % 4294967296) b ≡ n =
    ap (λ (m : ℕ). bit_or m b) above ∙ or_shifted a 16 b q in
    let first : n / 16777216 % 256 ≡ a / 256 % 256 = omega arith in
    let second : n / 65536 % 256 ≡ a % 256 = omega arith in
    let third : n / 256 % 256 ≡ b / 256 % 256 = omega arith in
    let fourth : n % 256 ≡ b % 256 = omega arith in
    ap (λ (m : ℕ). be m 4) joined
    ∙ (λ i. first i ∷ second i ∷ third i ∷ fourth i ∷ [])
