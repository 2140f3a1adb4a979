-- A field that is read is the field that was written, and what was written is read again.
use Rattle.std.proofs.Common.{◌≡◌, ◌∙◌, ap, sym, subst, refl, ℕ, suc, ◌+◌, ◌*◌, ◌^◌, ◌<◌, ◌≤◌, ◌==◌, nat_lt, Bool, true, false, if◌then◌else◌, List, [], ◌∷◌, ◌++◌, length, take, drop, Option, Some, None, append_assoc, arith}
use Rattle.std.proofs.lemmas.Bool.{ltb-false, le-ltb}
use Rattle.std.proofs.lemmas.Bool.Decides.{nat_tests}
use Rattle.std.proofs.lemmas.List.{take_at, drop_at, take-append-drop, length-append, length-take}
use Rattle.lpt_packet.specs.Numbers.{be, word_at, IsOctets}
use Rattle.lpt_packet.proofs.Codec.{word_cells, word_of_be}
use Rattle.lpt_packet.proofs.OctetLists.{IsOctets-drop}
use Rattle.lpt_pus.specs.Numbers.{long_at}
use Rattle.lpt_pus.proofs.LongLemmas.{be-long}
use Rattle.lpt_memory.specs.Fields.{◌>>=◌, front_octet, front_word, front_long, front_octets}

-- ---- steps

-- the value of a step that did not fail
pub bind_some : {A B : Type 0} (o : Option A) (f : A → Option B) (y : B)
    → (o >>= f) ≡ Some y
    → (x : A) × (o ≡ Some x) × (f x ≡ Some y)
bind_some (Some x) f y e = (x, refl, e)
bind_some None f y e = absurd cc

-- a test that did not fail
pub guard_some : {A : Type 0} (b : Bool) (o : Option A) (y : A)
    → (if b then None else o) ≡ Some y
    → (b ≡ false) × (o ≡ Some y)
guard_some true o y e = absurd cc
guard_some false o y e = (refl, e)

pub some_is : {A : Type 0} (x y : A) → Some x ≡ Some y → x ≡ y
some_is x y e = cc

-- what a reader took from the front
pub record Takes (octets text rest : List ℕ) : Type 0 where
  pub parts : octets ≡ text ++ rest
  pub rest_fits : IsOctets rest

pub Takes-then : (a x b y c : List ℕ) → Takes a x b → Takes b y c → Takes a (x ++ y) c
Takes-then a x b y c p q = record {
  parts = p.parts ∙ ap (λ (t : List ℕ). x ++ t) q.parts ∙ sym (append_assoc x y c);
  rest_fits = q.rest_fits;
}

-- ---- numbers

pub octet_takes : (octets : List ℕ) (x : ℕ × List ℕ)
    → IsOctets octets
    → front_octet octets ≡ Some x
    → Takes octets (x.0 ∷ []) x.1 × (x.0 < 256)
octet_takes [] x o e = absurd cc
octet_takes (a ∷ rest) x o e =
    let g = guard_some (nat_lt (length (a ∷ rest)) 1) (Some (a, rest)) x e in
    subst (λ (p : ℕ × List ℕ). Takes (a ∷ rest) (p.0 ∷ []) p.1 × (p.0 < 256))
    (some_is (a, rest) x g.1)
    (record { parts = refl; rest_fits = λ i. o (suc i) }, o 0)

pub octet_again : (x : ℕ) (rest : List ℕ) → front_octet (x ∷ rest) ≡ Some (x, rest)
octet_again x rest =
    let long : nat_lt (length (x ∷ rest)) 1 ≡ false = le-ltb _ _ (omega arith) in
    rw long refl

pub word_takes : (octets : List ℕ) (x : ℕ × List ℕ)
    → IsOctets octets
    → front_word octets ≡ Some x
    → Takes octets (be x.0 2) x.1 × (x.0 < 2 ^ 16)
word_takes [] x o e = absurd cc
word_takes (a ∷ []) x o e = absurd cc
word_takes (a ∷ b ∷ rest) x o e =
    let g = guard_some (nat_lt (length (a ∷ b ∷ rest)) 2) (Some (256 * a + b, rest)) x e in
    let cells : be (256 * a + b) 2 ≡ a ∷ b ∷ [] = word_cells a b (o 0) (o 1) in
    subst (λ (p : ℕ × List ℕ). Takes (a ∷ b ∷ rest) (be p.0 2) p.1 × (p.0 < 2 ^ 16))
    (some_is (256 * a + b, rest) x g.1) (
      record {
        parts = ap (λ (w : List ℕ). w ++ rest) (sym cells);
        rest_fits =
            λ i. o (suc (suc i));
      },
      omega (arith, o 0, o 1),
    )

pub word_again : (n : ℕ) (rest : List ℕ) → n < 2 ^ 16 → front_word (be n 2 ++ rest) ≡ Some (n, rest)
word_again n rest h =
    let long : nat_lt (length (be n 2 ++ rest)) 2 ≡ false = le-ltb _ _ (omega arith) in
    let value : word_at (be n 2 ++ rest) 0 ≡ n = word_of_be n rest (omega arith) in
    ap (λ (b : Bool). if b then None else Some (word_at (be n 2 ++ rest) 0, rest)) long
    ∙ ap (λ (k : ℕ). Some (k, rest)) value

pub long_takes : (octets : List ℕ) (x : ℕ × List ℕ)
    → IsOctets octets
    → front_long octets ≡ Some x
    → Takes octets (be x.0 4) x.1 × (x.0 < 2 ^ 32)
long_takes [] x o e = absurd cc
long_takes (a ∷ []) x o e = absurd cc
long_takes (a ∷ b ∷ []) x o e = absurd cc
long_takes (a ∷ b ∷ c ∷ []) x o e = absurd cc
long_takes (a ∷ b ∷ c ∷ d ∷ rest) x o e =
    let n = 65536 * (256 * a + b) + (256 * c + d) in
    let g = guard_some (nat_lt (length (a ∷ b ∷ c ∷ d ∷ rest)) 4) (Some (n, rest)) x e in
    let cells : be n 4 ≡ a ∷ b ∷ c ∷ d ∷ [] = be-long a b c d (o 0) (o 1) (o 2) (o 3) in
    subst (λ (p : ℕ × List ℕ). Takes (a ∷ b ∷ c ∷ d ∷ rest) (be p.0 4) p.1 × (p.0 < 2 ^ 32))
    (some_is (n, rest) x g.1) (
      record {
        parts = ap (λ (w : List ℕ). w ++ rest) (sym cells);
        rest_fits =
            λ i. o (suc (suc (suc (suc i))));
      },
      omega (arith, o 0, o 1, o 2, o 3),
    )

pub long_again : (n : ℕ) (rest : List ℕ) → n < 2 ^ 32 → front_long (be n 4 ++ rest) ≡ Some (n, rest)
long_again n rest h =
    let long : nat_lt (length (be n 4 ++ rest)) 4 ≡ false = le-ltb _ _ (omega arith) in
    let value : long_at (be n 4 ++ rest) 0 ≡ n = omega arith in
    ap (λ (b : Bool). if b then None else Some (long_at (be n 4 ++ rest) 0, rest)) long
    ∙ ap (λ (k : ℕ). Some (k, rest)) value

-- ---- octets

pub octets_take : (n : ℕ) (octets : List ℕ) (x : List ℕ × List ℕ)
    → IsOctets octets
    → front_octets n octets ≡ Some x
    → Takes octets x.0 x.1 × (length x.0 ≡ n) × (0 < n)
octets_take n octets x o e =
    let some = guard_some (n == 0)
    (if nat_lt (length octets) n then None else Some (take n octets, drop n octets)) x e in
    let g = guard_some (nat_lt (length octets) n) (Some (take n octets, drop n octets)) x some.1 in
    let zero_test : (n == 0) ≡ false = some.0 in
    let above : 0 < n = grind (arith, nat_tests) in
    let within : n ≤ length octets = ltb-false _ _ g.0 in
    subst (λ (p : List ℕ × List ℕ). Takes octets p.0 p.1 × (length p.0 ≡ n) × (0 < n))
    (some_is (take n octets, drop n octets) x g.1) (
      record { parts = sym (take-append-drop n octets); rest_fits = IsOctets-drop n octets o },
      omega (arith, length-take n octets),
      above,
    )

pub octets_again : (octets rest : List ℕ) → 0 < length octets
    → front_octets (length octets) (octets ++ rest) ≡ Some (octets, rest)
octets_again octets rest h =
    let n = length octets in
    let some : (n == 0) ≡ false = grind (arith, nat_tests) in
    let long : nat_lt (length (octets ++ rest)) n
    ≡ false = le-ltb _ _ (omega (arith, length-append octets rest)) in
    rw (some, long, take_at octets rest n refl, drop_at octets rest n refl) refl
