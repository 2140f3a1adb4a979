-- Octets that are read ahead, and given.
use Rattle.std.proofs.Common.{◌≡◌, ◌∙◌, ap, sym, ℕ, ◌≤◌, ◌<◌, min, List, ◌++◌, length, take, drop, Option, Some, None, arith, append_assoc, length-append, length-drop, length-take, take-append-drop}
use Rattle.std.specs.Io.KnownBytes.{Consumes, Keeps, prepend_known}
use Rattle.std.proofs.Math.Seq.{take-append-le, take-take}

-- octets that a source gave are held behind the others
pub known-more : (a b : Option (List ℕ)) (h xs k : List ℕ)
    → Consumes a b xs
    → k ≡ h ++ xs
    → Keeps (prepend_known h a) (prepend_known k b)
known-more None b h xs k came is = tt
known-more (Some x) None h xs k came is = absurd came
known-more (Some x) (Some y) h xs k came is =
    ap (λ f. f ++ y) is ∙ append_assoc h xs y ∙ ap (λ r. h ++ r) (sym came)

-- octets that are held are given from the front
pub known-given : (a : Option (List ℕ)) (h k xs : List ℕ) (n : ℕ)
    → xs ≡ take n h
    → k ≡ drop n h
    → Consumes (prepend_known h a) (prepend_known k a) xs
known-given None h k xs n front rest = tt
known-given (Some x) h k xs n front rest =
    ap (λ f. f ++ x) (sym (take-append-drop n h) ∙ ap (λ f. f ++ drop n h) (sym front)
    ∙ ap (λ r. xs ++ r) (sym rest))
    ∙ append_assoc xs k x

-- a front part that was copied is one of what is held
pub copied-front : (held buf copied : List ℕ) (n : ℕ)
    → copied ≡ take n held
    → n ≤ length held
    → take n (copied ++ drop n buf) ≡ take n held
copied-front held buf copied n is within =
    let size : length copied ≡ n = ap length is
    ∙ (let cut = length-take n held in omega (arith, cut, within)) in
    take-append-le n copied (drop n buf) (omega (arith, size))
    ∙ ap (take n) is
    ∙ take-take n n held (omega arith)

-- where octets are held and there is room, some are given
pub none-given : (held buf copied : List ℕ) (n : ℕ)
    → length copied ≡ length (take n buf)
    → 0 < length held
    → n ≡ min (length held) (length buf)
    → n ≡ 0
    → 0 < length (copied ++ drop n buf)
    → ⊥
none-given held buf copied n size some least zero room =
    let all = length-append copied (drop n buf) in
    let rest = length-drop n buf in
    let front = length-take n buf in
    omega (arith, all, rest, front, size, some, least, zero, room)
