-- What a link counts of each transaction, before and after a call.
use Rattle.std.proofs.Common.{◌≡◌, ◌∙◌, refl, ap, ℕ, zero, suc, ◌+◌, Bool, true, false, cond, ◌&&◌, Option, Some, List, [], ◌∷◌, length, slice_get, get_or, arith}
use Rattle.std.specs.List.{count_by}
use Rattle.std.proofs.lemmas.Option.{slice_get_read}
use Rattle.std.proofs.lemmas.List.Sums.{sum_by-cons, sum_by_push}
use Rattle.lpt_packet.specs.Names.{Name}
use Rattle.lpt_packet.specs.declared.direction.Direction.{Direction}
use Rattle.lpt_link.specs.declared.packet.LinkPacket.{LinkPacket}
use Rattle.lpt_link.specs.Links.{LinkData, is_of, after_put, with_lost, after_lose, is_held}
use Rattle.lpt_link.specs.Counts.{one_of}
use Rattle.lpt_link.specs.LinksInside.{held_of}
use Rattle.lpt_link.proofs.HandLemmas.{found_within, held_mark}

-- the one link counts of the transaction with this tag one more than the other
abbrev pub IsMoved : Direction → Option Name → LinkData → LinkData → Type 0
IsMoved goes tag less more =
    (direction : Direction) (name : Name)
    → held_of more direction name ≡ held_of less direction name + one_of goes tag direction name

-- a packet that is put is one more of its transaction
pub put_counts : (d : LinkData) (goes : Direction) (tag : Option Name) (octets : List ℕ)
    → IsMoved goes tag d (after_put d goes tag octets)
put_counts d goes tag octets direction name =
    let q : LinkPacket = record { direction = goes; tag = tag; octets = octets; held = true } in
    sum_by_push (λ (p : LinkPacket). cond (p.held && is_of direction name p) 1 0) d.packets q

-- ---- a packet less

abbrev one_if : Bool → ℕ
one_if b = cond b 1 0

held_lost : (direction : Direction) (name : Name) (ps : List LinkPacket) (n : ℕ) (p : LinkPacket)
    → slice_get ps n ≡ Some p
    → p.held ≡ true
    → count_by (λ q. q.held && is_of direction name q) ps
    ≡ count_by (λ q. q.held && is_of direction name q) (with_lost ps n)
    + cond (is_of direction name p) 1 0
held_lost direction name [] n p e h = absurd cc
held_lost direction name (q ∷ ps) zero p e h =
    let worth : LinkPacket → ℕ = λ r. one_if (r.held && is_of direction name r) in
    let here : q ≡ p = cc in
    let one : worth q ≡ cond (is_of direction name p) 1 0 =
    ap worth here ∙ ap (λ (b : Bool). one_if (b && is_of direction name p)) h in
    let old = sum_by-cons worth q ps in
    let new = sum_by-cons worth (record q { held = false }) ps in
    omega (arith, old, new, one)
held_lost direction name (q ∷ ps) (suc n) p e h =
    let worth : LinkPacket → ℕ = λ r. one_if (r.held && is_of direction name r) in
    let rest = held_lost direction name ps n p e h in
    let old = sum_by-cons worth q ps in
    let new = sum_by-cons worth q (with_lost ps n) in
    omega (arith, old, new, rest)

-- a packet that is lost was one of its transaction
pub lose_counts : (d : LinkData) (n : ℕ) (p : LinkPacket)
    → p ≡ get_or d.packets n p
    → is_held d n ≡ true
    → IsMoved p.direction p.tag (after_lose d n) d
lose_counts d n p read held direction name =
    let within = found_within (λ q. q.held) d.packets n held in
    let e = slice_get_read d.packets (length d.packets) n p refl within read in
    held_lost direction name d.packets n p e (held_mark d n p e held)
