-- What a link keeps of its packets shows them, after one is put or lost.
use Rattle.std.proofs.Common.{◌≡◌, ◌∙◌, refl, ap, sym, subst, ℕ, zero, suc, ◌<◌, true, false, Option, Some, None, List, [], ◌∷◌, ◌++◌, length, get_or, set, slice_get, arith}
use Rattle.std.specs.List.{All}
use Rattle.std.specs.Option.{option_map}
use Rattle.std.proofs.lemmas.List.{map-append}
use Rattle.std.proofs.lemmas.Option.{slice_get_within, get_or_from_slice_get}
use Rattle.lpt_link.specs.declared.packet.Head.{Head}
use Rattle.lpt_link.specs.declared.packet.LinkPacket.{LinkPacket}
use Rattle.lpt_link.specs.declared.packets.Kept.{Kept}
use Rattle.lpt_link.specs.Links.{LinkData, after_lose, with_lost}
use Rattle.lpt_link.specs.Packets.{head_of}
use Rattle.lpt_link.specs.PacketsInside.{packet_of, packets_of, IsThere, Keeps}
use Rattle.lpt_link.proofs.CountLemmas.{IsMoved, lose_counts}

-- ---- one is put or lost

rest_there : (octets : List ℕ) (apart : List (List ℕ)) (k : Kept) (ks : List Kept)
    → All (λ j. IsThere octets apart j.place) (k ∷ ks)
    → All (λ j. IsThere octets apart j.place) ks
rest_there octets apart k ks all i d h = all (suc i) d (omega (arith, h))

-- they are the same where what was at their places is there still
pub packets_keep : (octets : List ℕ) (apart : List (List ℕ))
    (now : List ℕ) (now_apart : List (List ℕ))
    → Keeps octets apart now now_apart
    → (ks : List Kept) → All (λ k. IsThere octets apart k.place) ks
    → packets_of now now_apart ks ≡ packets_of octets apart ks
packets_keep octets apart now now_apart keeps [] all = refl
packets_keep octets apart now now_apart keeps (k ∷ ks) all =
    let here : IsThere octets apart k.place = all 0 k (omega arith) in
    let same = (keeps k.place here).1 in
    let shown : List ℕ → LinkPacket = λ o. record {
      direction = k.head.direction;
      tag = k.head.tag;
      octets = o;
      held = k.head.held;
    } in
    ap (λ (o : List ℕ). shown o ∷ packets_of now now_apart ks) same
    ∙ ap (λ (rest : List LinkPacket). packet_of octets apart k ∷ rest)
    (packets_keep octets apart now now_apart keeps ks (rest_there octets apart k ks all))

-- and each is still there
pub all_keep : (octets : List ℕ) (apart : List (List ℕ))
    (now : List ℕ) (now_apart : List (List ℕ))
    → Keeps octets apart now now_apart
    → (ks : List Kept) → All (λ k. IsThere octets apart k.place) ks
    → All (λ k. IsThere now now_apart k.place) ks
all_keep octets apart now now_apart keeps ks all i d h = (keeps (get_or ks i d).place (all i d h)).0

-- one that is put comes last
pub packets_push : (octets : List ℕ) (apart : List (List ℕ))
    (now : List ℕ) (now_apart : List (List ℕ))
    → Keeps octets apart now now_apart
    → (ks : List Kept) (k : Kept) (p : LinkPacket) → All (λ j. IsThere octets apart j.place) ks
    → packet_of now now_apart k ≡ p
    → packets_of now now_apart (ks ++ k ∷ []) ≡ packets_of octets apart ks ++ p ∷ []
packets_push octets apart now now_apart keeps ks k p all is =
    map-append (packet_of now now_apart) ks (k ∷ [])
    ∙ ap (λ (before : List LinkPacket). before ++ packet_of now now_apart k ∷ [])
    (packets_keep octets apart now now_apart keeps ks all)
    ∙ ap (λ (last : LinkPacket). packets_of octets apart ks ++ last ∷ []) is

-- one that is lost is no longer marked
pub packets_lose : (octets : List ℕ) (apart : List (List ℕ)) (ks : List Kept) (n : ℕ) (k : Kept)
    → k ≡ get_or ks n k
    → packets_of octets apart (set ks n (record k { head = record k.head { held = false } }))
    ≡ with_lost (packets_of octets apart ks) n
packets_lose octets apart [] n k is = refl
packets_lose octets apart (j ∷ ks) zero k is =
    ap (λ (i : Kept). packet_of octets apart (record i { head = record i.head { held = false } })
    ∷ packets_of octets apart ks) is
packets_lose octets apart (j ∷ ks) (suc n) k is =
    ap (λ (rest : List LinkPacket). packet_of octets apart j ∷ rest)
    (packets_lose octets apart ks n k is)

-- ---- what is kept besides octets

found_by : (o : Option LinkPacket) (h : Head)
    → Some h ≡ option_map head_of o
    → (p : LinkPacket) × (o ≡ Some p) × (h ≡ head_of p)
found_by None h e = absurd cc
found_by (Some p) h e = (p, refl, cc)

-- a packet of which there is something has its number
pub head_within : (ps : List LinkPacket) (n : ℕ) (h : Head)
    → Some h ≡ option_map head_of (slice_get ps n)
    → n < length ps
head_within ps n h e =
    let found = found_by (slice_get ps n) h e in
    slice_get_within ps n found.0 found.1

-- one that is held and then lost was one of its transaction
pub head_moved : (d : LinkData) (n : ℕ) (h : Head)
    → Some h ≡ option_map head_of (slice_get d.packets n)
    → h.held ≡ true
    → IsMoved h.direction h.tag (after_lose d n) d
head_moved d n h e held =
    let found = found_by (slice_get d.packets n) h e in
    let p : LinkPacket = found.0 in
    let read = sym (get_or_from_slice_get d.packets n p p found.1) in
    let marked : p.held ≡ true = ap (λ (g : Head). g.held) (sym found.2) ∙ held in
    subst (λ (g : Head). IsMoved g.direction g.tag (after_lose d n) d) (sym found.2)
    (lose_counts d n p read (rw found.1 marked))
