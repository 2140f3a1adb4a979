-- What may be handed over is held on the link: what is put stays held until it is lost.
use Rattle.std.proofs.Common.{◌≡◌, ◌∙◌, ap, sym, subst, refl, ℕ, zero, suc, ◌==◌, Bool, true, false, ◌&&◌, if◌then◌else◌, List, [], ◌∷◌, ◌++◌, length, Option, Some, None}
use Rattle.std.specs.Option.{option_map, option_eq}
use Rattle.std.specs.Prelude.{slice_get, not, cond}
use Rattle.lpt_packet.specs.declared.direction.Direction.{Direction}
use Rattle.lpt_packet.specs.Names.{Name, same_name}
use Rattle.lpt_events.specs.Lanes.{same_direction}
use Rattle.lpt_events.specs.declared.lane.Lane.{Lane}
use Rattle.lpt_link.specs.declared.packet.LinkPacket.{LinkPacket}
use Rattle.lpt_link.specs.Links.{LinkData, hand_of, is_of, after_put, with_lost}
use Rattle.lpt_model.specs.State.{put_all}
use Rattle.lpt_apart.specs.Ends.{PutOut, put_out, is_part, without}
use Rattle.lpt_packet.proofs.BoolLemmas.{same_suc, suc_zero, zero_suc}

-- ---- held

-- a packet of these is held, and is what was put out
pub record IsHeldAs (packets : List LinkPacket) (p : PutOut) : Type 0 where
  pub number : ℕ
  pub packet : LinkPacket
  pub there : slice_get packets number ≡ Some packet
  pub held : packet.held ≡ true
  pub direction : packet.direction ≡ p.direction
  pub tag : packet.tag ≡ p.part_of
  pub octets : packet.octets ≡ p.octets

-- all that was put out is held
abbrev pub AllHeld : List LinkPacket → List PutOut → Type 0
AllHeld packets [] = Unit {0}
AllHeld packets (p ∷ ps) = IsHeldAs packets p × AllHeld packets ps

-- what stands at a place is held
pub held_at : (packets : List LinkPacket) (ps : List PutOut) (k : ℕ) (p : PutOut)
    → AllHeld packets ps
    → slice_get ps k ≡ Some p
    → IsHeldAs packets p
held_at packets [] k p all e = absurd cc
held_at packets (q ∷ ps) zero p all e =
    let same : q ≡ p = cc in subst (λ (r : PutOut). IsHeldAs packets r) same all.0
held_at packets (q ∷ ps) (suc k) p all e = held_at packets ps k p all.1 e

-- ---- putting

get_before : {A : Type 0} (xs : List A) (y : A) (n : ℕ) (x : A)
    → slice_get xs n ≡ Some x
    → slice_get (xs ++ y ∷ []) n ≡ Some x
get_before [] y n x e = absurd cc
get_before (z ∷ xs) y zero x e = e
get_before (z ∷ xs) y (suc n) x e = get_before xs y n x e

get_last : {A : Type 0} (xs : List A) (y : A) → slice_get (xs ++ y ∷ []) (length xs) ≡ Some y
get_last [] y = refl
get_last (z ∷ xs) y = get_last xs y

held_longer : (packets : List LinkPacket) (q : LinkPacket) (ps : List PutOut)
    → AllHeld packets ps
    → AllHeld (packets ++ q ∷ []) ps
held_longer packets q [] all = tt
held_longer packets q (p ∷ ps) all = (
  record {
    number = all.0.number;
    packet = all.0.packet;
    there = get_before packets q all.0.number all.0.packet all.0.there;
    held = all.0.held;
    direction = all.0.direction;
    tag = all.0.tag;
    octets = all.0.octets;
  },
  held_longer packets q ps all.1,
)

-- packets that are put are held
pub put_held : (v : LinkData) (ps : List PutOut) (d : Direction) (tag : Option Name)
    (bs : List (List ℕ))
    → AllHeld v.packets ps
    → AllHeld (put_all v d tag bs).packets (put_out ps d tag bs)
put_held v ps d tag [] all = all
put_held v ps d tag (b ∷ bs) all =
    let q : LinkPacket = record { direction = d; tag = tag; octets = b; held = true } in
    let p : PutOut = record { direction = d; part_of = tag; octets = b } in
    let new : IsHeldAs (v.packets ++ q ∷ []) p =
    record {
      number = length v.packets;
      packet = q;
      there = get_last v.packets q;
      held = refl;
      direction = refl;
      tag = refl;
      octets = refl;
    } in
    put_held (after_put v d tag b) (p ∷ ps) d tag bs (new, held_longer v.packets q ps all)

-- putting changes no hand
pub put_hands : (v : LinkData) (d : Direction) (tag : Option Name) (bs : List (List ℕ)) (l : Lane)
    → hand_of (put_all v d tag bs) l ≡ hand_of v l
put_hands v d tag [] l = refl
put_hands v d tag (b ∷ bs) l = put_hands (after_put v d tag b) d tag bs l

-- ---- losing

-- a packet that is held no more
abbrev pub unheld : LinkPacket → LinkPacket
unheld p = record p { held = false }

-- the packet of a number is lost, and the others are as they were
pub get_lost : (xs : List LinkPacket) (n k : ℕ)
    → slice_get (with_lost xs n) k
    ≡ (if k == n then option_map unheld (slice_get xs k) else slice_get xs k)
get_lost [] n k = none (k == n) where
  none : (t : Bool) → ◌≡◌ {A = Option LinkPacket} None (if t then None else None)
  none true = refl
  none false = refl
get_lost (p ∷ xs) zero zero = refl
get_lost (p ∷ xs) zero (suc k) =
    sym (ap (λ t. if t then option_map unheld (slice_get xs k) else slice_get xs k) (suc_zero k))
get_lost (p ∷ xs) (suc n) zero =
    sym (ap (λ t. if t then Some (unheld p) else Some p) (zero_suc n))
get_lost (p ∷ xs) (suc n) (suc k) =
    get_lost xs n k
    ∙ sym (ap (λ t. if t then option_map unheld (slice_get xs k) else slice_get xs k)
    (same_suc k n))

-- ---- retiring

-- a packet that is held as one that was put out is a part where that is one
pub of_as : (packets : List LinkPacket) (p : PutOut) (h : IsHeldAs packets p) (d : Direction)
    (name : Name)
    → is_of d name h.packet ≡ is_part d name p
of_as packets p h d name i =
    same_direction (h.direction i) d && option_eq same_name (h.tag i) (Some name)

-- what was put out and is no part of a transaction is held still where no other packet was lost
pub held_without : (old new : List LinkPacket) (d : Direction) (name : Name) (ps : List PutOut)
    → ((k : ℕ) (p : LinkPacket) → slice_get old k ≡ Some p → is_of d name p ≡ false
    → slice_get new k ≡ Some p)
    → AllHeld old ps
    → AllHeld new (without d name ps)
held_without old new d name [] kept all = tt
held_without old new d name (p ∷ ps) kept all =
    go (is_part d name p) refl (held_without old new d name ps kept all.1) where
      go : (t : Bool)
          → is_part d name p ≡ t
          → AllHeld new (without d name ps)
          → AllHeld new (cond (not t) (p ∷ without d name ps) (without d name ps))
      go true e rest = rest
      go false e rest = (
        record {
          number = all.0.number;
          packet = all.0.packet;
          there = kept all.0.number all.0.packet all.0.there (of_as old p all.0 d name ∙ e);
          held = all.0.held;
          direction = all.0.direction;
          tag = all.0.tag;
          octets = all.0.octets;
        },
        rest,
      )
