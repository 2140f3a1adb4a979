-- What a world's link can still deliver may be handed over to two ends, or isn't read.
use Rattle.std.proofs.Common.{◌≡◌, ◌∙◌, ap, sym, subst, refl, ℕ, zero, suc, ◌==◌, Bool, true, false, not, ◌&&◌, ◌||◌, ◌⊎◌, inl, inr, if◌then◌else◌, List, [], ◌∷◌, Option, Some, None}
use Rattle.std.specs.Option.{option_map, option_map_or, option_and_then, option_eq}
use Rattle.std.specs.Prelude.{slice_get, cond}
use Rattle.lpt_packet.specs.declared.direction.Direction.{Direction}
use Rattle.lpt_packet.specs.Names.{Name, same_name}
use Rattle.lpt_events.specs.Arrivals.{NotRead, arrival_in}
use Rattle.lpt_events.specs.Lanes.{same_direction}
use Rattle.lpt_events.specs.declared.config.Config.{Config}
use Rattle.lpt_events.specs.declared.lane.Lane.{Lane}
use Rattle.lpt_events.specs.declared.lane.Lane.TheVariants.{S1, S2, G1, G2}
use Rattle.lpt_link.specs.declared.packet.LinkPacket.{LinkPacket}
use Rattle.lpt_link.specs.Links.{LinkData, is_of, hand_of, hand_has, any_held, any_in_hand, holds, is_held, after_put, after_lose, after_take, after_drop}
use Rattle.lpt_model.specs.State.{put_all}
use Rattle.lpt_journal.proofs.Events.{only_element}
use Rattle.lpt_journal.proofs.TestLemmas.{IsOldOrNew, with_all_cases}
use Rattle.lpt_packet.proofs.BoolLemmas.{or_false_left, or_false_right}
use Rattle.lpt_apart.specs.Ends.{PutOut, put_out, is_part, without}
use Rattle.lpt_apart.proofs.Links.{unheld, get_lost}
use Rattle.lpt_apart.proofs.Silence.{none_there}

-- ---- what may be handed over

-- a packet that was put out goes so, is a part of this and has these octets
pub record IsAs (q : PutOut) (d : Direction) (tag : Option Name) (b : List ℕ) : Type 0 where
  pub direction : q.direction ≡ d
  pub part : q.part_of ≡ tag
  pub octets : q.octets ≡ b

-- one that does may be handed over still
abbrev pub IsOut : List PutOut → Direction → Option Name → List ℕ → Type 0
IsOut [] d tag b = ⊥
IsOut (q ∷ qs) d tag b = IsAs q d tag b ⊎ IsOut qs d tag b

-- where it stands
pub record IsOutAt (ways : List PutOut) (d : Direction) (tag : Option Name)
    (b : List ℕ) : Type 0 where
  pub place : ℕ
  pub packet : PutOut
  pub there : slice_get ways place ≡ Some packet
  pub is : IsAs packet d tag b

-- what may be handed over stands at a place
pub out_at : (ways : List PutOut) (d : Direction) (tag : Option Name) (b : List ℕ)
    → IsOut ways d tag b
    → IsOutAt ways d tag b
out_at [] d tag b out = absurd out
out_at (q ∷ qs) d tag b (inl is) =
    record { place = zero; packet = q; there = refl; is = is }
out_at (q ∷ qs) d tag b (inr out) =
    let at = out_at qs d tag b out in
    record { place = suc at.place; packet = at.packet; there = at.there; is = at.is }

-- a packet of the link may be handed over still, or isn't read
abbrev pub IsHad : Config → List PutOut → LinkPacket → Type 0
IsHad c ways p = IsOut ways p.direction p.tag p.octets
    ⊎ (arrival_in c p.direction p.octets ≡ NotRead)

-- a packet is held, or in some lane's hand
abbrev pub IsLive : LinkData → ℕ → LinkPacket → Type 0
IsLive v n p = (p.held ≡ true) ⊎ ((l : Lane) × (hand_of v l ≡ Some n))

-- all that a link can still deliver is had
abbrev pub AllHad : Config → LinkData → List PutOut → Type 0
AllHad c v ways =
    (n : ℕ) (p : LinkPacket) → slice_get v.packets n ≡ Some p → IsLive v n p → IsHad c ways p

-- ---- putting

had_more : (c : Config) (q : PutOut) (ways : List PutOut) (p : LinkPacket)
    → IsHad c ways p
    → IsHad c (q ∷ ways) p
had_more c q ways p (inl out) = inl (inr out)
had_more c q ways p (inr unread) = inr unread

-- a packet that is put is had where it is this
pub had_one : (c : Config) (v : LinkData) (ways new : List PutOut) (d : Direction)
    (tag : Option Name) (b : List ℕ)
    → AllHad c v ways
    → ((p : LinkPacket) → IsHad c ways p → IsHad c new p)
    → IsHad c new (record { direction = d; tag = tag; octets = b; held = true })
    → AllHad c (after_put v d tag b) new
had_one c v ways new d tag b all more this n p at live =
    let q : LinkPacket = record { direction = d; tag = tag; octets = b; held = true } in
    go q this (with_all_cases v.packets (q ∷ []) n p at) where
      go : (q : LinkPacket)
          → IsHad c new q
          → IsOldOrNew v.packets (q ∷ []) n p
          → IsHad c new p
      go q this (inl old) = more p (all n p old live)
      go q this (inr fresh) =
          subst (λ (r : LinkPacket). IsHad c new r) (only_element q fresh.0 p fresh.2) this

-- packets that are put may be handed over
pub had_put : (c : Config) (v : LinkData) (ways : List PutOut) (d : Direction) (tag : Option Name)
    (bs : List (List ℕ))
    → AllHad c v ways
    → AllHad c (put_all v d tag bs) (put_out ways d tag bs)
had_put c v ways d tag [] all = all
had_put c v ways d tag (b ∷ bs) all =
    let q : PutOut = record { direction = d; part_of = tag; octets = b } in
    had_put c (after_put v d tag b) (q ∷ ways) d tag bs
    (had_one c v ways (q ∷ ways) d tag b all (had_more c q ways)
    (inl (inl (record { direction = refl; part = refl; octets = refl }))))

-- ---- losing, taking and delivering

-- where a packet is lost, the others are as they were
pub had_lost : (c : Config) (v : LinkData) (ways : List PutOut) (k : ℕ)
    → AllHad c v ways
    → AllHad c (after_lose v k) ways
had_lost c v ways k all n p at live =
    go (n == k) (sym (get_lost v.packets k n) ∙ at) where
      lost : (o : Option LinkPacket)
          → slice_get v.packets n ≡ o
          → option_map unheld o ≡ Some p
          → IsHad c ways p
      lost None is e = absurd cc
      lost (Some q) is e =
          let same : unheld q ≡ p = cc in
          subst (λ (r : LinkPacket). IsLive v n r → IsHad c ways r) same (in_hand q is) live where
            in_hand : (q : LinkPacket)
                → slice_get v.packets n ≡ Some q
                → IsLive v n (unheld q)
                → IsHad c ways (unheld q)
            in_hand q there (inl held) = absurd cc
            in_hand q there (inr hand) = all n q there (inr hand)

      go : (t : Bool)
          → ◌≡◌ {A = Option LinkPacket}
          (if t then option_map unheld (slice_get v.packets n) else slice_get v.packets n) (Some p)
          → IsHad c ways p
      go true e = lost (slice_get v.packets n) refl e
      go false e = all n p e live

taken_hand : (v : LinkData) (l : Lane) (k : ℕ) (m : Lane) (n : ℕ)
    → hand_of (after_take v l k) m ≡ Some n
    → (k ≡ n) ⊎ (hand_of v m ≡ Some n)
taken_hand v S1 k S1 n e = inl cc
taken_hand v S2 k S2 n e = inl cc
taken_hand v G1 k G1 n e = inl cc
taken_hand v G2 k G2 n e = inl cc
taken_hand v l k m n e = inr e

-- what a lane takes was held
pub had_taken : (c : Config) (v : LinkData) (ways : List PutOut) (l : Lane) (k : ℕ)
    → is_held v k ≡ true
    → AllHad c v ways
    → AllHad c (after_take v l k) ways
had_taken c v ways l k held all n p at (inl is) = all n p at (inl is)
had_taken c v ways l k held all n p at (inr hand) = go (taken_hand v l k hand.0 n hand.1) where
  go : (k ≡ n) ⊎ (hand_of v hand.0 ≡ Some n) → IsHad c ways p
  go (inl same) =
      all n p at
      (inl (ap (λ (o : Option LinkPacket). option_map_or (λ p. p.held) o false)
      (sym at ∙ ap (slice_get v.packets) (sym same)) ∙ held))
  go (inr old) = all n p at (inr (hand.0, old))

dropped_hand : (v : LinkData) (l m : Lane) (n : ℕ)
    → hand_of (after_drop v l) m ≡ Some n
    → hand_of v m ≡ Some n
dropped_hand v S1 S1 n e = absurd cc
dropped_hand v S2 S2 n e = absurd cc
dropped_hand v G1 G1 n e = absurd cc
dropped_hand v G2 G2 n e = absurd cc
dropped_hand v l m n e = e

-- what a lane delivers leaves the others
pub had_dropped : (c : Config) (v : LinkData) (ways : List PutOut) (l : Lane)
    → AllHad c v ways
    → AllHad c (after_drop v l) ways
had_dropped c v ways l all n p at (inl is) = all n p at (inl is)
had_dropped c v ways l all n p at (inr hand) =
    all n p at (inr (hand.0, dropped_hand v l hand.0 n hand.1))

-- ---- retiring

out_without : (d : Direction) (name : Name) (ways : List PutOut) (e : Direction) (tag : Option Name)
    (b : List ℕ)
    → (same_direction e d && option_eq same_name tag (Some name)) ≡ false
    → IsOut ways e tag b
    → IsOut (without d name ways) e tag b
out_without d name [] e tag b other out = out
out_without d name (q ∷ qs) e tag b other out =
    go (λ behind. out_without d name qs e tag b other behind) (is_part d name q) refl out where
      go : (IsOut qs e tag b → IsOut (without d name qs) e tag b)
          → (t : Bool)
          → is_part d name q ≡ t
          → IsOut (q ∷ qs) e tag b
          → IsOut (cond (not t) (q ∷ without d name qs) (without d name qs)) e tag b
      go rest true is (inl it) =
          absurd (let both : true ≡ false =
          sym is ∙ (λ i. same_direction (it.direction i) d
          && option_eq same_name (it.part i) (Some name))
          ∙ other in cc)
      go rest true is (inr out) = rest out
      go rest false is (inl it) = inl it
      go rest false is (inr out) = inr (rest out)

in_no_hand : (v : LinkData) (d : Direction) (name : Name) (l : Lane)
    → any_in_hand v d name ≡ false
    → hand_has v d name l ≡ false
in_no_hand v d name l none = go l where
  s2 : (hand_has v d name S2 || (hand_has v d name G1 || (hand_has v d name G2 || false))) ≡ false
  s2 = or_false_right (hand_has v d name S1) _ none

  g1 : (hand_has v d name G1 || (hand_has v d name G2 || false)) ≡ false
  g1 = or_false_right (hand_has v d name S2) _ s2

  go : (l : Lane) → hand_has v d name l ≡ false
  go S1 = or_false_left (hand_has v d name S1) _ none
  go S2 = or_false_left (hand_has v d name S2) _ s2
  go G1 = or_false_left (hand_has v d name G1) _ g1
  go G2 = or_false_left (hand_has v d name G2) _ (or_false_right (hand_has v d name G1) _ g1)

-- what is live is no part of a transaction of which the link and the lanes have none
not_of : (v : LinkData) (d : Direction) (name : Name) (n : ℕ) (p : LinkPacket)
    → holds v d name ≡ false
    → slice_get v.packets n ≡ Some p
    → IsLive v n p
    → is_of d name p ≡ false
not_of v d name n p none at (inl held) =
    (λ i. sym held i && is_of d name p)
    ∙ none_there (λ p. p.held && is_of d name p) v.packets n p
    (or_false_left (any_held v d name) (any_in_hand v d name) none) at
not_of v d name n p none at (inr hand) =
    ap (λ (o : Option LinkPacket). option_map_or (is_of d name) o false) (sym at)
    ∙ ap (λ (o : Option ℕ). option_map_or (is_of d name) (option_and_then (slice_get v.packets) o)
    false)
    (sym hand.1)
    ∙ in_no_hand v d name hand.0 (or_false_right (any_held v d name) (any_in_hand v d name) none)

-- where nothing is left of a transaction, all that is had is had without its parts
pub had_retired : (c : Config) (v : LinkData) (ways : List PutOut) (d : Direction) (name : Name)
    → holds v d name ≡ false
    → AllHad c v ways
    → AllHad c v (without d name ways)
had_retired c v ways d name none all n p at live = go (all n p at live) where
  go : IsHad c ways p → IsHad c (without d name ways) p
  go (inl out) =
      inl (out_without d name ways p.direction p.tag p.octets
      (not_of v d name n p none at live) out)
  go (inr unread) = inr unread
