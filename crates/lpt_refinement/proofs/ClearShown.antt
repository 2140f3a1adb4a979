-- What the link and the ends tell of a transaction is what the journal says, where its packets have the
-- tags of the parts that they are.
use Rattle.std.proofs.Common.{◌≡◌, ◌∙◌, ap, sym, refl, ℕ, zero, suc, Bool, true, false, ◌&&◌, ◌||◌, List, [], ◌∷◌, length, Option, Some, None, is_some}
use Rattle.std.specs.List.{list_any}
use Rattle.std.specs.Option.{option_map, option_map_or, option_and_then, option_eq}
use Rattle.std.specs.Prelude.{slice_get}
use Rattle.std.specs.FinMap as maps
use Rattle.std.proofs.lemmas.Option.{slice_get-map}
use Rattle.lpt_packet.specs.declared.direction.Direction.{Direction}
use Rattle.lpt_packet.specs.Names.{Name, same_name}
use Rattle.lpt_memory.specs.Memories.{Contents}
use Rattle.lpt_events.specs.declared.config.Config.{Config}
use Rattle.lpt_events.specs.declared.lane.Lane.{Lane}
use Rattle.lpt_events.specs.Arrivals.{part_name}
use Rattle.lpt_events.specs.Lanes.{lanes, same_direction}
use Rattle.lpt_events.specs.Sides.{receiver_side}
use Rattle.lpt_link.specs.declared.packet.LinkPacket.{LinkPacket}
use Rattle.lpt_link.specs.Links.{is_of, any_held, any_in_hand, holds, hand_of}
use Rattle.lpt_journal.specs.Clear.{any_below, is_part_of, is_part_at, part_held, part_in_hand}
use Rattle.lpt_journal.specs.Hands.{hand, arrival_of}
use Rattle.lpt_journal.specs.Journal.{SentPacket, History}
use Rattle.lpt_journal.specs.Link.{sent, tags}
use Rattle.lpt_journal.specs.Receivers.{heard, has_parts, last_tick}
use Rattle.lpt_refinement.specs.GoesOn.{AreNamed}
use Rattle.lpt_refinement.specs.Shows.{Shows, sent_packet}
use Rattle.lpt_model.specs.State.{State, end_of}
use Rattle.lpt_refinement.specs.Views.{views}
use Rattle.lpt_refinement.proofs.Fields.{receiving_at}
use Rattle.lpt_refinement.proofs.LinkShown.{as_many_packets}
use Rattle.lpt_refinement.proofs.ReceivingShown.{is_some-entry_of}
use Rattle.lpt_packet.proofs.BoolLemmas.{or_assoc}

-- ---- numbers of a list

or_false : (a : Bool) → a ≡ (a || false)
or_false true = refl
or_false false = refl

-- the number 0 passes, or one above it
below_front : (test : ℕ → Bool) (n : ℕ)
    → any_below test (suc n) ≡ (test zero || any_below (λ k. test (suc k)) n)
below_front test zero = or_false (test zero)
below_front test (suc n) =
    ap (λ t. t || test (suc n)) (below_front test n)
    ∙ or_assoc (test zero) (any_below (λ k. test (suc k)) n) (test (suc n))

-- an element passes where one at some number does
any_numbered : {A : Type 0} (test : A → Bool) (xs : List A)
    → list_any test xs
    ≡ any_below (λ n. option_map_or test (slice_get xs n) false) (length xs)
any_numbered test [] = refl
any_numbered test (x ∷ xs) =
    ap (λ t. test x || t) (any_numbered test xs)
    ∙ sym (below_front (λ n. option_map_or test (slice_get (x ∷ xs) n) false) (length xs))

-- ---- packets

of_transaction : (c : Config) (d : Direction) (name : Name) (o : Option LinkPacket)
    → option_map (λ p. p.tag) o
    ≡ option_map (λ p. part_name (arrival_of c p)) (option_map sent_packet o)
    → option_map_or (is_of d name) o false
    ≡ option_map_or (is_part_of c d name) (option_map sent_packet o) false
of_transaction c d name None e = refl
of_transaction c d name (Some p) e =
    let tag : p.tag ≡ part_name (arrival_of c (sent_packet p)) = cc in
    ap (λ t. same_direction p.direction d && option_eq same_name t (Some name)) tag

-- the packet of a number is of a transaction where it is a part of that
at_number : (c : Config) (first : Contents) (s : State) (h : History) (d : Direction) (name : Name) (n : ℕ)
    → Shows s (views c first h)
    → AreNamed c h
    → option_map_or (is_of d name) (slice_get s.link.packets n) false ≡ is_part_at c h d name n
at_number c first s h d name n k named =
    let name_sent : SentPacket → Option Name = λ p. part_name (arrival_of c p) in
    let packet : option_map sent_packet (slice_get s.link.packets n) ≡ slice_get (sent h) n =
    sym (slice_get-map sent_packet s.link.packets n) ∙ ap (λ ps. slice_get ps n) k.link.packets in
    let tag : option_map (λ (p : LinkPacket). p.tag) (slice_get s.link.packets n)
    ≡ option_map name_sent (slice_get (sent h) n) =
    sym (slice_get-map (λ (p : LinkPacket). p.tag) s.link.packets n)
    ∙ ap (λ ts. slice_get ts n) (k.link.tags ∙ named)
    ∙ slice_get-map name_sent (sent h) n in
    of_transaction c d name (slice_get s.link.packets n)
    (tag ∙ ap (option_map name_sent) (sym packet))
    ∙ ap (λ o. option_map_or (is_part_of c d name) o false) packet

held_and_of : (test : LinkPacket → Bool) (o : Option LinkPacket)
    → option_map_or (λ p. p.held && test p) o false
    ≡ (option_map_or (λ p. p.held) o false && option_map_or test o false)
held_and_of test None = refl
held_and_of test (Some p) = refl

held_shown : (c : Config) (first : Contents) (s : State) (h : History) (d : Direction) (name : Name)
    → Shows s (views c first h)
    → AreNamed c h
    → any_held s.link d name ≡ part_held c h d name
held_shown c first s h d name k named =
    any_numbered (λ p. p.held && is_of d name p) s.link.packets
    ∙ (λ i. any_below (λ n. held_and_of (is_of d name) (slice_get s.link.packets n) i)
    (as_many_packets k.link i))
    ∙ (λ i. any_below (λ n. k.link.held n i && at_number c first s h d name n k named i)
    (length (sent h)))

hand_shown : (c : Config) (first : Contents) (s : State) (h : History) (d : Direction) (name : Name)
    → Shows s (views c first h)
    → AreNamed c h
    → any_in_hand s.link d name ≡ part_in_hand c h d name
hand_shown c first s h d name k named i = list_any (λ l. in_lane l i) lanes where
  in_lane : (l : Lane)
      → option_map_or (is_of d name) (option_and_then (slice_get s.link.packets) (hand_of s.link l))
      false
      ≡ option_map_or (is_part_at c h d name) (hand h l) false
  in_lane l =
      ap (λ o. option_map_or (is_of d name) (option_and_then (slice_get s.link.packets) o) false)
      (k.link.hands l)
      ∙ go (hand h l) where
        go : (o : Option ℕ)
            → option_map_or (is_of d name) (option_and_then (slice_get s.link.packets) o) false
            ≡ option_map_or (is_part_at c h d name) o false
        go None = refl
        go (Some n) = at_number c first s h d name n k named

-- the link holds a part of a transaction, or a hand has one, where the journal says so
pub holds_shown : (c : Config) (first : Contents) (s : State) (h : History) (d : Direction) (name : Name)
    → Shows s (views c first h)
    → AreNamed c h
    → holds s.link d name ≡ (part_held c h d name || part_in_hand c h d name)
holds_shown c first s h d name k named i =
    held_shown c first s h d name k named i || hand_shown c first s h d name k named i

-- ---- receptions

-- a reception is open where parts were kept
pub reception_shown : (c : Config) (first : Contents) (s : State) (h : History) (d : Direction) (name : Name)
    → Shows s (views c first h)
    → is_some (maps.get (end_of s (receiver_side d)).receiving.entries name)
    ≡ has_parts (heard c h d name)
reception_shown c first s h d name k =
    ap is_some ((receiving_at c first h d k).entries name)
    ∙ is_some-entry_of (heard c h d name) (last_tick c h d name)
