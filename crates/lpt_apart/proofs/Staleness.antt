-- Where freed names are silent, no part of one comes: what was put out is a part of the transaction
-- that its octets name.
use Rattle.std.proofs.Common.{◌≡◌, ◌∙◌, ap, sym, subst, refl, ℕ, Bool, true, false, ◌&&◌, inl, inr, List, map, Option, Some, None}
use Rattle.std.specs.FinMap as maps
use Rattle.std.specs.Option.{option_map, option_eq}
use Rattle.std.specs.Prelude.{slice_get}
use Rattle.std.proofs.lemmas.Option.{slice_get-map}
use Rattle.lpt_packet.specs.declared.direction.Direction.{Direction}
use Rattle.lpt_packet.specs.declared.direction.Direction.TheVariants.{Up, Down}
use Rattle.lpt_packet.specs.Names.{Name, same_name}
use Rattle.lpt_packet.proofs.NameLemmas.{same_name-refl}
use Rattle.lpt_memory.specs.Memories.{Contents}
use Rattle.lpt_events.specs.Arrivals.{Arrival, APart, part_name, arrival_in}
use Rattle.lpt_events.specs.Configs.{IsConfig}
use Rattle.lpt_events.specs.NamedParts.{NamedPart}
use Rattle.lpt_events.specs.Lanes.{same_direction}
use Rattle.lpt_events.specs.declared.config.Config.{Config}
use Rattle.lpt_ledger.specs.Marks.{Marks}
use Rattle.lpt_ledger.specs.States.{state_of, state_at}
use Rattle.lpt_ledger.specs.declared.state.State.TheVariants as known
use Rattle.lpt_link.specs.declared.packet.LinkPacket.{LinkPacket}
use Rattle.lpt_node.specs.Nodes.{Sending}
use Rattle.lpt_refinement.specs.Shows.{mark_of, message_of, sent_packet}
use Rattle.lpt_journal.specs.Hands.{arrival_of}
use Rattle.lpt_journal.specs.Journal.{SentPacket, History}
use Rattle.lpt_journal.specs.Replies.{history_after}
use Rattle.lpt_journal.specs.Senders.{Sender, FreeSender, OpenSender, ClosedSender, sender}
use Rattle.lpt_journal.proofs.HeadlineLemmas.{every}
use Rattle.lpt_apart.specs.Ends.{Ends, is_part}
use Rattle.lpt_apart.specs.TwoEnds.{IsOnTheWay, is_harmless, MayCome}
use Rattle.lpt_apart.specs.Moves.{with_ledgers}
use Rattle.lpt_apart.proofs.Closing.{IsShut}
use Rattle.lpt_apart.proofs.Links.{IsHeldAs, held_at}
use Rattle.lpt_apart.proofs.Ties.{ends_of, Follows}
use Rattle.lpt_apart.proofs.Silence.{none_there, AreSilent, AreMute}
use Rattle.lpt_events.proofs.LaneLemmas.{same_direction-refl}

mute_of : (x : Sending) (s : Sender) (name : Name)
    → maps.get x.ledger name ≡ mark_of s
    → maps.get x.messages name ≡ message_of s
    → state_at x.ledger name ≡ known.Closed
    → maps.get x.messages name ≡ None
mute_of x FreeSender name mark message shut =
    absurd (let both : known.Free ≡ known.Closed = sym (ap state_of mark) ∙ shut in cc)
mute_of x (OpenSender m) name mark message shut =
    absurd (let both : known.Open ≡ known.Closed = sym (ap state_of mark) ∙ shut in cc)
mute_of x ClosedSender name mark message shut = message

-- no sender of theirs that is closed has a message
pub are_mute : (c : Config) (first : Contents) (usual : Type 0) (e : Ends)
    → Follows c first usual e
    → AreMute e
are_mute c first usual e f = subst (λ (y : Ends). AreMute y) f.is at where
  h : History
  h = history_after c first f.events

  at : AreMute (ends_of f.state e.on_the_way e.log)
  at Up name shut =
      let x = f.tied.shown.ground.sending in
      mute_of f.state.on_ground.sending (sender h Up name) name (x.ledger name)
      (x.messages name) shut
  at Down name shut =
      let x = f.tied.shown.craft.sending in
      mute_of f.state.on_craft.sending (sender h Down name) name (x.ledger name)
      (x.messages name) shut

-- what was put out is a part of the transaction that its octets name
named : (c : Config) (first : Contents) (usual : Type 0) (e : Ends) (d : Direction) (b : List ℕ)
    → IsConfig c
    → Follows c first usual e
    → (on : IsOnTheWay e d b)
    → part_name (arrival_in c d b) ≡ on.packet.part_of
named c first usual e d b good f on =
    let h : History = history_after c first f.events in
    let packets : List LinkPacket = f.state.link.packets in
    let is : IsHeldAs packets on.packet =
    held_at packets e.on_the_way on.place on.packet f.tied.held on.there in
    let tag : LinkPacket → Option Name = λ p. p.tag in
    let name : SentPacket → Option Name = λ p. part_name (arrival_of c p) in
    let lists : map tag packets ≡ map name (map sent_packet packets) =
    f.tied.shown.link.tags ∙ (every c first f.events good f.tied.legal).0.names
    ∙ ap (map name) (sym f.tied.shown.link.packets) in
    let both : Some is.packet.tag ≡ Some (name (sent_packet is.packet)) =
    ap (option_map tag) (sym is.there) ∙ sym (slice_get-map tag packets is.number)
    ∙ ap (λ (xs : List (Option Name)). slice_get xs is.number) lists
    ∙ slice_get-map name (map sent_packet packets) is.number
    ∙ ap (option_map name) (slice_get-map sent_packet packets is.number)
    ∙ ap (λ (o : Option LinkPacket). option_map name (option_map sent_packet o)) is.there in
    let same : is.packet.tag ≡ name (sent_packet is.packet) = cc in
    (λ i. part_name (arrival_in c (sym (is.direction ∙ on.goes) i) (sym (is.octets ∙ on.octets) i)))
    ∙ sym same ∙ is.tag

-- whether what comes is a part of a freed name
abbrev pub is_stale : (Direction → Name → Bool) → Direction → Arrival → Bool
is_stale freed d (APart q) = freed d q.name
is_stale freed d _ = false

-- no part of a freed name comes
pub not_stale : (c : Config) (first : Contents) (usual : Type 0)
    (freed : Direction → Name → Bool) (e : Ends)
    (d : Direction) (b : List ℕ)
    → IsConfig c
    → Follows c first usual e
    → AreSilent freed e
    → MayCome c e d b
    → is_stale freed d (arrival_in c d b) ≡ false
not_stale c first usual freed e d b good f silent (inr harmless) =
    go (arrival_in c d b) harmless where
      go : (a : Arrival) → is_harmless a ≡ true → is_stale freed d a ≡ false
      go (APart q) harmless = absurd cc
      go a harmless = refl
not_stale c first usual freed e d b good f silent (inl on) = go (arrival_in c d b) refl where
  part : (q : NamedPart)
      → arrival_in c d b ≡ APart q
      → (t : Bool)
      → freed d q.name ≡ t
      → t ≡ false
  part q is false gone = refl
  part q is true gone =
      let tag : on.packet.part_of ≡ Some q.name =
      sym (named c first usual e d b good f on) ∙ ap part_name is in
      let yes : is_part d q.name on.packet ≡ true =
      (λ i. same_direction (on.goes i) d && option_eq same_name (tag i) (Some q.name))
      ∙ (λ i. same_direction-refl d i && same_name-refl q.name i) in
      let no : is_part d q.name on.packet ≡ false =
      none_there (is_part d q.name) e.on_the_way on.place on.packet (silent.gone d q.name gone)
      on.there in
      absurd (let both : true ≡ false = sym yes ∙ no in cc)

  go : (a : Arrival) → arrival_in c d b ≡ a → is_stale freed d a ≡ false
  go (APart q) is = part q is (freed d q.name) refl
  go a is = refl

-- ---- receivers that know less

-- the same two ends, whose receivers know more names, are silent too
pub silent_whole : (freed : Direction → Name → Bool) (g k : Marks) (w : Ends)
    → AreSilent freed (with_ledgers g k w)
    → AreSilent freed w
silent_whole freed g k w silent = record { shut = shut; gone = silent.gone } where
  shut : (d : Direction) (name : Name) → freed d name ≡ true → IsShut w d name
  shut Up name is = silent.shut Up name is
  shut Down name is = silent.shut Down name is

-- and those whose receivers know less have no message where they are closed
pub mute_less : (g k : Marks) (w : Ends) → AreMute w → AreMute (with_ledgers g k w)
mute_less g k w mute Up name shut = mute Up name shut
mute_less g k w mute Down name shut = mute Down name shut
