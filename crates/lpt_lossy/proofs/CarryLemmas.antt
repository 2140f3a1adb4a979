-- Packets of a stream, carried one after the other.
use Rattle.std.proofs.Common.{◌≡◌, ◌∙◌, ap, sym, refl, subst, ℕ, ◌+◌, Bool, true, List, [], ◌∷◌, ◌++◌, length, take, drop, replicate, inl, inr, Option, None, Some, Err, append-nil, append_assoc, arith}
use Rattle.std.specs.Prelude.{Contains, IfSome}
use Rattle.std.specs.List.{concat, AllByRecursion}
use Rattle.std.specs.Io.KnownBytes.{Appends, Consumes, Keeps}
use Rattle.std.proofs.KnownBytes.{Appends-kept, Appends-nil, Appends-trans, Consumes-nil, Consumes-trans}
use Rattle.std.proofs.lemmas.List.{length-append, length-replicate, take-append-drop}
use Rattle.std.proofs.lemmas.List.Concat.{flat_map-append}
use Rattle.std.proofs.lemmas.List.Elements.{Contains-append_left, Contains-push}
use Rattle.lpt_text.specs.Streams.{AppendsPart}
use Rattle.lpt_text.proofs.StreamLemmas.{part_after, part_unchanged, part_whole}
use Rattle.lpt_text.specs.declared.fault.StreamFault.{StreamFault}
use Rattle.lpt_stream.specs.Streams.{all_octets}
use Rattle.lpt_stream.specs.Buffers.{octets_held, FindsPassing, Goes}
use Rattle.lpt_stream.specs.declared.buffer.PacketBuffer.{PacketBuffer}
use Rattle.lpt_stream.proofs.BufferLemmas.{passing-lost}
use Rattle.lpt_carried.specs.declared.layouts.Layouts.{Layouts}
use Rattle.lpt_lossy.specs.declared.dice.Dice.{Dice}
use Rattle.lpt_lossy.specs.declared.dice.Odds.{Odds}
use Rattle.lpt_lossy.specs.declared.fate.Burst.{Burst}
use Rattle.lpt_lossy.specs.declared.fate.Fate.{Fate}
use Rattle.lpt_lossy.specs.declared.turns.Turns.{Turns}
use Rattle.lpt_lossy.specs.Bursts.{can_change, is_allowed, with_burst}
use Rattle.lpt_lossy.specs.Ends.{Carries, CarriesPart, ComesFrom, IsEndless}
use Rattle.lpt_lossy.specs.Frames.{IsFrame}
use Rattle.lpt_lossy.specs.TurnsInside.{carried_now, carried_turns, turn_octets}
use Rattle.lpt_lossy.proofs.DamageLemmas.{damage}
use Rattle.lpt_lossy.proofs.FrontLemmas.{cutting-more, HasPacket, IsCutting}
use Rattle.lpt_lossy.proofs.MadeLemmas.{all-more, all_made-none, all_made-weaker, length-carried, made-append, made-concat, made-none, made-now, made-then, made-weaker, AllMade, Made}

-- these packets were read and carried
pub record IsAt (l : Layouts) (odds : Odds) (most : ℕ) (before after old new : Option (List ℕ))
    (b : PacketBuffer) (t : Turns) (dice : Dice) (count : ℕ) : Type 0 where
  pub packets : List (List ℕ)
  pub consumed : Consumes before after (all_octets packets ++ octets_held b)
  pub cutting : IsCutting b
  pub are : AllByRecursion IsFrame packets
  pub count_is : length packets ≡ count
  pub written : List ℕ
  pub made : Made (ComesFrom l odds packets) written
  pub wrote : Appends old new written
  pub held : AllMade (ComesFrom l odds packets) (turn_octets t)
  pub turns_are : length (turn_octets t) ≡ most + 1
  pub odds_are : dice.odds ≡ odds

-- nothing was read
pub at-none : (l : Layouts) (most : ℕ) (a k : Option (List ℕ)) (b : PacketBuffer) (t : Turns)
    (dice : Dice)
    → octets_held b ≡ []
    → IsCutting b
    → turn_octets t ≡ replicate (most + 1) []
    → IsAt l dice.odds most a a k k b t dice 0
at-none l most a k b t dice none cutting empty = record {
  packets = [];
  consumed = subst (Consumes a a) (sym none) (Consumes-nil a);
  cutting = cutting;
  are = tt;
  count_is = refl;
  written = [];
  made = made-none (ComesFrom l dice.odds []);
  wrote = Appends-nil k;
  held = subst (AllMade (ComesFrom l dice.odds [])) (sym empty)
      (all_made-none (ComesFrom l dice.odds []) (most + 1));
  turns_are = ap (λ (os : List (List ℕ)). length os) empty ∙ length-replicate (most + 1) [];
  odds_are = refl;
}

-- ---- the packet in front

-- what is held, cut behind the packet in front
held-cut : (bs : List (List ℕ)) (len : ℕ) (b : List ℕ)
    → all_octets bs ++ b ≡ all_octets (bs ++ take len b ∷ []) ++ drop len b
held-cut bs len b =
    ap (λ (o : List ℕ). all_octets bs ++ o) (sym (take-append-drop len b))
    ∙ sym (append_assoc (all_octets bs) (take len b) (drop len b))
    ∙ ap (λ (o : List ℕ). o ++ drop len b)
    (ap (λ (r : List ℕ). all_octets bs ++ r) (sym (append-nil (take len b)))
    ∙ sym (flat_map-append (λ (b : List ℕ). b) bs (take len b ∷ [])))

-- what befalls a packet is what was decided, and is allowed as that is
still-allowed : (P : Burst → Type 0) (v w : Option Burst)
    → IfSome w (λ u. v ≡ Some u)
    → IfSome v P
    → IfSome w P
still-allowed P v None decided h = tt
still-allowed P v (Some u) decided h = subst (λ v. IfSome v P) decided h

comes-changed : (l : Layouts) (odds : Odds) (packets : List (List ℕ)) (p : List ℕ)
    (v : Option Burst)
    → Contains packets p
    → IfSome v (λ u. is_allowed odds u.in_header ≡ true)
    → IfSome v (λ u. can_change l u p ≡ true)
    → ComesFrom l odds packets (with_burst v p)
comes-changed l odds packets p None among allowed shows = (p, among, inl refl)
comes-changed l odds packets p (Some u) among allowed shows =
    (p, among, inr (damage l odds u p allowed shows))

comes-yet : (l : Layouts) (odds : Odds) (packets : List (List ℕ)) (p b : List ℕ)
    → ComesFrom l odds packets b
    → ComesFrom l odds (packets ++ p ∷ []) b
comes-yet l odds packets p b c = (c.0, Contains-append_left packets (p ∷ []) c.0 c.1, c.2)

-- the packet in front, and what befalls it
pub record IsNext (l : Layouts) (odds : Odds) (b : PacketBuffer) (len : ℕ) (o : List ℕ) (w : Fate) :
    Type 0 where
  pub front : HasPacket (octets_held b) len
  pub octets_are : o ≡ take len (octets_held b)
  pub allowed : IfSome w.burst (λ u. is_allowed odds u.in_header ≡ true)
  pub shows : IfSome w.burst (λ u. can_change l u o ≡ true)

pub next-is : (l : Layouts) (odds thrown : Odds) (b : PacketBuffer) (len : ℕ) (held : List ℕ)
    (v : Option Burst) (w : Fate)
    → HasPacket (octets_held b) len
    → held ≡ octets_held b
    → thrown ≡ odds
    → IfSome v (λ u. is_allowed thrown u.in_header ≡ true)
    → IfSome w.burst (λ u. v ≡ Some u)
    → IfSome w.burst (λ u. can_change l u (take len held) ≡ true)
    → IsNext l odds b len (take len held) w
next-is l odds thrown b len held v w front held_is same allowed decided shows = record {
  front = front;
  octets_are = ap (take len) held_is;
  allowed = still-allowed (λ u. is_allowed odds u.in_header ≡ true) v w.burst decided
      (subst (λ (o : Odds). IfSome v (λ u. is_allowed o u.in_header ≡ true)) same allowed);
  shows = shows;
}

-- what it becomes comes from the packets up to it
next-comes : (l : Layouts) (odds : Odds) (packets : List (List ℕ)) (b : PacketBuffer) (len : ℕ)
    (o : List ℕ) (w : Fate)
    → IsNext l odds b len o w
    → ComesFrom l odds (packets ++ take len (octets_held b) ∷ []) (with_burst w.burst o)
next-comes l odds packets b len o w next =
    let front = take len (octets_held b) in
    comes-changed l odds (packets ++ front ∷ []) o w.burst
    (subst (Contains (packets ++ front ∷ [])) (sym next.octets_are) (Contains-push packets front))
    next.allowed next.shows

-- a front part of such octets was written
part-made : (l : Layouts) (odds : Odds) (before after old new : Option (List ℕ))
    (packets : List (List ℕ)) (rest o : List ℕ)
    → Consumes before after (all_octets packets ++ rest)
    → AllByRecursion IsFrame packets
    → Made (ComesFrom l odds packets) o
    → AppendsPart old new o
    → CarriesPart l odds before after old new
part-made l odds before after old new packets rest o consumed are made part =
    (packets, made.0, (rest, consumed, are), made.1, subst (AppendsPart old new) made.2 part)

-- nothing was read and written
pub none-carried : (l : Layouts) (odds : Odds) (a k : Option (List ℕ)) → CarriesPart l odds a a k k
none-carried l odds a k = ([], [], ([], Consumes-nil a, tt), tt, part_unchanged k [])

-- ---- what was carried

module _ {l : Layouts} {odds : Odds} {most : ℕ} {before after old new : Option (List ℕ)}
    {b : PacketBuffer} {t : Turns} {dice : Dice} {count : ℕ}
    (at : IsAt l odds most before after old new b t dice count) where
  -- more was read, and what was written stayed
  pub at-more : {later new2 : Option (List ℕ)} (b2 : PacketBuffer) (read : List ℕ)
      → Goes b b2 after later read
      → Keeps new new2
      → IsAt l odds most before later old new2 b2 t dice count
  at-more {later} {new2} b2 read goes same =
      let seen = append_assoc (all_octets at.packets) (octets_held b) read
      ∙ ap (λ (o : List ℕ). all_octets at.packets ++ o) (sym goes.added.behind) in
      record {
        packets = at.packets;
        consumed = subst (Consumes before later) seen
            (Consumes-trans before after later _ read at.consumed goes.added.consumed);
        cutting = cutting-more b b2 after later read at.cutting goes;
        are = at.are;
        count_is = at.count_is;
        written = at.written;
        made = at.made;
        wrote = Appends-kept old new new2 _ at.wrote same;
        held = at.held;
        turns_are = at.turns_are;
        odds_are = at.odds_are;
      }

  -- the work stops behind packets that were carried
  pub at-lost : CarriesPart l odds before after old new
  at-lost =
      part-made l odds before after old new at.packets (octets_held b) at.written at.consumed at.are
      at.made (part_whole old new at.written at.wrote)

  -- a read or a write failed, or octets were lost for which there was no memory
  pub at-fault : (later new2 : Option (List ℕ)) (e : StreamFault) (b2 : PacketBuffer)
      (had failed : Bool)
      → FindsPassing (Err e) b b2 after later had failed
      → Keeps new new2
      → CarriesPart l odds before later old new2
  at-fault later new2 e b2 had failed found same =
      let lost = passing-lost e b b2 after later had failed found in
      part-made l odds before later old new2 at.packets (octets_held b ++ lost.0) at.written
      (subst (Consumes before later) (append_assoc (all_octets at.packets) (octets_held b) lost.0)
      (Consumes-trans before after later _ lost.0 at.consumed lost.1))
      at.are at.made (part_whole old new2 at.written (Appends-kept old new new2 _ at.wrote same))

  -- all that is written at the end
  made-last : Made (ComesFrom l odds at.packets) (at.written ++ concat (turn_octets t))
  made-last =
      let from = ComesFrom l odds at.packets in
      made-append from at.written (concat (turn_octets t)) at.made
      (made-concat from (turn_octets t) at.held)

  -- no more packets come, and what was held is written
  pub at-end : (new2 : Option (List ℕ))
      → Appends new new2 (concat (turn_octets t))
      → Carries l odds before after old new2
  at-end new2 last = (
    at.packets,
    made-last.0,
    (octets_held b, at.consumed, at.are),
    made-last.1,
    subst (Appends old new2) made-last.2
        (Appends-trans old new new2 at.written (concat (turn_octets t)) at.wrote last),
  )

  -- the same, written in part
  pub at-end-part : (new2 : Option (List ℕ))
      → AppendsPart new new2 (concat (turn_octets t))
      → CarriesPart l odds before after old new2
  at-end-part new2 part =
      part-made l odds before after old new2 at.packets (octets_held b)
      (at.written ++ concat (turn_octets t)) at.consumed at.are made-last
      (part_after old new new2 at.written (concat (turn_octets t)) at.wrote part)

  -- so many packets came
  pub at-most : count ≡ 18446744073709551615 → IsEndless before after
  at-most most_is = (at.packets, (octets_held b, at.consumed, at.are), at.count_is ∙ most_is)

  -- ---- one more packet

  module _ {len : ℕ} {o : List ℕ} {w : Fate} (next : IsNext l odds b len o w) where
    abbrev front : List ℕ
    front = take len (octets_held b)

    abbrev from : List ℕ → Type 0
    from = ComesFrom l odds (at.packets ++ front ∷ [])

    still-held : AllMade from (turn_octets t)
    still-held = all_made-weaker (ComesFrom l odds at.packets) from (turn_octets t)
        (comes-yet l odds at.packets front) at.held

    all-made : Made from (at.written ++ carried_now w o (turn_octets t))
    all-made =
        made-append from at.written (carried_now w o (turn_octets t))
        (made-weaker (ComesFrom l odds at.packets) from at.written
        (comes-yet l odds at.packets front) at.made)
        (made-now from w o (turn_octets t) (next-comes l odds at.packets b len o w next) still-held)

    -- it was carried in part
    pub at-part : (new2 : Option (List ℕ))
        → AppendsPart new new2 (carried_now w o (turn_octets t))
        → CarriesPart l odds before after old new2
    at-part new2 part =
        part-made l odds before after old new2 (at.packets ++ front ∷ [])
        (drop len (octets_held b)) (at.written ++ carried_now w o (turn_octets t))
        (subst (Consumes before after) (held-cut at.packets len (octets_held b)) at.consumed)
        (all-more IsFrame at.packets front at.are next.front.frame) all-made
        (part_after old new new2 at.written (carried_now w o (turn_octets t)) at.wrote part)

    pub at-next : {new2 : Option (List ℕ)} (b2 : PacketBuffer) (t2 : Turns) (dice2 : Dice)
        → Appends new new2 (carried_now w o (turn_octets t))
        → turn_octets t2 ≡ carried_turns w o (turn_octets t)
        → dice2.odds ≡ dice.odds
        → octets_held b2 ≡ drop len (octets_held b)
        → IsCutting b2
        → IsAt l odds most before after old new2 b2 t2 dice2 (count + 1)
    at-next {new2} b2 t2 dice2 wrote held odds_are rest cutting = record {
      packets = at.packets ++ front ∷ [];
      consumed = subst (Consumes before after)
          (held-cut at.packets len (octets_held b)
          ∙ ap (λ (r : List ℕ). all_octets (at.packets ++ front ∷ []) ++ r) (sym rest)) at.consumed;
      cutting = cutting;
      are = all-more IsFrame at.packets front at.are next.front.frame;
      count_is = omega (arith, length-append {A = List ℕ} at.packets (front ∷ []), at.count_is);
      written = at.written ++ carried_now w o (turn_octets t);
      made = all-made;
      wrote = Appends-trans old new new2 at.written (carried_now w o (turn_octets t)) at.wrote
          wrote;
      held = subst (AllMade from) (sym held)
          (made-then from w o (turn_octets t) (next-comes l odds at.packets b len o w next)
          still-held);
      turns_are = ap (λ (os : List (List ℕ)). length os) held
          ∙ length-carried w o (turn_octets t) ∙ at.turns_are;
      odds_are = odds_are ∙ at.odds_are;
    }
