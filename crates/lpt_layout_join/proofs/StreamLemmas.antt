-- A stream, a piece further.
use Rattle.std.proofs.Common.{◌≡◌, ◌∙◌, ap, sym, subst, refl, ℕ, ◌-◌, ◌*◌, ◌≤◌, ◌==◌, nat_le, nat_lt, Bool, true, false, if◌then◌else◌, List, [], ◌∷◌, ◌++◌, length, Option, Some, None, arith, append-nil, Ok, Err, Result}
use Rattle.std.proofs.Math.Nat.{mul-le-mul_left}
use Rattle.std.proofs.lemmas.Bool.{and_parts}
use Rattle.std.proofs.lemmas.Bool.Decides.{nat_tests}
use Rattle.lpt_packet.specs.declared.fault.PacketFault.{PacketFault}
use Rattle.lpt_packet.specs.Packets.{Sight, IdlePacket, APacket}
use Rattle.lpt_pus.specs.declared.fault.PusFault.{PusFault}
use Rattle.lpt_part.specs.declared.fault.PartFault.{PartFault}
use Rattle.lpt_part.specs.declared.fault.PartFault.TheVariants.{ShortPart, Zero, KindNumber, PartLength}
use Rattle.lpt_part.specs.declared.kind.Kind.{Kind}
use Rattle.lpt_part.specs.PartRanges.{LengthFits}
use Rattle.lpt_part.specs.Parts as part
use Rattle.lpt_part.specs.Parts.{length_test}
use Rattle.lpt_part.proofs.BodyLemmas.{length_test-true}
use Rattle.lpt_events.specs.Arrivals.{carried_kind}
use Rattle.lpt_layout.specs.declared.layout.PartLayout.{PartLayout}
use Rattle.lpt_layout.specs.Messages.{Said, message_verdict}
use Rattle.lpt_layout.specs.Numbers.{octets_of, number_at}
use Rattle.lpt_layout.specs.Packets.{verdict_as}
use Rattle.lpt_layout.specs.Parts.{is_numbered, octets_at, part_verdict_as, piece_at}
use Rattle.lpt_carried.specs.declared.name.Name.{Name}
use Rattle.lpt_carried.specs.declared.reading.Reading.{Reading}
use Rattle.lpt_carried.specs.declared.skip.Skip.TheVariants.{OtherApid}
use Rattle.lpt_carried.specs.Carried.{Named, part_carried, kind_to, name_of, of_kind, of_message, of_part, of_sight, part_of, same_name}
use Rattle.lpt_carried.specs.Sizes.{is_size, size_for}
use Rattle.lpt_carried.proofs.NameLemmas.{same_name-true}
use Rattle.lpt_carried.specs.declared.skips.Skips.{Skips}
use Rattle.lpt_carried.specs.declared.wanted.Wanted.{Wanted}
use Rattle.lpt_carried.specs.declared.why.Why.TheVariants.{Taken, OtherName}
use Rattle.lpt_carried.specs.Skipping.{sizeless, why_carried, why_name}
use Rattle.lpt_carried.specs.Tallies.{piece_noted, nothing_noted, skips_of, with_octets}
use Rattle.lpt_carried.proofs.TallyLemmas.{noted-append, taken-noted}
use Rattle.lpt_stream.specs.declared.piece_kind.PieceKind.{PieceKind}
use Rattle.lpt_stream.specs.declared.piece_kind.PieceKind.TheVariants.{Whole, Damaged, Stray}
use Rattle.lpt_stream.specs.Pieces.{Piece, packets_of}
use Rattle.lpt_stream.proofs.CutLemmas.{packets-next}
use Rattle.lpt_layout_join.specs.declared.counts.Counts as declared
use Rattle.lpt_layout_join.specs.declared.gatherings.Gatherings.{Gatherings}
use Rattle.lpt_layout_join.specs.declared.several.Findings.{Findings}
use Rattle.lpt_layout_join.specs.Counts.{Counted, all_counted, packet_counted, nothing_counted}
use Rattle.lpt_layout_join.specs.CountsInside.{counts_shown}
use Rattle.lpt_layout_join.specs.Gatherings.{GivesEach, is_wanted}
use Rattle.lpt_layout_join.specs.Readers.{Gathers}
use Rattle.lpt_layout_join.proofs.CountLemmas.{counted-more}
use Rattle.lpt_layout_join.proofs.MadeLemmas.{some_octets}
use Rattle.lpt_layout_join.proofs.SeveralLemmas.{each-other}

-- ---- the number of a part that is carried

size-some : (o : Option ℕ) (len : ℕ) → is_size o ≡ true → 1 ≤ size_for o len
size-some None len h = omega arith
size-some (Some p) len h =
    let parts = and_parts (nat_le 1 p) (nat_le p 65535) h in
    grind (arith, nat_tests, parts.0)

fits-within : (kind : Kind) (k len s : ℕ) → 1 ≤ s → LengthFits kind k len s → k ≤ 65542
fits-within kind k len s some h =
    let one : 1 ≤ len = some_octets kind k len s some h in
    let more : (k - 1) * 1 ≤ (k - 1) * s = mul-le-mul_left (k - 1) some in
    omega (arith, more, one, h.end)

chain-within : (kind : Kind) (number len s : ℕ) (short zero numbered fits : Bool) (p q : part.Piece)
    → 1 ≤ s
    → p.number ≡ number
    → length_test kind number len s ≡ fits
    → ◌≡◌ {A = Result part.Piece PartFault}
    (if short then Err ShortPart
    else if zero then Err Zero
    else if numbered then (if fits then Ok p else Err PartLength)
    else Err KindNumber) (Ok q)
    → q.number ≤ 65542
chain-within kind number len s true zero numbered fits p q some is test h = absurd cc
chain-within kind number len s false true numbered fits p q some is test h = absurd cc
chain-within kind number len s false false false fits p q some is test h = absurd cc
chain-within kind number len s false false true false p q some is test h = absurd cc
chain-within kind number len s false false true true p q some is test h =
    let same : p ≡ q = cc in
    let within = fits-within kind number len s some (length_test-true kind number len s test) in
    subst (λ (x : part.Piece). x.number ≤ 65542) same
    (subst (λ (k : ℕ). k ≤ 65542) (sym is) within)

part-within : (l : PartLayout) (kind : Kind) (b : List ℕ) (s : ℕ) (q : part.Piece)
    → 1 ≤ s
    → part_verdict_as l kind b s ≡ Ok q
    → q.number ≤ 65542
unfolding part_verdict_as
part-within l kind b s q some h =
    let number = number_at l.number b (octets_of l.id) in
    chain-within kind number (length b - octets_at l) s (nat_lt (length b) (octets_at l))
    (number == 0) (is_numbered kind number) (length_test kind number (length b - octets_at l) s)
    (piece_at l kind b) q some refl refl h

module _ (r : Reading) (c : Named) where
  of-part : (user : ℕ) (v : Result part.Piece PartFault)
      → ((q : part.Piece) → v ≡ Ok q → q.number ≤ 65542)
      → of_part user v ≡ Ok c
      → c.piece.number ≤ 65542
  of-part user (Err e) within h = absurd cc
  of-part user (Ok q) within h =
      let same : record { user = user; piece = q } ≡ c = cc in
      subst (λ (x : Named). x.piece.number ≤ 65542) same (within q refl)

  of-kind : (s : Said) (k : Option Kind) → of_kind r s k ≡ Ok c → c.piece.number ≤ 65542
  of-kind s None h = absurd cc
  of-kind s (Some kind) h =
      let len = length s.body - octets_at r.parts in
      of-part s.user (part_verdict_as r.parts kind s.body (size_for r.part_size len))
      (λ q e. part-within r.parts kind s.body (size_for r.part_size len) q
      (size-some r.part_size len r.size) e) h

  of-message : (v : Result Said PusFault) → of_message r v ≡ Ok c → c.piece.number ≤ 65542
  of-message (Err e) h = absurd cc
  of-message (Ok s) h = of-kind s (carried_kind r.direction s.service s.subtype) h

  of-sight : (v : Result Sight PacketFault) → of_sight r v ≡ Ok c → c.piece.number ≤ 65542
  of-sight (Err e) h = absurd cc
  of-sight (Ok IdlePacket) h = absurd cc
  of-sight (Ok (APacket f)) h = go (f.apid == r.apid) h where
    go : (same : Bool)
        → (if same then of_message r (message_verdict r.layout (kind_to r.direction) f)
        else Err (OtherApid f.apid)) ≡ Ok c
        → c.piece.number ≤ 65542
    go true e = of-message (message_verdict r.layout (kind_to r.direction) f) e
    go false e = absurd cc

  pub carried-within : (b : List ℕ) → part_carried r b ≡ Ok c → c.piece.number ≤ 65542
  unfolding part_carried
  carried-within b h = of-sight (verdict_as r.layout.has_checksum b) h

-- ---- what is wanted

-- what carries a part of another carries none of one that is wanted
pub unwanted-none : (w : Option Name) (n : Name) (c : Named)
    → is_wanted w (name_of c) ≡ false
    → is_wanted w n ≡ true
    → part_of n (Ok c) ≡ None
unwanted-none None n c other its = absurd cc
unwanted-none (Some m) n c other its =
    let same = same_name-true n m its in
    ap (λ (t : Bool). if t then Some c.piece else None)
    (ap (same_name (name_of c)) same ∙ other)

taken-name : (w : Option Name) (n : Name) → is_wanted w n ≡ true → why_name w n ≡ Taken
taken-name None n h = refl
taken-name (Some m) n h = ap (λ (t : Bool). if t then Taken else OtherName n) h

-- of one that is no more is noted than its octets
pub noted-taken : (w : Wanted) (b : List ℕ) (c : Named) (was now : Skips)
    → part_carried w.reading b ≡ Ok c
    → is_wanted w.name (name_of c) ≡ true
    → now ≡ with_octets was (length b)
    → now ≡ piece_noted w was (record { kind = Whole; octets = b })
noted-taken w b c was now some its =
    taken-noted w was now (record { kind = Whole; octets = b })
    (ap (λ v. why_carried w.name v (part_carried (sizeless w.reading) b)) some
    ∙ taken-name w.name (name_of c) its)

-- ---- a piece further

module _ (w : Wanted) (was : Findings) (ps : List Piece) (h : Gathers w was ps) where
  skips-next : (p : Piece) (s : Skips) → s ≡ piece_noted w was.skips p → s
      ≡ skips_of w (ps ++ p ∷ [])
  skips-next p s notes =
      notes ∙ ap (λ (k : Skips). piece_noted w k p) h.skips_are
      ∙ sym (noted-append w nothing_noted ps (p ∷ []))

  -- a packet
  pub gathers-packet : (b : List ℕ) (gs : Gatherings) (k : declared.Counts) (s : Skips)
      → counts_shown k ≡ packet_counted w.reading (counts_shown was.counts) b
      → GivesEach w.reading w.name (ps ++ record { kind = Whole; octets = b } ∷ []) gs
      → s ≡ piece_noted w was.skips (record { kind = Whole; octets = b })
      → Gathers w (record { gatherings = gs; counts = k; skips = s })
      (ps ++ record { kind = Whole; octets = b } ∷ [])
  gathers-packet b gs k s counts gives notes = record {
    gives = gives;
    counts_are = counts ∙ ap (λ (c : Counted). packet_counted w.reading c b) h.counts_are
        ∙ sym (counted-more w.reading nothing_counted (packets_of ps) b)
        ∙ sym (ap (all_counted w.reading nothing_counted)
        (packets-next ps (record { kind = Whole; octets = b })));
    skips_are = skips-next (record { kind = Whole; octets = b }) s notes;
  }

  -- how many counts are missing up to it
  pub missing-packet : (b : List ℕ) (k : declared.Counts)
      → counts_shown k ≡ packet_counted w.reading (counts_shown was.counts) b
      → (counts_shown k).missing
      ≡ (all_counted w.reading nothing_counted (packets_of ps ++ b ∷ [])).missing
  missing-packet b k counts =
      ap (λ (c : Counted). c.missing)
      (counts ∙ ap (λ (c : Counted). packet_counted w.reading c b) h.counts_are
      ∙ sym (counted-more w.reading nothing_counted (packets_of ps) b))

  -- another piece
  pub gathers-other : (k : PieceKind) (b : List ℕ) (s : Skips)
      → (k ≡ Whole → ⊥)
      → s ≡ piece_noted w was.skips (record { kind = k; octets = b })
      → Gathers w
      (record { gatherings = was.gatherings; counts = was.counts; skips = s })
      (ps ++ record { kind = k; octets = b } ∷ [])
  gathers-other Whole b s other notes = absurd (other refl)
  gathers-other Damaged b s other notes = record {
    gives = each-other w.reading w.name ps (record { kind = Damaged; octets = b }) was.gatherings
        (λ n its. refl) h.gives;
    counts_are = h.counts_are ∙ sym (ap (all_counted w.reading nothing_counted)
        (packets-next ps (record { kind = Damaged; octets = b }) ∙ append-nil (packets_of ps)));
    skips_are = skips-next (record { kind = Damaged; octets = b }) s notes;
  }
  gathers-other Stray b s other notes = record {
    gives = each-other w.reading w.name ps (record { kind = Stray; octets = b }) was.gatherings
        (λ n its. refl) h.gives;
    counts_are = h.counts_are ∙ sym (ap (all_counted w.reading nothing_counted)
        (packets-next ps (record { kind = Stray; octets = b }) ∙ append-nil (packets_of ps)));
    skips_are = skips-next (record { kind = Stray; octets = b }) s notes;
  }
