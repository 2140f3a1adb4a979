-- How a stream is cut into pieces, if not all of its octets are packets.
use Rattle.std.specs.Prelude.{◌≡◌, ◌≢◌, ℕ, zero, suc, ◌+◌, ◌-◌, ◌^◌, ◌<◌, ◌==◌, ◌&&◌, ◌||◌, not, ◌/◌, ◌%◌, min, nat_lt, nat_le, Bool, true, false, if◌then◌else◌, List, [], ◌∷◌, length, take, drop, slice_index, Result, Ok, Err, ⊤}
use Rattle.lpt_packet.specs.declared.fault.PacketFault.{PacketFault}
use Rattle.lpt_packet.specs.declared.fault.PacketFault.TheVariants.{Short, Version, Length, Segmented, NoSecondary, Checksum}
use Rattle.lpt_packet.specs.Checksums.{checksum}
use Rattle.lpt_packet.specs.Numbers.{word_at}
use Rattle.lpt_packet.specs.Packets.{Sight, IdlePacket, APacket, verdict}
use Rattle.lpt_stream.specs.declared.cut.Cut.{Cut}
use Rattle.lpt_stream.specs.declared.cut.Cut.TheVariants.{Sealed, Framed, Resumed}
use Rattle.lpt_stream.specs.declared.piece_kind.PieceKind.{PieceKind}
use Rattle.lpt_stream.specs.declared.piece_kind.PieceKind.TheVariants.{Whole, Damaged, Stray}

-- ---- the front

-- so many octets, those of two packets, show what begins in front of them
abbrev pub lookahead : ℕ
lookahead = 131084

-- a reader keeps at most so many: fewer than those, and what one read gives
abbrev pub most_kept : ℕ
most_kept = 196619

-- the octets of the packet at the front, as its header says, or all if fewer have come
abbrev pub frame : List ℕ → List ℕ
frame b = take (7 + word_at b 4) b

-- the octets behind it
abbrev pub behind : List ℕ → List ℕ
behind b = drop (7 + word_at b 4) b

-- whether the last two octets, behind a header, are the checksum of those before
abbrev pub ends_in_checksum : List ℕ → Bool
ends_in_checksum b =
    nat_le 8 (length b) && (checksum (take (length b - 2) b) == word_at b (length b - 2))

-- whether it is a test of the header's flags alone: the packet is a segment, or it has no secondary
-- header
abbrev pub is_of_flags : PacketFault → Bool
is_of_flags Short = false
is_of_flags Version = false
is_of_flags Length = false
is_of_flags Segmented = true
is_of_flags NoSecondary = true
is_of_flags Checksum = false

-- whether octets that are read like this, with a right checksum or not, are taken as a packet. In
-- step so is an idle one, which has no checksum that is looked at, and one with a right checksum
-- that fails a test of its flags alone
abbrev pub is_taken : (in_step right : Bool) → Result Sight PacketFault → Bool
is_taken s c (Ok (APacket f)) = true
is_taken s c (Ok IdlePacket) = s
is_taken s c (Err e) = is_of_flags e && s && c

-- whether these octets are
abbrev pub is_found : (in_step : Bool) → List ℕ → Bool
is_found s b = is_taken s (ends_in_checksum b) (verdict b)

-- whether a packet begins at the front
abbrev pub begins : (in_step : Bool) → List ℕ → Bool
begins s b = is_found s (frame b)

-- whether as many octets have come as the header at the front says
abbrev pub is_framed : List ℕ → Bool
is_framed b = nat_le (7 + word_at b 4) (length b)

-- whether a packet begins at the front, and ends where these octets end
abbrev pub fills : List ℕ → Bool
fills b = (7 + word_at b 4 == length b) && begins false b

-- whether one does so behind some of them: the last of those that fill them to their end, if more
-- than one does, one behind the other
unfoldable pub ends_in_packet : List ℕ → Bool
ends_in_packet [] = false
ends_in_packet (x ∷ b) = fills b || ends_in_packet b

-- whether what begins at the front is as long as its header says, with a packet behind it, or
-- nothing, and doesn't end in a packet: if it does, its length is none, since it ends where packets
-- inside of it end
abbrev pub is_passed : List ℕ → Bool
is_passed b =
    is_framed b
    && (((length (behind b) == 0) || begins false (behind b)) && not (ends_in_packet (frame b)))

-- whether the version of what begins at the front is 0, as far as it has come
abbrev pub is_version : List ℕ → Bool
is_version b = slice_index b 0 / 32 == 0

-- ---- no longer than the longest

-- whether a header says no more octets than a packet of the link has at most
abbrev pub is_short : (longest : ℕ) → List ℕ → Bool
is_short l b = nat_le (7 + word_at b 4) l

-- whether as many octets have come as the header says, if that is believed
abbrev pub fits : (longest : ℕ) → List ℕ → Bool
fits l b = is_short l b && is_framed b

-- whether more are awaited
abbrev pub is_awaited : (longest : ℕ) → List ℕ → Bool
is_awaited l b = not (is_framed b) && (nat_lt (length b) 6 || is_short l b)

-- so many packets with a checksum have more octets than the longest
abbrev pub most_in_row : ℕ
most_in_row = 8193

-- whether packets with right checksums follow one another from here, for so many octets; if the
-- stream's end counts, or up to it; fewer than n packets
unfoldable pub follows : (end_counts : Bool) → (longest n left : ℕ) → List ℕ → Bool
follows e l zero left b = false
follows e l (suc n) left b =
    (left == 0)
    || ((e && (length b == 0))
    || ((fits l b && ends_in_checksum (frame b))
    && follows e l n (left - (7 + word_at b 4)) (behind b)))

-- ---- what begins

-- whether a packet begins at the front, by this cut: one with a right checksum; or in step as many
-- octets as a header of version 0 says. Behind octets astray it counts if packets follow for more
-- octets than the longest packet has: not all of them are inside of one
abbrev pub begins_by : Cut → (in_step : Bool) → List ℕ → Bool
begins_by Sealed s b = begins s b
begins_by Framed s b = s && (is_version b && is_framed b)
begins_by (Resumed l) true b = is_short l b && begins true b
begins_by (Resumed l) false b = begins false b && follows false l most_in_row (suc l) b

-- whether a header says seven octets, and not that they are an idle packet: only that has no
-- checksum, and zeros that are read as a header say seven
abbrev pub is_too_short : List ℕ → Bool
is_too_short b = (word_at b 4 == 0) && not (word_at b 0 % 2048 == 2047)

-- whether what stands here leads on by its length
abbrev pub leads : (longest : ℕ) → List ℕ → Bool
leads l b = fits l b && not (is_too_short b)

-- over at most so many packets in a row is looked on, if only their lengths are believed
abbrev pub most_damaged : ℕ
most_damaged = 256

-- whether lengths that are believed, and nothing else of what they are lengths of, lead from here
-- to a packet with a right checksum, or, if the stream's end counts, to the end or into what it
-- cuts off; over fewer than n packets
unfoldable pub reaches : (end_counts : Bool) → (longest n : ℕ) → List ℕ → Bool
reaches e l zero b = false
reaches e l (suc n) b =
    (e && is_awaited l b) || (leads l b && (begins false b || reaches e l n (behind b)))

-- whether what is looked at is all that stands before the stream's end
abbrev pub is_all : List ℕ → Bool
is_all b = nat_lt (length b) lookahead

-- whether the stream ends within what stands at the front in step, if that is as long as its header
-- says
abbrev pub is_cut_off : Cut → (in_step : Bool) → List ℕ → Bool
is_cut_off Sealed s b = false
is_cut_off Framed s b = false
is_cut_off (Resumed l) s b = s && (is_all b && is_awaited l b)

-- whether octets that are as many as a header says, and no packet, are passed over as one; or
-- fewer, which the stream's end cuts off
abbrev pub passes_by : Cut → List ℕ → Bool
passes_by Sealed b = is_passed b
passes_by Framed b = false
passes_by (Resumed l) b =
    is_cut_off (Resumed l) true b || (fits l b && reaches (is_all b) l most_damaged (behind b))

-- what stands there if none of these does: behind octets astray, where packets follow one another
-- up to the stream's end, a packet; and else one octet
abbrev pub other_by : Cut → (in_step : Bool) → List ℕ → PieceKind
other_by Sealed s b = Stray
other_by Framed s b = Stray
other_by (Resumed l) true b = Stray
other_by (Resumed l) false b =
    if begins false b && follows true l most_in_row (suc l) b then Whole else Stray

-- what stands at the front: a packet; or in step as many octets as a header says; or one octet
abbrev pub kind_by : Cut → (in_step : Bool) → List ℕ → PieceKind
kind_by c s b =
    if begins_by c s b then Whole else if s && passes_by c b then Damaged else other_by c s b

-- the same by checksums
abbrev pub kind_in : (in_step : Bool) → List ℕ → PieceKind
kind_in s b = kind_by Sealed s b

-- how many octets that is
abbrev pub size_in : PieceKind → List ℕ → ℕ
size_in Whole b = 7 + word_at b 4
size_in Damaged b = 7 + word_at b 4
size_in Stray b = 1

-- the same of what stands at the front, where the stream may end within it
abbrev pub len_by : Cut → (in_step : Bool) → List ℕ → ℕ
len_by c s b = if is_cut_off c s b then length b else size_in (kind_by c s b) b

-- ---- what may still come

-- whether the first word of a header is right, as far as it has come: version 0, a secondary
-- header, and no idle packet's APID
abbrev pub first_fits : List ℕ → Bool
first_fits b =
    (word_at b 0 / 8192 == 0)
    && (nat_lt (length b) 2 || ((word_at b 0 / 2048 % 2 == 1) && not (word_at b 0 % 2048 == 2047)))

-- whether its second word is, or hasn't come: unsegmented
abbrev pub flags_fit : List ℕ → Bool
flags_fit b = nat_lt (length b) 4 || (word_at b 2 / 16384 == 3)

-- whether its third is, or hasn't come: the two octets of a checksum stand behind the header
abbrev pub size_fits : List ℕ → Bool
size_fits b = nat_lt (length b) 6 || not (word_at b 4 == 0)

-- whether a packet that isn't idle may begin with these octets and others behind them
abbrev pub may_begin : List ℕ → Bool
may_begin b = first_fits b && flags_fit b && size_fits b

-- whether that is open: one may, and not all of its octets have come
abbrev pub is_open : List ℕ → Bool
is_open b = may_begin b && not (is_framed b)

-- whether what is at the front depends on octets that may still come. If as many have come as
-- its header says, and are no packet, in step, so does it until it is known if a packet stands
-- behind. If fewer have come, it does in step, and elsewhere if a packet may begin
abbrev pub waits : (in_step : Bool) → List ℕ → Bool
waits s b =
    if is_framed b then s && not (begins s b) && is_open (behind b) else s || may_begin b

-- whether it depends on octets that may still come where lengths lead from here
unfoldable pub reach_waits : (longest n : ℕ) → List ℕ → Bool
reach_waits l zero b = false
reach_waits l (suc n) b =
    if leads l b then not (begins false b) && reach_waits l n (behind b) else is_awaited l b

-- whether it depends on them, in step, if lengths are believed: if not as many have come as the
-- header says, and if as many have, until it is known where lengths lead
abbrev pub waits_to_resume : (longest : ℕ) → List ℕ → Bool
waits_to_resume l b = if fits l b then reach_waits l most_damaged (behind b) else is_awaited l b

-- whether it depends on them how far packets follow one another from here
unfoldable pub follow_waits : (longest n left : ℕ) → List ℕ → Bool
follow_waits l zero left b = false
follow_waits l (suc n) left b =
    not (left == 0)
    && (if fits l b then
    ends_in_checksum (frame b) && follow_waits l n (left - (7 + word_at b 4)) (behind b)
    else is_awaited l b)

-- the same by each cut: lengths alone depend on what may come until the header's octets have come
abbrev pub waits_by : Cut → (in_step : Bool) → List ℕ → Bool
waits_by Sealed s b = waits s b
waits_by Framed s b = (length b == 0) || (s && (is_version b && not (is_framed b)))
waits_by (Resumed l) true b = is_all b && waits_to_resume l b
waits_by (Resumed l) false b =
    is_all b && (may_begin b && follow_waits l most_in_row (suc l) b)

-- whether no octets that come change it that no packet begins: all that the header says have come,
-- and by this cut those behind them don't count
abbrev pub stays_judged : Cut → List ℕ → Bool
stays_judged Sealed b = is_framed b
stays_judged Framed b = is_framed b
stays_judged (Resumed l) b = false

-- ---- the stream

-- octets of a stream, and what they are
pub record Piece : Type 0 where
  pub kind : PieceKind
  pub octets : List ℕ

-- the front of this kind, as the octets near it show
abbrev pub piece_of : PieceKind → (near b : List ℕ) → Piece
piece_of k near b = record { kind = k; octets = take (size_in k near) b }

-- the piece at the front, by this cut
unfoldable pub piece_by : Cut → (in_step : Bool) → List ℕ → Piece
piece_by c s b = piece_of (kind_by c s (take lookahead b)) (take lookahead b) b

-- the same by checksums
abbrev pub piece_at : (in_step : Bool) → List ℕ → Piece
piece_at s b = piece_by Sealed s b

-- a packet's checksum isn't at fault: it was taken as the piece was found
abbrev pub IsSealed : PieceKind → List ℕ → Type 0
IsSealed k b = k ≡ Whole → verdict b ≢ Err Checksum

-- nor if a cut looks at checksums
abbrev pub IsSealedBy : Cut → PieceKind → List ℕ → Type 0
IsSealedBy Sealed k b = IsSealed k b
IsSealedBy Framed k b = ⊤
IsSealedBy (Resumed l) k b = ⊤

-- whether what comes behind is in step
abbrev pub keeps_step : PieceKind → Bool
keeps_step Whole = true
keeps_step Damaged = true
keeps_step Stray = false

-- the octets are these pieces, one behind the other, up to others, by this cut
abbrev pub LeadsBy : Cut → (in_step : Bool) → List ℕ → List Piece → (at_last : Bool) → List ℕ
    → Type 0
LeadsBy cut s b [] t c = (s ≡ t) × (b ≡ c)
LeadsBy cut s b (p ∷ ps) t c =
    (0 < length b) × (p ≡ piece_by cut s b)
    × LeadsBy cut (keeps_step p.kind) (drop (length p.octets) b) ps t c

-- the stream is these pieces, by this cut; it begins in step
abbrev pub CutsBy : Cut → List ℕ → List Piece → Type 0
CutsBy cut stream ps = (t : Bool) × LeadsBy cut true stream ps t []

-- the same by checksums
abbrev pub Leads : (in_step : Bool) → List ℕ → List Piece → (at_last : Bool) → List ℕ → Type 0
Leads s b ps t c = LeadsBy Sealed s b ps t c

abbrev pub Cuts : List ℕ → List Piece → Type 0
Cuts stream ps = CutsBy Sealed stream ps

-- how many octets pieces have
abbrev pub octets_in : List Piece → ℕ
octets_in [] = 0
octets_in (p ∷ ps) = length p.octets + octets_in ps

-- a place or a number as it is told and counted: one beyond 2^64 - 1 as that
abbrev pub up_to_limit : ℕ → ℕ
up_to_limit n = min n (2 ^ 64 - 1)

-- the octets of a piece that is a packet, in front of others
abbrev pub packet_before : PieceKind → List ℕ → List (List ℕ) → List (List ℕ)
packet_before Whole b bs = b ∷ bs
packet_before Damaged b bs = bs
packet_before Stray b bs = bs

-- the packets among pieces, idle ones among them
abbrev pub packets_of : List Piece → List (List ℕ)
packets_of [] = []
packets_of (p ∷ ps) = packet_before p.kind p.octets (packets_of ps)

-- these are the packets that are found in the stream, idle ones among them
abbrev pub Finds : List ℕ → List (List ℕ) → Type 0
Finds stream packets = (ps : List Piece) × Cuts stream ps × (packets_of ps ≡ packets)
