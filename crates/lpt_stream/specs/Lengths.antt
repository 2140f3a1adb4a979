-- Packets whose lengths are intact, whatever else of them is damaged.
use Rattle.std.specs.Prelude.{◌≡◌, ◌⊎◌, ℕ, ◌+◌, ◌<◌, ◌≤◌, true, false, if◌then◌else◌, List, [], ◌∷◌, ◌++◌, length, ⊤}
use Rattle.lpt_packet.specs.Packets.{Fields, IsPacket}
use Rattle.lpt_stream.specs.declared.cut.Cut.TheVariants.{Resumed}
use Rattle.lpt_stream.specs.declared.piece_kind.PieceKind.TheVariants.{Whole, Damaged}
use Rattle.lpt_stream.specs.Pieces.{LeadsBy, Piece, ends_in_checksum, is_awaited, is_found, is_too_short, lookahead, most_damaged, most_in_row, octets_in}
use Rattle.lpt_stream.specs.Streams.{IsFramed, all_octets}

-- nothing comes, or less than a packet, or a packet stands in front; none is longer than the
-- longest
abbrev pub IsEndOrNext : (longest : ℕ) → List ℕ → Type 0
IsEndOrNext l b =
    (is_awaited l b ≡ true)
    ⊎ ((p : List ℕ) × (rest : List ℕ) × (f : Fields) × IsPacket p f × (length p ≤ l)
    × (b ≡ p ++ rest))

-- Behind these octets, and fewer than 256 packets, there is a packet with a right checksum, or the
-- stream's end, which may cut off one more; all together is no longer than what is looked at.
pub record IsFollowed (l : ℕ) (b : List ℕ) (others : List (List ℕ)) (rest : List ℕ) :
    Type 0 where
  pub near : List (List ℕ)
  pub far : List (List ℕ)
  pub are : others ≡ near ++ far
  pub few : length near < most_damaged
  pub close : length b + (length (all_octets near) + l) ≤ lookahead
  pub next : IsEndOrNext l (all_octets far ++ rest)

-- each is as many octets as its header says, no more than the longest and, unless it says that it is
-- idle, no fewer than eight; and it is found in step, or followed so
abbrev pub AreLed : (longest : ℕ) → List (List ℕ) → (rest : List ℕ) → Type 0
AreLed l [] rest = ⊤
AreLed l (b ∷ bs) rest =
    IsFramed b × (length b ≤ l) × (is_too_short b ≡ false)
    × (((is_found true b ≡ true) × (length b ≤ lookahead)) ⊎ IsFollowed l b bs rest)
    × AreLed l bs rest

-- what each of them is: a packet, or a damaged one, whole
abbrev pub cut_whole : List (List ℕ) → List Piece
cut_whole [] = []
cut_whole (b ∷ bs) =
    record { kind = if is_found true b then Whole else Damaged; octets = b } ∷ cut_whole bs

-- ---- packets that follow one another

-- as many octets as their header says, which is believed, with a right checksum
pub record IsRight (l : ℕ) (b : List ℕ) : Type 0 where
  pub framed : IsFramed b
  pub short : length b ≤ l
  pub right : ends_in_checksum b ≡ true

-- each is
abbrev pub AreRight : (longest : ℕ) → List (List ℕ) → Type 0
AreRight l [] = ⊤
AreRight l (b ∷ bs) = IsRight l b × AreRight l bs

-- They have more octets than the longest packet of the link, and no more than what is looked at.
pub record IsRun (l : ℕ) (packets : List (List ℕ)) : Type 0 where
  pub right : AreRight l packets
  pub long : l < length (all_octets packets)
  pub close : length (all_octets packets) ≤ lookahead
  pub few : length packets < most_in_row

-- Octets astray stand in front, and then a packet is found, which begins no later than at a place.
pub record IsFoundBy (l : ℕ) (stream : List ℕ) (place : ℕ) : Type 0 where
  pub strays : List Piece
  pub packet : List ℕ
  pub rest : List ℕ
  pub early : octets_in strays ≤ place
  pub leads : LeadsBy (Resumed l) false stream
      (strays ++ record { kind = Whole; octets = packet } ∷ []) true rest
