-- The pieces of a stream, found as it comes.
use Rattle.std.specs.Prelude.{◌≡◌, ◌<◌, ◌≤◌, ◌⊎◌, ◌++◌, ℕ, Bool, true, false, List, [], length, take, drop, Option, Some, None, Result, Ok, Err}
use Rattle.std.specs.Io.KnownBytes.{Consumes, IsAtEnd}
use Rattle.lpt_text.specs.declared.fault.StreamFault.{StreamFault}
use Rattle.lpt_text.specs.declared.fault.StreamFault.TheVariants as faults
use Rattle.lpt_stream.specs.declared.buffer.PacketBuffer.{PacketBuffer}
use Rattle.lpt_stream.specs.declared.cut.Cut.{Cut}
use Rattle.lpt_stream.specs.declared.found.Found.{Found}
use Rattle.lpt_stream.specs.Pieces.{Piece, begins_by, lookahead, piece_by, waits_by}

-- ---- what is held

-- the octets that were read and not passed over yet
abbrev pub octets_held : PacketBuffer → List ℕ
octets_held b = drop b.start (take b.end b.octets.items)

-- all octets for which there is room
abbrev pub octets_kept : PacketBuffer → List ℕ
octets_kept b = b.octets.items

-- whether they come right behind a packet
abbrev pub is_in_step : PacketBuffer → Bool
is_in_step b = b.in_step

-- how the stream is cut
abbrev pub cut_of : PacketBuffer → Cut
cut_of b = b.cut

-- whether the stream's end was read
abbrev pub is_ended : PacketBuffer → Bool
is_ended b = b.ended

-- the piece that was found
abbrev pub found_piece : PacketBuffer → Found → Piece
found_piece b f = record { kind = f.kind; octets = take f.len (octets_held b) }

-- the piece stands in front of what is held, whatever comes behind
pub record IsInFront (b : PacketBuffer) (f : Found) : Type 0 where
  pub some : 0 < length (octets_held b)
  pub least : 0 < f.len
  pub most : f.len ≤ lookahead
  pub within : f.len ≤ length (octets_held b)
  pub is : (more : List ℕ) → (is_ended b ≡ true → more ≡ [])
      → piece_by (cut_of b) (is_in_step b) (octets_held b ++ more) ≡ found_piece b f

-- nothing can be said of it yet: it depends on octets that may still come
pub record IsUnsettled (b : PacketBuffer) : Type 0 where
  pub waits : waits_by (cut_of b) (is_in_step b) (octets_held b) ≡ true
  pub few : length (octets_held b) < lookahead
  pub none : begins_by (cut_of b) (is_in_step b) (octets_held b) ≡ false
  pub last : is_ended b ≡ true → octets_held b ≡ []

-- ---- reads

-- octets were read, and are held behind the rest
pub record Adds (old new : PacketBuffer) (before after : Option (List ℕ))
    (read : List ℕ) : Type 0 where
  pub consumed : Consumes before after read
  pub behind : octets_held new ≡ octets_held old ++ read
  pub step : is_in_step new ≡ is_in_step old
  pub cut : cut_of new ≡ cut_of old

-- what a read gives: octets, or the end of the stream; or that it failed; if memory runs out,
-- octets were read and lost
abbrev pub Fills :
    Result Unit StreamFault → (old new : PacketBuffer) → (before after : Option (List ℕ))
    → (had failed : Bool) → Type 0
Fills (Ok _) old new before after had failed =
    (read : List ℕ) × Adds old new before after read × (failed ≡ had) × (length read ≤ 65536)
    × (((is_ended new ≡ false) × (0 < length read)) ⊎ ((is_ended new ≡ true) × IsAtEnd after))
Fills (Err faults.Read) old new before after had failed =
    Adds old new before after [] × (failed ≡ true)
Fills (Err faults.Memory) old new before after had failed =
    (lost : List ℕ) × Consumes before after lost × (failed ≡ had)
Fills (Err faults.Write) old new before after had failed = ⊥

-- octets were read, and behind the stream's end none
pub record Goes (old new : PacketBuffer) (before after : Option (List ℕ))
    (read : List ℕ) : Type 0 where
  pub added : Adds old new before after read
  pub stays : is_ended old ≡ true → (is_ended new ≡ true) × (read ≡ [])
  pub at_end : (is_ended old ≡ true → IsAtEnd before) → is_ended new ≡ true → IsAtEnd after

-- the last octets were asked for while those that were held before them left open what is in front,
-- and were fewer than those of two packets
abbrev pub IsAsked : Cut → (in_step : Bool) → (held read : List ℕ) → Type 0
IsAsked c s held read =
    (read ≡ [])
    ⊎ ((most : List ℕ) × (last : List ℕ) × (read ≡ most ++ last)
    × (waits_by c s (held ++ most) ≡ true)
    × (length (held ++ most) < lookahead) × (length last ≤ 65536))

-- a read failed while what was held left open what is in front
abbrev pub IsOpenAt : (old new : PacketBuffer) → (before after : Option (List ℕ)) → Type 0
IsOpenAt old new before after =
    (read : List ℕ) × Adds old new before after read × (is_ended old ≡ true → read ≡ [])
    × (waits_by (cut_of new) (is_in_step new) (octets_held new) ≡ true)

-- what a search for a piece gives: the one in front; or that none is left at the end of the stream;
-- or that a read failed
abbrev pub FindsPiece :
    Result (Option Found) StreamFault → (old new : PacketBuffer) → (before after : Option (List ℕ))
    → (had failed : Bool) → Type 0
FindsPiece (Ok (Some f)) old new before after had failed =
    (read : List ℕ) × Goes old new before after read × IsInFront new f × (failed ≡ had)
    × IsAsked (cut_of old) (is_in_step old) (octets_held old) read
FindsPiece (Ok None) old new before after had failed =
    (read : List ℕ) × Goes old new before after read × (octets_held new ≡ [])
    × (is_ended new ≡ true)
    × (failed ≡ had)
FindsPiece (Err faults.Read) old new before after had failed =
    IsOpenAt old new before after × (failed ≡ true)
FindsPiece (Err faults.Memory) old new before after had failed =
    (lost : List ℕ) × Consumes before after lost × (failed ≡ had)
FindsPiece (Err faults.Write) old new before after had failed = ⊥

-- what such a search gives if a sink passes on what it has kept back before each read: the same;
-- or that the sink failed, with all that was read held
abbrev pub FindsPassing :
    Result (Option Found) StreamFault → (old new : PacketBuffer) → (before after : Option (List ℕ))
    → (had failed : Bool) → Type 0
FindsPassing (Ok found) old new before after had failed =
    FindsPiece (Ok found) old new before after had failed
FindsPassing (Err faults.Read) old new before after had failed =
    FindsPiece (Err faults.Read) old new before after had failed
FindsPassing (Err faults.Write) old new before after had failed =
    (read : List ℕ) × Goes old new before after read × (failed ≡ had)
FindsPassing (Err faults.Memory) old new before after had failed =
    FindsPiece (Err faults.Memory) old new before after had failed
