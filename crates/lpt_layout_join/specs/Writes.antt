-- How a message is joined from one stream to another.
use Rattle.std.specs.Prelude.{◌≡◌, ◌⊎◌, ℕ, Bool, true, false, if◌then◌else◌, ◌||◌, List, length, Option, Some, None, is_some, Result, Ok, Err}
use Rattle.std.specs.Io.KnownBytes.{Appends, Consumes, IsAtEnd}
use Rattle.std.specs.Option.{option_or}
use Rattle.lpt_layout.specs.Messages.{is_kind}
use Rattle.lpt_layout.specs.Packets.{verdict_as}
use Rattle.lpt_packet.specs.declared.direction.Direction.{Direction}
use Rattle.lpt_packet.specs.declared.fault.PacketFault.{PacketFault}
use Rattle.lpt_packet.specs.declared.packet.PacketKind.{PacketKind}
use Rattle.lpt_packet.specs.Packets.{Sight, IdlePacket, APacket}
use Rattle.lpt_carried.specs.declared.wanted.Wanted.{Wanted}
use Rattle.lpt_carried.specs.Tallies.{skips_of}
use Rattle.lpt_stream.specs.declared.cut.Cut.{Cut}
use Rattle.lpt_stream.specs.Pieces.{CutsBy, Piece, packets_of}
use Rattle.lpt_text.specs.Streams.{AppendsPart}
use Rattle.lpt_text.specs.declared.fault.StreamFault.{StreamFault}
use Rattle.lpt_text.specs.declared.fault.StreamFault.TheVariants as faults
use Rattle.lpt_carried.specs.declared.name.Name.{Name}
use Rattle.lpt_carried.specs.declared.reading.Reading.{Reading}
use Rattle.lpt_carried.specs.Carried.{cut, kind_to}
use Rattle.lpt_layout_join.specs.declared.gathering.Gathering.{Gathering}
use Rattle.lpt_layout_join.specs.declared.gatherings.Gatherings.{Gatherings}
use Rattle.lpt_layout_join.specs.declared.ending.JoinEnd.{JoinEnd}
use Rattle.lpt_layout_join.specs.declared.ending.JoinEnd.TheVariants.{Written, Unfit, Missing, BrokenOff}
use Rattle.lpt_layout_join.specs.declared.ending.JoinReport.{JoinReport}
use Rattle.lpt_layout_join.specs.declared.ending.MisfitAs.{MisfitAs}
use Rattle.lpt_layout_join.specs.declared.ending.MisfitAs.TheVariants.{NoPacket, OtherKind, Unsure}
use Rattle.lpt_layout_join.specs.Came.{message_of}
use Rattle.lpt_layout_join.specs.Gathered.{Gathered, parts_gathered}
use Rattle.lpt_layout_join.specs.Gatherings.{GivesEach, IsOnly, NoneIsOnly}

-- ---- what is fit

-- why a packet of this type is none of the direction, if it isn't
abbrev pub kind_misfit : Direction → PacketKind → Option MisfitAs
kind_misfit d kind = if is_kind (kind_to d) kind then None else Some OtherKind

-- why what is seen as this is no packet of the direction, if it isn't
abbrev pub sight_misfit : Reading → Result Sight PacketFault → Option MisfitAs
sight_misfit r (Err e) = Some (NoPacket e)
sight_misfit r (Ok IdlePacket) = Some OtherKind
sight_misfit r (Ok (APacket f)) = kind_misfit r.direction f.kind

-- why octets are no packet of the layout and the direction, if they aren't
abbrev pub misfit : Reading → List ℕ → Option MisfitAs
misfit r m = sight_misfit r (verdict_as r.layout.has_checksum m)

-- or, if packets have no checksum that tells a mixture, that they may be joined of parts of
-- several: unless it is sure that they aren't
abbrev pub unsure : Reading → (sure : Bool) → Option MisfitAs
unsure r sure = if r.layout.has_checksum || sure then None else Some Unsure

-- the same, if not any octets are taken
abbrev pub unfit : Reading → (any sure : Bool) → List ℕ → Option MisfitAs
unfit r any sure m = if any then None else option_or (misfit r m) (unsure r sure)

-- ---- how it ends

-- how it ends, of a message that is joined: written, unless it isn't fit
abbrev pub end_whole : List ℕ → (unfit : Option MisfitAs) → JoinEnd
end_whole m None = Written (length m)
end_whole m (Some e) = Unfit e

-- of parts that are none: some are missing, or one contradicts the others
abbrev pub end_missing : (broken : Bool) → JoinEnd
end_missing false = Missing
end_missing true = BrokenOff

-- how it ends, if the message is whole, and if it isn't
abbrev pub end_by : Reading → (any sure broken : Bool) → Option (List ℕ) → JoinEnd
end_by r any sure broken (Some m) = end_whole m (unfit r any sure m)
end_by r any sure broken None = end_missing broken

-- how it ends of what packets gave
abbrev pub end_of : Reading → (any : Bool) → Gathered → JoinEnd
end_of r any g = end_by r any g.sure (is_some g.came.against) (message_of g.came.parts)

-- the message is written, if it ends so, and else nothing
abbrev pub WritesEnd : JoinEnd → (m : Option (List ℕ)) → (old new : Option (List ℕ)) → Type 0
WritesEnd (Written n) (Some m) old new = Appends old new m
WritesEnd (Written n) None old new = ⊥
WritesEnd (Unfit e) m old new = new ≡ old
WritesEnd Missing m old new = new ≡ old
WritesEnd BrokenOff m old new = new ≡ old

-- it ends so, and that is written
pub record Ends (r : Reading) (any : Bool) (g : Gathered) (end : JoinEnd)
    (old new : Option (List ℕ)) : Type 0 where
  pub end_is : end ≡ end_of r any g
  pub writes : WritesEnd end (message_of g.came.parts) old new

-- a front part of a message was written that is fit
pub record EndsPart (r : Reading) (any : Bool) (g : Gathered)
    (old new : Option (List ℕ)) : Type 0 where
  pub message : List ℕ
  pub whole : message_of g.came.parts ≡ Some message
  pub fit : unfit r any g.sure message ≡ None
  pub part : AppendsPart old new message

-- nothing was written; or a write failed, behind a front part of the message
abbrev pub EndsFailed : Reading → (any : Bool) → Gathered → StreamFault
    → (old new : Option (List ℕ)) → Type 0
EndsFailed r any g faults.Write old new = EndsPart r any g old new
EndsFailed r any g faults.Read old new = new ≡ old
EndsFailed r any g faults.Memory old new = new ≡ old

-- ---- of a stream

-- this is kept of the only transaction, and it ends so; or there isn't just one
abbrev pub EndsOnly : Reading → (any : Bool) → List Piece → Gatherings → Option JoinEnd
    → (old new : Option (List ℕ)) → Type 0
EndsOnly r any ps gs (Some end) old new =
    (n : Name) × (g : Gathering) × IsOnly gs n g
    × Ends r any (parts_gathered r n (packets_of ps)) end old new
EndsOnly r any ps gs None old new = NoneIsOnly gs × (new ≡ old)

-- how the join of the transaction ends that was asked for, or of the only one
abbrev pub EndsAs : Wanted → (any : Bool) → (name : Option Name) → List Piece → Gatherings
    → Option JoinEnd → (old new : Option (List ℕ)) → Type 0
EndsAs w any (Some n) ps gs (Some end) old new =
    Ends w.reading any (parts_gathered w.reading n (packets_of ps)) end old new
EndsAs w any (Some n) ps gs None old new = ⊥
EndsAs w any None ps gs end old new = EndsOnly w.reading any ps gs end old new

-- so was written what the packets among these pieces give; this is kept of each transaction, and
-- that was passed over
pub record Reports (w : Wanted) (any : Bool) (ps : List Piece) (j : JoinReport)
    (old new : Option (List ℕ)) : Type 0 where
  pub gives : GivesEach w.reading w.name ps j.gatherings
  pub skips_are : j.skips ≡ skips_of w ps
  pub ends : EndsAs w any w.name ps j.gatherings j.end old new

-- a stream was read to its end, and this holds of the pieces that it is cut into
abbrev pub ReadsCut : Cut → (before after : Option (List ℕ)) → (List Piece → Type 0) → Type 0
ReadsCut cut before after P =
    (stream : List ℕ) × (pieces : List Piece)
    × Consumes before after stream × IsAtEnd after × CutsBy cut stream pieces × P pieces

-- a stream was read to its end, and that is told of its pieces
abbrev pub JoinsTo : Wanted → (any : Bool) → JoinReport → (before after old new : Option (List ℕ))
    → Type 0
JoinsTo w any j before after old new =
    ReadsCut (cut w.reading) before after (λ ps. Reports w any ps j old new)

-- a write failed behind a front part of the message that was asked for, or of the only one
abbrev pub LeavesAs : Wanted → (any : Bool) → (name : Option Name) → List Piece
    → (old new : Option (List ℕ)) → Type 0
LeavesAs w any (Some n) ps old new =
    EndsPart w.reading any (parts_gathered w.reading n (packets_of ps)) old new
LeavesAs w any None ps old new =
    (gs : Gatherings) × GivesEach w.reading None ps gs × (n : Name) × (g : Gathering)
    × IsOnly gs n g × EndsPart w.reading any (parts_gathered w.reading n (packets_of ps)) old new

-- nothing was written; or a write failed so
abbrev pub ChosenFails : Wanted → (any : Bool) → List Piece → StreamFault
    → (old new : Option (List ℕ)) → Type 0
ChosenFails w any ps faults.Write old new = LeavesAs w any w.name ps old new
ChosenFails w any ps faults.Read old new = new ≡ old
ChosenFails w any ps faults.Memory old new = new ≡ old

-- nothing was written; or a write failed, behind a front part of the message
abbrev pub JoinLeaves : Wanted → (any : Bool) → StreamFault
    → (before after old new : Option (List ℕ)) → Type 0
JoinLeaves w any faults.Write before after old new =
    ReadsCut (cut w.reading) before after (λ ps. LeavesAs w any w.name ps old new)
JoinLeaves w any faults.Read before after old new = new ≡ old
JoinLeaves w any faults.Memory before after old new = new ≡ old

-- nothing was written, or a packet of the layout and the direction
abbrev pub WritesFit : Reading → (old new : Option (List ℕ)) → Type 0
WritesFit r old new =
    (new ≡ old) ⊎ ((m : List ℕ) × (misfit r m ≡ None) × Appends old new m)
