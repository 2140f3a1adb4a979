-- What is made of a stream's packets before any of it is written.
use Rattle.std.specs.Prelude.{◌≡◌, ◌≢◌, ◌⊎◌, ◌<◌, ◌≤◌, ◌+◌, ℕ, List, length, Option, Result, Ok, Err}
use Rattle.std.specs.Io.KnownBytes.{Appends, Consumes}
use Rattle.lpt_packet.specs.Numbers.{IsOctets}
use Rattle.lpt_split.specs.Forms.{packets_in}
use Rattle.lpt_stream.specs.declared.piece_kind.PieceKind.{PieceKind}
use Rattle.lpt_stream.specs.declared.piece_kind.PieceKind.TheVariants.{Whole}
use Rattle.lpt_stream.specs.Streams.{all_octets}
use Rattle.lpt_text.specs.declared.fault.StreamFault.{StreamFault}
use Rattle.lpt_split.specs.MessagesEach.{IsMessage}
use Rattle.lpt_split.specs.Shares.{AreAll}
use Rattle.lpt_split.specs.Streams.{end_at, identifiers, EndsAt, ReadsMessages}
use Rattle.lpt_split.specs.declared.each_wanted.EachWanted.{EachWanted}
use Rattle.lpt_split.specs.declared.ending.EachEnd.{EachEnd}
use Rattle.lpt_split.specs.declared.ending.EachEnd.TheVariants.{NoIdentifier, NoMessage}
use Rattle.lpt_split.specs.declared.ending.EachSplit.{EachSplit}

-- It ends so before a piece of this kind and these octets, in front of what is held: that is no
-- packet; or no identifier is left for it; or it is no message.
abbrev pub EndsBefore : EachWanted → (next place : ℕ) → PieceKind → (m held : List ℕ) → EachEnd
    → Type 0
EndsBefore w next place kind m held end =
    ((kind ≢ Whole) × IsOctets held × (end ≡ end_at place held))
    ⊎ ((kind ≡ Whole) × (((identifiers w ≤ next) × (end ≡ NoIdentifier place))
    ⊎ ((next < identifiers w) × (IsMessage w.writing m → ⊥) × (end ≡ NoMessage place))))

-- what is wanted of the messages before the place where it ends; if work broke off, anything
abbrev pub MakesPackets : EachWanted → Result EachSplit StreamFault
    → (before after old new : Option (List ℕ)) → Type 0
MakesPackets w (Ok s) before after old new =
    ReadsMessages w.writing before after (λ ms rest.
    (s.next ≡ w.id + length ms)
    × ((behind : ℕ) × (packets : List (List ℕ)) × AreAll w w.id w.first ms behind packets
    × EndsAt w s.next behind (length (all_octets ms)) s.end rest after
    × Appends old new (packets_in w.writing.form w.writing.clock packets)))
MakesPackets w (Err e) before after old new = (stream : List ℕ) × Consumes before after stream
