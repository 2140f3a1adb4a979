-- What stands at the front of a stream, found as it comes.
use Rattle.std.specs.Prelude.{◌≡◌, ◌⊎◌, ◌<◌, ◌≤◌, ◌-◌, ◌^◌, ◌++◌, ℕ, Bool, true, false, List, [], length, take, drop, Option, Some, None, Result, Ok, Err}
use Rattle.std.specs.Io.KnownBytes.{Consumes, IsAtEnd}
use Rattle.lpt_text.specs.declared.fault.StreamFault.{StreamFault}
use Rattle.lpt_text.specs.declared.fault.StreamFault.TheVariants as faults
use Rattle.lpt_stream.specs.Buffers.{cut_of, is_ended, is_in_step, octets_held}
use Rattle.lpt_stream.specs.Pieces.{LeadsBy, up_to_limit}
use Rattle.lpt_stream.specs.declared.buffer.PacketBuffer.{PacketBuffer}
use Rattle.lpt_stream.specs.declared.cut.Cut.TheVariants.{Resumed}
use Rattle.lpt_stream.specs.declared.found.Found.{Found}
use Rattle.lpt_spacecraft.specs.Streams.{StopsAt}
use Rattle.lpt_spacecraft.specs.Stretches.{Framed, Passed, Stretch, is_stray, strays_of, EndsStrays, IsStretch}
use Rattle.lpt_spacecraft.specs.declared.front.Front.{Front}
use Rattle.lpt_spacecraft.specs.declared.front.Front.TheVariants as fronts
use Rattle.lpt_spacecraft.specs.declared.passing.Passing.{Passing}

-- whether an octet that is astray was found
abbrev pub finds_stray : Option Found → Bool
finds_stray None = false
finds_stray (Some f) = is_stray f.kind

-- ---- reads

-- A buffer finds what is in front, and behind its stream's end nothing comes. It is in step if what
-- is no packet isn't passed over.
pub record IsCutting (p : Passing) (b : PacketBuffer) (after : Option (List ℕ)) : Type 0 where
  pub cut_is : cut_of b ≡ Resumed p.longest
  pub step_is : p.is_on ≡ false → is_in_step b ≡ true
  pub ends : is_ended b ≡ true → IsAtEnd after

-- octets were read, and behind the stream's end none
pub record ReadsOn (old new : PacketBuffer) (before after : Option (List ℕ)) (read : List ℕ) :
    Type 0 where
  pub consumed : Consumes before after read
  pub cut : cut_of new ≡ cut_of old
  pub stays : is_ended old ≡ true → (is_ended new ≡ true) × (read ≡ [])
  pub at_end : (is_ended old ≡ true → IsAtEnd before) → is_ended new ≡ true → IsAtEnd after

-- What a fault leaves that ends a search, behind what was held. A fault of a read: it has failed,
-- or so many octets were passed over.
abbrev pub SearchFails : StreamFault → (held : List ℕ) → (ended : Bool)
    → (before after : Option (List ℕ)) → (had failed : Bool) → Type 0
SearchFails faults.Read held ended before after had failed =
    (read : List ℕ) × Consumes before after read × (ended ≡ true → read ≡ [])
    × ((failed ≡ true) ⊎ (2 ^ 64 - 1 ≤ length (held ++ read)))
SearchFails faults.Write held ended before after had failed =
    (read : List ℕ) × Consumes before after read × (ended ≡ true → read ≡ [])
    × (failed ≡ had)
SearchFails faults.Memory held ended before after had failed =
    (lost : List ℕ) × Consumes before after lost × (failed ≡ had)

-- ---- octets astray

-- the first n of these octets are astray, and no more behind them, whatever comes, or at the
-- stream's end nothing
abbrev pub RunsTo : Passing → (in_step ended : Bool) → (n : ℕ) → List ℕ → (at_last : Bool) → Type 0
RunsTo p s ended n b t =
    (more : List ℕ) → (ended ≡ true → more ≡ [])
    → LeadsBy (Resumed p.longest) s (b ++ more) (strays_of (take n b)) t (drop n b ++ more)
    × EndsStrays p t (drop n b ++ more)

-- what passing over them gives: how many they are
abbrev pub PassesOver : Passing → Result ℕ StreamFault → (old new : PacketBuffer)
    → (before after : Option (List ℕ)) → (had failed : Bool) → Type 0
PassesOver p (Ok len) old new before after had failed =
    (read : List ℕ) × ReadsOn old new before after read
    × (octets_held new ≡ drop len (octets_held old ++ read))
    × (0 < len) × (len ≤ length (octets_held old ++ read))
    × RunsTo p (is_in_step old) (is_ended new) len (octets_held old ++ read) (is_in_step new)
    × (failed ≡ had)
PassesOver p (Err fault) old new before after had failed =
    SearchFails fault (octets_held old) (is_ended old) before after had failed

-- ---- what stands in front

-- a stretch stands in front of these octets, with others behind it, whatever comes behind, or at
-- the stream's end nothing
abbrev pub StandsSo : Passing → (in_step ended : Bool) → List ℕ → Stretch → (at_last : Bool)
    → (rest : List ℕ) → Type 0
StandsSo p s ended b x t rest =
    (more : List ℕ) → (ended ≡ true → more ≡ []) → IsStretch p s (b ++ more) x t (rest ++ more)

-- What stands in front of these octets, at this place: a packet, which is held; a run, which was
-- passed over; or nothing, and the stream stops there.
abbrev pub Stands : Passing → (place : ℕ) → Front → (in_step : Bool) → (b : List ℕ)
    → PacketBuffer → (after : Option (List ℕ)) → Type 0
Stands p place (fronts.Packet len) s b new after =
    (octets_held new ≡ b) × (len ≤ length (octets_held new))
    × StandsSo p s (is_ended new) (octets_held new) (Framed (take len (octets_held new))) true
    (drop len (octets_held new))
Stands p place (fronts.Strays len) s b new after =
    (octets_held new ≡ drop len b) × (len ≤ length b)
    × StandsSo p s (is_ended new) b (Passed (take len b)) (is_in_step new) (drop len b)
Stands p place (fronts.Stop stop) s b new after =
    (n : ℕ) → place ≡ up_to_limit n → StopsAt p stop n b after

-- what a search for that gives
abbrev pub FindsFront : Passing → (place : ℕ) → Result Front StreamFault
    → (old new : PacketBuffer) → (before after : Option (List ℕ)) → (had failed : Bool) → Type 0
FindsFront p place (Ok front) old new before after had failed =
    (read : List ℕ) × ReadsOn old new before after read × IsCutting p new after
    × Stands p place front (is_in_step old) (octets_held old ++ read) new after × (failed ≡ had)
FindsFront p place (Err fault) old new before after had failed =
    SearchFails fault (octets_held old) (is_ended old) before after had failed
