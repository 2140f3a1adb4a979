-- What is found in packets.
use Rattle.std.specs.Prelude.{◌≡◌, ℕ, ◌+◌, Bool, true, false, List, [], ◌∷◌, Option, Some, None, is_err, is_ok, Result, Ok, Err}
use Rattle.lpt_stream.specs.declared.cut.Cut.TheVariants.{Framed}
use Rattle.lpt_stream.specs.Pieces.{Piece, CutsBy, packets_of, up_to_limit}
use Rattle.lpt_packet.specs.declared.fault.PacketFault.{PacketFault}
use Rattle.lpt_packet.specs.Packets.{Sight, IdlePacket, APacket}
use Rattle.lpt_layout.specs.declared.layout.Layout.{Layout}
use Rattle.lpt_layout.specs.Messages.{message_verdict}
use Rattle.lpt_layout.specs.Packets.{verdict_as}
use Rattle.lpt_carried.specs.declared.layouts.Layouts.{Layouts}
use Rattle.lpt_list.specs.declared.hints.Hint.{Hint}
use Rattle.lpt_list.specs.declared.told.Told.{Told}
use Rattle.lpt_list.specs.Hints.{hint_of, is_part_as}
use Rattle.lpt_list.specs.Said.{layout_in}

-- ---- what is found

-- whether octets fail a test of packets of their layout
abbrev pub is_refused_as : Layouts → List ℕ → Bool
is_refused_as l b = is_err (verdict_as (layout_in l b).packets.has_checksum b)

-- whether octets of this verdict are read by a layout
abbrev pub is_read_seen : Layout → Result Sight PacketFault → Bool
is_read_seen l (Ok IdlePacket) = true
is_read_seen l (Ok (APacket f)) = is_ok (message_verdict l f.kind f)
is_read_seen l (Err e) = false

-- whether they are read by the layout of their packet type
abbrev pub is_read_by : Layout → List ℕ → Bool
is_read_by l b = is_read_seen l (verdict_as l.has_checksum b)

abbrev pub is_read_as : Layouts → List ℕ → Bool
is_read_as l b = is_read_by (layout_in l b).packets b

-- one, if it holds
abbrev pub one_if : Bool → ℕ
one_if true = 1
one_if false = 0

-- the hint that was found, or that of octets more
abbrev pub hint_with : Layouts → List ℕ → Option Hint → Option Hint
hint_with l b (Some h) = Some h
hint_with l b None = hint_of l b

-- with octets more
abbrev pub told_with : Layouts → List ℕ → Told → Told
told_with l b t = record {
  refused = up_to_limit (t.refused + one_if (is_refused_as l b));
  parts = up_to_limit (t.parts + one_if (is_part_as l b));
  hint = hint_with l b t.hint;
}

-- nothing
abbrev pub told_none : Told
told_none = record { refused = 0; parts = 0; hint = None }

-- with packets more
abbrev pub told_after : Layouts → Told → List (List ℕ) → Told
told_after l t [] = t
told_after l t (b ∷ bs) = told_after l (told_with l b t) bs

-- what is found in octets: in the packets among them, as they are cut by the lengths that headers say
pub record IsTold (l : Layouts) (b : List ℕ) (told : Told) : Type 0 where
  pub pieces : List Piece
  pub cut : CutsBy Framed b pieces
  pub counted : told ≡ told_after l told_none (packets_of pieces)
