-- How many pieces of a stream are passed over, and why.
use Rattle.std.specs.Prelude.{ℕ, ◌+◌, List, [], ◌∷◌, length, Some, None}
use Rattle.std.specs.Option.{option_or}
use Rattle.lpt_stream.specs.Pieces.{Piece, up_to_limit}
use Rattle.lpt_carried.specs.declared.wanted.Wanted.{Wanted}
use Rattle.lpt_carried.specs.declared.skips.Skips.{Skips}
use Rattle.lpt_carried.specs.declared.why.Why.{Why}
use Rattle.lpt_carried.specs.declared.why.Why.TheVariants.{Taken, Damaged, Stray, OtherApid, OtherDirection, NoNumber, Unread, OtherName, NoPart}
use Rattle.lpt_carried.specs.Skipping.{why}

-- a count and so many more, up to the greatest of 64 bits
abbrev pub count_raised : ℕ → ℕ → ℕ
count_raised count more = up_to_limit (count + more)

-- before any piece
abbrev pub nothing_noted : Skips
nothing_noted = record {
  octets = 0;
  of_others = 0;
  apid = None;
  turned = 0;
  zeros = 0;
  unread = 0;
  part_size = None;
  unread_at = None;
  unnamed = 0;
  name = None;
  bare = 0;
  damaged = 0;
  stray = 0;
  stray_at = None;
}

-- with one more that is passed over for this reason, or isn't; behind the octets that came
abbrev pub with_why : Skips → Why → Skips
with_why s Taken = s
with_why s Damaged = record s { damaged = count_raised s.damaged 1 }
with_why s (Stray octets) = record s {
  stray = count_raised s.stray octets;
  stray_at = option_or s.stray_at (Some s.octets);
}
with_why s (OtherApid apid) =
    record s { of_others = count_raised s.of_others 1; apid = option_or s.apid (Some apid) }
with_why s OtherDirection = record s { turned = count_raised s.turned 1 }
with_why s NoNumber = record s { zeros = count_raised s.zeros 1 }
with_why s (Unread size) = record s {
  unread = count_raised s.unread 1;
  part_size = option_or s.part_size size;
  unread_at = option_or s.unread_at (Some s.octets);
}
with_why s (OtherName name) =
    record s { unnamed = count_raised s.unnamed 1; name = option_or s.name (Some name) }
with_why s NoPart = record s { bare = count_raised s.bare 1 }

-- with so many octets more
abbrev pub with_octets : Skips → ℕ → Skips
with_octets s n = record s { octets = count_raised s.octets n }

-- with this piece
abbrev pub piece_noted : Wanted → Skips → Piece → Skips
piece_noted w s p = with_octets (with_why s (why w p)) (length p.octets)

-- with these pieces, one after the other
abbrev pub noted_all : Wanted → Skips → List Piece → Skips
noted_all w s [] = s
noted_all w s (p ∷ ps) = noted_all w (piece_noted w s p) ps

-- what is noted of these pieces
abbrev pub skips_of : Wanted → List Piece → Skips
skips_of w ps = noted_all w nothing_noted ps
