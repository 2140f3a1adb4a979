-- When what became whole needn't be all that is wanted.
use Rattle.std.specs.Prelude.{◌==◌, ◌&&◌, ◌||◌, not, is_none, Bool}
use Rattle.lpt_carried.specs.declared.skips.Skips.{Skips}
use Rattle.lpt_carried.specs.declared.wanted.Wanted.{Wanted}

-- whether reading ended at octets that are no packet: without checksums no next one is found
abbrev pub is_cut_short : Wanted → Skips → Bool
is_cut_short w s = not w.reading.layout.has_checksum && not (s.stray == 0)

-- whether parts weren't read that may be of any message, if any is wanted
abbrev pub leaves_unread : Wanted → Skips → Bool
leaves_unread w s = is_none w.name && not (s.unread == 0)

-- whether messages that are wanted may be lost in what was passed over
abbrev pub loses : Wanted → Skips → Bool
loses w s = is_cut_short w s || leaves_unread w s
