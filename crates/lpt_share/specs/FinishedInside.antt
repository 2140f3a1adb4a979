-- How it is found out which packets a run has taken: by marks.
use Rattle.std.specs.Prelude.{◌≡◌, ℕ, ◌+◌, nat_lt, Bool, true, false, not, ◌&&◌, get_or, if◌then◌else◌, List, [], ◌∷◌, length, set, Option, Some, None, ⊤}
use Rattle.lpt_events.specs.declared.entry.Entry.{Entry}
use Rattle.lpt_journal.specs.Link.{is_held}
use Rattle.lpt_world.specs.Worlds.{Shown, history}
use Rattle.lpt_events.specs.declared.log.SeatLog.{SeatLog}
use Rattle.lpt_share.specs.Finished.{is_let_off, packet_taken}

-- the marks with that of a packet that is taken
abbrev pub mark : Option ℕ → List Bool → List Bool
mark None ms = ms
mark (Some n) ms = if nat_lt n (length ms) then set ms n true else ms

-- the marks with those of the packets that these entries take
abbrev pub packets_marked : List Entry → List Bool → List Bool
packets_marked [] ms = ms
packets_marked (x ∷ xs) ms = packets_marked xs (mark (packet_taken x.event) ms)

-- whether a packet that is taken has a mark that isn't set yet
abbrev pub is_fresh : Option ℕ → List Bool → Bool
is_fresh None ms = true
is_fresh (Some n) ms = nat_lt n (length ms) && not (get_or ms n false)

-- whether each packet that these entries take has, one after the other
abbrev pub are_fresh : List Entry → List Bool → Bool
are_fresh [] ms = true
are_fresh (x ∷ xs) ms =
    is_fresh (packet_taken x.event) ms && are_fresh xs (mark (packet_taken x.event) ms)

-- each packet from this number on that is held has its mark, or those who take it are let off
abbrev pub AreMarked : ℕ → List SeatLog → Shown → ℕ → List Bool → Type 0
AreMarked limit logs w n [] = ⊤
AreMarked limit logs w n (m ∷ ms) =
    (is_held (history w) n ≡ true → is_let_off limit logs w.journal n ≡ false → m ≡ true)
    × AreMarked limit logs w (n + 1) ms
