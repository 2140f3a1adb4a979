-- What a link counts of each transaction.
use Rattle.std.specs.Prelude.{◌≡◌, ℕ, ◌&&◌}
use Rattle.std.specs.List.{count_by}
use Rattle.lpt_packet.specs.Names.{Name}
use Rattle.lpt_packet.specs.declared.direction.Direction.{Direction}
use Rattle.lpt_link.specs.Counts.{LinkCounts, count_of}
use Rattle.lpt_link.specs.Links.{LinkData, is_of}

-- how many held packets are a part of this transaction
abbrev pub held_of : LinkData → Direction → Name → ℕ
held_of d direction name = count_by (λ p. p.held && is_of direction name p) d.packets

-- the numbers are how many held packets are of each transaction
abbrev pub IsIndex : LinkCounts → LinkData → Type 0
IsIndex counts d =
    (direction : Direction) (name : Name) → count_of counts direction name
    ≡ held_of d direction name
