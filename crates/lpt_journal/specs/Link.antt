-- The link: which packets were put on it, and which of them it holds.
use Rattle.std.specs.Prelude.{ℕ, nat_lt, ◌==◌, Bool, true, false, not, ◌&&◌, ◌||◌, if◌then◌else◌, List, [], ◌∷◌, length, map, slice_get, Option, Some, None}
use Rattle.std.specs.Option.{option_map_or}
use Rattle.lpt_packet.specs.declared.direction.Direction.{Direction}
use Rattle.lpt_packet.specs.Names.{Name}
use Rattle.lpt_events.specs.Lanes.{same_direction}
use Rattle.lpt_acts.specs.Acts.{Act, Send, Lose, Damage}
use Rattle.lpt_journal.specs.Journal.{SentPacket, History, with_all}

-- all packets put on the link, each at the place of its number
abbrev pub sent : History → List SentPacket
sent [] = []
sent (x ∷ h) = with_all (sent h) x.puts

-- the transaction of which an event puts a part; all else that is put is no part
abbrev pub tag_put : Act → Option Name
tag_put (Send d name k) = Some name
tag_put _ = None

-- of each packet the transaction of which it was put as a part
abbrev pub tags : History → List (Option Name)
tags [] = []
tags (x ∷ h) = with_all (tags h) (map (λ p. tag_put x.event) x.puts)

-- whether an event loses the packet numbered n
abbrev pub loses : Act → ℕ → Bool
loses (Lose k) n = n == k
loses _ n = false

-- whether the packet numbered n was lost
abbrev pub is_lost : History → ℕ → Bool
is_lost [] n = false
is_lost (x ∷ h) n = loses x.event n || is_lost h n

-- whether an event puts what the link's noise left
abbrev pub damages : Act → Bool
damages (Damage d b) = true
damages _ = false

-- whether the packet numbered n is what the link's noise left
abbrev pub is_damaged : History → ℕ → Bool
is_damaged [] n = false
is_damaged (x ∷ h) n =
    if nat_lt n (length (sent h)) then is_damaged h n
    else damages x.event && nat_lt n (length (sent (x ∷ h)))

-- whether the link holds the packet numbered n
abbrev pub is_held : History → ℕ → Bool
is_held h n = nat_lt n (length (sent h)) && not (is_lost h n)

-- whether the packet numbered n goes in this direction
abbrev pub goes : History → Direction → ℕ → Bool
goes h d n = option_map_or (λ p. same_direction p.direction d) (slice_get (sent h) n) false
