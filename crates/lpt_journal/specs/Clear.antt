-- Whether a transaction is clear: no part of it is on its way, and neither end has it open.
use Rattle.std.specs.Prelude.{ℕ, zero, suc, Bool, false, not, ◌&&◌, ◌||◌, length, Some, slice_get}
use Rattle.std.specs.List.{list_any}
use Rattle.std.specs.Option.{option_map_or, option_eq}
use Rattle.lpt_packet.specs.declared.direction.Direction.{Direction}
use Rattle.lpt_packet.specs.Names.{Name, same_name}
use Rattle.lpt_events.specs.Arrivals.{part_name}
use Rattle.lpt_events.specs.Lanes.{lanes, same_direction}
use Rattle.lpt_events.specs.declared.config.Config.{Config}
use Rattle.lpt_journal.specs.Hands.{hand, arrival_of}
use Rattle.lpt_journal.specs.Journal.{SentPacket, History}
use Rattle.lpt_journal.specs.Link.{sent, is_held}
use Rattle.lpt_journal.specs.Receivers.{heard, has_parts}
use Rattle.lpt_journal.specs.Senders.{sender, is_open}

-- whether a number below n passes a test
abbrev pub any_below : (ℕ → Bool) → ℕ → Bool
any_below test zero = false
any_below test (suc n) = any_below test n || test n

-- whether a packet is a part of this transaction to the node that receives it
abbrev pub is_part_of : Config → Direction → Name → SentPacket → Bool
is_part_of c d name p =
    same_direction p.direction d && option_eq same_name (part_name (arrival_of c p)) (Some name)

-- whether the packet numbered n is
abbrev pub is_part_at : Config → History → Direction → Name → ℕ → Bool
is_part_at c h d name n = option_map_or (is_part_of c d name) (slice_get (sent h) n) false

-- whether a held packet is
abbrev pub part_held : Config → History → Direction → Name → Bool
part_held c h d name = any_below (λ n. is_held h n && is_part_at c h d name n) (length (sent h))

-- whether a packet in a hand is
abbrev pub part_in_hand : Config → History → Direction → Name → Bool
part_in_hand c h d name =
    list_any (λ l. option_map_or (is_part_at c h d name) (hand h l) false) lanes

-- whether no part of it is held or in a hand, its receiver has no part of it, and its sender isn't open
abbrev pub is_clear : Config → History → Direction → Name → Bool
is_clear c h d name =
    not (part_held c h d name || part_in_hand c h d name)
    && not (has_parts (heard c h d name))
    && not (is_open (sender h d name))
