-- What octets say of an end, and the first fault of octets that are no state of it.
use Rattle.std.specs.Prelude.{◌≡◌, ℕ, ◌+◌, ◌-◌, ◌*◌, ◌^◌, ◌==◌, nat_lt, Bool, not, ◌&&◌, if◌then◌else◌, List, [], ◌∷◌, length, take, drop, slice_index, Result, Ok, Err}
use Rattle.lpt_acts.specs.Acts.{limits_of}
use Rattle.lpt_events.specs.declared.config.Config.{Config}
use Rattle.lpt_events.specs.declared.side.Side.{Side}
use Rattle.lpt_ledger.specs.declared.run.NameRun.{NameRun}
use Rattle.lpt_ledger.specs.Runs.{ascend}
use Rattle.lpt_node.specs.Nodes.{NodeView}
use Rattle.lpt_packet.specs.Checksums.{checksum}
use Rattle.lpt_packet.specs.Numbers.{same_octets, word_at}
use Rattle.lpt_pus.specs.Numbers.{long_at}
use Rattle.lpt_state.specs.declared.fault.StateFault.{StateFault}
use Rattle.lpt_state.specs.declared.fault.StateFault.TheVariants as fault
use Rattle.lpt_state.specs.Lastings.{Lasting, after}
use Rattle.lpt_state.specs.Spellings.{around, config_octets, length_with, side_octet, tag, version}

-- ---- what stands at the places of a state

-- the 64-bit number at a place
abbrev pub great_at : List ℕ → ℕ → ℕ
great_at b i = 2 ^ 32 * long_at b i + long_at b (i + 4)

-- how many runs were sent, and how many received
abbrev pub sent_count : List ℕ → ℕ
sent_count b = great_at b 27

abbrev pub received_count : List ℕ → ℕ
received_count b = great_at b 35

-- the octets of all runs
abbrev pub runs_part : List ℕ → List ℕ
runs_part b = take (length b - around) (drop 43 b)

-- the run that stands at the front of octets
abbrev pub run_at : List ℕ → NameRun
run_at b = record { source = word_at b 0; first = word_at b 2; last = word_at b 4 }

-- the runs that octets say, six octets each
unfoldable pub runs_in : List ℕ → List NameRun
runs_in (a ∷ b ∷ c ∷ d ∷ e ∷ f ∷ rest) =
    record { source = 256 * a + b; first = 256 * c + d; last = 256 * e + f } ∷ runs_in rest
runs_in _ = []

-- what stands there
abbrev pub lasting_at : List ℕ → Lasting
lasting_at b = record {
  boot = great_at b 15;
  clock = long_at b 23;
  sent = runs_in (take (6 * sent_count b) (runs_part b));
  received = runs_in (drop (6 * sent_count b) (runs_part b));
}

-- ---- the tests, in their order

-- whether these octets stand at a place
abbrev pub stands_at : List ℕ → ℕ → List ℕ → Bool
stands_at b i octets = same_octets (take (length octets) (drop i b)) octets

-- whether the last two octets are the checksum of those before
abbrev pub is_sealed : List ℕ → Bool
is_sealed b = checksum (take (length b - 2) b) == word_at b (length b - 2)

-- the greatest number of a boot, which none follows
abbrev pub last_boot : ℕ
last_boot = 2 ^ 64 - 1

-- whether the runs of what outlasts ascend
abbrev pub both_ascend : Lasting → Bool
both_ascend s = ascend s.sent && ascend s.received

-- what octets say of an end of this side and configuration, or the first test that they fail
unfoldable pub verdict : Side → Config → List ℕ → Result Lasting StateFault
verdict side c b =
    if nat_lt (length b) around then Err fault.Short
    else if not (stands_at b 0 tag) then Err fault.Tag
    else if not (slice_index b 4 == version) then Err fault.Version
    else if not (length b == length_with (sent_count b + received_count b)) then Err fault.Length
    else if not (slice_index b 5 == side_octet side) then Err fault.Side
    else if not (stands_at b 6 (config_octets c)) then Err fault.Config
    else if not (is_sealed b) then Err fault.Checksum
    else if great_at b 15 == last_boot then Err fault.Boot
    else if not (both_ascend (lasting_at b)) then Err fault.Order
    else Ok (lasting_at b)

-- the end of this side and configuration once its state is read
abbrev pub end_after : Side → Config → Lasting → NodeView
end_after side c s = record { side = side; config = c; at = after (limits_of c) s }

-- a verdict in the words of the end that is made
abbrev pub verdict_told : Side → Config → Result Lasting StateFault → Result NodeView StateFault
verdict_told side c (Ok s) = Ok (end_after side c s)
verdict_told side c (Err e) = Err e

-- the end that octets say, or the first fault
abbrev pub reading : Side → Config → List ℕ → Result NodeView StateFault
reading side c b = verdict_told side c (verdict side c b)

-- the fault is the first, or out of memory if there is none
abbrev pub StateRefusedBy : Result NodeView StateFault → StateFault → Type 0
StateRefusedBy (Ok v) e = e ≡ fault.Memory
StateRefusedBy (Err first) e = e ≡ first
