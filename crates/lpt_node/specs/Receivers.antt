-- What receives at one end, and what it makes of a part that is delivered to it.
use Rattle.std.specs.Prelude.{Bool, true, false, ◌≡◌, ℕ, ◌≤◌, if◌then◌else◌, List, length, Option, Some, None, refl}
use Rattle.std.specs.Coded.{Coded, code_by, coded×, coded_ℕ}
use Rattle.std.specs.FinMap as map
use Rattle.lpt_packet.specs.Names.{Name}
use Rattle.lpt_packet.specs.Packets.{spelling}
use Rattle.lpt_pus.specs.Telemetry.{Telemetry, tm_packet_of}
use Rattle.lpt_part.specs.declared.reason.Reason.{Reason}
use Rattle.lpt_events.specs.NamedParts.{NamedPart}
use Rattle.lpt_part.specs.Aborts.{abort_body}
use Rattle.lpt_ledger.specs.declared.state.State.{State}
use Rattle.lpt_ledger.specs.declared.state.State.TheVariants.{Free, Open, Closed}
use Rattle.lpt_ledger.specs.Marks.{Marks, Shut, coded_marks}
use Rattle.lpt_ledger.specs.States.{state_at, is_free}
use Rattle.lpt_part.specs.declared.mode.Mode.{Mode}
use Rattle.lpt_reception.specs.Codes.{coded_mode}
use Rattle.lpt_part.specs.declared.reason.Reason.TheVariants as reason
use Rattle.lpt_reception.specs.Received.{Kept, Parts, with_part, spelled}
use Rattle.lpt_table.specs.Tables.{Entries, TableEntry, TableState, coded_entries}
use Rattle.lpt_table.specs.Offering.{OfferKind, parts_at, part_offered}
use Rattle.lpt_table.specs.Offering as offering
use Rattle.lpt_node.specs.declared.receipt.Receipt.{Receipt}
use Rattle.lpt_packet.specs.Sizes.{longest_packet}
use Rattle.lpt_node.specs.declared.receipt.Receipt.TheVariants as receipt

-- how many receptions may be open, the timeout in ticks, the part size, the state of each name,
-- and the open receptions
pub record ReceiverState : Type 0 where
  pub limit : ℕ
  pub timeout : ℕ
  pub p : ℕ
  pub mode : Mode
  pub ledger : Marks
  pub entries : Entries

-- the code of a receiver
abbrev pub coded_receiver : Coded ReceiverState
coded_receiver =
    code_by (ℕ × (ℕ × (ℕ × (Mode × (Marks × Entries)))))
    (coded× coded_ℕ (coded× coded_ℕ (coded× coded_ℕ (coded× coded_mode (coded× coded_marks coded_entries)))))
    (λ r. (r.limit, (r.timeout, (r.p, (r.mode, (r.ledger, r.entries))))))
    (λ x. record { limit = x.0; timeout = x.1.0; p = x.1.1.0; mode = x.1.1.1.0; ledger = x.1.1.1.1.0; entries = x.1.1.1.1.1 })
    (λ _. refl)

-- the open receptions as a table, none of them out
abbrev pub table_in : ReceiverState → TableState
table_in r =
    record { limit = r.limit; timeout = r.timeout; p = r.p; mode = r.mode; entries = r.entries; out = None }

-- a name is free if a reception of it is open, and is never open
abbrev pub IsTied : State → Option TableEntry → Type 0
IsTied Free e = Unit {0}
IsTied Open e = ⊥
IsTied Closed e = e ≡ None

-- each name's state and reception are tied
abbrev pub AllTied : Marks → Entries → Type 0
AllTied m es = (name : Name) → IsTied (state_at m name) (map.get es name)

-- what always holds of a receiver: no reception is out of the table, and all names are tied
pub record IsReceiver (m : Marks) (t : TableState) : Type 0 where
  pub settled : t.out ≡ None
  pub tied : AllTied m t.entries

-- ---- reports

-- the report that a reception was broken off, with this head
abbrev pub abort_packet : Telemetry → Name → Reason → List ℕ
abort_packet head name reason = spelling (tm_packet_of (record head { body = abort_body name.id reason }))

-- the report that a reception was broken off, if reports have a head
abbrev pub abort_report : Option Telemetry → Name → Reason → Option (List ℕ)
abort_report None name reason = None
abort_report (Some head) name reason = Some (abort_packet head name reason)

-- ---- parts

-- what is kept of a part besides its number
abbrev pub kept_of : NamedPart → Kept
kept_of q = record { kind = q.kind; octets = q.octets }

-- the parts that are kept under a part's name, with it
abbrev pub parts_with : TableState → NamedPart → Parts
parts_with t q = with_part (parts_at t q.name) q.number (kept_of q)

-- a reception has ended: its name is closed, and nothing is kept under it
abbrev pub reception_ended : ReceiverState → Name → ReceiverState
reception_ended r name =
    record r { ledger = map.insert r.ledger name Shut; entries = map.remove r.entries name }

-- what an offer came to, and these receptions with it; the part's reception has these parts with
-- it, and reports of abortions have this head, or none is made
abbrev pub after_offer : Option Telemetry
    → ReceiverState
    → Name
    → Parts
    → OfferKind
    → Entries
    → ReceiverState × Receipt
after_offer head r name parts offering.Kept es = (record r { entries = es }, receipt.Kept)
after_offer head r name parts offering.Again es = (record r { entries = es }, receipt.Again)
after_offer head r name parts offering.Gap es = (
  reception_ended r name,
  receipt.Conflict reason.Discontinuity
      (abort_report head name reason.Discontinuity),
)
after_offer head r name parts offering.NoRoom es = (r, receipt.NoRoom)
after_offer head r name parts offering.Whole es =
    (reception_ended r name, receipt.Whole (spelled parts))
after_offer head r name parts (offering.Conflict reason) es =
    (reception_ended r name, receipt.Conflict reason (abort_report head name reason))

-- the same, of both together
abbrev pub received_from : Option Telemetry
    → ReceiverState
    → Name
    → Parts
    → OfferKind × TableState
    → ReceiverState × Receipt
received_from head r name parts o = after_offer head r name parts o.0 o.1.entries

-- a part is taken if its name is free
abbrev pub if_free : State → ReceiverState → ReceiverState × Receipt → ReceiverState × Receipt
if_free s r x = if is_free s then x else (r, receipt.Closed)

-- what a receiver makes of a part at this tick
unfoldable pub part_received : Option Telemetry → ReceiverState → NamedPart → ℕ → ReceiverState
    × Receipt
part_received head r q now =
    if_free (state_at r.ledger q.name) r
    (received_from head r q.name (parts_with (table_in r) q)
    (part_offered (table_in r) q.name q.number (kept_of q) now))

-- what is fixed of a receiver stays
pub record IsSameReceiver (old new : ReceiverState) : Type 0 where
  pub limit : new.limit ≡ old.limit
  pub timeout : new.timeout ≡ old.timeout
  pub p : new.p ≡ old.p
  pub mode : new.mode ≡ old.mode

-- whether memory is taken for it: a part is kept, a message let out, or a reception broken off
abbrev pub grows : Receipt → Bool
grows receipt.Closed = false
grows receipt.Kept = true
grows receipt.Again = false
grows receipt.NoRoom = false
grows (receipt.Whole m) = true
grows (receipt.Conflict reason packet) = true

-- a message that was taken as whole is no longer than a packet
abbrev pub IsShort : Receipt → Type 0
IsShort receipt.Closed = Unit {0}
IsShort receipt.Kept = Unit {0}
IsShort receipt.Again = Unit {0}
IsShort receipt.NoRoom = Unit {0}
IsShort (receipt.Whole m) = length m ≤ longest_packet
IsShort (receipt.Conflict reason packet) = Unit {0}
