-- What a table makes of a part that is offered to it.
use Rattle.std.specs.Prelude.{◌≡◌, ℕ, Bool, if◌then◌else◌, not, ◌&&◌, nat_le, Option, Some, None, is_some}
use Rattle.std.specs.Option.{option_map}
use Rattle.std.specs.FinMap as map
use Rattle.lpt_packet.specs.Names.{Name}
use Rattle.lpt_part.specs.declared.reason.Reason.{Reason}
use Rattle.lpt_part.specs.declared.reason.Reason.TheVariants as reason
use Rattle.lpt_reception.specs.Received.{Kept as KeptPart, Parts, Received, no_parts, with_part, contradicts, is_gap, is_whole}
use Rattle.lpt_table.specs.Tables.{TableEntry, TableState}

-- whether a reception of this name is open
abbrev pub is_open : TableState → Name → Bool
is_open t name = is_some (map.get t.entries name)

-- whether no reception of this name is open and as many are open as the limit
abbrev pub is_full : TableState → Name → Bool
is_full t name = not (is_open t name) && nat_le t.limit (map.len t.entries)

-- the parts of a reception, or none
abbrev pub parts_of : Option TableEntry → Parts
parts_of None = no_parts
parts_of (Some e) = e.parts

-- the parts that are kept under a name
abbrev pub parts_at : TableState → Name → Parts
parts_at t name = parts_of (map.get t.entries name)

-- what is kept under a name
abbrev pub received_at : TableState → Name → Received
received_at t name = record { id = name.id; p = t.p; parts = parts_at t name }

-- these parts are kept under a name, and this is their last tick
abbrev pub with_entry : TableState → Name → Parts → ℕ → TableState
with_entry t name parts last =
    record t { entries = map.insert t.entries name (record { parts = parts; last = last }) }

-- the reception of a name is taken out, and its last tick is remembered
pub record TakesOut (old new : TableState) (name : Name) : Type 0 where
  pub entry : TableEntry
  pub was : map.get old.entries name ≡ Some entry
  pub now : new
      ≡ record old { entries = map.remove old.entries name; out = Some (name, entry.last) }

-- the last tick of the reception that is out, and 0 if none is, which no call reads
abbrev pub last_out : Option (Name × ℕ) → ℕ
last_out None = 0
last_out (Some o) = o.1

-- the reception that is out is put back with these parts, under its name and its old last tick
abbrev pub put_back : TableState → Name → Parts → TableState
put_back t name parts = record (with_entry t name parts (last_out t.out)) { out = None }

-- what an offer comes to, out of memory aside
pub data OfferKind : Type 0 where
  Kept : OfferKind
  Again : OfferKind
  Whole : OfferKind
  Conflict : Reason → OfferKind
  Gap : OfferKind
  NoRoom : OfferKind

-- the reception of a name, if one is open, is taken out, and its last tick is remembered
abbrev pub taken_out : TableState → Name → TableState
taken_out t name =
    record t {
      entries = map.remove t.entries name;
      out = option_map (λ e. (name, e.last)) (map.get t.entries name);
    }

-- what an offer of a part that isn't the next one comes to: its reception is broken off, if one is
-- open
abbrev pub at_gap : TableState → Name → OfferKind × TableState
at_gap t name =
    if is_open t name then (Conflict reason.Discontinuity, taken_out t name) else (Gap, t)

-- what an offer of part n of a transaction comes to, and what it makes of the table, if there is
-- memory for the part
unfoldable pub part_offered : TableState → Name → ℕ → KeptPart → ℕ → OfferKind × TableState
part_offered t name n x now =
    if is_full t name then (NoRoom, t)
    else if contradicts (parts_at t name) n x then (Conflict reason.Conflict, taken_out t name)
    else if is_some (map.get (parts_at t name) n)
    then (Again, with_entry t name (parts_at t name) now)
    else if is_gap t.mode (parts_at t name) n then at_gap t name
    else if is_whole (with_part (parts_at t name) n x) then (Whole, taken_out t name)
    else (Kept, with_entry t name (with_part (parts_at t name) n x) now)
