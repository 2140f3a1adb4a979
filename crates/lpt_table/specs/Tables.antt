-- The receptions that are open at one end, and the ticks at which they last took a part.
use Rattle.std.specs.Prelude.{ℕ, ◌≤◌, Option, None, refl}
use Rattle.std.specs.Coded.{Coded, code_by, coded×, coded_ℕ, coded_option}
use Rattle.std.specs.FinMap as map
use Rattle.lpt_packet.specs.Names.{Name, name_cmp, coded_name}
use Rattle.lpt_part.specs.Splitting.{IsPartSize}
use Rattle.lpt_part.specs.declared.mode.Mode.{Mode}
use Rattle.lpt_reception.specs.Codes.{coded_kept, coded_mode}
use Rattle.lpt_reception.specs.Received.{Parts}

-- so many receptions may be open, a timeout has so many ticks, and parts have so many octets
pub record IsTableSize (limit timeout p : ℕ) : Type 0 where
  pub some_receptions : 1 ≤ limit
  pub receptions_fit : limit ≤ 64
  pub some_timeout : 1 ≤ timeout
  pub timeout_fits : timeout ≤ 65535
  pub part_size_fits : IsPartSize p

-- an open reception: the parts that were kept, and the tick at which it last took a part
pub record TableEntry : Type 0 where
  pub parts : Parts
  pub last : ℕ

-- the open receptions, by their names
abbrev pub Entries : Type 0
Entries = map.FinMap name_cmp TableEntry

-- how many receptions may be open, the timeout in ticks, the part size, the order in which parts
-- are taken, the open receptions, and the name and last tick of the reception that is out
pub record TableState : Type 0 where
  pub limit : ℕ
  pub timeout : ℕ
  pub p : ℕ
  pub mode : Mode
  pub entries : Entries
  pub out : Option (Name × ℕ)

-- no reception is open, and none is out
abbrev pub no_receptions : ℕ → ℕ → ℕ → Mode → TableState
no_receptions limit timeout p mode =
    record { limit = limit; timeout = timeout; p = p; mode = mode; entries = map.empty; out = None }

-- an entry is coded as the pair of its fields
abbrev pub coded_table_entry : Coded TableEntry
coded_table_entry =
    code_by (Parts × ℕ) (coded× (map.code coded_ℕ coded_kept) coded_ℕ)
    (λ e. (e.parts, e.last)) (λ x. record { parts = x.0; last = x.1 }) (λ _. refl)

-- the entries are coded as their list
abbrev pub coded_entries : Coded Entries
coded_entries = map.code coded_name coded_table_entry

-- a table is coded as the tuple of its fields
abbrev pub coded_table_state : Coded TableState
coded_table_state =
    code_by (ℕ × (ℕ × (ℕ × (Mode × (Entries × Option (Name × ℕ))))))
    (coded× coded_ℕ (coded× coded_ℕ (coded× coded_ℕ (coded× coded_mode
    (coded× coded_entries (coded_option (coded× coded_name coded_ℕ)))))))
    (λ t. (t.limit, (t.timeout, (t.p, (t.mode, (t.entries, t.out))))))
    (λ x. record {
      limit = x.0;
      timeout = x.1.0;
      p = x.1.1.0;
      mode = x.1.1.1.0;
      entries = x.1.1.1.1.0;
      out = x.1.1.1.1.1;
    })
    (λ _. refl)
