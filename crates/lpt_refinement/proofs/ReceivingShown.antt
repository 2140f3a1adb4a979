-- The open receptions and the receivers' marks are shown after each outcome of a part.
use Rattle.std.proofs.Common.{◌≡◌, ◌∙◌, ap, sym, refl, ℕ, ◌==◌, nat_le, Bool, true, false, not, ◌&&◌, ◌||◌, if◌then◌else◌, Some, None, is_some, ◌-◌}
use Rattle.std.specs.List.{filter}
use Rattle.std.specs.FinMap as maps
use Rattle.std.specs.Cmp.{nat_cmp_total, unsigned_tied}
use Rattle.lpt_packet.specs.declared.direction.Direction.{Direction}
use Rattle.lpt_packet.specs.Names.{Name, same_name}
use Rattle.lpt_packet.proofs.NameLemmas.{same_name-true}
use Rattle.lpt_packet.proofs.Readings.{true_eq, eq_true, eq_false}
use Rattle.lpt_events.specs.NamedParts.{NamedPart}
use Rattle.lpt_ledger.specs.Marks.{Shut}
use Rattle.lpt_events.specs.declared.config.Config.{Config}
use Rattle.lpt_node.specs.Nodes.{Receiving}
use Rattle.lpt_node.specs.Receivers.{table_in}
use Rattle.lpt_node.specs.Receiving.{receiver_of}
use Rattle.lpt_reception.specs.Received.{Parts, no_parts}
use Rattle.lpt_table.specs.Offering.{is_full, parts_at, parts_of}
use Rattle.lpt_table.specs.Tables.{TableEntry}
use Rattle.lpt_journal.specs.Journal.{History}
use Rattle.lpt_journal.specs.Receivers.{heard, has_parts, heard_names, reception_count, with_piece, as_kept, limits}
use Rattle.lpt_journal.proofs.CountLemmas.{same_name-comm, none_open, reception_named}
use Rattle.lpt_journal.proofs.MapLemmas.{get_insert, get_remove, len_once, some_len}
use Rattle.lpt_packet.proofs.BoolLemmas.{not_false}
use Rattle.lpt_refinement.specs.Shows.{ShowsReceiving, entry_of, closed_mark}
use Rattle.lpt_refinement.specs.Views.{ReceivingView, receiving_view}
use Rattle.lpt_events.specs.Sides.{receiver_side}
use Rattle.lpt_table.specs.SettingBack.{earlier, set_back}
use Rattle.lpt_table.proofs.BackLemmas.{get-set_back}
use Rattle.std.specs.Option.{option_map}

-- ---- what is kept under a name

-- where no reception is open, nothing is kept
nothing_kept : (s : Parts) → has_parts s ≡ false → no_parts ≡ s
nothing_kept s e =
    sym (maps.empty_of_len s (true_eq (maps.len s) 0 (not_false (maps.len s == 0) e)))

parts_of-entry_of : (s : Parts) (last : ℕ) → parts_of (entry_of s last) ≡ s
parts_of-entry_of s last = go (has_parts s) refl where
  go : (t : Bool)
      → has_parts s ≡ t
      → parts_of (if t then Some (record { parts = s; last = last }) else None) ≡ s
  go true e = refl
  go false e = nothing_kept s e

-- a reception is open where parts were kept
pub is_some-entry_of : (s : Parts) (last : ℕ) → is_some (entry_of s last) ≡ has_parts s
is_some-entry_of s last = go (record { parts = s; last = last }) (has_parts s) where
  go : (x : TableEntry) (t : Bool) → is_some (if t then Some x else None) ≡ t
  go x true = refl
  go x false = refl

-- the parts under a name are those that the journal says were kept
pub parts_shown : {x : Receiving} {y : ReceivingView} (c : Config) (name : Name)
    → ShowsReceiving x y
    → parts_at (table_in (receiver_of c x)) name ≡ y.parts name
parts_shown {y = y} c name k =
    ap parts_of (k.entries name) ∙ parts_of-entry_of (y.parts name) (y.last name)

-- the table is full for a name where the journal says that there is no room
pub full_shown : {x : Receiving} (c : Config) (h : History) (d : Direction) (name : Name)
    → ShowsReceiving x (receiving_view c h d)
    → is_full (table_in (receiver_of c x)) name
    ≡ (not (has_parts (heard c h d name))
    && nat_le (limits c h (receiver_side d)).receptions (reception_count c h d))
full_shown {x = x} c h d name k =
    let there : (q : Name) → is_some (maps.get x.entries q) ≡ has_parts (heard c h d q) =
    λ q. ap is_some (k.entries q) ∙ is_some-entry_of (heard c h d q) _ in
    let count : maps.len x.entries ≡ reception_count c h d =
    len_once x.entries (filter (λ q. has_parts (heard c h d q)) (heard_names h d))
    (λ q. there q ∙ sym (reception_named c h d q)) in
    λ i. not (there name i) && nat_le (k.limit i) (count i)

-- ---- a part was taken

-- a reception that has a part is open
pub some_parts : (s : Parts) (n : ℕ) → is_some (maps.get s n) ≡ true → has_parts s ≡ true
some_parts s n e =
    let k : (maps.len s == 0) ≡ false = eq_false (maps.len s) 0 (some_len s n e) in
    ap not k

-- with one more part a reception is open
more_parts : (s : Parts) (q : NamedPart) → has_parts (with_piece s q) ≡ true
more_parts s q =
    some_parts (with_piece s q) q.number
    (ap is_some (maps.get-insert nat_cmp_total s q.number (as_kept q) q.number)
    ∙ ap (λ t. is_some (if t then Some (as_kept q) else maps.get s q.number))
    (unsigned_tied q.number q.number ∙ eq_true q.number q.number refl))

-- a name's reception has these parts, and took one at this tick
taken_shown : {x : Receiving} {y : ReceivingView} (n : Name) (s : Parts) (now now' : ℕ)
    (parts : Name → Parts)
    → now ≡ now'
    → has_parts s ≡ true
    → ((name : Name) → same_name n name ≡ true → parts name ≡ s)
    → ((name : Name) → same_name n name ≡ false → parts name ≡ y.parts name)
    → ShowsReceiving x y
    → ShowsReceiving
    (record x { entries = maps.insert x.entries n (record { parts = s; last = now }) })
    (record y { parts = parts; last = λ name. if same_name n name then now' else y.last name })
taken_shown {x = x} {y = y} n s now now' parts clocks some here there k = record {
  ledger = k.ledger;
  entries = λ name.
      get_insert x.entries n (record { parts = s; last = now }) name
      ∙ (λ i. if same_name-comm name n i then Some (record { parts = s; last = now })
      else k.entries name i)
      ∙ go name (same_name n name) refl;
  limit = k.limit;
  timeout = k.timeout;
} where
  open_entry : entry_of s now' ≡ Some (record { parts = s; last = now' })
  open_entry = ap (λ t. if t then Some (record { parts = s; last = now' }) else None) some

  go : (name : Name) (t : Bool)
      → same_name n name ≡ t
      → (if t then Some (record { parts = s; last = now })
      else entry_of (y.parts name) (y.last name))
      ≡ entry_of (parts name) (if t then now' else y.last name)
  go name true d =
      (λ i. Some (record { parts = s; last = clocks i }))
      ∙ sym (ap (λ p. entry_of p now') (here name d) ∙ open_entry)
  go name false d = sym (ap (λ p. entry_of p (y.last name)) (there name d))

-- a part was added under a name
pub kept_shown : {x : Receiving} {y : ReceivingView} (q : NamedPart) (now now' : ℕ)
    → now ≡ now'
    → ShowsReceiving x y
    → ShowsReceiving
    (record x {
      entries =
          maps.insert x.entries q.name (record { parts = with_piece (y.parts q.name) q; last = now });
    })
    (record y {
      parts = λ name. if same_name q.name name then with_piece (y.parts name) q else y.parts name;
      last = λ name. if same_name q.name name then now' else y.last name;
    })
kept_shown {y = y} q now now' clocks k =
    taken_shown q.name (with_piece (y.parts q.name) q) now now' _ clocks (more_parts (y.parts q.name) q)
    (λ name e. ap (λ t. if t then with_piece (y.parts name) q else y.parts name) e
    ∙ ap (λ n. with_piece (y.parts n) q) (sym (same_name-true q.name name e)))
    (λ name e. ap (λ t. if t then with_piece (y.parts name) q else y.parts name) e) k

-- a part was repeated under a name
pub again_shown : {x : Receiving} {y : ReceivingView} (n : Name) (now now' : ℕ)
    → now ≡ now'
    → has_parts (y.parts n) ≡ true
    → ShowsReceiving x y
    → ShowsReceiving
    (record x { entries = maps.insert x.entries n (record { parts = y.parts n; last = now }) })
    (record y { last = λ name. if same_name n name then now' else y.last name })
again_shown {y = y} n now now' clocks some k =
    taken_shown n (y.parts n) now now' y.parts clocks some
    (λ name e. ap y.parts (sym (same_name-true n name e))) (λ name e. refl) k

-- ---- a reception has ended

-- a view in which a name's reception has ended
abbrev pub ended_view : ReceivingView → Name → ReceivingView
ended_view y n = record y {
  parts = λ name. if same_name n name then no_parts else y.parts name;
  closed = λ name. same_name n name || y.closed name;
}

pub ended_shown : {x : Receiving} {y : ReceivingView} (n : Name)
    → ShowsReceiving x y
    → ShowsReceiving
    (record x { ledger = maps.insert x.ledger n Shut; entries = maps.remove x.entries n })
    (ended_view y n)
ended_shown {x = x} {y = y} n k = record {
  ledger = λ name.
      get_insert x.ledger n Shut name
      ∙ (λ i. if same_name-comm name n i then Some Shut else k.ledger name i)
      ∙ marks name (same_name n name);
  entries = λ name.
      get_remove x.entries n name
      ∙ (λ i. if same_name-comm name n i then None else k.entries name i)
      ∙ go name (same_name n name);
  limit = k.limit;
  timeout = k.timeout;
} where
  marks : (name : Name) (t : Bool)
      → (if t then Some Shut else closed_mark (y.closed name)) ≡ closed_mark (t || y.closed name)
  marks name true = refl
  marks name false = refl

  go : (name : Name) (t : Bool)
      → (if t then None else entry_of (y.parts name) (y.last name))
      ≡ entry_of (if t then no_parts else y.parts name) (y.last name)
  go name true =
      sym (ap (λ t. if t then Some (record { parts = no_parts; last = y.last name }) else None)
      none_open)
  go name false = refl

-- ---- last ticks were set back

earlier_shown : (s : Parts) (last ticks : ℕ)
    → option_map (earlier ticks) (entry_of s last) ≡ entry_of s (last - ticks)
earlier_shown s last ticks = go (has_parts s) where
  go : (t : Bool)
      → option_map (earlier ticks) (if t then Some (record { parts = s; last = last }) else None)
      ≡ (if t then Some (record { parts = s; last = last - ticks }) else None)
  go true = refl
  go false = refl

pub back_shown : {x : Receiving} {y : ReceivingView} (ticks : ℕ)
    → ShowsReceiving x y
    → ShowsReceiving (record x { entries = set_back ticks x.entries })
    (record y { last = λ name. y.last name - ticks })
back_shown {x = x} {y = y} ticks k = record {
  ledger = k.ledger;
  entries = λ name.
      get-set_back ticks x.entries name
      ∙ ap (option_map (earlier ticks)) (k.entries name)
      ∙ earlier_shown (y.parts name) (y.last name) ticks;
  limit = k.limit;
  timeout = k.timeout;
}
