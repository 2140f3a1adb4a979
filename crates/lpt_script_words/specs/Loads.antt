-- What a line asks to be loaded.
use Rattle.std.specs.Prelude.{ℕ, ◌==◌, ◌||◌, nat_lt, is_some, if◌then◌else◌, Bool, List, Option, Some, None}
use Rattle.std.specs.Ordering.{on, eq_of_both}
use Rattle.std.specs.Cmp.{IsEquivalence, and_equiv, on_equiv, nat_eq_equiv}
use Rattle.std.specs.Cmp.Lexicographic.{pointwise, lists_equiv}
use Rattle.lpt_packet.specs.Names.{Name, same_name}
use Rattle.lpt_packet.specs.Packets.{spelling}
use Rattle.lpt_pus.specs.Commands.{packet_of}
use Rattle.lpt_memory.specs.Spellings.{load_text, write_fault}
use Rattle.lpt_memory.specs.declared.request.Area.{Area}

-- a load of these areas into a memory, under the name of a message
pub record LoadView : Type 0 where
  pub name : Name
  pub count : ℕ
  pub flags : ℕ
  pub memory : ℕ
  pub areas : List Area

-- a load, if it can be written: its sequence count has 14 bits, and its areas have no fault
abbrev pub if_written : LoadView → Option LoadView
if_written l = if nat_lt 16383 l.count || is_some (write_fault l.areas) then None else Some l

-- the packet of a load, with this APID; its source is that of the message's name
abbrev pub load_packet : (apid : ℕ) → LoadView → List ℕ
load_packet apid l = spelling (packet_of (record {
  apid = apid;
  count = l.count;
  flags = l.flags;
  service = 6;
  subtype = 2;
  source = l.name.source;
  body = load_text l.memory l.areas;
}))

-- whether two areas are the same
abbrev pub same_area : Area → Area → Bool
same_area = eq_of_both (on (λ a. a.address) ◌==◌) (on (λ a. a.octets) (pointwise ◌==◌))

-- whether two loads are the same
abbrev pub same_load : LoadView → LoadView → Bool
same_load =
    eq_of_both (on (λ l. l.name) same_name)
    (eq_of_both (on (λ l. l.count) ◌==◌)
    (eq_of_both (on (λ l. l.flags) ◌==◌)
    (eq_of_both (on (λ l. l.memory) ◌==◌) (on (λ l. l.areas) (pointwise same_area)))))

-- whose equality is an equivalence: of names
same_name_equiv : IsEquivalence same_name
same_name_equiv =
    and_equiv (on_equiv (λ n. n.source) nat_eq_equiv) (on_equiv (λ n. n.id) nat_eq_equiv)

-- of areas
pub same_area_equiv : IsEquivalence same_area
same_area_equiv =
    and_equiv (on_equiv (λ a. a.address) nat_eq_equiv)
    (on_equiv (λ a. a.octets) (lists_equiv nat_eq_equiv))

-- and of loads
pub same_load_equiv : IsEquivalence same_load
same_load_equiv =
    and_equiv (on_equiv (λ l. l.name) same_name_equiv)
    (and_equiv (on_equiv (λ l. l.count) nat_eq_equiv)
    (and_equiv (on_equiv (λ l. l.flags) nat_eq_equiv)
    (and_equiv (on_equiv (λ l. l.memory) nat_eq_equiv)
    (on_equiv (λ l. l.areas) (lists_equiv same_area_equiv)))))
