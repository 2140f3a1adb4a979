-- What a ledger is seen as: a mark for each name that isn't free.
use Rattle.std.specs.Prelude.{◌≡◌, Bool, true, false, Option, Some, None, map as mapped, refl}
use Rattle.std.specs.FinMap as map
use Rattle.lpt_packet.specs.Names.{name_cmp, coded_name}
use Rattle.std.specs.Coded.{Coded, code_by, coded_bool}

-- a name that isn't free is open or closed
pub data Mark : Type 0 where
  Opened : Mark
  Shut : Mark

-- whether a mark says that the name is open
abbrev pub is_opened : Mark → Bool
is_opened Opened = true
is_opened Shut = false

-- the mark that says so
abbrev pub mark_by : Bool → Mark
mark_by true = Opened
mark_by false = Shut

-- the code of a mark
abbrev pub coded_mark : Coded Mark
coded_mark =
    code_by Bool coded_bool is_opened mark_by
    (λ m. elim m as (λ x. mark_by (is_opened x) ≡ x) [ Opened ↦ refl | Shut ↦ refl ])

-- the marks of the names that aren't free
abbrev pub Marks : Type 0
Marks = map.FinMap name_cmp Mark

-- the code of a ledger's marks
abbrev pub coded_marks : Coded Marks
coded_marks = map.code coded_name coded_mark

-- shut if there is a mark
abbrev pub shut_mark : Option Mark → Option Mark
shut_mark None = None
shut_mark (Some x) = Some Shut

-- the marks with each of them shut
unfoldable pub all_closed : Marks → Marks
all_closed m = map.from_entries (mapped (λ e. (e.0, Shut)) (map.entries m))
