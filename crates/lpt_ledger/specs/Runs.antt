-- The names in use as runs: names of one source that follow one another.
use Rattle.std.specs.Prelude.{ℕ, zero, suc, ◌+◌, ◌-◌, ◌<◌, ◌==◌, nat_lt, nat_le, Bool, true, ◌&&◌, ◌||◌, if◌then◌else◌, List, [], ◌∷◌, ◌++◌, Option, Some, None}
use Rattle.std.specs.FinMap as map
use Rattle.lpt_packet.specs.Names.{Name, named_by, same_name}
use Rattle.lpt_ledger.specs.declared.run.NameRun.{NameRun}
use Rattle.lpt_ledger.specs.Marks.{Shut, Marks}

-- ---- from names to runs

-- the run of one name
abbrev pub lone : Name → NameRun
lone n = record { source = n.source; first = n.id; last = n.id }

-- whether a name is the next one behind a run
abbrev pub is_next : NameRun → Name → Bool
is_next r n = same_name (named_by r.source (r.last + 1)) n

-- a run with the name behind it
abbrev pub longer : NameRun → NameRun
longer r = record r { last = r.last + 1 }

-- a run, and the names behind it as runs: it takes those that follow it
unfoldable pub runs_from : NameRun → List Name → List NameRun
runs_from r [] = r ∷ []
runs_from r (n ∷ ns) = if is_next r n then runs_from (longer r) ns else r ∷ runs_from (lone n) ns

-- names, which stand in order, as runs
unfoldable pub runs_of_names : List Name → List NameRun
runs_of_names [] = []
runs_of_names (n ∷ ns) = runs_from (lone n) ns

-- the names in use, open or closed, as runs
abbrev pub runs_of : Marks → List NameRun
runs_of m = runs_of_names (map.keys m)

-- ---- from runs to names

-- n names of a source, from an identifier on
unfoldable pub some_names : (n source id : ℕ) → List Name
some_names zero source id = []
some_names (suc n) source id = named_by source id ∷ some_names n source (id + 1)

-- the names of a run
abbrev pub names_of : NameRun → List Name
names_of r = some_names (r.last + 1 - r.first) r.source r.first

-- the names of runs
unfoldable pub names_in : List NameRun → List Name
names_in [] = []
names_in (r ∷ rs) = names_of r ++ names_in rs

-- the marks once these names are closed, whatever they were
unfoldable pub shut_names : Marks → List Name → Marks
shut_names m [] = m
shut_names m (n ∷ ns) = shut_names (map.insert m n Shut) ns

-- the names of these runs are closed, and all others are free
abbrev pub closed_by : List NameRun → Marks
closed_by rs = shut_names map.empty (names_in rs)

-- ---- in order, with a free name between any two

-- whether a run has a name
abbrev pub has_name : NameRun → Bool
has_name r = nat_le r.first r.last

-- whether a run stands behind another, and doesn't follow it
abbrev pub is_behind : NameRun → NameRun → Bool
is_behind r s = nat_lt r.source s.source || ((r.source == s.source) && nat_lt (r.last + 1) s.first)

-- whether a run stands behind the one before it, if there is one
abbrev pub stands : Option NameRun → NameRun → Bool
stands None r = true
stands (Some p) r = is_behind p r

-- whether runs ascend behind the one before them
unfoldable pub ascend_behind : Option NameRun → List NameRun → Bool
ascend_behind p [] = true
ascend_behind p (r ∷ rs) = has_name r && (stands p r && ascend_behind (Some r) rs)

-- whether runs ascend: each has a name, and stands behind the one before it
abbrev pub ascend : List NameRun → Bool
ascend rs = ascend_behind None rs

-- the numbers of a run have 16 bits
pub record IsRun (r : NameRun) : Type 0 where
  pub source_fits : r.source < 65536
  pub first_fits : r.first < 65536
  pub last_fits : r.last < 65536
