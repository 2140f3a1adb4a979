-- What is kept while files are made.
use Rattle.std.specs.Prelude.{ℕ, List, ◌∷◌, ◌++◌, Option, decimal, unwrap_or, option_map}
use Rattle.std.specs.BTreeMap.{BTreeMap, get}
use Rattle.lpt_carried.specs.declared.name.Name.{Name}
use Rattle.lpt_packet.specs.declared.direction.Direction.{Direction}
use Rattle.lpt_packet.specs.Directions.{direction_word}
use Rattle.lpt_layout_join.specs.Names.{name_cmp}
use Rattle.lpt_layout_each.specs.News.{Event, Given}

-- how many messages of a name were noted
abbrev pub count_at : BTreeMap Name ℕ → Name → ℕ
count_at counts n = unwrap_or (get name_cmp counts n) 0

-- what was heard, behind a mark with which all paths begin: so this stays what it is
abbrev pub mark : (front : List ℕ) → Event
mark front = (record { user = 0; id = 0 }, Given front)

abbrev pub with_mark : (front : List ℕ) → Option (List Event) → Option (List Event)
with_mark front heard = option_map (λ es. mark front ∷ es) heard

-- a path as it is written, from the folder on
abbrev pub path_text : (folder : List ℕ) → Direction → Name → (before : ℕ) → List ℕ
path_text folder d n before =
    folder ++ (47 ∷ (direction_word d ++ (45 ∷ (decimal n.user ++ (45 ∷ (decimal n.id
    ++ (46 ∷ decimal before)))))))
