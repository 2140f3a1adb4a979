-- The files that are made of messages.
use Rattle.std.specs.Prelude.{◌≡◌, ℕ, ◌+◌, List, [], ◌∷◌, ◌++◌, length, map, Option, Some, None, ⊤, decimal, if◌then◌else◌, option_map}
use Rattle.lpt_carried.specs.declared.name.Name.{Name}
use Rattle.lpt_carried.specs.Carried.{same_name}
use Rattle.lpt_packet.specs.declared.direction.Direction.{Direction}
use Rattle.lpt_packet.specs.Directions.{direction_word}
use Rattle.lpt_layout_each.specs.News.{Event, News, messages_of}

-- a new file: its path, and its octets
abbrev pub NewFile : Type 0
NewFile = List ℕ × List ℕ

-- the file at this path that news make, if they have a message
abbrev pub files_at : (path : List ℕ) → News → List NewFile
files_at path w = map (λ m. (path, m)) (messages_of w)

-- with which the paths of a direction's messages begin: the folder, a slash, and its word
abbrev pub front_of : (folder : List ℕ) → Direction → List ℕ
front_of folder d = folder ++ (47 ∷ direction_word d)

-- the path of a message of a name behind so many of its messages: a hyphen and its user, a hyphen
-- and its identifier, a dot and this number
abbrev pub path_of : (front : List ℕ) → Name → (before : ℕ) → List ℕ
path_of front n before =
    front ++ (45 ∷ (decimal n.user ++ (45 ∷ (decimal n.id ++ (46 ∷ decimal before)))))

-- how many messages of a name these are
abbrev pub messages_for : Name → Event → ℕ
messages_for n e = if same_name e.0 n then length (messages_of e.1) else 0

abbrev pub count_for : Name → List Event → ℕ
count_for n [] = 0
count_for n (e ∷ es) = messages_for n e + count_for n es

-- the files that these make behind others
abbrev pub files_from : (front : List ℕ) → (before es : List Event) → List NewFile
files_from front before [] = []
files_from front before (e ∷ es) =
    files_at (path_of front e.0 (count_for e.0 before)) e.1
    ++ files_from front (before ++ e ∷ []) es

-- the files that these make
abbrev pub files_of : (front : List ℕ) → List Event → List NewFile
files_of front es = files_from front [] es

-- ---- what a shelf took, and the files that were made there

-- with this event more, if it is known
abbrev pub with_event : Event → Option (List Event) → Option (List Event)
with_event e heard = option_map (λ es. es ++ e ∷ []) heard

-- with these files more, if they are known
abbrev pub with_files : List NewFile → Option (List NewFile) → Option (List NewFile)
with_files fs files = option_map (λ xs. xs ++ fs) files

-- a shelf that took nothing yet, if that is known
abbrev pub IsNew : (heard : Option (List Event)) → (files : Option (List NewFile)) → Type 0
IsNew None files = ⊤
IsNew (Some es) files = (es ≡ []) × (files ≡ Some [])

-- just these files were made, if it is known what was taken at first
abbrev pub Files :
    (first : Option (List Event)) → (files : Option (List NewFile)) → List NewFile → Type 0
Files None files fs = ⊤
Files (Some es) files fs = files ≡ Some fs

-- those of a front part of these
abbrev pub FilesPart :
    (first : Option (List Event)) → (files : Option (List NewFile)) → List NewFile → Type 0
FilesPart None files fs = ⊤
FilesPart (Some es) files fs =
    (front : List NewFile) × (rest : List NewFile) × (fs ≡ front ++ rest) × (files ≡ Some front)
