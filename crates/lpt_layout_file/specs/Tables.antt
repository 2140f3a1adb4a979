-- What the tables of a layout file mean.
use Rattle.std.specs.Prelude.{ℕ, if◌then◌else◌, List, [], ◌∷◌, codes, Option, Some, None}
use Rattle.toml.specs.Data.{Data, as_table, Members, get_member}
use Rattle.lpt_memory.specs.Fields.{◌>>=◌}
use Rattle.lpt_settings.specs.Keys.{has_only}
use Rattle.lpt_settings.specs.Numbers.{number_at}
use Rattle.lpt_layout.specs.declared.layout.PartLayout.{PartLayout}
use Rattle.lpt_layout.specs.declared.width.Width.TheVariants.{Absent}
use Rattle.lpt_carried.specs.declared.layouts.Layouts.{Layouts}
use Rattle.lpt_carried.specs.declared.layouts.Tailored.{Tailored}
use Rattle.lpt_carried.specs.Layouts.{own_telemetry, own_telecommands}
use Rattle.lpt_layout_file.specs.Times.{time_at}
use Rattle.lpt_layout_file.specs.Values.{flag_at, version_at, header_bits_at, part_bits_at, size_at}

-- the tables that there are
abbrev pub known_tables : List (List ℕ)
known_tables = codes "telemetry" ∷ codes "telecommands" ∷ []

-- the keys of telemetry
abbrev pub telemetry_keys : List (List ℕ)
telemetry_keys = codes "checksum" ∷ codes "version" ∷ codes "counter" ∷ codes "destination"
    ∷ codes "time" ∷ codes "epoch" ∷ codes "spare" ∷ codes "transaction_id" ∷ codes "part_number"
    ∷ codes "part_size" ∷ []

-- the keys of telecommands
abbrev pub telecommand_keys : List (List ℕ)
telecommand_keys = codes "checksum" ∷ codes "version" ∷ codes "source" ∷ codes "spare"
    ∷ codes "transaction_id" ∷ codes "part_number" ∷ codes "part_size" ∷ []

-- how the bodies of parts are laid out, by a table
abbrev pub parts_in : Members → Option PartLayout
parts_in members = do
  id ← part_bits_at (codes "transaction_id") members
  number ← part_bits_at (codes "part_number") members
  Some (record { id = id; number = number })

-- how telemetry is laid out, by its table: each key is known and has one of its values
abbrev pub telemetry_in : Members → Option Tailored
telemetry_in members =
    if has_only telemetry_keys members then (do
      has_checksum ← flag_at (codes "checksum") members
      version ← version_at members
      counter ← header_bits_at (codes "counter") members
      user ← header_bits_at (codes "destination") members
      time ← time_at members
      spare ← number_at (codes "spare") 0 255 (Some 0) members
      parts ← parts_in members
      part_size ← size_at members
      Some (record {
        packets = record {
          has_checksum = has_checksum;
          version = version;
          counter = counter;
          user = user;
          time = time.octets;
          spare = spare;
        };
        time = time.code;
        parts = parts;
        part_size = part_size;
      }))
    else None

-- how telecommands are, which have no counter and no time
abbrev pub telecommands_in : Members → Option Tailored
telecommands_in members =
    if has_only telecommand_keys members then (do
      has_checksum ← flag_at (codes "checksum") members
      version ← version_at members
      user ← header_bits_at (codes "source") members
      spare ← number_at (codes "spare") 0 255 (Some 0) members
      parts ← parts_in members
      part_size ← size_at members
      Some (record {
        packets = record {
          has_checksum = has_checksum;
          version = version;
          counter = Absent;
          user = user;
          time = 0;
          spare = spare;
        };
        time = None;
        parts = parts;
        part_size = part_size;
      }))
    else None

-- the same by a value that is a table
abbrev pub telemetry_of : Data → Option Tailored
telemetry_of d = as_table d >>= telemetry_in

abbrev pub telecommands_of : Data → Option Tailored
telecommands_of d = as_table d >>= telecommands_in

-- a table's value, or the profile's own if there is none
abbrev pub tailored_or : Tailored → (Data → Option Tailored) → Option Data → Option Tailored
tailored_or own of None = Some own
tailored_or own of (Some d) = of d

-- how telemetry is laid out, by the table of a file
abbrev pub telemetry_at : Members → Option Tailored
telemetry_at members =
    tailored_or own_telemetry telemetry_of (get_member (codes "telemetry") members)

-- how telecommands are
abbrev pub telecommands_at : Members → Option Tailored
telecommands_at members =
    tailored_or own_telecommands telecommands_of (get_member (codes "telecommands") members)

-- the layouts of a table: each key is known, and both tables can be read
abbrev pub layouts_of : Members → Option Layouts
layouts_of members =
    if has_only known_tables members then (do
      telemetry ← telemetry_at members
      telecommands ← telecommands_at members
      Some (record { telemetry = telemetry; telecommands = telecommands }))
    else None
