-- The values of keys.
use Rattle.std.specs.Prelude.{ℕ, ◌==◌, Bool, true, if◌then◌else◌, List, codes, Option, Some, None}
use Rattle.toml.specs.Data.{Data, as_bool, Members, get_member}
use Rattle.lpt_memory.specs.Fields.{◌>>=◌}
use Rattle.lpt_settings.specs.Numbers.{number_in, number_at}
use Rattle.lpt_layout.specs.declared.layout.Version.{Version}
use Rattle.lpt_layout.specs.declared.layout.Version.TheVariants.{One, Two}
use Rattle.lpt_layout.specs.declared.width.Width.{Width}
use Rattle.lpt_layout.specs.declared.width.Width.TheVariants.{Absent, Octet, Word, Long}

-- the truth that a value is; nothing else is one
abbrev pub flag_in : Data → Option Bool
flag_in d = as_bool d

-- the truth that a value is, or true if there is none
abbrev pub flag_or : Option Data → Option Bool
flag_or None = Some true
flag_or (Some d) = flag_in d

-- the truth at a key
abbrev pub flag_at : List ℕ → Members → Option Bool
flag_at key members = flag_or (get_member key members)

-- the PUS version of this number
abbrev pub version_of : ℕ → Version
version_of n = if n == 1 then One else Two

-- the PUS version, which is 2 if the key is absent
abbrev pub version_at : Members → Option Version
version_at members =
    number_at (codes "version") 1 2 (Some 2) members >>= λ n. Some (version_of n)

-- how wide a field of so many bits is: 0, 8 or 16
abbrev pub header_width : ℕ → Option Width
header_width n =
    if n == 0 then Some Absent else if n == 8 then Some Octet
    else if n == 16 then Some Word else None

-- how wide one of a part is: 16 or 32 bits
abbrev pub part_width : ℕ → Option Width
part_width n = if n == 16 then Some Word else if n == 32 then Some Long else None

-- the same of a value that is a number
abbrev pub header_bits_in : Data → Option Width
header_bits_in d = number_in 0 16 d >>= header_width

abbrev pub part_bits_in : Data → Option Width
part_bits_in d = number_in 16 32 d >>= part_width

-- what a value says by a rule, or 16 bits if there is none
abbrev pub width_or : (Data → Option Width) → Option Data → Option Width
width_or bits None = Some Word
width_or bits (Some d) = bits d

-- how wide a field of a header is, by the bits at a key
abbrev pub header_bits_at : List ℕ → Members → Option Width
header_bits_at key members = width_or header_bits_in (get_member key members)

-- how wide one of a part is
abbrev pub part_bits_at : List ℕ → Members → Option Width
part_bits_at key members = width_or part_bits_in (get_member key members)

-- the part size that a value is
abbrev pub size_in : Data → Option (Option ℕ)
size_in d = number_in 1 65535 d >>= λ n. Some (Some n)

-- the same, or that there is none
abbrev pub size_or : Option Data → Option (Option ℕ)
size_or None = Some None
size_or (Some d) = size_in d

-- the part size, if there is one
abbrev pub size_at : Members → Option (Option ℕ)
size_at members = size_or (get_member (codes "part_size") members)
