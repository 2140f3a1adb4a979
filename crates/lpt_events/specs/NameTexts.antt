-- How the name of a transaction is written.
use Rattle.std.specs.Prelude.{ℕ, ◌==◌, if◌then◌else◌, List, ◌∷◌, ◌++◌, decimal}
use Rattle.lpt_packet.specs.Names.{Name}

-- a name: its identifier alone if it is of the configured source, which is the first argument
abbrev pub name_text : (source : ℕ) → Name → List ℕ
name_text source n =
    if n.source == source then decimal n.id else decimal n.source ++ 47 ∷ decimal n.id
