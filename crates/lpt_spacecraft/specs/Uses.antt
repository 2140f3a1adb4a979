-- The names that were used, as other crates name them.
use Rattle.lpt_spacecraft.specs.declared.pace.Use.{Use}

-- a name that was used, and the clock then
abbrev pub NameUse : Type 0
NameUse = Use
