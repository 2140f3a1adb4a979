-- What a reader or writer of std is seen as, with whether it has failed.
use Rattle.std.specs.Prelude.{Bool}
use Rattle.lpt_text.specs.declared.stream.FromStd.{FromStd}

-- the reader or writer itself
abbrev pub inner_of : {S : Type 0} → FromStd S → S
inner_of told = told.inner

-- whether a read or a write of it has failed
abbrev pub has_failed : {S : Type 0} → FromStd S → Bool
has_failed told = told.failed
