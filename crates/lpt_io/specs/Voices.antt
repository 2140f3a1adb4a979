-- What a voice tells.
use Rattle.std.specs.Prelude.{Bool}
use Rattle.lpt_io.specs.declared.progress.Voice.{Voice}

-- whether it tells what happened
abbrev pub tells_of : Voice → Bool
tells_of it = it.tells

-- whether it tells how far a reading is
abbrev pub is_paced : Voice → Bool
is_paced it = it.paced

-- whether it tells so also if the command writes while it reads
abbrev pub is_apart : Voice → Bool
is_apart it = it.apart
