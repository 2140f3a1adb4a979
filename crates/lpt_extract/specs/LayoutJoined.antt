-- What is read in place of the packets of a layout if dump reports may come in parts.
use Rattle.std.specs.Prelude.{ℕ, false, List, [], ◌∷◌, Result, Ok, Err}
use Rattle.std.specs.List.{flat_map}
use Rattle.lpt_carried.specs.Carried.{Named, part_carried}
use Rattle.lpt_carried.specs.declared.reading.Reading.{Reading}
use Rattle.lpt_carried.specs.declared.skip.Skip.{Skip}
use Rattle.lpt_layout_each.specs.News.{Event, messages_of}
use Rattle.lpt_layout_each.specs.Streams.{told_by}
use Rattle.lpt_extract.specs.Joined.{Reads}

-- the messages that became whole
abbrev pub messages_in : List Event → List (List ℕ)
messages_in es = flat_map (λ e. messages_of e.1) es

-- what is read in place of a packet behind others: the packet itself, or if it carries a part,
-- the message that becomes whole with it
abbrev pub reads_by :
    Reading → (before : List (List ℕ)) → List ℕ → Result Named Skip → List (List ℕ)
reads_by r before b (Ok c) = messages_in (told_by r false before b (Ok c))
reads_by r before b (Err e) = b ∷ []

abbrev pub layout_reads : Reading → Reads
layout_reads r = λ before b. reads_by r before b (part_carried r b)
