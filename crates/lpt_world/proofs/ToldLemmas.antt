-- A world that shows its journal keeps what holds of every legal journal.
use Rattle.std.proofs.Common.{List}
use Rattle.lpt_memory.specs.Memories.{Contents}
use Rattle.lpt_system.specs.declared.system.System.{System}
use Rattle.lpt_events.specs.declared.entry.Entry.{Entry}
use Rattle.lpt_journal.specs.Headline.{Holds}
use Rattle.lpt_world.specs.WorldInside.{IsShown}
use Rattle.lpt_world.specs.Worlds.{Promised, events_of, history_of}
use Rattle.lpt_journal.proofs.AbortionLemmas.{abortion_is_final}
use Rattle.lpt_journal.proofs.HeadlineLemmas.{headline}
use Rattle.lpt_journal.proofs.WholeLemmas.{nothing_is_withheld}
use Rattle.lpt_journal.proofs.WorkLemmas.{work_is_of_its_boot}
use Rattle.lpt_refinement.specs.GoesOn.{AreNamed}
use Rattle.lpt_world.proofs.LegalLemmas.{fits}

pub shown_holds : (e : System) (first : Contents) (j : List Entry)
    → IsShown e first j
    → Holds e.config first (history_of e.config first j)
shown_holds e first j k =
    headline e.config first (events_of j) k.configured k.told.legal

-- what is promised of a world that shows its journal
pub shown_promised : (e : System) (first : Contents) (j : List Entry)
    → IsShown e first j
    → Promised (record { config = e.config; first = first; journal = j })
shown_promised e first j k =
    let legal = k.told.legal in
    record {
      headline = shown_holds e first j k;
      final = abortion_is_final e.config first (events_of j) k.configured legal;
      whole = nothing_is_withheld e.config first (events_of j) k.configured legal;
      work = work_is_of_its_boot e.config first (events_of j) k.configured legal;
    }

-- the packets of a world have the tags of the parts that they are
pub shown_named : (e : System) (first : Contents) (j : List Entry)
    → IsShown e first j
    → AreNamed e.config (history_of e.config first j)
shown_named e first j k = (fits e.config first j k.configured k.told).tags
