-- What the restart of a node owes, and that it pays it.
use Rattle.std.proofs.Common.{inl}
use Rattle.lpt_memory.specs.Memories.{Contents}
use Rattle.lpt_events.specs.Sides.{same_side, receiver_side}
use Rattle.lpt_events.specs.declared.config.Config.{Config}
use Rattle.lpt_acts.specs.Acts.{Restart}
use Rattle.lpt_events.specs.declared.side.Side.{Side}
use Rattle.lpt_journal.specs.Journal.{History}
use Rattle.lpt_journal.specs.Replies.{entry}
use Rattle.lpt_journal.proofs.Steps.{IsSound, Owes, kept_or_none}
use Rattle.lpt_journal.proofs.TestLemmas.{no_place}

-- the restart of a node pays what it owes: the node has dropped its receptions
pub restart_owes : (c : Config) (first : Contents) (h : History) (side : Side)
    → IsSound c h
    → Owes c h (entry c first h (Restart side))
restart_owes c first h side sound = record {
  opens = λ d name o f. absurd cc;
  retires = λ d name r. absurd cc;
  puts = λ k p f. absurd (no_place k p f);
  takes = λ l n f. inl f;
  hears = λ d name. kept_or_none c h d name (same_side side (receiver_side d));
  clocks = sound.clocks;
}
