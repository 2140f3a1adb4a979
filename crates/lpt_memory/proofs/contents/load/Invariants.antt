-- Nothing has changed, and a load into what is left is a load into all.
use Rattle.std.proofs.Common.{◌≡◌, ◌++◌, take, drop}
use Rattle.lpt_memory.specs.Memories.{memories_loaded, sizes_of}
use Rattle.lpt_memory.specs.Meanings.{size_of}
use Rattle.lpt_memory.specs.Seen.{areas_in}
use Rattle.lpt_memory.proofs.contents.load.Given as goal

abbrev pub invariant-loop-known : goal.invariant-loop-known
invariant-loop-known l = record {
  same : l.known-items ≡ l.fn.memories;
  loaded :
      take l.known-index l.known-items
      ++ memories_loaded l.id (areas_in l.body l.areas) (drop l.known-index l.known-items)
      ≡ memories_loaded l.id (areas_in l.body l.areas) l.known-items;
  known : size_of l.id (sizes_of (drop l.known-index l.known-items))
      ≡ size_of l.id (sizes_of l.known-items);
}
