-- What is left, put over what was put so far, is all put over the memory.
use Rattle.std.proofs.Common.{◌≡◌, length, drop}
use Rattle.lpt_memory.specs.Memories.{put_all}
use Rattle.lpt_memory.specs.Ranges.{AreasFit}
use Rattle.lpt_memory.specs.Seen.{areas_in, AreWithin}
use Rattle.lpt_memory.proofs.contents.put_all.Given as goal

abbrev pub invariant-loop-area : goal.invariant-loop-area
invariant-loop-area l = record {
  put :
      put_all l.content (areas_in l.body (drop l.area-index l.areas))
      ≡ put_all l.fn.content (areas_in l.body l.areas);
  size : length l.content ≡ length l.fn.content;
  fit : AreasFit (length l.content) (areas_in l.body (drop l.area-index l.areas));
  within : AreWithin (length l.body) (drop l.area-index l.areas);
}
