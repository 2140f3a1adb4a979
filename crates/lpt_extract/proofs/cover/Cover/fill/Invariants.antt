-- What was taken away begins within the area.
use Rattle.std.proofs.Common.{◌≡◌}
use Rattle.std.specs.BTreeMap.{btree_map_len}
use Rattle.std.specs.List.{filter}
use Rattle.lpt_extract.specs.CoversInside.{end_of_cover, gaps_of, is_apart}
use Rattle.lpt_extract.proofs.cover.Cover.fill.Given as goal

abbrev pub invariant-loop-gap : goal.invariant-loop-gap
invariant-loop-gap l = record {
  gaps : filter (is_apart l.first l.end) (gaps_of l.self)
      ≡ filter (is_apart l.first l.end) (gaps_of l.fn.self);
  end : end_of_cover l.self ≡ end_of_cover l.fn.self;
}

abbrev pub decreases-loop-gap : goal.decreases-loop-gap
decreases-loop-gap l = btree_map_len l.self.gaps
