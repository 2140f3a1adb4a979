-- Each place is put behind those before it.
use Rattle.std.proofs.Common.{refl, map, arith}
use Rattle.std.proofs.lemmas.Grind.{common_steps}
use Rattle.std.proofs.lemmas.List.{length-map}
use Rattle.lpt_memory.specs.Spellings.{range_text}
use Rattle.lpt_c.specs.declared.requests.LptRange.{LptRange}
use Rattle.lpt_c.specs.Requests.{range_of}
use Rattle.lpt_c.proofs.RequestLemmas.{length_ranges, put_next, room_here, room_next}
use Rattle.lpt_c.proofs.requests.put_ranges.Goals as goal

abbrev none : LptRange
none = record { address = 0; len = 0 }

pub loop-range-init : goal.loop-range-init
loop-range-init c = record {
  put = refl;
  room = omega (
    arith,
    length_ranges (map range_of c.args.ranges.now),
    length-map c.args.ranges.now range_of,
    c.requires,
  );
  fits = λ x. x;
}

pub put_range-requires : goal.put_range-requires
put_range-requires c =
    omega (
      arith,
      room_here range_text range_of c.loop-range.out c.loop-range.at c.args.ranges.now
          c.loop-range.range-index none c.loop-range-test.true c.loop-range.invariant.room,
    )

pub loop-range-preserved : goal.loop-range-preserved
loop-range-preserved c = record {
  put = put_next range_text range_of c.loop-range.out _ _ c.loop-range.at _ c.args.ranges.now
      c.loop-range.range-index none c.loop-range-test.true c.put_range.ensures.put refl
      c.loop-range.invariant.room
      c.loop-range.invariant.put;
  room = room_next range_text range_of c.loop-range.out _ c.loop-range.at _ c.args.ranges.now
      c.loop-range.range-index none c.loop-range-test.true c.put_range.ensures.put refl
      c.loop-range.invariant.room;
  fits = grind (arith, common_steps);
}
