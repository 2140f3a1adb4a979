-- What is kept of a name while packets of others come, as the code has it.
use Rattle.std.specs.Prelude.{◌≡◌, ◌⊎◌, Box, Option, Some, None}
use Rattle.std.specs.declared.alloc.Global.{Global}
use Rattle.lpt_layout_join.specs.declared.came.CameAs.{CameAs}
use Rattle.lpt_layout_join.specs.CameInside.{IsBlank}
use Rattle.lpt_layout_each.specs.declared.course.CourseAs.{CourseAs}
use Rattle.lpt_layout_each.specs.declared.kept.Apart.{Apart}
use Rattle.lpt_layout_each.specs.declared.kept.Inside.{Inside}
use Rattle.lpt_layout_each.specs.declared.kept.Others.{Others}

-- parts out of their block
abbrev pub out_of_box : Option (Box CameAs Global) → Option CameAs
out_of_box None = None
out_of_box (Some b) = Some b.value

-- the last message, all parts, and those that came in their order, out of their blocks
abbrev pub out_of_boxes : Option (Box Others Global) → Apart
out_of_boxes None = record { last = None; all = None; run = None }
out_of_boxes (Some b) = record {
  last = out_of_box b.value.last;
  all = out_of_box b.value.all;
  run = out_of_box b.value.run;
}

-- these parts, unless there are none
abbrev pub IsUnlessBlank : CameAs → Option CameAs → Type 0
IsUnlessBlank s o = (o ≡ Some s) ⊎ ((o ≡ None) × IsBlank s)

-- these, but for a run of no parts
pub record IsOthers (last all : Option CameAs) (run : CameAs) (o : Option (Box Others Global)) :
    Type 0 where
  pub last_is : (out_of_boxes o).last ≡ last
  pub all_is : (out_of_boxes o).all ≡ all
  pub run_is : IsUnlessBlank run (out_of_boxes o).run

-- these parts, or others
abbrev pub came_or : Option CameAs → CameAs → CameAs
came_or None s = s
came_or (Some t) s = t

-- the course that is kept, with parts in place of a run of none
abbrev pub course_of : Inside → CameAs → CourseAs
course_of k s = record {
  held = record { last = (out_of_boxes k.others).last; all = (out_of_boxes k.others).all; rest = k.rest };
  run = record {
    order = record { count = k.count; missing = k.missing; room = k.room; few = k.few };
    came = came_or (out_of_boxes k.others).run s;
  };
  alone = k.alone;
  stale = k.stale;
  gave = k.gave;
}
