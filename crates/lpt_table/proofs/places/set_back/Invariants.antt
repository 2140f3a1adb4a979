-- The places up to this one are set back.
use Rattle.std.proofs.Common.{◌≡◌, ◌++◌, map, take, drop}
use Rattle.lpt_table.specs.SettingBack.{place_earlier}
use Rattle.lpt_table.proofs.places.set_back.Given as goal

abbrev pub invariant-loop-place : goal.invariant-loop-place
invariant-loop-place l =
    l.places
    ≡ map (place_earlier l.ticks) (take l.place-index l.initial.places)
    ++ drop l.place-index l.initial.places
