-- The kit's date is the day's.
use Rattle.std.proofs.Common.{◌≡◌, pos, ◌-ℤ◌, arith}
use Rattle.jiff_core.specs.Date.{epoch_day}
use Rattle.jiff_core.proofs.SignedLemmas.{signed_casts}
use Rattle.lpt_carried.proofs.DateLemmas.{day_text}
use Rattle.lpt_carried.proofs.text.date_of.Goals as goal

pub returns : goal.returns
returns c =
    let day : epoch_day c.in-Ok.date ≡ pos c.args.day -ℤ pos 25567 =
    omega (arith, signed_casts, c.in-Ok.ensures.value, c.from.ensures) in
    day_text c.in-Ok.date c.args.day day
