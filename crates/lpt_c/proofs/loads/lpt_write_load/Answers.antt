-- The area has a spelling.
use Rattle.std.proofs.Common.{◌<◌, length, arith}
use Rattle.std.proofs.lemmas.Bool.Decides.{nat_tests}
use Rattle.lpt_c.specs.Loads.{area_of}
use Rattle.lpt_c.proofs.LoadLemmas.{load_meant}
use Rattle.lpt_c.proofs.loads.lpt_write_load.Goals as goal

pub returns-clause-means : goal.returns-clause-means
returns-clause-means c =
    let some : 0 < length c.args.octets.now = grind (arith, nat_tests, c.if-is_empty.ensures) in
    λ done. load_meant c.args.memory (area_of c.args.address c.args.octets.now)
    c.ranges.address.fits some (omega (arith, c.if-octets.false))
