-- As many parts are stored as are counted.
use Rattle.std.proofs.Common.{◌∙◌, sym}
use Rattle.std.specs.FinMap as map
use Rattle.lpt_reception.specs.Stored.{parts_stored}
use Rattle.lpt_reception.proofs.store.Store.len.Goals as goal

pub returns : goal.returns
returns c p kept = sym (map.len-entries (parts_stored p c.args.self.now) ∙ kept.count)
