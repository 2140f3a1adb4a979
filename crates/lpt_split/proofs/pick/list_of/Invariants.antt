use Rattle.std.proofs.Common.{◌≡◌, drop}
use Rattle.lpt_split.specs.Shares.{list_of}
use Rattle.lpt_split.proofs.pick.list_of.Given as goal

-- the picks before this one are of other identifiers
abbrev pub invariant-loop-pick : goal.invariant-loop-pick
invariant-loop-pick l = list_of l.picks l.id ≡ list_of (drop l.pick-index l.picks) l.id
