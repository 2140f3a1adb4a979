-- The key is among the words that are left where it is among all.
use Rattle.std.proofs.Common.{◌≡◌, drop, map}
use Rattle.lpt_settings.specs.Keys.{is_one_of}
use Rattle.lpt_settings.proofs.keys.is_one_of.Given as goal

abbrev pub invariant-loop-word : goal.invariant-loop-word
invariant-loop-word l =
    is_one_of (map (λ w. w.now) (drop l.word-index l.words)) l.key
    ≡ is_one_of (map (λ w. w.now) l.words) l.key
