-- A pass that was carried to its end.
use Rattle.std.specs.Prelude.{◌≡◌, ℕ, List, Option}
use Rattle.std.specs.Io.KnownBytes.{Appends}
use Rattle.lpt_ground.specs.declared.asked.Terms.{Terms}
use Rattle.lpt_ground.specs.declared.pass.End.{End}
use Rattle.lpt_ground.specs.declared.pass.End.TheVariants.{Done}
use Rattle.lpt_ground.specs.declared.pass.Step.TheVariants.{Stop}
use Rattle.lpt_ground.specs.Carrying.{Answer, AllCome, AllTold, come_to, packets_of, octets_written}
use Rattle.lpt_ground.specs.Passes.{PassState, next_step}
use Rattle.lpt_ground.specs.declared.large.Large.{Large}
use Rattle.lpt_ground.specs.CarryingLarge as large
use Rattle.lpt_ground.specs.Uplinks.{Way, next_way}

-- Whatever the ear answered: the pass came to this end by it, and wrote what follows from it. Of
-- each packet among the answers this holds. If the pass is done, of each request that waited one of
-- them says so.
pub record CameTo (P : List ℕ → Type 0) (terms : Terms) (s t : PassState)
    (old new : Option (List ℕ)) (end : End) : Type 0 where
  pub answers : List Answer
  pub comes : AllCome P answers
  pub came : t ≡ come_to terms s answers
  pub ends : next_step t ≡ Stop end
  pub written : Appends old new (octets_written terms s answers)
  pub told : end ≡ Done → AllTold terms s.asked (packets_of answers)

-- The same of a large message: by the answers it came to this end, and what went up follows from
-- them.
pub record CameUp (P : List ℕ → Type 0) (l : Large) (terms : Terms) (w v : Way)
    (old new : Option (List ℕ)) (end : End) : Type 0 where
  pub answers : List Answer
  pub comes : AllCome P answers
  pub came : v ≡ large.come_to l terms w answers
  pub ends : next_way l v ≡ Stop end
  pub written : Appends old new (large.all_written l terms w answers)
  pub told : end ≡ Done → AllTold terms w.of_request.asked (packets_of answers)
