-- How many requests a plan has.
use Rattle.std.proofs.Common.{◌≡◌, ap, refl, ℕ, suc, List, [], ◌∷◌, length}
use Rattle.lpt_requests.specs.declared.request.Request.{Request}
use Rattle.lpt_requests.specs.Packets.{next_count}
use Rattle.lpt_ground.specs.Plans.{requests_planned}

pub length-planned : (apid source count flags : ℕ) (rs : List Request)
    → length (requests_planned apid source count flags rs) ≡ length rs
length-planned apid source count flags [] = refl
length-planned apid source count flags (r ∷ rs) =
    ap suc (length-planned apid source (next_count count) flags rs)
