-- Planned loads, and the areas that they are of.
use Rattle.std.proofs.Common.{◌≡◌, ◌∙◌, ap, sym, subst, ℕ, zero, suc, ◌+◌, ◌^◌, ◌<◌, ◌≤◌, ◌==◌, List, [], ◌∷◌, ◌++◌, length, map, Some, None, arith}
use Rattle.std.specs.List.{slice_get, AllByRecursion}
use Rattle.lpt_pus.specs.Ranges.{TcFits}
use Rattle.lpt_memory.specs.declared.request.Area.{Area}
use Rattle.lpt_memory.specs.Memories.{Contents, sizes_of}
use Rattle.lpt_memory.specs.Meanings.{Sizes}
use Rattle.lpt_memory.specs.Ranges.{AreasFit}
use Rattle.lpt_requests.specs.declared.cut_fault.CutFault.TheVariants.{Empty}
use Rattle.lpt_requests.specs.Cuts.{area_faults, place_fault}
use Rattle.lpt_passes.specs.Images.{Agrees, Image}
use Rattle.lpt_ground.specs.declared.asked.Asked.{Asked}
use Rattle.lpt_ground.specs.declared.pass.End.TheVariants.{Done}
use Rattle.lpt_ground.specs.declared.pass.Step.TheVariants.{Stop}
use Rattle.lpt_ground.specs.Carrying.{come_to}
use Rattle.lpt_ground.specs.Passes.{pass_begun, next_step}
use Rattle.lpt_ground.specs.Plans.{requests_planned}
use Rattle.lpt_passes.specs.Chains.{DoneLeavesTheImage}
use Rattle.lpt_passes.specs.AloneJobs.{image_of}
use Rattle.lpt_ground_run.specs.Errands.{ArePlans, IsPlan, Task}
use Rattle.lpt_passes.specs.Areas.{AllAgree, DoneLeavesTheAreas, IsTask}
use Rattle.lpt_passes.proofs.AtLemmas.{all-at}
use Rattle.lpt_passes.proofs.LeavingLemmas.{AllSuit, Reaches, done-leaves}
use Rattle.lpt_passes.proofs.PacketLemmas.{AllLoad, load-append, planned-load}
use Rattle.lpt_passes.proofs.PieceLemmas.{else-none, none-first, place-fits, pieces-reach, pieces-short, pieces-suit, reach-back, reach-front, size-known, suit-append}

-- an area without a fault ends within the addresses
area-ends : (areas : List Area) (n : ℕ) (a : Area)
    → area_faults areas ≡ None
    → slice_get areas n ≡ Some a
    → a.address + length a.octets ≤ 2 ^ 32
area-ends [] n a none there = absurd cc
area-ends (b ∷ rest) zero a none there =
    let same : b ≡ a = cc in
    let both = none-first (place_fault b.address (length b.octets)) (area_faults rest) none in
    subst (λ (z : Area). z.address + length z.octets ≤ 2 ^ 32) same
    (place-fits b.address (length b.octets) both.0)
area-ends (b ∷ rest) (suc n) a none there =
    let both = none-first (place_fault b.address (length b.octets)) (area_faults rest) none in
    area-ends rest n a both.1 there

-- an area lies within its memory
area-within : (size : ℕ) (areas : List Area) (n : ℕ) (a : Area)
    → AreasFit size areas
    → slice_get areas n ≡ Some a
    → a.address + length a.octets ≤ size
area-within size [] n a fit there = absurd cc
area-within size (b ∷ rest) zero a fit there =
    let same : b ≡ a = cc in
    subst (λ (z : Area). z.address + length z.octets ≤ size) same fit.0
area-within size (b ∷ rest) (suc n) a fit there = area-within size rest n a fit.1 there

-- ---- one plan

module _ (apid source : ℕ) (first : Contents) (t : Task) (asked : List Asked)
    (task : IsTask apid source first t) (plan : IsPlan t asked) where
  -- its pieces, as images
  abbrev images : List Image
  images = map (image_of t.memory) plan.pieces

  faults : area_faults t.areas ≡ None
  faults = else-none (length t.areas == 0) Empty (area_faults t.areas) task.faultless

  plan-load : source < 65536 → AllLoad apid images asked
  plan-load fits =
      let head : TcFits t.heads.apid t.heads.count t.heads.flags = record {
        apid_fits = t.heads.apids;
        count_fits = t.heads.counts;
        flags_fit = task.flags_fit;
      } in
      let all = planned-load t.heads.apid t.heads.source t.heads.count t.heads.flags t.memory
      plan.planned.requests plan.pieces head (omega (arith, task.of_source, fits))
      (pieces-short t.each t.areas plan.pieces task.some task.few
      (λ n a there. area-ends t.areas n a faults there) plan.cut) plan.planned.ask in
      subst (AllLoad apid images) (sym plan.planned.are)
      (subst (λ (n : ℕ). AllLoad n images
      (requests_planned t.heads.apid t.heads.source t.heads.count
      t.heads.flags plan.planned.requests)) task.of_apid all)

  plan-suit : (x : Image)
      → (t.memory ≡ x.memory → AllByRecursion (Agrees x) t.areas)
      → AllSuit (sizes_of first) x images
  plan-suit x agree =
      pieces-suit (sizes_of first) x t.each t.memory (length task.before) t.areas plan.pieces
      (size-known t.memory task.before first task.is_known)
      (λ n a there. record {
        within = area-within (length task.before) t.areas n a task.fit there;
        agrees = λ same. all-at (Agrees x) t.areas (agree same) n a there;
      }) plan.cut

-- ---- plans

-- what is known of plans: their pieces, which suit an image and reach its octets
record ArePieces (apid : ℕ) (sizes : Sizes) (x : Image) (asked : List Asked) : Type 0 where
  pub pieces : List Image
  pub load : AllLoad apid pieces asked
  pub suit : AllSuit sizes x pieces

-- the same, and all octets are reached
record AreWhole (apid : ℕ) (sizes : Sizes) (x : Image) (asked : List Asked) : Type 0 where
  pub pieces : List Image
  pub load : AllLoad apid pieces asked
  pub suit : AllSuit sizes x pieces
  pub reach : (i : ℕ) → i < length x.octets → Reaches x i pieces

all-pieces : (apid source : ℕ) (first : Contents) (x : Image) (tasks : List Task)
    (asked : List Asked)
    → source < 65536
    → AllByRecursion (IsTask apid source first) tasks
    → ArePlans tasks asked
    → AllAgree tasks x
    → ArePieces apid (sizes_of first) x asked
all-pieces apid source first x [] asked fits are plans agree = record {
  pieces = [];
  load = subst (AllLoad apid []) (sym plans) tt;
  suit = λ k q there. absurd cc;
}
all-pieces apid source first x (t ∷ tasks) asked fits are plans agree =
    let rest = all-pieces apid source first x tasks plans.1 fits are.1 plans.4 agree.1 in
    let own = images apid source first t plans.0 are.0 plans.3 in
    record {
      pieces = own ++ rest.pieces;
      load =
          subst (AllLoad apid (own ++ rest.pieces)) (sym plans.2)
          (load-append apid own rest.pieces plans.0 plans.1
          (plan-load apid source first t plans.0 are.0 plans.3 fits) rest.load);
      suit =
          suit-append (sizes_of first) x own rest.pieces
          (plan-suit apid source first t plans.0 are.0 plans.3 x agree.0) rest.suit;
    }

whole-pieces : (apid source : ℕ) (first : Contents) (tasks : List Task) (asked : List Asked)
    (n k : ℕ) (u : Task) (a : Area)
    → source < 65536
    → AllByRecursion (IsTask apid source first) tasks
    → ArePlans tasks asked
    → slice_get tasks n ≡ Some u
    → slice_get u.areas k ≡ Some a
    → AllAgree tasks (image_of u.memory a)
    → AreWhole apid (sizes_of first) (image_of u.memory a) asked
whole-pieces apid source first [] asked n k u a fits are plans there at agree = absurd cc
whole-pieces apid source first (t ∷ tasks) asked zero k u a fits are plans there at agree =
    let same : t ≡ u = cc in
    let x : Image = image_of u.memory a in
    let rest = all-pieces apid source first x tasks plans.1 fits are.1 plans.4 agree.1 in
    let plan : IsPlan t plans.0 = plans.3 in
    let own = images apid source first t plans.0 are.0 plan in
    record {
      pieces = own ++ rest.pieces;
      load =
          subst (AllLoad apid (own ++ rest.pieces)) (sym plans.2)
          (load-append apid own rest.pieces plans.0 plans.1
          (plan-load apid source first t plans.0 are.0 plan fits) rest.load);
      suit =
          suit-append (sizes_of first) x own rest.pieces
          (plan-suit apid source first t plans.0 are.0 plan x agree.0) rest.suit;
      reach = λ i within.
          reach-front x i own rest.pieces
          (subst (λ (m : ℕ). Reaches (image_of m a) i own) (ap (λ (z : Task). z.memory) same)
          (pieces-reach t.each t.memory t.areas plan.pieces k a i plan.cut
          (ap (λ (z : Task). slice_get z.areas k) same ∙ at) within));
    }
whole-pieces apid source first (t ∷ tasks) asked (suc n) k u a fits are plans there at agree =
    let x : Image = image_of u.memory a in
    let rest =
    whole-pieces apid source first tasks plans.1 n k u a fits are.1 plans.4 there at agree.1 in
    let plan : IsPlan t plans.0 = plans.3 in
    let own = images apid source first t plans.0 are.0 plan in
    record {
      pieces = own ++ rest.pieces;
      load =
          subst (AllLoad apid (own ++ rest.pieces)) (sym plans.2)
          (load-append apid own rest.pieces plans.0 plans.1
          (plan-load apid source first t plans.0 are.0 plan fits) rest.load);
      suit =
          suit-append (sizes_of first) x own rest.pieces
          (plan-suit apid source first t plans.0 are.0 plan x agree.0) rest.suit;
      reach = λ i within. reach-back x i own rest.pieces (rest.reach i within);
    }

pub done-areas : DoneLeavesTheImage → DoneLeavesTheAreas
done-areas image c first xs tasks asked terms longest down end old new place n k t a config can apid
    fits are plans came put there at agree alone =
    let x : Image = image_of t.memory a in
    let task = all-at (IsTask c.apid terms.source first) tasks are n t there in
    let all = whole-pieces c.apid terms.source first tasks asked n k t a fits are plans there at
    agree in
    let ended : next_step (come_to terms (pass_begun terms asked) came.answers) ≡ Stop Done
    = ap next_step (sym came.came) ∙ came.ends in
    done-leaves image c first xs x task.before terms all.pieces asked came.answers place config can
    task.is_known (area-within (length task.before) t.areas k a task.fit at) apid all.load all.suit
    all.reach alone put ended
