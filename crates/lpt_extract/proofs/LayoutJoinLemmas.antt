-- What is read and told of a layout's packets where parts are joined.
use Rattle.std.proofs.Common.{◌≡◌, sym, subst, ℕ, false, List, [], ◌∷◌, ◌++◌, Option}
use Rattle.lpt_carried.specs.Carried.{part_carried}
use Rattle.lpt_carried.specs.declared.reading.Reading.{Reading}
use Rattle.lpt_layout_each.specs.News.{Event, Hears}
use Rattle.lpt_layout_each.specs.Streams.{events, told_by}
use Rattle.lpt_layout_each.proofs.TellLemmas.{events-next, hears-more}

-- what is told behind what was told before
pub told-on : (s r : Reading) (bs : List (List ℕ)) (b : List ℕ)
    (heard hear hears : Option (List Event))
    → s ≡ r
    → Hears heard hear (events r false bs)
    → Hears hear hears (told_by s false bs b (part_carried s b))
    → Hears heard hears (events r false (bs ++ b ∷ []))
told-on s r bs b heard hear hears same was more =
    subst (Hears heard hears) (sym (events-next r false [] bs b))
    (hears-more heard hear hears (events r false bs) _ was
    (subst (λ (x : Reading). Hears hear hears (told_by x false bs b (part_carried x b))) same more))
