-- What is told, as the code has it.
use Rattle.std.specs.Prelude.{◌+◌, List, [], ◌∷◌, Option, Some, None}
use Rattle.lpt_carried.specs.declared.name.Name.{Name}
use Rattle.lpt_layout_join.specs.CameInside.{last_in, part_at}
use Rattle.lpt_layout_each.specs.declared.news.NewsAs.{NewsAs}
use Rattle.lpt_layout_each.specs.declared.news.NewsAs.TheVariants as said
use Rattle.lpt_layout_each.specs.News.{Event, News, Given, Dropped, Unfit, Overtaken}

-- what is told
abbrev pub news_of : NewsAs → News
news_of (said.Given m) = Given m
news_of (said.Dropped s) = Dropped (λ n. part_at s (n + 1)) (last_in s)
news_of (said.Unfit e) = Unfit e
news_of (said.Overtaken s m) = Overtaken (λ n. part_at s (n + 1)) (last_in s) m

-- news of a name, if there are
abbrev pub events_of : Option (Name × NewsAs) → List Event
events_of None = []
events_of (Some e) = (e.0, news_of e.1) ∷ []
