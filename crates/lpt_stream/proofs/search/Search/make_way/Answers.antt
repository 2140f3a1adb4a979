-- Of nothing that is kept all is right.
use Rattle.lpt_stream.proofs.search.Search.make_way.Goals as goal

pub returns-then-len-saturating_sub-clause-knows : goal.returns-then-len-saturating_sub-clause-knows
returns-then-len-saturating_sub-clause-knows c = λ octets knows. c.forget.ensures.knows octets
