use Rattle.std.proofs.Common.{◌≡◌, ◌∙◌, ◌+◌, ◌-◌, arith, sym, slice_index_or, Less}
use Rattle.lpt_packet.specs.Names.{no_name}
use Rattle.lpt_table.specs.declared.places.DuePlace.{DuePlace}
use Rattle.lpt_table.specs.Places.{by_moment, rank, when_cmp}
use Rattle.lpt_table.proofs.RankLemmas.{beside, rank-at-most, rank-beyond}
use Rattle.lpt_table.proofs.PuttingLemmas.{belongs-within}
use Rattle.lpt_table.proofs.places.rank_of.Goals as goal
use Rattle.lpt_table.proofs.places.rank_of.Goals.{After-then}

-- what a place is that isn't there
abbrev none : DuePlace
none = record { last = 0; name = no_name; key = 0 }

-- the place was compared
compared : (c : After-then)
    → c.then.result
    ≡ beside (c.args.last, c.args.name) (slice_index_or c.args.places.now (c.loop-at.at - 1) none)
compared c = cc

pub loop-at-init : goal.loop-at-init
loop-at-init c = belongs-within c.args.last c.args.name c.args.places.now

pub loop-at-preserved : goal.loop-at-preserved
loop-at-preserved c =
    rank-at-most (c.args.last, c.args.name) c.args.places.now (c.loop-at.at - 1) none
    (omega (arith, c.loop-at.auto.at, c.loop-at-test.true))
    (sym (compared (goal.at.loop-at-preserved c).After-then) ∙ c.in-Less.is)

-- it belongs behind a place that is not later
behind : (c : After-then)
    → (c.then.result ≡ Less → ⊥)
    → c.loop-at.at - 1 + 1
    ≡ rank when_cmp (c.args.last, c.args.name) (by_moment c.args.places.now)
behind c h =
    omega (
      arith,
      c.loop-at.auto.at,
      c.loop-at-test.true,
      c.loop-at.invariant,
      rank-beyond (c.args.last, c.args.name) c.args.places.now (c.loop-at.at - 1) none
          c.requires (omega (arith, c.loop-at.auto.at, c.loop-at-test.true))
          (λ e. h (compared c ∙ e)),
    )

pub returns-in-Equal : goal.returns-in-Equal
returns-in-Equal c =
    behind (goal.at.returns-in-Equal c).After-then (λ e. absurd (let n = sym c.in-Equal.is ∙ e in cc))

pub returns-in-Greater : goal.returns-in-Greater
returns-in-Greater c =
    behind (goal.at.returns-in-Greater c).After-then
    (λ e. absurd (let n = sym c.in-Greater.is ∙ e in cc))
