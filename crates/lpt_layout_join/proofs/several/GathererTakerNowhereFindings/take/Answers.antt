-- A piece more of a stream that begins at 0.
use Rattle.std.proofs.Common.{◌≡◌, ◌∙◌, ap, sym, subst, ℕ, ◌+◌, ◌∷◌, ◌++◌, [], arith}
use Rattle.lpt_carried.specs.declared.wanted.Wanted.{Wanted}
use Rattle.lpt_stream.specs.Pieces.{octets_in, up_to_limit}
use Rattle.lpt_layout_join.specs.Readers.{Gathers}
use Rattle.lpt_layout_join.proofs.several.GathererTakerNowhereFindings.take.Goals as goal

zero_front : (n : ℕ) → 0 + n ≡ n
zero_front n = omega arith

pub returns-in-Ok-clause-taken : goal.returns-in-Ok-clause-taken
returns-in-Ok-clause-taken c = λ from first old pieces h at. record {
  front = h.front;
  same = h.same;
  gathers = subst (λ (w : Wanted). Gathers w c.add.new.self
      (pieces ++ record { kind = c.args.kind; octets = c.args.octets.now } ∷ [])) h.same
      (c.in-Ok.ensures pieces
      (subst (λ (w : Wanted). Gathers w c.args.lent.now pieces) (sym h.same) h.gathers)
      (at ∙ ap (λ (n : ℕ). up_to_limit (n + octets_in pieces)) h.front
      ∙ ap up_to_limit (zero_front (octets_in pieces))));
}
