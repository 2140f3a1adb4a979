-- The places stand behind the head.
use Rattle.std.proofs.Common.{◌∙◌, ap, sym, ℕ, ◌+◌, ◌*◌, [], ◌∷◌, ◌++◌, drop, refl, length, map, arith}
use Rattle.std.specs.List.{flat_map}
use Rattle.std.proofs.lemmas.List.{length-map}
use Rattle.lpt_memory.specs.Spellings.{range_text}
use Rattle.lpt_c.specs.Requests.{range_of}
use Rattle.lpt_c.proofs.RequestLemmas.{length_ranges, put_body, ranges_spelled}
use Rattle.lpt_c.proofs.requests.write_ranges.Goals as goal

pub returns-clause-body : goal.returns-clause-body
returns-clause-body c =
    put_body c.args.out.now c.put.new.out c.put_ranges.new.out
    (c.args.memory ∷ length c.args.ranges.now ∷ [])
    (flat_map range_text (map range_of c.args.ranges.now)) (2 + 6 * length c.args.ranges.now) refl
    c.put.ensures c.put_ranges.ensures.put
    (omega (
      arith,
      length_ranges (map range_of c.args.ranges.now),
      length-map c.args.ranges.now range_of,
    )) c.requires.room
    ∙ ap (λ (n : ℕ). c.args.memory ∷ n ∷ (flat_map range_text (map range_of c.args.ranges.now)
    ++ drop (2 + 6 * length c.args.ranges.now) c.args.out.now))
    (sym (length-map c.args.ranges.now range_of))

pub returns-clause-fits : goal.returns-clause-fits
returns-clause-fits c =
    let count = length-map c.args.ranges.now range_of in (
      omega (arith, count, c.requires.some),
      omega (arith, count, c.requires.few),
      ranges_spelled c.args.ranges.now c.requires.full c.put_ranges.ensures.fits,
    )
