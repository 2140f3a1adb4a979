-- The area's octets are within the body, and are those that the load writes there.
use Rattle.std.proofs.Common.{◌∙◌, ap, sym, ◌<◌, ℕ, List, length, Option, Some, arith}
use Rattle.std.specs.Prelude.{option_map}
use Rattle.std.proofs.lemmas.Option.{slice_get-get_or}
use Rattle.lpt_memory.specs.declared.request.StoredArea.{StoredArea}
use Rattle.lpt_memory.specs.Seen.{octets_at}
use Rattle.lpt_memory.proofs.GivenLemmas.{octets-at, within-at}
use Rattle.lpt_memory.proofs.given.octets_at.Goals as goal

abbrev none : StoredArea
none = record { address = 0; from = 0; len = 0; checksum = 0 }

pub octets-requires : goal.octets-requires
octets-requires c =
    let there : c.args.number < length c.args.areas.now = omega arith in
    within-at (length c.args.body.now) c.args.areas.now c.args.number none there c.requires

pub returns : goal.returns
returns c =
    let body = c.args.body.now in
    let areas = c.args.areas.now in
    let there : c.args.number < length areas = omega arith in
    ap (λ (o : List ℕ). Some o) c.octets.ensures
    ∙ ap (λ (o : Option StoredArea). option_map (octets_at body) o)
    (sym (slice_get-get_or areas c.args.number none there))
    ∙ octets-at body areas c.args.number
