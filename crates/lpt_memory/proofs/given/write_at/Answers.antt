-- An area's length is that of its octets.
use Rattle.std.proofs.Common.{◌∙◌, ap, sym, ◌<◌, length, Option, arith}
use Rattle.std.specs.Prelude.{option_map}
use Rattle.std.proofs.lemmas.Option.{slice_get-get_or}
use Rattle.lpt_memory.specs.declared.request.StoredArea.{StoredArea}
use Rattle.lpt_memory.proofs.GivenLemmas.{access_of, write-at}
use Rattle.lpt_memory.proofs.given.write_at.Goals as goal

pub returns : goal.returns
returns c = λ body within.
    let areas = c.args.areas.now in
    let there : c.args.number < length areas = omega arith in
    ap (λ (o : Option StoredArea). option_map (access_of c.args.id) o)
    (sym (slice_get-get_or areas c.args.number
    (record { address = 0; from = 0; len = 0; checksum = 0 }) there))
    ∙ write-at c.args.id body areas c.args.number within
