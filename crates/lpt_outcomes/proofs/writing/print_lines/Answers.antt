-- The numbers that were counted are those of the requests.
use Rattle.std.proofs.Common.{rules, arith, ◌≡◌, ◌∙◌}
use Rattle.std.proofs.lemmas.Grind.{common_steps}
use Rattle.std.specs.BTreeMap.{get}
use Rattle.std.specs.List.{flat_map}
use Rattle.std.specs.Map.{count_at}
use Rattle.std.specs.String.{string_bytes}
use Rattle.lpt_outcomes.specs.Keys.{key_cmp, key_of}
use Rattle.lpt_outcomes.specs.Lines.{line_of, with_key}
use Rattle.lpt_outcomes.proofs.AnswerLemmas.{lines-counted}
use Rattle.lpt_outcomes.proofs.writing.print_lines.Goals as goal

pub returns : goal.returns
returns c =
    let requests = c.args.requests.now in
    let counts = count_at (get key_cmp c.in_ok-counts.counts) in
    let whole : string_bytes c.loop-asked.text
    ≡ flat_map (λ a. line_of c.args.form (counts (key_of a)) a) requests =
    first_of (search rules, grind (arith, common_steps))
    in
    whole ∙ lines-counted c.args.form counts (with_key requests) c.in_ok-counts.ensures requests
