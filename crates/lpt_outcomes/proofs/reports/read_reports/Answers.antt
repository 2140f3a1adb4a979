-- What was told by source and request ID is what the reports of the stream tell.
use Rattle.std.proofs.Common.{◌∙◌, ap, if◌then◌else◌, Some, None}
use Rattle.std.specs.BTreeMap.{get}
use Rattle.lpt_outcomes.specs.Answers.{told_at}
use Rattle.lpt_outcomes.specs.Keys.{key_cmp}
use Rattle.lpt_outcomes.specs.Reports.{news_of}
use Rattle.lpt_outcomes.specs.Requests.{nothing_told}
use Rattle.lpt_outcomes.proofs.AnswerLemmas.{answered-heard}
use Rattle.lpt_outcomes.proofs.reports.read_reports.Goals as goal

pub returns-in-Ok-clause-heard : goal.returns-in-Ok-clause-heard
returns-in-Ok-clause-heard g c =
    let read = c.in-Ok.ensures.taken in
    let m = c.in-Ok.last.outcomes in
    let ps = read.pieces in
    let taken = read.gives.0 in
    record {
      stream = read.stream;
      pieces = ps;
      in_step = read.in_step;
      rest = read.rest;
      consumed = read.consumed;
      leads = read.leads;
      ends = read.ends;
      gives = (
        c.answer.ensures
            ∙ answered-heard (get key_cmp m) c.args.requests.now (news_of c.args.layout.now ps)
            (λ k some. taken.1 k ∙ ap (told_at k (news_of c.args.layout.now ps))
            (c.in_ok-untold.ensures k ∙ ap (λ b. if b then Some nothing_told else None) some)),
        taken.2,
      );
    }
