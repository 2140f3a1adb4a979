-- What a dump or a check means, by what its body is read as.
use Rattle.lpt_memory.specs.Requests.{front_range, request_in}
use Rattle.lpt_memory.specs.Spellings.{range_text, body_text, RangeFits}
use Rattle.lpt_memory.specs.Meanings.{dump_meaning, check_meaning, body_meaning}
use Rattle.lpt_memory.proofs.BodyLemmas.{range_takes, range_again, body_takes, body_again}
use Rattle.lpt_memory.proofs.BodyMeanings.{if_formed-malformed, if_formed-unknown, if_formed-known}
use Rattle.lpt_memory.proofs.laws.range_meanings_follow_bodies.Goals as goal

pub returns-clause-malformed : goal.returns-clause-malformed
unfolding body_meaning
returns-clause-malformed c = λ sizes body o none.
    let only = body_takes front_range range_text RangeFits range_takes in (
      if_formed-malformed front_range range_text RangeFits dump_meaning only sizes body o none,
      if_formed-malformed front_range range_text RangeFits check_meaning only sizes body o none,
    )

pub returns-clause-unknown : goal.returns-clause-unknown
unfolding body_meaning
returns-clause-unknown c = λ sizes memory ranges fits unknown.
    let read = request_in front_range (body_text range_text memory ranges) in
    let is = body_again front_range range_text RangeFits range_again memory ranges fits in (
      if_formed-unknown dump_meaning sizes read
          (record { memory = memory; areas = ranges }) is unknown,
      if_formed-unknown check_meaning sizes read
          (record { memory = memory; areas = ranges }) is unknown,
    )

pub returns-clause-dump : goal.returns-clause-dump
unfolding body_meaning
returns-clause-dump c = λ sizes memory size ranges fits known.
    if_formed-known dump_meaning sizes (request_in front_range (body_text range_text memory ranges))
    (record { memory = memory; areas = ranges }) size
    (body_again front_range range_text RangeFits range_again memory ranges fits) known

pub returns-clause-check : goal.returns-clause-check
unfolding body_meaning
returns-clause-check c = λ sizes memory size ranges fits known.
    if_formed-known check_meaning sizes
    (request_in front_range (body_text range_text memory ranges))
    (record { memory = memory; areas = ranges }) size
    (body_again front_range range_text RangeFits range_again memory ranges fits) known
