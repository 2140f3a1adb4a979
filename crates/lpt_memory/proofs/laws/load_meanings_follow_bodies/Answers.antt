-- What a load means, by what its body is read as.
use Rattle.lpt_memory.specs.Requests.{front_load_area, request_in}
use Rattle.lpt_memory.specs.Spellings.{load_area_text, body_text, LoadAreaFits}
use Rattle.lpt_memory.specs.Meanings.{load_meaning, body_meaning}
use Rattle.lpt_memory.proofs.BodyLemmas.{load_area_takes, load_area_again, body_takes, body_again}
use Rattle.lpt_memory.proofs.BodyMeanings.{if_formed-malformed, if_formed-unknown, if_formed-known}
use Rattle.lpt_memory.proofs.laws.load_meanings_follow_bodies.Goals as goal

pub returns-clause-malformed : goal.returns-clause-malformed
unfolding body_meaning
returns-clause-malformed c =
    if_formed-malformed front_load_area load_area_text LoadAreaFits load_meaning
    (body_takes front_load_area load_area_text LoadAreaFits load_area_takes)

pub returns-clause-unknown : goal.returns-clause-unknown
unfolding body_meaning
returns-clause-unknown c = λ sizes memory areas fits unknown.
    if_formed-unknown load_meaning sizes
    (request_in front_load_area (body_text load_area_text memory areas))
    (record { memory = memory; areas = areas })
    (body_again front_load_area load_area_text LoadAreaFits load_area_again memory areas fits)
    unknown

pub returns-clause-known : goal.returns-clause-known
unfolding body_meaning
returns-clause-known c = λ sizes memory size areas fits known.
    if_formed-known load_meaning sizes
    (request_in front_load_area (body_text load_area_text memory areas))
    (record { memory = memory; areas = areas }) size
    (body_again front_load_area load_area_text LoadAreaFits load_area_again memory areas fits) known
