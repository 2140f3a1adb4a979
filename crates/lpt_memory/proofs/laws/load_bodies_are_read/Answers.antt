-- A load's areas, one after the other.
use Rattle.lpt_memory.specs.Requests.{front_load_area}
use Rattle.lpt_memory.specs.Spellings.{load_area_text, LoadAreaFits}
use Rattle.lpt_memory.proofs.BodyLemmas.{load_area_takes, load_area_again, body_takes, body_again}
use Rattle.lpt_memory.proofs.laws.load_bodies_are_read.Goals as goal

pub returns-clause-spelled : goal.returns-clause-spelled
returns-clause-spelled c = body_again front_load_area load_area_text LoadAreaFits load_area_again

pub returns-clause-only : goal.returns-clause-only
returns-clause-only c = body_takes front_load_area load_area_text LoadAreaFits load_area_takes
