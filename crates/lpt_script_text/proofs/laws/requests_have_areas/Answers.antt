use Rattle.lpt_script_text.proofs.AreaLemmas.{load_areas, range_areas}
use Rattle.lpt_script_text.proofs.laws.requests_have_areas.Goals as goal

pub returns-clause-load : goal.returns-clause-load
returns-clause-load c = load_areas

pub returns-clause-ranges : goal.returns-clause-ranges
returns-clause-ranges c = range_areas
