-- An area more ends where it does.
use Rattle.lpt_memory.specs.Meanings.{area}
use Rattle.lpt_extract.specs.ReportsInside.{load_area}
use Rattle.lpt_extract.proofs.GiveLemmas.{image-held-next}
use Rattle.lpt_extract.proofs.ReadLemmas.{any-ok}
use Rattle.lpt_extract.proofs.taking.keep_area.Goals as goal

pub returns-in-None-clause-held : goal.returns-in-None-clause-held
returns-in-None-clause-held g c = λ before ns h.
    any-ok _ c.write_out.result (record {
      image = image-held-next c.args.wanted.now.at before (area (load_area c.args.seen.now))
          c.args.holding.now.image c.reach.new.self c.in-None.is c.reach.ensures.end
          c.reach.ensures.gaps h.image;
      counted = h.counted;
    })
