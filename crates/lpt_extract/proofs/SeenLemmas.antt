-- What octets give of memories, by the dump report that is found in them.
use Rattle.std.proofs.Common.{◌≡◌, ◌∙◌, ap, sym, ℕ, List, [], ◌∷◌, Option, append-nil}
use Rattle.lpt_extract.specs.declared.wanted.Wanted.{Wanted}
use Rattle.lpt_extract.specs.Extracts.{areas_in, areas_of, notices_of}
use Rattle.lpt_extract.specs.Joined.{notices_by}
use Rattle.lpt_extract.specs.Reports.{DumpOrPart, dump_in, report_in, said_in}

module _ (w : Wanted) (b : List ℕ) (d : Option DumpOrPart) (e : d ≡ dump_in w.layout b) where
  report-said : said_in w.apid d ≡ report_in w b
  unfolding report_in
  report-said = ap (said_in w.apid) e

  pub areas-seen : areas_of w.at (said_in w.apid d) ≡ areas_in w (b ∷ [])
  areas-seen =
      ap (areas_of w.at) report-said ∙ sym (append-nil (areas_of w.at (report_in w b)))

  pub notices-seen : (n : ℕ)
      → notices_of w.at n (said_in w.apid d) ≡ notices_by w n (b ∷ [])
  notices-seen n =
      ap (notices_of w.at n) report-said ∙ sym (append-nil (notices_of w.at n (report_in w b)))
