-- What is held and told as areas are taken.
use Rattle.std.specs.Prelude.{◌≡◌, ◌<◌, ◌≤◌, ℕ, Bool, true, false, List, [], map, Option, Some, None}
use Rattle.std.specs.Io.KnownBytes.{Appends}
use Rattle.lpt_stream.specs.declared.cut.Cut.{Cut}
use Rattle.lpt_stream.specs.declared.cut.Cut.TheVariants.{Sealed, Framed, Resumed}
use Rattle.lpt_stream.specs.Pieces.{Piece, packets_of}
use Rattle.lpt_memory.specs.declared.request.Area.{Area}
use Rattle.lpt_extract.specs.declared.extracted.ExtractEnd.{ExtractEnd}
use Rattle.lpt_extract.specs.declared.extracted.ExtractEnd.TheVariants.{Written, Nothing, TooLarge, NotWhole}
use Rattle.lpt_extract.specs.declared.extracted.Extracted.{Extracted}
use Rattle.lpt_extract.specs.declared.extracting.Extraction.{Extraction}
use Rattle.lpt_extract.specs.declared.holding.Holding.{Holding}
use Rattle.lpt_extract.specs.declared.image.Image.{Image}
use Rattle.lpt_extract.specs.declared.notice.Notice.{Notice}
use Rattle.lpt_extract.specs.declared.seen_area.SeenArea.{SeenArea}
use Rattle.lpt_extract.specs.declared.wanted.ImagePlace.{ImagePlace}
use Rattle.lpt_extract.specs.Areas.{extent, image}
use Rattle.lpt_extract.specs.CoversInside.{gaps_of}
use Rattle.lpt_extract.specs.Extracts.{areas_in, is_unbroken, notices_in, AreClashing, AreMissing, start, suits, whole_areas, Fits, IsTooLarge}
use Rattle.lpt_extract.specs.Gaps.{gaps_in}
use Rattle.lpt_extract.specs.ImagesInside.{end_of_image, Imaged}
use Rattle.lpt_extract.specs.Notices.{notice, Hears}
use Rattle.lpt_extract.specs.ReportsInside.{load_area}
use Rattle.lpt_extract.specs.Tallies.{IsTally}

-- where the area ends that ends last of these, and their image, if one is wanted
abbrev pub HasImage : Option ImagePlace → List Area → Image → Type 0
HasImage None areas i = (end_of_image i ≡ extent areas) × (gaps_of i.cover ≡ [])
HasImage (Some p) areas i = Imaged p areas i

-- and what was told is counted
pub record HeldAreas (at : Option ImagePlace) (areas : List Area) (ns : List Notice) (h : Holding)
    : Type 0 where
  pub image : HasImage at areas h.image
  pub counted : IsTally ns h.tally

-- the areas that are taken of those that were seen
abbrev pub areas_given : List SeenArea → List Area
areas_given areas = whole_areas (map load_area areas)

-- what is told of areas that were seen in a report at a place
abbrev pub told_of : (memory place : ℕ) → List SeenArea → List Notice
told_of m n areas = map (notice m n) (map load_area areas)

-- what is written once all areas have come
abbrev pub written_last : Option ImagePlace → List Area → List ℕ
written_last None areas = []
written_last (Some p) areas = image p.from p.fill areas

-- how an extraction ends, and what is written then
abbrev pub EndsBy : Option ImagePlace → List Area → (unbroken : Bool) → ExtractEnd
    → (old new : Option (List ℕ)) → Type 0
EndsBy at areas u Written old new =
    (start at < extent areas) × Fits at areas × (suits at u ≡ true)
    × Appends old new (written_last at areas)
EndsBy at areas u Nothing old new = (extent areas ≤ start at) × Appends old new []
EndsBy at areas u (TooLarge n) old new = IsTooLarge at areas n × Appends old new []
EndsBy at areas u NotWhole old new =
    (start at < extent areas) × Fits at areas × (suits at u ≡ false)
    × Appends old new []

-- whether what was taken has no gap and nothing was passed over
abbrev pub is_unbroken_so_far : Holding → Bool
is_unbroken_so_far h = is_unbroken (gaps_of h.image.cover) h.tally.passed

-- what an extraction gives that ends so
pub record EndsAs (at : Option ImagePlace) (areas : List Area) (ns : List Notice) (x : Extracted)
    (old new : Option (List ℕ)) : Type 0 where
  pub by : EndsBy at areas (is_unbroken (gaps_in x.gaps) x.tally.passed) x.end old new
  pub missing : AreMissing at areas (gaps_in x.gaps)
  pub clashing : AreClashing at areas x.clashes
  pub counted : IsTally ns x.tally

-- what the packets among pieces that begin at a place give is held, and was told
pub record IsExtracted (from : ℕ) (first now : Extraction) (heard hears : Option (List Notice))
    (ps : List Piece) : Type 0 where
  pub same : now.wanted ≡ first.wanted
  pub held : HeldAreas now.wanted.at (areas_in now.wanted (packets_of ps))
      (notices_in now.wanted from ps) now.holding
  pub hears_is : Hears heard hears (notices_in now.wanted from ps)

-- whether a cut looks at checksums
abbrev pub is_sealed : Cut → Bool
is_sealed Sealed = true
is_sealed Framed = false
is_sealed (Resumed l) = false
