-- An image, as far as areas give it.
use Rattle.std.specs.Prelude.{◌≡◌, ◌<◌, ◌≤◌, ◌-◌, ℕ, List, Option, Some, None}
use Rattle.lpt_memory.specs.declared.request.Area.{Area}
use Rattle.lpt_extract.specs.declared.image.Image.{Image}
use Rattle.lpt_extract.specs.declared.wanted.ImagePlace.{ImagePlace}
use Rattle.lpt_extract.specs.Areas.{extent, image, image_limit}
use Rattle.lpt_extract.specs.ClashesInside.{Tells}
use Rattle.lpt_extract.specs.CoversInside.{end_of_cover, Covers}

-- the octets that it has
abbrev pub octets_of_image : Image → List ℕ
octets_of_image i = i.octets.items

-- the address behind the area that ends last
abbrev pub end_of_image : Image → ℕ
end_of_image i = end_of_cover i.cover

-- so many octets, if they aren't too many
abbrev pub IsSize : ℕ → Option ℕ → Type 0
IsSize n (Some size) = (size ≡ n) × (n ≤ image_limit)
IsSize n None = image_limit < n

-- it has the gaps of these areas; and the image of them and the addresses for which they gave
-- different octets, if that isn't too large
pub record Imaged (p : ImagePlace) (areas : List Area) (i : Image) : Type 0 where
  pub covers : Covers p.from areas i.cover
  pub octets_are : extent areas - p.from ≤ image_limit → octets_of_image i ≡ image p.from p.fill areas
  pub clashes_are : extent areas - p.from ≤ image_limit → Tells p.from areas i.clashes
