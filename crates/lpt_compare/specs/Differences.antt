-- The stretches in which two images of as many octets each differ.
use Rattle.std.specs.Prelude.{◌≡◌, ◌≢◌, ℕ, ◌+◌, ◌-◌, ◌%◌, ◌<◌, ◌≤◌, min, List, [], ◌∷◌, length, map, take, drop, slice_index, Option, Some, None}
use Rattle.lpt_memory.specs.declared.request.Area.{Area}
use Rattle.lpt_memory.specs.Memories.{put_all, put_at}
use Rattle.lpt_compare.specs.declared.differing.Stretch.{Stretch}

-- ---- octets

-- the octets that a stretch has in an image
abbrev pub octets_in : List ℕ → Stretch → List ℕ
octets_in image s = take (s.end - s.from) (drop s.from image)

-- the same as an area of a memory that has the image at an address
abbrev pub area_at : (address : ℕ) → (image : List ℕ) → Stretch → Area
area_at address image s = record { address = address + s.from; octets = octets_in image s }

-- a memory has an image at an address
pub record HasAt (content : List ℕ) (address : ℕ) (image : List ℕ) : Type 0 where
  pub fits : address + length image ≤ length content
  pub same : (i : ℕ) → i < length image → slice_index content (address + i) ≡ slice_index image i

-- Wherever a memory has one image, the octets that another has in these stretches, put over it one
-- stretch after the other, put all of the other there.
abbrev pub Turns : (one other : List ℕ) → List Stretch → Type 0
Turns one other stretches =
    (content : List ℕ) (address : ℕ) → HasAt content address one
    → put_all content (map (area_at address other) stretches) ≡ put_at content address other

-- the images have other octets at a place
abbrev pub Differs : (old new : List ℕ) → ℕ → Type 0
Differs old new i = (i < length old) × (slice_index old i ≢ slice_index new i)

-- from a place up to, not including, another they have the same
abbrev pub AreSame : (old new : List ℕ) → (from to : ℕ) → Type 0
AreSame old new from to = (i : ℕ) → from ≤ i → i < to → slice_index old i ≡ slice_index new i

-- the first place from one on at which they differ, if they do
abbrev pub IsFirstDiffering : (old new : List ℕ) → (from : ℕ) → Option ℕ → Type 0
IsFirstDiffering old new from None = AreSame old new from (length old)
IsFirstDiffering old new from (Some i) =
    (from ≤ i) × Differs old new i × AreSame old new from i

-- ---- stretches

-- the block of so many octets that has a place, or what an image of this size has of it
abbrev pub block : (align size : ℕ) → ℕ → Stretch
block align size i =
    record { from = i - i % align; end = i - i % align + min align (size - (i - i % align)) }

-- a stretch begins and ends with the block of a place at which the images differ, and of any
-- octets in a row that are one more than the gap, one lies in such a block
pub record IsStretch (old new : List ℕ) (gap align : ℕ) (s : Stretch) : Type 0 where
  pub some : s.from < s.end
  pub begins : (i : ℕ) × Differs old new i × (s.from ≡ (block align (length old) i).from)
  pub ends : (i : ℕ) × Differs old new i × (s.end ≡ (block align (length old) i).end)
  pub holds : (at : ℕ) → s.from ≤ at → at + gap < s.end
      → (i : ℕ) × Differs old new i × ((block align (length old) i).from ≤ at + gap)
      × (at < (block align (length old) i).end)

-- These are all stretches from a place on, of which the first begins at `least` or behind it: what
-- lies outside them is the same, and between two there are more octets than the gap.
abbrev pub AreStretches : (old new : List ℕ) → (gap align from least : ℕ) → List Stretch → Type 0
AreStretches old new gap align from least [] = AreSame old new from (length old)
AreStretches old new gap align from least (s ∷ rest) =
    (least ≤ s.from) × AreSame old new from s.from × IsStretch old new gap align s
    × AreStretches old new gap align s.end (s.end + gap + 1) rest
