-- An image in a range of a memory, and the loads that leave it there.
use Rattle.std.specs.Prelude.{◌≡◌, ℕ, ◌+◌, ◌-◌, ◌≤◌, ◌<◌, List, length, take, drop, slice_get, slice_index, Some, ⊤}
use Rattle.std.specs.List.{AllByRecursion}
use Rattle.lpt_memory.specs.declared.request.Area.{Area}
use Rattle.lpt_memory.specs.Meanings.{Meaning, Silent, Fault, Load, Dump, Check, Sizes, meaning}
use Rattle.lpt_memory.specs.Memories.{Contents, content_of, sizes_of}
use Rattle.lpt_memory.specs.Overlaps.{Covers}
use Rattle.lpt_journal.specs.Jobs.{left_by}

-- octets that are to stand in a memory from an address on
pub record Image : Type 0 where
  pub memory : ℕ
  pub address : ℕ
  pub octets : List ℕ

-- ---- what a load carries of an image

-- wherever the area has an octet for a place of the image, it is the image's
abbrev pub Agrees : Image → Area → Type 0
Agrees x a =
    (i : ℕ)
    → i < length x.octets
    → Covers (x.address + i) a
    → slice_index a.octets (x.address + i - a.address) ≡ slice_index x.octets i

-- what a request means loads nothing but the image's octets into its range
abbrev pub IsTrueTo : Image → Meaning → Type 0
IsTrueTo x Silent = ⊤
IsTrueTo x (Fault code) = ⊤
IsTrueTo x (Load id areas) = id ≡ x.memory → AllByRecursion (Agrees x) areas
IsTrueTo x (Dump id ranges) = ⊤
IsTrueTo x (Check id ranges) = ⊤

-- one of the areas has an octet for this place
pub record AreCovered (place : ℕ) (areas : List Area) : Type 0 where
  pub number : ℕ
  pub area : Area
  pub is_there : slice_get areas number ≡ Some area
  pub covers : Covers place area

-- what a request means loads this octet of the image
abbrev pub LoadsOctet : Image → (i : ℕ) → Meaning → Type 0
LoadsOctet x i Silent = ⊥
LoadsOctet x i (Fault code) = ⊥
LoadsOctet x i (Load id areas) = (id ≡ x.memory) × AreCovered (x.address + i) areas
LoadsOctet x i (Dump id ranges) = ⊥
LoadsOctet x i (Check id ranges) = ⊥

-- ---- requests

-- none of the requests loads anything else into the range
abbrev pub AreTrueTo : Image → (apid : ℕ) → Sizes → List (List ℕ) → Type 0
AreTrueTo x apid sizes requests =
    AllByRecursion (λ m. IsTrueTo x (meaning apid sizes m)) requests

-- one of the requests loads this octet
pub record IsLoaded (x : Image) (i apid : ℕ) (sizes : Sizes)
    (requests : List (List ℕ)) : Type 0 where
  pub number : ℕ
  pub request : List ℕ
  pub is_there : slice_get requests number ≡ Some request
  pub loads : LoadsOctet x i (meaning apid sizes request)

-- the range of the memory is the image
pub record Stands (x : Image) (ms : Contents) : Type 0 where
  pub content : List ℕ
  pub is_content : content_of x.memory ms ≡ Some content
  pub is_image : take (length x.octets) (drop x.address content) ≡ x.octets

-- ---- the law

-- These memories are as they were when the image began to be loaded. The range lies in its memory.
abbrev pub LoadsLeaveTheImage : Type 0
LoadsLeaveTheImage =
    (x : Image) (apid : ℕ) (ms : Contents) (before : List ℕ) (requests : List (List ℕ))
    → content_of x.memory ms ≡ Some before
    → x.address + length x.octets ≤ length before
    → AreTrueTo x apid (sizes_of ms) requests
    → ((i : ℕ) → i < length x.octets → IsLoaded x i apid (sizes_of ms) requests)
    → Stands x (left_by apid requests ms)

-- ---- a pass

-- each of these requests is one of those
abbrev pub AreAmong : List (List ℕ) → List (List ℕ) → Type 0
AreAmong requests executed =
    (k : ℕ) (m : List ℕ)
    → slice_get requests k ≡ Some m
    → (j : ℕ) × (slice_get executed j ≡ Some m)

-- Of all the requests that were executed, those from a place on load nothing else into the range,
-- and the pass's are among them. What was executed before them may be anything.
abbrev pub PassLeavesTheImage : Type 0
PassLeavesTheImage =
    (x : Image) (apid : ℕ) (first : Contents) (content : List ℕ)
    (executed requests : List (List ℕ)) (place : ℕ)
    → content_of x.memory first ≡ Some content
    → x.address + length x.octets ≤ length content
    → AreTrueTo x apid (sizes_of first) (drop place executed)
    → ((i : ℕ) → i < length x.octets → IsLoaded x i apid (sizes_of first) requests)
    → AreAmong requests (drop place executed)
    → Stands x (left_by apid executed first)

-- ---- a range that stays

-- If a range is the image, it is so before and after each of these requests, none of which loads
-- anything else into it.
abbrev pub RangeStays : Type 0
RangeStays =
    (x : Image) (apid : ℕ) (ms : Contents) (requests : List (List ℕ)) (k : ℕ)
    → (now : Stands x ms)
    → x.address + length x.octets ≤ length now.content
    → AreTrueTo x apid (sizes_of ms) requests
    → Stands x (left_by apid (take k requests) ms)
