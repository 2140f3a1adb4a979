-- By which part size a body would be read.
use Rattle.std.specs.Prelude.{ℕ, ◌-◌, ◌&&◌, nat_le, if◌then◌else◌, List, length, Option, Some, None, is_some}
use Rattle.lpt_part.specs.declared.kind.Kind.{Kind}
use Rattle.lpt_part.specs.declared.kind.Kind.TheVariants.{First, Middle, Last}
use Rattle.lpt_part.specs.Parts.{part_in}

-- this part size, if it is one and the body is read by it
abbrev pub size_tried : Kind → List ℕ → ℕ → Option ℕ
size_tried kind body p =
    if nat_le 4 p && nat_le p 1024 && is_some (part_in p kind body) then Some p else None

-- the part size by which a body is read as a first part: it has as many octets as the part. The
-- number of another may be any
abbrev pub fitting_size : Kind → List ℕ → Option ℕ
fitting_size First body = size_tried First body (length body - 4)
fitting_size Middle body = None
fitting_size Last body = None
