-- What the address of a handle owns: the box of the handle, or nothing.
use Rattle.std.specs.Prelude.{◌≡◌, Option, None, Some}
use Rattle.std.specs.Option.{option_and_then}
use base.Fml.{Fml, ftrue}
use denote.RawPtr.{Ptr, null_ptr}
use Rattle.std.specs.Box.Ownership.{box_owns}
use Rattle.std.specs.declared.alloc.Global.{Global}
use Rattle.std.specs.contracts.impls.GlobalAllocator.TheImpl.{ghosts}
use Rattle.lpt_c_end.specs.contracts.handle.LptEnd.{the_row}
use Rattle.lpt_c_end.specs.declared.end.End.{End}
use Rattle.lpt_c_end.specs.declared.handle.LptEnd.{LptEnd}

abbrev pub address_owns : Global → Ptr → Option the_row.Denot → Fml
address_owns alloc at None = ftrue
address_owns alloc at (Some value) = box_owns (ghosts.dealloc_token alloc) the_row at value

-- the end in the handle at an address, if there is one
abbrev pub end_at : Option LptEnd → Option End
end_at handle = option_and_then (λ h. h.held.value) handle

-- an address that names no handle is null
abbrev pub NullIfNone : Ptr → Option LptEnd → Type 0
NullIfNone at handle = handle ≡ None → at ≡ null_ptr
