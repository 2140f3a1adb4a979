-- The bodies of requests, read field by field.
use Rattle.std.specs.Prelude.{ℕ, List, Option, Some, None, ◌==◌, if◌then◌else◌}
use Rattle.lpt_memory.specs.declared.request.AreaRange.{AreaRange}
use Rattle.lpt_memory.specs.Fields.{◌>>=◌, front_octet, front_word, front_long, front_octets, all_areas}

-- an area of a load, as it stands in the body
pub record LoadArea : Type 0 where
  pub address : ℕ
  pub octets : List ℕ
  pub checksum : ℕ

-- a memory, and the areas that a request names in it
pub record Request (A : Type 0) : Type 0 where
  pub memory : ℕ
  pub areas : List A

-- start address 32 bits, length 16, so many octets, checksum 16
unfoldable pub front_load_area : List ℕ → Option (LoadArea × List ℕ)
front_load_area octets = do
  address ← front_long octets
  len ← front_word address.1
  text ← front_octets len.0 len.1
  checksum ← front_word text.1
  Some (record { address = address.0; octets = text.0; checksum = checksum.0 }, checksum.1)

-- start address 32 bits, length 16, which isn't 0
unfoldable pub front_range : List ℕ → Option (AreaRange × List ℕ)
front_range octets = do
  address ← front_long octets
  len ← front_word address.1
  if len.0 == 0 then None else Some (record { address = address.0; len = len.0 }, len.1)

-- memory identifier 8 bits, number of areas 8, which isn't 0, and what is behind them
unfoldable pub front_head : List ℕ → Option (ℕ × ℕ × List ℕ)
front_head body = do
  memory ← front_octet body
  n ← front_octet memory.1
  if n.0 == 0 then None else Some (memory.0, n.0, n.1)

-- the request that a body is: its head, its areas, and nothing behind them
unfoldable pub request_in : {A : Type 0}
    → (List ℕ → Option (A × List ℕ))
    → List ℕ
    → Option (Request A)
request_in one body = do
  head ← front_head body
  areas ← all_areas one head.1 head.2
  Some (record { memory = head.0; areas = areas })
