-- The least free name of a source.
use Rattle.std.specs.Prelude.{◌≡◌, ◌≢◌, ℕ, suc, ◌<◌, Bool, true, false, Option, Some, None}
use Rattle.std.specs.Option.{option_map}
use Prim.Native.Nat.{zero}
use Rattle.lpt_packet.specs.Names.{Name, named_by}
use Rattle.lpt_ledger.specs.declared.state.State.TheVariants.{Free}
use Rattle.lpt_ledger.specs.Marks.{Marks}
use Rattle.lpt_ledger.specs.States.{state_at, is_free}

-- how many names a source has
abbrev pub name_count : ℕ
name_count = 65536

-- the name is one of this source and free, and none of a lower identifier is
pub record IsFirstFree (m : Marks) (source : ℕ) (name : Name) : Type 0 where
  pub of_source : name.source ≡ source
  pub in_range : name.id < name_count
  pub free : state_at m name ≡ Free
  pub none_before : (i : ℕ) → i < name.id → state_at m (named_by source i) ≢ Free

-- this is the least free name of a source; there is none exactly if none of its names is free
abbrev pub IsLeastFree : Marks → (source : ℕ) → Option Name → Type 0
IsLeastFree m source None = (i : ℕ) → i < name_count → state_at m (named_by source i) ≢ Free
IsLeastFree m source (Some name) = IsFirstFree m source name

-- the first of n numbers from k that passes a test
unfoldable pub first_of_numbers : ℕ → ℕ → (ℕ → Bool) → Option ℕ
first_of_numbers zero k test = None
first_of_numbers (suc n) k test =
    elim (test k) [ true ↦ Some k | false ↦ first_of_numbers n (suc k) test ]

-- the least free name of a source, sought from identifier 0 upwards
unfoldable pub least_free_in : Marks → (source : ℕ) → Option Name
least_free_in m source =
    option_map (named_by source)
    (first_of_numbers name_count 0 (λ i. is_free (state_at m (named_by source i))))
