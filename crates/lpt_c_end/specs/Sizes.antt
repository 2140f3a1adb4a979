-- An end of the spacecraft's whose memories are with the caller.
use Rattle.std.specs.Prelude.{ℕ, nat_le, nat_lt, Bool, true, ◌&&◌, not, is_some, if◌then◌else◌, List, [], ◌∷◌, length, map, Option, Some, None}
use Rattle.lpt_events.specs.Configs.{config_fault}
use Rattle.lpt_events.specs.declared.config.Config.{Config}
use Rattle.lpt_events.specs.declared.side.Side.TheVariants.{Craft}
use Rattle.lpt_memory.specs.Limits.{memory_limit}
use Rattle.lpt_memory.specs.Meanings.{Sizes, size_of}
use Rattle.lpt_state.specs.Verdicts.{reading}
use Rattle.lpt_c_end.specs.Changes.{IsNewWith}
use Rattle.lpt_c_end.specs.Codes.{bad_memories, range}
use Rattle.lpt_c_end.specs.InOrder.{by_id}
use Rattle.lpt_c_end.specs.Keeping.{then_read, IsResumedWith}
use Rattle.lpt_c_end.specs.Refusals.{config_refusal}
use Rattle.lpt_c_end.specs.Words.{config_from}
use Rattle.lpt_c_end.specs.declared.end.End.{End}
use Rattle.lpt_c_end.specs.declared.kept.Kept.{Kept}
use Rattle.lpt_c_end.specs.declared.kept.Kept.TheVariants.{Elsewhere}
use Rattle.lpt_c_end.specs.declared.sizing.LptSize.{LptSize}
use Rattle.lpt_c_end.specs.declared.words.LptConfig.{LptConfig}

-- the most octets of a memory that is with the caller: addresses have 32 bits
abbrev pub greatest_size : ℕ
greatest_size = 4294967295

-- the identifier and the size of one
abbrev pub size_said : LptSize → ℕ × ℕ
size_said s = (s.id, s.len)

-- whether each has 1 to 4,294,967,295 octets, and no identifier comes twice
abbrev pub are_apart : Sizes → Bool
are_apart [] = true
are_apart (s ∷ ss) =
    nat_le 1 s.1 && nat_le s.1 greatest_size && not (is_some (size_of s.0 ss)) && are_apart ss

-- whether there are 1 to 16 of them besides
abbrev pub are_sized : Sizes → Bool
are_sized ss = nat_le 1 (length ss) && nat_le (length ss) memory_limit && are_apart ss

-- why a spacecraft has no such memories
abbrev pub sizes_refusal : List LptSize → Option ℕ
sizes_refusal sizes = if are_sized (map size_said sizes) then None else Some bad_memories

-- those of all, in the order of identifiers
abbrev pub sizes_said : List LptSize → Sizes
sizes_said sizes = by_id (map size_said sizes)

-- the memories are with the caller
abbrev pub kept_as : List LptSize → Kept
kept_as sizes = Elsewhere (sizes_said sizes)

-- why no end is made of this configuration and these sizes
abbrev pub sized_refusal : LptConfig → List LptSize → Option ℕ
sized_refusal c sizes =
    if nat_lt 1 c.mode then Some range
    else config_refusal (config_fault (config_from c)) (sizes_refusal sizes)

-- nothing has happened at the end
abbrev pub IsNewSized : Config → List LptSize → End → Type 0
IsNewSized c sizes = IsNewWith Craft c (kept_as sizes)

-- why an end of this configuration isn't made of a state and sizes
abbrev pub kept_sized_refusal : Config → List ℕ → List LptSize → Option ℕ
kept_sized_refusal c state sizes = then_read (sizes_refusal sizes) (reading Craft c state)

-- the same, of whatever configuration
abbrev pub resume_sized_refusal : LptConfig → List ℕ → List LptSize → Option ℕ
resume_sized_refusal c state sizes =
    if nat_lt 1 c.mode then Some range
    else config_refusal (config_fault (config_from c))
    (kept_sized_refusal (config_from c) state sizes)

-- the end is the one that a state says
abbrev pub IsResumedSized : Config → List ℕ → List LptSize → End → Type 0
IsResumedSized c state sizes = IsResumedWith Craft c state (kept_as sizes)
