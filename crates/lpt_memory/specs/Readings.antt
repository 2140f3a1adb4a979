-- What a reading was read from, and jobs.
use Rattle.std.specs.Prelude.{◌≡◌, ℕ, List, Option, Some, None, MatchOption}
use Rattle.lpt_pus.specs.declared.tc_head.TcHead.{TcHead}
use Rattle.lpt_pus.specs.Commands.{command, command_in}
use Rattle.lpt_memory.specs.Meanings.{Meaning, meaning}

-- a message, and the APID and the sizes that it was read for
pub record Source : Type 0 where
  pub apid : ℕ
  pub sizes : List (ℕ × ℕ)
  pub message : List ℕ

-- what the message means there
abbrev pub source_meaning : Source → Meaning
source_meaning s = meaning s.apid s.sizes s.message

-- this is the head of the telecommand that octets are, or nothing if they are none of this APID
abbrev pub IsHeadIn : Option TcHead → ℕ → List ℕ → Type 0
IsHeadIn head apid octets =
    MatchOption head (command_in apid octets ≡ None)
    (λ h. (body : List ℕ) × (command_in apid octets ≡ Some (command h body)))

-- a job that was taken: its boot, its number in that boot, and its message
pub record Job : Type 0 where
  pub boot : ℕ
  pub job : ℕ
  pub message : List ℕ

-- a job, and what its message was read for
pub record ReadJob : Type 0 where
  pub boot : ℕ
  pub job : ℕ
  pub read : Source
