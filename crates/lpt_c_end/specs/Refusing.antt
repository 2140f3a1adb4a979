-- What refuses the oldest request, in place of its execution.
use Rattle.std.specs.Prelude.{◌≡◌, ℕ, ◌&&◌, nat_le, if◌then◌else◌, Option, Some}
use Rattle.lpt_node.specs.Jobs.{refused_front}
use Rattle.lpt_packet.specs.Names.{no_name}
use Rattle.lpt_pus.specs.Codes.{number_of}
use Rattle.lpt_pus.specs.declared.failure_code.FailureCode.{FailureCode}
use Rattle.lpt_c_end.specs.Accesses.{unready}
use Rattle.lpt_c_end.specs.Changes.{IsFixed}
use Rattle.lpt_c_end.specs.Codes.{range}
use Rattle.lpt_c_end.specs.Kept.{memories_refusal}
use Rattle.lpt_c_end.specs.Refusals.{sending_refusal}
use Rattle.lpt_c_end.specs.Words.{applied_word}
use Rattle.lpt_c_end.specs.declared.end.End.{End}
use Rattle.lpt_c_end.specs.declared.words.LptApplied.{LptApplied}

-- why it isn't refused, whatever the failure code
abbrev pub refuse_as_refusal : End → Option ℕ
refuse_as_refusal e =
    memories_refusal e.memories (sending_refusal (unready e) e.outbox.items)

-- why it isn't refused with the failure code of this number, one of 1 to 8
abbrev pub refuse_refusal : (number : ℕ) → End → Option ℕ
refuse_refusal number e =
    if nat_le 1 number && nat_le number 8 then refuse_as_refusal e else Some range

-- the oldest request was refused with this failure code, and its reports are to be sent; no memory
-- has changed
pub record IsRefusedAs (code : FailureCode) (e new : End) : Type 0 where
  pub node : new.node.at ≡ (refused_front e.config e.node.at code).0
  pub outbox : new.outbox.items ≡ (refused_front e.config e.node.at code).1.packets
  pub released : new.released ≡ e.released
  pub fixed : IsFixed e new

-- the same with the failure code of this number
pub record IsRefused (number : ℕ) (e new : End) : Type 0 where
  pub code : FailureCode
  pub number_is : number_of code ≡ number
  pub as_such : IsRefusedAs code e new

-- what is reported of it
abbrev pub refused_word : (number : ℕ) → LptApplied
refused_word number = applied_word 4 no_name number
