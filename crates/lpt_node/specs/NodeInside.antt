-- What always holds of an end, and what is seen of its open messages.
use Rattle.std.specs.Prelude.{◌≡◌, ℕ, is_some, refl}
use Rattle.std.specs.Coded.{Coded, code_by, coded×, coded_ℕ, coded_list}
use Rattle.std.specs.FinMap as map
use Rattle.lpt_packet.specs.Names.{Name, coded_name}
use Rattle.lpt_ledger.specs.Marks.{Marks}
use Rattle.lpt_ledger.specs.States.{state_at}
use Rattle.lpt_events.specs.declared.config.Config.{Config}
use Rattle.lpt_events.specs.Configs.{IsConfig}
use Rattle.lpt_node.specs.Nodes.{Messages, is_open}
use Rattle.lpt_node.specs.Receivers.{ReceiverState}

-- the part size by which messages are split, and the open messages
pub record OpenMessages : Type 0 where
  pub p : ℕ
  pub messages : Messages

-- the code of the open messages
abbrev pub coded_messages : Coded Messages
coded_messages = map.code coded_name (coded_list coded_ℕ)

-- the code of the part size and the open messages
abbrev pub coded_open_messages : Coded OpenMessages
coded_open_messages =
    code_by (ℕ × Messages) (coded× coded_ℕ coded_messages)
    (λ o. (o.p, o.messages)) (λ q. record { p = q.0; messages = q.1 }) (λ _. refl)

-- the receiver is the configuration's
pub record IsConfigured (c : Config) (r : ReceiverState) : Type 0 where
  pub limit : r.limit ≡ c.receptions
  pub timeout : r.timeout ≡ c.timeout
  pub p : r.p ≡ c.part_size
  pub mode : r.mode ≡ c.mode

-- a message is kept exactly if the sender is open
abbrev pub AreKept : Marks → Messages → Type 0
AreKept m messages = (name : Name) → is_some (map.get messages name) ≡ is_open (state_at m name)

-- what always holds of an end: its configuration is in range, receiver and open messages are for it,
-- and the messages are those of the open senders
pub record IsSound (c : Config) (m : Marks) (r : ReceiverState) (o : OpenMessages) : Type 0 where
  pub configured : IsConfig c
  pub receiver : IsConfigured c r
  pub messages : o.p ≡ c.part_size
  pub kept : AreKept m o.messages
