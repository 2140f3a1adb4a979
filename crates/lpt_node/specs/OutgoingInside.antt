-- The map in which the open messages are kept.
use Rattle.std.specs.Prelude.{◌≡◌, ℕ, List, length, Some}
use Rattle.std.specs.FinMap as map
use Rattle.lpt_packet.specs.Names.{Name}
use Rattle.lpt_node.specs.Nodes.{Messages, MessageFits}

-- the messages of a map's entries
abbrev pub messages_of : List (Name × List ℕ) → Messages
messages_of es = map.from_entries es

-- what always holds of the entries: no two have one name, and each message has a length that a
-- message may have
pub record IsOutgoing (p : ℕ) (es : List (Name × List ℕ)) : Type 0 where
  pub counted : map.len (messages_of es) ≡ length es
  pub fits : (name : Name) (m : List ℕ)
      → map.get (messages_of es) name ≡ Some m → MessageFits p (length m)
