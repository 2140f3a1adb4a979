-- The history that a journal tells: each event with what it gave.
--
-- A history has its newest event first. What is said of anything is a short recursion from there.
use Rattle.std.specs.Prelude.{ℕ, List, [], ◌∷◌, ◌++◌}
use Rattle.lpt_packet.specs.declared.direction.Direction.{Direction}
use Rattle.lpt_acts.specs.Acts.{Act}
use Rattle.lpt_events.specs.declared.reply.Reply.{Reply}
use Rattle.lpt_events.specs.declared.entry.Opening.{Opening}

-- a packet that was put on the link
pub record SentPacket : Type 0 where
  pub direction : Direction
  pub octets : List ℕ

-- an event with its reply, the packets that it put on the link and the transactions that it opened
pub record Recorded : Type 0 where
  pub event : Act
  pub reply : Reply
  pub puts : List SentPacket
  pub opens : List Opening

-- what happened, the newest first
abbrev pub History : Type 0
History = List Recorded

-- a list with these behind it
abbrev pub with_all : {A : Type 0} → List A → List A → List A
with_all xs [] = xs
with_all xs (y ∷ ys) = xs ++ y ∷ ys
