-- It is no packet, or finds no identifier, or is no message.
use Rattle.std.proofs.Common.{inl, inr, refl, rules, arith}
use Rattle.lpt_split.proofs.splitting.end_before.Goals as goal

pub returns-then-not-is_packet-clause-some : goal.returns-then-not-is_packet-clause-some
returns-then-not-is_packet-clause-some c =
    inl (
      c.is_packet.ensures.none (search rules),
      λ i. omega (arith, c.type_inv.held i),
      c.end_at.ensures,
    )

pub returns-then-next-from-clause-some : goal.returns-then-next-from-clause-some
returns-then-next-from-clause-some c =
    inr (c.is_packet.ensures.packet (search rules), inl (omega arith, refl))

pub returns-then-not-is_message-clause-some : goal.returns-then-not-is_message-clause-some
returns-then-not-is_message-clause-some c =
    inr (
      c.is_packet.ensures.packet (search rules),
      inr
          (omega arith, c.is_message.ensures.unfit (search rules), refl),
    )
