-- What is no packet is passed over.
use Rattle.std.proofs.Common.{inl, inr}
use Rattle.lpt_layout_join.proofs.StreamLemmas.{gathers-other}
use Rattle.lpt_layout_join.proofs.several.Findings.add.Goals as goal

pub returns-in-Damaged : goal.returns-in-Damaged
returns-in-Damaged c = λ ps h at.
    gathers-other c.args.wanted.now c.args.self.now ps h c.args.kind c.args.octets.now
    c.note.new.self
    (λ whole. elim c.in-Damaged.is [
      | inl damaged ↦ cc
      | inr stray ↦ cc
    ])
    c.note.ensures.noted
