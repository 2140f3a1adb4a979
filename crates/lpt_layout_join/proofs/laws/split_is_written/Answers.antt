-- The message is joined, and nothing else is kept.
use Rattle.std.proofs.Common.{subst}
use Rattle.lpt_stream.specs.Pieces.{packets_of}
use Rattle.lpt_layout_join.specs.Laws.{AreOneOrOther}
use Rattle.lpt_layout_join.proofs.LawLemmas.{alone-is, message-is}
use Rattle.lpt_layout_join.proofs.WrittenLemmas.{written}
use Rattle.lpt_layout_join.proofs.laws.split_is_written.Goals as goal

pub returns : goal.returns
returns c w n p m any ps j old new split asked all each fit h =
    let bs = packets_of ps in
    written w any n m ps j.gatherings
    (message-is w.reading w.name n p m split asked bs all each) fit w.name j.end old new asked
    (λ none k apart. alone-is w.reading n k p m apart bs
    (subst (λ o. AreOneOrOther w.reading o n p m bs) none all))
    h.gives h.ends
