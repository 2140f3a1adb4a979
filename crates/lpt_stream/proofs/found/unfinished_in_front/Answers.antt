-- Where less than a packet stands.
use Rattle.std.proofs.Common.{◌∙◌, ap, sym, if◌then◌else◌, length}
use Rattle.lpt_stream.specs.Pieces.{kind_by, size_in}
use Rattle.lpt_stream.specs.declared.piece_kind.PieceKind.TheVariants.{Damaged, Stray}
use Rattle.lpt_stream.proofs.ByLemmas.{unframed_kind}
use Rattle.lpt_stream.proofs.found.unfinished_in_front.Goals as goal

pub returns-then-is_cut_off-clause-kind : goal.returns-then-is_cut_off-clause-kind
returns-then-is_cut_off-clause-kind c =
    sym (unframed_kind c.args.cut c.args.in_step c.args.bytes.now c.requires.unfinished
    ∙ ap (λ t. if t then Damaged else Stray) (sym c.is_cut_off.ensures ∙ c.if-is_cut_off.true))

pub returns-else-is_cut_off-clause-kind : goal.returns-else-is_cut_off-clause-kind
returns-else-is_cut_off-clause-kind c =
    sym (unframed_kind c.args.cut c.args.in_step c.args.bytes.now c.requires.unfinished
    ∙ ap (λ t. if t then Damaged else Stray) (sym c.is_cut_off.ensures ∙ c.if-is_cut_off.false))

pub returns-else-is_cut_off-clause-len : goal.returns-else-is_cut_off-clause-len
returns-else-is_cut_off-clause-len c =
    let b = c.args.bytes.now in
    let none = sym c.is_cut_off.ensures ∙ c.if-is_cut_off.false in
    sym (ap (λ t. if t then length b else size_in (kind_by c.args.cut c.args.in_step b) b) none
    ∙ ap (λ k. size_in k b) (unframed_kind c.args.cut c.args.in_step b c.requires.unfinished
    ∙ ap (λ t. if t then Damaged else Stray) none))
