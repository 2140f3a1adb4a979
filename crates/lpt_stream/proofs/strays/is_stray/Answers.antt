-- The piece that was found says so.
use Rattle.std.proofs.Common.{◌≡◌, ◌∙◌, ap, sym, subst, take, false}
use Rattle.lpt_stream.specs.Pieces.{begins, lookahead}
use Rattle.lpt_stream.specs.Strays.{is_stray, is_stray_piece}
use Rattle.lpt_stream.proofs.StrayLemmas.{rest-is}
use Rattle.lpt_stream.proofs.strays.is_stray.Goals as goal

pub piece_unless-requires : goal.piece_unless-requires
piece_unless-requires c = λ judged.
    subst (λ b. begins false (take lookahead b) ≡ false)
    (sym (rest-is c.args.at c.args.octets.now))
    (c.shows_none-is_judged.ensures.none judged)

pub returns-in-Some-clause-stray : goal.returns-in-Some-clause-stray
returns-in-Some-clause-stray c =
    c.is_octet_of_none.ensures ∙ ap is_stray_piece c.in-Some.ensures.piece
    ∙ ap (is_stray c.args.is_end) (rest-is c.args.at c.args.octets.now)

pub returns-in-None-clause-stray : goal.returns-in-None-clause-stray
returns-in-None-clause-stray c =
    ap is_stray_piece c.in-None.ensures.piece
    ∙ ap (is_stray c.args.is_end) (rest-is c.args.at c.args.octets.now)
