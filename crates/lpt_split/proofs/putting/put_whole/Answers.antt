-- The message was put as it is.
use Rattle.std.proofs.Common.{◌∙◌, ap, refl, inr, rules, ℕ, [], ◌∷◌, ◌++◌, List}
use Rattle.lpt_split.proofs.PacketLemmas.{packets-one}
use Rattle.lpt_split.proofs.putting.put_whole.Goals as goal

pub returns : goal.returns
returns c =
    let w = c.args.wanted.now.writing in
    let m = c.args.message.now in (
      m ∷ [],
      inr (record {
        short = c.requires;
        some = search rules;
        may = search rules;
        are = refl;
        onward = refl;
      }),
      c.in_ok-put_packet.ensures
          ∙ ap (λ (b : List ℕ). c.args.octets.now.items ++ b) (packets-one w.form w.clock m),
    )
