-- What is kept of the packet is written back without its mark.
use Rattle.std.proofs.Common.{◌∙◌, ap}
use Rattle.lpt_link.specs.Links.{with_lost}
use Rattle.lpt_link.specs.Packets.{PacketsView}
use Rattle.lpt_link.proofs.KeptLemmas.{packets_lose}
use Rattle.lpt_link.proofs.packets.Packets.lose.Goals as goal

pub returns-clause-items : goal.returns-clause-items
returns-clause-items c =
    let in_it = c.self.inside in
    packets_lose in_it.octets.items in_it.apart.items in_it.kept.items c.args.n
    c.index_mut.result.now c.index_mut.ensures.value
    ∙ ap (λ (v : PacketsView). with_lost v.items c.args.n) c.self.view_is
