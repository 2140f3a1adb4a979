-- One octet further.
use Rattle.std.proofs.Common.{◌∙◌, ap}
use Rattle.lpt_packet.specs.Checksums.{bits, shift_all}
use Rattle.lpt_stream.proofs.MarkLemmas.{one_further}
use Rattle.lpt_stream.proofs.ends.Ends.pass.Goals as goal

pub returns : goal.returns
returns c = λ at octets kept some is. record {
  before = c.octet_in-self.ensures
      ∙ ap (λ x. shift_all c.args.self.now.before (bits x)) is
      ∙ one_further at 0 c.args.self.now.before octets some kept.before;
  behind = kept.behind;
}
