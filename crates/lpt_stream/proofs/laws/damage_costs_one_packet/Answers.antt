use Rattle.lpt_stream.proofs.DamageLemmas.{damage_found}
use Rattle.lpt_stream.proofs.FoundLemmas.{found_behind, packet_found}
use Rattle.lpt_stream.proofs.laws.damage_costs_one_packet.Goals as goal

pub returns : goal.returns
returns c = record {
  whole = λ before packet rest packets h is found.
      found_behind before _ _ h (packet_found packet rest packets is found);
  damaged = λ before damaged rest packets h is next found.
      found_behind before _ _ h (damage_found damaged rest packets is next found);
}
