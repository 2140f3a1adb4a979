-- What is kept to judge the frames that end where octets end.
use Rattle.std.specs.Prelude.{◌≡◌, ℕ, List, take}
use Rattle.lpt_packet.specs.Checksums.{octets_in}
use Rattle.lpt_stream.specs.declared.ends.Ends.{Ends}

-- the registers of these octets are kept, the one before the place and the one behind the last
pub record EndsAt (at : ℕ) (e : Ends) (octets : List ℕ) : Type 0 where
  pub before : e.before ≡ octets_in 0 (take at octets)
  pub behind : e.behind ≡ octets_in 0 octets
