-- Where the fields of a secondary header stand.
use Rattle.std.specs.Prelude.{ℕ, ◌+◌, Bool, true, false}
use Rattle.lpt_layout.specs.declared.layout.Layout.{Layout}
use Rattle.lpt_layout.specs.declared.layout.Version.{Version}
use Rattle.lpt_layout.specs.declared.layout.Version.TheVariants.{One, Two}
use Rattle.lpt_layout.specs.Numbers.{octets_of}

-- the PUS version number
abbrev pub version_number : Version → ℕ
version_number One = 1
version_number Two = 2

-- the octets of the packet error control
abbrev pub trailer : Bool → ℕ
trailer true = 2
trailer false = 0

-- version, flags, service type and message subtype take three octets; then comes the message type
-- counter, and behind it the source or destination ID
abbrev pub user_at : Layout → ℕ
user_at l = 3 + octets_of l.counter

-- where the time begins
abbrev pub time_at : Layout → ℕ
time_at l = user_at l + octets_of l.user

-- where the spare octets begin
abbrev pub spare_at : Layout → ℕ
spare_at l = time_at l + l.time

-- where the body begins: the octets of the secondary header
abbrev pub body_at : Layout → ℕ
body_at l = spare_at l + l.spare
