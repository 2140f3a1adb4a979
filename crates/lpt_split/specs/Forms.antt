-- What a form makes of packets.
use Rattle.std.specs.Prelude.{ℕ, List, []}
use Rattle.std.specs.List.{flat_map}
use Rattle.lpt_capture.specs.Captures.{capture_header, record_of}
use Rattle.lpt_split.specs.declared.form.Form.{Form}
use Rattle.lpt_split.specs.declared.form.Form.TheVariants.{Plain, Capture}
use Rattle.lpt_split.specs.Splits.{octets_of}

-- what stands in front of the packets
abbrev pub front_in : Form → List ℕ
front_in Plain = []
front_in Capture = capture_header

-- a packet
abbrev pub packet_in : Form → (time : ℕ) → List ℕ → List ℕ
packet_in Plain time b = b
packet_in Capture time b = record_of time b

-- packets, one behind the other
abbrev pub packets_in : Form → (time : ℕ) → List (List ℕ) → List ℕ
packets_in Plain time packets = octets_of packets
packets_in Capture time packets = flat_map (record_of time) packets
