-- A part with the name of its transaction: a body has an identifier alone.
use Rattle.std.specs.Prelude.{ℕ, List}
use Rattle.lpt_packet.specs.Names.{Name, named_by}
use Rattle.lpt_part.specs.declared.kind.Kind.{Kind}
use Rattle.lpt_part.specs.Parts.{Piece}

-- a part of the transaction of this name
pub record NamedPart : Type 0 where
  pub name : Name
  pub number : ℕ
  pub kind : Kind
  pub octets : List ℕ

-- a part that comes from this source, or goes to it
abbrev pub part_named : (source : ℕ) → Piece → NamedPart
part_named source q = record {
  name = named_by source q.id;
  number = q.number;
  kind = q.kind;
  octets = q.octets;
}

-- what a body says of a part
abbrev pub bare : NamedPart → Piece
bare q = record { id = q.name.id; number = q.number; kind = q.kind; octets = q.octets }
