-- The address of a handle and its parts own what a box at the same types owns.
use mir.Syntax.{impl, tnil, dnil}
use denote.RattleType.{RattleType}
use mathlib.Core.List.{[]}
use denote.Signature.{Slot, plain}
use Rattle.std_alloc.proofs.BoxSteps.Form.{Bx}
use Rattle.std_heap.specs.contracts.Global as Heap
use Rattle.std_heap.specs.contracts.GlobalAllocator.TheImpl.{ghosts, dict}
use Rattle.std_heap.proofs.Global.TheLaws as heap
use Rattle.lpt_c_ground.specs.contracts.handle.LptGround as LptGround
use Rattle.lpt_c_ground.proofs.handle.LptGround.TheLaws as handle
use Rattle.lpt_c_ground.specs.contracts.box_fields.BoxFields as BoxFields
use Rattle.lpt_c_ground.specs.contracts.address.LptGroundAddress as LptGroundAddress

abbrev pub E : Bx
E = record {
  row = LptGround.the_row;
  laws = handle.the_row_laws;
  al = record {
    row = Heap.the_row;
    laws = heap.the_row_laws;
    g = ghosts;
    d = dict;
    drops = impl [] tnil dnil;
  };
}

abbrev pub FromBoxFields : Slot 0
FromBoxFields = plain (λ _. BoxFields.the_row LptGround.the_row Heap.the_row ghosts)

abbrev pub FromAddress : Slot 0
FromAddress = plain (λ _. LptGroundAddress.the_row)

-- the row of an address
abbrev pub Address : RattleType
Address = LptGroundAddress.the_row
