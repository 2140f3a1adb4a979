-- What is looked at shows the piece in front.
use Rattle.std.proofs.Common.{◌≡◌, ◌⊎◌, ◌∙◌, inl, inr, refl, sym, subst, List, ℕ, true, false, take}
use Rattle.lpt_stream.specs.Pieces.{begins, waits}
use Rattle.lpt_stream.specs.declared.cut.Cut.TheVariants.{Sealed}
use Rattle.lpt_stream.proofs.ByLemmas.{exact}
use Rattle.lpt_stream.proofs.BufferLemmas.{near_held, some_held}
use Rattle.lpt_stream.proofs.FrontLemmas.{packet_there, other_there, open_there}
use Rattle.lpt_stream.proofs.front.piece_unless.Goals as goal
use Rattle.lpt_stream.proofs.front.piece_unless.Goals.{else-not-is_end-via-then-not-is_end+else-waits, else-not-is_end-via-else-not-is_end}

pub packet_unless-requires : goal.packet_unless-requires
packet_unless-requires c = λ judged.
    subst (λ (near : List ℕ). begins c.args.in_step near ≡ false)
    (sym (near_held c.args.octets.now c.args.octets.now c.min.result refl c.min.ensures))
    (c.requires judged)

pub returns-in-Some-clause-piece : goal.returns-in-Some-clause-piece
returns-in-Some-clause-piece c =
    (packet_there c.args.in_step c.args.is_end c.args.octets.now _ c.in-Some.len
    (near_held c.args.octets.now c.args.octets.now c.min.result refl c.min.ensures)
    (some_held c.args.octets.now c.args.octets.now refl c.if-is_empty.ensures)
    c.in-Some.ensures.some.0 c.in-Some.ensures.some.1 c.in-Some.ensures.some.2).piece

pub returns-in-Some-clause-stays : goal.returns-in-Some-clause-stays
returns-in-Some-clause-stays c =
    (packet_there c.args.in_step c.args.is_end c.args.octets.now _ c.in-Some.len
    (near_held c.args.octets.now c.args.octets.now c.min.result refl c.min.ensures)
    (some_held c.args.octets.now c.args.octets.now refl c.if-is_empty.ensures)
    c.in-Some.ensures.some.0 c.in-Some.ensures.some.1 c.in-Some.ensures.some.2).stays

-- it depends on what may come
pub returns-then-waits-clause-piece : goal.returns-then-waits-clause-piece
returns-then-waits-clause-piece c =
    open_there c.args.in_step c.args.is_end c.args.octets.now _
    (near_held c.args.octets.now c.args.octets.now c.min.result refl c.min.ensures)
    c.if-not-is_end.true (sym c.waits.ensures.waits ∙ c.if-waits.true)
    (c.in-None.ensures.none refl)

-- something else
known : (c : goal.After-other_in_front)
    → (c.args.is_end ≡ true)
    ⊎ (waits c.args.in_step (take c.min.result c.args.octets.now) ≡ false)
known c = elim c.else-not-is_end.branch [
  | else-not-is_end-via-then-not-is_end+else-waits w ↦
      inr (sym w.waits.ensures.waits ∙ w.if-waits.false)
  | else-not-is_end-via-else-not-is_end w ↦ inl (w.if-not-is_end.false)
]

pub returns-clause-piece : goal.returns-clause-piece
returns-clause-piece c =
    (other_there c.args.in_step c.args.is_end c.args.octets.now _ c.other_in_front.result.kind
    c.other_in_front.result.len
    (near_held c.args.octets.now c.args.octets.now c.min.result refl c.min.ensures)
    (some_held c.args.octets.now c.args.octets.now refl c.if-is_empty.ensures)
    (known c) c.other_in_front.ensures.kind
    (exact Sealed c.args.in_step _ c.other_in_front.result.kind c.other_in_front.result.len refl
    c.other_in_front.ensures.kind c.other_in_front.ensures.len)
    c.other_in_front.ensures.within).piece

pub returns-clause-stays : goal.returns-clause-stays
returns-clause-stays c =
    (other_there c.args.in_step c.args.is_end c.args.octets.now _ c.other_in_front.result.kind
    c.other_in_front.result.len
    (near_held c.args.octets.now c.args.octets.now c.min.result refl c.min.ensures)
    (some_held c.args.octets.now c.args.octets.now refl c.if-is_empty.ensures)
    (known c) c.other_in_front.ensures.kind
    (exact Sealed c.args.in_step _ c.other_in_front.result.kind c.other_in_front.result.len refl
    c.other_in_front.ensures.kind c.other_in_front.ensures.len)
    c.other_in_front.ensures.within).stays
