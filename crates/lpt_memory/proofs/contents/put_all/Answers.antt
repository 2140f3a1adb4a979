-- The area is put over the memory.
use Rattle.std.proofs.Common.{◌≡◌, ◌∙◌, ap, sym, ℕ, ◌+◌, ◌<◌, List, length, drop, get_or, arith}
use Rattle.std.proofs.lemmas.Grind.{common_steps}
use Rattle.std.proofs.lemmas.List.{at_drop_more}
use Rattle.lpt_memory.specs.declared.request.StoredArea.{StoredArea}
use Rattle.lpt_memory.specs.Memories.{put_at, put_all}
use Rattle.lpt_memory.specs.Seen.{octets_at, areas_in}
use Rattle.lpt_memory.proofs.contents.put_all.Goals as goal

put-next : (content new body whole : List ℕ) (areas : List StoredArea) (i : ℕ) (a : StoredArea)
    → i < length areas
    → put_all content (areas_in body (drop i areas)) ≡ whole
    → new ≡ put_at content (get_or areas i a).address (octets_at body (get_or areas i a))
    → put_all new (areas_in body (drop (i + 1) areas)) ≡ whole
put-next content new body whole areas i a within left is =
    ap (λ (c : List ℕ). put_all c (areas_in body (drop (i + 1) areas))) is
    ∙ sym (at_drop_more (λ (xs : List StoredArea). put_all content (areas_in body xs)) areas i a within)
    ∙ left

pub loop-area-preserved : goal.loop-area-preserved
loop-area-preserved c = record {
  put = put-next c.loop-area.content _ c.args.body.now _ c.args.areas.now c.loop-area.area-index
      record { address = 0; from = 0; len = 0; checksum = 0 } c.loop-area-test.true
      c.loop-area.invariant.put (cc);
  size = grind (arith, common_steps);
  fit = grind (arith, common_steps);
  within = grind (arith, common_steps);
}
