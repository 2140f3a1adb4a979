-- How long the answers to dumps and checks are.
use Rattle.std.proofs.Common.{◌≡◌, ◌∙◌, ap, refl, ℕ, ◌+◌, ◌*◌, ◌<◌, ◌≤◌, List, [], ◌∷◌, length, drop, sum_by, Some, IfSome, arith}
use Rattle.std.specs.List.{flat_map}
use Rattle.std.proofs.lemmas.List.{length-append, length-take, length-drop}
use Rattle.std.proofs.lemmas.List.Concat.{flat_map-cons}
use Rattle.std.proofs.lemmas.List.Sums.{sum_by-cons}
use Rattle.lpt_packet.specs.Checksums.{checksum}
use Rattle.lpt_packet.specs.Numbers.{be}
use Rattle.lpt_memory.specs.declared.request.AreaRange.{AreaRange}
use Rattle.lpt_memory.specs.declared.request.Plan.{Plan}
use Rattle.lpt_memory.specs.declared.request.Plan.TheVariants as contents
use Rattle.lpt_memory.specs.Effects.{octets_in, dump_area, check_area, octets_of, dump_body, check_body, answer, reply_length, length_replied}
use Rattle.lpt_memory.specs.Meanings.{Meaning, Silent, Fault, Load, Dump, Check, Sizes, dump_length}
use Rattle.lpt_memory.specs.Memories.{Contents, sizes_of}
use Rattle.lpt_memory.specs.Ranges.{RangesFit, ReadFits, MeaningFits}
use Rattle.lpt_memory.specs.Seen.{plan_meaning, IsCounted}
use Rattle.lpt_memory.proofs.MemoriesLemmas.{RangesFit-octets_of}

length-dump_area : (content : List ℕ) (r : AreaRange)
    → r.address + r.len ≤ length content
    → length (dump_area content r) ≡ 8 + r.len
length-dump_area content r fit =
    let octets = octets_in content r in
    let long : length octets ≡ r.len =
    omega (arith, length-take r.len (drop r.address content), length-drop r.address content)
    in
    omega (arith, long, length-append octets (be (checksum octets) 2))

length-dump_areas : (content : List ℕ) (ranges : List AreaRange)
    → RangesFit (length content) ranges
    → length (flat_map (dump_area content) ranges) ≡ sum_by (λ r. 8 + r.len) ranges
length-dump_areas content [] fit = refl
length-dump_areas content (r ∷ rest) fit =
    let others = flat_map (dump_area content) rest in
    ap (λ (t : List ℕ). length t) (flat_map-cons (dump_area content) r rest)
    ∙ omega (
      arith,
      length-append (dump_area content r) others,
      length-dump_area content r fit.0,
      length-dump_areas content rest fit.1,
      sum_by-cons (λ (x : AreaRange). 8 + x.len) r rest,
    )

-- the answer to a dump is as long as its packet less 19 octets
pub length-dump_body : (id : ℕ) (ranges : List AreaRange) (ms : Contents)
    → ReadFits (sizes_of ms) id ranges
    → length (dump_body id ranges ms) + 19 ≡ dump_length ranges
length-dump_body id ranges ms fits =
    let fit : RangesFit (length (octets_of id ms)) ranges = RangesFit-octets_of id ranges ms fits in
    omega (arith, length-dump_areas (octets_of id ms) ranges fit)

length-check_areas : (content : List ℕ) (ranges : List AreaRange)
    → length (flat_map (check_area content) ranges) ≡ 8 * length ranges
length-check_areas content [] = refl
length-check_areas content (r ∷ rest) =
    let others = flat_map (check_area content) rest in
    ap (λ (t : List ℕ). length t) (flat_map-cons (check_area content) r rest)
    ∙ omega (arith, length-append (check_area content r) others, length-check_areas content rest)

-- the answer to a check has two octets, and eight for each area
pub length-check_body : (id : ℕ) (ranges : List AreaRange) (ms : Contents)
    → length (check_body id ranges ms) ≡ 2 + 8 * length ranges
length-check_body id ranges ms = omega (arith, length-check_areas (octets_of id ms) ranges)

-- the reply that is answered is as long as the message's meaning says
pub replied-answer : (m : Meaning) (ms : Contents)
    → MeaningFits (sizes_of ms) m
    → length_replied (answer m ms) ≡ reply_length m
replied-answer Silent ms fits = refl
replied-answer (Fault code) ms fits = refl
replied-answer (Load id areas) ms fits = refl
replied-answer (Dump id ranges) ms fits =
    ap (λ n. Some n) (omega (arith, length-dump_body id ranges ms fits.0))
replied-answer (Check id ranges) ms fits =
    ap (λ n. Some n) (length-check_body id ranges ms)

-- a reply fits a packet
pub reply-short : (content : Plan) (body : List ℕ) (sizes : Sizes)
    → IsCounted content
    → MeaningFits sizes (plan_meaning body content)
    → IfSome (reply_length (plan_meaning body content)) (λ n. n ≤ 65523)
reply-short contents.Silent body sizes counted fits = tt
reply-short (contents.Code code) body sizes counted fits = tt
reply-short (contents.Load id areas) body sizes counted fits = tt
reply-short (contents.Dump id ranges) body sizes counted fits =
    let short : dump_length ranges.items ≤ 65542 = fits.1 in omega (arith, short)
reply-short (contents.Check id ranges) body sizes counted fits =
    let few : length ranges.items < 256 = counted in omega (arith, few)
