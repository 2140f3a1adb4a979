-- What is kept of each name, a packet further.
use Rattle.std.proofs.Common.{◌≡◌, ◌∙◌, ap, sym, subst, refl, ℕ, Bool, true, false, if◌then◌else◌, List, [], ◌∷◌, ◌++◌, append-nil, append_assoc, Option, Some, None, Result, Ok, Err}
use Rattle.std.specs.Prelude.{IfOk}
use Rattle.std.specs.Option.{option_map}
use Rattle.std.specs.BTreeMap.{BTreeMap, get, IsOrdered}
use Rattle.lpt_part.specs.Parts.{Piece}
use Rattle.lpt_carried.specs.declared.name.Name.{Name}
use Rattle.lpt_carried.specs.declared.reading.Reading.{Reading}
use Rattle.lpt_carried.specs.declared.skip.Skip.{Skip}
use Rattle.lpt_carried.specs.Carried.{Named, part_carried, name_of, part_of, same_name}
use Rattle.lpt_layout_each.specs.declared.kept.KeptAs.{KeptAs}
use Rattle.lpt_layout_each.specs.declared.helds.HeldsAs.{HeldsAs}
use Rattle.lpt_layout_each.specs.declared.news.NewsAs.{NewsAs}
use Rattle.lpt_layout_join.specs.Came.{nothing_came}
use Rattle.lpt_layout_join.specs.Counts.{Counted, all_counted, packet_counted, nothing_counted}
use Rattle.lpt_layout_join.specs.CountsInside.{counts_shown}
use Rattle.lpt_layout_each.specs.Eaches.{Course, counts_of, course_held, held_from, news_listed, missing_at, news_from, nothing, step, step_of}
use Rattle.lpt_layout_each.specs.Helds.{HoldsEach, IsHeld, IsKept, StepsAt, StepsKept}
use Rattle.lpt_layout_join.specs.Names.{name_cmp}
use Rattle.lpt_layout_each.specs.News.{News}
use Rattle.lpt_layout_each.specs.Streams.{of, events_told, told_by, waiting}
use Rattle.lpt_layout_each.specs.Told.{news_of}
use Rattle.lpt_carried.proofs.NameLemmas.{same_name-refl, same_name-true}

-- ---- the counts

pub counted-next : (r : Reading) (k : Counted) (bs : List (List ℕ)) (b : List ℕ)
    → all_counted r k (bs ++ b ∷ []) ≡ packet_counted r (all_counted r k bs) b
counted-next r k [] b = refl
counted-next r k (x ∷ bs) b = counted-next r (packet_counted r k x) bs b

-- ---- of one name

module _ (r : Reading) (any : Bool) (n : Name) where
  pub held_from-next : (k : Counted) (h : Course) (bs : List (List ℕ)) (b : List ℕ)
      → held_from r any n k h (bs ++ b ∷ [])
      ≡ (step_of r any (missing_at r (all_counted r k bs) b) (held_from r any n k h bs)
      (part_of n (part_carried r b))).0
  held_from-next k h [] b = refl
  held_from-next k h (x ∷ bs) b =
      held_from-next (packet_counted r k x)
      (step_of r any (missing_at r k x) h (part_of n (part_carried r x))).0 bs b

  -- what a packet makes of it that carries this
  abbrev makes : List (List ℕ) → List ℕ → Option Piece → Course
  makes bs b o = (step_of r any (missing_at r (counts_of r bs) b) (course_held r any n bs) o).0

  -- a packet that carries no part of it
  pub held-other : (bs : List (List ℕ)) (b : List ℕ)
      → part_of n (part_carried r b) ≡ None
      → course_held r any n (bs ++ b ∷ []) ≡ course_held r any n bs
  held-other bs b none = held_from-next nothing_counted nothing bs b ∙ ap (makes bs b) none

  -- one that does
  held-part : (bs : List (List ℕ)) (b : List ℕ) (q : Piece)
      → part_of n (part_carried r b) ≡ Some q
      → course_held r any n (bs ++ b ∷ [])
      ≡ (step r any (missing_at r (counts_of r bs) b) (course_held r any n bs) q).0
  held-part bs b q some = held_from-next nothing_counted nothing bs b ∙ ap (makes bs b) some

  -- what is told of it, packets behind packets
  pub news_from-append : (k : Counted) (c : Course) (bs cs : List (List ℕ))
      → news_from r any n k c (bs ++ cs)
      ≡ news_from r any n k c bs
      ++ news_from r any n (all_counted r k bs) (held_from r any n k c bs) cs
  news_from-append k c [] cs = refl
  news_from-append k c (b ∷ bs) cs =
      let said =
      news_listed (step_of r any (missing_at r k b) c (part_of n (part_carried r b))).1 in
      let next = (step_of r any (missing_at r k b) c (part_of n (part_carried r b))).0 in
      let i = packet_counted r k b in
      ap (λ (ws : List News). said ++ ws) (news_from-append i next bs cs)
      ∙ sym (append_assoc said (news_from r any n i next bs)
      (news_from r any n (all_counted r i bs) (held_from r any n i next bs) cs))

  -- one more
  pub news-next : (bs : List (List ℕ)) (b : List ℕ)
      → news_from r any n nothing_counted nothing (bs ++ b ∷ [])
      ≡ news_from r any n nothing_counted nothing bs
      ++ news_listed
      (step_of r any (missing_at r (counts_of r bs) b) (course_held r any n bs)
      (part_of n (part_carried r b))).1
  news-next bs b =
      news_from-append nothing_counted nothing bs (b ∷ [])
      ∙ ap (λ (ws : List News). news_from r any n nothing_counted nothing bs ++ ws) (append-nil _)

-- nothing is left of a name of which nothing came
pub waiting-none : waiting nothing_came ≡ record { count = 0; highest = 0 }
waiting-none = refl

-- what is kept then at a name
pub steps-at : {E : Type 0} (n : Name) (m : BTreeMap Name KeptAs) (k : KeptAs)
    (result : Result (Option NewsAs) E) (c : Course × Option News)
    → get name_cmp m n ≡ Some k
    → IfOk result (λ news. StepsKept (k, news) c)
    → IfOk result (λ news. StepsAt n m news c)
steps-at n m k (Ok news) c is h = (k, is, h)
steps-at n m k (Err e) c is h = tt

-- ---- of each

module _ (r : Reading) (any : Bool) (bs : List (List ℕ)) (b : List ℕ) where
  counts-next : (old new : HeldsAs)
      → counts_shown new.counts ≡ packet_counted r (counts_shown old.counts) b
      → HoldsEach r any bs old
      → counts_shown new.counts ≡ counts_of r (bs ++ b ∷ [])
  counts-next old new counts h =
      counts ∙ ap (λ (k : Counted). packet_counted r k b) h.counts
      ∙ sym (counted-next r nothing_counted bs b)

  -- no part of any name
  pub each-none : (e : Skip) (old new : HeldsAs)
      → part_carried r b ≡ Err e
      → new.kept ≡ old.kept
      → counts_shown new.counts ≡ packet_counted r (counts_shown old.counts) b
      → HoldsEach r any bs old
      → HoldsEach r any (bs ++ b ∷ []) new
  each-none e old new is same counts h = record {
    each = λ n.
        subst (λ (t : BTreeMap Name KeptAs).
        IsHeld (course_held r any n (bs ++ b ∷ [])) (get name_cmp t n))
        (sym same)
        (subst (λ (k : Course). IsHeld k (get name_cmp old.kept n))
        (sym (held-other r any n bs b (ap (part_of n) is))) (h.each n));
    in_order = subst (λ (t : BTreeMap Name KeptAs). IsOrdered name_cmp t) (sym same) h.in_order;
    counts = counts-next old new counts h;
  }

  pub told-none : (e : Skip) → part_carried r b ≡ Err e → [] ≡ told_by r any bs b (part_carried r b)
  told-none e is = sym (ap (told_by r any bs b) is)

  module _ (c : Named) (is : part_carried r b ≡ Ok c) (name : Name) (e : name ≡ name_of c) where
    its_part : part_of name (part_carried r b) ≡ Some c.piece
    its_part =
        ap (part_of name) is
        ∙ ap (λ (m : Name). if same_name (name_of c) m then Some c.piece else None) e
        ∙ ap (λ (t : Bool). if t then Some c.piece else None) (same_name-refl (name_of c))

    no_part : (n : Name) → same_name name n ≡ false → part_of n (part_carried r b) ≡ None
    no_part n other =
        ap (part_of n) is
        ∙ ap (λ (m : Name). if same_name m n then Some c.piece else None) (sym e)
        ∙ ap (λ (t : Bool). if t then Some c.piece else None) other

    -- a part of this one
    pub each-part : (old new : HeldsAs) (g : KeptAs) (now : ℕ)
        → ((n : Name) → same_name name n ≡ false
        → get name_cmp new.kept n ≡ get name_cmp old.kept n)
        → get name_cmp new.kept name ≡ Some g
        → IsOrdered name_cmp new.kept
        → now ≡ missing_at r (counts_of r bs) b
        → IsKept (step r any now (course_held r any name bs) c.piece).0 g
        → counts_shown new.counts ≡ packet_counted r (counts_shown old.counts) b
        → HoldsEach r any bs old
        → HoldsEach r any (bs ++ b ∷ []) new
    each-part old new g now others some in_order up_to holds counts h =
        record {
          each = λ n. at n (same_name name n) refl;
          in_order = in_order;
          counts = counts-next old new counts h;
        } where
          at : (n : Name) (same : Bool)
              → same_name name n ≡ same
              → IsHeld (course_held r any n (bs ++ b ∷ [])) (get name_cmp new.kept n)
          at n true same =
              subst (λ (m : Name). IsHeld (course_held r any m (bs ++ b ∷ []))
              (get name_cmp new.kept m))
              (same_name-true name n same)
              (subst (λ (o : Option KeptAs). IsHeld (course_held r any name (bs ++ b ∷ [])) o)
              (sym some)
              (subst (λ (k : Course). IsKept k g)
              (ap (λ (i : ℕ). (step r any i (course_held r any name bs) c.piece).0) up_to
              ∙ sym (held-part r any name bs b c.piece its_part)) holds))
          at n false other =
              subst (λ (o : Option KeptAs). IsHeld (course_held r any n (bs ++ b ∷ [])) o)
              (sym (others n other))
              (subst (λ (k : Course). IsHeld k (get name_cmp old.kept n))
              (sym (held-other r any n bs b (no_part n other))) (h.each n))

    -- it tells this
    pub told-part : (o : Option NewsAs) (now : ℕ)
        → now ≡ missing_at r (counts_of r bs) b
        → option_map news_of o ≡ (step r any now (course_held r any name bs) c.piece).1
        → of name (news_listed (option_map news_of o)) ≡ told_by r any bs b (part_carried r b)
    told-part o now up_to tells =
        ap (λ (w : Option News). of name (news_listed w)) tells
        ∙ ap (λ (i : ℕ). of name (news_listed (step r any i (course_held r any name bs) c.piece).1))
        up_to
        ∙ ap (λ (p : Option Piece). of name
        (news_listed
        (step_of r any (missing_at r (counts_of r bs) b) (course_held r any name bs) p).1))
        (sym its_part)
        ∙ ap (λ (m : Name). events_told r any m bs b) e
        ∙ sym (ap (told_by r any bs b) is)
