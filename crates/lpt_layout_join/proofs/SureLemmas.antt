-- What is written of whatever packets by a layout without a checksum is joined of parts that came
-- in their order.
use Rattle.std.proofs.Common.{◌≡◌, ◌∙◌, ap, sym, subst, refl, ℕ, Bool, true, false, ◌||◌, if◌then◌else◌, List, [], ◌∷◌, ◌++◌, append-nil, append_assoc}
use Rattle.std.specs.Prelude.{Option, Some, None, is_some}
use Rattle.std.specs.Option.{option_or}
use Rattle.lpt_part.specs.Parts.{Piece}
use Rattle.lpt_layout_join.specs.declared.ending.JoinEnd.TheVariants.{Written}
use Rattle.lpt_layout_join.specs.declared.ending.MisfitAs.{MisfitAs}
use Rattle.lpt_layout_join.specs.declared.ending.MisfitAs.TheVariants.{Unsure}
use Rattle.lpt_layout_join.specs.declared.last_part.LastPart.{LastPart}
use Rattle.lpt_carried.specs.declared.name.Name.{Name}
use Rattle.lpt_layout_join.specs.declared.order.Order.{Order}
use Rattle.lpt_carried.specs.declared.reading.Reading.{Reading}
use Rattle.lpt_layout_join.specs.Came.{Came, contradicts, last_of, last_told, message_of, step}
use Rattle.lpt_carried.specs.Carried.{part_carried, part_of}
use Rattle.lpt_layout_join.specs.Counts.{Counted, all_counted, packet_counted, nothing_counted}
use Rattle.lpt_layout_join.specs.Gathered.{Gathered, all_gathered, parts_gathered, next, nothing_gathered, order_by, with_came, with_counts, with_own, with_part}
use Rattle.lpt_layout_join.specs.InOrder.{IsInOrder, Stands}
use Rattle.lpt_layout_join.specs.Orders.{is_in_order, no_order, order_after}
use Rattle.lpt_layout_join.specs.Writes.{end_by, end_of, end_whole, misfit}
use Rattle.lpt_layout_join.proofs.CameLemmas.{first_told-more}
use Rattle.lpt_layout_join.proofs.CountLemmas.{counted-more}
use Rattle.lpt_layout_join.proofs.InOrderLemmas.{CameSo, came-other, came-part, in_order, none-came, octets-own, stands-kept}

module _ (r : Reading) (n : Name) where
  -- all parts of the message stand in front of these packets, in their order
  record IsSure (bs : List (List ℕ)) (g : Gathered) : Type 0 where
    last : LastPart
    last_is : last_of g.came.parts ≡ Some last
    front : List (List ℕ)
    behind : List (List ℕ)
    are : bs ≡ front ++ behind
    stand : Stands r n g.came.parts last.number front

  record IsGathered (bs : List (List ℕ)) (g : Gathered) : Type 0 where
    counts_are : g.counts ≡ all_counted r nothing_counted bs
    order_is : CameSo r n bs g.order g.came.parts
    sure_is : g.sure ≡ true → IsSure bs g

  gathered-none : IsGathered [] nothing_gathered
  gathered-none = record {
    counts_are = refl;
    order_is = none-came r n [] [];
    sure_is = λ e. absurd cc;
  }

  sure-behind : (bs : List (List ℕ)) (b : List ℕ) (g : Gathered) → IsSure bs g
      → IsSure (bs ++ b ∷ []) (with_counts r g b)
  sure-behind bs b g s = record {
    last = s.last;
    last_is = s.last_is;
    front = s.front;
    behind = s.behind ++ b ∷ [];
    are = ap (λ (xs : List (List ℕ)). xs ++ b ∷ []) s.are ∙ append_assoc s.front s.behind (b ∷ []);
    stand = s.stand;
  }

  -- what is gathered with a packet more
  module _ (bs : List (List ℕ)) (b : List ℕ) (g : Gathered) (was : IsGathered bs g) where
    abbrev bsb : List (List ℕ)
    bsb = bs ++ b ∷ []

    abbrev now : Gathered
    now = with_counts r g b

    counts-now : now.counts ≡ all_counted r nothing_counted bsb
    counts-now =
        ap (λ (k : Counted). packet_counted r k b) was.counts_are
        ∙ sym (counted-more r nothing_counted bs b)

    -- that carries no part of the name
    other : part_of n (part_carried r b) ≡ None → IsGathered bsb now
    other none = record {
      counts_are = counts-now;
      order_is = came-other r n bs b g.order g.came.parts none was.order_is;
      sure_is = λ e. sure-behind bs b g (was.sure_is e);
    }

    -- that carries this part of it
    module _ (q : Piece) (its_part : part_of n (part_carried r b) ≡ Some q) where
      -- these came with it, in this order
      own : (came : Came) (o : Order)
          → CameSo r n bsb o came.parts
          → ((l : LastPart) → last_of g.came.parts ≡ Some l → last_of came.parts ≡ Some l)
          → ((k : ℕ) (front : List (List ℕ)) → Stands r n g.came.parts k front
          → Stands r n came.parts k front)
          → IsGathered bsb (with_came now came o)
      own came o so last stands = record {
        counts_are = counts-now;
        order_is = so;
        sure_is = λ e. sure g.sure refl e;
      } where
        whole : (l : Option LastPart)
            → last_of came.parts ≡ l
            → is_in_order l o ≡ true
            → IsSure bsb (with_came now came o)
        whole None e w = absurd cc
        whole (Some l) e w =
            let s = in_order r n bsb o came.parts l so e
            (ap (λ (x : Option LastPart). is_in_order x o) e ∙ w) in
            record {
              last = l;
              last_is = e;
              front = s.0;
              behind = s.1;
              are = s.2;
              stand = s.3;
            }

        sure : (t : Bool)
            → g.sure ≡ t
            → (t || is_in_order (last_of came.parts) o) ≡ true
            → IsSure bsb (with_came now came o)
        sure true e w =
            let s = sure-behind bs b g (was.sure_is e) in
            record {
              last = s.last;
              last_is = last s.last s.last_is;
              front = s.front;
              behind = s.behind;
              are = s.are;
              stand = stands s.last.number s.front s.stand;
            }
        sure false e w = whole (last_of came.parts) refl w

      ending : IsGathered bsb (with_own now q (step g.came 0 q))
      ending = go (is_some g.came.against) refl (contradicts g.came.parts q) refl where
        go : (s : Bool) → is_some g.came.against ≡ s
            → (t : Bool) → contradicts g.came.parts q ≡ t
            → IsGathered bsb (with_own now q
            (if s then g.came else if t then record g.came { against = Some 0 }
            else record g.came { parts = g.came.parts ++ q ∷ [] }))
        go true e t f =
            subst (λ (a : Bool). IsGathered bsb (with_came now g.came
            (order_by g.order a q.number now.counts.missing))) (sym e)
            (own g.came no_order (none-came r n bsb g.came.parts) (λ l is. is) (λ k front s. s))
        go false e true f =
            own (record g.came { against = Some 0 }) no_order
            (none-came r n bsb g.came.parts) (λ l is. is) (λ k front s. s)
        go false e false f =
            let qs = g.came.parts ++ q ∷ [] in
            subst (λ (a : Bool). IsGathered bsb (with_came now (record g.came { parts = qs })
            (order_by g.order a q.number now.counts.missing))) (sym e)
            (own (record g.came { parts = qs }) (order_after g.order q.number now.counts.missing)
            (subst (λ (i : ℕ). CameSo r n bsb (order_after g.order q.number i) qs)
            (sym (ap (λ (k : Counted). k.missing) counts-now))
            (came-part r n bs b g.came.parts q its_part (octets-own g.came.parts q f) g.order
            was.order_is))
            (λ l is. first_told-more last_told g.came.parts q
            ∙ ap (λ (o : Option LastPart). option_or o (last_told q)) is)
            (λ k front s. stands-kept r n g.came.parts q k front s))

    packet-gathered : (o : Option Piece) → part_of n (part_carried r b) ≡ o
        → IsGathered bsb (with_part now o)
    packet-gathered None is = other is
    packet-gathered (Some q) is = ending q is

  gathered-all : (bs : List (List ℕ)) (before : List (List ℕ)) (g : Gathered)
      → IsGathered before g
      → IsGathered (before ++ bs) (all_gathered r n g bs)
  gathered-all [] before g was =
      subst (λ (xs : List (List ℕ)). IsGathered xs g) (sym (append-nil before)) was
  gathered-all (b ∷ bs) before g was =
      subst (λ (xs : List (List ℕ)). IsGathered xs (all_gathered r n (next r n g b) bs))
      (append_assoc before (b ∷ []) bs)
      (gathered-all bs (before ++ b ∷ []) (next r n g b)
      (packet-gathered before b g was (part_of n (part_carried r b)) refl))

-- what isn't sure isn't written
unsure_end : (m : List ℕ) (len : ℕ) (x : Option MisfitAs)
    → end_whole m (option_or x (Some Unsure)) ≡ Written len
    → ⊥
unsure_end m len None e = cc
unsure_end m len (Some f) e = cc

written-sure : (r : Reading) (sure broken : Bool) (m : List ℕ) (len : ℕ)
    → r.layout.has_checksum ≡ false
    → end_by r false sure broken (Some m) ≡ Written len
    → sure ≡ true
written-sure r true broken m len bare e = refl
written-sure r false broken m len bare e =
    absurd (unsure_end m len (misfit r m)
    (ap (λ (t : Bool).
    end_whole m (option_or (misfit r m) (if t || false then None else Some Unsure)))
    (sym bare) ∙ e))

pub written-in-order : (r : Reading) (n : Name) (bs : List (List ℕ)) (len : ℕ) (m : List ℕ)
    → r.layout.has_checksum ≡ false
    → end_of r false (parts_gathered r n bs) ≡ Written len
    → message_of (parts_gathered r n bs).came.parts ≡ Some m
    → IsInOrder r n bs m
unfolding parts_gathered
written-in-order r n bs len m bare ends is =
    let g : Gathered = all_gathered r n nothing_gathered bs in
    let sure =
    written-sure r g.sure (is_some g.came.against) m len bare
    (ap (end_by r false g.sure (is_some g.came.against)) (sym is) ∙ ends) in
    let s = (gathered-all r n bs [] nothing_gathered (gathered-none r n)).sure_is sure in
    record {
      parts = g.came.parts;
      joined = is;
      last = s.last;
      last_is = s.last_is;
      front = s.front;
      behind = s.behind;
      are = s.are;
      stand = s.stand;
    }
