-- A stream of packets that carry the parts of one message, and others.
use Rattle.std.proofs.Common.{◌≡◌, ◌∙◌, ap, sym, subst, refl, inl, inr, ℕ, ◌≤◌, Bool, true, false, ◌||◌, if◌then◌else◌, List, [], ◌∷◌, ◌++◌, length, Ok, Err, Result}
use Rattle.std.specs.Prelude.{Option, Some, None, is_some}
use Rattle.lpt_part.specs.Parts.{Piece, nth_part}
use Rattle.lpt_part.specs.Splitting as message_part
use Rattle.lpt_part.specs.Splitting.{part_count}
use Rattle.lpt_packet.proofs.BoolLemmas.{not_true}
use Rattle.lpt_carried.specs.declared.name.Name.{Name}
use Rattle.lpt_carried.specs.declared.reading.Reading.{Reading}
use Rattle.lpt_carried.specs.declared.skip.Skip.{Skip}
use Rattle.lpt_layout_join.specs.Came.{Came, contradicts, message_of, octets_of, step}
use Rattle.lpt_carried.specs.Carried.{Named, part_carried, name_of, part_of, same_name}
use Rattle.lpt_layout_join.specs.Gathered.{Gathered, all_gathered, carry, parts_gathered, next, nothing_gathered, with_counts, with_own, with_part}
use Rattle.lpt_layout_join.specs.Laws.{IsSplit, OneOrOther, AreOneOrOther, EachIsAmong, IsAmong, IsAsked, is_other, part_named}
use Rattle.lpt_layout_join.specs.Writes.{end_by, end_of, end_whole, unfit}
use Rattle.lpt_carried.proofs.NameLemmas.{same_name-refl, same_name-true}
use Rattle.lpt_layout_join.proofs.PartsLemmas.{AreNth, agrees, joined-all, nth-more, octets-come, octets-kept}

-- ---- what stays

step-kept : (c : Came) (place : ℕ) (q : Piece) (k : ℕ) (x : List ℕ)
    → octets_of c.parts k ≡ Some x
    → octets_of (step c place q).parts k ≡ Some x
step-kept c place q k x e = by (is_some c.against) (contradicts c.parts q) where
  by : (s t : Bool)
      → octets_of (if s then c else if t then record c { against = Some place }
      else record c { parts = c.parts ++ q ∷ [] }).parts k ≡ Some x
  by true t = e
  by false true = e
  by false false = octets-kept c.parts q k x e

part-kept : (g : Gathered) (o : Option Piece) (k : ℕ) (x : List ℕ)
    → octets_of g.came.parts k ≡ Some x
    → octets_of (with_part g o).came.parts k ≡ Some x
part-kept g None k x e = e
part-kept g (Some q) k x e = step-kept g.came 0 q k x e

-- a part that came stays
all-kept : (r : Reading) (n : Name) (g : Gathered) (bs : List (List ℕ)) (k : ℕ) (x : List ℕ)
    → octets_of g.came.parts k ≡ Some x
    → octets_of (all_gathered r n g bs).came.parts k ≡ Some x
all-kept r n g [] k x e = e
all-kept r n g (b ∷ bs) k x e =
    all-kept r n (next r n g b) bs k x
    (part-kept (with_counts r g b) (part_of n (part_carried r b)) k x e)

-- a part of another name is none of this
other_part : (n k : Name) (q : Piece) → same_name k n ≡ false
    → (if same_name k n then Some q else None) ≡ None
other_part n k q e = ap (λ (t : Bool). if t then Some q else None) e

module _ (r : Reading) (asked : Option Name) (n : Name) (p : ℕ) (m : List ℕ)
    (split : IsSplit p m) (is_asked : IsAsked asked n) where
  -- parts of the message came, and nothing that matters besides
  record Goes (g : Gathered) : Type 0 where
    parts_are : AreNth m p n.id split g.came.parts
    against_is : g.came.against ≡ None

  -- ---- a part of the message

  abbrev with_nth : Gathered → ℕ → Gathered
  with_nth g k =
      with_own g (nth_part p n.id m k)
      (record g.came { parts = g.came.parts ++ nth_part p n.id m k ∷ [] })

  its_part : (b : List ℕ) (k : ℕ)
      → part_carried r b ≡ Ok (part_named n p m k)
      → part_of n (part_carried r b) ≡ Some (nth_part p n.id m k)
  its_part b k e =
      ap (part_of n) e
      ∙ ap (λ (t : Bool). if t then Some (nth_part p n.id m k) else None) (same_name-refl n)

  step-nth : (g : Gathered) (k : ℕ)
      → Goes g
      → 1 ≤ k
      → k ≤ part_count (length m) p
      → with_part g (Some (nth_part p n.id m k)) ≡ with_nth g k
  step-nth g k goes some within =
      let q : Piece = nth_part p n.id m k in
      let agree : contradicts g.came.parts q ≡ false =
      agrees m p n.id split g.came.parts k goes.parts_are some within in
      ap (with_own g q)
      (ap (λ (o : Option ℕ). if is_some o then g.came
      else if contradicts g.came.parts q then record g.came { against = Some 0 }
      else record g.came { parts = g.came.parts ++ q ∷ [] }) goes.against_is
      ∙ ap (λ (t : Bool). if t then record g.came { against = Some 0 }
      else record g.came { parts = g.came.parts ++ q ∷ [] }) agree)

  goes-nth : (g : Gathered) (k : ℕ)
      → Goes g
      → 1 ≤ k
      → k ≤ part_count (length m) p
      → Goes (with_nth g k)
  goes-nth g k goes some within = record {
    parts_are = nth-more m p n.id split g.came.parts k goes.parts_are some within;
    against_is = goes.against_is;
  }

  -- ---- another packet

  none-other : (v : Result Named Skip) → is_other asked v ≡ true → part_of n v ≡ None
  none-other (Err s) e = refl
  none-other (Ok c) e = by asked refl where
    by : (o : Option Name) → asked ≡ o → part_of n (Ok c) ≡ None
    by None is = absurd (cc (ap (λ (x : Option Name). is_other x (Ok c)) (sym is) ∙ e))
    by (Some k) is =
        let apart : same_name k (name_of c) ≡ false =
        not_true (same_name k (name_of c))
        (ap (λ (x : Option Name). is_other x (Ok c)) (sym is) ∙ e) in
        let here : k ≡ n = subst (λ (x : Option Name). IsAsked x n) is is_asked in
        other_part n (name_of c) c.piece (turned (same_name (name_of c) n) refl
        (ap (λ (x : Name). same_name x (name_of c)) (sym here) ∙ apart))
      where
        turned : (t : Bool) → same_name (name_of c) n ≡ t → same_name n (name_of c) ≡ false
            → t ≡ false
        turned false e f = refl
        turned true e f =
            let same = same_name-true (name_of c) n e in
            absurd (cc (sym (same_name-refl n) ∙ ap (same_name n) (sym same) ∙ f))

  -- ---- all packets

  goes-counts : (g : Gathered) (b : List ℕ) → Goes g → Goes (with_counts r g b)
  goes-counts g b goes = record { parts_are = goes.parts_are; against_is = goes.against_is }

  goes-next : (g : Gathered) (b : List ℕ)
      → Goes g
      → OneOrOther r asked n p m b
      → Goes (next r n g b)
  goes-next g b goes (inl one) =
      let now = with_counts r g b in
      subst Goes (sym (ap (with_part now) (its_part b one.number one.carries)
      ∙ step-nth now one.number (goes-counts g b goes) one.some one.within))
      (goes-nth now one.number (goes-counts g b goes) one.some one.within)
  goes-next g b goes (inr other) =
      subst Goes (sym (ap (with_part (with_counts r g b)) (none-other (part_carried r b) other)))
      (goes-counts g b goes)

  goes-all : (g : Gathered) (bs : List (List ℕ))
      → Goes g
      → AreOneOrOther r asked n p m bs
      → Goes (all_gathered r n g bs)
  goes-all g [] goes all = goes
  goes-all g (b ∷ bs) goes all = goes-all (next r n g b) bs (goes-next g b goes all.0) all.1

  -- a part that is among them came
  comes : (g : Gathered) (bs : List (List ℕ)) (k : ℕ)
      → Goes g
      → AreOneOrOther r asked n p m bs
      → 1 ≤ k
      → k ≤ part_count (length m) p
      → IsAmong r n p m k bs
      → octets_of (all_gathered r n g bs).came.parts k ≡ Some (message_part.part_of m p k)
  comes g [] k goes all some within among = absurd among
  comes g (b ∷ bs) k goes all some within (inl here) =
      all-kept r n (next r n g b) bs k (message_part.part_of m p k)
      (ap (λ (x : Gathered). octets_of x.came.parts k)
      (ap (with_part (with_counts r g b)) (its_part b k here)
      ∙ step-nth (with_counts r g b) k (goes-counts g b goes) some within)
      ∙ octets-come m p n.id split g.came.parts k goes.parts_are)
  comes g (b ∷ bs) k goes all some within (inr later) =
      comes (next r n g b) bs k (goes-next g b goes all.0) all.1 some within later

  goes-none : Goes nothing_gathered
  goes-none = record { parts_are = tt; against_is = refl }

  -- all parts came, so it is the message
  pub message-is : (bs : List (List ℕ))
      → AreOneOrOther r asked n p m bs
      → EachIsAmong r n p m bs
      → message_of (parts_gathered r n bs).came.parts ≡ Some m
  unfolding parts_gathered
  message-is bs all each =
      let g = goes-all nothing_gathered bs goes-none all in
      joined-all m p n.id split (all_gathered r n nothing_gathered bs).came.parts g.parts_are
      (λ k some within. comes nothing_gathered bs k goes-none all some within
      (each k some within))

  -- and it ends with it
  pub end-is : (bs : List (List ℕ)) (any : Bool)
      → AreOneOrOther r asked n p m bs
      → EachIsAmong r n p m bs
      → end_of r any (parts_gathered r n bs)
      ≡ end_whole m (unfit r any (parts_gathered r n bs).sure m)
  end-is bs any all each =
      let g = parts_gathered r n bs in
      ap (end_by r any g.sure (is_some g.came.against)) (message-is bs all each)

-- where each packet carries a part of the message or none, none carries one of another name
module _ (r : Reading) (n k : Name) (p : ℕ) (m : List ℕ) (apart : same_name n k ≡ false) where
  none-apart : (v : Result Named Skip) → is_other None v ≡ true → is_some (part_of k v) ≡ false
  none-apart (Err s) e = refl
  none-apart (Ok c) e = absurd cc

  none-here : (b : List ℕ) → OneOrOther r None n p m b → is_some (part_of k (part_carried r b))
      ≡ false
  none-here b (inl one) =
      ap (λ v. is_some (part_of k v)) one.carries
      ∙ ap is_some (other_part k n (nth_part p n.id m one.number) apart)
  none-here b (inr other) = none-apart (part_carried r b) other

  pub alone-is : (bs : List (List ℕ)) → AreOneOrOther r None n p m bs → carry r k bs ≡ false
  alone-is [] all = refl
  alone-is (b ∷ bs) all =
      ap (λ t. t || carry r k bs) (none-here b all.0) ∙ alone-is bs all.1
