-- What was written of a stream that was read to its end.
use Rattle.std.proofs.Common.{◌≡◌, ◌∙◌, ap, sym, subst, refl, Bool, true, false, ℕ, List, [], ◌∷◌, Option, Some, None, is_some}
use Rattle.std.proofs.lemmas.Bool.{or_parts}
use Rattle.lpt_part.specs.Parts as part
use Rattle.lpt_stream.specs.Pieces.{Piece, packets_of}
use Rattle.lpt_text.specs.declared.fault.StreamFault.{StreamFault}
use Rattle.lpt_text.specs.declared.fault.StreamFault.TheVariants as faults
use Rattle.lpt_carried.specs.declared.name.Name.{Name}
use Rattle.lpt_carried.specs.declared.reading.Reading.{Reading}
use Rattle.lpt_carried.specs.Carried.{part_carried, cut, part_of}
use Rattle.lpt_carried.proofs.NameLemmas.{same_name-refl}
use Rattle.lpt_carried.specs.declared.wanted.Wanted.{Wanted}
use Rattle.lpt_layout_join.specs.declared.ending.JoinEnd.{JoinEnd}
use Rattle.lpt_layout_join.specs.declared.ending.JoinEnd.TheVariants.{Missing}
use Rattle.lpt_layout_join.specs.declared.gathering.Gathering.{Gathering}
use Rattle.lpt_layout_join.specs.declared.gatherings.Gatherings.{Gatherings}
use Rattle.lpt_layout_join.specs.Came.{Came, message_of, nothing_came}
use Rattle.lpt_layout_join.specs.Gathered.{Gathered, all_gathered, carry, parts_gathered, next, nothing_gathered, with_counts, with_part}
use Rattle.lpt_layout_join.specs.Gatherings.{Gives, GivesEach, IsChosen, IsKept, IsOnly, NoneIsChosen, ShowsGathered, kept_of}
use Rattle.lpt_layout_join.specs.Writes.{ChosenFails, Ends, EndsAs, EndsFailed, JoinLeaves, LeavesAs, ReadsCut, end_by}
use Rattle.lpt_layout_join.proofs.SeveralLemmas.{at-own, at_name, not_some}

-- what is kept shows what packets gave
gives-shows : (r : Reading) (n : Name) (ps : List Piece) (g : Gathering)
    → Gives r n ps g
    → ShowsGathered (parts_gathered r n (packets_of ps)) g
gives-shows r n ps g h = record { came_is = h.came_is; sure_is = h.sure_is }

module _ (r : Reading) (ps : List Piece) (gs : Gatherings) (g : Gathering) where
  kept-shows : (w : Option Name) (n : Name)
      → IsKept r n ps gs.has_more (kept_of gs n)
      → kept_of gs n ≡ Some g
      → ShowsGathered (parts_gathered r n (packets_of ps)) g
  kept-shows w n kept is =
      let its : IsKept r n ps gs.has_more (Some g) =
      subst (λ o. IsKept r n ps gs.has_more o) is kept in
      gives-shows r n ps g its.0

  named-shows : (n : Name)
      → GivesEach r (Some n) ps gs
      → kept_of gs n ≡ Some g
      → ShowsGathered (parts_gathered r n (packets_of ps)) g
  named-shows n h is = kept-shows (Some n) n (h.each n (same_name-refl n)) is

  only-shows : (n : Name)
      → GivesEach r None ps gs
      → IsOnly gs n g
      → ShowsGathered (parts_gathered r n (packets_of ps)) g
  only-shows n h only =
      kept-shows None n (h.each n refl) (ap (at_name n) only.is ∙ at-own n g)

module _ (w : Wanted) (any : Bool) (ps : List Piece) (gs : Gatherings) (g : Gathering)
    (old new : Option (List ℕ)) where
  pub chosen-ends : (name : Option Name) (end : JoinEnd)
      → IsChosen gs name g
      → GivesEach w.reading name ps gs
      → ((x : Gathered) → ShowsGathered x g → Ends w.reading any x end old new)
      → EndsAs w any name ps gs (Some end) old new
  chosen-ends (Some n) end is h ends =
      ends (parts_gathered w.reading n (packets_of ps)) (named-shows w.reading ps gs g n h is)
  chosen-ends None end is h ends = (
    is.0,
    g,
    is.1,
    ends (parts_gathered w.reading is.0 (packets_of ps)) (only-shows w.reading ps gs g is.0 h is.1),
  )

  leaves-by : (name : Option Name)
      → IsChosen gs name g
      → GivesEach w.reading name ps gs
      → ((x : Gathered) → ShowsGathered x g → EndsFailed w.reading any x faults.Write old new)
      → LeavesAs w any name ps old new
  leaves-by (Some n) is h ends =
      ends (parts_gathered w.reading n (packets_of ps)) (named-shows w.reading ps gs g n h is)
  leaves-by None is h ends = (
    gs,
    h,
    is.0,
    g,
    is.1,
    ends (parts_gathered w.reading is.0 (packets_of ps)) (only-shows w.reading ps gs g is.0 h is.1),
  )

  chosen-some : (name : Option Name)
      → IsChosen gs name g
      → GivesEach w.reading name ps gs
      → (x : Gathered) × ShowsGathered x g
  chosen-some (Some n) is h =
      (parts_gathered w.reading n (packets_of ps), named-shows w.reading ps gs g n h is)
  chosen-some None is h =
      (parts_gathered w.reading is.0 (packets_of ps), only-shows w.reading ps gs g is.0 h is.1)

  pub chosen-fails : (fault : StreamFault)
      → IsChosen gs w.name g
      → GivesEach w.reading w.name ps gs
      → ((x : Gathered) → ShowsGathered x g → EndsFailed w.reading any x fault old new)
      → ChosenFails w any ps fault old new
  chosen-fails faults.Write is h ends = leaves-by w.name is h ends
  chosen-fails faults.Read is h ends =
      let x = chosen-some w.name is h in
      ends x.0 x.1
  chosen-fails faults.Memory is h ends =
      let x = chosen-some w.name is h in
      ends x.0 x.1

-- ---- where nothing came

module _ (r : Reading) (n : Name) where
  none-all : (g : Gathered) (bs : List (List ℕ))
      → carry r n bs ≡ false
      → (all_gathered r n g bs).came ≡ g.came
  none-all g [] h = refl
  none-all g (b ∷ bs) h =
      let parts = or_parts (is_some (part_of n (part_carried r b))) (carry r n bs) h in
      none-all (next r n g b) bs parts.1
      ∙ ap (λ (o : Option part.Piece). (with_part (with_counts r g b) o).came)
      (not_some (part_of n (part_carried r b)) parts.0)

  pub none-came : (bs : List (List ℕ))
      → carry r n bs ≡ false
      → (parts_gathered r n bs).came
      ≡ nothing_came
  unfolding parts_gathered
  none-came bs h = none-all nothing_gathered bs h

  pub none-missing : (any : Bool) (bs : List (List ℕ)) (old : Option (List ℕ))
      → carry r n bs ≡ false
      → Ends r any (parts_gathered r n bs) Missing old old
  none-missing any bs old h =
      let g = parts_gathered r n bs in
      record {
        end_is = sym (ap (λ (c : Came).
            end_by r any g.sure (is_some c.against) (message_of c.parts)) (none-came bs h));
        writes = refl;
      }

none-by : (w : Wanted) (any : Bool) (ps : List Piece) (gs : Gatherings) (old : Option (List ℕ))
    (name : Option Name)
    → NoneIsChosen gs name
    → is_some name ≡ true
    → GivesEach w.reading name ps gs
    → EndsAs w any name ps gs (Some Missing) old old
none-by w any ps gs old None none some h = absurd cc
none-by w any ps gs old (Some n) none some h =
    let kept : IsKept w.reading n ps gs.has_more None =
    subst (λ o. IsKept w.reading n ps gs.has_more o) none (h.each n (same_name-refl n)) in
    none-missing w.reading n any (packets_of ps) old (kept h.lone.0)

-- parts of a transaction that was asked for are missing, where none came
pub none-ends : (w : Wanted) (any : Bool) (ps : List Piece) (gs : Gatherings)
    (old : Option (List ℕ))
    → NoneIsChosen gs w.name
    → is_some w.name ≡ true
    → GivesEach w.reading w.name ps gs
    → EndsAs w any w.name ps gs (Some Missing) old old
none-ends w any ps gs old none some h = none-by w any ps gs old w.name none some h

-- what a fault leaves of a stream that was read to its end
pub join-leaves : (w : Wanted) (any : Bool) (fault : StreamFault) (a b old new : Option (List ℕ))
    (P : List Piece → Type 0) (gs : Gatherings)
    → ReadsCut (cut w.reading) a b (λ ps. GivesEach w.reading w.name ps gs × P ps)
    → ((ps : List Piece) → GivesEach w.reading w.name ps gs → ChosenFails w any ps fault old new)
    → JoinLeaves w any fault a b old new
join-leaves w any faults.Write a b old new P gs h leaves =
    (h.0, h.1, h.2, h.3, h.4, leaves h.1 h.5.0)
join-leaves w any faults.Read a b old new P gs h leaves = leaves h.1 h.5.0
join-leaves w any faults.Memory a b old new P gs h leaves = leaves h.1 h.5.0
