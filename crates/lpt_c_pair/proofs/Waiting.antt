-- What waits in the outboxes of two ends stays on the way, whatever they do.
use Rattle.std.proofs.Common.{◌≡◌, ◌∙◌, ap, sym, subst, refl, ℕ, zero, suc, Bool, true, false, not, ◌&&◌, List, [], ◌∷◌, ◌++◌, drop, Option, Some, None, append-nil}
use Rattle.std.specs.Option.{option_eq}
use Rattle.std.specs.Prelude.{slice_get, cond, option_to_list, ⊤}
use Rattle.lpt_apart.specs.Ends.{Ends, PutOut, put_out, is_part, without}
use Rattle.lpt_c_pair.specs.Outboxes.{AllOnTheWay, NoneIsPart}
use Rattle.lpt_packet.specs.declared.direction.Direction.{Direction}
use Rattle.lpt_packet.specs.Names.{Name, same_name}
use Rattle.lpt_events.specs.Lanes.{same_direction}
use Rattle.lpt_model.specs.State.{as_list}

-- ---- lists of what was put out

-- these octets are of a packet that goes in this direction
record IsThere (ps : List PutOut) (d : Direction) (b : List ℕ) : Type 0 where
  place : ℕ
  packet : PutOut
  there : slice_get ps place ≡ Some packet
  goes : packet.direction ≡ d
  octets : packet.octets ≡ b

abbrev AllThere : List PutOut → Direction → List (List ℕ) → Type 0
AllThere ps d [] = ⊤
AllThere ps d (b ∷ bs) = IsThere ps d b × AllThere ps d bs

listed : (e : Ends) (d : Direction) (bs : List (List ℕ))
    → AllOnTheWay e d bs
    → AllThere e.on_the_way d bs
listed e d [] all = tt
listed e d (b ∷ bs) all = (
  record {
    place = all.0.place;
    packet = all.0.packet;
    there = all.0.there;
    goes = all.0.goes;
    octets = all.0.octets;
  },
  listed e d bs all.1,
)

on_the_way : (e : Ends) (d : Direction) (bs : List (List ℕ))
    → AllThere e.on_the_way d bs
    → AllOnTheWay e d bs
on_the_way e d [] all = tt
on_the_way e d (b ∷ bs) all = (
  record {
    place = all.0.place;
    packet = all.0.packet;
    there = all.0.there;
    goes = all.0.goes;
    octets = all.0.octets;
  },
  on_the_way e d bs all.1,
)

-- ---- putting

still_there : (ps : List PutOut) (d : Direction) (b : List ℕ) (way : Direction)
    (tag : Option Name) (bs : List (List ℕ))
    → IsThere ps d b
    → IsThere (put_out ps way tag bs) d b
still_there ps d b way tag [] it = it
still_there ps d b way tag (x ∷ xs) it =
    let q : PutOut = record { direction = way; part_of = tag; octets = x } in
    still_there (q ∷ ps) d b way tag xs
    (record {
      place = suc it.place;
      packet = it.packet;
      there = it.there;
      goes = it.goes;
      octets = it.octets;
    })

all_still : (ps : List PutOut) (d : Direction) (way : Direction) (tag : Option Name)
    (xs bs : List (List ℕ))
    → AllThere ps d xs
    → AllThere (put_out ps way tag bs) d xs
all_still ps d way tag [] bs all = tt
all_still ps d way tag (x ∷ xs) bs all =
    (still_there ps d x way tag bs all.0, all_still ps d way tag xs bs all.1)

all_new : (ps : List PutOut) (d : Direction) (tag : Option Name) (bs : List (List ℕ))
    → AllThere (put_out ps d tag bs) d bs
all_new ps d tag [] = tt
all_new ps d tag (b ∷ bs) =
    let q : PutOut = record { direction = d; part_of = tag; octets = b } in (
      still_there (q ∷ ps) d b d tag bs
          (record { place = zero; packet = q; there = refl; goes = refl; octets = refl }),
      all_new (q ∷ ps) d tag bs,
    )

all_both : (ps : List PutOut) (d : Direction) (xs ys : List (List ℕ))
    → AllThere ps d xs
    → AllThere ps d ys
    → AllThere ps d (xs ++ ys)
all_both ps d [] ys front back = back
all_both ps d (x ∷ xs) ys front back = (front.0, all_both ps d xs ys front.1 back)

-- ---- freeing

record IsAt (ps : List PutOut) (q : PutOut) : Type 0 where
  place : ℕ
  there : slice_get ps place ≡ Some q

at_without : (d : Direction) (name : Name) (ps : List PutOut) (n : ℕ) (q : PutOut)
    → slice_get ps n ≡ Some q
    → is_part d name q ≡ false
    → IsAt (without d name ps) q
at_without d name [] n q at other = absurd (let none : None ≡ Some q = at in cc)
at_without d name (p ∷ ps) n q at other =
    go (λ m back. at_without d name ps m q back other) (is_part d name p) refl n at where
      go : ((m : ℕ) → slice_get ps m ≡ Some q → IsAt (without d name ps) q)
          → (t : Bool)
          → is_part d name p ≡ t
          → (n : ℕ)
          → slice_get (p ∷ ps) n ≡ Some q
          → IsAt (cond (not t) (p ∷ without d name ps) (without d name ps)) q
      go rest true is zero at =
          let same : p ≡ q = cc in
          absurd (let both : true ≡ false = sym is ∙ ap (is_part d name) same ∙ other in cc)
      go rest true is (suc m) at = rest m at
      go rest false is zero at = record { place = zero; there = at }
      go rest false is (suc m) at =
          let r = rest m at in record { place = suc r.place; there = r.there }

there_without : (way : Direction) (name : Name) (ps : List PutOut) (d : Direction) (b : List ℕ)
    → (it : IsThere ps d b)
    → is_part way name it.packet ≡ false
    → IsThere (without way name ps) d b
there_without way name ps d b it other =
    let r = at_without way name ps it.place it.packet it.there other in
    record {
      place = r.place;
      packet = it.packet;
      there = r.there;
      goes = it.goes;
      octets = it.octets;
    }

-- what goes in the other direction is no part
other_way : (way : Direction) (name : Name) (ps : List PutOut) (d : Direction)
    (bs : List (List ℕ))
    → same_direction d way ≡ false
    → AllThere ps d bs
    → AllThere (without way name ps) d bs
other_way way name ps d [] other all = tt
other_way way name ps d (b ∷ bs) other all = (
  there_without way name ps d b all.0
      (ap (λ (x : Direction). same_direction x way
      && option_eq same_name all.0.packet.part_of (Some name)) all.0.goes
      ∙ ap (λ (t : Bool). t && option_eq same_name all.0.packet.part_of (Some name)) other),
  other_way way name ps d bs other all.1,
)

this_way : (d : Direction) (name : Name) (e : Ends) (bs : List (List ℕ))
    → NoneIsPart e d name bs
    → AllThere (without d name e.on_the_way) d bs
this_way d name e [] none = tt
this_way d name e (b ∷ bs) none = (
  there_without d name e.on_the_way d b
      (record {
        place = none.0.out.place;
        packet = none.0.out.packet;
        there = none.0.out.there;
        goes = none.0.out.goes;
        octets = none.0.out.octets;
      }) none.0.other,
  this_way d name e bs none.1,
)

-- ---- outboxes

-- nothing was put out
pub stays : (e f : Ends) (d : Direction) (old new : List (List ℕ))
    → f.on_the_way ≡ e.on_the_way
    → new ≡ old
    → AllOnTheWay e d old
    → AllOnTheWay f d new
stays e f d old new ways is all =
    subst (λ (bs : List (List ℕ)). AllOnTheWay f d bs) (sym is)
    (on_the_way f d old
    (subst (λ (ps : List PutOut). AllThere ps d old) (sym ways) (listed e d old all)))

-- something else was put out
pub beside : (e f : Ends) (d way : Direction) (tag : Option Name) (old bs : List (List ℕ))
    → f.on_the_way ≡ put_out e.on_the_way way tag bs
    → AllOnTheWay e d old
    → AllOnTheWay f d old
beside e f d way tag old bs ways all =
    on_the_way f d old
    (subst (λ (ps : List PutOut). AllThere ps d old) (sym ways)
    (all_still e.on_the_way d way tag old bs (listed e d old all)))

-- these were put out, and wait behind the others
pub adds : (e f : Ends) (d : Direction) (tag : Option Name) (old new bs : List (List ℕ))
    → f.on_the_way ≡ put_out e.on_the_way d tag bs
    → new ≡ old ++ bs
    → AllOnTheWay e d old
    → AllOnTheWay f d new
adds e f d tag old new bs ways is all =
    subst (λ (xs : List (List ℕ)). AllOnTheWay f d xs) (sym is)
    (on_the_way f d (old ++ bs)
    (subst (λ (ps : List PutOut). AllThere ps d (old ++ bs)) (sym ways)
    (all_both (put_out e.on_the_way d tag bs) d old bs
    (all_still e.on_the_way d d tag old bs (listed e d old all))
    (all_new e.on_the_way d tag bs))))

-- these were put out, and wait alone
pub replaces : (e f : Ends) (d : Direction) (tag : Option Name) (new bs : List (List ℕ))
    → f.on_the_way ≡ put_out e.on_the_way d tag bs
    → new ≡ bs
    → AllOnTheWay f d new
replaces e f d tag new bs ways is =
    subst (λ (xs : List (List ℕ)). AllOnTheWay f d xs) (sym is)
    (on_the_way f d bs
    (subst (λ (ps : List PutOut). AllThere ps d bs) (sym ways) (all_new e.on_the_way d tag bs)))

-- the first was let go
pub lets_go : (e : Ends) (d : Direction) (old new : List (List ℕ))
    → new ≡ drop 1 old
    → AllOnTheWay e d old
    → AllOnTheWay e d new
lets_go e d old new is all =
    subst (λ (xs : List (List ℕ)). AllOnTheWay e d xs) (sym is) (behind old all) where
      behind : (bs : List (List ℕ)) → AllOnTheWay e d bs → AllOnTheWay e d (drop 1 bs)
      behind [] all = tt
      behind (b ∷ bs) all = all.1

-- a name of the other direction was freed
pub freed_other : (e f : Ends) (d way : Direction) (name : Name) (old new : List (List ℕ))
    → same_direction d way ≡ false
    → f.on_the_way ≡ without way name e.on_the_way
    → new ≡ old
    → AllOnTheWay e d old
    → AllOnTheWay f d new
freed_other e f d way name old new other ways is all =
    subst (λ (xs : List (List ℕ)). AllOnTheWay f d xs) (sym is)
    (on_the_way f d old
    (subst (λ (ps : List PutOut). AllThere ps d old) (sym ways)
    (other_way way name e.on_the_way d old other (listed e d old all))))

-- a name was freed of which no part waits
pub freed_this : (e f : Ends) (d : Direction) (name : Name) (old new : List (List ℕ))
    → f.on_the_way ≡ without d name e.on_the_way
    → new ≡ old
    → NoneIsPart e d name old
    → AllOnTheWay f d new
freed_this e f d name old new ways is none =
    subst (λ (xs : List (List ℕ)). AllOnTheWay f d xs) (sym is)
    (on_the_way f d old
    (subst (λ (ps : List PutOut). AllThere ps d old) (sym ways) (this_way d name e old none)))

-- a report that is made or not, as a list
pub as_listed : (o : Option (List ℕ)) → option_to_list o ≡ as_list o
as_listed None = refl
as_listed (Some b) = refl

-- where none is made, nothing more waits
pub none_more : (old new : List (List ℕ)) (o : Option (List ℕ))
    → o ≡ None
    → new ≡ old ++ option_to_list o
    → new ≡ old
none_more old new o none is =
    is ∙ ap (λ (x : Option (List ℕ)). old ++ option_to_list x) none ∙ append-nil old
