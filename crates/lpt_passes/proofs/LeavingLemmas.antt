-- A pass of loads that is done leaves an image, where its requests are known.
use Rattle.std.proofs.Common.{◌≡◌, ◌∙◌, ap, sym, refl, subst, ℕ, zero, suc, ◌+◌, ◌<◌, ◌≤◌, List, [], ◌∷◌, length, Some, inl, inr}
use Rattle.std.specs.List.{slice_get}
use Rattle.std.specs.Option.{option_map}
use Rattle.std.proofs.lemmas.Option.{slice_get-map}
use Rattle.lpt_memory.specs.Meanings.{Load, Sizes, meaning, size_of}
use Rattle.lpt_memory.specs.Memories.{Contents, content_of, sizes_of}
use Rattle.lpt_memory.specs.Overlaps.{Covers}
use Rattle.lpt_events.specs.Configs.{IsConfig}
use Rattle.lpt_events.specs.declared.config.Config.{Config}
use Rattle.lpt_apart.specs.Ends.{Move}
use Rattle.lpt_apart.specs.TwoEnds.{requests_executed}
use Rattle.lpt_apart.specs.Moves.{came_to, CanMoveAll}
use Rattle.lpt_passes.specs.Images.{Agrees, Image, IsLoaded, IsTrueTo, LoadsOctet, Stands}
use Rattle.lpt_ground.specs.declared.asked.Asked.{Asked}
use Rattle.lpt_ground.specs.declared.asked.Terms.{Terms}
use Rattle.lpt_ground.specs.declared.pass.End.TheVariants.{Done}
use Rattle.lpt_ground.specs.declared.pass.Step.TheVariants.{Stop}
use Rattle.lpt_ground.specs.Carrying.{Answer, come_to, packets_of}
use Rattle.lpt_ground.specs.Passes.{pass_begun, next_step}
use Rattle.lpt_passes.specs.Chains.{AreLoads, DoneLeavesTheImage, WerePutOut, messages_of}
use Rattle.lpt_passes.specs.AloneJobs.{AreAlone, IsAmong}
use Rattle.lpt_passes.proofs.AtLemmas.{all-behind, entry-of}
use Rattle.lpt_passes.proofs.PacketLemmas.{AllLoad, IsLoadOf, area_of}

-- a piece goes within a memory that there is, and carries nothing but the image's octets into its
-- range
pub record Suits (sizes : Sizes) (x q : Image) : Type 0 where
  pub size : ℕ
  pub known : size_of q.memory sizes ≡ Some size
  pub fits : q.address + length q.octets ≤ size
  pub agrees : q.memory ≡ x.memory → Agrees x (area_of q)

-- each of these pieces does
abbrev pub AllSuit : Sizes → Image → List Image → Type 0
AllSuit sizes x pieces =
    (k : ℕ) (q : Image) → slice_get pieces k ≡ Some q → Suits sizes x q

-- one of the pieces has this octet of the image
pub record Reaches (x : Image) (i : ℕ) (pieces : List Image) : Type 0 where
  pub number : ℕ
  pub piece : Image
  pub is_there : slice_get pieces number ≡ Some piece
  pub of_memory : piece.memory ≡ x.memory
  pub covers : Covers (x.address + i) (area_of piece)

-- ---- requests and their pieces

-- the request at a place, and its piece
record LoadAt (apid : ℕ) (pieces : List Image) (k : ℕ) (a : Asked) : Type 0 where
  pub piece : Image
  pub is_there : slice_get pieces k ≡ Some piece
  pub is : IsLoadOf apid piece a

load-at : (apid : ℕ) (pieces : List Image) (asked : List Asked) (k : ℕ) (a : Asked)
    → AllLoad apid pieces asked
    → slice_get asked k ≡ Some a
    → LoadAt apid pieces k a
load-at apid [] [] k a all there = absurd cc
load-at apid [] (b ∷ asked) k a all there = absurd all
load-at apid (x ∷ pieces) [] k a all there = absurd all
load-at apid (x ∷ pieces) (b ∷ asked) zero a all there =
    let same : b ≡ a = cc in
    record { piece = x; is_there = refl; is = subst (IsLoadOf apid x) same all.0 }
load-at apid (x ∷ pieces) (b ∷ asked) (suc k) a all there =
    let rest = load-at apid pieces asked k a all.1 there in
    record { piece = rest.piece; is_there = rest.is_there; is = rest.is }

-- the request of a piece
record AskedAt (apid : ℕ) (asked : List Asked) (k : ℕ) (x : Image) : Type 0 where
  pub request : Asked
  pub is_there : slice_get asked k ≡ Some request
  pub is : IsLoadOf apid x request

asked-at : (apid : ℕ) (pieces : List Image) (asked : List Asked) (k : ℕ) (x : Image)
    → AllLoad apid pieces asked
    → slice_get pieces k ≡ Some x
    → AskedAt apid asked k x
asked-at apid [] [] k x all there = absurd cc
asked-at apid [] (b ∷ asked) k x all there = absurd all
asked-at apid (y ∷ pieces) [] k x all there = absurd all
asked-at apid (y ∷ pieces) (b ∷ asked) zero x all there =
    let same : y ≡ x = cc in
    record {
      request = b;
      is_there = refl;
      is = subst (λ (z : Image). IsLoadOf apid z b) same all.0;
    }
asked-at apid (y ∷ pieces) (b ∷ asked) (suc k) x all there =
    let rest = asked-at apid pieces asked k x all.1 there in
    record { request = rest.request; is_there = rest.is_there; is = rest.is }

are-loads : (apid : ℕ) (pieces : List Image) (asked : List Asked)
    → AllLoad apid pieces asked
    → AreLoads asked
are-loads apid pieces asked all k a there = (load-at apid pieces asked k a all there).is.load

-- ---- what they mean

-- in the memories that there are, a request loads its piece
meant : (apid : ℕ) (sizes : Sizes) (x q : Image) (a : Asked)
    → IsLoadOf apid q a
    → Suits sizes x q
    → meaning apid sizes a.octets ≡ Load q.memory (area_of q ∷ [])
meant apid sizes x q a is suits = is.means sizes suits.size suits.known (suits.fits, tt)

own-true : (apid : ℕ) (sizes : Sizes) (x q : Image) (a : Asked)
    → IsLoadOf apid q a
    → Suits sizes x q
    → IsTrueTo x (meaning apid sizes a.octets)
own-true apid sizes x q a is suits =
    subst (IsTrueTo x) (sym (meant apid sizes x q a is suits)) (λ same. (suits.agrees same, tt))

-- a message that is one of them is true to the image
among-true : (apid : ℕ) (sizes : Sizes) (x : Image) (pieces : List Image) (asked : List Asked)
    (b : List ℕ)
    → AllLoad apid pieces asked
    → AllSuit sizes x pieces
    → IsAmong b (messages_of asked)
    → IsTrueTo x (meaning apid sizes b)
among-true apid sizes x pieces asked b all suit own =
    let octets = λ (a : Asked). a.octets in
    let entry = entry-of octets (slice_get asked own.0) b
    (sym (slice_get-map octets asked own.0) ∙ own.1) in
    let at = load-at apid pieces asked own.0 entry.0 all entry.1 in
    subst (λ (m : List ℕ). IsTrueTo x (meaning apid sizes m)) entry.2
    (own-true apid sizes x at.piece entry.0 at.is (suit own.0 at.piece at.is_there))

-- an octet of the image is loaded
loaded-octet : (apid : ℕ) (sizes : Sizes) (x : Image) (pieces : List Image) (asked : List Asked)
    (i : ℕ)
    → AllLoad apid pieces asked
    → AllSuit sizes x pieces
    → Reaches x i pieces
    → IsLoaded x i apid sizes (messages_of asked)
loaded-octet apid sizes x pieces asked i all suit reaches =
    let octets = λ (a : Asked). a.octets in
    let at = asked-at apid pieces asked reaches.number reaches.piece all reaches.is_there in
    let is = meant apid sizes x reaches.piece at.request at.is
    (suit reaches.number reaches.piece reaches.is_there) in
    record {
      number = reaches.number;
      request = at.request.octets;
      is_there =
          slice_get-map octets asked reaches.number ∙ ap (option_map octets) at.is_there;
      loads =
          subst (LoadsOctet x i) (sym is) (
            reaches.of_memory,
            record {
              number = 0;
              area = area_of reaches.piece;
              is_there = refl;
              covers = reaches.covers;
            },
          );
    }

-- ---- the pass

-- where a pass of an image leaves it
pub done-leaves : DoneLeavesTheImage
    → (c : Config) (first : Contents) (xs : List Move) (x : Image) (before : List ℕ)
    (terms : Terms) (pieces : List Image) (asked : List Asked) (answers : List Answer) (place : ℕ)
    → IsConfig c
    → CanMoveAll c first xs
    → content_of x.memory first ≡ Some before
    → x.address + length x.octets ≤ length before
    → terms.apid ≡ c.apid
    → AllLoad c.apid pieces asked
    → AllSuit (sizes_of first) x pieces
    → ((i : ℕ) → i < length x.octets → Reaches x i pieces)
    → AreAlone c first (came_to c first xs).ends.log x terms.source place (messages_of asked)
    → WerePutOut c first xs terms (packets_of answers)
    → next_step (come_to terms (pass_begun terms asked) answers) ≡ Stop Done
    → Stands x (came_to c first xs).ends.memories
done-leaves image c first xs x before terms pieces asked answers place config can known fits apid
    all suit reaches alone put done =
    let log = (came_to c first xs).ends.log in
    image c first xs x before place terms (pass_begun terms asked) answers config can known fits
    apid
    (are-loads c.apid pieces asked all)
    (record {
      loaded = λ i within.
          loaded-octet c.apid (sizes_of first) x pieces asked i all suit (reaches i within);
      alone = alone.alone;
      is_new = alone.is_new;
      others =
          all-behind (λ (m : List ℕ). IsTrueTo x (meaning c.apid (sizes_of first) m)) place
          (requests_executed log)
          (λ k b there from.
          elim (alone.others k b there from) [
            | inl own ↦ among-true c.apid (sizes_of first) x pieces asked b all suit own
            | inr true_to ↦ true_to
          ]);
    })
    put done
