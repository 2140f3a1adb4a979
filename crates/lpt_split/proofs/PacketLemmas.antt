-- The packets of parts, one behind the other, in a form.
use Rattle.std.proofs.Common.{◌≡◌, ◌∙◌, inl, inr, ap, sym, subst, refl, ℕ, ◌+◌, ◌<◌, List, [], ◌∷◌, ◌++◌, length, drop, get_or, append-nil, append_assoc, add-one, drop-cons}
use Rattle.lpt_capture.specs.Captures.{record_of}
use Rattle.lpt_layout.specs.declared.fault.LayoutFault.{LayoutFault}
use Rattle.lpt_split.specs.declared.form.Form.{Form}
use Rattle.lpt_split.specs.declared.form.Form.TheVariants.{Plain, Capture}
use Rattle.lpt_split.specs.declared.writing.Writing.{Writing}
use Rattle.lpt_split.specs.Forms.{front_in, packet_in, packets_in}
use Rattle.lpt_split.specs.Packets.{nth, packet_of, packets_of, AreMade, FirstFault, IsMade, WhyNot}
use Rattle.lpt_split.specs.Splits.{AreNumbers, next_count, written_in}

-- ---- forms

-- what is written is the front and the packets
pub written-front : (form : Form) (time : ℕ) (packets : List (List ℕ))
    → front_in form ++ packets_in form time packets ≡ written_in form time packets
written-front Plain time packets = refl
written-front Capture time packets = refl

-- a packet, and those behind it
packets-cons : (form : Form) (time : ℕ) (b : List ℕ) (packets : List (List ℕ))
    → packets_in form time (b ∷ packets) ≡ packet_in form time b ++ packets_in form time packets
packets-cons Plain time b packets = refl
packets-cons Capture time b packets = refl

-- one packet
pub packets-one : (form : Form) (time : ℕ) (p : List ℕ)
    → packet_in form time p ≡ packets_in form time (p ∷ [])
packets-one Plain time p = sym (append-nil p)
packets-one Capture time p = sym (append-nil (record_of time p))

-- ---- parts

-- the numbers from a place on are the one there and those behind it
numbers-from : (ns : List ℕ) (i : ℕ)
    → i < length ns
    → drop i ns ≡ get_or ns i 0 ∷ drop (i + 1) ns
numbers-from ns i h = rw (add-one, drop-cons ns i 0) refl

-- the numbers behind the one at a place
pub numbers-next : (parts : ℕ) (ns : List ℕ) (i : ℕ)
    → i < length ns
    → AreNumbers parts (drop i ns)
    → AreNumbers parts (drop (i + 1) ns)
numbers-next parts ns i h are =
    let split : AreNumbers parts (get_or ns i 0 ∷ drop (i + 1) ns) =
    subst (AreNumbers parts) (numbers-from ns i h) are in
    split.1

module _ (w : Writing) (id : ℕ) (m ns : List ℕ) (i count next : ℕ) (less : i < length ns)
    (is : next ≡ next_count count) where
  -- with one packet more
  pub put-more : (octets then packet all : List ℕ)
      → packet ≡ packet_of w count (nth w id m (get_or ns i 0))
      → then ≡ octets ++ packet_in w.form w.clock packet
      → octets ++ packets_in w.form w.clock (packets_of w id m count (drop i ns)) ≡ all
      → then ++ packets_in w.form w.clock (packets_of w id m next (drop (i + 1) ns)) ≡ all
  put-more octets then packet all one more h =
      let rest : List (List ℕ) = packets_of w id m (next_count count) (drop (i + 1) ns) in
      (λ j. more j ++ packets_in w.form w.clock (packets_of w id m (is j) (drop (i + 1) ns)))
      ∙ append_assoc octets (packet_in w.form w.clock packet) (packets_in w.form w.clock rest)
      ∙ ap (λ (b : List ℕ). octets ++ b) (sym (packets-cons w.form w.clock packet rest))
      ∙ ap (λ (b : List ℕ). octets ++ packets_in w.form w.clock (b ∷ rest)) one
      ∙ sym (ap (λ (ks : List ℕ). octets
      ++ packets_in w.form w.clock (packets_of w id m count ks)) (numbers-from ns i less))
      ∙ h

  -- one packet was made, so all from there on are, where those behind it are
  pub all-more : IsMade w count (nth w id m (get_or ns i 0))
      → AreMade w id m next (drop (i + 1) ns)
      → AreMade w id m count (drop i ns)
  all-more made rest =
      let behind : AreMade w id m (next_count count) (drop (i + 1) ns) =
      subst (λ n. AreMade w id m n (drop (i + 1) ns)) is rest in
      subst (AreMade w id m count) (sym (numbers-from ns i less)) (made, behind)

  -- and the first that can't be is behind it
  pub fault-more : (e : LayoutFault)
      → IsMade w count (nth w id m (get_or ns i 0))
      → FirstFault w id m next (drop (i + 1) ns) e
      → FirstFault w id m count (drop i ns) e
  fault-more e made rest =
      let behind : FirstFault w id m (next_count count) (drop (i + 1) ns) e =
      subst (λ n. FirstFault w id m n (drop (i + 1) ns) e) is rest in
      subst (λ ks. FirstFault w id m count ks e) (sym (numbers-from ns i less)) (inr (made, behind))

-- one couldn't be made
pub fault-here : (w : Writing) (id : ℕ) (m ns : List ℕ) (i count : ℕ) (e : LayoutFault)
    → i < length ns
    → WhyNot w count (nth w id m (get_or ns i 0)) e
    → FirstFault w id m count (drop i ns) e
fault-here w id m ns i count e less why =
    subst (λ ks. FirstFault w id m count ks e) (sym (numbers-from ns i less)) (inl why)
