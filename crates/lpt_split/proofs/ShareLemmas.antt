-- What is wanted of messages, and of one more.
use Rattle.std.proofs.Common.{◌≡◌, ◌∙◌, ap, sym, subst, refl, ℕ, ◌+◌, ◌==◌, ◌<◌, if◌then◌else◌, List, [], ◌∷◌, ◌++◌, length, drop, get_or, Some, append-nil, append_assoc, arith}
use Rattle.std.proofs.lemmas.List.{drop_more}
use Rattle.std.proofs.lemmas.List.Concat.{flat_map-append}
use Rattle.lpt_capture.specs.Captures.{record_of}
use Rattle.lpt_split.specs.declared.form.Form.{Form}
use Rattle.lpt_split.specs.declared.form.Form.TheVariants.{Plain, Capture}
use Rattle.lpt_split.specs.Forms.{packets_in}
use Rattle.lpt_split.specs.declared.each_wanted.EachWanted.{EachWanted}
use Rattle.lpt_split.specs.declared.pick.Pick.{Pick}
use Rattle.lpt_split.specs.Shares.{list_of, AreAll, ArePackets}

-- the pick at a place, and those behind it
pub list-at : (ps : List Pick) (i : ℕ) (p : Pick) (id : ℕ)
    → i < length ps
    → p ≡ get_or ps i p
    → list_of (drop i ps) id
    ≡ (if p.id == id then Some p.parts.now else list_of (drop (i + 1) ps) id)
list-at ps i p id h is =
    ap (λ (qs : List Pick). list_of qs id)
    (drop_more ps i p h ∙ ap (λ (q : Pick). q ∷ drop (i + 1) ps) (sym is))

-- packets of two lists
pub packets-append : (form : Form) (time : ℕ) (xs ys : List (List ℕ))
    → packets_in form time (xs ++ ys) ≡ packets_in form time xs ++ packets_in form time ys
packets-append Plain time xs ys = flat_map-append (λ b. b) xs ys
packets-append Capture time xs ys = flat_map-append (record_of time) xs ys

one-further : (id : ℕ) (x : List ℕ) (xs : List (List ℕ)) → id + length (x ∷ xs) ≡ id + 1 + length xs
one-further id x xs = omega arith

-- the packets of one message more stand behind the others
pub all-more : (w : EachWanted) (id count : ℕ) (ms : List (List ℕ)) (m : List ℕ) (next behind : ℕ)
    (packets mine : List (List ℕ))
    → AreAll w id count ms next packets
    → ArePackets w (id + length ms) next m behind mine
    → AreAll w id count (ms ++ m ∷ []) behind (packets ++ mine)
all-more w id count [] m next behind packets mine h one = (
  behind,
  mine,
  [],
  subst (λ (k : ℕ). ArePackets w id k m behind mine) h.0
      (subst (λ (n : ℕ). ArePackets w n next m behind mine) (omega arith) one),
  (refl, refl),
  ap (λ l. l ++ mine) h.1 ∙ sym (append-nil mine),
)
all-more w id count (x ∷ xs) m next behind packets mine (after, first, others, is, rest, all) one = (
  after,
  first,
  others ++ mine,
  is,
  all-more w (id + 1) after xs m next behind others mine rest
      (subst (λ (n : ℕ). ArePackets w n next m behind mine) (one-further id x xs) one),
  ap (λ l. l ++ mine) all ∙ append_assoc first others mine,
)
