-- Packets heard again, one after the other.
use Rattle.std.proofs.Common.{◌≡◌, ◌∙◌, ap, sym, refl, ℕ, List, [], ◌∷◌, ◌++◌, append-nil, append_assoc, map}
use Rattle.std.specs.List.{AllByRecursion}
use Rattle.lpt_stream.specs.Streams.{IsFramed, all_octets}
use Rattle.lpt_ground.specs.declared.asked.Terms.{Terms}
use Rattle.lpt_ground.specs.Carrying.{Came, state_answered, come_to}
use Rattle.lpt_ground.specs.Passes.{PassState}

octets-append : (xs : List (List ℕ)) (y : List ℕ)
    → all_octets (xs ++ y ∷ []) ≡ all_octets xs ++ y
octets-append [] y = append-nil y
octets-append (x ∷ xs) y =
    ap (λ (l : List ℕ). x ++ l) (octets-append xs y) ∙ sym (append_assoc x (all_octets xs) y)

framed-append : (xs : List (List ℕ)) (y : List ℕ)
    → AllByRecursion IsFramed xs
    → IsFramed y
    → AllByRecursion IsFramed (xs ++ y ∷ [])
framed-append [] y all one = (one, tt)
framed-append (x ∷ xs) y all one = (all.0, framed-append xs y all.1 one)

heard-append : (terms : Terms) (s : PassState) (xs : List (List ℕ)) (y : List ℕ)
    → come_to terms s (map Came (xs ++ y ∷ []))
    ≡ state_answered terms (come_to terms s (map Came xs)) (Came y)
heard-append terms s [] y = refl
heard-append terms s (x ∷ xs) y = heard-append terms (state_answered terms s (Came x)) xs y

-- a pass has heard the packets in front of the rest
pub record HeardSo (terms : Terms) (s t : PassState) (octets rest : List ℕ) : Type 0 where
  pub packets : List (List ℕ)
  pub cut : octets ≡ all_octets packets ++ rest
  pub framed : AllByRecursion IsFramed packets
  pub came : t ≡ come_to terms s (map Came packets)

pub heard-none : (terms : Terms) (s : PassState) (octets : List ℕ) → HeardSo terms s s octets octets
heard-none terms s octets = record { packets = []; cut = refl; framed = tt; came = refl }

pub heard-more : (terms now : Terms) (s t u : PassState) (octets rest front behind : List ℕ)
    → now ≡ terms
    → HeardSo terms s t octets rest
    → rest ≡ front ++ behind
    → IsFramed front
    → u ≡ state_answered now t (Came front)
    → HeardSo terms s u octets behind
heard-more terms now s t u octets rest front behind same h cut one came = record {
  packets = h.packets ++ front ∷ [];
  cut =
      h.cut ∙ ap (λ (l : List ℕ). all_octets h.packets ++ l) cut
      ∙ sym (append_assoc (all_octets h.packets) front behind)
      ∙ ap (λ (l : List ℕ). l ++ behind) (sym (octets-append h.packets front));
  framed = framed-append h.packets front h.framed one;
  came =
      came ∙ ap (λ (q : Terms). state_answered q t (Came front)) same
      ∙ ap (λ (m : PassState). state_answered terms m (Came front)) h.came
      ∙ sym (heard-append terms s h.packets front);
}
