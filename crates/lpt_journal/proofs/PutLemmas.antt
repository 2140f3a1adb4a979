-- What holds of the packets that were put holds again after an entry that pays what it owes.
use Rattle.std.proofs.Common.{◌≡◌, ◌∙◌, ap, sym, subst, refl, ℕ, zero, suc, ◌<◌, ◌≤◌, nat_lt, Bool, true, false, ◌&&◌, inl, inr, List, [], ◌∷◌, length, map, Some, if◌then◌else◌, arith}
use Rattle.std.specs.List.{slice_get}
use Rattle.std.proofs.lemmas.Bool.Decides.{nat_tests}
use Rattle.std.proofs.lemmas.Option.{slice_get_within}
use Rattle.lpt_events.specs.declared.config.Config.{Config}
use Rattle.lpt_events.specs.Arrivals.{part_name}
use Rattle.lpt_acts.specs.Acts.{Act}
use Rattle.lpt_journal.specs.Journal.{SentPacket, Recorded, History, with_all}
use Rattle.lpt_journal.specs.Link.{sent, tag_put, tags, damages, is_damaged}
use Rattle.lpt_journal.specs.Hands.{arrival_of}
use Rattle.lpt_journal.proofs.TestLemmas.{map-with_all, IsOldOrNew, with_all_cases}
use Rattle.lpt_packet.proofs.BoolLemmas.{lt_true}
use Rattle.lpt_journal.proofs.Steps.{IsAsPut, IsSoundPut, IsSound, Owes}

-- whether a packet was damaged stays, and of a new one the entry says it
damaged_old : (h : History) (x : Recorded) (n : ℕ)
    → n < length (sent h)
    → is_damaged (x ∷ h) n ≡ is_damaged h n
damaged_old h x n old =
    ap (λ b. if b then is_damaged h n else damages x.event && nat_lt n (length (sent (x ∷ h))))
    (lt_true n (length (sent h)) old)

damaged_new : (h : History) (x : Recorded) (n : ℕ)
    → length (sent h) ≤ n
    → n < length (sent (x ∷ h))
    → is_damaged (x ∷ h) n ≡ (damages x.event && true)
damaged_new h x n fresh within =
    let none : nat_lt n (length (sent h)) ≡ false = grind (arith, nat_tests) in
    ap (λ b. if b then is_damaged h n else damages x.event && nat_lt n (length (sent (x ∷ h)))) none
    ∙ ap (λ b. damages x.event && b) (lt_true n (length (sent (x ∷ h))) within)

-- each packet is read exactly where it wasn't damaged
pub packets_step : (c : Config) (h : History) (x : Recorded) → Owes c h x → IsSound c h
    → (n : ℕ) (p : SentPacket)
    → slice_get (sent (x ∷ h)) n ≡ Some p
    → IsAsPut (is_damaged (x ∷ h) n) (arrival_of c p)
packets_step c h x owes sound n p e = go (with_all_cases (sent h) x.puts n p e) where
  as_put : (b : Bool) → IsSoundPut b c (x ∷ h) p → IsAsPut (b && true) (arrival_of c p)
  as_put true put = put
  as_put false put = put.is_read

  go : IsOldOrNew (sent h) x.puts n p
      → IsAsPut (is_damaged (x ∷ h) n) (arrival_of c p)
  go (inl old) =
      subst (λ b. IsAsPut b (arrival_of c p))
      (sym (damaged_old h x n (slice_get_within (sent h) n p old)))
      (sound.packets n p old)
  go (inr fresh) =
      let late : length (sent h) ≤ n = omega (arith, fresh.1) in
      subst (λ b. IsAsPut b (arrival_of c p))
      (sym (damaged_new h x n late (slice_get_within (sent (x ∷ h)) n p e)))
      (as_put (damages x.event) (owes.puts fresh.0 p fresh.2).sound)

-- the packets that are put have the tag of their event
puts_named : (c : Config) (e : Act) (ps : List SentPacket)
    → ((k : ℕ) (p : SentPacket)
    → slice_get ps k ≡ Some p
    → part_name (arrival_of c p) ≡ tag_put e)
    → map (λ p. tag_put e) ps ≡ map (λ p. part_name (arrival_of c p)) ps
puts_named c e [] named = refl
puts_named c e (p ∷ ps) named =
    λ i. sym (named zero p refl) i ∷ puts_named c e ps (λ k q f. named (suc k) q f) i

-- each packet has the tag of the part that it is
pub names_step : (c : Config) (h : History) (x : Recorded) → Owes c h x → IsSound c h
    → tags (x ∷ h) ≡ map (λ p. part_name (arrival_of c p)) (sent (x ∷ h))
names_step c h x owes sound =
    (λ i. with_all (sound.names i)
    (puts_named c x.event x.puts (λ k p f. (owes.puts k p f).name) i))
    ∙ sym (map-with_all (λ (p : SentPacket). part_name (arrival_of c p)) (sent h) x.puts)
