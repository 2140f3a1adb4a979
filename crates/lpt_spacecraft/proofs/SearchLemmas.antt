-- What a search reads, and how a fault ends it.
use Rattle.std.proofs.Common.{◌≡◌, ◌⊎◌, ◌∙◌, ap, sym, subst, refl, inl, inr, ℕ, ◌≤◌, Bool, true, false, List, [], ◌++◌, length, Option, Err, append_assoc, append-nil}
use Rattle.std.specs.Io.KnownBytes.{Consumes, IsAtEnd}
use Rattle.std.proofs.KnownBytes.{Consumes-nil, Consumes-trans}
use Rattle.lpt_text.specs.Streams.{ReadFails}
use Rattle.lpt_text.specs.declared.fault.StreamFault.{StreamFault}
use Rattle.lpt_text.specs.declared.fault.StreamFault.TheVariants as faults
use Rattle.lpt_stream.specs.Buffers.{cut_of, is_ended, is_in_step, octets_held, FindsPassing, Goes}
use Rattle.lpt_stream.specs.declared.buffer.PacketBuffer.{PacketBuffer}
use Rattle.lpt_stream.specs.declared.cut.Cut.TheVariants.{Resumed}
use Rattle.lpt_spacecraft.specs.Fronts.{IsCutting, ReadsOn, SearchFails}
use Rattle.lpt_spacecraft.specs.declared.passing.Passing.{Passing}
use Rattle.lpt_spacecraft.proofs.StretchLemmas.{no-more}

-- ---- reads

-- nothing was read by what changes neither the cut nor whether the end was read
pub reads-none : (old new : PacketBuffer) (a : Option (List ℕ))
    → cut_of new ≡ cut_of old
    → is_ended new ≡ is_ended old
    → ReadsOn old new a a []
reads-none old new a cut end = record {
  consumed = Consumes-nil a;
  cut = cut;
  stays = λ e. (end ∙ e, refl);
  at_end = λ h e. h (sym end ∙ e);
}

-- more was
pub reads-more : (old mid new : PacketBuffer) (a b d : Option (List ℕ)) (read more : List ℕ)
    → ReadsOn old mid a b read
    → ReadsOn mid new b d more
    → ReadsOn old new a d (read ++ more)
reads-more old mid new a b d read more p q = record {
  consumed = Consumes-trans a b d read more p.consumed q.consumed;
  cut = q.cut ∙ p.cut;
  stays = λ e.
      let first = p.stays e in
      let next = q.stays first.0 in
      (next.0, no-more read more first.1 next.1);
  at_end = λ h e. q.at_end (p.at_end h) e;
}

-- in front of such a change, or behind it
pub reads-before : (old mid new : PacketBuffer) (a b : Option (List ℕ)) (read : List ℕ)
    → cut_of mid ≡ cut_of old
    → is_ended mid ≡ is_ended old
    → ReadsOn mid new a b read
    → ReadsOn old new a b read
reads-before old mid new a b read cut end h = reads-more old mid new a a b [] read
    (reads-none old mid a cut end) h

pub reads-then : (old mid new : PacketBuffer) (a b : Option (List ℕ)) (read : List ℕ)
    → ReadsOn old mid a b read
    → cut_of new ≡ cut_of mid
    → is_ended new ≡ is_ended mid
    → ReadsOn old new a b read
reads-then old mid new a b read h cut end =
    subst (ReadsOn old new a b) (append-nil read)
    (reads-more old mid new a b b read [] h (reads-none mid new b cut end))

-- a search for a piece read them
pub reads-goes : (old new : PacketBuffer) (a b : Option (List ℕ)) (read : List ℕ)
    → Goes old new a b read
    → ReadsOn old new a b read
reads-goes old new a b read h = record {
  consumed = h.added.consumed;
  cut = h.added.cut;
  stays = h.stays;
  at_end = h.at_end;
}

-- ---- faults

-- a fault of a search for a piece
pub search-piece : (fault : StreamFault) (old new : PacketBuffer) (a b : Option (List ℕ))
    (had failed : Bool)
    → FindsPassing (Err fault) old new a b had failed
    → SearchFails fault (octets_held old) (is_ended old) a b had failed
search-piece faults.Read old new a b had failed h = (h.0.0, h.0.1.consumed, h.0.2, inl h.1)
search-piece faults.Write old new a b had failed h =
    (h.0, h.1.added.consumed, (λ e. (h.1.stays e).1), h.2)
search-piece faults.Memory old new a b had failed h = h

-- so many octets, with those that were read in front of them
more-read : (held mid read more : List ℕ)
    → mid ≡ held ++ read
    → 18446744073709551615 ≤ length (mid ++ more)
    → 18446744073709551615 ≤ length (held ++ (read ++ more))
more-read held mid read more is h =
    subst (λ x. 18446744073709551615 ≤ length x)
    (ap (λ x. x ++ more) is ∙ append_assoc held read more) h

-- behind the stream's end nothing was
none-read : (ended now : Bool) (read more : List ℕ)
    → (ended ≡ true → (now ≡ true) × (read ≡ []))
    → (now ≡ true → more ≡ [])
    → ended ≡ true
    → read ++ more ≡ []
none-read ended now read more stays none e =
    no-more read more (stays e).1 (none (stays e).0)

-- a fault behind what was read
pub search-behind : (fault : StreamFault) (held mid : List ℕ) (ended now : Bool)
    (a b d : Option (List ℕ)) (read : List ℕ) (had told failed : Bool)
    → Consumes a b read
    → mid ≡ held ++ read
    → (ended ≡ true → (now ≡ true) × (read ≡ []))
    → told ≡ had
    → SearchFails fault mid now b d told failed
    → SearchFails fault held ended a d had failed
search-behind faults.Read held mid ended now a b d read had told failed came is stays same h = (
  read ++ h.0,
  Consumes-trans a b d read h.0 came h.1,
  none-read ended now read h.0 stays h.2,
  go h.3,
)
  where
    go : (failed ≡ true) ⊎ (18446744073709551615 ≤ length (mid ++ h.0))
        → (failed ≡ true) ⊎ (18446744073709551615 ≤ length (held ++ (read ++ h.0)))
    go (inl bad) = inl bad
    go (inr many) = inr (more-read held mid read h.0 is many)
search-behind faults.Write held mid ended now a b d read had told failed came is stays same h = (
  read ++ h.0,
  Consumes-trans a b d read h.0 came h.1,
  none-read ended now read h.0 stays h.2,
  h.3 ∙ same,
)
search-behind faults.Memory held mid ended now a b d read had told failed came is stays same h =
    (read ++ h.0, Consumes-trans a b d read h.0 came h.1, h.2 ∙ same)

-- how such a fault leaves the reader, where this holds if too many octets were read
pub search-reader : (Over : Type 0) (fault : StreamFault) (held : List ℕ) (ended : Bool)
    (a b : Option (List ℕ)) (first had failed : Bool)
    → SearchFails fault held ended a b had failed
    → had ≡ first
    → ((read : List ℕ) → Consumes a b read → 18446744073709551615 ≤ length (held ++ read) → Over)
    → ReadFails Over fault first failed
search-reader Over faults.Read held ended a b first had failed h same over = go h.3
  where
    go : (failed ≡ true) ⊎ (18446744073709551615 ≤ length (held ++ h.0))
        → (failed ≡ true) ⊎ Over
    go (inl bad) = inl bad
    go (inr many) = inr (over h.0 h.1 many)
search-reader Over faults.Write held ended a b first had failed h same over = h.3 ∙ same
search-reader Over faults.Memory held ended a b first had failed h same over = h.2 ∙ same

-- ---- a buffer

-- a new one
pub cutting-new : (p : Passing) (b : PacketBuffer) (a : Option (List ℕ))
    → cut_of b ≡ Resumed p.longest
    → is_in_step b ≡ true
    → is_ended b ≡ false
    → IsCutting p b a
cutting-new p b a cut step unended =
    record { cut_is = cut; step_is = λ off. step; ends = λ e. go (is_ended b) unended e }
  where
    go : (e : Bool) → e ≡ false → e ≡ true → IsAtEnd a
    go e is not = absurd cc

pub cutting-more : (p : Passing) (old new : PacketBuffer) (a b : Option (List ℕ)) (read : List ℕ)
    → IsCutting p old a
    → Goes old new a b read
    → IsCutting p new b
cutting-more p old new a b read h goes = record {
  cut_is = goes.added.cut ∙ h.cut_is;
  step_is = λ off. goes.added.step ∙ h.step_is off;
  ends = goes.at_end h.ends;
}

-- behind a packet
pub cutting-next : (p : Passing) (old new : PacketBuffer) (a : Option (List ℕ))
    → IsCutting p old a
    → cut_of new ≡ cut_of old
    → is_in_step new ≡ true
    → is_ended new ≡ is_ended old
    → IsCutting p new a
cutting-next p old new a h cut step end =
    record { cut_is = cut ∙ h.cut_is; step_is = λ off. step; ends = λ e. h.ends (sym end ∙ e) }
