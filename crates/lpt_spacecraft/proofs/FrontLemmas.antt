-- What stands in front of a stream, as a search finds it.
use Rattle.std.proofs.Common.{◌≡◌, ◌∙◌, ap, sym, subst, refl, inl, inr, ℕ, ◌<◌, ◌≤◌, ◌&&◌, Bool, true, false, List, [], ◌∷◌, ◌++◌, length, take, drop, Option, Some, None, Ok, append_assoc, length-append, arith}
use Rattle.std.proofs.lemmas.List.{drop-append-le, length-take-le, take-append-drop}
use Rattle.lpt_packet.proofs.BoolLemmas.{and_left, and_right}
use Rattle.lpt_stream.specs.Buffers.{cut_of, found_piece, is_ended, is_in_step, octets_held, FindsPassing, IsInFront}
use Rattle.lpt_stream.specs.Pieces.{LeadsBy, Piece, is_awaited, keeps_step, piece_by, up_to_limit}
use Rattle.lpt_stream.specs.Streams.{length_at}
use Rattle.lpt_stream.specs.declared.buffer.PacketBuffer.{PacketBuffer}
use Rattle.lpt_stream.specs.declared.cut.Cut.TheVariants.{Resumed}
use Rattle.lpt_stream.specs.declared.found.Found.{Found}
use Rattle.lpt_stream.specs.declared.piece_kind.PieceKind.{PieceKind}
use Rattle.lpt_stream.specs.declared.piece_kind.PieceKind.TheVariants.{Whole, Damaged, Stray}
use Rattle.lpt_spacecraft.specs.Fronts.{FindsFront, IsCutting, PassesOver, StandsSo}
use Rattle.lpt_spacecraft.specs.Streams.{IsNotTaken, StopsAt}
use Rattle.lpt_spacecraft.specs.Stretches.{Passed, is_stray, is_taken, strays_of}
use Rattle.lpt_spacecraft.specs.declared.front.Front.{Front}
use Rattle.lpt_spacecraft.specs.declared.front.Front.TheVariants as fronts
use Rattle.lpt_spacecraft.specs.declared.passing.Passing.{Passing}
use Rattle.lpt_spacecraft.specs.declared.stop.Stop.TheVariants as stops
use Rattle.lpt_spacecraft.proofs.SearchLemmas.{cutting-more, reads-goes, reads-more, reads-then}

apart : (t : Bool) → t ≡ true → t ≡ false → ⊥
apart t h k = cc

-- ---- a piece

-- a piece in front, as it leads on, whatever comes
leads-one : (p : Passing) (b : PacketBuffer) (a : Option (List ℕ)) (f : Found) (k : PieceKind)
    → IsCutting p b a
    → IsInFront b f
    → f.kind ≡ k
    → (more : List ℕ) → (is_ended b ≡ true → more ≡ [])
    → LeadsBy (Resumed p.longest) (is_in_step b) (octets_held b ++ more)
    (record { kind = k; octets = take f.len (octets_held b) } ∷ []) (keeps_step k)
    (drop f.len (octets_held b) ++ more)
leads-one p b a f k h front is more last =
    let size = length-append (octets_held b) more in
    let some = front.some in (
      omega (arith, some, size),
      sym (ap (λ c. piece_by c (is_in_step b) (octets_held b ++ more)) (sym h.cut_is)
          ∙ front.is more last
          ∙ (λ i. record { kind = is i; octets = take f.len (octets_held b) })),
      (
        refl,
        ap (λ n. drop n (octets_held b ++ more)) (length-take-le f.len (octets_held b) front.within)
            ∙ drop-append-le f.len (octets_held b) more front.within,
      ),
    )

behind-front : (n : ℕ) (b more : List ℕ) → b ++ more ≡ take n b ++ (drop n b ++ more)
behind-front n b more =
    ap (λ x. x ++ more) (sym (take-append-drop n b)) ∙ append_assoc (take n b) (drop n b) more

-- what is taken is in step
taken-step : (p : Passing) (k : PieceKind) (b : List ℕ) → is_taken p k b ≡ true
    → keeps_step k ≡ true
taken-step p Whole b e = refl
taken-step p Damaged b e = refl
taken-step p Stray b e = absurd cc

-- what is known of it, as it is held
pub taken-as : (p : Passing) (k : PieceKind) (n : ℕ) (was now : List ℕ) (r v : Bool)
    → r ≡ is_taken p k (take n was)
    → was ≡ now
    → r ≡ v
    → is_taken p k (take n now) ≡ v
taken-as p k n was now r v says is h =
    ap (λ x. is_taken p k (take n x)) (sym is) ∙ sym says ∙ h

-- ---- what is in front

-- nothing, at the end of the stream
pub front-end : (p : Passing) (place : ℕ) (old new : PacketBuffer) (a b : Option (List ℕ))
    (had failed : Bool)
    → IsCutting p old a
    → FindsPassing (Ok None) old new a b had failed
    → FindsFront p place (Ok (fronts.Stop stops.End)) old new a b had failed
front-end p place old new a b had failed cutting h =
    let now = cutting-more p old new a b h.0 cutting h.1 in (
      h.0,
      reads-goes old new a b h.0 h.1,
      now,
      (λ n at. (sym h.1.added.behind ∙ h.2, now.ends h.3)),
      h.4,
    )

-- a packet
pub front-packet : (p : Passing) (place : ℕ) (f : Found) (old new : PacketBuffer)
    (a b : Option (List ℕ)) (had failed : Bool)
    → IsCutting p old a
    → FindsPassing (Ok (Some f)) old new a b had failed
    → is_taken p f.kind (take f.len (octets_held new)) ≡ true
    → FindsFront p place (Ok (fronts.Packet f.len)) old new a b had failed
front-packet p place f old new a b had failed cutting h taken =
    let now = cutting-more p old new a b h.0 cutting h.1 in
    let held = octets_held new in (
      h.0,
      reads-goes old new a b h.0 h.1,
      now,
      (
        h.1.added.behind,
        h.2.within,
        (λ more last. record {
          pieces = record { kind = f.kind; octets = take f.len held } ∷ [];
          are = (f.kind, refl, taken);
          leads = subst (λ s. LeadsBy (Resumed p.longest) s (held ++ more)
              (record { kind = f.kind; octets = take f.len held } ∷ []) true
              (drop f.len held ++ more)) h.1.added.step
              (subst (λ t. LeadsBy (Resumed p.longest) (is_in_step new) (held ++ more)
              (record { kind = f.kind; octets = take f.len held } ∷ []) t
              (drop f.len held ++ more)) (taken-step p f.kind (take f.len held) taken)
              (leads-one p new b f f.kind now h.2 refl more last));
          whole = behind-front f.len held more;
        }),
      ),
      h.3,
    )

-- one that is cut off
pub front-cut : (p : Passing) (place : ℕ) (said : Option ℕ) (f : Found) (old new : PacketBuffer)
    (a b : Option (List ℕ)) (had failed : Bool)
    → IsCutting p old a
    → FindsPassing (Ok (Some f)) old new a b had failed
    → said ≡ length_at (octets_held new)
    → (is_ended new && is_awaited p.longest (octets_held new)) ≡ true
    → FindsFront p place (Ok (fronts.Stop (stops.Cut place said))) old new a b had failed
front-cut p place said f old new a b had failed cutting h says off =
    let now = cutting-more p old new a b h.0 cutting h.1 in (
      h.0,
      reads-goes old new a b h.0 h.1,
      now,
      (λ n at. subst (λ rest. StopsAt p (stops.Cut place said) n rest b) h.1.added.behind (
        at,
        says,
        h.2.some,
        and_right (is_ended new) (is_awaited p.longest (octets_held new)) off,
        now.ends (and_left (is_ended new) (is_awaited p.longest (octets_held new)) off),
      )),
      h.3,
    )

-- in step, as it isn't taken, whatever comes
not-there : (p : Passing) (b : PacketBuffer) (a : Option (List ℕ)) (f : Found)
    → IsCutting p b a
    → IsInFront b f
    → p.is_on ≡ false
    → is_taken p f.kind (take f.len (octets_held b)) ≡ false
    → IsNotTaken p (octets_held b) a
not-there p b a f h front off other =
    λ more last.
    let there : piece_by (Resumed p.longest) true (octets_held b ++ more) ≡ found_piece b f =
    ap (λ c. piece_by c true (octets_held b ++ more)) (sym h.cut_is)
    ∙ ap (λ s. piece_by (cut_of b) s (octets_held b ++ more)) (sym (h.step_is off))
    ∙ front.is more (λ e. last (h.ends e)) in
    ap (λ (q : Piece). is_taken p q.kind q.octets) there ∙ other

-- what is no packet, before which the stream stops
pub front-stray : (p : Passing) (place : ℕ) (said : Option ℕ) (f : Found)
    (old new : PacketBuffer) (a b : Option (List ℕ)) (had failed : Bool)
    → IsCutting p old a
    → FindsPassing (Ok (Some f)) old new a b had failed
    → said ≡ length_at (octets_held new)
    → is_taken p f.kind (take f.len (octets_held new)) ≡ false
    → p.is_on ≡ false
    → FindsFront p place (Ok (fronts.Stop (stops.Stray place said))) old new a b had failed
front-stray p place said f old new a b had failed cutting h says other off =
    let now = cutting-more p old new a b h.0 cutting h.1 in (
      h.0,
      reads-goes old new a b h.0 h.1,
      now,
      (λ n at. subst (λ rest. StopsAt p (stops.Stray place said) n rest b) h.1.added.behind
          (at, says, off, not-there p new b f now h.2 off other)),
      h.3,
    )

damaged-kind : (p : Passing) (k : PieceKind) (b : List ℕ) → is_taken p k b ≡ false
    → is_stray k ≡ false
    → k ≡ Damaged
damaged-kind p Whole b h e = absurd cc
damaged-kind p Damaged b h e = refl
damaged-kind p Stray b h e = absurd cc

-- or which was passed over as a damaged packet
pub front-damaged : (p : Passing) (place : ℕ) (f : Found) (old mid new : PacketBuffer)
    (a b : Option (List ℕ)) (had failed : Bool)
    → IsCutting p old a
    → FindsPassing (Ok (Some f)) old mid a b had failed
    → is_taken p f.kind (take f.len (octets_held mid)) ≡ false
    → p.is_on ≡ true
    → is_stray f.kind ≡ false
    → octets_held new ≡ drop f.len (octets_held mid)
    → cut_of new ≡ cut_of mid
    → is_in_step new ≡ keeps_step f.kind
    → is_ended new ≡ is_ended mid
    → FindsFront p place (Ok (fronts.Strays f.len)) old new a b had failed
front-damaged p place f old mid new a b had failed cutting h other on whole held cut step end =
    let now = cutting-more p old mid a b h.0 cutting h.1 in
    let all = octets_held old ++ h.0 in
    let kind : f.kind ≡ Damaged =
    damaged-kind p f.kind (take f.len (octets_held mid)) other whole in
    let was : octets_held mid ≡ all = h.1.added.behind in
    let within : f.len ≤ length all = subst (λ x. f.len ≤ length x) was h.2.within in
    let size = length-take-le f.len all within in
    let some = h.2.least in (
      h.0,
      reads-then old mid new a b h.0 (reads-goes old mid a b h.0 h.1) cut end,
      record {
        cut_is = cut ∙ now.cut_is;
        step_is = λ off. absurd (apart p.is_on on off);
        ends = λ e. now.ends (sym end ∙ e);
      },
      (
        held ∙ ap (drop f.len) was,
        within,
        (λ more last. record {
          pieces = record { kind = Damaged; octets = take f.len all } ∷ [];
          are = (on, omega (arith, size, some), inl refl);
          leads = subst (λ x. LeadsBy (Resumed p.longest) (is_in_step old) (x ++ more)
              (record { kind = Damaged; octets = take f.len x } ∷ []) (is_in_step new)
              (drop f.len x ++ more)) was
              (subst (λ s. LeadsBy (Resumed p.longest) s (octets_held mid ++ more)
              (record { kind = Damaged; octets = take f.len (octets_held mid) } ∷ [])
              (is_in_step new) (drop f.len (octets_held mid) ++ more)) h.1.added.step
              (subst (λ t. LeadsBy (Resumed p.longest) (is_in_step mid) (octets_held mid ++ more)
              (record { kind = Damaged; octets = take f.len (octets_held mid) } ∷ []) t
              (drop f.len (octets_held mid) ++ more)) (sym (step ∙ ap keeps_step kind))
              (leads-one p mid b f Damaged now h.2 kind more (λ e. last (end ∙ e)))));
          whole = behind-front f.len all more;
        }),
      ),
      h.3,
    )

-- or as octets astray
pub front-strays : (p : Passing) (place len : ℕ) (f : Found) (old mid new : PacketBuffer)
    (a b d : Option (List ℕ)) (had told failed : Bool)
    → IsCutting p old a
    → FindsPassing (Ok (Some f)) old mid a b had told
    → p.is_on ≡ true
    → PassesOver p (Ok len) mid new b d told failed
    → FindsFront p place (Ok (fronts.Strays len)) old new a d had failed
front-strays p place len f old mid new a b d had told failed cutting h on run =
    let now = cutting-more p old mid a b h.0 cutting h.1 in
    let w = octets_held mid ++ run.0 in
    let all : w ≡ octets_held old ++ (h.0 ++ run.0) =
    ap (λ x. x ++ run.0) h.1.added.behind ∙ append_assoc (octets_held old) h.0 run.0 in
    let size = length-take-le len w run.4 in
    let some = run.3 in
    let stands : StandsSo p (is_in_step mid) (is_ended new) w (Passed (take len w)) (is_in_step new)
    (drop len w) =
    λ more last.
    let led = run.5 more last in
    record {
      pieces = strays_of (take len w);
      are = (on, omega (arith, size, some), inr (refl, led.1));
      leads = led.0;
      whole = behind-front len w more;
    } in (
      h.0 ++ run.0,
      reads-more old mid new a b d h.0 run.0 (reads-goes old mid a b h.0 h.1) run.1,
      record {
        cut_is = run.1.cut ∙ now.cut_is;
        step_is = λ off. absurd (apart p.is_on on off);
        ends = run.1.at_end now.ends;
      },
      (
        run.2 ∙ ap (drop len) all,
        subst (λ x. len ≤ length x) all run.4,
        subst (λ s. StandsSo p s (is_ended new) (octets_held old ++ (h.0 ++ run.0))
            (Passed (take len (octets_held old ++ (h.0 ++ run.0)))) (is_in_step new)
            (drop len (octets_held old ++ (h.0 ++ run.0)))) h.1.added.step
            (subst (λ x. StandsSo p (is_in_step mid) (is_ended new) x (Passed (take len x))
            (is_in_step new) (drop len x)) all stands),
      ),
      run.6 ∙ h.3,
    )

-- what a search gave
pub front-as : (p : Passing) (place : ℕ) (given was : Front) (old new : PacketBuffer)
    (a b : Option (List ℕ)) (had failed : Bool)
    → was ≡ given
    → FindsFront p place (Ok was) old new a b had failed
    → FindsFront p place (Ok given) old new a b had failed
front-as p place given was old new a b had failed is h =
    subst (λ (f : Front). FindsFront p place (Ok f) old new a b had failed) is h
