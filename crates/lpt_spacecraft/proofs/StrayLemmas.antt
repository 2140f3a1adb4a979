-- Octets astray that are passed over, one after the other.
use Rattle.std.proofs.Common.{◌≡◌, ◌⊎◌, ◌∙◌, ap, sym, subst, inl, inr, refl, ℕ, zero, suc, ◌+◌, ◌<◌, ◌≤◌, Bool, true, false, List, [], ◌∷◌, ◌++◌, length, drop, take, Option, Some, None, Ok, Err, append-nil, append_assoc, arith, length-append, length-drop}
use Rattle.std.specs.Io.KnownBytes.{Consumes}
use Rattle.std.proofs.lemmas.List.{drop-append-le, drop-drop, length-take-le, take-append-le}
use Rattle.lpt_text.specs.declared.fault.StreamFault.{StreamFault}
use Rattle.lpt_text.specs.declared.fault.StreamFault.TheVariants as faults
use Rattle.lpt_stream.specs.Buffers.{cut_of, found_piece, is_ended, is_in_step, octets_held, FindsPassing, IsInFront}
use Rattle.lpt_stream.specs.Pieces.{LeadsBy, Piece, keeps_step, kind_by, lookahead, piece_by, size_in}
use Rattle.lpt_stream.specs.declared.buffer.PacketBuffer.{PacketBuffer}
use Rattle.lpt_stream.specs.declared.cut.Cut.{Cut}
use Rattle.lpt_stream.specs.declared.cut.Cut.TheVariants.{Resumed}
use Rattle.lpt_stream.specs.declared.found.Found.{Found}
use Rattle.lpt_stream.specs.declared.piece_kind.PieceKind.{PieceKind}
use Rattle.lpt_stream.specs.declared.piece_kind.PieceKind.TheVariants.{Whole, Damaged, Stray}
use Rattle.lpt_spacecraft.specs.Fronts.{finds_stray, PassesOver, ReadsOn, RunsTo, SearchFails}
use Rattle.lpt_spacecraft.specs.Stretches.{is_stray, strays_of, EndsStrays}
use Rattle.lpt_spacecraft.specs.declared.passing.Passing.{Passing}
use Rattle.lpt_spacecraft.proofs.StretchLemmas.{no-more}
use Rattle.lpt_spacecraft.proofs.SearchLemmas.{reads-goes, reads-more, reads-none, reads-then, search-behind}

-- ---- pieces

-- an octet that is astray
abbrev pub stray : List ℕ → Piece
stray b = record { kind = Stray; octets = b }

-- one piece more
leads-next : (cut : Cut) (s : Bool) (b : List ℕ) (ps : List Piece) (t : Bool) (c : List ℕ)
    (p : Piece)
    → LeadsBy cut s b ps t c
    → 0 < length c
    → p ≡ piece_by cut t c
    → LeadsBy cut s b (ps ++ p ∷ []) (keeps_step p.kind) (drop (length p.octets) c)
leads-next cut s b [] t c p h some is = (
  subst (λ x. 0 < length x) (sym h.1) some,
  is ∙ (λ i. piece_by cut (sym h.0 i) (sym h.1 i)),
  (refl, ap (λ x. drop (length p.octets) x) h.1),
)
leads-next cut s b (q ∷ qs) t c p h some is =
    (h.0, h.1, leads-next cut (keeps_step q.kind) (drop (length q.octets) b) qs t c p h.2 some is)

-- one octet more
strays-next : (n : ℕ) (w : List ℕ)
    → n < length w
    → strays_of (take (suc n) w) ≡ strays_of (take n w) ++ stray (take 1 (drop n w)) ∷ []
strays-next zero [] h = absurd (omega (arith, h))
strays-next zero (x ∷ w) h = refl
strays-next (suc n) [] h = absurd (omega (arith, h))
strays-next (suc n) (x ∷ w) h =
    ap (λ ps. stray (x ∷ []) ∷ ps) (strays-next n w (omega (arith, h)))

stray-kind : (k : PieceKind) → is_stray k ≡ true → k ≡ Stray
stray-kind Whole e = absurd cc
stray-kind Damaged e = absurd cc
stray-kind Stray e = refl

one-long : (b : List ℕ) → 0 < length b → length (take 1 b) ≡ 1
one-long b some = length-take-le 1 b (omega (arith, some))

-- it is an octet
stray-length : (cut : Cut) (s : Bool) (b : List ℕ) (k : PieceKind) (n : ℕ)
    → piece_by cut s b ≡ record { kind = k; octets = take n b }
    → k ≡ Stray
    → 0 < length b
    → n ≤ length b
    → n ≡ 1
unfolding piece_by
stray-length cut s b k n same is some within =
    let near = take lookahead b in
    let kind : kind_by cut s near ≡ Stray = ap (λ (p : Piece). p.kind) same ∙ is in
    let octets : take 1 b ≡ take n b =
    ap (λ (j : PieceKind). take (size_in j near) b) (sym kind)
    ∙ ap (λ (p : Piece). p.octets) same in
    sym (length-take-le n b within) ∙ ap (λ (x : List ℕ). length x) (sym octets)
    ∙ one-long b some

-- what stands in front, as it is
front-here : (b : PacketBuffer) (f : Found)
    → IsInFront b f
    → piece_by (cut_of b) (is_in_step b) (octets_held b) ≡ found_piece b f
front-here b f front =
    ap (piece_by (cut_of b) (is_in_step b)) (sym (append-nil (octets_held b)))
    ∙ front.is [] (λ e. refl)

-- so it is an octet, whatever comes
stray-there : (b : PacketBuffer) (f : Found)
    → IsInFront b f
    → is_stray f.kind ≡ true
    → (more : List ℕ) → (is_ended b ≡ true → more ≡ [])
    → piece_by (cut_of b) (is_in_step b) (octets_held b ++ more) ≡ stray (take 1 (octets_held b))
stray-there b f front astray more last =
    let kind : f.kind ≡ Stray = stray-kind f.kind astray in
    let one : f.len ≡ 1 =
    stray-length (cut_of b) (is_in_step b) (octets_held b) f.kind f.len (front-here b f front) kind
    front.some front.within in
    front.is more last
    ∙ (λ i. record { kind = kind i; octets = take (one i) (octets_held b) })

-- ---- octet after octet

-- behind the first octets that were held, so many were read, and of all the first n passed over
pub record Passes (first now : PacketBuffer) (n : ℕ) (before after : Option (List ℕ)) : Type 0
  where
    pub read : List ℕ
    pub reads : ReadsOn first now before after read
    pub within : n ≤ length (octets_held first ++ read)
    pub left : octets_held now ≡ drop n (octets_held first ++ read)
    pub leads : (more : List ℕ) → (is_ended now ≡ true → more ≡ [])
        → LeadsBy (cut_of first) (is_in_step first) ((octets_held first ++ read) ++ more)
        (strays_of (take n (octets_held first ++ read))) (is_in_step now)
        (drop n (octets_held first ++ read) ++ more)

-- none was
passes-none : (first : PacketBuffer) (a : Option (List ℕ)) → Passes first first 0 a a
passes-none first a = record {
  read = [];
  reads = reads-none first first a refl refl;
  within = omega arith;
  left = sym (append-nil (octets_held first));
  leads = λ more last. (refl, refl);
}

long : (b more : List ℕ) → 0 < length b → 0 < length (b ++ more)
long b more h = let size = length-append b more in omega (arith, h)

-- one more is passed over
passes-on : (first mid now : PacketBuffer) (f : Found) (n : ℕ) (a b : Option (List ℕ))
    → Passes first mid n a b
    → IsInFront mid f
    → is_stray f.kind ≡ true
    → octets_held now ≡ drop 1 (octets_held mid)
    → cut_of now ≡ cut_of mid
    → is_in_step now ≡ false
    → is_ended now ≡ is_ended mid
    → Passes first now (suc n) a b
passes-on first mid now f n a b h front astray is cut step end =
    let w = octets_held first ++ h.read in
    let size : length (drop n w) + n ≡ length w = length-dropped w n h.within in
    let some : 0 < length (drop n w) = subst (λ x. 0 < length x) h.left front.some in
    let next_n : n + 1 ≡ suc n = omega arith in
    let off : drop 1 (drop n w) ≡ drop (suc n) w =
    drop-drop 1 n w ∙ ap (λ k. drop k w) next_n in
    let one : Piece = stray (take 1 (drop n w)) in
    record {
      read = h.read;
      reads = reads-then first mid now a b h.read h.reads cut end;
      within = omega (arith, size, some);
      left = is ∙ ap (drop 1) h.left ∙ off;
      leads = λ more last.
          let still : is_ended mid ≡ true → more ≡ [] = λ e. last (end ∙ e) in
          let there : one ≡ piece_by (cut_of first) (is_in_step mid) (drop n w ++ more) =
          sym (ap (λ x. piece_by x (is_in_step mid) (drop n w ++ more)) (sym h.reads.cut)
          ∙ ap (λ x. piece_by (cut_of mid) (is_in_step mid) (x ++ more)) (sym h.left)
          ∙ stray-there mid f front astray more still
          ∙ ap (λ x. stray (take 1 x)) h.left) in
          let next = leads-next (cut_of first) (is_in_step first) (w ++ more)
          (strays_of (take n w)) (is_in_step mid) (drop n w ++ more) one (h.leads more still)
          (long (drop n w) more some) there in
          let rest : drop (length (take 1 (drop n w))) (drop n w ++ more)
          ≡ drop (suc n) w ++ more =
          ap (λ k. drop k (drop n w ++ more)) (one-long (drop n w) some)
          ∙ drop-append-le 1 (drop n w) more (omega (arith, some))
          ∙ ap (λ x. x ++ more) off in
          subst (λ ps. LeadsBy (cut_of first) (is_in_step first) (w ++ more) ps (is_in_step now)
          (drop (suc n) w ++ more)) (sym (strays-next n w (omega (arith, size, some))))
          (subst (λ t. LeadsBy (cut_of first) (is_in_step first) (w ++ more)
          (strays_of (take n w) ++ one ∷ []) t (drop (suc n) w ++ more)) (sym step)
          (subst (LeadsBy (cut_of first) (is_in_step first) (w ++ more)
          (strays_of (take n w) ++ one ∷ []) false) rest next));
    }
  where
    length-dropped : (w : List ℕ) (n : ℕ) → n ≤ length w → length (drop n w) + n ≡ length w
    length-dropped w n within = omega (arith, length-drop n w, within)

-- the first
pub passes-first : (first now : PacketBuffer) (f : Found) (a : Option (List ℕ))
    → IsInFront first f
    → is_stray f.kind ≡ true
    → octets_held now ≡ drop f.len (octets_held first)
    → cut_of now ≡ cut_of first
    → is_in_step now ≡ keeps_step f.kind
    → is_ended now ≡ is_ended first
    → Passes first now 1 a a
passes-first first now f a front astray left cut step end =
    let kind : f.kind ≡ Stray = stray-kind f.kind astray in
    let one : f.len ≡ 1 =
    stray-length (cut_of first) (is_in_step first) (octets_held first) f.kind f.len
    (front-here first f front) kind front.some front.within in
    passes-on first first now f 0 a a (passes-none first a) front astray
    (left ∙ ap (λ k. drop k (octets_held first)) one) cut (step ∙ ap keeps_step kind) end

-- what was read, whatever was found
read-goes : (o : Option Found) (old new : PacketBuffer) (a b : Option (List ℕ))
    (had failed : Bool)
    → FindsPassing (Ok o) old new a b had failed
    → (read : List ℕ) × ReadsOn old new a b read × (octets_held new ≡ octets_held old ++ read)
    × (is_in_step new ≡ is_in_step old) × (failed ≡ had)
read-goes None old new a b had failed h =
    (h.0, reads-goes old new a b h.0 h.1, h.1.added.behind, h.1.added.step, h.4)
read-goes (Some f) old new a b had failed h =
    (h.0, reads-goes old new a b h.0 h.1, h.1.added.behind, h.1.added.step, h.3)

pub reader-found : (o : Option Found) (old new : PacketBuffer) (a b : Option (List ℕ))
    (had failed : Bool)
    → FindsPassing (Ok o) old new a b had failed
    → failed ≡ had
reader-found o old new a b had failed h = (read-goes o old new a b had failed h).4

-- more is read
passes-read : (first mid now : PacketBuffer) (n : ℕ) (a b d : Option (List ℕ)) (more : List ℕ)
    → Passes first mid n a b
    → ReadsOn mid now b d more
    → octets_held now ≡ octets_held mid ++ more
    → is_in_step now ≡ is_in_step mid
    → Passes first now n a d
passes-read first mid now n a b d more h came is step =
    let w = octets_held first ++ h.read in
    let all : w ++ more ≡ octets_held first ++ (h.read ++ more) =
    append_assoc (octets_held first) h.read more in
    let sum : length (w ++ more) ≡ length w + length more = length-append w more in
    let left : drop n (w ++ more) ≡ drop n w ++ more = drop-append-le n w more h.within in
    record {
      read = h.read ++ more;
      reads = reads-more first mid now a b d h.read more h.reads came;
      within = subst (λ x. n ≤ length x) all (omega (arith, sum, h.within));
      left = is ∙ ap (λ x. x ++ more) h.left ∙ sym left ∙ ap (drop n) all;
      leads = λ others last.
          let was = h.leads (more ++ others)
          (λ e. no-more more others (came.stays e).1 (last (came.stays e).0)) in
          subst (λ v. LeadsBy (cut_of first) (is_in_step first) (v ++ others)
          (strays_of (take n v)) (is_in_step now) (drop n v ++ others)) all
          (subst (λ x. LeadsBy (cut_of first) (is_in_step first) x
          (strays_of (take n (w ++ more))) (is_in_step now) (drop n (w ++ more) ++ others))
          (sym (append_assoc w more others))
          (subst (λ x. LeadsBy (cut_of first) (is_in_step first) (w ++ (more ++ others))
          (strays_of (take n (w ++ more))) (is_in_step now) x)
          (sym (ap (λ x. x ++ others) left ∙ append_assoc (drop n w) more others))
          (subst (λ x. LeadsBy (cut_of first) (is_in_step first) (w ++ (more ++ others))
          (strays_of x) (is_in_step now) (drop n w ++ (more ++ others)))
          (sym (take-append-le n w more h.within))
          (subst (λ t. LeadsBy (cut_of first) (is_in_step first) (w ++ (more ++ others))
          (strays_of (take n w)) t (drop n w ++ (more ++ others))) (sym step) was))));
    }

-- both
pub passes-next : (first was mid now : PacketBuffer) (o : Option Found) (n : ℕ)
    (a b d : Option (List ℕ)) (had failed : Bool)
    → Passes first was n a b
    → FindsPassing (Ok o) was mid b d had failed
    → finds_stray o ≡ true
    → octets_held now ≡ drop 1 (octets_held mid)
    → cut_of now ≡ cut_of mid
    → is_in_step now ≡ false
    → is_ended now ≡ is_ended mid
    → Passes first now (n + 1) a d
passes-next first was mid now None n a b d had failed h found astray left cut step end = absurd cc
passes-next first was mid now (Some f) n a b d had failed h found astray left cut step end =
    let g = read-goes (Some f) was mid b d had failed found in
    let next_n : suc n ≡ n + 1 = omega arith in
    subst (λ k. Passes first now k a d) next_n
    (passes-on first mid now f n a d (passes-read first was mid n a b d g.0 h g.1 g.2 g.3)
    found.2 astray left cut step end)

-- there is an octet to pass over
pub some-there : (o : Option Found) (old new : PacketBuffer) (a b : Option (List ℕ))
    (had failed : Bool)
    → FindsPassing (Ok o) old new a b had failed
    → finds_stray o ≡ true
    → 1 ≤ length (octets_held new)
some-there None old new a b had failed h astray = absurd cc
some-there (Some f) old new a b had failed h astray = h.2.some

-- ---- how it ends

ends-strays : (p : Passing) (o : Option Found) (old new : PacketBuffer) (a b : Option (List ℕ))
    (had failed : Bool)
    → FindsPassing (Ok o) old new a b had failed
    → finds_stray o ≡ false
    → cut_of new ≡ Resumed p.longest
    → (more : List ℕ) → (is_ended new ≡ true → more ≡ [])
    → EndsStrays p (is_in_step new) (octets_held new ++ more)
ends-strays p None old new a b had failed h none cut more last =
    inl (no-more (octets_held new) more h.2 (last h.3))
ends-strays p (Some f) old new a b had failed h none cut more last =
    inr (ap (λ x. is_stray (piece_by x (is_in_step new) (octets_held new ++ more)).kind) (sym cut)
    ∙ ap (λ (q : Piece). is_stray q.kind) (h.2.is more last)
    ∙ none)

-- a packet stands behind it, or nothing at the end
pub passes-end : (p : Passing) (first was now : PacketBuffer) (o : Option Found) (n : ℕ)
    (a b d : Option (List ℕ)) (told had failed : Bool)
    → Passes first was n a b
    → cut_of first ≡ Resumed p.longest
    → 0 < n
    → had ≡ told
    → FindsPassing (Ok o) was now b d had failed
    → finds_stray o ≡ false
    → PassesOver p (Ok n) first now a d told failed
passes-end p first was now o n a b d told had failed h cut some same found none =
    let g = read-goes o was now b d had failed found in
    let k = passes-read first was now n a b d g.0 h g.1 g.2 g.3 in
    let w = octets_held first ++ k.read in (
      k.read,
      k.reads,
      k.left,
      some,
      k.within,
      (λ more last. (
        subst (λ c. LeadsBy c (is_in_step first) (w ++ more) (strays_of (take n w))
            (is_in_step now) (drop n w ++ more)) cut (k.leads more last),
        subst (λ x. EndsStrays p (is_in_step now) (x ++ more)) k.left
            (ends-strays p o was now b d had failed found none (k.reads.cut ∙ cut) more last),
      )),
      g.4 ∙ same,
    )

-- where so many octets are left of others, there are so many others
longer : (n : ℕ) (w more : List ℕ) → n ≤ length w
    → 18446744073709551615 ≤ length (drop n w ++ more)
    → 18446744073709551615 ≤ length (w ++ more)
longer n w more within many =
    let part = length-append (drop n w) more in
    let all = length-append w more in
    omega (arith, length-drop n w, part, all, many)

-- a fault behind what is left of octets is one behind them
search-all : (fault : StreamFault) (w left : List ℕ) (n : ℕ) (ended : Bool)
    (a b : Option (List ℕ)) (had failed : Bool)
    → n ≤ length w
    → left ≡ drop n w
    → SearchFails fault left ended a b had failed
    → SearchFails fault w ended a b had failed
search-all faults.Read w left n ended a b had failed within is q = (q.0, q.1, q.2, go q.3)
  where
    go : (failed ≡ true) ⊎ (18446744073709551615 ≤ length (left ++ q.0))
        → (failed ≡ true) ⊎ (18446744073709551615 ≤ length (w ++ q.0))
    go (inl bad) = inl bad
    go (inr many) =
        inr (longer n w q.0 within
        (subst (λ x. 18446744073709551615 ≤ length (x ++ q.0)) is many))
search-all faults.Write w left n ended a b had failed within is q = q
search-all faults.Memory w left n ended a b had failed within is q = q

-- a read or a write failed, or octets were lost
pub passes-fault : (fault : StreamFault) (first was : PacketBuffer) (n : ℕ)
    (a b d : Option (List ℕ)) (had told failed : Bool)
    → Passes first was n a b
    → told ≡ had
    → SearchFails fault (octets_held was) (is_ended was) b d told failed
    → SearchFails fault (octets_held first) (is_ended first) a d had failed
passes-fault fault first was n a b d had told failed h same q =
    let w = octets_held first ++ h.read in
    search-behind fault (octets_held first) w (is_ended first) (is_ended was) a b d h.read had told
    failed h.reads.consumed refl h.reads.stays same
    (search-all fault w (octets_held was) n (is_ended was) b d told failed h.within h.left q)

-- so many were passed over
pub passes-endless : (first now : PacketBuffer) (n : ℕ) (a b : Option (List ℕ))
    (had failed : Bool)
    → Passes first now n a b
    → n ≡ 18446744073709551615
    → SearchFails faults.Read (octets_held first) (is_ended first) a b had failed
passes-endless first now n a b had failed h most =
    let many : 18446744073709551615 ≤ length (octets_held first ++ h.read) =
    omega (arith, h.within, most) in
    (h.read, h.reads.consumed, (λ e. (h.reads.stays e).1), inr many)
