-- A stream of which each packet is split, message after message.
use Rattle.std.proofs.Common.{◌≡◌, ◌⊎◌, ◌∙◌, ap, sym, subst, refl, inl, inr, ℕ, ◌+◌, ◌-◌, ◌^◌, ◌<◌, ◌≤◌, min, Bool, true, false, if◌then◌else◌, Ok, List, [], ◌∷◌, ◌++◌, length, map, take, drop, Option, Some, length-append, append-nil, arith}
use Rattle.std.specs.Io.KnownBytes.{Appends, Consumes, IsAtEnd, Keeps}
use Rattle.std.proofs.KnownBytes.{Appends-kept, Appends-nil, Appends-trans, Consumes-nil, Consumes-trans}
use Rattle.std.proofs.lemmas.List.{flat_map_more, length-take-le, map_push}
use Rattle.lpt_packet.specs.Numbers.{IsOctets}
use Rattle.lpt_split.specs.declared.form.Form.{Form}
use Rattle.lpt_split.specs.declared.form.Form.TheVariants.{Plain, Capture}
use Rattle.lpt_split.specs.declared.split_end.SplitEnd.{SplitEnd}
use Rattle.lpt_split.specs.declared.writing.Writing.{Writing}
use Rattle.lpt_split.specs.Forms.{packets_in}
use Rattle.lpt_stream.specs.Buffers.{cut_of, found_piece, is_ended, is_in_step, octets_held, FindsPassing, Goes, IsInFront}
use Rattle.lpt_stream.specs.declared.buffer.PacketBuffer.{PacketBuffer}
use Rattle.lpt_stream.specs.declared.cut.Cut.TheVariants.{Framed}
use Rattle.lpt_stream.specs.declared.found.Found.{Found}
use Rattle.lpt_stream.specs.declared.piece_kind.PieceKind.TheVariants.{Whole}
use Rattle.lpt_stream.specs.Pieces.{Piece, LeadsBy, is_version, keeps_step, piece_by, up_to_limit}
use Rattle.lpt_stream.specs.Streams.{all_octets}
use Rattle.lpt_stream.proofs.BufferLemmas.{finds_as}
use Rattle.lpt_stream.proofs.CutLemmas.{IsRead, read-leads, read-more, read-next, read-none}
use Rattle.lpt_stream.proofs.PieceLemmas.{of_kind}
use Rattle.lpt_split.specs.declared.each_wanted.EachWanted.{EachWanted}
use Rattle.lpt_split.specs.declared.ending.EachEnd.{EachEnd}
use Rattle.lpt_split.specs.declared.ending.EachSplit.{EachSplit}
use Rattle.lpt_split.specs.declared.ending.EachEnd.TheVariants as ends
use Rattle.lpt_split.specs.declared.one.One.{One}
use Rattle.lpt_split.specs.declared.one.One.TheVariants as ones
use Rattle.lpt_split.specs.MessagesEach.{AreMessages, IsMessage}
use Rattle.lpt_split.specs.Shares.{AreAll, ArePackets, WritesOne}
use Rattle.lpt_split.specs.Streams.{identifiers, whole, EndsAt, IsNext}
use Rattle.lpt_split.specs.StreamsInside.{EndsBefore, MakesPackets}
use Rattle.lpt_split.proofs.FrameLemmas.{front-last}
use Rattle.lpt_split.proofs.ShareLemmas.{all-more, packets-append}

-- these pieces are packets
abbrev pub AreWhole : List (List ℕ) → List Piece → Type 0
AreWhole packets ps = ps ≡ map whole packets

-- what is wanted of the messages that came was written, and behind them stands what is held
pub record IsHere (w : EachWanted) (b : PacketBuffer) (before after old new : Option (List ℕ))
    (next count place : ℕ) : Type 0 where
  pub stream : List ℕ
  pub many : ℕ
  pub messages : List (List ℕ)
  pub packets : List (List ℕ)
  pub consumed : Consumes before after stream
  pub read : IsRead Framed (AreWhole messages) b stream many
  pub step : is_in_step b ≡ true
  pub ended : is_ended b ≡ true → IsAtEnd after
  pub fit : AreMessages w.writing messages
  pub all : AreAll w w.id w.first messages count packets
  pub writes : Appends old new (packets_in w.writing.form w.writing.clock packets)
  pub next_is : next ≡ w.id + length messages
  pub place_is : place ≡ up_to_limit (length (all_octets messages))

-- no packets
none-in : (form : Form) (time : ℕ) → packets_in form time [] ≡ []
none-in Plain time = refl
none-in Capture time = refl

-- one message more
fit-more : (w : Writing) (ms : List (List ℕ)) (m : List ℕ)
    → AreMessages w ms
    → IsMessage w m
    → AreMessages w (ms ++ m ∷ [])
fit-more w [] m all one = (one, tt)
fit-more w (x ∷ xs) m all one = (all.0, fit-more w xs m all.1 one)

open-yet : (e : Bool) → e ≡ false → e ≡ true → ⊥
open-yet e is h = cc

module _ (w : EachWanted) where
  -- none came
  pub here-none : (b : PacketBuffer) (a old : Option (List ℕ))
      → octets_held b ≡ []
      → cut_of b ≡ Framed
      → is_in_step b ≡ true
      → is_ended b ≡ false
      → IsHere w b a a old old w.id w.first 0
  here-none b a old none by step more = record {
    stream = [];
    many = 0;
    messages = [];
    packets = [];
    consumed = Consumes-nil a;
    read = read-none Framed (AreWhole []) b refl none by step;
    step = step;
    ended = λ e. absurd (open-yet (is_ended b) more e);
    fit = tt;
    all = (refl, refl);
    writes = subst (Appends old old) (sym (none-in w.writing.form w.writing.clock))
        (Appends-nil old);
    next_is = omega arith;
    place_is = refl;
  }

  -- with more read behind, after all that was written was passed on
  pub here-more : (x y : PacketBuffer) (a b d old new passed : Option (List ℕ)) (read : List ℕ)
      (next count place : ℕ)
      → IsHere w x a b old new next count place
      → Goes x y b d read
      → Keeps new passed
      → IsHere w y a d old passed next count place
  here-more x y a b d old new passed read next count place h goes kept = record {
    stream = h.stream ++ read;
    many = h.many;
    messages = h.messages;
    packets = h.packets;
    consumed = Consumes-trans a b d h.stream read h.consumed goes.added.consumed;
    read = read-more Framed (AreWhole h.messages) x y b d h.stream read h.many h.read goes;
    step = goes.added.step ∙ h.step;
    ended = goes.at_end h.ended;
    fit = h.fit;
    all = h.all;
    writes = Appends-kept old new passed _ h.writes kept;
    next_is = h.next_is;
    place_is = h.place_is;
  }

  -- with a piece in front
  pub here-front : {given : Option Found} {f : Found} {x y : PacketBuffer}
      {a b d old new passed : Option (List ℕ)} {had failed : Bool} {next count place : ℕ}
      → given ≡ Some f
      → FindsPassing (Ok given) x y b d had failed
      → IsHere w x a b old new next count place
      → Keeps new passed
      → IsHere w y a d old passed next count place × IsInFront y f × (failed ≡ had)
  here-front is finds h kept =
      let found = finds_as _ _ _ _ _ _ _ _ is finds in
      (here-more _ _ _ _ _ _ _ _ found.0 _ _ _ h found.1 kept, found.2, found.3)

  place-next : (ms : List (List ℕ)) (m : List ℕ) (at further len : ℕ)
      → at ≡ up_to_limit (length (all_octets ms))
      → length m ≡ len
      → further ≡ min (at + len) (2 ^ 64 - 1)
      → further ≡ up_to_limit (length (all_octets (ms ++ m ∷ [])))
  place-next ms m at further len is size placed =
      let sum : length (all_octets (ms ++ m ∷ [])) ≡ length (all_octets ms) + length m =
      ap length (sym (flat_map_more (λ b. b) [] ms m)) ∙ length-append (all_octets ms) m in
      omega arith

  -- what became of the message in front, which is the next
  at-next : (id next count : ℕ) (octets m : List ℕ) (one other : One) (old new : Option (List ℕ))
      → id ≡ next
      → octets ≡ m
      → one ≡ other
      → WritesOne w id count octets one old new
      → WritesOne w next count m other old new
  at-next id next count octets m one other old new same is was h =
      subst (λ (o : One). WritesOne w next count m o old new) was
      (subst (λ (n : ℕ). WritesOne w n count m one old new) same
      (subst (λ (b : List ℕ). WritesOne w id count b one old new) is h))

  -- and with the message in front written
  pub here-next : (b now : PacketBuffer) (f : Found) (a d old between new : Option (List ℕ))
      (octets : List ℕ) (id next count place behind further later : ℕ) (one : One)
      → IsHere w b a d old between next count place
      → IsInFront b f
      → f.kind ≡ Whole
      → IsMessage w.writing octets
      → octets ≡ take f.len (octets_held b)
      → id ≡ next
      → one ≡ ones.Written behind
      → WritesOne w id count octets one between new
      → further ≡ min (place + f.len) (2 ^ 64 - 1)
      → later ≡ next + 1
      → octets_held now ≡ drop f.len (octets_held b)
      → cut_of now ≡ cut_of b
      → is_in_step now ≡ keeps_step f.kind
      → is_ended now ≡ is_ended b
      → IsHere w now a d old new later behind further
  here-next b now f a d old between new octets id next count place behind further later one h front
      kind fits is same was wrote placed onward left by step end =
      let m = take f.len (octets_held b) in
      let ms = h.messages in
      let at = at-next id next count octets m one (ones.Written behind) between new same is was wrote
      in
      let piece : found_piece b f ≡ whole m = ap (λ k. of_kind k m) kind in
      record {
        stream = h.stream;
        many = h.many + 1;
        messages = ms ++ m ∷ [];
        packets = h.packets ++ at.0;
        consumed = h.consumed;
        read = read-next Framed (AreWhole ms) (AreWhole (ms ++ m ∷ [])) b now f h.stream h.many
            h.read front left by step end
            ((λ i. h.read.gives i ++ piece i ∷ []) ∙ sym (map_push whole ms m));
        step = step ∙ ap keeps_step kind;
        ended = λ e. h.ended (sym end ∙ e);
        fit = fit-more w.writing ms m h.fit (subst (IsMessage w.writing) is fits);
        all = all-more w w.id w.first ms m count behind h.packets at.0 h.all
            (subst (λ (n : ℕ). ArePackets w n count m behind at.0) h.next_is at.1);
        writes = subst (Appends old new)
            (sym (packets-append w.writing.form w.writing.clock h.packets at.0))
            (Appends-trans old between new _ _ h.writes at.3);
        next_is = omega (arith, onward, h.next_is, length-append ms (m ∷ []));
        place_is = place-next ms m place further f.len h.place_is
            (length-take-le f.len (octets_held b) front.within) placed;
      }

-- ---- how it ends

module _ (w : EachWanted) (b : PacketBuffer) (a d old new : Option (List ℕ)) (next count place : ℕ)
    (h : IsHere w b a d old new next count place) where
  -- it stopped there
  pub here-stop : (s : EachSplit) (end : EachEnd)
      → s ≡ record { next = next; end = end }
      → EndsAt w next count (length (all_octets h.messages)) end (octets_held b) d
      → MakesPackets w (Ok s) a d old new
  here-stop s end is at =
      let r = h.read in
      let leads = read-leads Framed (AreWhole h.messages) b h.stream h.many r in
      subst (λ (t : EachSplit). MakesPackets w (Ok t) a d old new) (sym is) (
        h.stream,
        h.messages,
        octets_held b,
        h.consumed,
        subst (λ ps. LeadsBy Framed true h.stream ps true (octets_held b)) r.gives
            (subst (λ t. LeadsBy Framed true h.stream r.pieces t (octets_held b)) h.step leads),
        h.fit,
        (h.next_is, (count, h.packets, h.all, at, h.writes)),
      )

  -- at the stream's end
  pub here-end : (s : EachSplit)
      → s ≡ record { next = next; end = ends.End }
      → octets_held b ≡ []
      → is_ended b ≡ true
      → MakesPackets w (Ok s) a d old new
  here-end s is none end = here-stop s ends.End is (none, h.ended end)

  -- the piece in front, whatever comes behind
  in-front : (f : Found) (more : List ℕ)
      → IsInFront b f
      → (is_ended b ≡ true → more ≡ [])
      → piece_by Framed true (octets_held b ++ more) ≡ found_piece b f
  in-front f more front over =
      sym (λ i. piece_by (h.read.is i) (h.step i) (octets_held b ++ more)) ∙ front.is more over

  none-ends : (f : Found) (len : ℕ) (version : Bool)
      → is_version (octets_held b) ≡ version
      → place ≡ up_to_limit len
      → IsInFront b f
      → (f.kind ≡ Whole → ⊥)
      → IsOctets (octets_held b)
      → EndsAt w next count len (if version then ends.Cut place else ends.Stray place)
      (octets_held b) d
  none-ends f len false version is front other octets = (is, version)
  none-ends f len true version is front other octets =
      let last =
      front-last (octets_held b) (is_ended b) octets front.some version
      (λ more over k. other (sym (ap (λ (p : Piece). p.kind) (in-front f more front over)) ∙ k)) in
      (is, last.0, h.ended last.1)

  -- a packet is in front
  next-front : (f : Found)
      → IsInFront b f
      → f.kind ≡ Whole
      → IsNext (take f.len (octets_held b)) (octets_held b)
  next-front f front kind =
      let held = octets_held b in
      let m = take f.len held in
      let piece : found_piece b f ≡ whole m = ap (λ k. of_kind k m) kind in
      let is : piece_by Framed true held ≡ whole m =
      ap (piece_by Framed true) (sym (append-nil held)) ∙ in-front f [] front (λ e. refl) ∙ piece
      in
      (drop (length m) held, (front.some, sym is, (refl, refl)))

  which : (n k id : ℕ) → k ≤ n → (n ≤ k) ⊎ (n ≡ id) → (n ≡ k) ⊎ (n ≡ id)
  which n k id over (inl few) = inl (omega (arith, over, few))
  which n k id over (inr is) = inr is

  ends-before : (end : EachEnd) (f : Found) (len : ℕ)
      → place ≡ up_to_limit len
      → IsInFront b f
      → (next ≤ identifiers w) ⊎ (next ≡ w.id)
      → EndsBefore w next place f.kind (take f.len (octets_held b)) (octets_held b) end
      → EndsAt w next count len end (octets_held b) d
  ends-before end f len is front most (inl (other, octets, ends_so)) =
      subst (λ e. EndsAt w next count len e (octets_held b) d) (sym ends_so)
      (none-ends f len (is_version (octets_held b)) refl is front other octets)
  ends-before end f len is front most (inr (kind, inl (over, ends_so))) =
      subst (λ e. EndsAt w next count len e (octets_held b) d) (sym ends_so) (
        is,
        over,
        which next (identifiers w) w.id over most,
        (take f.len (octets_held b), next-front f front kind),
      )
  ends-before end f len is front most (inr (kind, inr (under, unfit, ends_so))) =
      subst (λ e. EndsAt w next count len e (octets_held b) d) (sym ends_so)
      (is, under, (take f.len (octets_held b), next-front f front kind, unfit))

  -- before the piece in front
  pub here-before : (s : EachSplit) (end : EachEnd) (f : Found) (held : List ℕ)
      → s ≡ record { next = next; end = end }
      → held ≡ octets_held b
      → IsInFront b f
      → (next ≤ identifiers w) ⊎ (next ≡ w.id)
      → EndsBefore w next place f.kind (take f.len held) held end
      → MakesPackets w (Ok s) a d old new
  here-before s end f held is same front most before =
      here-stop s end is
      (ends-before end f (length (all_octets h.messages)) h.place_is front most
      (subst (λ x. EndsBefore w next place f.kind (take f.len x) x end) same before))

  -- the message in front isn't split
  pub here-refused : (s : EachSplit) (end : SplitEnd) (f : Found) (octets : List ℕ) (id : ℕ)
      (one : One) (after : Option (List ℕ))
      → s ≡ record { next = next; end = ends.Unsplit end }
      → IsInFront b f
      → f.kind ≡ Whole
      → next < identifiers w
      → IsMessage w.writing octets
      → octets ≡ take f.len (octets_held b)
      → id ≡ next
      → one ≡ ones.Unsplit end
      → WritesOne w id count octets one new after
      → MakesPackets w (Ok s) a d old after
  here-refused s end f octets id one after is front kind under fits octets_are same was wrote =
      let m = take f.len (octets_held b) in
      let at = at-next w id next count octets m one (ones.Unsplit end) new after same octets_are was
      wrote in
      subst (λ (x : Option (List ℕ)). MakesPackets w (Ok s) a d old x) (sym at.1)
      (here-stop s (ends.Unsplit end) is
      (under, (m, next-front f front kind, subst (IsMessage w.writing) octets_are fits, at.0)))
