-- What is in front of a stream that is cut by lengths.
use Rattle.std.proofs.Common.{◌≡◌, ◌∙◌, ap, sym, refl, subst, ℕ, zero, suc, ◌+◌, ◌<◌, ◌≤◌, ◌&&◌, Bool, true, false, if◌then◌else◌, None, Some, List, [], ◌∷◌, ◌++◌, length, take, drop, Option, Ok, arith, append-nil, length-take, length-take-le, take-append-drop}
use Rattle.lpt_packet.specs.Numbers.{word_at}
use Rattle.lpt_packet.proofs.BoolLemmas.{and_left, and_right}
use Rattle.lpt_stream.specs.Buffers.{cut_of, found_piece, is_in_step, octets_held, FindsPassing, Goes, IsInFront}
use Rattle.lpt_stream.specs.Pieces.{Piece, begins_by, is_framed, is_version, keeps_step, lookahead, piece_by, size_in}
use Rattle.lpt_stream.specs.declared.buffer.PacketBuffer.{PacketBuffer}
use Rattle.lpt_stream.specs.declared.cut.Cut.TheVariants.{Framed}
use Rattle.lpt_stream.specs.declared.found.Found.{Found}
use Rattle.lpt_stream.specs.declared.piece_kind.PieceKind.{PieceKind}
use Rattle.lpt_stream.specs.declared.piece_kind.PieceKind.TheVariants.{Whole, Damaged, Stray}
use Rattle.lpt_stream.proofs.PieceLemmas.{framed_fits, of_kind}
use Rattle.lpt_stream.proofs.StreamLemmas.{word_at-front}
use Rattle.lpt_lossy.specs.Frames.{IsFrame, packet_as, packet_in}

-- ---- the reader

-- what a search read, whatever it found
pub found-goes : (front : Option Found) (old new : PacketBuffer) (a b : Option (List ℕ))
    (had failed : Bool)
    → FindsPassing (Ok front) old new a b had failed
    → (read : List ℕ) × Goes old new a b read × (failed ≡ had)
found-goes None old new a b had failed h = (h.0, h.1, h.4)
found-goes (Some f) old new a b had failed h = (h.0, h.1, h.3)

-- it cuts by lengths, in step
pub record IsCutting (b : PacketBuffer) : Type 0 where
  pub cut_is : cut_of b ≡ Framed
  pub step_is : is_in_step b ≡ true

pub cutting-more : (old new : PacketBuffer) (a b : Option (List ℕ)) (read : List ℕ)
    → IsCutting old
    → Goes old new a b read
    → IsCutting new
cutting-more old new a b read h goes = record {
  cut_is = goes.added.cut ∙ h.cut_is;
  step_is = goes.added.step ∙ h.step_is;
}

-- behind a packet
pub cutting-next : (old new : PacketBuffer) (f : Found)
    → IsCutting old
    → f.kind ≡ Whole
    → cut_of new ≡ cut_of old
    → is_in_step new ≡ keeps_step f.kind
    → IsCutting new
cutting-next old new f h whole cut step =
    record { cut_is = cut ∙ h.cut_is; step_is = step ∙ ap keeps_step whole }

-- what is in front of it, as the stream stands
in-front : (p : PacketBuffer) (f : Found) → IsCutting p → IsInFront p f
    → piece_by Framed true (octets_held p ++ []) ≡ found_piece p f
in-front p f h front =
    sym (ap (λ c. piece_by c (is_in_step p) (octets_held p ++ [])) h.cut_is
    ∙ ap (λ s. piece_by Framed s (octets_held p ++ [])) h.step_is)
    ∙ front.is [] (λ e. refl)

-- ---- lengths

-- a kind, by whether a packet begins
abbrev kind_framed : (begun : Bool) → PieceKind
kind_framed t = if t then Whole else if true && false then Damaged else Stray

begun-whole : (t : Bool) → kind_framed t ≡ Whole → t ≡ true
begun-whole true h = refl
begun-whole false h = absurd cc

as-whole : (k : PieceKind) (f g : Found) → packet_as k f ≡ Some g → (k ≡ Whole) × (f ≡ g)
as-whole Whole f g e = (refl, cc)
as-whole Damaged f g e = absurd cc
as-whole Stray f g e = absurd cc

-- the version stands in the first octet
version-taken : (n : ℕ) (b : List ℕ) → 0 < n → is_version (take n b) ≡ is_version b
version-taken zero b h = absurd (omega arith)
version-taken (suc n) [] h = refl
version-taken (suc n) (x ∷ b) h = refl

-- and the length in the first six
length-taken : (n : ℕ) (b : List ℕ) → 6 ≤ length (take n b) → word_at (take n b) 4 ≡ word_at b 4
length-taken n b h =
    sym (word_at-front (take n b) (drop n b) h) ∙ ap (λ x. word_at x 4) (take-append-drop n b)

-- ---- a packet in front

pub record HasPacket (b : List ℕ) (len : ℕ) : Type 0 where
  pub within : len ≤ length b
  pub least : 7 ≤ len
  pub frame : IsFrame (take len b)

sized : (b : List ℕ) (n m : ℕ) → n ≤ length b → m ≤ length b → take n b ≡ take m b → n ≡ m
sized b n m hn hm e =
    sym (length-take-le n b hn) ∙ ap (λ (x : List ℕ). length x) e ∙ length-take-le m b hm

has-packet : (b : List ℕ) (n : ℕ)
    → (is_version (take lookahead b) && is_framed (take lookahead b)) ≡ true
    → n ≤ length b
    → take (7 + word_at (take lookahead b) 4) b ≡ take n b
    → HasPacket b n
has-packet b n begun within e =
    let near = take lookahead b in
    let fits = framed_fits near (and_right (is_version near) (is_framed near) begun) in
    let size = length-take lookahead b in
    let len : 7 + word_at near 4 ≡ n =
    sized b (7 + word_at near 4) n (omega (arith, fits, size)) within e in
    let long = length-take-le n b within in
    let word : word_at (take n b) 4 ≡ word_at near 4 =
    length-taken n b (omega (arith, long, len))
    ∙ sym (length-taken lookahead b (omega (arith, fits))) in
    record {
      within = within;
      least = omega (arith, len);
      frame = record {
        framed = record {
          headed = omega (arith, long, len);
          whole = long ∙ sym len ∙ ap (λ w. 7 + w) (sym word);
        };
        version = version-taken n b (omega (arith, len))
            ∙ sym (version-taken lookahead b (omega arith))
            ∙ and_left (is_version near) (is_framed near) begun;
      };
    }

begun-there : (b : List ℕ) (k : PieceKind) (n : ℕ)
    → piece_by Framed true (b ++ []) ≡ of_kind k (take n b)
    → k ≡ Whole
    → n ≤ length b
    → HasPacket b n
unfolding piece_by
begun-there b k n e whole within =
    let same = ap (piece_by Framed true) (sym (append-nil b)) ∙ e in
    let begun : begins_by Framed true (take lookahead b) ≡ true =
    begun-whole (begins_by Framed true (take lookahead b)) (ap (λ (p : Piece). p.kind) same ∙ whole)
    in
    has-packet b n begun within
    (sym (ap (λ t. take (size_in (kind_framed t) (take lookahead b)) b) begun)
    ∙ ap (λ (p : Piece). p.octets) same)

pub front-packet : (front : Option Found) (f : Found) (old new : PacketBuffer)
    (a b : Option (List ℕ)) (had failed : Bool)
    → packet_in front ≡ Some f
    → FindsPassing (Ok front) old new a b had failed
    → IsCutting old
    → (f.kind ≡ Whole) × HasPacket (octets_held new) f.len
front-packet None f old new a b had failed is h cutting = absurd cc
front-packet (Some g) f old new a b had failed is h cutting =
    let now = cutting-more old new a b h.0 cutting h.1 in
    let one = as-whole g.kind g f is in
    subst (λ (f : Found). (f.kind ≡ Whole) × HasPacket (octets_held new) f.len) one.1 (
      one.0,
      begun-there (octets_held new) g.kind g.len (in-front new g now h.2) one.0 h.2.within,
    )
