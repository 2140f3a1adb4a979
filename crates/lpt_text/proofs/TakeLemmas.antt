-- Lines that are being taken, and how that ends.
use Rattle.std.proofs.Common.{◌≡◌, ◌∙◌, ap, sym, subst, refl, inl, inr, ◌⊎◌, ℕ, ◌+◌, ◌<◌, ◌≤◌, ◌==◌, nat_lt, not, is_none, is_some, Bool, true, false, List, [], ◌∷◌, ◌++◌, length, take, drop, Option, Some, None, Result, Ok, Err, append_assoc, append-nil, ◌-◌, length-append, length-drop, take-append-drop, take_all, arith}
use Rattle.std.specs.Bool.{⊤}
use Rattle.std.specs.Int.{from_bool}
use Rattle.std.specs.Io.KnownBytes.{Appends, Consumes, IsAtEnd, Keeps}
use Rattle.std.proofs.KnownBytes.{Appends-kept, Appends-trans, Consumes-nil, Consumes-trans}
use Rattle.std.proofs.lemmas.Grind.{common_steps}
use Rattle.std.proofs.lemmas.List.{drop_all, length-take-le}
use Rattle.std.proofs.lemmas.List.Quantifiers.{position-Some}
use Rattle.lpt_text.proofs.LineLemmas.{line_end-nowhere, line_end-split}
use Rattle.lpt_text.proofs.RestLemmas.{last-piece, rest-nothing, rest-piece, rest_lines}
use Rattle.lpt_text.proofs.StreamLemmas.{part_after, part_of_front, part_whole}
use Rattle.lpt_text.specs.Lines.{octets_held, room_of, line_end, Adds, FindsLine}
use Rattle.lpt_text.specs.Reading.{EndsLine, EndsLong, IsWithin}
use Rattle.lpt_text.specs.Streams.{AppendsPart, ReadFails}
use Rattle.lpt_text.specs.Taking.{BreaksLine, IsTaken, LinesTaken, Stories, Story, TakesText, behind, failures, is_last, unless_last}
use Rattle.lpt_text.specs.TakingInside.{IsPiece, TakesPiece, piece_lines}
use Rattle.lpt_text.specs.Texts.{lines}
use Rattle.lpt_text.specs.declared.fault.StreamFault.{StreamFault}
use Rattle.lpt_text.specs.declared.fault.StreamFault.TheVariants as faults
use Rattle.lpt_text.specs.declared.lines.LineBuffer.{LineBuffer}
use Rattle.lpt_text.specs.declared.taking.Taken.{Taken}
use Rattle.lpt_text.specs.declared.taking.Taken.TheVariants.{Done, Failed, Over}

-- ---- small facts

-- all of a text, and what is behind it
take-whole : (text : List ℕ) (len : ℕ) → len ≡ length text → take len text ≡ text
take-whole text len is = take_all len text (omega (arith, is))

drop-whole : (text : List ℕ) (len : ℕ) → len ≡ length text → drop len text ≡ []
drop-whole text len is = drop_all len text (omega (arith, is))

no_octets : (text : List ℕ) → length text ≡ 0 → text ≡ []
no_octets [] none = refl
no_octets (b ∷ bs) none = absurd (omega (arith, none))

-- one text before another
behind-append : {X : Type 0} (front more : List ℕ) (s : Story X)
    → behind (front ++ more) s ≡ behind front (behind more s)
behind-append {X} front more s =
    let with_text : List ℕ → Story X = λ t. record { text = t; left = s.left } in
    ap with_text (append_assoc front more s.text)

nothing_more : (taken : Taken) → unless_last taken [] ≡ []
nothing_more Done = refl
nothing_more Failed = refl
nothing_more Over = refl

-- all are taken behind a line that isn't the last
pub goes_on : (taken : Taken) (more : List (List ℕ)) → is_last taken ≡ false
    → unless_last taken more ≡ more
goes_on Done more e = refl
goes_on Failed more e = refl
goes_on Over more e = cc

-- ---- what is taken

-- the text is lines, and where a line was taken by its front, so much of it as shows that it is too
-- long
abbrev pub IsFrontOf : (is_taken : Bool) → List ℕ → Type 0
IsFrontOf false text = EndsLine text
IsFrontOf true text = EndsLong text

any_front : (is_taken : Bool) (text : List ℕ) → IsFrontOf is_taken text → EndsLine text
    ⊎ EndsLong text
any_front false text h = inl h
any_front true text h = inr h

-- these octets were taken, and this was written; the rest that is held is still to be taken
pub record Takes {T X : Type 0} (story : Stories T X) (first t : T) (is_taken : Bool) (n failed : ℕ)
    (rest : List ℕ) (room : ℕ) (old now a b : Option (List ℕ)) : Type 0 where
  pub given : List ℕ
  pub done : List ℕ
  pub consumed : Consumes old now (given ++ rest)
  pub ends : IsFrontOf is_taken given
  pub counted : length given + (length rest + room) ≡ 16777216
  pub written : Appends a b done
  pub follows : (more : List ℕ) → story first (lines (given ++ more)) 1 0
      ≡ behind done (story t (rest_lines is_taken more) n failed)
  pub numbered : n ≤ length given + 1
  pub few : failed ≤ length given

-- nothing was read
pub takes_start : {T X : Type 0} (story : Stories T X) (first : T) (rest : List ℕ) (room : ℕ)
    (old a b : Option (List ℕ))
    → rest ≡ []
    → room ≡ 16777216
    → Appends a b []
    → Takes story first first false 1 0 rest room old old a b
takes_start story first rest room old a b none all nothing = record {
  given = [];
  done = [];
  consumed = subst (Consumes old old) (sym none) (Consumes-nil old);
  ends = inl refl;
  counted = grind (arith, common_steps, none, all);
  written = nothing;
  follows = λ more. refl;
  numbered = omega arith;
  few = omega arith;
}

-- more was read
pub takes_read : {T X : Type 0} (story : Stories T X) (first t : T) (is_taken : Bool) (n failed : ℕ)
    (before after : LineBuffer) (read : List ℕ) (old now next a b c : Option (List ℕ))
    → Takes story first t is_taken n failed (octets_held before) (room_of before) old now a b
    → Adds before after now next read []
    → Keeps b c
    → Takes story first t is_taken n failed (octets_held after) (room_of after) old next a c
takes_read story first t is_taken n failed before after read old now next a b c takes adds keeps =
    record {
      given = takes.given;
      done = takes.done;
      consumed = subst (Consumes old next)
          (ap (λ x. (takes.given ++ octets_held before) ++ x) (append-nil read)
          ∙ append_assoc takes.given (octets_held before) read
          ∙ ap (λ x. takes.given ++ x) (sym adds.behind))
          (Consumes-trans old now next (takes.given ++ octets_held before)
          (read ++ []) takes.consumed adds.consumed);
      ends = takes.ends;
      counted = grind (arith, common_steps, takes.counted, adds.counted, adds.behind);
      written = Appends-kept a b c takes.done takes.written keeps;
      follows = takes.follows;
      numbered = takes.numbered;
      few = takes.few;
    }

-- what was read is what was given and what is held
pub takes_within : {T X : Type 0} (story : Stories T X) (first t : T) (is_taken : Bool)
    (n failed : ℕ)
    (text : List ℕ) (room : ℕ) (old now a b : Option (List ℕ))
    → Takes story first t is_taken n failed text room old now a b
    → IsWithin old now
takes_within story first t is_taken n failed text room old now a b takes = (
  takes.given ++ text,
  takes.consumed,
  omega
      (arith, takes.counted, length-append takes.given text),
)

-- what a search found, and what was read for it
pub found : (place : Option ℕ) (before after : LineBuffer) (now next : Option (List ℕ))
    (was failed : Bool)
    → FindsLine (Ok place) before after now next was failed
    → (read : List ℕ) × Adds before after now next read [] × (line_end (octets_held after) ≡ place)
    × (is_none place ≡ true → IsAtEnd next ⊎ (140000 < length (octets_held after))) × (failed ≡ was)
found (Some n) before after now next was failed p = (p.0, p.1, p.2, (λ e. cc), p.4)
found None before after now next was failed p = (p.0, p.1, p.2, (λ e. p.3), p.4)

-- ---- a piece that was taken

failures_few : (taken : Taken) → failures taken ≤ 1
failures_few Done = omega arith
failures_few Failed = omega arith
failures_few Over = omega arith

more_of_one : (is_taken : Bool) → from_bool (not is_taken) ≤ 1
more_of_one true = omega arith
more_of_one false = omega arith

-- what a line end ends, or a line that is too long
piece_ends : (place : Option ℕ) (is_taken : Bool) (given text line : List ℕ) (len : ℕ)
    → IsFrontOf is_taken given
    → line_end text ≡ place
    → IsPiece place text line len
    → (is_none place ≡ true → 140000 < len)
    → IsFrontOf (is_none place) (given ++ take len text)
piece_ends (Some n) is_taken given text line len h at piece long =
    subst (λ k. EndsLine (given ++ take k text)) (sym piece.1)
    (inr (
      given ++ take n text,
      ap (λ x. given ++ x) (line_end-split text n at)
          ∙ sym (append_assoc given (take n text) (10 ∷ [])),
    ))
piece_ends None is_taken given text line len h at piece long =
    subst (λ x. EndsLong (given ++ x)) (sym (take-whole text len piece.1))
    (by_front is_taken h (subst (λ k. 140000 < k) piece.1 (long refl)))
  where
    by_front : (is_taken : Bool) → IsFrontOf is_taken given → 140000 < length text
        → EndsLong (given ++ text)
    by_front false h long = (given, text, refl, h, at, long)
    by_front true h long = (
      h.0,
      h.1 ++ text,
      ap (λ x. x ++ text) h.2 ∙ append_assoc h.0 h.1 text,
      h.3,
      line_end-nowhere h.1 text h.4 at,
      omega (arith, h.5, length-append h.1 text),
    )

-- a piece isn't empty, and lies within what is held
pub piece_size : (place : Option ℕ) (text line : List ℕ) (len : ℕ)
    → line_end text ≡ place
    → 0 < length text
    → IsPiece place text line len
    → (0 < len) × (len ≤ length text)
piece_size (Some n) text line len at some piece =
    let found = position-Some (λ b. b == 10) text n 0 at in
    (omega (arith, piece.1), omega (arith, piece.1, found.0))
piece_size None text line len at some piece = (omega (arith, piece.1), omega (arith, piece.1))

-- the next one is to be taken
pub takes_piece : {T X : Type 0} (story : Stories T X) (first t v : T) (is_taken : Bool)
    (n failed : ℕ)
    (place : Option ℕ) (text line rest : List ℕ) (len room : ℕ) (taken : Taken)
    (old now a b c : Option (List ℕ))
    → Takes story first t is_taken n failed text room old now a b
    → line_end text ≡ place
    → 0 < length text
    → IsPiece place text line len
    → (is_none place ≡ true → 140000 < len)
    → TakesPiece story is_taken t v n line taken b c
    → is_last taken ≡ false
    → rest ≡ drop len text
    → Takes story first v (is_none place) (n + from_bool (not is_taken))
    (failed + failures taken) rest room old now a c
takes_piece story first t v is_taken n failed place text line rest len room taken old now a b c
    takes at some piece long done goes is =
    let part = take len text in
    let size = piece_size place text line len at some piece in
    let cut : length part ≡ len = length-take-le len text size.1 in
    let whole : length text ≡ length part + length (drop len text) =
    ap length (sym (take-append-drop len text)) ∙ length-append part (drop len text) in
    let longer : length (takes.given ++ part) ≡ length takes.given + length part =
    length-append takes.given part in
    let left : length rest ≡ length (drop len text) = ap length is in
    record {
      given = takes.given ++ part;
      done = takes.done ++ done.0;
      consumed = subst (λ x. Consumes old now ((takes.given ++ part) ++ x)) (sym is)
          (subst (Consumes old now)
          (ap (λ x. takes.given ++ x) (sym (take-append-drop len text))
          ∙ sym (append_assoc takes.given part (drop len text)))
          takes.consumed);
      ends = piece_ends place is_taken takes.given text line len takes.ends at piece long;
      counted = omega (arith, takes.counted, whole, longer, left);
      written = Appends-trans a b c takes.done done.0 takes.written done.1;
      follows = λ more.
          ap (λ x. story first (lines x) 1 0) (append_assoc takes.given part more)
          ∙ takes.follows (part ++ more)
          ∙ ap (behind takes.done)
          (let next = rest-piece is_taken place text line len more at piece long in
          ap (λ ls. story t ls n failed) next.2
          ∙ done.2 next.0 failed (rest_lines (is_none place) more) next.1
          ∙ ap (λ ls.
          behind done.0 (story v ls (n + from_bool (not is_taken)) (failed + failures taken)))
          (goes_on taken (rest_lines (is_none place) more) goes))
          ∙ sym (behind-append takes.done done.0
          (story v (rest_lines (is_none place) more) (n + from_bool (not is_taken))
          (failed + failures taken)));
      numbered = omega (arith, takes.numbered, longer, cut, size.0, more_of_one is_taken);
      few = omega (arith, takes.few, longer, cut, size.0, failures_few taken);
    }

-- the same by what is held and counted then
pub takes_next : {T X : Type 0} (story : Stories T X) (first t v : T) (is_taken : Bool)
    (n failed : ℕ)
    (place : Option ℕ) (text line rest : List ℕ) (len room : ℕ) (taken : Taken)
    (old now a b c : Option (List ℕ)) (next_taken : Bool) (next_n next_failed next_room : ℕ)
    → Takes story first t is_taken n failed text room old now a b
    → line_end text ≡ place
    → 0 < length text
    → IsPiece place text line len
    → (is_none place ≡ true → 140000 < len)
    → TakesPiece story is_taken t v n line taken b c
    → is_last taken ≡ false
    → rest ≡ drop len text
    → next_taken ≡ is_none place
    → next_n ≡ n + from_bool (not is_taken)
    → next_failed ≡ failed + failures taken
    → next_room ≡ room
    → Takes story first v next_taken next_n next_failed rest next_room old now a c
takes_next story first t v is_taken n failed place text line rest len room taken old now a b c
    next_taken next_n next_failed next_room takes at some piece long done goes is e1 e2 e3 e4 =
    subst (λ x. Takes story first v x next_n next_failed rest next_room old now a c) (sym e1)
    (subst (λ x. Takes story first v (is_none place) x next_failed rest next_room old now a c)
    (sym e2)
    (subst (λ x.
    Takes story first v (is_none place)
    (n + from_bool (not is_taken)) x rest next_room old now a c) (sym e3)
    (subst (λ x. Takes story first v (is_none place) (n + from_bool (not is_taken))
    (failed + failures taken) rest x old now a c) (sym e4)
    (takes_piece story first t v is_taken n failed place text line rest len room taken old now a b c
    takes at some piece long done goes is))))

-- so much less is left
pub takes_smaller : (before after : LineBuffer) (read rest : List ℕ) (now next : Option (List ℕ))
    (len room : ℕ)
    → Adds before after now next read []
    → (0 < len) × (len ≤ length (octets_held after))
    → rest ≡ drop len (octets_held after)
    → room ≡ room_of after
    → length rest + room < length (octets_held before) + room_of before
takes_smaller before after read rest now next len room adds size is same =
    let grown : length (octets_held after) ≡ length (octets_held before) + length read =
    ap length adds.behind ∙ length-append (octets_held before) read in
    let left : length rest ≡ length (octets_held after) - len = ap length is
    ∙ length-drop len (octets_held after) in
    omega (arith, adds.counted, grown, left, same, size.0, size.1)

-- a place is none, by what is said of some
pub none_is : (place : Option ℕ) (none : Bool) → is_some place ≡ not none → none ≡ is_none place
none_is None true e = refl
none_is None false e = cc
none_is (Some n) true e = cc
none_is (Some n) false e = refl

-- ---- the ends

-- none is taken behind it, by who takes them
pub over_by : (over last : Bool) (X : Type 0)
    → over ≡ last
    → (last ≡ true) ⊎ X
    → (over ≡ true) ⊎ X
over_by over last X is (inl e) = inl (is ∙ e)
over_by over last X is (inr x) = inr x

-- a front part of what was read ends behind a piece
front_read : {T X : Type 0} (story : Stories T X) (first t : T) (is_taken : Bool) (n failed : ℕ)
    (place : Option ℕ) (text line : List ℕ) (len room : ℕ) (old now a b : Option (List ℕ))
    → (takes : Takes story first t is_taken n failed text room old now a b)
    → line_end text ≡ place
    → 0 < length text
    → IsPiece place text line len
    → (is_none place ≡ true → IsAtEnd now ⊎ (140000 < length text))
    → Consumes old now ((takes.given ++ take len text) ++ drop len text)
    × (((drop len text ≡ []) × IsAtEnd now)
    ⊎ (EndsLine (takes.given ++ take len text) ⊎ EndsLong (takes.given ++ take len text)))
    × (length (takes.given ++ take len text) ≤ 16777216)
front_read story first t is_taken n failed place text line len room old now a b takes at some piece
    why = (
      subst (Consumes old now)
          (ap (λ x. takes.given ++ x) (sym (take-append-drop len text))
          ∙ sym (append_assoc takes.given (take len text) (drop len text))) takes.consumed,
      front place at piece why,
      omega (
        arith,
        takes.counted,
        size.1,
        length-take-le len text size.1,
        length-append takes.given
            (take len text),
      ),
    )
  where
    size : (0 < len) × (len ≤ length text)
    size = piece_size place text line len at some piece

    front : (o : Option ℕ) → line_end text ≡ o → IsPiece o text line len
        → (is_none o ≡ true → IsAtEnd now ⊎ (140000 < length text))
        → ((drop len text ≡ []) × IsAtEnd now)
        ⊎ (EndsLine (takes.given ++ take len text) ⊎ EndsLong (takes.given ++ take len text))
    front (Some k) at piece why =
        inr (inl (piece_ends (Some k) is_taken takes.given text line len takes.ends at piece
        (λ e. cc)))
    front None at piece why = by_end (why refl)
      where
        by_end : (IsAtEnd now ⊎ (140000 < length text))
            → ((drop len text ≡ []) × IsAtEnd now)
            ⊎ (EndsLine (takes.given ++ take len text) ⊎ EndsLong (takes.given ++ take len text))
        by_end (inl at_end) = inl (drop-whole text len piece.1, at_end)
        by_end (inr long) =
            inr (inr (piece_ends None is_taken takes.given text line len takes.ends at piece
            (λ e. subst (λ k. 140000 < k) (sym piece.1) long)))

-- what the lines do up to the last piece
last_told : {T X : Type 0} (story : Stories T X) (first t : T) (is_taken : Bool) (n failed : ℕ)
    (place : Option ℕ) (text line : List ℕ) (len room : ℕ) (old now a b : Option (List ℕ))
    → (takes : Takes story first t is_taken n failed text room old now a b)
    → line_end text ≡ place
    → 0 < length text
    → IsPiece place text line len
    → story first (lines (takes.given ++ take len text)) 1 0
    ≡ behind takes.done (story t (piece_lines is_taken line []) n failed)
last_told story first t is_taken n failed place text line len room old now a b takes at some piece =
    takes.follows (take len text)
    ∙ ap (λ ls. behind takes.done (story t ls n failed))
    (last-piece is_taken place text line len at some piece)

-- the piece is the last that is taken
pub takes_last : {T X : Type 0} (story : Stories T X) (first t v : T) (is_taken : Bool)
    (n failed : ℕ)
    (place : Option ℕ) (text line : List ℕ) (len room : ℕ) (taken : Taken)
    (old now a b c : Option (List ℕ)) (over read_failed : Bool)
    → Takes story first t is_taken n failed text room old now a b
    → line_end text ≡ place
    → 0 < length text
    → IsPiece place text line len
    → (is_none place ≡ true → IsAtEnd now ⊎ (140000 < length text))
    → TakesPiece story is_taken t v n line taken b c
    → ((over ≡ true) ⊎ ((is_none place ≡ true) × (len ≤ 140000)))
    → LinesTaken story first v over (Ok (failed + failures taken)) old now a c read_failed
takes_last story first t v is_taken n failed place text line len room taken old now a b c over
    read_failed takes at some piece why done ends =
    by_over over ends
  where
    given : List ℕ
    given = takes.given ++ take len text

    front : Consumes old now ((takes.given ++ take len text) ++ drop len text)
        × (((drop len text ≡ []) × IsAtEnd now)
        ⊎ (EndsLine (takes.given ++ take len text) ⊎ EndsLong (takes.given ++ take len text)))
        × (length (takes.given ++ take len text) ≤ 16777216)
    front = front_read story first t is_taken n failed place text line len room old now a b takes at
        some piece why

    told : TakesText story first v (takes.given ++ take len text) (failed + failures taken) a c
    told = (
      n + from_bool (not is_taken),
      takes.done ++ done.0,
      last_told story first t is_taken n failed place text line len room old now a b takes at some
          piece
          ∙ ap (behind takes.done)
          (ap (λ l. story t (piece_lines is_taken l []) n failed) (sym (append-nil line))
          ∙ done.2 [] failed [] (inl refl)
          ∙ ap (λ ls.
          behind done.0 (story v ls (n + from_bool (not is_taken)) (failed + failures taken)))
          (nothing_more taken))
          ∙ sym (behind-append takes.done done.0
          (story v [] (n + from_bool (not is_taken)) (failed + failures taken))),
      Appends-trans a b c takes.done done.0 takes.written done.1,
    )

    at_end : (o : Option ℕ) → IsPiece o text line len
        → (is_none o ≡ true → IsAtEnd now ⊎ (140000 < length text))
        → is_none o ≡ true → len ≤ 140000 → IsAtEnd now × (len ≡ length text)
    at_end (Some k) piece why none short = cc
    at_end None piece why none short = (by_end (why refl), piece.1)
      where
        by_end : (IsAtEnd now ⊎ (140000 < length text)) → IsAtEnd now
        by_end (inl p) = p
        by_end (inr long) = absurd (omega (arith, piece.1, short))

    by_over : (over : Bool) → ((over ≡ true) ⊎ ((is_none place ≡ true) × (len ≤ 140000)))
        → LinesTaken story first v over (Ok (failed + failures taken)) old now a c read_failed
    by_over true ends =
        (takes.given ++ take len text, drop len text, front.0, front.1, front.2, told)
    by_over false (inl e) = cc
    by_over false (inr e) =
        let whole = at_end place piece why e.0 e.1 in (
          takes.given ++ take len text,
          subst (λ x. Consumes old now (takes.given ++ x))
              (sym (take-whole text len whole.1)) takes.consumed,
          whole.0,
          front.2,
          told,
        )

-- nothing is held, and no more comes
pub takes_nothing : {T X : Type 0} (story : Stories T X) (first t : T) (is_taken : Bool)
    (n failed : ℕ)
    (place : Option ℕ) (text : List ℕ) (room : ℕ) (old now a b : Option (List ℕ))
    (over read_failed : Bool)
    → Takes story first t is_taken n failed text room old now a b
    → line_end text ≡ place
    → length text ≡ 0
    → (is_none place ≡ true → IsAtEnd now ⊎ (140000 < length text))
    → over ≡ false
    → LinesTaken story first t over (Ok failed) old now a b read_failed
takes_nothing story first t is_taken n failed place text room old now a b over read_failed takes at
    none why going =
    subst (λ o. LinesTaken story first t o (Ok failed) old now a b read_failed) (sym going)
    (by_place place at why)
  where
    by_place : (o : Option ℕ) → line_end text ≡ o
        → (is_none o ≡ true → IsAtEnd now ⊎ (140000 < length text))
        → LinesTaken story first t false (Ok failed) old now a b read_failed
    by_place (Some k) at why =
        let found = position-Some (λ b. b == 10) text k 0 at in
        absurd (omega (arith, found.0, none))
    by_place None at why = (
      takes.given ++ text,
      takes.consumed,
      by_end (why refl),
      omega (arith, takes.counted, length-append takes.given text),
      (
        n,
        takes.done,
        takes.follows text
            ∙ ap (λ x. behind takes.done (story t (rest_lines is_taken x) n failed))
            (no_octets text none)
            ∙ ap (λ ls. behind takes.done (story t ls n failed)) (rest-nothing is_taken),
        takes.written,
      ),
    )
      where
        by_end : (IsAtEnd now ⊎ (140000 < length text)) → IsAtEnd now
        by_end (inl p) = p
        by_end (inr long) = absurd (omega (arith, none))

-- a piece could not be taken
pub takes_broken : {T X : Type 0} (story : Stories T X) (first t v : T) (is_taken : Bool)
    (n failed : ℕ)
    (place : Option ℕ) (fault : StreamFault) (text line : List ℕ) (len room : ℕ)
    (old now a b c : Option (List ℕ)) (over read_failed : Bool)
    → Takes story first t is_taken n failed text room old now a b
    → line_end text ≡ place
    → 0 < length text
    → IsPiece place text line len
    → (is_none place ≡ true → IsAtEnd now ⊎ (140000 < length text))
    → (is_taken ≡ false) × BreaksLine story t n line b c
    → (fault ≡ faults.Write) ⊎ (fault ≡ faults.Memory)
    → LinesTaken story first v over (Err fault) old now a c read_failed
takes_broken story first t v is_taken n failed place fault text line len room old now a b c over
    read_failed takes at some piece why breaks which =
    by_fault which
  where
    front : Consumes old now ((takes.given ++ take len text) ++ drop len text)
        × (((drop len text ≡ []) × IsAtEnd now)
        ⊎ (EndsLine (takes.given ++ take len text) ⊎ EndsLong (takes.given ++ take len text)))
        × (length (takes.given ++ take len text) ≤ 16777216)
    front = front_read story first t is_taken n failed place text line len room old now a b takes at
        some piece why

    told : story first (lines (takes.given ++ take len text)) 1 0
        ≡ behind takes.done (story t (line ∷ []) n failed)
    told =
        last_told story first t is_taken n failed place text line len room old now a b takes at some
        piece
        ∙ ap (λ x. behind takes.done (story t (piece_lines x line []) n failed)) breaks.0

    part : AppendsPart a c (story first (lines (takes.given ++ take len text)) 1 0).text
    part =
        subst (AppendsPart a c) (sym (ap (λ s. s.text) told))
        (part_after a b c takes.done (story t (line ∷ []) n failed).text takes.written
        (breaks.1 failed []))

    by_fault : (fault ≡ faults.Write) ⊎ (fault ≡ faults.Memory)
        → LinesTaken story first v over (Err fault) old now a c read_failed
    by_fault (inl e) =
        subst (λ f. LinesTaken story first v over (Err f) old now a c read_failed) (sym e)
        (takes.given ++ take len text, drop len text, front.0, front.1, front.2, part)
    by_fault (inr e) =
        subst (λ f. LinesTaken story first v over (Err f) old now a c read_failed) (sym e)
        (takes.given ++ take len text, drop len text, front.0, front.1, front.2, part)

-- no more could be read, or what was written could not be passed on
pub takes_cut : {T X : Type 0} (story : Stories T X) (first t : T) (is_taken : Bool) (n failed : ℕ)
    (before after : LineBuffer) (fault : StreamFault) (old now next a b c : Option (List ℕ))
    (over was read_failed : Bool)
    → Takes story first t is_taken n failed (octets_held before) (room_of before) old now a b
    → FindsLine (Err fault) before after now next was read_failed
    → Keeps b c
    → over ≡ false
    → LinesTaken story first t over (Err fault) old next a c read_failed
takes_cut story first t is_taken n failed before after fault old now next a b c over was read_failed
    takes finds keeps going =
    by_fault fault finds
  where
    all : story first (lines takes.given) 1 0 ≡ behind takes.done (story t [] n failed)
    all =
        ap (λ x. story first (lines x) 1 0) (sym (append-nil takes.given)) ∙ takes.follows []
        ∙ ap (λ ls. behind takes.done (story t ls n failed)) (rest-nothing is_taken)

    written : Appends a c takes.done
    written = Appends-kept a b c takes.done takes.written keeps

    part : AppendsPart a c (story first (lines takes.given) 1 0).text
    part =
        subst (AppendsPart a c) (sym (ap (λ s. s.text) all))
        (part_of_front a c takes.done (story t [] n failed).text
        (part_whole a c takes.done written))

    behind_held : (lost : List ℕ) → Consumes now next lost
        → Consumes old next (takes.given ++ (octets_held before ++ lost))
    behind_held lost p =
        subst (Consumes old next) (append_assoc takes.given (octets_held before) lost)
        (Consumes-trans old now next (takes.given ++ octets_held before) lost takes.consumed p)

    by_fault : (fault : StreamFault) → FindsLine (Err fault) before after now next was read_failed
        → LinesTaken story first t over (Err fault) old next a c read_failed
    by_fault faults.Write q = (
      takes.given,
      octets_held before ++ q.0,
      behind_held q.0 q.1,
      inr
          (any_front is_taken takes.given takes.ends),
      omega (arith, takes.counted),
      part,
    )
    by_fault faults.Memory q = (
      takes.given,
      octets_held before ++ q.0,
      behind_held q.0 q.1,
      inr
          (any_front is_taken takes.given takes.ends),
      omega (arith, takes.counted),
      part,
    )
    by_fault faults.Read q =
        let grown : length (octets_held after) ≡ length (octets_held before) + length q.0 =
        ap length q.2.behind ∙ length-append (octets_held before) q.0 in (
          going,
          (
            takes.given,
            octets_held after,
            q.1,
            subst (Consumes old next)
                (append_assoc takes.given (octets_held before) (q.0 ++ q.1)
                ∙ ap (λ x. takes.given ++ x) (sym (append_assoc (octets_held before) q.0 q.1)
                ∙ ap (λ x. x ++ q.1) (sym q.2.behind)))
                (Consumes-trans old now next (takes.given ++ octets_held before)
                (q.0 ++ q.1) takes.consumed q.2.consumed),
            any_front is_taken takes.given takes.ends,
            q.3,
            q.4,
            omega (arith, takes.counted, grown, q.2.counted),
            cut grown q.5,
            (failed, (n, takes.done, all, written)),
          ),
        )
      where
        cut : length (octets_held after) ≡ length (octets_held before) + length q.0
            → (((q.1 ≡ []) × (read_failed ≡ true))
            ⊎ ((room_of after ≡ 0) × (0 < length q.1) × (read_failed ≡ was)))
            → (((q.1 ≡ []) × (read_failed ≡ true))
            ⊎ ((length takes.given + length (octets_held after) ≡ 16777216) × (0 < length q.1)))
        cut grown (inl p) = inl p
        cut grown (inr p) = inr (omega (arith, takes.counted, grown, q.2.counted, p.0), p.1)

-- a fault of a search leaves the reader as it was, unless it is of a read
pub cut_reader : (fault : StreamFault) (before after : LineBuffer) (now next : Option (List ℕ))
    (was first failed : Bool)
    → FindsLine (Err fault) before after now next was failed
    → was ≡ first
    → ReadFails ⊤ fault first failed
cut_reader faults.Read before after now next was first failed p e = inr tt
cut_reader faults.Write before after now next was first failed p e = p.2 ∙ e
cut_reader faults.Memory before after now next was first failed p e = p.2 ∙ e

-- a taker's fault doesn't come of a read
pub taker_reader : (fault : StreamFault) (first failed : Bool)
    → (fault ≡ faults.Write) ⊎ (fault ≡ faults.Memory)
    → failed ≡ first
    → ReadFails ⊤ fault first failed
taker_reader fault first failed (inl e) same = subst (λ f. ReadFails ⊤ f first failed) (sym e) same
taker_reader fault first failed (inr e) same = subst (λ f. ReadFails ⊤ f first failed) (sym e) same
