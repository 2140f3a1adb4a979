-- Runs of the spacecraft's moves, one behind the other.
use Rattle.std.proofs.Common.{◌≡◌, ◌∙◌, ap, sym, subst, refl, ℕ, List, [], ◌∷◌, ◌++◌, Option, Some, None, append_assoc}
use Rattle.std.specs.Prelude.{reverse, option_to_list}
use Rattle.std.specs.List.{AllByRecursion}
use Rattle.std.proofs.lemmas.List.{reverse-append}
use Rattle.lpt_packet.specs.declared.direction.Direction.{Direction}
use Rattle.lpt_packet.specs.Names.{Name}
use Rattle.lpt_events.specs.declared.config.Config.{Config}
use Rattle.lpt_model.specs.State.{as_list}
use Rattle.lpt_model.specs.Tickets.{no_tickets}
use Rattle.lpt_apart.specs.Ends.{PutOut, put_out, Pair, Move, pair_after}
use Rattle.lpt_spacecraft.specs.Serving.{Onboard}
use Rattle.lpt_spacecraft_moves.specs.Moves.{after_moves, octets_of, CanMakeAll, IsOfCraft}

-- ---- lists of moves

after-append : (c : Config) (p : Pair) (xs ys : List Move)
    → after_moves c p (xs ++ ys) ≡ after_moves c (after_moves c p xs) ys
after-append c p [] ys = refl
after-append c p (x ∷ xs) ys = after-append c (pair_after c p x) xs ys

can-append : (c : Config) (p : Pair) (xs ys : List Move)
    → CanMakeAll c p xs
    → CanMakeAll c (after_moves c p xs) ys
    → CanMakeAll c p (xs ++ ys)
can-append c p [] ys h k = k
can-append c p (x ∷ xs) ys h k = (h.0, can-append c (pair_after c p x) xs ys h.1 k)

own-append : (xs ys : List Move)
    → AllByRecursion IsOfCraft xs
    → AllByRecursion IsOfCraft ys
    → AllByRecursion IsOfCraft (xs ++ ys)
own-append [] ys h k = k
own-append (x ∷ xs) ys h k = (h.0, own-append xs ys h.1 k)

-- ---- runs

-- moves of the spacecraft alone that lead a pair to this node and these memories, with no job in a
-- worker's hands, and put these packets out
pub record Reaches (c : Config) (p : Pair) (t : Onboard) (made : List (List ℕ)) : Type 0 where
  pub moves : List Move
  pub own : AllByRecursion IsOfCraft moves
  pub can : CanMakeAll c p moves
  pub node : (after_moves c p moves).ends.on_craft ≡ t.node
  pub memories : (after_moves c p moves).ends.memories ≡ t.memories
  pub tickets : (after_moves c p moves).ends.tickets ≡ no_tickets
  pub put : octets_of (after_moves c p moves).ends.on_the_way ≡ reverse made ++ octets_of
      p.ends.on_the_way

-- no move
pub reaches-nothing : (c : Config) (p : Pair) (t : Onboard)
    → p.ends.on_craft ≡ t.node
    → p.ends.memories ≡ t.memories
    → p.ends.tickets ≡ no_tickets
    → Reaches c p t []
reaches-nothing c p t node memories tickets = record {
  moves = [];
  own = tt;
  can = tt;
  node = node;
  memories = memories;
  tickets = tickets;
  put = refl;
}

-- a run behind a run
pub reaches-then : (c : Config) (p : Pair) (t u : Onboard) (first more : List (List ℕ))
    → (r : Reaches c p t first)
    → Reaches c (after_moves c p r.moves) u more
    → Reaches c p u (first ++ more)
reaches-then c p t u first more r q =
    let same = after-append c p r.moves q.moves in
    record {
      moves = r.moves ++ q.moves;
      own = own-append r.moves q.moves r.own q.own;
      can = can-append c p r.moves q.moves r.can q.can;
      node = ap (λ (x : Pair). x.ends.on_craft) same ∙ q.node;
      memories = ap (λ (x : Pair). x.ends.memories) same ∙ q.memories;
      tickets = ap (λ (x : Pair). x.ends.tickets) same ∙ q.tickets;
      put = ap (λ (x : Pair). octets_of x.ends.on_the_way) same ∙ q.put
          ∙ ap (λ l. reverse more ++ l) r.put
          ∙ sym (append_assoc (reverse more) (reverse first) (octets_of p.ends.on_the_way))
          ∙ ap (λ l. l ++ octets_of p.ends.on_the_way) (sym (reverse-append first more));
    }

-- the same run, to what is called otherwise
pub reaches-same : (c : Config) (p : Pair) (t u : Onboard) (made others : List (List ℕ))
    → t ≡ u
    → made ≡ others
    → Reaches c p t made
    → Reaches c p u others
reaches-same c p t u made others same packets r =
    subst (λ x. Reaches c p u x) packets (subst (λ (x : Onboard). Reaches c p x made) same r)

-- ---- what is put out

-- packets that are put out stand before what was, the newest first
pub octets-put : (ps : List PutOut) (d : Direction) (tag : Option Name) (bs : List (List ℕ))
    → octets_of (put_out ps d tag bs) ≡ reverse bs ++ octets_of ps
octets-put ps d tag [] = refl
octets-put ps d tag (b ∷ bs) =
    octets-put (record { direction = d; part_of = tag; octets = b } ∷ ps) d tag bs
    ∙ sym (append_assoc (reverse bs) (b ∷ []) (octets_of ps))
    ∙ ap (λ l. l ++ octets_of ps) (sym (reverse-append (b ∷ []) bs))

-- a packet, where there is one
pub as_list-same : (o : Option (List ℕ)) → as_list o ≡ option_to_list o
as_list-same None = refl
as_list-same (Some x) = refl
