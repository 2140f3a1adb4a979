-- Lists of parts, as a word spells them.
use Rattle.std.specs.Prelude.{ℕ, zero, suc, ◌+◌, ◌-◌, ◌==◌, ◌&&◌, nat_le, if◌then◌else◌, List, [], ◌∷◌, ◌++◌, take, drop, position, Option, Some, None}
use Rattle.lpt_script_words.specs.Numbers.{number_of}
use Rattle.lpt_text.specs.Items.{items_of}

-- ---- an item

-- the number behind the hyphen; the last part's if there is none
abbrev pub end_of : ℕ → List ℕ → Option ℕ
end_of last [] = Some last
end_of last (b ∷ bs) = number_of last (b ∷ bs)

-- two numbers, if both are there, the first is at least 1, and the second at least the first
abbrev pub in_order : Option ℕ → Option ℕ → Option (ℕ × ℕ)
in_order (Some a) (Some b) = if nat_le 1 a && nat_le a b then Some (a, b) else None
in_order (Some a) None = None
in_order None b = None

-- the first and the last part of an item, by where its hyphen is
abbrev pub range_by : ℕ → List ℕ → Option ℕ → Option (ℕ × ℕ)
range_by last item None = in_order (number_of last item) (number_of last item)
range_by last item (Some k) = in_order (number_of last (take k item)) (end_of last (drop (k + 1) item))

-- the first and the last part of an item, of a message of so many
unfoldable pub range_of : ℕ → List ℕ → Option (ℕ × ℕ)
range_of last item = range_by last item (position (λ b. b == 45) item)

-- ---- a list

-- so many numbers from a on
abbrev pub run : ℕ → ℕ → List ℕ
run a zero = []
run a (suc n) = a ∷ run (a + 1) n

-- the numbers from the first to the last
abbrev pub numbers_in : ℕ × ℕ → List ℕ
numbers_in r = run r.0 (r.1 + 1 - r.0)

-- numbers, and those behind them, if both are there
abbrev pub numbers_followed : Option (ℕ × ℕ) → Option (List ℕ) → Option (List ℕ)
numbers_followed (Some r) (Some ns) = Some (numbers_in r ++ ns)
numbers_followed (Some r) None = None
numbers_followed None ns = None

-- the parts that items name
abbrev pub numbers_of_items : ℕ → List (List ℕ) → Option (List ℕ)
numbers_of_items last [] = Some []
numbers_of_items last (item ∷ items) =
    numbers_followed (range_of last item) (numbers_of_items last items)

-- the parts that a list names, of a message of so many
unfoldable pub numbers_of : ℕ → List ℕ → Option (List ℕ)
numbers_of last list = numbers_of_items last (items_of list)
