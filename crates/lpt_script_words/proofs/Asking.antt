-- Lines that ask for something.
use Rattle.std.proofs.Common.{◌≡◌, ◌∙◌, sym, subst, false, ℕ, nat_lt, List, ◌∷◌, length, if◌then◌else◌, Option, Some, None, Result, Ok, Err, IsSome, OnErr}
use Rattle.std.specs.Option.{option_and_then}
use Rattle.lpt_script_words.specs.declared.grammar.Command.{Command}
use Rattle.lpt_script_words.specs.declared.grammar.Reading.TheVariants.{Skipped, Unreadable}
use Rattle.lpt_script_words.specs.declared.names.Keyword.{Keyword}
use Rattle.lpt_script_words.specs.Grammar.{arguments_of, command_asked, is_comment, reading_of, words_reading, IsAsked}
use Rattle.lpt_script_words.specs.Names.{keyword_of}
use Rattle.lpt_script_words.specs.Words.{words}

-- what holds, holds where there is an error
pub on_err : {A E : Type 0} (r : Result A E) (P : Type 0) → P → OnErr r P
on_err (Ok x) P p = tt
on_err (Err e) P p = p

is_asked : (o : Option Command) → IsSome o → IsAsked (command_asked o)
is_asked (Some x) h = tt
is_asked None h = absurd cc

-- a line of which a keyword's words are a command asks for it
pub asks : (source : ℕ) (line w : List ℕ) (ws : List (List ℕ)) (k : Keyword)
    → nat_lt 140000 (length line) ≡ false
    → words line ≡ w ∷ ws
    → is_comment w ≡ false
    → keyword_of w ≡ Some k
    → IsSome (arguments_of source k ws)
    → IsAsked (reading_of source line)
unfolding reading_of
asks source line w ws k short cut plain key some =
    subst IsAsked
    (sym ((λ i. if short i then Unreadable else words_reading source (cut i))
    ∙ (λ i. if plain i then Skipped
    else command_asked (option_and_then (λ j. arguments_of source j ws) (key i)))))
    (is_asked (arguments_of source k ws) some)
