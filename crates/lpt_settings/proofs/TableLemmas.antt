-- The keys of a table, and the settings of a blank text.
use Rattle.std.proofs.Common.{◌≡◌, ℕ, Bool, true, false, not, if◌then◌else◌, List, [], ◌∷◌, Option, Some, None, Global, String, string_bytes, refl, ap, ◌&&◌, eq-eqb}
use Rattle.std.specs.List.{find, list_all}
use Rattle.std.specs.Map.{keys_of}
use Rattle.toml.specs.declared.value.Value.{Value}
use Rattle.toml.specs.Data.{no_members}
use Rattle.toml.specs.Errors.{IsBlank}
use Rattle.toml.specs.Parse.{parse_document, lines}
use Rattle.toml.specs.View.{members_view}
use Rattle.lpt_settings.specs.Keys.{is_one_of, has_only, unknown_key}
use Rattle.lpt_settings.specs.Settings.{settings_of, default_settings}

-- the keys of a map are all words where the members that it stands for have only such keys
pub only_keys : (words : List (List ℕ)) (entries : List (String Global × Value))
    → list_all (λ key. is_one_of words (string_bytes key)) (keys_of entries)
    ≡ has_only words (members_view entries)
only_keys words [] = refl
only_keys words (e ∷ more) =
    ap (λ rest. is_one_of words (string_bytes e.0) && rest) (only_keys words more)

-- the octets of a key, or none
abbrev pub key_or_none : Option (String Global) → List ℕ
key_or_none None = []
key_or_none (Some key) = string_bytes key

unknown_parts : (b : Bool) (key : String Global) (o : Option (String Global)) (rest : List ℕ)
    → key_or_none o ≡ rest
    → key_or_none (if not b then Some key else o) ≡ (if b then rest else string_bytes key)
unknown_parts true key o rest is = is
unknown_parts false key o rest is = refl

-- the first unknown key of a map is that of its members
pub first_unknown : (words : List (List ℕ)) (entries : List (String Global × Value))
    → key_or_none (find (λ key. not (is_one_of words (string_bytes key))) (keys_of entries))
    ≡ unknown_key words (members_view entries)
first_unknown words [] = refl
first_unknown words (e ∷ more) =
    unknown_parts (is_one_of words (string_bytes e.0)) e.0
    (find (λ key. not (is_one_of words (string_bytes key))) (keys_of more)) (unknown_key words (members_view more))
    (first_unknown words more)

-- a blank text is a document with no members
pub parse_document-blank : (text : List ℕ) → IsBlank text → parse_document text ≡ Some no_members
unfolding parse_document lines
parse_document-blank text blank = rw (eq-eqb _ _ blank)

-- a table with no members means the defaults
pub settings_of-none : settings_of no_members ≡ Some default_settings
settings_of-none = refl
