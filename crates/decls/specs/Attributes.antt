-- What is refused of the strings of a declaration (ABEL-HDL Reference Manual, ISTYPE; which words contradict each other
-- is this project's rule).
use Rattle.std.specs.Prelude.{ℕ, Bool, not, ◌&&◌, ◌||◌, List, [], ◌∷◌, ◌++◌, if◌then◌else◌, codes}
use Rattle.decls.specs.Prelude.{list_any, Word, Words, said_by_either, words_of, has_word, said_words}
use Rattle.decls.specs.declared.fault.NameFault.{NameFault}
use Rattle.decls.specs.declared.fault.NameFault.TheVariants as fault

-- the words without effect
abbrev pub idle_words : List (List ℕ)
idle_words = codes "pos" ∷ codes "neg" ∷ codes "keep" ∷ codes "collapse" ∷ codes "retain" ∷ []

-- the words that a string may have
abbrev pub known_words : List (List ℕ)
known_words =
    codes "com" ∷ codes "reg" ∷ codes "reg_d" ∷ codes "buffer" ∷ codes "invert" ∷ codes "dc" ∷ idle_words

abbrev pub has_unknown : List (List ℕ) → Bool
has_unknown ws = list_any (λ w. not (has_word known_words w)) ws

-- words that contradict each other
abbrev pub clash : Words → Bool
clash w = (w.combinational && w.registered) || (w.buffer && w.invert)

-- the string brings the second of two such words, for a name of which these were said before
abbrev pub brings_clash : (said before : Words) → Bool
brings_clash said before = clash (said_by_either before said) && not (clash before)

-- the string has an unknown word, or brings a contradiction for some name
abbrev pub is_refused_string : List Words → (earlier : Words) → List (List ℕ) → Bool
is_refused_string befores earlier ws =
    has_unknown ws || list_any (λ before. brings_clash (said_words ws) (said_by_either before earlier)) befores

-- a string, for names of which these words were said before: those of `befores`, and those of the earlier strings
abbrev pub string_refused : List Words → (earlier : Words) → Word → List NameFault
string_refused befores earlier x =
    if is_refused_string befores earlier (words_of x.text) then fault.BadAttribute x.place ∷ [] else []

-- strings one after the other
abbrev pub strings_refused : List Words → (earlier : Words) → List Word → List NameFault
strings_refused befores earlier [] = []
strings_refused befores earlier (x ∷ xs) =
    string_refused befores earlier x
    ++ strings_refused befores (said_by_either earlier (said_words (words_of x.text))) xs
