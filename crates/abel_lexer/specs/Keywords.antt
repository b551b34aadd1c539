-- The words of the language (ABEL-HDL Reference Manual, keywords).
use Rattle.std.specs.Prelude.{ℕ, Bool, ◌||◌, List, [], ◌∷◌, codes}
use Rattle.std.specs.List.{list_any}
use Rattle.std.specs.Str.{str_eq_ignore_ascii_case}

-- the keywords that the project's grammar uses
abbrev pub used_keywords : List (List ℕ)
used_keywords =
    codes "CASE" ∷ codes "DECLARATIONS" ∷ codes "DEVICE" ∷ codes "ELSE" ∷ codes "END" ∷ codes "ENDCASE" ∷ codes "ENDWITH" ∷ codes "EQUATIONS" ∷ codes "FLAG" ∷ codes "GOTO" ∷ codes "IF" ∷ codes "ISTYPE" ∷ codes "MACRO"
    ∷ codes "MODULE" ∷ codes "NODE" ∷ codes "OPTIONS" ∷ codes "PIN" ∷ codes "STATE" ∷ codes "STATE_DIAGRAM" ∷ codes "TEST_VECTORS" ∷ codes "THEN" ∷ codes "TITLE" ∷ codes "TRUTH_TABLE" ∷ codes "WHEN" ∷ codes "WITH" ∷ []

-- the keywords that it leaves out
abbrev pub left_out_keywords : List (List ℕ)
left_out_keywords =
    codes "ASYNC_RESET" ∷ codes "EXTERNAL" ∷ codes "FUNCTIONAL_BLOCK" ∷ codes "FUSES" ∷ codes "IN" ∷ codes "INTERFACE" ∷ codes "LIBRARY" ∷ codes "PROPERTY" ∷ codes "STATE_REGISTER" ∷ codes "SYNC_RESET" ∷ codes "TRACE" ∷ codes "XOR_FACTORS" ∷ []

-- whether a word is one of these, without regard to case
abbrev pub is_listed : List (List ℕ) → List ℕ → Bool
is_listed words w = list_any (λ k. str_eq_ignore_ascii_case k w) words

-- whether a word is a keyword, used or left out
unfoldable pub is_keyword : List ℕ → Bool
is_keyword w = is_listed used_keywords w || is_listed left_out_keywords w

-- whether a word is a keyword that is left out
unfoldable pub is_left_out : List ℕ → Bool
is_left_out w = is_listed left_out_keywords w
