-- The signs and operators (ABEL-HDL Reference Manual, operators and special characters; the list is
-- this project's rule).
use Rattle.std.specs.Prelude.{ℕ, Bool, List, [], ◌∷◌, codes}
use Rattle.std.specs.List.{list_any}
use Rattle.std.specs.Str.{bytes_eq}

-- the signs, none after a shorter one
abbrev pub signs : List (List ℕ)
signs =
    codes "?:=" ∷ codes ":=" ∷ codes "?=" ∷ codes "!$" ∷ codes "<<" ∷ codes ">>" ∷ codes "==" ∷ codes "!=" ∷ codes "<=" ∷ codes ">=" ∷ codes "->" ∷ codes ":>" ∷ codes ".." ∷ codes "(" ∷ codes ")" ∷ codes "[" ∷ codes "]" ∷ codes "{"
    ∷ codes "}" ∷ codes "," ∷ codes ";" ∷ codes ":" ∷ codes "=" ∷ codes "!" ∷ codes "&" ∷ codes "#" ∷ codes "$" ∷ codes "+" ∷ codes "-" ∷ codes "*" ∷ codes "/" ∷ codes "%" ∷ codes "<" ∷ codes ">" ∷ []

-- whether the bytes are one of the signs
abbrev pub is_sign : List ℕ → Bool
is_sign w = list_any (λ s. bytes_eq s w) signs
