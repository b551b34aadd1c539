-- The words of directives (ABEL-HDL Reference Manual, directives; which are left out is this project's
-- rule).
use Rattle.std.specs.Prelude.{ℕ, Bool, ◌||◌, List, [], ◌∷◌, codes, drop, if◌then◌else◌}
use Rattle.abel_macros.specs.Prelude.{prefix_len, str_eq_ignore_ascii_case, is_name_later, is_listed}
use Rattle.abel_macros.specs.declared.directive.Directive.{Directive}
use Rattle.abel_macros.specs.declared.directive.Directive.TheVariants as directive
use Rattle.abel_macros.specs.Gaps.{rest_of}

-- the directives that the project leaves out
abbrev pub left_out : List (List ℕ)
left_out =
    codes "@ALTERNATE" ∷ codes "@STANDARD" ∷ codes "@INCLUDE" ∷ codes "@MESSAGE" ∷ codes "@EXIT" ∷ codes "@PAGE" ∷ codes "@IRPC" ∷ codes "@IFB" ∷ codes "@IFNB" ∷ codes "@IFIDEN" ∷ codes "@IFNIDEN" ∷ []

-- whether a word is this one, without regard to case
abbrev pub is_word : List ℕ → List ℕ → Bool
is_word w d = str_eq_ignore_ascii_case w d

-- whether a word is `@DCSET` or `@ONSET`
abbrev pub is_dont_care : List ℕ → Bool
is_dont_care w = is_word (codes "@DCSET") w || is_word (codes "@ONSET") w

-- the directive of a word that takes nothing after it, or is refused
unfoldable pub plain_directive : List ℕ → Directive
plain_directive w = if is_dont_care w then directive.DontCare else if is_listed left_out w then directive.LeftOut else directive.Unknown

-- the directive of a word that repeats, reports or sets something, or of a further one
unfoldable pub further_directive : List ℕ → Directive
further_directive w =
    if is_word (codes "@IRP") w then directive.Each
    else if is_word (codes "@REPEAT") w then directive.Repeat
    else if is_word (codes "@EXPR") w then directive.Value else if is_word (codes "@RADIX") w then directive.Radix else plain_directive w

-- the directive of a word
unfoldable pub directive_of : List ℕ → Directive
directive_of w =
    if is_word (codes "@CONST") w then directive.Const
    else if is_word (codes "@IF") w then directive.If
    else if is_word (codes "@IFDEF") w then directive.IfDefined else if is_word (codes "@IFNDEF") w then directive.IfUndefined else further_directive w

-- after the word of a directive: `@` and letters, digits, `_` and `~`
abbrev pub behind_directive : List ℕ → List ℕ
behind_directive text = drop (prefix_len is_name_later (rest_of text)) (rest_of text)
