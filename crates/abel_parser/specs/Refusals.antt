-- When the tokens of a source are accepted, and if they are refused (this project's rule).
use Rattle.std.specs.Prelude.{◌≡◌, ℕ, zero, suc, List, [], ◌∷◌}
use Rattle.abel_grammar.specs.Verdict.{SpellsWhole, SyntaxAt, TooDeepAt}
use Rattle.pld_base.specs.declared.place.Place.{Place}
use Rattle.abel_lexer.specs.declared.token.Token.{Token}
use Rattle.abel_tree.specs.Tree.{ModuleTree}
use Rattle.abel_grammar.specs.Modules.{source}
use Rattle.abel_parser.specs.declared.fault.ParseFault.{ParseFault}
use Rattle.abel_parser.specs.declared.fault.ParseFault.TheVariants as fault

-- how many constructs may be open round a token
abbrev pub nestings : ℕ
nestings = 64

-- the tokens, all of them, spell the module with at most so many nestings
abbrev pub IsParsed : List Token → ModuleTree → Type 0
IsParsed ts m = SpellsWhole (source nestings) ts m

-- the place of a token by its number, or the place after the last byte of the text
abbrev pub place_at : List Token → Place → ℕ → Place
place_at [] end k = end
place_at (t ∷ ts) end zero = t.place
place_at (t ∷ ts) end (suc k) = place_at ts end k

-- The first refusal by place: the tokens before it begin a module with at most so many nestings.
abbrev pub IsRefused : List Token → Place → ParseFault → Type 0
IsRefused ts end (fault.Syntax p) = (k : ℕ) × (place_at ts end k ≡ p) × SyntaxAt source nestings ts k
IsRefused ts end (fault.TooDeep p) = (k : ℕ) × (place_at ts end k ≡ p) × TooDeepAt source nestings ts k
IsRefused ts end fault.OutOfMemory = Unit {0}
