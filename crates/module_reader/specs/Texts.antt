-- Which texts spell which modules, and why a text is refused (ABEL-HDL Reference Manual, source file structure; the
-- order of refusals is this project's rule).
use Rattle.std.specs.Prelude.{◌≢◌, ℕ, List}
use Rattle.abel_grammar.specs.Verdict.{Spells}
use Rattle.abel_lexer.specs.declared.fault.ScanFault.{ScanFault}
use Rattle.abel_lexer.specs.declared.fault.ScanFault.TheVariants as scan
use Rattle.abel_lexer.specs.declared.token.Token.{Token}
use Rattle.abel_lexer.specs.Scans.{IsTokensOf, IsFirstFault, first_place, place_past}
use Rattle.abel_expand.specs.declared.fault.ExpandFault.TheVariants as expand
use Rattle.abel_expand.specs.Runs.{IsExpanded, IsRefusal}
use Rattle.abel_tree.specs.Tree.{ModuleTree}
use Rattle.abel_grammar.specs.Modules.{source}
use Rattle.abel_parser.specs.declared.fault.ParseFault.{ParseFault}
use Rattle.abel_parser.specs.declared.fault.ParseFault.TheVariants as parse
use Rattle.abel_parser.specs.Refusals.{IsParsed, IsRefused}
use Rattle.module_reader.specs.declared.fault.ReadFault.{ReadFault}
use Rattle.module_reader.specs.declared.fault.ReadFault.TheVariants.{Expand, Scan, Parse, OutOfMemory}

-- the text expands, its expanded text has tokens, and this holds of the two
pub record HasTokens (text : List ℕ) (holds : List ℕ → List Token → Type 0) : Type 0 where
  pub expanded : List ℕ
  pub expands : IsExpanded text expanded
  pub tokens : List Token
  pub scanned : IsTokensOf expanded tokens
  pub so : holds expanded tokens

-- the text spells the module, however deep it nests
abbrev pub SpellsModule : List ℕ → ModuleTree → Type 0
SpellsModule text m = HasTokens text (λ expanded tokens. Spells source tokens m)

-- it spells the module with no nesting too deep
abbrev pub IsRead : List ℕ → ModuleTree → Type 0
IsRead text m = HasTokens text (λ expanded tokens. IsParsed tokens m)

-- the expanded text has no tokens, and this is the first thing wrong with it
pub record IsNotScanned (text : List ℕ) (f : ScanFault) : Type 0 where
  pub expanded : List ℕ
  pub expands : IsExpanded text expanded
  pub fault : IsFirstFault expanded f

-- the tokens are refused, at the end of the text after its last byte
abbrev pub IsNotParsed : List ℕ → ParseFault → Type 0
IsNotParsed text f = HasTokens text (λ expanded tokens. IsRefused tokens (place_past first_place expanded) f)

-- the text is refused: by the first of expanding, scanning and parsing that refuses it
abbrev pub IsUnread : List ℕ → ReadFault → Type 0
IsUnread text (Expand f) = (f ≢ expand.OutOfMemory) × ((done : List ℕ) × IsRefusal text done f)
IsUnread text (Scan f) = (f ≢ scan.OutOfMemory) × IsNotScanned text f
IsUnread text (Parse f) = (f ≢ parse.OutOfMemory) × IsNotParsed text f
IsUnread text OutOfMemory = Unit {0}
