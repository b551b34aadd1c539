-- What the names of modules are made of, and how long they are (this project's rule, over ABEL-HDL Reference Manual, language elements, and
-- JESD3-C, which ends a field with `*` and a text with ETX).
use Rattle.std.specs.Prelude.{ℕ, ◌≤◌, List, length}
use Rattle.abel_grammar.specs.Verdict.{Spells}
use Rattle.abel_lexer.specs.declared.token.Token.{Token}
use Rattle.abel_lexer.specs.Kinds.{longest_name}
use Rattle.abel_lexer.specs.Scans.{IsTokensOf}
use Rattle.abel_tree.specs.Tree.{ModuleTree}
use Rattle.abel_grammar.specs.Modules.{source}
use Rattle.jedec_file.specs.CanonicalFile.{IsPlainName}
use Rattle.module_reader.specs.Texts.{SpellsModule}

-- the name of a module that the tokens of a text spell can be in a fuse file
abbrev pub ModuleNamesArePlain : Type 0
ModuleNamesArePlain =
    (text : List ℕ) (tokens : List Token) (m : ModuleTree) → IsTokensOf text tokens → Spells source tokens m
    → IsPlainName m.name.text

-- the name of a module that a text spells is no longer than any name may be
abbrev pub ModuleNamesAreShort : Type 0
ModuleNamesAreShort = (text : List ℕ) (m : ModuleTree) → SpellsModule text m → length m.name.text ≤ longest_name
