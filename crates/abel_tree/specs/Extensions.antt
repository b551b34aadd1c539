-- What extensions ask for (ABEL-HDL Reference Manual, sets and dot extensions).
use Rattle.std.specs.Prelude.{Bool, true, false, Option, None, Some}
use Rattle.abel_tree.specs.declared.words.Extension.{Extension}
use Rattle.abel_tree.specs.declared.words.Extension.TheVariants as extension

-- the extension that counts of two, the first of which is inside
abbrev pub innermost : (own outer : Option Extension) → Option Extension
innermost (Some e) outer = Some e
innermost None outer = outer

-- a target with this extension is data: the name itself, or the raw input of its register
abbrev pub is_data : Option Extension → Bool
is_data None = true
is_data (Some extension.D) = true
is_data (Some _) = false

-- the raw input of a register
abbrev pub is_raw : Option Extension → Bool
is_raw (Some extension.D) = true
is_raw _ = false
