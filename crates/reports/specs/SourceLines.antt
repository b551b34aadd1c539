-- How each refusal of a source is reported; lack of memory is no refusal (this project's report).
use Rattle.std.specs.Prelude.{ℕ, Option, None, Some, List, slice_get, codes}
use Rattle.reports.specs.Prelude.{option_map, Entry}
use Rattle.abel_lexer.specs.declared.fault.ScanFault.{ScanFault}
use Rattle.abel_lexer.specs.declared.fault.ScanFault.TheVariants as scan
use Rattle.abel_expand.specs.declared.fault.ExpandFault.{ExpandFault}
use Rattle.abel_expand.specs.declared.fault.ExpandFault.TheVariants as expand
use Rattle.abel_parser.specs.declared.fault.ParseFault.{ParseFault}
use Rattle.abel_parser.specs.declared.fault.ParseFault.TheVariants as parse
use Rattle.module_reader.specs.declared.fault.ReadFault.{ReadFault}
use Rattle.module_reader.specs.declared.fault.ReadFault.TheVariants as read
use Rattle.set_expr.specs.declared.fault.SectionFault.{SectionFault}
use Rattle.set_expr.specs.declared.fault.SectionFault.TheVariants as section
use Rattle.decls.specs.declared.fault.NameFault.{NameFault}
use Rattle.decls.specs.declared.fault.NameFault.TheVariants as names
use Rattle.reports.specs.RefusalTold.{Telling, plain, with_name, with_name_if}

abbrev pub expand_telling : ExpandFault → Option Telling
expand_telling (expand.TooLong p) = plain (codes "TooLong") p
expand_telling (expand.ExpansionLimit p) = plain (codes "ExpansionLimit") p
expand_telling (expand.BadDirective p) = plain (codes "BadDirective") p
expand_telling (expand.Unsupported p) = plain (codes "Unsupported") p
expand_telling expand.OutOfMemory = None

abbrev pub scan_telling : ScanFault → Option Telling
scan_telling (scan.NotText p) = plain (codes "NotText") p
scan_telling (scan.BadNumber p) = plain (codes "BadNumber") p
scan_telling (scan.LongName p) = plain (codes "LongName") p
scan_telling (scan.Unsupported p) = plain (codes "Unsupported") p
scan_telling scan.OutOfMemory = None

abbrev pub parse_telling : ParseFault → Option Telling
parse_telling (parse.Syntax p) = plain (codes "Syntax") p
parse_telling (parse.TooDeep p) = plain (codes "TooDeep") p
parse_telling parse.OutOfMemory = None

-- of a text that is no module
abbrev pub read_telling : ReadFault → Option Telling
read_telling (read.Expand f) = expand_telling f
read_telling (read.Scan f) = scan_telling f
read_telling (read.Parse f) = parse_telling f
read_telling read.OutOfMemory = None

-- of names, with the name that is refused
abbrev pub name_telling : NameFault → Option Telling
name_telling (names.Redeclared p name) = with_name (codes "Redeclared") p name
name_telling (names.UnknownDevice p) = plain (codes "UnknownDevice") p
name_telling (names.BadRange p) = plain (codes "BadRange") p
name_telling (names.BadPin p name) = with_name (codes "BadPin") p name
name_telling (names.PinTaken p name) = with_name (codes "PinTaken") p name
name_telling (names.BadAttribute p) = plain (codes "BadAttribute") p
name_telling (names.TooManyNodes p name) = with_name (codes "TooManyNodes") p name
name_telling (names.Undeclared p name) = with_name (codes "Undeclared") p name
name_telling names.OutOfMemory = None

-- the name of a number
abbrev pub name_of : List Entry → ℕ → Option (List ℕ)
name_of es n = option_map (λ (e : Entry). e.name) (slice_get es n)

abbrev pub name_of_some : List Entry → Option ℕ → Option (List ℕ)
name_of_some es None = None
name_of_some es (Some n) = name_of es n

-- of sections, over the names of the source
abbrev pub section_telling : List Entry → SectionFault → Option Telling
section_telling es (section.MisplacedSpecial p) = plain (codes "MisplacedSpecial") p
section_telling es (section.NotConstant p) = plain (codes "NotConstant") p
section_telling es (section.ZeroDivisor p) = plain (codes "ZeroDivisor") p
section_telling es (section.BadWidth p) = plain (codes "BadWidth") p
section_telling es (section.NotAnOutput p name) = with_name_if (codes "NotAnOutput") p (name_of_some es name)
section_telling es (section.MixedAssignment p n) = with_name_if (codes "MixedAssignment") p (name_of es n)
section_telling es (section.BadRow p) = plain (codes "BadRow") p
section_telling es (section.BadState p) = plain (codes "BadState") p
section_telling es (section.BadVector p) = plain (codes "BadVector") p
section_telling es (section.NodeLimit p) = plain (codes "NodeLimit") p
section_telling es section.OutOfMemory = None
