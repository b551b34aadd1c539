-- What the text of a pin source is read as (this project's rule).
use Rattle.std.specs.Prelude.{ℕ, ◌<◌, List}
use Rattle.decompiled.specs.Prelude.{AllByRecursion, ModuleTree}
use Rattle.module_reader.specs.Texts.{IsRead}
use Rattle.decompiled.specs.declared.literal.PinLiteral.{PinLiteral}
use Rattle.decompiled.specs.declared.pin_line.PinLine.{PinLine}
use Rattle.decompiled.specs.declared.sum_line.SumLine.{SumLine}
use Rattle.decompiled.specs.declared.source.PinSource.{PinSource}
use Rattle.decompiled.specs.SourceText.{source_text}
use Rattle.decompiled.specs.SourceTrees.{IsSourceTree}

-- a pin that is named is below 32
abbrev pub IsLow : ℕ → Type 0
IsLow pin = pin < 32

abbrev pub IsLowProduct : List PinLiteral → Type 0
IsLowProduct ls = AllByRecursion (λ (l : PinLiteral). IsLow l.pin) ls

abbrev pub IsLowLine : SumLine → Type 0
IsLowLine l = IsLow l.pin × AllByRecursion IsLowProduct l.products

-- all pins of the source are
pub record HasLowPins (s : PinSource) : Type 0 where
  pub pins : AllByRecursion (λ (l : PinLine). IsLow l.pin) s.pins
  pub lines : AllByRecursion IsLowLine s.lines

-- the text of a source is read as its module
abbrev pub SourceTextsAreRead : Type 0
SourceTextsAreRead = (s : PinSource) → HasLowPins s → (m : ModuleTree) × IsSourceTree s m × IsRead (source_text s) m
