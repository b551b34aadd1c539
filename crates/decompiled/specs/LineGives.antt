-- What the lines of a source of pins and sums of products contribute (this project's rule).
use Rattle.std.specs.Prelude.{◌≡◌, ℕ, ◌==◌, ◌&&◌, Bool, false, None, Some, List, [], ◌∷◌, filter, map}
use Rattle.decompiled.specs.Prelude.{AllByRecursion, Leaf, Formula, Const, Extension, Statement, statements_of, Context, formulas, Read, term_named}
use Rattle.abel_tree.specs.Extensions.{is_data}
use Rattle.abel_meaning.specs.Contributions.{Contribution, One}
use Rattle.abel_meaning.specs.Controls.{control_of, is_the_control}
use Rattle.abel_meaning.specs.Functions.{function_of}
use Rattle.abel_meaning.specs.Sections.{unguarded}
use Rattle.abel_meaning.specs.Statements.{statements_give}
use Rattle.decompiled.specs.declared.literal.PinLiteral.{PinLiteral}
use Rattle.decompiled.specs.declared.sum_line.SumLine.{SumLine}
use Rattle.decompiled.specs.SourceText.{name_text}
use Rattle.decompiled.specs.SourceTrees.{AreLines}
use Rattle.decompiled.specs.SumFormulas.{ReadsLeaf, sum_formula}

-- what a line gives to the signal of its pin
abbrev pub line_gives : (ℕ → ℕ) → (PinLiteral → Leaf) → SumLine → Contribution Formula
line_gives signal_of leaf_of l =
    record {
      signal = signal_of l.pin;
      extension = l.extension;
      complement = l.negated;
      clocked = false;
      block = None;
      dontcare = false;
      gives = One;
      holds = sum_formula leaf_of l.products;
    }

-- its pin is a signal, and its literals read leaves
pub record IsKnownLine (d : Context) (signal_of : ℕ → ℕ) (leaf_of : PinLiteral → Leaf) (l : SumLine) : Type 0 where
  pub target : term_named d.known (name_text l.pin) ≡ Read (signal_of l.pin) None
  pub reads : AllByRecursion (AllByRecursion (ReadsLeaf d leaf_of)) l.products

-- each line gives one thing
abbrev pub LinesGive : Type 0
LinesGive =
    (d : Context) (on : Bool) (signal_of : ℕ → ℕ) (leaf_of : PinLiteral → Leaf) (ls : List SumLine) (ss : List Statement)
    → AllByRecursion (IsKnownLine d signal_of leaf_of) ls → AreLines ls ss
    → statements_give (formulas d) d (unguarded (formulas d) on None) (statements_of ss) ≡ map (line_gives signal_of leaf_of) ls

-- ---- functions and controls

-- the line is data to the signal
abbrev pub is_data_line : (ℕ → ℕ) → (signal : ℕ) → SumLine → Bool
is_data_line signal_of s l = signal_of l.pin == s && is_data l.extension

-- the line is the signal's control of this extension
abbrev pub is_control_line : (ℕ → ℕ) → (signal : ℕ) → Extension → SumLine → Bool
is_control_line signal_of s e l = signal_of l.pin == s && is_the_control e l.extension

-- the sum of one line is the function of its signal, or its control; no line is no control
pub record OneLineSays (d : Context) (signal_of : ℕ → ℕ) (leaf_of : PinLiteral → Leaf) (ls : List SumLine) (s : ℕ) : Type 0 where
  pub function : (l : SumLine) → filter (is_data_line signal_of s) ls ≡ l ∷ []
      → function_of (formulas d) (map (line_gives signal_of leaf_of) ls) s
      ≡ record { one = sum_formula leaf_of l.products; any = Const false; complement = l.negated }
  pub control : (e : Extension) (l : SumLine) → l.negated ≡ false → filter (is_control_line signal_of s e) ls ≡ l ∷ []
      → control_of (formulas d) (map (line_gives signal_of leaf_of) ls) s e ≡ Some (sum_formula leaf_of l.products)
  pub no_control : (e : Extension) → filter (is_control_line signal_of s e) ls ≡ []
      → control_of (formulas d) (map (line_gives signal_of leaf_of) ls) s e ≡ None

-- so it is of any lines and any signal
abbrev pub OneLineIsAFunction : Type 0
OneLineIsAFunction = (d : Context) (signal_of : ℕ → ℕ) (leaf_of : PinLiteral → Leaf) (ls : List SumLine) (s : ℕ) → OneLineSays d signal_of leaf_of ls s
