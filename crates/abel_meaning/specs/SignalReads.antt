-- Which signals a signal reads, loops, and paths from a reset to a register (this project's rule).
use Rattle.std.specs.Prelude.{ℕ, Bool, true, false, not, ◌&&◌, ◌||◌, Option, None, Some, List, length, if◌then◌else◌}
use Rattle.abel_meaning.specs.Prelude.{option_map, IsLeastLoop, HasNoLoop, IsPath, HasNoPath, Leaf, Formula, names, Kind, APin, ANode, Entry, is_stored, cell_on}
use Rattle.bit_expr.specs.declared.node.Leaf.TheVariants as leaf
use Rattle.abel_tree.specs.declared.words.Extension.TheVariants as extension
use Rattle.abel_meaning.specs.Designs.{Context, Design, name_at}
use Rattle.abel_meaning.specs.Contributions.{Contribution}
use Rattle.abel_meaning.specs.Sections.{contributions}
use Rattle.abel_meaning.specs.Functions.{Function, function_of}
use Rattle.abel_meaning.specs.Controls.{control_of}
use Rattle.abel_meaning.specs.FormulaBits.{formulas}

-- the contributions as folded formulas
abbrev pub given_formulas : Design → List (Contribution Formula)
given_formulas d = contributions (formulas d.context) d

-- a combinational signal with data, or a node, by what the name is declared as
abbrev pub settles_by : Entry → Kind → Bool
settles_by x (APin pin negated) = x.assigned && not x.words.registered
settles_by x (ANode n) = true
settles_by x _ = false

-- a combinational signal with data, or a node: it settles by what it reads
abbrev pub settles : Entry → Bool
settles x = settles_by x x.kind

-- the leaf by which a signal is read, by what the name is declared as
abbrev pub leaf_by : Context → Entry → Kind → Option Leaf
leaf_by d x (APin pin negated) =
    if is_stored x then option_map leaf.Q (cell_on d.device pin) else if settles x then Some (leaf.Pin pin) else None
leaf_by d x (ANode n) = Some (leaf.Node n)
leaf_by d x _ = None

-- the leaf by which a signal is read: the Q of a register, the pin of a combinational signal, the value of a node
abbrev pub leaf_of : Context → (signal : ℕ) → Option Leaf
leaf_of d s = leaf_by d (name_at d s) (name_at d s).kind

-- a formula that may be there names the leaf
abbrev pub names_if_any : Option Formula → Leaf → Bool
names_if_any None l = false
names_if_any (Some f) l = names f l

-- a function names the leaf
abbrev pub function_names : Function Formula → Leaf → Bool
function_names f l = names f.one l || names f.any l

-- the signal's one, its any or its enable names the leaf
abbrev pub signal_names : Context → List (Contribution Formula) → (signal : ℕ) → Leaf → Bool
signal_names d cs s l =
    function_names (function_of (formulas d) cs s) l || names_if_any (control_of (formulas d) cs s extension.Oe) l

-- the leaf that may be there is one of those
abbrev pub is_one_of : (Leaf → Bool) → Option Leaf → Bool
is_one_of named None = false
is_one_of named (Some l) = named l

-- a combinational signal or node reads a signal, whether or not its value depends on it
abbrev pub signal_reads : Design → (s r : ℕ) → Bool
signal_reads d s r = settles (name_at d.context s) && is_one_of (signal_names d.context (given_formulas d) s) (leaf_of d.context r)

-- some of the signals, each of which reads the next, and the last the first, which is the earliest declared of all
-- that lie on such a loop
abbrev pub IsSignalLoop : Design → List ℕ → Type 0
IsSignalLoop d chain = IsLeastLoop (length d.context.names) (signal_reads d) chain

-- no signal reads itself through others
abbrev pub HasNoSignalLoop : Design → Type 0
HasNoSignalLoop d = HasNoLoop (length d.context.names) (signal_reads d)

-- the reset equation of a signal reads another
abbrev pub reset_equation_reads : Design → (s r : ℕ) → Bool
reset_equation_reads d s r =
    is_one_of (names_if_any (control_of (formulas d.context) (given_formulas d) s extension.Ar)) (leaf_of d.context r)

-- the signal is stored in a register
abbrev pub is_stored_signal : Context → ℕ → Bool
is_stored_signal d r = is_stored (name_at d r)

-- the reset of s reads the first of these signals, each reads the next, and the last is a register
abbrev pub IsSignalPath : Design → (s : ℕ) → List ℕ → Type 0
IsSignalPath d s path = IsPath (length d.context.names) (signal_reads d) (reset_equation_reads d s) (is_stored_signal d.context) path

-- the reset of s reads no register, itself or through signals
abbrev pub HasNoSignalPath : Design → (s : ℕ) → Type 0
HasNoSignalPath d s = HasNoPath (length d.context.names) (signal_reads d) (reset_equation_reads d s) (is_stored_signal d.context)
