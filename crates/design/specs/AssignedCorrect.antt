-- What is assigned by a module, by its names and by what it contributes (ABEL-HDL Reference Manual, equations; what is
-- refused is this project's rule).
use Rattle.std.specs.Prelude.{◌≡◌, ℕ, None, List, [], ◌∷◌, ◌++◌}
use Rattle.design.specs.Prelude.{Table, Entry, Tree, ModuleTree, Context, Design, design_of, Term, Terms, Read, Set, NoTerm, Before, known_of, term_of, PinsApart, NodesAreFew}
use Rattle.abel_tree.specs.Assigned.{named_of, signals_of}
use Rattle.source_sections.specs.SectionAnswers.{sections_refused}
use Rattle.design.specs.Accepted.{SignalsAreAssigned, BuffersAreBehind, AssignedAreOnCells, AssignedHaveData, IsAccepted}

-- ---- for every module

-- the signals of a term, and of sets within it, that have no extension
abbrev mutual
  pub bare_signals : Term → List ℕ
  bare_signals (Read s None) = s ∷ []
  bare_signals (Set ts) = all_bare_signals ts
  bare_signals _ = []

  pub all_bare_signals : Terms → List ℕ
  all_bare_signals NoTerm = []
  all_bare_signals (Before t ts) = bare_signals t ++ all_bare_signals ts

-- a target names by its names alone the signals of its term that have no extension
abbrev pub TargetsNameAlike : Type 0
TargetsNameAlike = (es : List Entry) (t : Tree) → signals_of (named_of es) t ≡ bare_signals (term_of (known_of es) t)

-- what a module assigns is a signal that some contribution is data to
pub record AreGiven (d : Design) : Type 0 where
  pub signals : SignalsAreAssigned d.context
  pub data_given : AssignedHaveData d

abbrev pub AssignedAreGiven : Type 0
AssignedAreGiven = (t : Table) (m : ModuleTree) → AreGiven (design_of t m)

-- ---- if nothing is refused of the sections

-- nothing is refused of the sections and of the constants
abbrev pub HasSoundSections : Design → Type 0
HasSoundSections d = sections_refused d ≡ []

-- each pin that a module assigns is that of a cell
abbrev pub AssignedHaveCells : Type 0
AssignedHaveCells = (t : Table) (m : ModuleTree) → HasSoundSections (design_of t m) → AssignedAreOnCells (design_of t m).context

-- what the declarations of a design are accepted for
pub record HasSoundDeclarations (d : Context) : Type 0 where
  pub pins : PinsApart d
  pub nodes : NodesAreFew d
  pub buffers : BuffersAreBehind d

-- a module is accepted whose declarations and sections are
abbrev pub SoundModulesAreAccepted : Type 0
SoundModulesAreAccepted =
    (t : Table) (m : ModuleTree) → HasSoundDeclarations (design_of t m).context → HasSoundSections (design_of t m) → IsAccepted (design_of t m)
