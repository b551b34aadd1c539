-- A small module whose netlist is that of the fitted example (this project's example).
use Rattle.netlist_laws.specs.Prelude.{Place, sample, Extension, Sign, Statement, AnAssign, AName, Declaration, SomePins, Equations, ModuleTree}
use Prim.Native.String.{String}
use Rattle.std.specs.Prelude.{ℕ, false, Option, None, Some, List, [], ◌∷◌, codes}
use Rattle.abel_tree.specs.declared.words.Extension.TheVariants as extension
use Rattle.abel_tree.specs.declared.words.Sign.TheVariants as sign
use Rattle.abel_tree.specs.declared.words.Word.{Word}
use Rattle.netlist_laws.specs.FittedExample.{example_fuses}
use Rattle.netlist_laws.specs.ModuleCovers.{HasPrimeRows}

-- no place in particular
abbrev pub anywhere : Place
anywhere = record { line = 1; column = 1 }

abbrev pub word : String → Word
word text = record { text = codes text; place = anywhere }

-- one pin with its attributes
abbrev pub pin : String → ℕ → (attributes : List Word) → Declaration
pin name number attributes =
    SomePins (record { negated = false; first = word name; last = None } ∷ [])
    (record { first = record { value = number; place = anywhere }; last = None } ∷ [])
    attributes

-- the value of one name is given to another
abbrev pub gives : String → Option Extension → Sign → String → Statement
gives target e s value = AnAssign anywhere false (AName (word target) e) s anywhere (AName (word value) None)

-- a pin 1; Q pin 9 istype 'invert'; r pin 2; equations Q := a; Q.AR = r;
abbrev pub example_module : ModuleTree
example_module =
    record {
      place = anywhere;
      name = word "m";
      title = None;
      options = [];
      decls = pin "a" 1 [] ∷ pin "Q" 9 (word "'invert'" ∷ []) ∷ pin "r" 2 [] ∷ [];
      sections = Equations (gives "Q" None sign.Clocked "a" ∷ gives "Q" (Some extension.Ar) sign.Equal "r" ∷ []) ∷ [];
    }

-- the rows of Q in these fuses are prime and irredundant for the module
abbrev pub ExampleHasPrimeRows : Type 0
ExampleHasPrimeRows = HasPrimeRows sample example_module example_fuses 0
