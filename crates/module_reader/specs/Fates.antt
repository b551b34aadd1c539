-- The fate of a text is one (this project's rule).
use Rattle.std.specs.Prelude.{◌≡◌, ◌≢◌, ℕ, List}
use Rattle.abel_tree.specs.Tree.{ModuleTree}
use Rattle.module_reader.specs.declared.fault.ReadFault.{ReadFault}
use Rattle.module_reader.specs.declared.fault.ReadFault.TheVariants.{OutOfMemory}
use Rattle.module_reader.specs.Texts.{SpellsModule, IsRead, IsUnread}

-- a text that is read is refused only for lack of memory
abbrev pub TextIsReadOrNot : Type 0
TextIsReadOrNot = (text : List ℕ) (m : ModuleTree) (f : ReadFault) → f ≢ OutOfMemory → IsRead text m → IsUnread text f → ⊥

-- all refusals of a text except lack of memory are one
abbrev pub TextHasOneRefusal : Type 0
TextHasOneRefusal = (text : List ℕ) (f g : ReadFault) → f ≢ OutOfMemory → g ≢ OutOfMemory → IsUnread text f → IsUnread text g → f ≡ g

-- the modules that a text spells, however deep they nest, are one
abbrev pub TextSpellsOneModule : Type 0
TextSpellsOneModule = (text : List ℕ) (a b : ModuleTree) → SpellsModule text a → SpellsModule text b → a ≡ b
