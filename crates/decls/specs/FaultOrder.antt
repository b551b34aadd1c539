-- The order of the refusals of names: by place, and at one place by kind (this project's rule).
use Rattle.std.specs.Prelude.{ℕ}
use Rattle.decls.specs.Prelude.{Place, Ranks}
use Rattle.abel_tree.specs.FirstRefusal.{nowhere}
use Rattle.decls.specs.declared.fault.NameFault.{NameFault}
use Rattle.decls.specs.declared.fault.NameFault.TheVariants as fault

abbrev pub place_of : NameFault → Place
place_of (fault.Redeclared p name) = p
place_of (fault.UnknownDevice p) = p
place_of (fault.BadRange p) = p
place_of (fault.BadPin p name) = p
place_of (fault.PinTaken p name) = p
place_of (fault.BadAttribute p) = p
place_of (fault.TooManyNodes p name) = p
place_of (fault.Undeclared p name) = p
place_of fault.OutOfMemory = nowhere

abbrev pub rank_of : NameFault → ℕ
rank_of (fault.Redeclared p name) = 0
rank_of (fault.UnknownDevice p) = 1
rank_of (fault.BadRange p) = 2
rank_of (fault.BadPin p name) = 3
rank_of (fault.PinTaken p name) = 4
rank_of (fault.BadAttribute p) = 5
rank_of (fault.TooManyNodes p name) = 6
rank_of (fault.Undeclared p name) = 7
rank_of fault.OutOfMemory = 8

abbrev pub name_order : Ranks NameFault
name_order = record { place = place_of; rank = rank_of }
