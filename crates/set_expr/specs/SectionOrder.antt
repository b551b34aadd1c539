-- The order of the refusals of sections: by place, and at one place by kind (this project's rule).
use Rattle.std.specs.Prelude.{ℕ}
use Rattle.set_expr.specs.Prelude.{Place, Ranks}
use Rattle.abel_tree.specs.FirstRefusal.{nowhere}
use Rattle.set_expr.specs.declared.fault.SectionFault.{SectionFault}
use Rattle.set_expr.specs.declared.fault.SectionFault.TheVariants as fault

abbrev pub place_of : SectionFault → Place
place_of (fault.MisplacedSpecial p) = p
place_of (fault.NotConstant p) = p
place_of (fault.ZeroDivisor p) = p
place_of (fault.BadWidth p) = p
place_of (fault.NotAnOutput p name) = p
place_of (fault.MixedAssignment p name) = p
place_of (fault.BadRow p) = p
place_of (fault.BadState p) = p
place_of (fault.BadVector p) = p
place_of (fault.NodeLimit p) = p
place_of fault.OutOfMemory = nowhere

abbrev pub rank_of : SectionFault → ℕ
rank_of (fault.MisplacedSpecial p) = 0
rank_of (fault.NotConstant p) = 1
rank_of (fault.ZeroDivisor p) = 2
rank_of (fault.BadWidth p) = 3
rank_of (fault.NotAnOutput p name) = 4
rank_of (fault.MixedAssignment p name) = 5
rank_of (fault.BadRow p) = 6
rank_of (fault.BadState p) = 7
rank_of (fault.BadVector p) = 8
rank_of (fault.NodeLimit p) = 9
rank_of fault.OutOfMemory = 10

abbrev pub section_order : Ranks SectionFault
section_order = record { place = place_of; rank = rank_of }
