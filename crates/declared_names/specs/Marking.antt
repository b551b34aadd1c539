-- Marks of names: a target on the clock and a read of Q mark strongly, any other plainly (ABEL-HDL Reference Manual, equations
-- and dot extensions).
use Rattle.std.specs.Prelude.{ℕ, zero, suc, Bool, true, false, ◌||◌, List, fold, set, get_or}
use Rattle.declared_names.specs.Prelude.{Assigned}
use Rattle.declared_names.specs.declared.marks.Mark.{Mark}

-- nothing names it
abbrev pub clear : Mark
clear = record { plain = false; strong = false }

-- something does
abbrev pub is_marked : Mark → Bool
is_marked m = m.plain || m.strong

-- it is named once more
abbrev pub raised : (strong : Bool) → Mark → Mark
raised true m = record { plain = m.plain; strong = true }
raised false m = record { plain = true; strong = m.strong }

-- the marks of all names, with one name's raised
abbrev pub hit : (strong : Bool) → List Mark → ℕ → List Mark
hit strong ms k = set ms k (raised strong (get_or ms k clear))

-- what is assigned or read is marked: strongly what is reported as on the clock
abbrev pub marked : List Mark → Assigned → List Mark
marked ms a = hit a.clocked ms a.signal

abbrev pub all_marked : List Mark → List Assigned → List Mark
all_marked ms found = fold marked ms found

-- what all names below a number give by their marks, the last one first
abbrev pub passed : (gives : ℕ → Mark → List Assigned) → ℕ → List Mark → List Mark
passed gives zero ms = ms
passed gives (suc k) ms = passed gives k (all_marked ms (gives k (get_or ms k clear)))
