-- The parts of a name that ends a range.
use Rattle.std.specs.Prelude.{ℕ, ◌+◌, ◌-◌, Option, Some, None, List, if◌then◌else◌, nat_le}
use Rattle.std.specs.Global.{Vec}
use Rattle.abel_tree.specs.Ranges.{last_digits, is_run, number_of, ends_agree, names_between}

-- the number at a place of a range
abbrev pub number_at : (first last : ℕ) → (k : ℕ) → ℕ
number_at i j k = if nat_le i j then i + k else i - k

-- the number that the digits at a name's end write, if they are a run
abbrev pub end_number : List ℕ → Option ℕ
end_number name = if is_run (last_digits name) then Some (number_of (last_digits name)) else None

-- the names of a range whose ends agree
abbrev pub names_if_agree : (first last : List ℕ) → Option (List (List ℕ))
names_if_agree first last = if ends_agree first last then Some (names_between first last) else None

-- the bytes of a name
abbrev pub name_items : Vec ℕ → List ℕ
name_items n = n.items
