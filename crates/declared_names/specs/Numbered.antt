-- The numbers of names, and the values of constants.
use Rattle.std.specs.Prelude.{◌≡◌, ℕ, Option, None, Some, List, if◌then◌else◌, nat_lt, bytes_eq}
use Rattle.declared_names.specs.Prelude.{Kind, APin, ANode, AConstant, ADeviceName, Entry, find, Tree}
use Rattle.std.specs.Global.{Vec}
use Rattle.std.specs.Map.{lookup}
use Rattle.declared_names.specs.declared.numbers.Numbers.{Numbers}

-- the value of a name, if it is a constant
abbrev pub value_of : Kind → Option Tree
value_of (APin pin negated) = None
value_of (ANode number) = None
value_of (AConstant value) = Some value
value_of ADeviceName = None

abbrev pub value_at : Option Entry → Option Tree
value_at None = None
value_at (Some e) = value_of e.kind

-- the number, if it is below the limit
abbrev pub below : (limit : ℕ) → Option ℕ → Option ℕ
below limit None = None
below limit (Some j) = if nat_lt j limit then Some j else None

-- the number of a name in a map
abbrev pub number_in : List (Vec ℕ × ℕ) → List ℕ → Option ℕ
number_in rows name = lookup (λ k. bytes_eq name k.items) rows

-- the first of two numbers
abbrev pub earlier_number : Option ℕ → Option ℕ → Option ℕ
earlier_number None m = m
earlier_number (Some n) m = Some n

-- the number of one name alone
abbrev pub number_of_name : List ℕ → ℕ → List ℕ → Option ℕ
number_of_name name n other = if bytes_eq other name then Some n else None

-- the numbers are those of these names
abbrev pub IsNumbering : Numbers → List Entry → Type 0
IsNumbering ns es = (name : List ℕ) → number_in ns.map.entries name ≡ find es name
