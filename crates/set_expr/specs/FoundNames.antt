-- What is refused of expressions over names; a constant represents its expression (ABEL-HDL Reference Manual,
-- constants and sets).
use Rattle.std.specs.Prelude.{ℕ, Bool, true, false, Option, None, Some, List, [], ◌∷◌, ◌++◌, if◌then◌else◌, unwrap_or, bytes_eq, codes}
use Rattle.set_expr.specs.Prelude.{Place, Kind, APin, ANode, AConstant, ADeviceName, Entry, Tree, ANumber, ASpecial, AName, ASet, AParen, AUnary, ABinary, SetMember, OneMember, SpanMember, Members, NoMember, MoreMembers, Single, Value, plain_value}
use Rattle.abel_tree.specs.Ranges.{range_names}
use Rattle.set_expr.specs.declared.fault.SectionFault.{SectionFault}
use Rattle.set_expr.specs.declared.fault.SectionFault.TheVariants.{MisplacedSpecial}
use Rattle.set_expr.specs.Refusals.{Found, found_both, found_under, found_set}

-- what is known of a name: what is found of it at its declaration, and whether it represents `.C.` or `.Z.`
pub record NameFound : Type 0 where
  pub name : List ℕ
  pub found : Found
  pub is_pulse : Bool

-- nothing is refused of a value without X positions
abbrev pub found_value : Value → Found
found_value v = record { refusals = []; specials = []; value = Some v }

-- refused at one place
abbrev pub refused_there : SectionFault → Found
refused_there r = record { refusals = r ∷ []; specials = []; value = None }

-- a signal has one position; that it has no level here changes nothing
abbrev pub one_position : (unknown : Bool) → Value
one_position x = record { shape = Single; number = 0; unknown = x ∷ [] }

-- `.X.`, and else `.C.` or `.Z.`
abbrev pub found_special : (letter : ℕ) → Place → Found
found_special letter p =
    if bytes_eq (letter ∷ []) (codes "X")
    then record { refusals = []; specials = MisplacedSpecial p ∷ []; value = Some (one_position true) }
    else refused_there (MisplacedSpecial p)

-- what X positions after a name are refused as: one refusal, at the name
abbrev pub at_name : Place → List SectionFault → List SectionFault
at_name p [] = []
at_name p (x ∷ xs) = MisplacedSpecial p ∷ []

-- a name that is used at this place
abbrev pub found_use : Place → NameFound → Found
found_use p n =
    if n.is_pulse then refused_there (MisplacedSpecial p)
    else record n.found { specials = at_name p n.found.specials }

-- a name that isn't declared is a number
abbrev pub nothing_found : NameFound
nothing_found = record { name = []; found = found_value (plain_value 0); is_pulse = false }

-- what is known of a name, none if it isn't declared
abbrev pub named : List NameFound → List ℕ → Option NameFound
named [] name = None
named (n ∷ ns) name = if bytes_eq name n.name then Some n else named ns name

abbrev pub name_found : List NameFound → List ℕ → NameFound
name_found ns name = unwrap_or (named ns name) nothing_found

-- the names of a range before other members, all at the place of its first end
abbrev pub range_found : List NameFound → Place → List (List ℕ) → List Found → List Found
range_found ns p [] fs = fs
range_found ns p (name ∷ names) fs = found_use p (name_found ns name) ∷ range_found ns p names fs

-- what is found of an expression over these names
abbrev mutual
  pub found_of : List NameFound → Tree → Found
  found_of ns (ANumber n) = found_value (plain_value n.value)
  found_of ns (ASpecial letter p) = found_special letter p
  found_of ns (AName word e) = found_use word.place (name_found ns word.text)
  found_of ns (ASet p ms e) = found_set p (all_found ns ms)
  found_of ns (AParen p t) = found_of ns t
  found_of ns (AUnary sign p t) = found_under sign (found_of ns t)
  found_of ns (ABinary sign p t u) = found_both sign p (found_of ns t) (found_of ns u)

  pub all_found : List NameFound → Members → List Found
  all_found ns NoMember = []
  all_found ns (MoreMembers m ms) = found_before ns m (all_found ns ms)

  pub found_before : List NameFound → SetMember → List Found → List Found
  found_before ns (OneMember t) fs = found_of ns t ∷ fs
  found_before ns (SpanMember first last) fs = range_found ns first.place (range_names first.text last.text) fs

-- the expression is `.C.` or `.Z.` itself, up to parentheses: the name of a constant that is may be in a row of
-- vectors alone
abbrev pub is_pulse : Tree → Bool
is_pulse (ASpecial letter p) = if bytes_eq (letter ∷ []) (codes "X") then false else true
is_pulse (AParen p t) = is_pulse t
is_pulse _ = false

-- a constant's expression is refused nothing if it is `.C.` or `.Z.`
abbrev pub found_constant : (pulse : Bool) → Found → Found
found_constant true f = found_value (plain_value 0)
found_constant false f = f

-- what a declared name represents
abbrev pub found_kind : List NameFound → Kind → Found
found_kind ns (APin pin negated) = found_value (one_position false)
found_kind ns (ANode number) = found_value (one_position false)
found_kind ns (AConstant t) = found_constant (is_pulse t) (found_of ns t)
found_kind ns ADeviceName = found_value (plain_value 0)

abbrev pub is_pulse_kind : Kind → Bool
is_pulse_kind (AConstant t) = is_pulse t
is_pulse_kind _ = false

-- what is known of an entry after these names
abbrev pub found_entry : List NameFound → Entry → NameFound
found_entry ns e = record { name = e.name; found = found_kind ns e.kind; is_pulse = is_pulse_kind e.kind }

-- what is known after more entries
abbrev pub found_after : List NameFound → List Entry → List NameFound
found_after ns [] = ns
found_after ns (e ∷ es) = found_after (ns ++ found_entry ns e ∷ []) es

-- what is known of all names
abbrev pub names_found : List Entry → List NameFound
names_found es = found_after [] es

-- the refusals of all constants, at their own places
abbrev pub found_refusals : List NameFound → List SectionFault
found_refusals [] = []
found_refusals (n ∷ ns) = n.found.refusals ++ found_refusals ns

abbrev pub constants_refused : List Entry → List SectionFault
constants_refused es = found_refusals (names_found es)

-- what is found of an expression over declared names
abbrev pub expression_found : List Entry → Tree → Found
expression_found es t = found_of (names_found es) t
