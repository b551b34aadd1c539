-- Private: work has a weight, which falls at each turn of the walk (this project's rule).
use Rattle.std.specs.Prelude.{ℕ, zero, suc, ◌+◌, ◌==◌, Option, None, Some, List, [], ◌∷◌, if◌then◌else◌, map, slice_get}
use Rattle.expr_bits.specs.Prelude.{AConstant, Kind, find, range_names, ABinary, AName, ANumber, AParen, ASet, ASpecial, AUnary, Members, MoreMembers, NoMember, OneMember, SetMember, SpanMember, Entry, Tree, members_of, view, view_member}
use Rattle.expr_bits.specs.declared.work.Work.{Work}
use Rattle.expr_bits.specs.declared.work.Work.TheVariants as work

-- the names of a range
abbrev pub range_weight : (name : List ℕ → ℕ) → List (List ℕ) → ℕ
range_weight name [] = 0
range_weight name (n ∷ ns) = 1 + (name n + range_weight name ns)

-- an expression weighs more than the work on its parts, by what each name weighs
abbrev mutual
  pub tree_weight : (name : List ℕ → ℕ) → Tree → ℕ
  tree_weight name (ANumber n) = 2
  tree_weight name (ASpecial letter place) = 2
  tree_weight name (AName word e) = 1 + name word.text
  tree_weight name (ASet place ms e) = 1 + members_weight name ms
  tree_weight name (AParen place t) = 1 + tree_weight name t
  tree_weight name (AUnary sign place t) = 2 + tree_weight name t
  tree_weight name (ABinary sign place t u) = 2 + (tree_weight name t + tree_weight name u)

  pub members_weight : (name : List ℕ → ℕ) → Members → ℕ
  members_weight name NoMember = 2
  members_weight name (MoreMembers m ms) = 1 + (member_weight name m + members_weight name ms)

  pub member_weight : (name : List ℕ → ℕ) → SetMember → ℕ
  member_weight name (OneMember t) = 1 + tree_weight name t
  member_weight name (SpanMember first last) = range_weight name (range_names first.text last.text)

-- ---- names

-- what a name is declared as
abbrev pub kind_weight : (name : List ℕ → ℕ) → Kind → ℕ
kind_weight name (AConstant t) = tree_weight name t
kind_weight name _ = 1

abbrev pub entry_weight : (name : List ℕ → ℕ) → Option Entry → ℕ
entry_weight name None = 1
entry_weight name (Some x) = kind_weight name x.kind

abbrev pub found_weight : (number : ℕ → ℕ) → Option ℕ → ℕ
found_weight number None = 0
found_weight number (Some k) = number k

-- a name with this text, by what each number weighs
abbrev pub text_weight : List Entry → (number : ℕ → ℕ) → List ℕ → ℕ
text_weight es number text = 1 + found_weight number (find es text)

-- the name with this number, by what the numbers before it weigh
abbrev pub declared_weight : List Entry → (number : ℕ → ℕ) → ℕ → ℕ
declared_weight es number k = 1 + entry_weight (text_weight es number) (slice_get es k)

-- the name with this number if it is among the first, 0 if it isn't
abbrev pub number_weight : List Entry → (count : ℕ) → ℕ → ℕ
number_weight es zero k = 0
number_weight es (suc n) k = if k == n then declared_weight es (λ j. number_weight es n j) n else number_weight es n k

-- a name with this text, over so many of the names
abbrev pub name_weight : List Entry → (count : ℕ) → List ℕ → ℕ
name_weight es count text = text_weight es (λ k. number_weight es count k) text

-- the name with this number, over those before it
abbrev pub named_weight : List Entry → (number : ℕ) → ℕ
named_weight es k = declared_weight es (λ j. number_weight es k j) k

-- ---- work

abbrev pub work_weight : List Entry → Work → ℕ
work_weight es (work.Whole expr o) = tree_weight (λ text. name_weight es o.count text) (view expr.now)
work_weight es (work.Members ms o) = members_weight (λ text. name_weight es o.count text) (members_of (map view_member ms.now))
work_weight es (work.Named k e) = named_weight es k
work_weight es (work.Do s) = 1

-- a stack of work
abbrev pub stack_weight : List Entry → List Work → ℕ
stack_weight es [] = 0
stack_weight es (w ∷ ws) = work_weight es w + stack_weight es ws
