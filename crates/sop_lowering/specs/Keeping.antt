-- Private: lists kept by id and polarity (this project's rule).
use Rattle.std.specs.Prelude.{◌≡◌, ◌<◌, ◌≤◌, ◌⊎◌, ℕ, ◌+◌, ◌==◌, if◌then◌else◌, Option, None, Some, List, length, get_or, All, Result, Ok, Err}
use Rattle.sop_lowering.specs.Prelude.{count_by, Netlist, ExprId, arena, formula_at, Cube}
use Rattle.std.specs.Option.{option_map}
use Rattle.std.specs.Global.{Vec}
use Rattle.sop_lowering.specs.declared.fault.LowerFault.{LowerFault}
use Rattle.sop_lowering.specs.declared.kept.Kept.{Kept}
use Rattle.sop_lowering.specs.declared.kept.SignedBit.{SignedBit}
use Rattle.sop_lowering.specs.declared.uses.Uses.{Uses}
use Rattle.sop_lowering.specs.declared.walking.Step.{Step}
use Rattle.sop_lowering.specs.declared.walking.Step.TheVariants.{Make, Walk}
use Rattle.sop_lowering.specs.Lowering.{CanLower, Fails, HasPair}
use Rattle.sop_lowering.specs.Products.{Products}
use Rattle.sop_lowering.specs.Through.{EachLeaf, OfLeaf, ReachesThrough}
use Rattle.sop_lowering.specs.Written.{bit_list}

-- the products of a list that may be there
abbrev pub products_of : Option (Vec Cube) → Products
products_of rows = option_map (λ (v : Vec Cube). v.items) rows

-- those kept at an id
abbrev pub products_at : List (Option (Vec Cube)) → ExprId → Products
products_at lists id = products_of (get_or lists id.0 None)

-- those kept of a bit in a polarity
abbrev pub kept_at : Kept → SignedBit → Products
kept_at kept bit = if bit.positive then products_at kept.positive.items bit.id else products_at kept.negative.items bit.id

-- nothing is kept
abbrev pub KeepsNone : Kept → Type 0
KeepsNone kept = (bit : SignedBit) → kept_at kept bit ≡ None

-- what is kept was kept, or is the list of this bit
abbrev pub Puts : (old new : Kept) → SignedBit → Option (Vec Cube) → Type 0
Puts old new bit rows =
    (other : SignedBit) (list : List Cube) → kept_at new other ≡ Some list
    → (kept_at old other ≡ Some list) ⊎ ((other ≡ bit) × (products_of rows ≡ Some list))

-- the list of a bit in a polarity
abbrev pub signed_list : Netlist → SignedBit → Products
signed_list net bit = bit_list net bit.id bit.positive

-- each list that is kept is that of its bit, and within the limit
abbrev pub AreRight : Netlist → Kept → Type 0
AreRight net kept =
    (bit : SignedBit) (rows : List Cube) → kept_at kept bit ≡ Some rows
    → (signed_list net bit ≡ Some rows) × (length rows ≤ 1024)

-- the id lies in the arena, and every pin and Q that its formula reaches through so many nodes, which are no more than
-- there are, has a pair
abbrev pub CanReach : Netlist → (turns : ℕ) → ExprId → Type 0
CanReach net turns id =
    (id.0 < length (arena net.exprs))
    × (turns ≤ length net.nodes)
    × EachLeaf (OfLeaf (HasPair net) (ReachesThrough net (HasPair net) turns)) (formula_at (arena net.exprs) id)

-- the list of the first is made of that of the second, which can be lowered: if this one is too wide, so is the first
abbrev pub Leads : Netlist → (bit operand : SignedBit) → Type 0
Leads net bit operand = CanLower net operand.id × (signed_list net operand ≡ None → signed_list net bit ≡ None)

-- the bit that a step is about
abbrev pub bit_of : Step → SignedBit
bit_of (Walk bit) = bit
bit_of (Make bit) = bit

-- the list of the first is made of those of each step's bit
abbrev pub StepsLead : Netlist → SignedBit → List Step → Type 0
StepsLead net root steps = All (λ (step : Step). Leads net root (bit_of step)) steps

-- how many lists have no use yet
abbrev pub unused_in : List ℕ → ℕ
unused_in uses = count_by (λ n. n == 0) uses

-- in both polarities
abbrev pub unused : Uses → ℕ
unused uses = unused_in uses.positive.items + unused_in uses.negative.items

-- an error says that the list is too wide, or nothing
abbrev pub IsWide : {A : Type 0} → Result A LowerFault → Products → Type 0
IsWide (Ok r) list = Unit {0}
IsWide (Err e) list = Fails e list
