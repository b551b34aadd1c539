-- What making units leaves, and why it stops (this project's rule).
use Rattle.std.specs.Prelude.{◌≡◌, ℕ, ◌<◌, Option, List, [], ◌∷◌, All, length, map, unwrap_or, Result, Ok, Err}
use Rattle.section_targets.specs.Prelude.{Place, ExprId, Node, arena, formula_at, Formula, Contribution, Contributions, SectionFault}
use Rattle.abel_meaning.specs.Contributions as meant
use Rattle.set_expr.specs.declared.fault.SectionFault.TheVariants as fault
use Rattle.section_targets.specs.Appending.{Leaves, Contributed}
use Rattle.section_targets.specs.Units.{CountedUnit, units_refused, units_nodes, limit_refused}

-- why making these units in an arena of that many formulas stops: memory is out, or one passes the limit
pub data Stops (f : SectionFault) (count : ℕ) (us : List CountedUnit) : Type 0 where
  NoMemory : f ≡ fault.OutOfMemory → Stops f count us
  AtLimit : limit_refused count us ≡ f ∷ [] → Stops f count us

-- units are made: none is refused or passes the limit
pub record IsBuilt (us : List CountedUnit) (gs : List (meant.Contribution Formula)) (ps : List Place)
    (old new : Contributions) : Type 0 where
  pub accepted : units_refused us ≡ []
  pub within : limit_refused (length (arena old.exprs)) us ≡ []
  pub made : Contributed old new gs ps (units_nodes us)

-- making units in order stops with this refusal
abbrev pub StopsWith : List CountedUnit → List (meant.Contribution Formula) → List Place → (old new : Contributions)
    → SectionFault → Type 0
StopsWith us gs ps old new f = Stops f (length (arena old.exprs)) us × Leaves old new gs ps

-- what is left by making units in order, which give this at these places
abbrev pub Builds : {R : Type 0} → List CountedUnit → List (meant.Contribution Formula) → List Place
    → (old new : Contributions) → Result R SectionFault → Type 0
Builds us gs ps old new (Ok r) = IsBuilt us gs ps old new
Builds us gs ps old new (Err f) = StopsWith us gs ps old new f

-- what is left by making nodes alone, in parts of one unit
abbrev pub BuildsNodes : {R : Type 0} → List CountedUnit → (old new : List Node) → Result R SectionFault → Type 0
BuildsNodes us old new r =
    (list : List Contribution)
    → Builds us [] [] (record { exprs = old; list = list }) (record { exprs = new; list = list }) r

-- the bit of an id in the arena
abbrev pub IsBit : List Formula → ExprId → Formula → Type 0
IsBit fs id f = (id.0 < length fs) × (formula_at fs id ≡ f)

-- the bits of ids in the arena
abbrev pub AreBits : List Formula → List ExprId → List Formula → Type 0
AreBits fs ids gs = All (λ (id : ExprId). id.0 < length fs) ids × (map (formula_at fs) ids ≡ gs)

-- the ids of positions, that of 0 at X
abbrev pub known_ids : List (Option ExprId) → List ExprId
known_ids places = map (λ (o : Option ExprId). unwrap_or o (record { 0 = 0 })) places
