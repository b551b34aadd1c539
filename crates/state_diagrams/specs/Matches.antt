-- The matches that a diagram gives to signals that are no registers of it (ABEL-HDL Reference Manual, state diagrams; at
-- which places is this project's rule).
use Rattle.std.specs.Prelude.{ℕ, ◌==◌, not, ◌&&◌, Option, None, Some, List, [], ◌∷◌, ◌++◌, if◌then◌else◌, map, replicate, Bool, true, false}
use Rattle.state_diagrams.specs.Prelude.{list_any, Place, Context, name_at, is_other, ExprId}
use Rattle.abel_meaning.specs.Contributions.{is_dontcare}
use Rattle.abel_meaning.specs.Contributions as meant
use Rattle.abel_tree.specs.Extensions.{is_data}
use Rattle.set_expr.specs.declared.contributions.Contribution.{Contribution}
use Rattle.set_expr.specs.declared.contributions.Gives.TheVariants as gives

-- one of these signals
abbrev pub is_among : List ℕ → (signal : ℕ) → Bool
is_among ss s = list_any (λ t. s == t) ss

-- a contribution as a block under this guard gives it
abbrev pub regarded : {W : Type 0} → Context → meant.Guard W → meant.Contribution W → meant.Contribution W
regarded d g c = record c { block = g.block; dontcare = is_dontcare g (name_at d c.signal) g.block }

-- the signal of data to one that is no register
abbrev pub other_signal : {W : Type 0} → (registers : List ℕ) → meant.Contribution W → Option ℕ
other_signal ss c = if is_other ss c then Some c.signal else None

-- of such signals, each at its place, the places of those that are first, so many times
abbrev pub other_places : (before : List ℕ) → (states : ℕ) → List (Option ℕ) → List Place → List Place
other_places before n [] ps = []
other_places before n (o ∷ os) [] = []
other_places before n (None ∷ os) (p ∷ ps) = other_places before n os ps
other_places before n (Some s ∷ os) (p ∷ ps) =
    (if is_among before s then [] else replicate n p) ++ other_places (s ∷ before) n os ps

-- data to a signal that wasn't seen
abbrev pub is_first : (seen : List ℕ) → Contribution → Bool
is_first seen c = is_data c.target.extension && not (is_among seen c.target.signal)

-- a match beside a contribution, if the bit is 1
abbrev pub pushed_beside : Contribution → ExprId → Contribution
pushed_beside c id =
    record c { target = record { signal = c.target.signal; extension = None }; what = gives.Match; when = id }

-- for a first one, a match at each bit
abbrev pub pushed_if : (first : Bool) → List ExprId → Contribution → List Contribution
pushed_if true ids c = map (pushed_beside c) ids
pushed_if false ids c = []

-- the signals that are seen with it
abbrev pub seen_if : (first : Bool) → List ℕ → Contribution → List ℕ
seen_if true seen c = seen ++ c.target.signal ∷ []
seen_if false seen c = seen

-- what is pushed for several contributions, after the signals that were seen
abbrev pub pushed_for : List ExprId → (seen : List ℕ) → List Contribution → List Contribution
pushed_for ids seen [] = []
pushed_for ids seen (c ∷ cs) =
    pushed_if (is_first seen c) ids c ++ pushed_for ids (seen_if (is_first seen c) seen c) cs
