-- The first of several refusals (this project's rule): by place in the source, and at one place by rank.
use Rattle.std.specs.Prelude.{ℕ, Bool, ◌==◌, nat_lt, if◌then◌else◌, List, [], ◌∷◌, Option, Some, None}
use Rattle.pld_base.specs.declared.place.Place.{Place}

-- how the refusals of a phase are ordered: the place of each, and which is first at one place
pub record Ranks (F : Type 0) : Type 0 where
  pub place : F → Place
  pub rank : F → ℕ

-- the place of what has none: lack of memory
abbrev pub nowhere : Place
nowhere = record { line = 0; column = 0 }

-- places by themselves
abbrev pub place_order : Ranks Place
place_order = record { place = λ p. p; rank = λ p. 0 }

-- three numbers before three others: the first that differ decide
abbrev pub sooner : (a b c x y z : ℕ) → Bool
sooner a b c x y z = if a == x then (if b == y then nat_lt c z else nat_lt b y) else nat_lt a x

-- one refusal precedes another: by line, by column, by rank
unfoldable pub is_before : {F : Type 0} → Ranks F → F → F → Bool
is_before o f g =
    sooner (o.place f).line (o.place f).column (o.rank f) (o.place g).line (o.place g).column (o.rank g)

-- the first of two that may be none, the left one if they are equal in order
abbrev pub earlier : {F : Type 0} → Ranks F → Option F → Option F → Option F
earlier o None g = g
earlier o (Some f) None = Some f
earlier o (Some f) (Some g) = if is_before o g f then Some g else Some f

-- the first of a list
abbrev pub first_refusal : {F : Type 0} → Ranks F → List F → Option F
first_refusal o [] = None
first_refusal o (f ∷ fs) = earlier o (Some f) (first_refusal o fs)
