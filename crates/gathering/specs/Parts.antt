-- The contributions to a signal, sorted by what they are for, and the bits that are made of them (ABEL-HDL Reference
-- Manual, equations).
use Rattle.std.specs.Prelude.{◌≡◌, ℕ, ◌<◌, ◌≤◌, Bool, false, not, if◌then◌else◌, ◌&&◌, ◌||◌, ◌==◌, Some, is_some, List, [], ◌∷◌, fold, filter, length, All, slice_get}
use Rattle.gathering.specs.Prelude.{same_level, make_not, make_or, Formula, Const, is_data, is_control, is_data_to, is_data_in, is_free_elsewhere, same_gives, view_gives, Contribution}
use Rattle.abel_meaning.specs.Contributions as meant
use Rattle.set_expr.specs.declared.contributions.Gives.TheVariants as gives
use Rattle.gathering.specs.declared.parts.Part.{Part}
use Rattle.gathering.specs.declared.parts.Part.TheVariants as part
use Rattle.gathering.specs.declared.sums.Step.{Step}
use Rattle.gathering.specs.declared.sums.Step.TheVariants as step

-- the contribution is for this part of the signal
abbrev pub is_for : Part → ℕ → meant.Contribution Formula → Bool
is_for (part.Data gives) s c = is_data_to s c && same_gives (view_gives gives) c.gives
is_for (part.DataIn complement gives) s c = is_data_in complement s c && same_gives (view_gives gives) c.gives
is_for (part.Control control) s c = is_control s control c

-- the ids of all of them lie in an arena of that many formulas
abbrev pub AllLieIn : ℕ → List Contribution → Type 0
AllLieIn count cs = All (λ (c : Contribution). c.when.0 < count) cs

-- what was there is under its id
pub record Stands (old new : List Formula) : Type 0 where
  pub keeps : (i : ℕ) (f : Formula) → slice_get old i ≡ Some f → slice_get new i ≡ Some f
  pub longer : length old ≤ length new

-- it holds of every arena that the first has grown from, the place of the contributions, and every one that the second grows
-- to
abbrev pub Throughout : (old new : List Formula) → List Contribution → (List Formula → List Formula → Type 0) → Type 0
Throughout old new cs P =
    (first last : List Formula) → Stands first old → AllLieIn (length first) cs → Stands new last → P first last

-- the contribution is to the signal
abbrev pub is_to : ℕ → Contribution → Bool
is_to s c = c.target.signal == s

-- it is data to the signal; to its complement, or to its name
abbrev pub is_data_of : ℕ → Contribution → Bool
is_data_of s c = is_to s c && is_data c.target.extension

abbrev pub is_data_of_polarity : (complement : Bool) → ℕ → Contribution → Bool
is_data_of_polarity complement s c = is_data_of s c && same_level c.complement complement

-- it is data of a table or diagram that is don't-care for the signal, or no data to it
abbrev pub is_free_one : ℕ → Contribution → Bool
is_free_one s c = not (is_data_of s c) || (is_some c.block && c.dontcare)

-- the sum of those that are for a part, in order, from 0
abbrev pub part_sum : Part → ℕ → List (meant.Contribution Formula) → Formula
part_sum part s cs = fold (λ f (c : meant.Contribution Formula). (make_or f c.holds).what) (Const false) (filter (is_for part s) cs)

-- the bit that is made by steps, 0 after the last one
abbrev pub bit_of : List Step → ℕ → List (meant.Contribution Formula) → Formula
bit_of [] s cs = Const false
bit_of (step.Or part ∷ steps) s cs = (make_or (part_sum part s cs) (bit_of steps s cs)).what
bit_of (step.NotIf complement ∷ steps) s cs = if complement then (make_not (bit_of steps s cs)).what else bit_of steps s cs
bit_of (step.Unmatched ∷ steps) s cs =
    if is_free_elsewhere cs s then (make_not (part_sum (part.Data gives.Match) s cs)).what else bit_of steps s cs
