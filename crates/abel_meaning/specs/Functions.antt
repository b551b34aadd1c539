-- What all contributions to a signal amount to (ABEL-HDL Reference Manual, equations and don't-care; how contributions to
-- a name are joined with those to its complement is this project's rule).
use Rattle.std.specs.Prelude.{ℕ, ◌==◌, Bool, true, false, not, ◌&&◌, ◌||◌, is_some, if◌then◌else◌, List, fold, filter}
use Rattle.abel_meaning.specs.Prelude.{list_any, list_all, same_level, complement_if, is_data, is_raw}
use Rattle.abel_meaning.specs.Contributions.{Evaluator, Gives, One, Any, Match, Contribution}

-- if a signal is one, and if it may be anything; said of its complement where `complement` is true
pub record Function (W : Type 0) : Type 0 where
  pub one : W
  pub any : W
  pub complement : Bool

-- the contribution is data to the signal
abbrev pub is_data_to : {W : Type 0} → ℕ → Contribution W → Bool
is_data_to s c = c.signal == s && is_data c.extension

-- the same of the three
abbrev pub same_gives : Gives → Gives → Bool
same_gives One One = true
same_gives Any Any = true
same_gives Match Match = true
same_gives _ _ = false

-- some contribution of the list holds
abbrev pub some_holds : {W : Type 0} → Evaluator W → List (Contribution W) → W
some_holds ev cs = fold (λ w c. ev.either w c.holds) (ev.constant false) cs

-- some contribution of this kind to the signal holds
abbrev pub gives_some : {W : Type 0} → Evaluator W → List (Contribution W) → Gives → ℕ → W
gives_some {W} ev cs gives s =
    some_holds ev (filter (λ (c : Contribution W). is_data_to s c && same_gives gives c.gives) cs)

-- no equation outside a diagram assigns the signal, and each table and diagram that does is don't-care for it
abbrev pub is_free_elsewhere : {W : Type 0} → List (Contribution W) → ℕ → Bool
is_free_elsewhere {W} cs s =
    list_any (is_data_to s) cs
    && list_all (λ (c : Contribution W). not (is_data_to s c) || (is_some c.block && c.dontcare)) cs

-- anything, also if none of those tables and diagrams matches
abbrev pub any_of : {W : Type 0} → Evaluator W → List (Contribution W) → ℕ → W
any_of ev cs s =
    if is_free_elsewhere cs s then ev.either (gives_some ev cs Any s) (ev.not (gives_some ev cs Match s))
    else gives_some ev cs Any s

-- data are to the complement; all are, if the signal is assigned in one polarity
abbrev pub is_complement : {W : Type 0} → List (Contribution W) → ℕ → Bool
is_complement {W} cs s = list_any (λ (c : Contribution W). is_data_to s c && c.complement) cs

-- they are all to the name, or all to the raw input of its register
abbrev pub is_raw_signal : {W : Type 0} → List (Contribution W) → ℕ → Bool
is_raw_signal {W} cs s = list_any (λ (c : Contribution W). is_data_to s c && is_raw c.extension) cs

-- what they amount to if all data are of one polarity, or there aren't any
abbrev pub single_function : {W : Type 0} → Evaluator W → List (Contribution W) → ℕ → Function W
single_function ev cs s =
    record { one = gives_some ev cs One s; any = any_of ev cs s; complement = is_complement cs s }

-- ---- both polarities

-- the contribution is data to the signal's complement, or to its name
abbrev pub is_data_in : {W : Type 0} → (complement : Bool) → ℕ → Contribution W → Bool
is_data_in complement s c = is_data_to s c && same_level c.complement complement

-- the signal is assigned in both polarities
abbrev pub is_both : {W : Type 0} → List (Contribution W) → ℕ → Bool
is_both cs s = list_any (is_data_in false s) cs && list_any (is_data_in true s) cs

-- some contribution of this kind and polarity holds
abbrev pub gives_in : {W : Type 0} → Evaluator W → List (Contribution W) → (complement : Bool) → Gives → ℕ → W
gives_in {W} ev cs complement gives s =
    some_holds ev (filter (λ (c : Contribution W). is_data_in complement s c && same_gives gives c.gives) cs)

-- the complement may be anything, also if none of the tables and diagrams matches that are don't-care for the signal
abbrev pub any_against : {W : Type 0} → Evaluator W → List (Contribution W) → ℕ → W
any_against ev cs s =
    if is_free_elsewhere cs s then ev.either (gives_in ev cs true Any s) (ev.not (gives_some ev cs Match s))
    else gives_in ev cs true Any s

-- what they amount to, said of the name: it is 1 if a contribution to it is, and if the complement is 0; it may be
-- anything if a contribution to it may, and if the complement isn't 1
abbrev pub both_function : {W : Type 0} → Evaluator W → List (Contribution W) → ℕ → Function W
both_function ev cs s =
    record {
      one = ev.either (gives_in ev cs false One s) (ev.not (ev.either (gives_in ev cs true One s) (any_against ev cs s)));
      any = ev.either (gives_in ev cs false Any s) (ev.not (gives_in ev cs true One s));
      complement = false;
    }

-- ---- what they allow

-- what the contributions to a signal amount to
abbrev pub function_of : {W : Type 0} → Evaluator W → List (Contribution W) → ℕ → Function W
function_of ev cs s = if is_both cs s then both_function ev cs s else single_function ev cs s

-- the values {1}, {0, 1} or {0}
abbrev pub allows_plain : (one any value : Bool) → Bool
allows_plain true any value = value
allows_plain false true value = true
allows_plain false false value = not value

-- the signal may have this value
abbrev pub allows : Function Bool → Bool → Bool
allows f value = allows_plain f.one f.any (complement_if f.complement value)

-- the value of the signal where `any` counts as 0
abbrev pub value_with_any_0 : Function Bool → Bool
value_with_any_0 f = complement_if f.complement f.one

-- a function seen through a map of what it is over
abbrev pub function_seen : {V W : Type 0} → (V → W) → Function V → Function W
function_seen h f = record { one = h f.one; any = h f.any; complement = f.complement }
