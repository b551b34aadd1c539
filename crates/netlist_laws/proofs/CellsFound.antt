-- What the netlist of a design asks of a cell is what the signal asks that is assigned on it.
use Rattle.std.proofs.Common.{◌≡◌, ℕ, zero, suc, ◌+◌, ◌<◌, Bool, true, false, ◌==◌, ◌&&◌, eqb, cond, List, [], ◌∷◌, length, get_or, Option, Some, None, refl, sym, ap, ◌∙◌, inl, inr, arith, find, position, if◌then◌else◌}
use Rattle.netlist_laws.proofs.Common.{position_from, option_map, cases_Bool, eqb-true, eqb-false, eq-eqb, ne_eqb, position-Some, Cell, IsDevice, Table, cell_at, no_cell, own_pins, Formula, Kind, APin, ANode, AConstant, ADeviceName, Entry, cell_on, Contribution, is_on_pin, signal_on, Context, name_at, no_name, Wanted, wanted_at, wanted_for, cell_by, cell_of, and_cell, cells_from, gathered_from}
use Rattle.std.proofs.lemmas.Iterator.Adapters.{position_from-zero}

-- the first place is the first from 0 on
pub first_place : {X : Type 0} (p : X → Bool) (xs : List X) → position p xs ≡ position_from p 0 xs
first_place p xs = position_from-zero p xs

-- two numbers are equal, either way round
pub eqb_turned : (a b : ℕ) → eqb a b ≡ eqb b a
eqb_turned a b =
    elim (cases_Bool (eqb a b)) [
      | inl same ↦ same ∙ sym (eq-eqb b a (sym (eqb-true a b same)))
      | inr other ↦ other ∙ sym (ne_eqb b a (λ e. eqb-false a b other (sym e)))
    ]

-- the cell is this one
abbrev pub is_cell : Option ℕ → ℕ → Bool
is_cell None c = false
is_cell (Some other) c = other == c

abbrev pub has_pin : ℕ → Cell → Bool
has_pin pin cell = cell.pin == pin

-- if no first place is found, none passes
pub none_passes : {X : Type 0} (p : X → Bool) (y : X) (xs : List X) (k i : ℕ) → position_from p k xs ≡ None → i < length xs → p (get_or xs i y) ≡ false
none_passes p y [] k i none within = absurd (omega (arith, within))
none_passes p y (x ∷ xs) k i none within =
    elim (cases_Bool (p x)) [
      | inl hit ↦ absurd (found (rw hit at none))
      | inr miss ↦ none_at p y x xs i (λ j less. none_passes p y xs (k + 1) j (rw miss at none) less) miss within
    ]
  where
    found : Some k ≡ None → ⊥
    found e = absurd cc

    none_at : {X : Type 0} (p : X → Bool) (y x : X) (xs : List X) (i : ℕ) → ((j : ℕ) → j < length xs → p (get_or xs j y) ≡ false) → p x ≡ false → i < length (x ∷ xs) → p (get_or (x ∷ xs) i y) ≡ false
    none_at p y x xs zero rest miss less = miss
    none_at p y x xs (suc i) rest miss less = rest i (omega arith)

module _ (t : Table) (laws : IsDevice t) where
  by_found : (pin c : ℕ) → c < length t.cells → (found : Option ℕ) → cell_on t pin ≡ found → is_cell found c ≡ (pin == (cell_at t c).pin)
  by_found pin c within None is =
      sym (eqb_turned pin (cell_at t c).pin ∙ none_passes (has_pin pin) no_cell t.cells 0 c (sym (first_place (has_pin pin) t.cells) ∙ is) within)
  by_found pin c within (Some b) is =
      let at = position-Some (has_pin pin) t.cells b no_cell is in
      let on : (cell_at t b).pin ≡ pin = eqb-true _ _ at.1 in
      elim (cases_Bool (b == c)) [
        | inl same ↦ same ∙ sym (eq-eqb pin (cell_at t c).pin (sym on ∙ ap (λ e. (cell_at t e).pin) (eqb-true b c same)))
        | inr other ↦ other ∙ sym (ne_eqb pin (cell_at t c).pin (λ e. eqb-false b c other ((own_pins t laws).apart b c at.0 within (on ∙ e))))
      ]

  -- the cell on a pin is the one that has it
  pub is_cell_on : (pin c : ℕ) → c < length t.cells → is_cell (cell_on t pin) c ≡ (pin == (cell_at t c).pin)
  is_cell_on pin c within = by_found pin c within (cell_on t pin) refl

  -- the assigned signal is on the cell just if the cell is its own
  assigned_here : (c : ℕ) (x : Entry) (kind : Kind) → c < length t.cells → is_cell (cell_by t x kind) c ≡ (x.assigned && is_on_pin (cell_at t c).pin kind)
  assigned_here c x (APin pin negated) within = by x.assigned
    where
      by : (b : Bool) → is_cell (if b then cell_on t pin else None) c ≡ (b && (pin == (cell_at t c).pin))
      by true = is_cell_on pin c within
      by false = refl
  assigned_here c x (ANode n) within = nothing x.assigned
    where
      nothing : (b : Bool) → false ≡ (b && false)
      nothing true = refl
      nothing false = refl
  assigned_here c x (AConstant value) within = nothing x.assigned
    where
      nothing : (b : Bool) → false ≡ (b && false)
      nothing true = refl
      nothing false = refl
  assigned_here c x ADeviceName within = nothing x.assigned
    where
      nothing : (b : Bool) → false ≡ (b && false)
      nothing true = refl
      nothing false = refl

module _ (d : Context) (cs : List (Contribution Formula)) (laws : IsDevice d.device) (c : ℕ) (within : c < length d.device.cells) where
  abbrev is_here : Entry → Bool
  is_here x = x.assigned && is_on_pin (cell_at d.device c).pin x.kind

  -- what the signal of a number asks of the cell
  abbrev pub wanted_here : ℕ → Wanted
  wanted_here s = wanted_for d cs c s (name_at d s)

  abbrev find_cell : List Wanted → Option Wanted
  find_cell ws = find (λ (w : Wanted). w.cell == c) ws

  found_first : (s : ℕ) (x : Entry) (other : Option ℕ) (rest : List Wanted) → find_cell (and_cell (option_map (λ e. wanted_for d cs e s x) other) rest) ≡ cond (is_cell other c) (Some (wanted_for d cs c s x)) (find_cell rest)
  found_first s x None rest = refl
  found_first s x (Some e) rest =
      elim (cases_Bool (e == c)) [
        | inl hit ↦ rw hit (ap (λ i. Some (wanted_for d cs i s x)) (eqb-true e c hit))
        | inr miss ↦ rw miss refl
      ]

  mapped_cond : (b : Bool) (s : ℕ) (rest : Option ℕ) → cond b (Some (wanted_here s)) (option_map wanted_here rest) ≡ option_map wanted_here (cond b (Some s) rest)
  mapped_cond true s rest = refl
  mapped_cond false s rest = refl

  found_from : (s : ℕ) (xs : List Entry) → ((k : ℕ) → k < length xs → get_or xs k no_name ≡ name_at d (s + k)) → find_cell (cells_from d cs s xs) ≡ option_map wanted_here (position_from is_here s xs)
  found_from s [] names = refl
  found_from s (x ∷ xs) names =
      let rest = found_from (suc s) xs (λ k less. names (suc k) (omega arith) ∙ ap (λ i. name_at d i) (omega arith)) in
      let this : x ≡ name_at d s = names 0 (omega arith) ∙ ap (λ i. name_at d i) (omega arith) in
      found_first s x (cell_of d.device x) (cells_from d cs (suc s) xs)
      ∙ ap (λ b. cond b (Some (wanted_for d cs c s x)) (find_cell (cells_from d cs (suc s) xs))) (assigned_here d.device laws c x x.kind within)
      ∙ ap (λ r. cond (is_here x) (Some (wanted_for d cs c s x)) r) (rest ∙ ap (λ i. option_map wanted_here (position_from is_here i xs)) (omega arith))
      ∙ ap (λ y. cond (is_here x) (Some (wanted_for d cs c s y)) (option_map wanted_here (position_from is_here (s + 1) xs))) this
      ∙ mapped_cond (is_here x) s (position_from is_here (s + 1) xs)

  -- what is asked of the cell is what the signal asks that is assigned on it
  pub wanted_found : wanted_at (gathered_from d cs) c ≡ option_map wanted_here (signal_on d c)
  wanted_found =
      found_from 0 d.names (λ k less. ap (λ i. name_at d i) (omega arith))
      ∙ ap (λ r. option_map wanted_here r) (sym (first_place is_here d.names))
