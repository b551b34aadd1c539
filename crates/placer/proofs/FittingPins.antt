-- On a pin that fits it, a signal has a cell that can be what it is, and a column for its bare name.
use Rattle.std.proofs.Common.{◌≡◌, ℕ, ◌<◌, Bool, true, false, not, ◌&&◌, ◌||◌, None, is_some, List, [], length, get_or, refl, sym, ap, ◌∙◌, subst, eqb-true}
use Rattle.placer.proofs.Common.{filter, true≢false, and_parts, get_or-map, length-map, Table, APin, Entry, is_stored, cell_on, no_name, has, IsAssignment, wish_of, HasFittingPin, has_wrong_kind, has_wrong_kind_on, has_read_path, has_read_path_on, reads_by, has_cell_for, has_unsuited_on, is_pin_free, pin_fits, preferred, to_place, wish, wishes}
use Rattle.std.specs.Cmp.{nat_eq_equiv}
use Rattle.std.proofs.lemmas.Map.Made.{is_member-filter}

not_true : (b : Bool) → not b ≡ true → b ≡ false
not_true true h = absurd (true≢false (sym h))
not_true false h = refl

given : (a b : Bool) → (not a || b) ≡ true → a ≡ true → b ≡ true
given true b h is = h
given false b h is = absurd (true≢false (sym is))

module _ (t : Table) (read : Bool) (x : Entry) (pin : ℕ) (negated : Bool) (fit : pin_fits t read x pin ≡ true) where
  parts : (((not x.assigned || has_cell_for t x pin) && not (has_unsuited_on t x.assigned pin)) ≡ true) × ((not read || has_read_path_on t x pin None) ≡ true)
  parts = and_parts ((not x.assigned || has_cell_for t x pin) && not (has_unsuited_on t x.assigned pin)) (not read || has_read_path_on t x pin None) fit

  pub no_wrong_kind : x.assigned ≡ true → has_wrong_kind t (record x { kind = APin pin negated }) ≡ false
  no_wrong_kind assigned =
      let taken = given x.assigned (has_cell_for t x pin) (and_parts (not x.assigned || has_cell_for t x pin) (not (has_unsuited_on t x.assigned pin)) parts.0).0 assigned in
      not_true (has_wrong_kind_on t pin (is_stored x)) (and_parts (is_some (cell_on t pin)) (not (has_wrong_kind_on t pin (is_stored x))) taken).1

  pub has_path : read ≡ true → has_read_path t (record x { kind = APin pin negated }) None ≡ true
  has_path reads =
      same (is_stored x) (given read (has_read_path_on t x pin None) parts.1 reads)
    where
      same : (stored : Bool) → reads_by t x stored (APin pin false) None ≡ true → reads_by t (record x { kind = APin pin negated }) stored (APin pin negated) None ≡ true
      same true path = path
      same false path = path

-- what a filtered list has passes the test
pub kept_passes : (test : ℕ → Bool) (xs : List ℕ) (p : ℕ) → has (filter test xs) p ≡ true → test p ≡ true
kept_passes test xs p found = (and_parts (has xs p) (test p) (sym (is_member-filter nat_eq_equiv test p (λ x same. ap test (eqb-true p x same)) xs) ∙ found)).1

-- each pin of an assignment is free and fits its signal
pub pins_fit : (t : Table) (es : List Entry) (read : ℕ → Bool) (pins : List ℕ) → IsAssignment (wishes t es read) pins → (k : ℕ) → k < length (to_place t es) → HasFittingPin t es read (get_or (to_place t es) k 0) (get_or pins k 0)
pins_fit t es read pins is k low = record { free = parts.0; fit = parts.1 }
  where
    of : wish_of (wishes t es read) k ≡ wish t es (read (get_or (to_place t es) k 0)) (get_or es (get_or (to_place t es) k 0) no_name)
    of = get_or-map (λ s. wish t es (read s) (get_or es s no_name)) (to_place t es) k 0 [] low

    there : has (wish t es (read (get_or (to_place t es) k 0)) (get_or es (get_or (to_place t es) k 0) no_name)) (get_or pins k 0) ≡ true
    there = subst (λ ps. has ps (get_or pins k 0) ≡ true) of (is.fit k (subst (λ n. k < n) (sym (length-map (to_place t es) (λ s. wish t es (read s) (get_or es s no_name)))) low))

    parts : (is_pin_free t es (get_or pins k 0) ≡ true) × (pin_fits t (read (get_or (to_place t es) k 0)) (get_or es (get_or (to_place t es) k 0) no_name) (get_or pins k 0) ≡ true)
    parts =
        and_parts (is_pin_free t es (get_or pins k 0)) (pin_fits t (read (get_or (to_place t es) k 0)) (get_or es (get_or (to_place t es) k 0) no_name) (get_or pins k 0))
        (kept_passes (λ pin. is_pin_free t es pin && pin_fits t (read (get_or (to_place t es) k 0)) (get_or es (get_or (to_place t es) k 0) no_name) pin) (preferred t (get_or es (get_or (to_place t es) k 0) no_name).assigned) (get_or pins k 0) there)
