-- The variables chosen for two fuse lists of one device suffice.
use Rattle.std.proofs.Common.{◌≡◌, ℕ, ◌<◌, Bool, true, false, not, ◌==◌, List, [], ◌∷◌, map, length, get_or, refl, sym, ◌∙◌, subst, arith, inl, inr}
use Rattle.fuse_compare.proofs.Common.{list_any, cases_Bool, and_parts, or_left, or_right, or_cases, eqb-true, Carry, Cell, is_enable_pin, IsDevice, IsPair, stores, Table, cell_at, no_cell, own_pins, sets_node, IsOrdered, device_lookups, some_read, is_level_of, known_of, QsChosen, AreChosen, QFixed, QsSuffice, Suffices, IsTold, Variable}
use Rattle.pld_device.specs.declared.carry.Carry.TheVariants as carry
use Rattle.pld_machine.specs.declared.logic.Slot.TheVariants as slot
use Rattle.fuse_compare.specs.DeviceKnown.{SameKinds, OtherKinds}
use Rattle.fuse_compare.specs.States.{AtOne, AsPlain, AllFixed, Mixed}
use Rattle.fuse_compare.proofs.DeviceKnows.{some_of, one_cell, enables_is, knows_reads}
use Rattle.fuse_compare.proofs.DeviceTold.{flips_of, device_told}

-- the slots are cells
no_node : (order : List ℕ) (n : ℕ) → sets_node (map (λ c. slot.Cell c) order) n ≡ false
no_node [] n = refl
no_node (c ∷ order) n = no_node order n

module _ (t : Table) (laws : IsDevice t) where
  -- what is known is a pin of a point
  level_low : (fuses : List Bool) (k : ℕ) (x : Carry) → IsPair t x → is_level_of t fuses k x ≡ true → k < 32
  level_low fuses k (carry.Pin p) law is = let same : p ≡ k = eqb-true p k is in omega (arith, same, law.0.high, laws.sizes.pins_high)
  level_low fuses k (carry.Cell d) law is =
      let same : (cell_at t d).pin ≡ k = eqb-true (cell_at t d).pin k (and_parts (not (stores t fuses d)) ((cell_at t d).pin == k) is).1 in
      subst (λ p. p < 32) same ((own_pins t laws).last d law)

  known_low : (fuses : List Bool) (k : ℕ) → (known_of t fuses).pins k ≡ true → k < 32
  known_low fuses k known =
      elim (or_cases (some_read t fuses (is_level_of t fuses k)) (list_any (λ (cell : Cell). is_enable_pin k cell.enable) t.cells) known) [
        | inl read ↦ let found = some_of t laws fuses (is_level_of t fuses k) read in
            level_low fuses k (get_or t.pairs found.0 (carry.Pin 0)) (laws.pairs found.0 (carry.Pin 0) found.1) found.2
        | inr enables ↦ let found = one_cell (λ (cell : Cell). is_enable_pin k cell.enable) t.cells enables in
            let signal = (laws.cells found.0 no_cell found.1).enable_pin k (enables_is k (get_or t.cells found.0 no_cell).enable found.2) in
            omega (arith, signal.high, laws.sizes.pins_high)
      ]

  module _ (a b : List Bool) (first_order second_order : List ℕ)
      (first_ordered : IsOrdered (device_lookups t a first_order)) (second_ordered : IsOrdered (device_lookups t b second_order)) where
    told : (fuses : List Bool) (order : List ℕ) → IsOrdered (device_lookups t fuses order) → IsTold (device_lookups t fuses order)
    told fuses order ordered = record {
      ordered = ordered;
      no_nodes = λ n. no_node order n;
      known = known_of t fuses;
      flips = flips_of t fuses;
      told = device_told t laws fuses order (known_of t fuses) (knows_reads t laws fuses);
    }

    module _ (vars : List Variable) (fixed : List Bool) (chosen : AreChosen t a b vars fixed) where
      at_fixed : (c : ℕ) → c < length t.cells → stores t a c ≡ stores t b c → (known_of t a).q c ≡ false → (known_of t b).q c ≡ false
          → QFixed (device_lookups t a first_order) (device_lookups t b second_order) (known_of t a) (known_of t b) fixed c
      at_fixed c within kinds first_not second_not = elim (cases_Bool (stores t a c)) [
        | inl register ↦ AtOne (chosen.at_one c within ∙ or_left (stores t a c) (stores t b c) register) first_not second_not kinds
        | inr plain ↦ AsPlain plain (sym kinds ∙ plain)
      ]

      qs : QsChosen t a b vars → QsSuffice (device_lookups t a first_order) (device_lookups t b second_order) (known_of t a) (known_of t b) vars fixed
      qs (SameKinds kinds read) = AllFixed (λ c within none. let not_read = read c within none in at_fixed c within (kinds c within) not_read.0 not_read.1)
      qs (OtherKinds d within other none) =
          Mixed d within other none (λ at c. refl) (λ at c. refl)
          (λ c less register. chosen.at_one c less ∙ or_left (stores t a c) (stores t b c) register)
          (λ c less register. chosen.at_one c less ∙ or_right (stores t a c) (stores t b c) register)

      pub sufficing : Suffices (device_lookups t a first_order) (device_lookups t b second_order) vars fixed
      unfolding told
      sufficing = record {
        shape = record { cells = refl; pin = λ c. refl; clock = refl };
        first = told a first_order first_ordered;
        second = told b second_order second_ordered;
        are = chosen.are;
        wide = chosen.wide;
        first_pins = λ k is. chosen.pins k (known_low a k is) (or_left ((known_of t a).pins k) ((known_of t b).pins k) is);
        second_pins = λ k is. chosen.pins k (known_low b k is) (or_right ((known_of t a).pins k) ((known_of t b).pins k) is);
        q = qs chosen.q;
      }
