-- A device that does what a source says does what any other one says that allows the same.
use Rattle.std.proofs.Common.{◌≡◌, ◌<◌, Bool, true, false, List, [], ◌∷◌, refl, sym, ◌∙◌, subst}
use Rattle.pld_machine.proofs.Common.{Levels, Logic, NodeValues, IsValuedOf, ValuesOnce, SameValues, IsShownAs, AllowsOne, HasNoDontCare, DoesTheSame, Refines, SameCells, AreSeen}
use Rattle.pld_machine.proofs.Refined.{run_refines}
use Rattle.pld_machine.proofs.SameRuns.{same_run}

-- two tests that pass the same values
same_test : (f g : Bool → Bool) → ((v : Bool) → f v ≡ true → g v ≡ true) → ((v : Bool) → g v ≡ true → f v ≡ true) → (v : Bool) → f v ≡ g v
same_test f g more less v = by_value (f v) (g v) refl refl
  where
    by_value : (a b : Bool) → f v ≡ a → g v ≡ b → f v ≡ g v
    by_value true b first second = first ∙ sym (more v first)
    by_value false true first second = less v second ∙ sym second
    by_value false false first second = first ∙ sym second

one_of_both : (f g : Bool → Bool) → ((v : Bool) → f v ≡ true → g v ≡ true) → ((v : Bool) → g v ≡ true → f v ≡ true) → AllowsOne g → AllowsOne f
one_of_both f g more less one same = one (sym (same_test f g more less true) ∙ (same ∙ same_test f g more less false))

module _ (s r : Logic) (down : Refines s r) (up : Refines r s) where
  -- if the second has no don't-care, neither has the first
  exact_too : HasNoDontCare r → HasNoDontCare s
  exact_too exact = record {
    level = λ at is c within on.
        let here = subst (λ n. c < n) down.same_cells.cells within in
        let also = sym ((down.allows at is).enabled c here) ∙ on in
        one_of_both (s.allows_level at c) (r.allows_level at c) ((down.allows at is).level c here also) ((up.allows at is).level c within on) (exact.level at is c here also);
    node = λ at is n low node.
        one_of_both (s.allows_node at n) (r.allows_node at n) (down.node at is n low) (up.node at is n low) (exact.node at is n low (sym (down.is_node n low) ∙ node));
    next = λ at is c within kept.
        let here = subst (λ n. c < n) down.same_cells.cells within in
        let also = sym (down.same_cells.stores c here) ∙ kept in
        one_of_both (s.allows_next at c) (r.allows_next at c) ((down.allows at is).next c here also) ((up.allows at is).next c within kept) (exact.next at is c here also);
  }

  module _ (values others : NodeValues) (agree : SameValues s values others) where
    -- a point is valued in one if it is in the other
    valued_too : (at valued : Levels) → IsValuedOf s values at valued → IsValuedOf r others at valued
    valued_too at valued v = record {
      pins = v.pins;
      q = v.q;
      is_valued = record {
        is_point = v.is_valued.is_point;
        node = λ n low node. let also = down.is_node n low ∙ node in v.is_valued.node n low also ∙ agree valued v.is_valued.is_point n low also;
        no_node = λ n low none. v.is_valued.no_node n low (down.is_node n low ∙ none);
      };
    }

    valued_back : (at valued : Levels) → IsValuedOf r others at valued → IsValuedOf s values at valued
    valued_back at valued v = record {
      pins = v.pins;
      q = v.q;
      is_valued = record {
        is_point = v.is_valued.is_point;
        node = λ n low node. v.is_valued.node n low (sym (down.is_node n low) ∙ node) ∙ sym (agree valued v.is_valued.is_point n low node);
        no_node = λ n low none. v.is_valued.no_node n low (sym (down.is_node n low) ∙ none);
      };
    }

    one_value_too : ValuesOnce s values → ValuesOnce r others
    one_value_too once at is =
        let one = once at is in
        (one.0, record { is = valued_too at one.0 one.1.is; only = λ other v. one.1.only other (valued_back at other v) })

    module _ (d : Logic) (same : DoesTheSame d s values) where
      shown_too : (points valued : List Levels) → AreSeen (IsShownAs d s values) points valued → AreSeen (IsShownAs d r others) points valued
      shown_too [] [] seen = tt
      shown_too [] (v ∷ valued) seen = absurd seen
      shown_too (p ∷ points) [] seen = absurd seen
      shown_too (p ∷ points) (v ∷ valued) seen = (
        record {
          is = valued_too p v seen.0.is;
          enables = λ c within. seen.0.enables c within ∙ (down.allows v seen.0.is.is_valued.is_point).enabled c (subst (λ n. c < n) (same.same_cells.cells ∙ down.same_cells.cells) within);
        },
        shown_too points valued seen.1,
      )

      cells_too : SameCells d r
      cells_too = record {
        cells = same.same_cells.cells ∙ down.same_cells.cells;
        pin = λ c within. same.same_cells.pin c (subst (λ n. c < n) up.same_cells.cells within) ∙ down.same_cells.pin c within;
        stores = λ c within. same.same_cells.stores c (subst (λ n. c < n) up.same_cells.cells within) ∙ down.same_cells.stores c within;
        clock = same.same_cells.clock ∙ down.same_cells.clock;
      }

      pub other_source : DoesTheSame d r others
      other_source = record {
        same_cells = cells_too;
        one_rest = same.one_rest;
        one_run = same.one_run;
        one_value = one_value_too same.one_value;
        runs = λ outsides points run.
            let seen = same.runs outsides points run in
            (seen.0, shown_too points seen.0 seen.1, run_refines s r down outsides seen.0 seen.2);
        source_run = λ exact. same_run r s up down (same.source_run (exact_too exact));
      }
