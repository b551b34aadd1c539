-- The mismatches of a device and of the source that it does the same as.
use Rattle.std.proofs.Common.{◌≡◌, ◌≢◌, ℕ, zero, suc, ◌+◌, ◌-◌, ◌<◌, ◌≤◌, ◌==◌, ◌&&◌, Bool, true, false, Option, None, Some, List, [], ◌∷◌, ◌++◌, length, drop, slice_get, flat_map, refl, ap, sym, ◌∙◌, subst, arith}
use Rattle.device_sim.proofs.Common.{All, list_any, range_with_len, is_on, Levels, Logic, Run, Mismatch, IsVectorRun, found, found_at, if_mismatch, is_driven, mismatch_at, mismatches_of, mismatches_where, outsides_of, vector_mismatches}
use Rattle.pld_machine.specs.Comparison.{DoesTheSame, HasNoDontCare, IsShownAs, NodeValues, AreSeen, SameCells}
use Rattle.device_sim.specs.Compared.{DisagreeAlike, VectorsDisagreeAlike}
use Rattle.device_sim.proofs.OneList.{IsNarrow, one_list, outsides_wide, some_outsides}

-- tests that are the same at each number of a range are so of some
any_same : (f g : ℕ → Bool) (k n : ℕ) → ((c : ℕ) → c < k + n → f c ≡ g c) → list_any f (range_with_len k n) ≡ list_any g (range_with_len k n)
any_same f g k zero same = refl
any_same f g k (suc n) same = rw (same k (omega arith), any_same f g (k + 1) n (λ c low. same c (omega (arith, low)))) refl

module _ (device source : Logic) (values : NodeValues) (cells : SameCells device source) where
  -- ---- one point

  module _ (at valued : Levels) (shown : IsShownAs device source values at valued) where
    driven_alike : (pin : ℕ) → is_driven device at pin ≡ is_driven source valued pin
    driven_alike pin =
        any_same (λ c. (device.pin c == pin) && device.enabled at c) (λ c. (source.pin c == pin) && source.enabled valued c) 0 device.cells
        (λ c low. rw (cells.pin c (omega (arith, low, cells.cells)), shown.enables c (omega (arith, low))) refl)
        ∙ ap (λ n. list_any (λ c. (source.pin c == pin) && source.enabled valued c) (range_with_len 0 n)) cells.cells

    found_alike : (pin : ℕ) → found_at device at pin ≡ found_at source valued pin
    found_alike pin = rw (driven_alike pin, shown.is.pins) refl

    vector_alike : (vector pin : ℕ) (chars : List ℕ) → vector_mismatches device at vector pin chars ≡ vector_mismatches source valued vector pin chars
    vector_alike vector pin [] = refl
    vector_alike vector pin (char ∷ chars) =
        ap (λ n. if_mismatch (record { vector = vector; pin = pin; expects = char; finds = n }) ++ vector_mismatches device at vector (suc pin) chars) (found_alike pin)
        ∙ ap (λ list. mismatch_at source valued vector pin char ++ list) (vector_alike vector (suc pin) chars)

  -- ---- the points of a run

  abbrev Seen : List Levels → List Levels → Type 0
  Seen = AreSeen (IsShownAs device source values)

  where_alike : (points others : List Levels) → Seen points others → (k vector : ℕ) (chars : List ℕ)
      → mismatches_where device (slice_get points k) vector chars ≡ mismatches_where source (slice_get others k) vector chars
  where_alike [] [] seen k vector chars = refl
  where_alike [] (o ∷ others) seen k vector chars = absurd seen
  where_alike (p ∷ points) [] seen k vector chars = absurd seen
  where_alike (p ∷ points) (o ∷ others) seen zero vector chars = vector_alike p o seen.0 vector 1 chars
  where_alike (p ∷ points) (o ∷ others) seen (suc k) vector chars = where_alike points others seen.1 k vector chars

  drop_seen : (points others : List Levels) → Seen points others → (k : ℕ) → Seen (drop k points) (drop k others)
  drop_seen points others seen zero = seen
  drop_seen [] [] seen (suc k) = tt
  drop_seen [] (o ∷ others) seen (suc k) = absurd seen
  drop_seen (p ∷ points) [] seen (suc k) = absurd seen
  drop_seen (p ∷ points) (o ∷ others) seen (suc k) = drop_seen points others seen.1 k

  list_alike : (default : Bool) (vector : ℕ) (vectors : List (List ℕ)) (points others : List Levels) → Seen points others
      → mismatches_of device default vector vectors points ≡ mismatches_of source default vector vectors others
  list_alike default vector [] points others seen = refl
  list_alike default vector (chars ∷ vectors) points others seen =
      let many = length (outsides_of default chars) in
      ap (λ list. list ++ mismatches_of device default (suc vector) vectors (drop many points)) (where_alike points others seen (many - 1) vector chars)
      ∙ ap (λ list. mismatches_where source (slice_get others (many - 1)) vector chars ++ list)
      (list_alike default (suc vector) vectors (drop many points) (drop many others) (drop_seen points others seen many))

module _ (device source : Logic) (values : NodeValues) (same : DoesTheSame device source values) where
  alike_too : (default : Bool) (vectors : List (List ℕ)) (list : List Mismatch) → IsVectorRun device default vectors list → IsVectorRun source default vectors list
  alike_too default [] list is = record { points = []; runs = λ some. absurd (some refl); disagrees = is.disagrees }
  alike_too default (chars ∷ vectors) list is =
      let run = same.runs (flat_map (outsides_of default) (chars ∷ vectors)) is.points (is.runs (λ e. absurd cc)) in
      record {
        points = run.0;
        runs = λ some. run.2;
        disagrees = is.disagrees ∙ list_alike device source values same.same_cells default 1 (chars ∷ vectors) is.points run.0 run.1;
      }

  -- a device has some list
  device_list : (default : Bool) (vectors : List (List ℕ)) → All IsNarrow vectors → (list : List Mismatch) × IsVectorRun device default vectors list
  device_list default [] narrow = ([], record { points = []; runs = λ some. absurd (some refl); disagrees = refl })
  device_list default (chars ∷ vectors) narrow =
      let run = same.one_run (flat_map (outsides_of default) (chars ∷ vectors)) (some_outsides default chars vectors) (outsides_wide default (chars ∷ vectors) narrow) in (
        mismatches_of device default 1 (chars ∷ vectors) run.0,
        record { points = run.0; runs = λ some. run.1.runs; disagrees = refl },
      )

  alike_only : HasNoDontCare source → (default : Bool) (vectors : List (List ℕ)) → All IsNarrow vectors → (list : List Mismatch)
      → IsVectorRun source default vectors list → IsVectorRun device default vectors list
  alike_only exact default vectors narrow list is =
      let own = device_list default vectors narrow in
      subst (IsVectorRun device default vectors)
      (one_list source (same.source_run exact) default vectors narrow own.0 list (alike_too default vectors own.0 own.1) is) own.1

pub vectors_disagree_alike : VectorsDisagreeAlike
vectors_disagree_alike device source values same vectors narrow = record {
  too = λ default list is. alike_too device source values same default vectors list is;
  only = λ exact default list is. alike_only device source values same exact default vectors narrow list is;
}
