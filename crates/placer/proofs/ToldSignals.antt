-- The first of the signals that can't be placed is among the names.
use Rattle.std.proofs.Common.{rules, ◌≡◌, ℕ, suc, ◌<◌, true, List, [], ◌∷◌, length, get_or, map, take, arith}
use Rattle.placer.proofs.Common.{length-map, length-take, Table, has, Entry, ModuleTree, no_name, names_of, IsCrowded, HasNoPlacement, module_wishes, is_read, to_place, wish}
use Rattle.placer.proofs.GivenPins.{placed_from}

pub record TellsFirst (es : List Entry) (signals : List ℕ) : Type 0 where
  pub first : ℕ
  pub rest : List ℕ
  pub are : signals ≡ first ∷ rest
  pub inside : first < length es

module _ (t : Table) (m : ModuleTree) where
  abbrev es : List Entry
  es = names_of t m

  -- one with a wish
  wished_inside : (k n : ℕ) → k < length (take n (module_wishes t m)) → get_or (to_place t es) k 0 < length es
  wished_inside k n low =
      let cut = length-take n (module_wishes t m) in
      let each = length-map (to_place t es) (λ s. wish t es (is_read es m.sections s) (get_or es s no_name)) in
      let there = placed_from t es 0 k (omega (arith, low, cut, each)) in
      let is = there.is in
      let inside = there.inside in
      omega (arith, is, inside)

  has_head : (k : ℕ) (ks : List ℕ) → has (k ∷ ks) k ≡ true
  has_head k ks = search rules

  pub tells_first : (signals : List ℕ) (places : ℕ) → HasNoPlacement t m signals places → TellsFirst es signals
  tells_first signals places none = by none.set none.are none.kept.least.crowded
    where
      by : (set : List ℕ) → signals ≡ map (λ k. get_or (to_place t es) k 0) set → IsCrowded (take (suc none.kept.signal) (module_wishes t m)) set
          → TellsFirst es signals
      by [] are crowded = let fewer = crowded.fewer in absurd (omega (arith, fewer))
      by (k ∷ ks) are crowded = record {
        first = get_or (to_place t es) k 0;
        rest = map (λ j. get_or (to_place t es) j 0) ks;
        are = are;
        inside = wished_inside k (suc none.kept.signal) (crowded.inside k (has_head k ks));
      }
