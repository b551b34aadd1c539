-- The equations that release the pins of nodes, signal by signal.
use Rattle.std.proofs.Common.{◌≡◌, ℕ, suc, ◌+◌, ◌<◌, ◌≤◌, Bool, true, false, not, ◌&&◌, List, [], ◌∷◌, ◌++◌, if◌then◌else◌, drop, length, get_or, refl, sym, ap, ap₂, ◌∙◌, add-one}
use Rattle.placer.proofs.Common.{drop-cons, drop_all, Entry, Statement, no_name, released_if, released, Pins, all_released, is_node, with_pins}

module _ (es : List Entry) (has : ℕ → Bool) (ss ps : List ℕ) (k : ℕ) where
  abbrev from : ℕ → List Statement
  from n = all_released es has (with_pins (drop n ss) (drop n ps))

  abbrev x : Entry
  x = get_or es (get_or ss k 0) no_name

  pub released_next : k < length ss → k < length ps → all_released es has (with_pins (drop k ss) (drop k ps)) ≡ released_if x (has (get_or ss k 0)) ++ all_released es has (with_pins (drop (k + 1) ss) (drop (k + 1) ps))
  released_next low also =
      ap₂ (λ a b. all_released es has (with_pins a b)) (drop-cons ss k 0 low) (drop-cons ps k 0 also)
      ∙ (choose (is_node x.kind && not (has (get_or ss k 0))) ∙ ap (λ n. released_if x (has (get_or ss k 0)) ++ from n) (sym (add-one k)))
    where
      choose : (b : Bool) → (if b then released x.place x.name ∷ from (suc k) else from (suc k)) ≡ (if b then released x.place x.name ∷ [] else []) ++ from (suc k)
      choose true = refl
      choose false = refl

  pub released_past : length ss ≤ k → all_released es has (with_pins (drop k ss) (drop k ps)) ≡ []
  released_past past = ap (λ l. all_released es has (with_pins l (drop k ps))) (drop_all k ss past)
