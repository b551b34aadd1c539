-- What targets name: by the list of their names, and of the names of a range.
use Rattle.std.proofs.Common.{◌≡◌, ℕ, List, [], ◌∷◌, ◌++◌, refl, sym, ap, ◌∙◌, append_assoc}
use Rattle.placer.proofs.Common.{flat_map, append-nil, Named, signals_of, signals_of_name, signals_of_names, Tree, signals_at}
use Rattle.name_uses.specs.Targets.{targets_in}
use Rattle.name_uses.proofs.TargetSignals.{targets_give}

pub target_signals : (ks : List Named) (t : Tree) → flat_map (signals_at ks) (targets_in t) ≡ signals_of ks t
target_signals ks t = targets_give ks (λ ss. ss) refl (λ xs ys. refl) (signals_at ks) (λ w. refl) (λ v w. refl) t

-- one name more
pub names_push : (ks : List Named) (xs : List (List ℕ)) (x : List ℕ) → signals_of_names ks (xs ++ x ∷ []) ≡ signals_of_names ks xs ++ signals_of_name ks x
names_push ks [] x = append-nil (signals_of_name ks x)
names_push ks (y ∷ xs) x = ap (λ us. signals_of_name ks y ++ us) (names_push ks xs x) ∙ sym (append_assoc (signals_of_name ks y) (signals_of_names ks xs) (signals_of_name ks x))
