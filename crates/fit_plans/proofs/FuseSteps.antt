-- One more fuse.
use Rattle.std.proofs.Common.{◌≡◌, ℕ, ◌+◌, Bool, List, [], ◌∷◌, ◌++◌, map, Option, ap, sym, ◌∙◌, arith}
use Rattle.fit_plans.proofs.Common.{range_with_len, map-range_with_len_more, Cube, Table, fuse_level, fuses_of}

pub one_fuse : {X : Type 0} (f : ℕ → X) (n : ℕ) (xs ys : List X) (x : X) → xs ≡ map f (range_with_len 0 n) → x ≡ f n → ys ≡ xs ++ x ∷ [] → ys ≡ map f (range_with_len 0 (n + 1))
one_fuse f n xs ys x so_far is more = rw (more, so_far, is) (sym (map-range_with_len_more f 0 n n (omega arith)))

pub all_fuses : (t : Table) (plan : ℕ → Option Cube) (control : ℕ → Bool) (n : ℕ) (xs : List Bool) → n ≡ t.fuses → xs ≡ map (fuse_level t plan control) (range_with_len 0 n) → xs ≡ fuses_of t plan control
unfolding fuses_of
all_fuses t plan control n xs same so_far = so_far ∙ ap (λ k. map (fuse_level t plan control) (range_with_len 0 k)) same
