-- A list whose last level is 0 is the rest of it and this level.
use Rattle.std.proofs.Common.{◌≡◌, ℕ, ◌+◌, Bool, false, List, [], ◌∷◌, ◌++◌, length, get_or, take, ap, sym, ◌∙◌, arith}
use Rattle.std.proofs.Math.Seq.{take-length}
use Rattle.std.proofs.lemmas.List.{take_more}
use Rattle.form_commands.proofs.longer.without_spare.Goals as goal

last_off : (xs : List Bool) (n : ℕ) → length xs ≡ n + 1 → get_or xs n false ≡ false → xs ≡ take n xs ++ false ∷ []
last_off xs n size zero =
    sym (take-length xs) ∙ (ap (λ k. take k xs) size ∙ (take_more xs n false (omega (arith, size)) ∙ ap (λ b. take n xs ++ b ∷ []) zero))
