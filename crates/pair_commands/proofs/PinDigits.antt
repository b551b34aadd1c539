-- The digits of pins, one pin more.
use Rattle.std.proofs.Common.{◌≡◌, ℕ, ◌+◌, Bool, List, [], ◌∷◌, ◌++◌, map, sym, ap, ◌∙◌, append_assoc, arith}
use Rattle.pair_commands.proofs.Common.{range_with_len, map-range_with_len_more, level_char}

module _ (level : ℕ → Bool) where
  abbrev digit : ℕ → ℕ
  digit pin = level_char (level pin)

  pub one_more : (old before after : List ℕ) (n char : ℕ) → before ≡ old ++ map digit (range_with_len 1 n) → after ≡ before ++ char ∷ []
      → char ≡ level_char (level (n + 1)) → after ≡ old ++ map digit (range_with_len 1 (n + 1))
  one_more old before after n char has grown is =
      grown ∙ (rw (has, is) (append_assoc old (map digit (range_with_len 1 n)) (digit (n + 1) ∷ [])
      ∙ ap (λ xs. old ++ xs) (sym (map-range_with_len_more digit 1 n (n + 1) (omega arith)))))
