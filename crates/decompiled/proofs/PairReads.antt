-- A row reads the pairs of its literals.
use Rattle.std.proofs.Common.{◌≡◌, ℕ, suc, ◌*◌, Bool, true, false, not, List, [], ◌∷◌, ◌++◌, length, refl, sym, ap, ◌∙◌, arith, ◌&&◌, ◌||◌}
use Rattle.decompiled.proofs.Common.{list_any, is_on, Carry, connected_pairs, row_reads, row_fuses, ColumnLiteral, literal, if_intact, literals_of, some_read, RowsReadLiterals}

module _ (test : Carry → Bool) where
  abbrev asked : ColumnLiteral → Bool
  asked l = test l.pair

  one_fuse : (fuse : Bool) (l : ColumnLiteral) (ls : List ColumnLiteral) → list_any asked (if_intact fuse l ++ ls) ≡ ((not fuse && asked l) || list_any asked ls)
  one_fuse true l ls = refl
  one_fuse false l ls = refl

  both : (a b v w : Bool) → ((not a && v) || ((not b && v) || w)) ≡ (((not a || not b) && v) || w)
  both true true v w = refl
  both true false v w = refl
  both false b true w = refl
  both false true false w = refl
  both false false false w = refl

  -- pairs are read one after another
  shifted : (reads later : ℕ → Bool) (k : ℕ) → ((n : ℕ) → reads (suc n) ≡ later n) → (xs : List Carry) → some_read reads test (suc k) xs ≡ some_read later test k xs
  shifted reads later k same [] = refl
  shifted reads later k same (x ∷ xs) =
      ap (λ (v : Bool). (v && test x) || some_read reads test (suc (suc k)) xs) (same k)
      ∙ ap (λ (v : Bool). (later k && test x) || v) (shifted reads later (suc k) same xs)

  abbrev connected : List Bool → ℕ → Bool
  connected row n = is_on (connected_pairs row) n

  pub read_is : (row : List Bool) (xs : List Carry) → length row ≡ 2 * length xs → list_any asked (literals_of row xs) ≡ some_read (connected row) test 0 xs
  read_is [] [] n = refl
  read_is [] (x ∷ xs) n = absurd (omega arith)
  read_is (lower ∷ []) xs n = absurd (omega arith)
  read_is (lower ∷ higher ∷ row) [] n = absurd (omega arith)
  read_is (lower ∷ higher ∷ row) (x ∷ xs) n =
      let first = one_fuse lower (literal false x) (if_intact higher (literal true x) ++ literals_of row xs) in
      let second = one_fuse higher (literal true x) (literals_of row xs) in
      let later = read_is row xs (omega arith) in
      first ∙ ap (λ (v : Bool). (not lower && test x) || v) second ∙ both lower higher (test x) (list_any asked (literals_of row xs))
      ∙ ap (λ (v : Bool). ((not lower || not higher) && test x) || v) (later ∙ sym (shifted (connected (lower ∷ higher ∷ row)) (connected row) 0 (λ k. refl) xs))

pub reads : RowsReadLiterals
reads t fuses row test laws size live =
    let n : length (row_fuses t fuses row) ≡ 2 * length t.pairs = size ∙ laws.sizes.columns_even in
    read_is test (row_fuses t fuses row) t.pairs n ∙ same (row_reads t fuses row) t.pairs 0 (λ k. sym (ap (λ (v : Bool). not v && is_on (connected_pairs (row_fuses t fuses row)) k) live))
  where
    same : (others : ℕ → Bool) (xs : List Carry) (k : ℕ) → ((n : ℕ) → is_on (connected_pairs (row_fuses t fuses row)) n ≡ others n)
        → some_read (λ n. is_on (connected_pairs (row_fuses t fuses row)) n) test k xs ≡ some_read others test k xs
    same others [] k e = refl
    same others (x ∷ xs) k e =
        ap (λ (v : Bool). (v && test x) || some_read (λ n. is_on (connected_pairs (row_fuses t fuses row)) n) test (suc k) xs) (e k)
        ∙ ap (λ (v : Bool). (others k && test x) || v) (same others xs (suc k) e)
