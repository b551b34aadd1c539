-- The verdicts on the fuses below one.
use Rattle.std.proofs.Common.{◌≡◌, ℕ, zero, suc, ◌+◌, true, false, cond, List, [], ◌∷◌, ◌++◌, map, filter, refl, ap, ◌∙◌, subst, arith}
use Rattle.wrong_fuses.proofs.Common.{All, range_with_len, filter-append, map-append, append-nil, All-push, Table, is_fault, IsJudged, AreJudged, Judged}
use Rattle.jedec_file.specs.FuseFile.{FuseFile}

-- each fuse below this one that can be wrong is judged
pub record JudgedBelow (t : Table) (file : FuseFile) (end : ℕ) (list : List Judged) : Type 0 where
  pub whole : map (λ (it : Judged). it.fuse) list ≡ filter (is_fault t) (range_with_len 0 end)
  pub each : All (IsJudged t file) list

range_more : (a n : ℕ) → range_with_len a (suc n) ≡ range_with_len a n ++ (a + n) ∷ []
range_more a zero = ap (λ k. k ∷ []) (omega arith)
range_more a (suc n) =
    ap (λ xs. a ∷ xs) (range_more (a + 1) n ∙ ap (λ k. range_with_len (a + 1) n ++ k ∷ []) (omega arith))

one_more : (t : Table) (n : ℕ) → filter (is_fault t) (range_with_len 0 (n + 1)) ≡ filter (is_fault t) (range_with_len 0 n) ++ cond (is_fault t n) (n ∷ []) []
one_more t n =
    let e : n + 1 ≡ suc n = omega arith in
    let there : 0 + n ≡ n = omega arith in
    rw e (ap (filter (is_fault t)) (range_more 0 n ∙ ap (λ k. range_with_len 0 n ++ k ∷ []) there) ∙ filter-append (is_fault t) (range_with_len 0 n) (n ∷ []))

module _ (t : Table) (file : FuseFile) where
  pub judged_none : JudgedBelow t file 0 []
  judged_none = record { whole = refl; each = λ k d within. absurd (omega (arith, within)) }

  module _ (n : ℕ) (list : List Judged) (below : JudgedBelow t file n list) where
    pub judged_more : is_fault t n ≡ true → (it : Judged) → IsJudged t file it → it.fuse ≡ n → JudgedBelow t file (n + 1) (list ++ it ∷ [])
    judged_more fault it is fuse = record {
      whole = map-append (λ (x : Judged). x.fuse) list (it ∷ []) ∙ (rw (one_more t n, fault, below.whole, fuse) refl);
      each = All-push (IsJudged t file) list it below.each is;
    }

    pub judged_passed : is_fault t n ≡ false → JudgedBelow t file (n + 1) list
    judged_passed other = record {
      whole = rw (one_more t n, other, append-nil (filter (is_fault t) (range_with_len 0 n))) below.whole;
      each = below.each;
    }

  pub judged_all : (n : ℕ) (list : List Judged) → JudgedBelow t file n list → n ≡ t.fuses → AreJudged t file list
  judged_all n list below end = record { whole = subst (λ k. map (λ (it : Judged). it.fuse) list ≡ filter (is_fault t) (range_with_len 0 k)) end below.whole; each = below.each }
