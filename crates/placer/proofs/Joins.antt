-- The mark of two lists is the union of their marks.
use Rattle.std.proofs.Common.{◌≡◌, ℕ, ◌<◌, ◌≤◌, ◌+◌, ◌==◌, Bool, ◌||◌, List, [], ◌∷◌, ◌++◌, map, take, length, get_or, sym, ap, ap₂, subst, ◌∙◌, arith, IfOk, Result}
use Rattle.placer.proofs.Common.{bit_or, flat_map, list_any, flat_map-append, append-nil, take_all, list_any-append, IfOk-weaker, bits, is_on, is_on-zero, Named, mapped_more, PartTree, Seen, AreSeen, HasMark, HasMarks, IsMarkOf, IsUnion, enabled_in, read_in}
use Rattle.placer.specs.declared.marks.Marks.{Marks}
use Rattle.placer.specs.declared.read_names.Naming.{Naming}
use Rattle.placer.proofs.Bits.{is_on-or}

module _ (signals : List ℕ) (small : length signals ≤ 32) where
  tests_join : {P : Type 0} (test : ℕ → P → Bool) (ps qs : List P) (a b mark : ℕ) → mark ≡ bit_or a b
      → HasMarks signals (λ s. list_any (test s) ps) a → HasMarks signals (λ s. list_any (test s) qs) b → HasMarks signals (λ s. list_any (test s) (ps ++ qs)) mark
  tests_join test ps qs a b mark is first second k here =
      ap (λ n. is_on (bits 32 n) k) is
      ∙ (is_on-or 32 a b k (omega (arith, small, here))
      ∙ (ap₂ (λ x y. x || y) (first k here) (second k here) ∙ sym (list_any-append (test (get_or signals k 0)) ps qs)))

  pub none_marked : {P : Type 0} (test : ℕ → P → Bool) → HasMarks signals (λ s. list_any (test s) []) 0
  none_marked test k here = is_on-zero 32 k (omega (arith, small, here))

-- ---- what is named

module _ (m : Marks) where
  pub no_numbers : IsMarkOf m (λ ks. []) 0
  no_numbers signals ks small are = none_marked signals small (λ s n. n == s)

  numbers_join : (f g : List Named → List ℕ) (a b mark : ℕ) → mark ≡ bit_or a b → IsMarkOf m f a → IsMarkOf m g b → IsMarkOf m (λ ks. f ks ++ g ks) mark
  numbers_join f g a b mark is first second signals ks small are =
      tests_join signals small (λ s n. n == s) (f ks) (g ks) a b mark is (first signals ks small are) (second signals ks small are)

  pub numbers_same : (f g : List Named → List ℕ) (mark : ℕ) → ((ks : List Named) → f ks ≡ g ks) → IsMarkOf m f mark → IsMarkOf m g mark
  numbers_same f g mark same of signals ks small are = subst (λ ns. HasMark signals ns mark) (same ks) (of signals ks small are)

  -- all items of a list
  pub numbers_all : {A B : Type 0} (f : List Named → List B → List ℕ) (v : A → B) (es : List A) (k : ℕ) (mark : ℕ) → length es ≤ k → IsMarkOf m (λ ks. f ks (map v (take k es))) mark → IsMarkOf m (λ ks. f ks (map v es)) mark
  numbers_all f v es k mark past of = numbers_same (λ ks. f ks (map v (take k es))) (λ ks. f ks (map v es)) mark (λ ks. ap (λ xs. f ks (map v xs)) (take_all k es past)) of

  -- what an answer says, if it is one
  pub numbers_answer : {E : Type 0} (r : Result ℕ E) (f g : List Named → List ℕ) → ((ks : List Named) → f ks ≡ g ks) → IfOk r (IsMarkOf m f) → IfOk r (IsMarkOf m g)
  numbers_answer r f g same of = IfOk-weaker r (IsMarkOf m f) (IsMarkOf m g) (λ mark is. numbers_same f g mark same is) of

  -- one item more of a list
  pub numbers_more : {A B : Type 0} (f : List Named → List B → List ℕ) (g : List Named → B → List ℕ) → ((ks : List Named) (xs : List B) (x : B) → f ks (xs ++ x ∷ []) ≡ f ks xs ++ g ks x) → (v : A → B) (es : List A) (k : ℕ) (e : A) (a b mark : ℕ)
      → k < length es → e ≡ get_or es k e → mark ≡ bit_or a b → IsMarkOf m (λ ks. f ks (map v (take k es))) a → IsMarkOf m (λ ks. g ks (v e)) b → IsMarkOf m (λ ks. f ks (map v (take (k + 1) es))) mark
  numbers_more f g push v es k e a b mark low at is first second =
      numbers_same (λ ks. f ks (map v (take k es)) ++ g ks (v e)) (λ ks. f ks (map v (take (k + 1) es))) mark
      (λ ks. sym (ap (f ks) (mapped_more v es k e low at) ∙ push ks (map v (take k es)) (v e)))
      (numbers_join (λ ks. f ks (map v (take k es))) (λ ks. g ks (v e)) a b mark is first second)

  -- all items of two lists
  numbers_both : {P : Type 0} (f : List Named → P → List ℕ) (ps qs : List P) (a b mark : ℕ) → mark ≡ bit_or a b → IsMarkOf m (λ ks. flat_map (f ks) ps) a → IsMarkOf m (λ ks. flat_map (f ks) qs) b → IsMarkOf m (λ ks. flat_map (f ks) (ps ++ qs)) mark
  numbers_both f ps qs a b mark is first second =
      numbers_same (λ ks. flat_map (f ks) ps ++ flat_map (f ks) qs) (λ ks. flat_map (f ks) (ps ++ qs)) mark (λ ks. sym (flat_map-append (f ks) ps qs))
      (numbers_join (λ ks. flat_map (f ks) ps) (λ ks. flat_map (f ks) qs) a b mark is first second)

  numbers_one : {P : Type 0} (f : List Named → P → List ℕ) (p : P) (mark : ℕ) → IsMarkOf m (λ ks. f ks p) mark → IsMarkOf m (λ ks. flat_map (f ks) (p ∷ [])) mark
  numbers_one f p mark of = numbers_same (λ ks. f ks p) (λ ks. flat_map (f ks) (p ∷ [])) mark (λ ks. sym (append-nil (f ks p))) of

-- ---- what parts read and enable

module _ (n : Naming) where
  pub no_parts : (none : Seen) → none.read ≡ 0 → none.enabled ≡ 0 → AreSeen n [] none
  no_parts none read enabled = record {
    read = subst (IsMarkOf n.reading (λ ks. [])) (sym read) (no_numbers n.reading);
    enabled = subst (IsMarkOf n.targets (λ ks. [])) (sym enabled) (no_numbers n.targets);
  }

  pub one_part : (p : PartTree) (seen : Seen) → IsMarkOf n.reading (λ ks. read_in ks p) seen.read → IsMarkOf n.targets (λ ks. enabled_in ks p) seen.enabled → AreSeen n (p ∷ []) seen
  one_part p seen read enabled = record { read = numbers_one n.reading read_in p seen.read read; enabled = numbers_one n.targets enabled_in p seen.enabled enabled }

  parts_same : (ps qs : List PartTree) (seen : Seen) → ps ≡ qs → AreSeen n ps seen → AreSeen n qs seen
  parts_same ps qs seen same are = subst (λ xs. AreSeen n xs seen) same are

  parts_join : (ps qs : List PartTree) (a b seen : Seen) → IsUnion a b seen → AreSeen n ps a → AreSeen n qs b → AreSeen n (ps ++ qs) seen
  parts_join ps qs a b seen is first second = record {
    read = numbers_both n.reading read_in ps qs a.read b.read seen.read is.0 first.read second.read;
    enabled = numbers_both n.targets enabled_in ps qs a.enabled b.enabled seen.enabled is.1 first.enabled second.enabled;
  }

  -- all items of a list
  pub parts_all : {A B : Type 0} (f : List B → List PartTree) (v : A → B) (es : List A) (k : ℕ) (seen : Seen) → length es ≤ k → AreSeen n (f (map v (take k es))) seen → AreSeen n (f (map v es)) seen
  parts_all f v es k seen past are = parts_same (f (map v (take k es))) (f (map v es)) seen (ap (λ xs. f (map v xs)) (take_all k es past)) are

  -- one item more of a list
  pub parts_more : {A B : Type 0} (f : List B → List PartTree) (g : B → List PartTree) → ((xs : List B) (x : B) → f (xs ++ x ∷ []) ≡ f xs ++ g x) → (v : A → B) (es : List A) (k : ℕ) (e : A) (a b seen : Seen)
      → k < length es → e ≡ get_or es k e → IsUnion a b seen → AreSeen n (f (map v (take k es))) a → AreSeen n (g (v e)) b → AreSeen n (f (map v (take (k + 1) es))) seen
  parts_more f g push v es k e a b seen low at is first second =
      parts_same (f (map v (take k es)) ++ g (v e)) (f (map v (take (k + 1) es))) seen
      (sym (ap f (mapped_more v es k e low at) ∙ push (map v (take k es)) (v e)))
      (parts_join (f (map v (take k es))) (g (v e)) a b seen is first second)
