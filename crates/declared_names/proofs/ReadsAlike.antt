-- What a list of names gives: with one item more, and by two readings that say the same of each name.
use Rattle.std.proofs.Common.{◌≡◌, ℕ, ◌+◌, ◌<◌, Bool, List, [], ◌∷◌, ◌++◌, fold, map, take, length, get_or, sym, ap, ◌∙◌, append_assoc, true, false, ◌||◌, ◌&&◌, if◌then◌else◌, Option, Some, None, refl, ap₂}
use Rattle.declared_names.proofs.Common.{flat_map, append-nil, flat_map-append, fold-append, read_names, list_any, list_any-append, range_names, SectionTree, asks_q, Follow, Mark, by_mark, part_gives, part_names, reads_to, sections_give, use_reads, uses_read, UsedName, PartTree, parts_in_section}
use Rattle.decls.proofs.Rows.{mapped_more}
use Rattle.abel_tree.specs.declared.words.Word.{Word}
use Rattle.declared_names.proofs.Passing.{weighs}

-- ---- one item more

-- what the items of a list give is folded in, and one item more
pub folded_next : {S X A B : Type 0} (step : S → X → S) (f : List B → List X) (g : B → List X) → ((xs : List B) (x : B) → f (xs ++ x ∷ []) ≡ f xs ++ g x) → (v : A → B) (old now new : S) (es : List A) (k : ℕ) (e : A)
    → k < length es → e ≡ get_or es k e → now ≡ fold step old (f (map v (take k es))) → new ≡ fold step now (g (v e)) → new ≡ fold step old (f (map v (take (k + 1) es)))
folded_next step f g push v old now new es k e h i before more =
    more
    ∙ (ap (λ s. fold step s (g (v e))) before
    ∙ (sym (fold-append step old (f (map v (take k es))) (g (v e))) ∙ ap (fold step old) (sym (ap f (mapped_more v es k e h i) ∙ push (map v (take k es)) (v e)))))

-- if each item gives a list
pub flat_next : {S X A B : Type 0} (step : S → X → S) (g : B → List X) (v : A → B) (old now new : S) (es : List A) (k : ℕ) (e : A) → k < length es → e ≡ get_or es k e → now ≡ fold step old (flat_map g (map v (take k es)))
    → new ≡ fold step now (g (v e)) → new ≡ fold step old (flat_map g (map v (take (k + 1) es)))
flat_next step g = folded_next step (flat_map g) g (λ xs x. flat_map-append g xs (x ∷ []) ∙ ap (λ ys. flat_map g xs ++ ys) (append-nil (g x)))

-- names of a range, one name more
pub names_push : {A : Type 0} (of : List ℕ → Bool → List A) (strong : Bool) (xs : List (List ℕ)) (x : List ℕ) → read_names of strong (xs ++ x ∷ []) ≡ read_names of strong xs ++ of x strong
names_push of strong [] x = append-nil (of x strong)
names_push of strong (y ∷ xs) x = ap (λ us. of y strong ++ us) (names_push of strong xs x) ∙ sym (append_assoc (of y strong) (read_names of strong xs) (of x strong))

-- ---- two readings

pub joined : {A B : Type 0} (p : A → Bool) (q : B → Bool) (xs xt : List A) (ys yt : List B) → list_any p xs ≡ list_any q ys → list_any p xt ≡ list_any q yt → list_any p (xs ++ xt) ≡ list_any q (ys ++ yt)
joined p q xs xt ys yt e f = list_any-append p xs xt ∙ (ap₂ (λ a b. a || b) e f ∙ sym (list_any-append q ys yt))

-- of each name, named plainly and strongly
abbrev pub ReadsAlike : {A B : Type 0} → (A → Bool) → (B → Bool) → (List ℕ → Bool → List A) → (List ℕ → Bool → List B) → Type 0
ReadsAlike p q of by = (name : List ℕ) (strong : Bool) → list_any p (of name strong) ≡ list_any q (by name strong)

module _ {A B : Type 0} (p : A → Bool) (q : B → Bool) (of : List ℕ → Bool → List A) (by : List ℕ → Bool → List B) (alike : ReadsAlike p q of by) where
  names_alike : (strong : Bool) (names : List (List ℕ)) → list_any p (read_names of strong names) ≡ list_any q (read_names by strong names)
  names_alike strong [] = refl
  names_alike strong (n ∷ ns) = joined p q (of n strong) (read_names of strong ns) (by n strong) (read_names by strong ns) (alike n strong) (names_alike strong ns)

  use_alike : (strong : Bool) (first : Word) (last : Option Word) → list_any p (reads_to of strong first last) ≡ list_any q (reads_to by strong first last)
  use_alike strong first None = alike first.text strong
  use_alike strong first (Some last) = names_alike strong (range_names first.text last.text)

  pub uses_alike : (strong : Bool) (us : List UsedName) → list_any p (uses_read of strong us) ≡ list_any q (uses_read by strong us)
  uses_alike strong [] = refl
  uses_alike strong (u ∷ us) =
      joined p q (use_reads of strong u) (uses_read of strong us) (use_reads by strong u) (uses_read by strong us) (use_alike (asks_q strong u.extension) u.first u.last) (uses_alike strong us)

  parts_alike : (way : Follow) (xs : List PartTree) → list_any p (flat_map (part_gives way of) xs) ≡ list_any q (flat_map (part_gives way by) xs)
  parts_alike way [] = refl
  parts_alike way (x ∷ xs) =
      joined p q (part_gives way of x) (flat_map (part_gives way of) xs) (part_gives way by x) (flat_map (part_gives way by) xs) (uses_alike (part_names way x).strong (part_names way x).uses) (parts_alike way xs)

  pub sections_alike : (way : Follow) (xs : List SectionTree) → list_any p (sections_give way of xs) ≡ list_any q (sections_give way by xs)
  sections_alike way [] = refl
  sections_alike way (x ∷ xs) =
      let ps = parts_in_section x in
      joined p q (flat_map (part_gives way of) ps) (sections_give way of xs) (flat_map (part_gives way by) ps) (sections_give way by xs) (parts_alike way ps) (sections_alike way xs)

-- what names give by a mark
pub marked_alike : {A : Type 0} (p : A → Bool) (of : List ℕ → Bool → List A) (us : List UsedName) (m : Mark) → list_any p (by_mark of us m) ≡ weighs (λ c. list_any p (uses_read of c us)) m
marked_alike p of us m =
    list_any-append p (uses_read of false (if m.plain then us else [])) (uses_read of true (if m.strong then us else []))
    ∙ ap₂ (λ a b. a || b) (if_so false m.plain) (if_so true m.strong)
  where
    if_so : (c b : Bool) → list_any p (uses_read of c (if b then us else [])) ≡ (b && list_any p (uses_read of c us))
    if_so c true = refl
    if_so c false = refl
