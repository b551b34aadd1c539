-- Look-ups from the front.
use Rattle.std.proofs.Common.{◌≡◌, ℕ, ◌+◌, ◌-◌, ◌<◌, ◌≤◌, Bool, true, ◌||◌, List, [], ◌∷◌, ◌++◌, Option, None, Some, length, map, get_or, drop, refl, sym, ap, ap₂, ◌∙◌, subst, arith, add-one, position}
use Rattle.section_targets.proofs.Common.{cond_both, All-cons, All-nil, list_any, position_from, is_some, option_or, position_from-zero, drop-cons, drop_all, Aim, Manner, AreNamed, nat_tests, first_manner, is_same_part, part_of, AreFirsts}
use Rattle.std.proofs.lemmas.List.Folds.{find-append}

-- what is left from k on
pub next_of : {X : Type 0} (xs : List X) (k : ℕ) (d : X) → k < length xs → drop k xs ≡ get_or xs k d ∷ drop (k + 1) xs
next_of xs k d lt = drop-cons xs k d lt ∙ ap (λ n. get_or xs k d ∷ drop n xs) (sym (add-one k))

-- from the last back to the one before k
pub back_more : {A B : Type 0} (f : A → B) (xs : List A) (k : ℕ) (x : A) → 0 < k → k ≤ length xs → x ≡ get_or xs (k - 1) x → map f (drop (k - 1) xs) ≡ f x ∷ map f (drop k xs)
back_more f xs k x some h i =
    let next : k - 1 + 1 ≡ k = omega (arith, some) in
    ap (map f) (next_of xs (k - 1) x (omega (arith, some, h))) ∙ ap₂ (λ y n. f y ∷ map f (drop n xs)) (sym i) next

pub back_none : {A B : Type 0} (f : A → B) (xs : List A) → map f (drop (length xs) xs) ≡ []
back_none f xs = ap (map f) (drop_all (length xs) xs (omega arith))

-- there is a place at which some is
pub placed_any : {X : Type 0} (t : X → Bool) (xs : List X) → is_some (position t xs) ≡ list_any t xs
placed_any {X = X} t xs = ap is_some (position_from-zero t xs) ∙ from 0 xs
  where
    from : (i : ℕ) (ys : List X) → is_some (position_from t i ys) ≡ list_any t ys
    from i [] = refl
    from i (y ∷ ys) = cond_both (t y) (Some i) (position_from t (i + 1) ys) (λ o. is_some o ≡ (t y || list_any t ys)) (λ e. rw e refl) (λ e. rw e (from (i + 1) ys))

-- ---- the first of each part

-- what is kept and what all are agree with one more at the end of both
pub firsts_push : (firsts all : List Manner) (m : Manner) → AreFirsts firsts all → AreFirsts (firsts ++ m ∷ []) (all ++ m ∷ [])
firsts_push firsts all m h s part =
    let test = λ (x : Manner). is_same_part x s part in
    find-append test firsts (m ∷ []) ∙ ap (λ o. option_or o (first_manner (m ∷ []) s part)) (h s part) ∙ sym (find-append test all (m ∷ []))

-- nothing need be kept if the part is assigned before
pub firsts_stay : (firsts all : List Manner) (m f : Manner) → AreFirsts firsts all → Some f ≡ first_manner firsts m.signal (part_of m.extension) → AreFirsts firsts (all ++ m ∷ [])
firsts_stay firsts all m f h e s part =
    sym (find-append (λ (x : Manner). is_same_part x s part) all (m ∷ []) ∙ ap (λ o. option_or o (first_manner (m ∷ []) s part)) (sym (h s part))
    ∙ cond_both (is_same_part m s part) (Some m) None (λ o. option_or (first_manner firsts s part) o ≡ first_manner firsts s part) same (λ q. last (first_manner firsts s part)))
  where
    last : (o : Option Manner) → option_or o None ≡ o
    last None = refl
    last (Some x) = refl

    same : is_same_part m s part ≡ true → option_or (first_manner firsts s part) (Some m) ≡ first_manner firsts s part
    same q =
        let i : m.signal ≡ s = grind (arith, nat_tests, q) in
        let j : part_of m.extension ≡ part = grind (arith, nat_tests, q) in
        subst (λ o. option_or o (Some m) ≡ o) (e ∙ ap₂ (λ a b. first_manner firsts a b) i j) refl

pub named_one : (n : ℕ) (a : Aim) → a.signal < n → AreNamed n (a ∷ [])
named_one n a h = All-cons (λ (x : Aim). x.signal < n) a [] h (All-nil (λ (x : Aim). x.signal < n))
