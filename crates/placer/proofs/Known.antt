-- Names with their marks: one that is asked for, and one more.
use Rattle.std.proofs.Common.{◌≡◌, ℕ, ◌≤◌, ◌==◌, Bool, true, false, Option, Some, None, List, [], ◌∷◌, ◌++◌, length, if◌then◌else◌, refl, sym, ap, subst, ◌∙◌, is_some, option_copied, unwrap_or, bytes_eq}
use Rattle.placer.proofs.Common.{true≢false, same_bytes, Named, signals_of_name, number_in, earlier_number, number_of_name, number_behind, HasMark, HasSameMark, numbers_named}
use denote.Ref.{Bor}
use Rattle.std.specs.Global.{Vec}
use Rattle.placer.proofs.Joins.{none_marked}

-- ---- a name that is asked for

signals_named : (ks : List Named) (name : List ℕ) → unwrap_or (numbers_named ks name) [] ≡ signals_of_name ks name
signals_named [] name = refl
signals_named (k ∷ ks) name = by (bytes_eq name k.name) (signals_named ks name)
  where
    by : (b : Bool) → unwrap_or (numbers_named ks name) [] ≡ signals_of_name ks name → unwrap_or (if b then Some k.signals else numbers_named ks name) [] ≡ (if b then k.signals else signals_of_name ks name)
    by true later = refl
    by false later = later

module _ (signals : List ℕ) where
  known : (o : Option (List ℕ)) (n : Option ℕ) (mark : ℕ) → n ≡ Some mark → HasSameMark signals o n → HasMark signals (unwrap_or o []) mark
  known None None mark is same = absurd cc
  known None (Some m) mark is same = absurd same
  known (Some ns) None mark is same = absurd same
  known (Some ns) (Some m) mark is same = let there : m ≡ mark = cc in subst (HasMark signals ns) there same

  unknown : length signals ≤ 32 → (o : Option (List ℕ)) (n : Option ℕ) → n ≡ None → HasSameMark signals o n → HasMark signals (unwrap_or o []) 0
  unknown small None None is same = none_marked signals small (λ s n. n == s)
  unknown small None (Some m) is same = absurd same
  unknown small (Some ns) None is same = absurd same
  unknown small (Some ns) (Some m) is same = absurd cc

  pub known_mark : (ks : List Named) (name : List ℕ) (n : Option ℕ) (mark : ℕ) → n ≡ Some mark → HasSameMark signals (numbers_named ks name) n → HasMark signals (signals_of_name ks name) mark
  known_mark ks name n mark is same = subst (λ ns. HasMark signals ns mark) (signals_named ks name) (known (numbers_named ks name) n mark is same)

  pub unknown_mark : length signals ≤ 32 → (ks : List Named) (name : List ℕ) (n : Option ℕ) → n ≡ None → HasSameMark signals (numbers_named ks name) n → HasMark signals (signals_of_name ks name) 0
  unknown_mark small ks name n is same = subst (λ ns. HasMark signals ns 0) (signals_named ks name) (unknown small (numbers_named ks name) n is same)

-- ---- one name more

-- the first that there is
abbrev first_numbers : Option (List ℕ) → Option (List ℕ) → Option (List ℕ)
first_numbers None o = o
first_numbers (Some ns) o = Some ns

named_more : (ks : List Named) (k : Named) (name : List ℕ) → numbers_named (ks ++ k ∷ []) name ≡ first_numbers (numbers_named ks name) (if bytes_eq name k.name then Some k.signals else None)
named_more [] k name = refl
named_more (x ∷ ks) k name = by (bytes_eq name x.name) (named_more ks k name)
  where
    by : (b : Bool) → numbers_named (ks ++ k ∷ []) name ≡ first_numbers (numbers_named ks name) (if bytes_eq name k.name then Some k.signals else None)
        → (if b then Some x.signals else numbers_named (ks ++ k ∷ []) name) ≡ first_numbers (if b then Some x.signals else numbers_named ks name) (if bytes_eq name k.name then Some k.signals else None)
    by true later = refl
    by false later = later

module _ (signals : List ℕ) where
  -- it is new
  new_same : (o : Option (List ℕ)) (n : Option ℕ) (b : Bool) (numbers : List ℕ) (mark : ℕ) → HasSameMark signals o n → HasMark signals numbers mark
      → HasSameMark signals (first_numbers o (if b then Some numbers else None)) (earlier_number n (if b then Some mark else None))
  new_same None None true numbers mark same has = has
  new_same None None false numbers mark same has = tt
  new_same None (Some m) b numbers mark same has = absurd same
  new_same (Some ns) None b numbers mark same has = absurd same
  new_same (Some ns) (Some m) b numbers mark same has = same

  pub new_name : (rows : List (Vec ℕ × ℕ)) (key : Vec ℕ) (numbers : List ℕ) (mark : ℕ) (ks : List Named) (name : List ℕ) → key.items ≡ name
      → ((other : List ℕ) → HasSameMark signals (numbers_named ks other) (number_in rows other)) → HasMark signals numbers mark
      → (other : List ℕ) → HasSameMark signals (numbers_named (ks ++ record { name = name; signals = numbers } ∷ []) other) (number_in (rows ++ (key, mark) ∷ []) other)
  new_name rows key numbers mark ks name is same has other =
      subst (λ o. HasSameMark signals o (number_in (rows ++ (key, mark) ∷ []) other)) (sym (named_more ks (record { name = name; signals = numbers }) other))
      (subst (HasSameMark signals (first_numbers (numbers_named ks other) (if bytes_eq other name then Some numbers else None)))
      (sym (number_behind rows key mark other ∙ ap (λ w. earlier_number (number_in rows other) (number_of_name w mark other)) is))
      (new_same (numbers_named ks other) (number_in rows other) (bytes_eq other name) numbers mark (same other) has))

  -- it is known already
  known_same : (o : Option (List ℕ)) (n : Option ℕ) (b : Bool) (numbers : List ℕ) → (b ≡ true → is_some n ≡ true) → HasSameMark signals o n → HasSameMark signals (first_numbers o (if b then Some numbers else None)) n
  known_same None None true numbers is same = absurd (true≢false (sym (is refl)))
  known_same None None false numbers is same = tt
  known_same None (Some m) b numbers is same = absurd same
  known_same (Some ns) None b numbers is same = absurd same
  known_same (Some ns) (Some m) b numbers is same = same

  pub known_name : (rows : List (Vec ℕ × ℕ)) (numbers : List ℕ) (ks : List Named) (name : List ℕ) → is_some (number_in rows name) ≡ true
      → ((other : List ℕ) → HasSameMark signals (numbers_named ks other) (number_in rows other))
      → (other : List ℕ) → HasSameMark signals (numbers_named (ks ++ record { name = name; signals = numbers } ∷ []) other) (number_in rows other)
  known_name rows numbers ks name there same other =
      subst (λ o. HasSameMark signals o (number_in rows other)) (sym (named_more ks (record { name = name; signals = numbers }) other))
      (known_same (numbers_named ks other) (number_in rows other) (bytes_eq other name) numbers (λ here. ap (λ w. is_some (number_in rows w)) (same_bytes other name here) ∙ there) (same other))

-- a name that is found has a mark
pub some_found : (r : Option (Bor ℕ)) → is_some r ≡ true → is_some (option_copied r) ≡ true
some_found None is = absurd cc
some_found (Some x) is = refl
