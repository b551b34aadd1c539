-- The laws of the first refusal.
use Rattle.std.proofs.Common.{◌≡◌, ℕ, ◌==◌, nat_lt, Bool, true, false, if◌then◌else◌, List, [], ◌∷◌, ◌++◌, Option, Some, None, Contains, refl, sym, ap, ◌∙◌, arith}
use Rattle.std.proofs.lemmas.Bool.Decides.{nat_tests}
use Rattle.abel_tree.specs.FirstRefusal.{Ranks, sooner, is_before, earlier, first_refusal}

sooner_trans : (a b c x y z p q r : ℕ) → sooner a b c x y z ≡ true → sooner x y z p q r ≡ true → sooner a b c p q r ≡ true
sooner_trans a b c x y z p q r h k = grind (arith, nat_tests)

not_sooner_trans : (a b c x y z p q r : ℕ) → sooner a b c x y z ≡ false → sooner x y z p q r ≡ false → sooner a b c p q r ≡ false
not_sooner_trans a b c x y z p q r h k = grind (arith, nat_tests)

-- how two are compared
pub before_by : {F : Type 0} (o : Ranks F) (f g : F) → is_before o f g ≡ sooner (o.place f).line (o.place f).column (o.rank f) (o.place g).line (o.place g).column (o.rank g)
unfolding is_before
before_by o f g = refl

-- what precedes an earlier one precedes a later one
pub before_trans : {F : Type 0} (o : Ranks F) (f g h : F) → is_before o f g ≡ true → is_before o g h ≡ true → is_before o f h ≡ true
unfolding is_before
before_trans o f g h p q = sooner_trans (o.place f).line (o.place f).column (o.rank f) (o.place g).line (o.place g).column (o.rank g) (o.place h).line (o.place h).column (o.rank h) p q

pub not_before_trans : {F : Type 0} (o : Ranks F) (f g h : F) → is_before o f g ≡ false → is_before o g h ≡ false → is_before o f h ≡ false
unfolding is_before
not_before_trans o f g h p q = not_sooner_trans (o.place f).line (o.place f).column (o.rank f) (o.place g).line (o.place g).column (o.rank g) (o.place h).line (o.place h).column (o.rank h) p q

-- by how the three tests go
first_three : {F : Type 0} (o : Ranks F) (x y z : F) (p q r : Bool) → is_before o y x ≡ p → is_before o z y ≡ q → is_before o z x ≡ r → earlier o (earlier o (Some x) (Some y)) (Some z) ≡ earlier o (Some x) (earlier o (Some y) (Some z))
first_three o x y z true true r e f g = rw (e, f, before_trans o z y x f e) refl
first_three o x y z true false r e f g = rw (e, f, e) refl
first_three o x y z false true r e f g = rw (e, f) refl
first_three o x y z false false r e f g = rw (e, f, e, not_before_trans o z y x f e) refl

pub earlier_none : {F : Type 0} (o : Ranks F) (f : Option F) → earlier o f None ≡ f
earlier_none o None = refl
earlier_none o (Some f) = refl

pub earlier_assoc : {F : Type 0} (o : Ranks F) (f g h : Option F) → earlier o (earlier o f g) h ≡ earlier o f (earlier o g h)
earlier_assoc o None g h = refl
earlier_assoc o (Some x) None h = refl
earlier_assoc o (Some x) (Some y) None = earlier_none o (earlier o (Some x) (Some y))
earlier_assoc o (Some x) (Some y) (Some z) = first_three o x y z (is_before o y x) (is_before o z y) (is_before o z x) refl refl refl

-- the first of a list that is made of parts
pub first_append : {F : Type 0} (o : Ranks F) (fs gs : List F) → first_refusal o (fs ++ gs) ≡ earlier o (first_refusal o fs) (first_refusal o gs)
first_append o [] gs = refl
first_append o (f ∷ fs) gs = ap (earlier o (Some f)) (first_append o fs gs) ∙ sym (earlier_assoc o (Some f) (first_refusal o fs) (first_refusal o gs))

-- the running first, one refusal more
pub first_push : {F : Type 0} (o : Ranks F) (fs : List F) (f : F) → first_refusal o (fs ++ f ∷ []) ≡ earlier o (first_refusal o fs) (Some f)
first_push o fs f = first_append o fs (f ∷ [])

-- a list has no first one only if it is empty
first_some : {F : Type 0} (o : Ranks F) (x : F) (g : Option F) → None ≡ earlier o (Some x) g → ⊥
first_some o x None e = cc
first_some {F = F} o x (Some y) e = chosen (is_before o y x) e
  where
    chosen : (b : Bool) → ◌≡◌ {A = Option F} None (if b then Some y else Some x) → ⊥
    chosen true h = cc
    chosen false h = cc

pub none_refused : {F : Type 0} (o : Ranks F) (fs : List F) → None ≡ first_refusal o fs → fs ≡ []
none_refused o [] e = refl
none_refused o (f ∷ fs) e = absurd (first_some o f (first_refusal o fs) e)
