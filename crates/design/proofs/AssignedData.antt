-- What is assigned, and the data that are given to it.
use Rattle.std.proofs.Common.{◌≡◌, ℕ, ◌==◌, Bool, true, ◌&&◌, ◌||◌, Option, None, Some, List, [], ◌∷◌, ◌++◌, length, inl, inr, refl, sym, ap, ap₂, ◌∙◌, replicate}
use Rattle.design.proofs.Common.{list_any, or_left, or_right, or_cases, list_any-append, Extension, Assigned, assigned_each, assigned_by, is_assigned, is_data, Contribution, Gives, Guard, Context, is_data_to, given_each, no_matches, some_signals, SignalUse, reads_of_terms, among, and-true}
use Rattle.abel_tree.specs.declared.words.Extension.TheVariants as extension

-- one of what is assigned to the signal
pub assigned_among : (s : ℕ) (c : Bool) (ss : List ℕ) → is_assigned (assigned_each c ss) s ≡ among s ss
assigned_among s c [] = refl
assigned_among s c (j ∷ ss) = ap (λ b. (j == s) || b) (assigned_among s c ss)

-- data are assigned, controls aren't
pub assigned_data : (s : ℕ) (e : Option Extension) (c : Bool) (ss : List ℕ) → is_assigned (assigned_by e c ss) s ≡ true → (is_data e ≡ true) × (among s ss ≡ true)
assigned_data s None c ss h = (refl, sym (assigned_among s c ss) ∙ h)
assigned_data s (Some extension.D) c ss h = (refl, sym (assigned_among s true ss) ∙ h)
assigned_data s _ c ss h = absurd cc

-- what is assigned one after another
pub one_of_two : (A : Type 0) (s : ℕ) (xs ys : List Assigned) → is_assigned (xs ++ ys) s ≡ true → (is_assigned xs s ≡ true → A) → (is_assigned ys s ≡ true → A) → A
one_of_two A s xs ys h f g = elim (or_cases (is_assigned xs s) (is_assigned ys s) (sym (list_any-append (λ (a : Assigned). a.signal == s) xs ys) ∙ h)) [ inl e ↦ f e | inr e ↦ g e ]

-- some contribution is data to the signal
abbrev pub has_data : {W : Type 0} → ℕ → List (Contribution W) → Bool
has_data s cs = list_any (is_data_to s) cs

module _ (s : ℕ) where
  pub in_front : {W : Type 0} (cs bs : List (Contribution W)) → has_data s cs ≡ true → has_data s (cs ++ bs) ≡ true
  in_front cs bs h = list_any-append (is_data_to s) cs bs ∙ or_left (has_data s cs) (has_data s bs) h

  pub behind : {W : Type 0} (cs bs : List (Contribution W)) → has_data s bs ≡ true → has_data s (cs ++ bs) ≡ true
  behind cs bs h = list_any-append (is_data_to s) cs bs ∙ or_right (has_data s cs) (has_data s bs) h

  module _ (d : Context) (g : Guard (List SignalUse)) where
    -- each signal of a target has a bit of the value
    pub each_data : (e : Option Extension) (c k : Bool) (what : Gives) (w : List SignalUse) (ss : List (Option ℕ)) → is_data e ≡ true
        → has_data s (given_each reads_of_terms d g e c k what ss (replicate (length ss) w)) ≡ among s (some_signals ss)
    each_data e c k what w [] h = refl
    each_data e c k what w (None ∷ ss) h = each_data e c k what w ss h
    each_data e c k what w (Some j ∷ ss) h = ap₂ (λ a b. a || b) (ap (λ b. (j == s) && b) h ∙ and-true (j == s)) (each_data e c k what w ss h)

    -- each signal of a header has a match
    pub each_matched : (c k : Bool) (ss : List (Option ℕ)) → has_data s (no_matches reads_of_terms d g c k ss) ≡ among s (some_signals ss)
    each_matched c k [] = refl
    each_matched c k (None ∷ ss) = each_matched c k ss
    each_matched c k (Some j ∷ ss) = ap₂ (λ a b. a || b) (and-true (j == s)) (each_matched c k ss)
