-- What is kept of names, by their places.
use Rattle.std.proofs.Common.{◌≡◌, ℕ, zero, suc, ◌+◌, Option, None, Some, List, [], ◌∷◌, ◌++◌, length, map, get_or, slice_get, refl, sym, ap, ◌∙◌, subst, append-nil, zero-add}
use Rattle.design_checks.proofs.Common.{map-append, Entry, find, Known, Number, Term, known_of, term_meant, term_named, known_more, known_names, AreOfNames, values_of, placed, term_at, term_or}

module _ {V : Type 0} (of : Term → V) where
  abbrev pub value_in : List V → Option ℕ → V
  value_in vs None = of (Number 0)
  value_in vs (Some i) = get_or vs i (of (Number 0))

  value_at : (ks : List Known) (i : ℕ) → get_or (values_of of ks) i (of (Number 0)) ≡ of (term_or (slice_get ks i))
  value_at [] i = refl
  value_at (k ∷ ks) zero = refl
  value_at (k ∷ ks) (suc i) = value_at ks i

  value_placed : (ks : List Known) (o : Option ℕ) → value_in (values_of of ks) o ≡ of (term_at ks o)
  value_placed ks None = refl
  value_placed ks (Some i) = value_at ks i

  -- what is kept of a name, by its place
  pub value_named : (es : List Entry) (vs : List V) (ks : List Known) (w : List ℕ) → AreOfNames V of es vs ks → value_in vs (find es w) ≡ of (term_named ks w)
  value_named es vs ks w h =
      ap (λ us. value_in us (find es w)) h.values
      ∙ value_placed ks (find es w)
      ∙ ap of (sym (placed ks es h.later w h.names))

  -- the first names, of all
  pub first_names : (front rest : List Entry) (vs : List V) → vs ≡ values_of of (known_of front) → AreOfNames V of (front ++ rest) vs (known_of front)
  first_names front rest vs e =
      record {
        later = map (λ (e : Entry). e.name) rest;
        names = map-append (λ (e : Entry). e.name) front rest ∙ ap (λ xs. xs ++ map (λ (e : Entry). e.name) rest) (sym (known_names [] 0 front));
        values = e;
      }

  pub all_names : (es : List Entry) (vs : List V) → vs ≡ values_of of (known_of es) → AreOfNames V of es vs (known_of es)
  all_names es vs e = subst (λ xs. AreOfNames V of xs vs (known_of es)) (append-nil es) (first_names es [] vs e)

  -- one name more
  pub values_more : (es : List Entry) (x : Entry) → values_of of (known_of (es ++ x ∷ [])) ≡ values_of of (known_of es) ++ of (term_meant (known_of es) (length es) x.kind) ∷ []
  values_more es x =
      ap (values_of of) (known_more [] 0 es x)
      ∙ (map-append (λ (k : Known). of k.term) (known_of es) (record { name = x.name; term = term_meant (known_of es) (0 + length es) x.kind } ∷ [])
      ∙ ap (λ (n : ℕ). values_of of (known_of es) ++ of (term_meant (known_of es) n x.kind) ∷ []) (zero-add (length es)))
