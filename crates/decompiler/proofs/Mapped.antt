-- Loops and paths of one graph as those of another.
use Rattle.std.proofs.Common.{◌≡◌, ℕ, ◌<◌, inl, inr, Bool, true, false, List, [], ◌∷◌, ◌++◌, map, get_or, refl, sym, ap, subst, ◌∙◌, eqb-true, ◌==◌, eqb}
use Rattle.decompiler.proofs.Common.{AllByRecursion, IsDistinct, list_any, eqb-false, ne_eqb, or_cases, true≢false, map-append, HasNoLoop, HasNoPath, IsChain, has}

module _ (count other : ℕ) (reads reads_other : ℕ → ℕ → Bool) (f : ℕ → ℕ) (On : ℕ → Type 0) (inside : (v : ℕ) → On v → f v < other) where
  abbrev each : List ℕ → Type 0
  each vs = AllByRecursion On vs

  all_inside : (vs : List ℕ) → each vs → (v : ℕ) → has (map f vs) v ≡ true → v < other
  all_inside [] on v is = absurd (true≢false (sym is))
  all_inside (w ∷ vs) on v is = elim (or_cases (v == f w) (list_any (λ x. v == x) (map f vs)) is) [
    | inl here ↦ subst (λ (x : ℕ). x < other) (sym (eqb-true v (f w) here)) (inside w on.0)
    | inr later ↦ all_inside vs on.1 v later
  ]

  -- ---- loops

  -- each vertex that reads is good, and reads as its image does where what it reads is good
  module _ (reader : (v w : ℕ) → reads v w ≡ true → On v) (kept : (v w : ℕ) → reads v w ≡ true → On w → reads_other (f v) (f w) ≡ true)
      (apart : (v w : ℕ) → On v → On w → f v ≡ f w → v ≡ w) where
    readers : (vs : List ℕ) (end : ℕ) → IsChain reads vs end → each vs
    readers [] end leads = tt
    readers (v ∷ vs) end leads = (reader v (get_or vs 0 end) leads.0, readers vs end leads.1)

    chain_kept : (vs : List ℕ) (end : ℕ) → IsChain reads vs end → each vs → On end → IsChain reads_other (map f vs) (f end)
    chain_kept [] end leads on last = tt
    chain_kept (v ∷ []) end leads on last = (kept v end leads.0 last, tt)
    chain_kept (v ∷ w ∷ vs) end leads on last = (kept v w leads.0 on.1.0, chain_kept (w ∷ vs) end leads.1 on.1 last)

    none_same : (v : ℕ) (vs : List ℕ) → On v → each vs → AllByRecursion (λ (w : ℕ). eqb v w ≡ false) vs → AllByRecursion (λ (w : ℕ). eqb (f v) w ≡ false) (map f vs)
    none_same v [] on all distinct = tt
    none_same v (w ∷ vs) on all distinct = (
      ne_eqb (f v) (f w) (λ same. eqb-false v w distinct.0 (apart v w on all.0 same)),
      none_same v vs on all.1 distinct.1,
    )

    distinct_kept : (vs : List ℕ) → each vs → IsDistinct eqb vs → IsDistinct eqb (map f vs)
    unfolding IsDistinct
    distinct_kept [] on distinct = tt
    distinct_kept (v ∷ vs) on distinct = (none_same v vs on.0 on.1 distinct.0, distinct_kept vs on.1 distinct.1)

    pub no_loop : HasNoLoop other reads_other → HasNoLoop count reads
    no_loop none [] loop = loop.some refl
    no_loop none (v ∷ vs) loop =
        let on = readers (v ∷ vs) v loop.returns in
        none (f v ∷ map f vs)
        (record { some = λ e. absurd cc; inside = all_inside (v ∷ vs) on; once = distinct_kept (v ∷ vs) on loop.once; returns = chain_kept (v ∷ vs) v loop.returns on on.0 })

  -- ---- paths

  -- each vertex that is read or a start is good, and reads, starts and ends as its image does
  module _ (starts ends starts_other ends_other : ℕ → Bool) (read : (v w : ℕ) → reads v w ≡ true → On w)
      (kept : (v w : ℕ) → reads v w ≡ true → reads_other (f v) (f w) ≡ true) (start : (v : ℕ) → starts v ≡ true → On v)
      (started : (v : ℕ) → starts v ≡ true → starts_other (f v) ≡ true) (ended : (v : ℕ) → On v → ends v ≡ true → ends_other (f v) ≡ true) where
    chain_on : (vs : List ℕ) (last : ℕ) → On (get_or (vs ++ last ∷ []) 0 0) → IsChain reads vs last → each (vs ++ last ∷ [])
    chain_on [] last on leads = (on, tt)
    chain_on (v ∷ []) last on leads = (on, (read v last leads.0, tt))
    chain_on (v ∷ w ∷ vs) last on leads = (on, chain_on (w ∷ vs) last (read v w leads.0) leads.1)

    leads_kept : (vs : List ℕ) (last : ℕ) → IsChain reads vs last → IsChain reads_other (map f vs) (f last)
    leads_kept [] last leads = tt
    leads_kept (v ∷ []) last leads = (kept v last leads.0, tt)
    leads_kept (v ∷ w ∷ vs) last leads = (kept v w leads.0, leads_kept (w ∷ vs) last leads.1)

    first_kept : (vs : List ℕ) (last : ℕ) → get_or (map f (vs ++ last ∷ [])) 0 0 ≡ f (get_or (vs ++ last ∷ []) 0 0)
    first_kept [] last = refl
    first_kept (v ∷ vs) last = refl

    last_on : (vs : List ℕ) (last : ℕ) → each (vs ++ last ∷ []) → On last
    last_on [] last on = on.0
    last_on (v ∷ vs) last on = last_on vs last on.1

    pub no_path : HasNoPath other reads_other starts_other ends_other → HasNoPath count reads starts ends
    no_path none path p =
        let vs : List ℕ = p.before in
        let begins : starts (get_or (vs ++ p.last ∷ []) 0 0) ≡ true = subst (λ (xs : List ℕ). starts (get_or xs 0 0) ≡ true) p.is p.begins in
        let on = chain_on vs p.last (start (get_or (vs ++ p.last ∷ []) 0 0) begins) p.leads in
        none (map f (vs ++ p.last ∷ []))
        (
        record {
          before = map f vs;
          last = f p.last;
          is = map-append f vs (p.last ∷ []);
          inside = all_inside (vs ++ p.last ∷ []) on;
          begins = ap starts_other (first_kept vs p.last) ∙ started (get_or (vs ++ p.last ∷ []) 0 0) begins;
          leads = leads_kept vs p.last p.leads;
          arrives = ended p.last (last_on vs p.last on) p.arrives;
        }
        )
