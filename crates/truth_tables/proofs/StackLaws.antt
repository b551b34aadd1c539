-- A walk over a stack, step by step.
use Rattle.std.proofs.Common.{◌≡◌, ℕ, ◌<◌, Bool, true, false, ◌&&◌, List, [], ◌∷◌, ◌++◌, refl, sym, ap, ◌∙◌, subst, arith, append_assoc, append-nil}
use Rattle.truth_tables.proofs.Common.{AllZip, flat_map, list_all, sum_by, and-false, and-true, flat_map-append, list_all-append, sum_by-append, Walking, Opened, IsStep, Walked}
use Rattle.truth_tables.proofs.NamesInOrder.{right_true}

-- ---- what lies on stacks

module _ {A T : Type 0} (S : A → T → Type 0) where
  pub each_append : (xs ys : List A) (ts us : List T) → AllZip S xs ts → AllZip S ys us → AllZip S (xs ++ ys) (ts ++ us)
  each_append [] ys [] us h k = k
  each_append (x ∷ xs) ys (t ∷ ts) us h k = (h.0, each_append xs ys ts us h.1 k)
  each_append _ ys _ us h k = absurd h

  pub each_sum : (m : A → ℕ) (n : T → ℕ) → ((x : A) (t : T) → S x t → m x ≡ n t) → (xs : List A) (ts : List T) → AllZip S xs ts → sum_by m xs ≡ sum_by n ts
  each_sum m n same [] [] h = refl
  each_sum m n same (x ∷ xs) (t ∷ ts) h = omega (arith, sum_by-append m (x ∷ []) xs, sum_by-append n (t ∷ []) ts, same x t h.0, each_sum m n same xs ts h.1)
  each_sum m n same _ _ h = absurd h

  pub record Last (xs : List A) (x : A) (ts : List T) : Type 0 where
    pub front : List T
    pub last : T
    pub is : ts ≡ front ++ last ∷ []
    pub stand : AllZip S xs front
    pub one : S x last

  each_last : (xs : List A) (x : A) (ts : List T) → AllZip S (xs ++ x ∷ []) ts → Last xs x ts
  each_last [] x [] h = absurd h
  each_last [] x (t ∷ []) h = record { front = []; last = t; is = refl; stand = tt; one = h.0 }
  each_last [] x (t ∷ (u ∷ ts)) h = absurd h.1
  each_last (y ∷ xs) x [] h = absurd h
  each_last (y ∷ xs) x (t ∷ ts) h =
      let l = each_last xs x ts h.1 in
      record { front = t ∷ l.front; last = l.last; is = ap (λ us. t ∷ us) l.is; stand = (h.0, l.stand); one = l.one }

pub top_stands : {A T : Type 0} (S : A → T → Type 0) (stack rest : List A) (x : A) (ts : List T) → stack ≡ rest ++ x ∷ [] → AllZip S stack ts → Last S rest x ts
top_stands S stack rest x ts e h = each_last S rest x ts (subst (λ xs. AllZip S xs ts) e h)

-- ---- walks

module _ {A T M : Type 0} (S : A → T → Type 0) (w : Walking T M) where
  -- the terms of a step in place of the last
  opened_behind : (h : T) (front more : List T) (t : T) (old new : List M) → Opened w h (front ++ t ∷ []) [] old → Opened w t more old new → Opened w h (front ++ more) [] new
  opened_behind h front more t old new o n =
      let before = list_all w.passes front in
      let gives = flat_map w.gives front in
      let same : list_all w.passes (front ++ t ∷ []) ≡ list_all w.passes (front ++ more) =
      list_all-append w.passes front (t ∷ []) ∙ ap (λ b. before && b) (and-true (w.passes t) ∙ n.passes) ∙ sym (list_all-append w.passes front more) in
      record {
        passes = o.passes ∙ same;
        gives = λ p.
            o.gives (same ∙ p)
            ∙ ap (λ xs. xs ++ old) (flat_map-append w.gives front (t ∷ []) ∙ ap (λ xs. gives ++ xs) (append-nil (w.gives t)))
            ∙ append_assoc gives (w.gives t) old
            ∙ ap (λ xs. gives ++ xs) (n.gives (right_true before (list_all w.passes more) (sym (list_all-append w.passes front more) ∙ p)))
            ∙ sym (append_assoc gives (flat_map w.gives more) new)
            ∙ ap (λ xs. xs ++ new) (sym (flat_map-append w.gives front more));
      }

  module _ (t : T) (stack rest later : List A) (x : A) (b : Bool) (old new : List M)
      (top : stack ≡ rest ++ x ∷ []) (walked : Walked S w t stack old) (step : (u : T) → S x u → IsStep S w u b rest later old new) where
    here : Last S rest x walked.terms
    here = each_last S rest x walked.terms (subst (λ xs. AllZip S xs walked.terms) top walked.stand)

    pub walk_on : b ≡ true → Walked S w t later new
    walk_on e =
        let l = here in
        let s = subst (λ c. IsStep S w l.last c rest later old new) e (step l.last l.one) in
        record {
          terms = l.front ++ s.terms;
          stand = subst (λ xs. AllZip S xs (l.front ++ s.terms)) (sym s.pushed) (each_append S rest s.more l.front s.terms l.stand s.stand);
          opened = opened_behind t l.front s.terms l.last old new (subst (λ ts. Opened w t ts [] old) l.is walked.opened) s.opened;
        }

    pub walk_stops : b ≡ false → w.passes t ≡ false
    walk_stops e =
        let l = here in
        walked.opened.passes
        ∙ ap (list_all w.passes) l.is
        ∙ list_all-append w.passes l.front (l.last ∷ [])
        ∙ ap (λ q. list_all w.passes l.front && q) (and-true (w.passes l.last) ∙ subst (λ c. IsStep S w l.last c rest later old new) e (step l.last l.one))
        ∙ and-false (list_all w.passes l.front)

    -- a step leaves fewer steps
    pub walk_fewer : (m : A → ℕ) → ((y : A) (u : T) → S y u → m y ≡ w.size u) → b ≡ true → sum_by m later < sum_by m stack
    walk_fewer m same e =
        let l = here in
        let s = subst (λ c. IsStep S w l.last c rest later old new) e (step l.last l.one) in
        let after = ap (sum_by m) s.pushed ∙ each_sum S m w.size same (rest ++ s.more) (l.front ++ s.terms) (each_append S rest s.more l.front s.terms l.stand s.stand) ∙ sum_by-append w.size l.front s.terms in
        let before = each_sum S m w.size same stack walked.terms walked.stand ∙ ap (sum_by w.size) l.is ∙ sum_by-append w.size l.front (l.last ∷ []) in
        omega (arith, after, before, s.fewer)

  pub walk_begun : (t : T) (x : A) → S x t → Walked S w t (x ∷ []) []
  walk_begun t x s =
      record {
        terms = t ∷ [];
        stand = (s, tt);
        opened = record { passes = sym (and-true (w.passes t)); gives = λ p. sym (append-nil (w.gives t ++ [])) };
      }

  pub walk_done : (t : T) (stack : List A) (put : List M) → stack ≡ [] → Walked S w t stack put → (w.passes t ≡ true) × (w.gives t ≡ put)
  walk_done t stack put e h = by_terms h.terms (subst (λ xs. AllZip S xs h.terms) e h.stand) h.opened
    where
      by_terms : (ts : List T) → AllZip S [] ts → Opened w t ts [] put → (w.passes t ≡ true) × (w.gives t ≡ put)
      by_terms [] s o = (o.passes, sym (append-nil (w.gives t)) ∙ o.gives refl)
      by_terms (u ∷ ts) s o = absurd s
