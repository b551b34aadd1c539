-- What is pushed is what is meant.
use Rattle.std.proofs.Common.{◌≡◌, ℕ, ◌<◌, ◌==◌, Bool, true, false, not, ◌&&◌, ◌||◌, cond, None, Some, List, [], ◌∷◌, ◌++◌, All, map, drop, get_or, length, refl, sym, ap, ap₂, ◌∙◌, subst, arith, filter, if◌then◌else◌}
use Rattle.state_diagrams.proofs.Common.{map-append, All-append, All-map, Place, ExprId, formula_at, Formula, formulas, StateTree, Context, first_of_each, is_other, other_matches, state_matches, Contribution, view_contribution, AreBits, other_signal, other_places, regarded, is_among, pushed_beside, pushed_if, seen_if, pushed_for, state_bit, signals_of, Aim, or_comm, or-false, eqb-true, map-map, splat_is_map}
use Rattle.std.proofs.Math.ListN.{replicate}
use Rattle.std.proofs.lemmas.List.Folds.{list_any-append}
use Rattle.abel_meaning.specs.Contributions as meant
use Rattle.abel_tree.specs.Extensions.{is_data}

-- ---- signals that are seen, in any order

-- registers, and those that was earlier
abbrev pub AreSeen : (registers before seen : List ℕ) → Type 0
AreSeen ss before seen = (s : ℕ) → is_among seen s ≡ (is_among ss s || is_among before s)

seen_next : (ss before seen : List ℕ) (s : ℕ) → AreSeen ss before seen → AreSeen ss (s ∷ before) (seen ++ s ∷ [])
seen_next ss before seen s h = λ t.
    list_any-append (λ u. t == u) seen (s ∷ []) ∙ ap (λ b. b || ((t == s) || false)) (h t) ∙ joined (is_among ss t) (t == s) (is_among before t)
  where
    joined : (a b c : Bool) → ((a || c) || (b || false)) ≡ (a || (b || c))
    joined true b c = refl
    joined false b c = or_comm c (b || false) ∙ ap (λ x. x || c) (or-false b)

-- one that was earlier already
seen_again : (ss before seen : List ℕ) (s : ℕ) → AreSeen ss before seen → is_among before s ≡ true → AreSeen ss (s ∷ before) seen
seen_again ss before seen s h e = λ t. h t ∙ ap (λ b. is_among ss t || b) (there t (t == s) refl)
  where
    there : (t : ℕ) (b : Bool) → (t == s) ≡ b → is_among before t ≡ (b || is_among before t)
    there t true p = ap (is_among before) (eqb-true t s p) ∙ e
    there t false p = refl

-- data to a signal that is no register and didn't precede
first_other : (data_to register came : Bool) → (data_to && not (register || came)) ≡ (data_to && not register && not came)
first_other true false came = refl
first_other _ _ came = refl

-- ---- what is pushed, over an arena

-- contributions that give this at these places, by bits of the arena
pub record ArePushed (fs : List Formula) (gs : List (meant.Contribution Formula)) (ps : List Place) (cs : List Contribution) : Type 0 where
  pub gives : map (view_contribution fs) cs ≡ gs
  pub stand : map (λ (c : Contribution). c.place) cs ≡ ps
  pub inside : All (λ (c : Contribution). c.when.0 < length fs) cs

module _ (fs : List Formula) (d : Context) (g : meant.Guard Formula) (xs : List Aim) (states : List StateTree) (ids : List ExprId) (bits : AreBits fs ids (map (λ (s : StateTree). state_bit d xs s) states)) where
  abbrev view : Contribution → meant.Contribution Formula
  view c = view_contribution fs c

  -- contributions of the block under the guard
  abbrev AreOwn : List Contribution → Type 0
  AreOwn cs = map view cs ≡ map (λ c. regarded d g (view c)) cs

  abbrev others : List Contribution → List (meant.Contribution Formula)
  others cs = filter (is_other (signals_of xs)) (map view cs)

  abbrev meant_by : List (meant.Contribution Formula) → List (meant.Contribution Formula)
  meant_by gs = other_matches (formulas d) d g (signals_of xs) states gs

  abbrev stands : (before : List ℕ) → List Contribution → List Place
  stands before cs = other_places before (length ids) (map (other_signal (signals_of xs)) (map view cs)) (map (λ (c : Contribution). c.place) cs)

  -- a match beside a contribution, if this holds
  abbrev beside : meant.Contribution Formula → Formula → meant.Contribution Formula
  beside c f = record c { extension = None; gives = meant.Match; holds = f }

  matched : (c : Contribution) → view c ≡ regarded d g (view c) → map view (map (pushed_beside c) ids) ≡ state_matches (formulas d) d g (signals_of xs) states (view c)
  matched c own =
      map-map view (pushed_beside c) ids ∙ sym (map-map (beside (view c)) (formula_at fs) ids)
      ∙ ap₂ (λ x hs. map (beside x) hs) own bits.1 ∙ map-map (beside (regarded d g (view c))) (λ (s : StateTree). state_bit d xs s) states

  -- the matches of one before others
  pushed_then : (c : Contribution) (gs : List (meant.Contribution Formula)) (ps : List Place) (cs : List Contribution) → view c ≡ regarded d g (view c) → ArePushed fs (meant_by gs) ps cs
      → ArePushed fs (meant_by (view c ∷ gs)) (replicate (length ids) c.place ++ ps) (map (pushed_beside c) ids ++ cs)
  pushed_then c gs ps cs own p =
      record {
        gives = map-append view (map (pushed_beside c) ids) cs ∙ ap₂ (λ xs ys. xs ++ ys) (matched c own) p.gives;
        stand = map-append (λ (x : Contribution). x.place) (map (pushed_beside c) ids) cs
            ∙ ap₂ (λ xs ys. xs ++ ys) (map-map (λ (x : Contribution). x.place) (pushed_beside c) ids ∙ sym (splat_is_map ids (length ids) c.place refl)) p.stand;
        inside = All-append (λ (x : Contribution). x.when.0 < length fs) (map (pushed_beside c) ids) cs
            (All-map (λ (x : Contribution). x.when.0 < length fs) (pushed_beside c) ids bits.0) p.inside;
      }

  -- one contribution before others, which is of another signal or not, and preceded or not
  one_pushed : (c : Contribution) (cs : List Contribution) (before seen : List ℕ) (other : Bool) → view c ≡ regarded d g (view c) → AreSeen (signals_of xs) before seen
      → ((ss ts : List ℕ) → AreSeen (signals_of xs) ss ts → ArePushed fs (meant_by (first_of_each ss (others cs))) (stands ss cs) (pushed_for ids ts cs))
      → ArePushed fs (meant_by (first_of_each before (cond other (view c ∷ others cs) (others cs))))
      (other_places before (length ids) ((if other then Some c.target.signal else None) ∷ map (other_signal (signals_of xs)) (map view cs)) (c.place ∷ map (λ (x : Contribution). x.place) cs))
      (pushed_if (other && not (is_among before c.target.signal)) ids c ++ pushed_for ids (seen_if (other && not (is_among before c.target.signal)) seen c) cs)
  one_pushed c cs before seen false own h k = k before seen h
  one_pushed c cs before seen true own h k = by (is_among before c.target.signal) refl
    where
      by : (came : Bool) → is_among before c.target.signal ≡ came
          → ArePushed fs (meant_by ((if came then [] else view c ∷ []) ++ first_of_each (c.target.signal ∷ before) (others cs))) ((if came then [] else replicate (length ids) c.place) ++ stands (c.target.signal ∷ before) cs)
          (pushed_if (not came) ids c ++ pushed_for ids (seen_if (not came) seen c) cs)
      by true e = k (c.target.signal ∷ before) seen (seen_again (signals_of xs) before seen c.target.signal h e)
      by false e =
          pushed_then c (first_of_each (c.target.signal ∷ before) (others cs)) (stands (c.target.signal ∷ before) cs) (pushed_for ids (seen ++ c.target.signal ∷ []) cs) own
          (k (c.target.signal ∷ before) (seen ++ c.target.signal ∷ []) (seen_next (signals_of xs) before seen c.target.signal h))

  pub pushed_meant : (cs : List Contribution) (before seen : List ℕ) → AreOwn cs → AreSeen (signals_of xs) before seen
      → ArePushed fs (meant_by (first_of_each before (others cs))) (stands before cs) (pushed_for ids seen cs)
  pushed_meant [] before seen o h = record { gives = refl; stand = refl; inside = λ k x lt. absurd (omega (arith, lt)) }
  pushed_meant (c ∷ cs) before seen o h =
      let s = c.target.signal in
      subst (λ b. ArePushed fs (meant_by (first_of_each before (others (c ∷ cs)))) (stands before (c ∷ cs)) (pushed_if b ids c ++ pushed_for ids (seen_if b seen c) cs))
      (sym (ap (λ b. is_data c.target.extension && not b) (h s) ∙ first_other (is_data c.target.extension) (is_among (signals_of xs) s) (is_among before s)))
      (one_pushed c cs before seen (is_other (signals_of xs) (view c)) (ap (λ ys. get_or ys 0 (view c)) o) h (λ ss ts e. pushed_meant cs ss ts (ap (drop 1) o) e))
