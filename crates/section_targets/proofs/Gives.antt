-- What is given by one unit, signal after signal.
use Rattle.std.proofs.Common.{◌≡◌, ℕ, ◌+◌, ◌<◌, ◌≤◌, List, [], ◌∷◌, ◌++◌, Result, Ok, Err, map, length, drop, get_or, refl, sym, ap, subst, subst₂, arith, append-nil}
use Rattle.section_targets.proofs.Common.{All-cons, All-nil, Place, ExprId, Node, arena, formula_at, Formula, Contribution, Contributions, SectionFault, Keeps, view_contribution, Context, Aim, one_given, one_part, each_given, each_part, places_of, drop_all, Leaves, NoMemory, StopsWith, IsBuilt, Builds, CountedUnit}
use Rattle.abel_meaning.specs.Contributions as meant
use Rattle.set_expr.specs.declared.fault.SectionFault.TheVariants as fault
use Rattle.section_targets.specs.declared.giving.Giving.{Giving}
use Rattle.section_targets.proofs.Parts.{leaves_nodes}
use Rattle.section_targets.proofs.Built.{builds_none, builds_stop, builds_then, kept_formula}
use Rattle.section_targets.proofs.Looks.{next_of}

-- what making nodes stops with
pub stops_nodes : (us : List CountedUnit) (gs : List (meant.Contribution Formula)) (ps : List Place) (old new : Contributions) (f : SectionFault) → StopsWith us [] [] old new f → StopsWith us gs ps old new f
stops_nodes us gs ps old new f s = subst (λ vs. StopsWith vs gs ps old new f) (append-nil us) (builds_stop us [] [] gs [] ps old new f s)

-- memory is out after nodes that were made
pub memory_after : (us : List CountedUnit) (gs : List (meant.Contribution Formula)) (ps : List Place) (old new : List Node) (list more : List Contribution) → more ≡ list → IsBuilt us [] [] (record { exprs = old; list = list }) (record { exprs = new; list = list }) → StopsWith us gs ps (record { exprs = old; list = list }) (record { exprs = new; list = more }) fault.OutOfMemory
memory_after us gs ps old new list more e b =
    stops_nodes us gs ps (record { exprs = old; list = list }) (record { exprs = new; list = more }) fault.OutOfMemory
    (NoMemory refl, subst (λ (l : List Contribution). Leaves (record { exprs = old; list = list }) (record { exprs = new; list = l }) [] []) (sym e) (leaves_nodes old new list b.made.grew.keeps))

-- a contribution after nodes that were made
pub given_after : (us : List CountedUnit) (g : meant.Contribution Formula) (p : Place) (old new : List Node) (list more : List Contribution) (c : Contribution) → IsBuilt us [] [] (record { exprs = old; list = list }) (record { exprs = new; list = list }) → more ≡ list ++ c ∷ [] → c.when.0 < length (arena new) → view_contribution (arena new) c ≡ g → c.place ≡ p → IsBuilt us (g ∷ []) (p ∷ []) (record { exprs = old; list = list }) (record { exprs = new; list = more })
given_after us g p old new list more c b e inside v q =
    record {
      accepted = b.accepted;
      within = b.within;
      made = record {
        grew = b.made.grew;
        more = c ∷ [];
        whole = record {
          list = e;
          inside = All-cons (λ (x : Contribution). x.when.0 < length (arena new)) c [] inside (All-nil (λ (x : Contribution). x.when.0 < length (arena new)));
          gives = ap (λ x. x ∷ []) (sym v);
          stand = ap (λ x. x ∷ []) (sym q);
        };
      };
    }

-- ---- signal after signal

-- what is left by giving the signals xs, bit by bit
abbrev pub GivesEach : Context → List Formula → Giving → List Aim → List ExprId → (old new : Contributions) → Result Unit SectionFault → Type 0
GivesEach d fs g xs ids old new r = Builds (each_part fs g (map (formula_at fs) ids)) (each_given d fs g xs (map (formula_at fs) ids)) (places_of xs) old new r

-- where nodes are kept, an older bit gives the same
pub one_kept : (d : Context) (fs : List Formula) (g : Giving) (a : Aim) (id : ExprId) (old new : Contributions) (r : Result Unit SectionFault)
    → Keeps fs (arena old.exprs) → g.guard.when.0 < length fs → id.0 < length fs
    → Builds (one_part (arena old.exprs) g (formula_at (arena old.exprs) id) ∷ []) (one_given d (arena old.exprs) g a (formula_at (arena old.exprs) id) ∷ []) (a.place ∷ []) old new r
    → GivesEach d fs g (a ∷ []) (id ∷ []) old new r
one_kept d fs g a id old new r k h i b =
    rw (← kept_formula fs (arena old.exprs) g.guard.when k h, ← kept_formula fs (arena old.exprs) id k i) b

module _ (d : Context) (fs : List Formula) (g : Giving) (xs : List Aim) (ids : List ExprId) (each : length xs ≡ length ids) (k : ℕ) where
  -- the signal at k, and those after it
  from_here : (x : Aim) (id : ExprId) (old new : Contributions) (r : Result Unit SectionFault) → k < length xs
      → GivesEach d fs g (get_or xs k x ∷ drop (k + 1) xs) (get_or ids k id ∷ drop (k + 1) ids) old new r → GivesEach d fs g (drop k xs) (drop k ids) old new r
  from_here x id old new r lt b =
      subst₂ (λ ys js. GivesEach d fs g ys js old new r) (sym (next_of xs k x lt)) (sym (next_of ids k id (omega arith))) b

  pub each_next : (x : Aim) (id : ExprId) (old mid new : Contributions) (r : Result Unit SectionFault) → k < length xs
      → GivesEach d fs g (get_or xs k x ∷ []) (get_or ids k id ∷ []) old mid (Ok tt) → GivesEach d fs g (drop (k + 1) xs) (drop (k + 1) ids) mid new r
      → GivesEach d fs g (drop k xs) (drop k ids) old new r
  each_next x id old mid new r lt b c =
      from_here x id old new r lt
      (builds_then (each_part fs g (formula_at fs (get_or ids k id) ∷ [])) (each_part fs g (map (formula_at fs) (drop (k + 1) ids))) (each_given d fs g (get_or xs k x ∷ []) (formula_at fs (get_or ids k id) ∷ [])) (each_given d fs g (drop (k + 1) xs) (map (formula_at fs) (drop (k + 1) ids))) (places_of (get_or xs k x ∷ [])) (places_of (drop (k + 1) xs)) old mid new r b c)

  -- if one stops, those after it aren't given
  pub each_stops : (x : Aim) (id : ExprId) (old new : Contributions) (f : SectionFault) → k < length xs
      → GivesEach d fs g (get_or xs k x ∷ []) (get_or ids k id ∷ []) old new (Err f) → GivesEach d fs g (drop k xs) (drop k ids) old new (Err f)
  each_stops x id old new f lt b =
      from_here x id old new (Err f) lt
      (builds_stop (each_part fs g (formula_at fs (get_or ids k id) ∷ [])) (each_part fs g (map (formula_at fs) (drop (k + 1) ids))) (each_given d fs g (get_or xs k x ∷ []) (formula_at fs (get_or ids k id) ∷ [])) (each_given d fs g (drop (k + 1) xs) (map (formula_at fs) (drop (k + 1) ids))) (places_of (get_or xs k x ∷ [])) (places_of (drop (k + 1) xs)) old new f b)

  -- none is left
  pub each_none : (out : Contributions) → length xs ≤ k → GivesEach d fs g (drop k xs) (drop k ids) out out (Ok tt)
  each_none out le =
      subst₂ (λ ys js. GivesEach d fs g ys js out out (Ok tt)) (sym (drop_all k xs le)) (sym (drop_all k ids (omega arith))) (builds_none out)
