-- A unit that is made in parts.
use Rattle.std.proofs.Common.{◌≡◌, ℕ, ◌+◌, Bool, true, false, List, [], ◌∷◌, Result, Ok, Err, length, refl, sym, ap, ◌∙◌, subst, arith}
use Rattle.section_targets.proofs.Common.{nat_tests, Place, arena, Formula, Contributions, SectionFault, Contributed, IsBuilt, Builds, CountedUnit, part, is_past, limit_at, limit_refused, units_nodes}
use Rattle.abel_meaning.specs.Contributions as meant
use Rattle.section_targets.proofs.Built.{stops_on, builds_then}

-- parts of a unit at this place
abbrev pub AreParts : Place → List CountedUnit → Type 0
AreParts p [] = Unit {0}
AreParts p (u ∷ us) = (u ≡ part p u.nodes) × AreParts p us

past_later : (count m n : ℕ) (b : Bool) → is_past count m ≡ false → is_past (count + m) n ≡ b → is_past count (m + n) ≡ b
past_later count m n true h k = grind (arith, nat_tests, h, k)
past_later count m n false h k = grind (arith, nat_tests, h, k)

parts_limit : (p : Place) (count : ℕ) (us : List CountedUnit) → AreParts p us → limit_refused count us ≡ limit_at [] p (is_past count (units_nodes us)) []
parts_limit p count [] h = refl
parts_limit p count (u ∷ us) h =
    ap (λ (x : CountedUnit). limit_at x.refusals x.place (is_past count u.nodes) (limit_refused (count + u.nodes) us)) h.0
    ∙ by_past (is_past count u.nodes) refl (parts_limit p (count + u.nodes) us h.1)
  where
    by_past : (b : Bool) → is_past count u.nodes ≡ b → limit_refused (count + u.nodes) us ≡ limit_at [] p (is_past (count + u.nodes) (units_nodes us)) []
        → limit_at [] p b (limit_refused (count + u.nodes) us) ≡ limit_at [] p (is_past count (u.nodes + units_nodes us)) []
    by_past true e k = let here : is_past count (u.nodes + units_nodes us) ≡ true = grind (arith, nat_tests, e) in ap (λ b. limit_at [] p b []) (sym here)
    by_past false e k = k ∙ ap (λ b. limit_at [] p b []) (sym (past_later count u.nodes (units_nodes us) (is_past (count + u.nodes) (units_nodes us)) e refl))

-- what is left by parts is left by the unit
pub one_unit : {R : Type 0} (p : Place) (us : List CountedUnit) (gs : List (meant.Contribution Formula)) (ps : List Place) (old new : Contributions) (r : Result R SectionFault) → AreParts p us → Builds us gs ps old new r → Builds (part p (units_nodes us) ∷ []) gs ps old new r
one_unit p us gs ps old new (Ok r) h b =
    record {
      accepted = refl;
      within = sym (parts_limit p (length (arena old.exprs)) us h) ∙ b.within;
      made = subst (Contributed old new gs ps) (omega arith) b.made;
    }
one_unit p us gs ps old new (Err f) h b =
    (stops_on f (length (arena old.exprs)) (length (arena old.exprs)) us (part p (units_nodes us) ∷ []) (λ s. sym (parts_limit p (length (arena old.exprs)) us h) ∙ s) b.0, b.1)

-- two parts of nodes alone
pub two_parts : {R : Type 0} (p : Place) (m n : ℕ) (old mid new : Contributions) (r : Result R SectionFault) → IsBuilt (part p m ∷ []) [] [] old mid → Builds (part p n ∷ []) [] [] mid new r → Builds (part p (m + n) ∷ []) [] [] old new r
two_parts p m n old mid new r a b =
    subst (λ k. Builds (part p k ∷ []) [] [] old new r) (omega arith)
    (one_unit p (part p m ∷ part p n ∷ []) [] [] old new r (refl, (refl, tt)) (builds_then (part p m ∷ []) (part p n ∷ []) [] [] [] [] old mid new r a b))
