-- Names one after the other.
use Rattle.std.proofs.Common.{◌≡◌, ℕ, suc, ◌+◌, Bool, true, false, Some, None, List, [], ◌∷◌, ◌++◌, fold, length, sym, ap, subst, ◌∙◌, append_assoc, arith}
use Rattle.decls.proofs.Common.{append-nil, Table, Word, APin, ANode, AConstant, Words, Entry, Tree, GivenName, entry, pin_entries, node_entries, constant_entries, no_words, node_count, name_refused, names_refused, Progress, pin_step, node_step, constant_step, with_numbers}
use Rattle.decls.proofs.Goes.{Reached, Goes, followed, stays, count_append, pin_goes, unnumbered_goes, node_goes, constant_goes}

-- one name and then the others
first_then : (t : Table) (es : List Entry) (given : Bool) (e : Entry) (more : ℕ) (xs : List Entry) (s m n : Progress) → Goes t s (name_refused t es given e) (es ++ e ∷ []) m → Goes t m (names_refused t (es ++ e ∷ []) more xs) ((es ++ e ∷ []) ++ xs) n → Goes t s (name_refused t es given e ++ names_refused t (es ++ e ∷ []) more xs) (es ++ e ∷ xs) n
first_then t es given e more xs s m n g h =
    subst (λ l. Goes t s (name_refused t es given e ++ names_refused t (es ++ e ∷ []) more xs) l n) (append_assoc es (e ∷ []) xs)
    (followed t s m n (name_refused t es given e) (names_refused t (es ++ e ∷ []) more xs) (es ++ e ∷ []) ((es ++ e ∷ []) ++ xs) g h)

no_names : (t : Table) (es : List Entry) (s : Progress) → Reached t es s → Goes t s [] (es ++ []) s
no_names t es s r = subst (λ l. Goes t s [] l s) (sym (append-nil es)) (stays t s es r)

-- ---- pins

pub pins_go : (t : Table) (w : Words) (xs : List GivenName) (ns : List ℕ) (es : List Entry) (s : Progress) → Reached t es s → Goes t s (names_refused t es (length ns) (pin_entries w xs ns)) (es ++ pin_entries w xs ns) (fold (pin_step t w) s (with_numbers xs ns))
pins_go t w [] ns es s r = no_names t es s r
pins_go t w (x ∷ xs) [] es s r =
    let g = unnumbered_goes t es s r x w in
    first_then t es false (entry x.name x.place (APin 0 x.negated) w) 0 (pin_entries w xs []) s (pin_step t w s (x, None)) _ g
    (pins_go t w xs [] (es ++ entry x.name x.place (APin 0 x.negated) w ∷ []) (pin_step t w s (x, None)) g.reached)
pins_go t w (x ∷ xs) (n ∷ ns) es s r =
    let g = pin_goes t es s r x n w in
    first_then t es true (entry x.name x.place (APin n x.negated) w) (length ns) (pin_entries w xs ns) s (pin_step t w s (x, Some n)) _ g
    (pins_go t w xs ns (es ++ entry x.name x.place (APin n x.negated) w ∷ []) (pin_step t w s (x, Some n)) g.reached)

-- ---- nodes

pub nodes_go : (t : Table) (w : Words) (xs : List GivenName) (k : ℕ) (es : List Entry) (s : Progress) → Reached t es s → k ≡ s.nodes → Goes t s (names_refused t es (length (node_entries w k xs)) (node_entries w k xs)) (es ++ node_entries w k xs) (fold (node_step w) s xs)
nodes_go t w [] k es s r e = no_names t es s r
nodes_go t w (x ∷ xs) k es s r e =
    subst (λ j. Goes t s (names_refused t es (length (node_entries w j (x ∷ xs))) (node_entries w j (x ∷ xs))) (es ++ node_entries w j (x ∷ xs)) (fold (node_step w) s (x ∷ xs))) (sym e)
    (let g = node_goes t es s r x w in
    first_then t es true (entry x.name x.place (ANode s.nodes) w) (length (node_entries w (suc s.nodes) xs)) (node_entries w (suc s.nodes) xs) s (node_step w s x) _ g
    (nodes_go t w xs (suc s.nodes) (es ++ entry x.name x.place (ANode s.nodes) w ∷ []) (node_step w s x) g.reached (counted g.reached)))
  where
    one_more : (n : ℕ) → suc n ≡ n + 1
    one_more n = omega arith

    counted : Reached t (es ++ entry x.name x.place (ANode s.nodes) w ∷ []) (node_step w s x) → suc s.nodes ≡ (node_step w s x).nodes
    counted q = ap suc r.nodes ∙ (one_more (node_count es) ∙ (sym (count_append es (entry x.name x.place (ANode s.nodes) w ∷ [])) ∙ sym q.nodes))

-- ---- constants

pub constants_go : (t : Table) (ps : List (Word × Tree)) (es : List Entry) (s : Progress) → Reached t es s → Goes t s (names_refused t es (length (constant_entries ps)) (constant_entries ps)) (es ++ constant_entries ps) (fold constant_step s ps)
constants_go t [] es s r = no_names t es s r
constants_go t (p ∷ ps) es s r =
    let g = constant_goes t es s r p.0.text p.0.place p.1 no_words in
    first_then t es true (entry p.0.text p.0.place (AConstant p.1) no_words) (length (constant_entries ps)) (constant_entries ps) s (constant_step s p) _ g
    (constants_go t ps (es ++ entry p.0.text p.0.place (AConstant p.1) no_words ∷ []) (constant_step s p) g.reached)
