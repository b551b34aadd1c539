-- Places along tokens: none, one after the other, and with the first token's place before them.
use Rattle.std.proofs.Common.{◌≡◌, List, [], ◌∷◌, ◌++◌, refl, sym, ap, subst, ◌∙◌}
use Rattle.abel_grammar.proofs.Common.{append_assoc, All-nil, All-cons, Place, Token, Along}

pub along_none : (ts : List Token) → Along ts []
along_none [] = refl
along_none (t ∷ ts) = ([], [], refl, All-nil (λ (p : Place). p ≡ t.place), along_none ts)

pub along_append : (os bs : List Token) (ps qs : List Place) → Along os ps → Along bs qs → Along (os ++ bs) (ps ++ qs)
along_append [] bs ps qs h k = subst (λ (l : List Place). Along bs (l ++ qs)) (sym h) k
along_append (t ∷ ts) bs ps qs h k =
    (h.0, h.1 ++ qs, ap (λ (l : List Place). l ++ qs) h.2 ∙ append_assoc h.0 h.1 qs, h.3, along_append ts bs h.1 qs h.4 k)

pub along_first : (t : Token) (ts : List Token) (ps : List Place) → Along (t ∷ ts) ps → Along (t ∷ ts) (t.place ∷ ps)
along_first t ts ps h = (t.place ∷ h.0, h.1, ap (λ (l : List Place). t.place ∷ l) h.2, All-cons (λ (p : Place). p ≡ t.place) t.place h.0 refl h.3, h.4)
