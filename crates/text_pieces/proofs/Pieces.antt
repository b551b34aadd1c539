-- A text in pieces, where pieces are taken from it and put before it.
use Rattle.std.proofs.Common.{◌≡◌, ◌-◌, ◌+◌, ◌<◌, ◌≤◌, ℕ, suc, List, [], ◌∷◌, ◌++◌, length, take, drop, get_or, refl, sym, ap, ◌∙◌, append_assoc, append-nil, arith, add-one, length-append}
use Rattle.text_pieces.proofs.Common.{drop-append-add, take-append-add, take-length, take-suc, stacked, joined}
use Rattle.text_pieces.proofs.Stacked.{stacked-push}

pub popped : (items more : List (List ℕ)) (p : List ℕ) → items ≡ more ++ p ∷ [] → p ++ stacked more ≡ stacked items
popped items more p e = sym (stacked-push more p) ∙ ap stacked (sym e)

pub joined-append : (ps qs : List (List ℕ)) → joined (ps ++ qs) ≡ joined ps ++ joined qs
joined-append [] qs = refl
joined-append (p ∷ ps) qs = ap (λ (w : List ℕ). p ++ w) (joined-append ps qs) ∙ sym (append_assoc p (joined ps) (joined qs))

pub joined-push : (ps : List (List ℕ)) (p : List ℕ) → joined (ps ++ p ∷ []) ≡ joined ps ++ p
joined-push ps p = joined-append ps (p ∷ []) ∙ ap (λ (w : List ℕ). joined ps ++ w) (append-nil p)

-- what follows bytes that reach past the first piece, and the bytes themselves
module _ (top : List ℕ) (items more : List (List ℕ)) (p : List ℕ) (left : ℕ) (past : length top ≤ left) (e : items ≡ more ++ p ∷ []) where
  pub skipped : (text : List ℕ) → drop left (top ++ stacked items) ≡ text → drop (left - length top) (p ++ stacked more) ≡ text
  skipped text h =
      let n : length top + (left - length top) ≡ left = omega arith in
      ap (drop (left - length top)) (popped items more p e) ∙ sym (drop-append-add top (stacked items) (left - length top)) ∙ ap (λ (m : ℕ). drop m (top ++ stacked items)) n ∙ h

  pub cut_off : (front text : List ℕ) → front ++ take left (top ++ stacked items) ≡ text → (front ++ top) ++ take (left - length top) (p ++ stacked more) ≡ text
  cut_off front text h =
      let n : length top + (left - length top) ≡ left = omega arith in
      let t : take left (top ++ stacked items) ≡ top ++ take (left - length top) (p ++ stacked more) =
      ap (λ (m : ℕ). take m (top ++ stacked items)) (sym n) ∙ take-append-add top (stacked items) (left - length top) ∙ ap (λ (w : List ℕ). top ++ take (left - length top) w) (sym (popped items more p e)) in
      append_assoc front top (take (left - length top) (p ++ stacked more)) ∙ ap (λ (w : List ℕ). front ++ w) (sym t) ∙ h

  pub lengths : length top + length (p ++ stacked more) ≡ length (top ++ stacked items)
  lengths = omega (arith, length-append top (stacked items), ap length (popped items more p e))

-- a list of pieces is its last one after the others
pub split_last : (ps : List (List ℕ)) (p d : List ℕ) → 0 < length ps → p ≡ get_or ps (length ps - 1) d → ps ≡ take (length ps - 1) ps ++ p ∷ []
split_last ps p d h e =
    let lt : length ps - 1 < length ps = omega arith in
    let whole : take (suc (length ps - 1)) ps ≡ ps = let z : suc (length ps - 1) ≡ length ps = omega arith in ap (λ (n : ℕ). take n ps) z ∙ take-length ps in
    sym whole ∙ take-suc ps (length ps - 1) d lt ∙ ap (λ (w : List ℕ). take (length ps - 1) ps ++ w ∷ []) (sym e)

-- the last of some pieces follows the others
pub joined_last : (ps : List (List ℕ)) (p d : List ℕ) → 0 < length ps → p ≡ get_or ps (length ps - 1) d → joined (take (length ps - 1) ps) ++ p ≡ joined ps
joined_last ps p d h e = sym (joined-push (take (length ps - 1) ps) p) ∙ ap joined (sym (split_last ps p d h e))

-- one piece more of those in front
pub joined_more : (ps : List (List ℕ)) (p d : List ℕ) (k : ℕ) → k < length ps → p ≡ get_or ps k d → joined (take k ps) ++ p ≡ joined (take (k + 1) ps)
joined_more ps p d k h e =
    let z : k + 1 ≡ suc k = add-one k in
    ap (λ (w : List ℕ). joined (take k ps) ++ w) e ∙ sym (joined-push (take k ps) (get_or ps k d)) ∙ ap joined (sym (ap (λ (n : ℕ). take n ps) z ∙ take-suc ps k d h))

-- bytes from a place on, which are left of its piece
pub part_front : (here front part : List ℕ) (at from len : ℕ) → front ≡ drop at here → from ≡ at → part ≡ take len (drop from here) → part ≡ take len front
part_front here front part at from len f a e = e ∙ ap (λ (n : ℕ). take len (drop n here)) a ∙ ap (take len) (sym f)

pub whole_front : (here front part : List ℕ) (at from : ℕ) → front ≡ drop at here → from ≡ at → part ≡ take (length front) (drop from here) → part ≡ front
whole_front here front part at from f a e = part_front here front part at from (length front) f a e ∙ take-length front
