-- What a byte that is given makes of the parts of a reader.
use Rattle.std.proofs.Common.{◌≡◌, ◌-◌, ◌+◌, ◌<◌, ◌≤◌, ℕ, zero, suc, List, [], ◌∷◌, ◌++◌, length, take, drop, get_or, refl, sym, ap, ◌∙◌, arith, add-one, length-drop}
use Rattle.abel_expand.proofs.Common.{Place, place_past, first_place, Kept, after, Stands, take_next}
use Rattle.abel_expand.proofs.Turning.{all_given}

drop_next : (w : List ℕ) (p x : ℕ) (xs : List ℕ) → drop p w ≡ x ∷ xs → drop (suc p) w ≡ xs
drop_next [] zero x xs e = absurd cc
drop_next [] (suc p) x xs e = absurd cc
drop_next (y ∷ w) zero x xs e = ap (drop 1) e
drop_next (y ∷ w) (suc p) x xs e = drop_next w p x xs e

placed_more : (p : Place) (v w : List ℕ) → place_past p (v ++ w) ≡ place_past (place_past p v) w
placed_more p [] w = refl
placed_more p (b ∷ v) w = placed_more (place_past p (b ∷ [])) v w

module _ (text : List ℕ) (turns given done rewritings : ℕ) (k : Kept) (waiting : List ℕ) (copied : ℕ) (rest : List ℕ) (place : Place) (s : Stands text turns given done rewritings k waiting copied rest place) where
  pub stands_given : (b : ℕ) (v waiting' : List ℕ) (copied' : ℕ) (rest' : List ℕ) (place' : Place) → waiting ++ take copied rest ≡ b ∷ v → waiting' ++ take copied' rest' ≡ v → drop copied' rest' ≡ drop copied rest
      → place' ≡ place_past place (b ∷ []) → place'.line ≤ place.line + 1 → place'.column ≤ place.column + 1 → 1 ≤ place'.column
      → (drop given (after turns text).done ≡ b ∷ drop (given + 1) (after turns text).done) × Stands text turns (given + 1) done rewritings k waiting' copied' rest' place' × (given < done)
  stands_given b v waiting' copied' rest' place' e f g p l c o =
      let w : List ℕ = (after turns text).done in
      let at : drop given w ≡ b ∷ v = s.waits ∙ e in
      let next : drop (given + 1) w ≡ v = ap (λ (n : ℕ). drop n w) (add-one given) ∙ drop_next w given b v at in
      let more : take (given + 1) w ≡ take given w ++ b ∷ [] = ap (λ (n : ℕ). take n w) (add-one given) ∙ take_next w given b v at in
      let less : given + 1 ≤ done = omega (arith, ap length at, length-drop given w, s.length_done) in (
        at ∙ ap (λ (x : List ℕ). b ∷ x) (sym next),
        record {
          tables = s.tables;
          counted = s.counted;
          waits = next ∙ sym f;
          behind = s.behind ∙ sym g;
          length_done = s.length_done;
          most = less;
          fits = s.fits;
          few = s.few;
          work = s.work;
          placed = p ∙ ap (λ (q : Place). place_past q (b ∷ [])) s.placed ∙ sym (placed_more first_place (take given w) (b ∷ [])) ∙ ap (place_past first_place) (sym more);
          line = omega (arith, s.line, l);
          column = omega (arith, s.column, c);
          first = o;
        },
        omega (arith, less),
      )

  pub none_left : waiting ++ take copied rest ≡ [] → given ≡ length (after turns text).done
  none_left e = all_given text turns given done rewritings k waiting copied rest place s (s.waits ∙ e) ∙ sym s.length_done

-- the next byte of those that wait
said_at : (w : List ℕ) (i d : ℕ) → i < length w → drop i w ≡ get_or w i d ∷ drop (suc i) w
said_at [] i d h = absurd (omega arith)
said_at (x ∷ w) zero d h = refl
said_at (x ∷ w) (suc i) d h = said_at w i d (omega arith)

pub said_next : (w v : List ℕ) (i d : ℕ) → i < length w → drop i w ++ v ≡ get_or w i d ∷ (drop (i + 1) w ++ v)
said_next w v i d h = ap (λ (x : List ℕ). x ++ v) (said_at w i d h) ∙ ap (λ (n : ℕ). get_or w i d ∷ (drop n w ++ v)) (sym (add-one i))

-- nothing waits after the last byte
pub said_out : (w : List ℕ) (i : ℕ) → length w ≤ i → drop i w ≡ []
said_out [] zero h = refl
said_out [] (suc i) h = refl
said_out (x ∷ w) zero h = absurd (omega arith)
said_out (x ∷ w) (suc i) h = said_out w i (omega arith)

-- the next byte of the rest that is done
pub copied_next : (w : List ℕ) (i n b : ℕ) (rest more : List ℕ) → length w ≤ i → 0 < n → rest ≡ b ∷ more → drop i w ++ take n rest ≡ b ∷ (drop i w ++ take (n - 1) more)
copied_next w i n b rest more h k r =
    let m : n ≡ suc (n - 1) = omega arith in
    let o = said_out w i h in
    ap (λ (x : List ℕ). x ++ take n rest) o ∙ ap (take n) r ∙ ap (λ (j : ℕ). take j (b ∷ more)) m ∙ ap (λ (x : List ℕ). b ∷ (x ++ take (n - 1) more)) (sym o)

pub behind_copied : (n b : ℕ) (rest more : List ℕ) → 0 < n → rest ≡ b ∷ more → drop (n - 1) more ≡ drop n rest
behind_copied n b rest more k r = let m : suc (n - 1) ≡ n = omega arith in ap (λ (j : ℕ). drop j (b ∷ more)) m ∙ ap (drop n) (sym r)

pub none_copied : (w : List ℕ) (i n : ℕ) (rest : List ℕ) → length w ≤ i → n ≡ 0 → drop i w ++ take n rest ≡ []
none_copied w i n rest h z = ap (λ (x : List ℕ). x ++ take n rest) (said_out w i h) ∙ ap (λ (j : ℕ). take j rest) z

nothing : (n : ℕ) (w : List ℕ) → w ≡ [] → take n w ≡ []
nothing zero [] e = refl
nothing (suc n) [] e = refl
nothing n (x ∷ w) e = absurd cc

pub none_there : (w : List ℕ) (i n : ℕ) (rest : List ℕ) → length w ≤ i → rest ≡ [] → drop i w ++ take n rest ≡ []
none_there w i n rest h z = ap (λ (x : List ℕ). x ++ take n rest) (said_out w i h) ∙ nothing n rest z
