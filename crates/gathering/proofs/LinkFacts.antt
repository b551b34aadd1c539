-- What the links of a design say of its signals, by their places among the links.
use Rattle.std.proofs.Common.{◌≡◌, ℕ, zero, suc, ◌+◌, ◌<◌, true, false, List, [], ◌∷◌, length, get_or, refl, sym, ◌∙◌, subst, arith, inl, inr}
use Rattle.gathering.proofs.Common.{cases_Bool, true≢false, Formula, Entry, Context, no_name, Link, is_linked, IsLinkOf, StartsIf, AreLinksFrom}
use Rattle.abel_meaning.specs.Contributions as meant

module _ (d : Context) (cs : List (meant.Contribution Formula)) where
  -- the link at a place is that of a name of the list that is linked
  abbrev pub IsHere : ℕ → List Entry → ℕ → Link → Type 0
  IsHere s xs n l =
      (i : ℕ) × (i < length xs) × (n ≡ s + i) × IsLinkOf d cs n (get_or xs i no_name) l × (is_linked d.device (get_or xs i no_name) ≡ true)

  abbrev pub IsThere : ℕ → List ℕ → List Link → ℕ → Type 0
  IsThere s ns ls i = (v : ℕ) × (v < length ls) × (get_or ns v 0 ≡ s + i)

  -- as many numbers as links, each with a name's link; numbers rise from the first on; each linked name is there
  pub record Facts (s : ℕ) (xs : List Entry) (ns : List ℕ) (ls : List Link) : Type 0 where
    pub count : length ns ≡ length ls
    pub here : (v : ℕ) (l : Link) → v < length ls → IsHere s xs (get_or ns v 0) (get_or ls v l)
    pub rises : (v w : ℕ) → v < w → w < length ls → get_or ns v 0 < get_or ns w 0
    pub each : (i : ℕ) → is_linked d.device (get_or xs i no_name) ≡ true → IsThere s ns ls i

  later : (s : ℕ) (x : Entry) (xs : List Entry) (n : ℕ) (l : Link) → IsHere (suc s) xs n l → IsHere s (x ∷ xs) n l
  later s x xs n l at = (suc at.0, omega (arith, at.1), omega (arith, at.2), at.3, at.4)

  facts_skipped : (s : ℕ) (x : Entry) (xs : List Entry) (ns : List ℕ) (ls : List Link) → is_linked d.device x ≡ false → Facts (suc s) xs ns ls → Facts s (x ∷ xs) ns ls
  facts_skipped s x xs ns ls other f = record {
    count = f.count;
    here = λ v l low. later s x xs (get_or ns v 0) (get_or ls v l) (f.here v l low);
    rises = f.rises;
    each = there;
  }
    where
      there : (i : ℕ) → is_linked d.device (get_or (x ∷ xs) i no_name) ≡ true → IsThere s ns ls i
      there zero linked = absurd (true≢false (sym linked ∙ other))
      there (suc i) linked = let at = f.each i linked in (at.0, at.1, omega (arith, at.2))

  facts_more : (s n : ℕ) (x : Entry) (l : Link) (xs : List Entry) (ns : List ℕ) (ls : List Link) → n ≡ s → is_linked d.device x ≡ true → IsLinkOf d cs s x l → Facts (suc s) xs ns ls → Facts s (x ∷ xs) (n ∷ ns) (l ∷ ls)
  facts_more s n x l xs ns ls e linked is f = record { count = omega (arith, f.count); here = here; rises = rises; each = there }
    where
      here : (v : ℕ) (k : Link) → v < length (l ∷ ls) → IsHere s (x ∷ xs) (get_or (n ∷ ns) v 0) (get_or (l ∷ ls) v k)
      here zero k low = (0, omega arith, omega (arith, e), subst (λ m. IsLinkOf d cs m x l) (sym e) is, linked)
      here (suc v) k low = later s x xs (get_or ns v 0) (get_or ls v k) (f.here v k (omega (arith, low)))

      rises : (v w : ℕ) → v < w → w < length (l ∷ ls) → get_or (n ∷ ns) v 0 < get_or (n ∷ ns) w 0
      rises v zero less low = absurd (omega (arith, less))
      rises zero (suc w) less low = let at = f.here w l (omega (arith, low)) in omega (arith, at.2, e)
      rises (suc v) (suc w) less low = f.rises v w (omega (arith, less)) (omega (arith, low))

      there : (i : ℕ) → is_linked d.device (get_or (x ∷ xs) i no_name) ≡ true → IsThere s (n ∷ ns) (l ∷ ls) i
      there zero linked = (0, omega arith, omega (arith, e))
      there (suc i) one = let at = f.each i one in (suc at.0, omega (arith, at.1), omega (arith, at.2))

  none_linked : (i : ℕ) → is_linked d.device (get_or [] i no_name) ≡ true → ⊥
  none_linked i linked = true≢false (sym linked)

  pub facts : (s : ℕ) (xs : List Entry) (ns : List ℕ) (ls : List Link) → AreLinksFrom d cs s xs ns ls → Facts s xs ns ls
  facts s [] [] [] are = record {
    count = refl;
    here = λ v l low. absurd (omega (arith, low));
    rises = λ v w less low. absurd (omega (arith, low));
    each = λ i linked. absurd (none_linked i linked);
  }
  facts s [] (n ∷ ns) ls are = absurd (let e : n ∷ ns ≡ [] = are.0 in cc)
  facts s [] [] (l ∷ ls) are = absurd (let e : l ∷ ls ≡ [] = are.1 in cc)
  facts s (x ∷ xs) ns ls are =
      elim (cases_Bool (is_linked d.device x)) [
        | inl linked ↦ starts linked (λ ms ks here. facts (suc s) xs ms ks here) ns ls (rw linked at are)
        | inr other ↦ facts_skipped s x xs ns ls other (facts (suc s) xs ns ls (rw other at are))
      ]
    where
      starts : is_linked d.device x ≡ true → ((ms : List ℕ) (ks : List Link) → AreLinksFrom d cs (suc s) xs ms ks → Facts (suc s) xs ms ks) → (ms : List ℕ) (ks : List Link) → StartsIf true (IsLinkOf d cs s x) (AreLinksFrom d cs (suc s) xs) s ms ks → Facts s (x ∷ xs) ms ks
      starts linked rest (m ∷ ms) (k ∷ ks) here = facts_more s m x k xs ms ks here.0 linked here.1 (rest ms ks here.2)
      starts linked rest _ _ none = absurd none
