-- What names represent, with one name more.
use Rattle.std.proofs.Common.{◌≡◌, ℕ, suc, ◌+◌, ◌<◌, List, [], ◌∷◌, ◌++◌, map, take, length, get_or, min, sym, ap, ◌∙◌, arith}
use Rattle.placer.proofs.Common.{length-map, length-take, Declared, Named, meant, named_after, named_of, Entry, view_declared, mapped_more, read_after, read_names_of, stands_for}

start : (n : ℕ) → n ≡ n + 0
start n = omega arith

step : (n k : ℕ) → suc n + k ≡ n + suc k
step n k = omega arith

read_push : (ks : List Named) (s : ℕ) (es : List Entry) (e : Entry) → read_after ks s (es ++ e ∷ []) ≡ read_after ks s es ++ record { name = e.name; signals = stands_for (read_after ks s es) (s + length es) e.kind } ∷ []
read_push ks s [] e = ap (λ n. ks ++ record { name = e.name; signals = stands_for ks n e.kind } ∷ []) (start s)
read_push ks s (x ∷ es) e =
    let more = ks ++ record { name = x.name; signals = stands_for ks s x.kind } ∷ [] in
    read_push more (suc s) es e ∙ ap (λ n. read_after more (suc s) es ++ record { name = e.name; signals = stands_for (read_after more (suc s) es) n e.kind } ∷ []) (step s (length es))

named_push : (ks : List Named) (s : ℕ) (es : List Entry) (e : Entry) → named_after ks s (es ++ e ∷ []) ≡ named_after ks s es ++ record { name = e.name; signals = meant (named_after ks s es) (s + length es) e.kind } ∷ []
named_push ks s [] e = ap (λ n. ks ++ record { name = e.name; signals = meant ks n e.kind } ∷ []) (start s)
named_push ks s (x ∷ es) e =
    let more = ks ++ record { name = x.name; signals = meant ks s x.kind } ∷ [] in
    named_push more (suc s) es e ∙ ap (λ n. named_after more (suc s) es ++ record { name = e.name; signals = meant (named_after more (suc s) es) n e.kind } ∷ []) (step s (length es))

module _ (ds : List Declared) (k : ℕ) (d : Declared) (low : k < length ds) (at : d ≡ get_or ds k d) where
  abbrev so_far : List Entry
  so_far = map view_declared (take k ds)

  as_many : 0 + length so_far ≡ k
  as_many = plain (length so_far) ∙ (length-map (take k ds) view_declared ∙ (length-take k ds ∙ less k (length ds) low))
    where
      plain : (n : ℕ) → 0 + n ≡ n
      plain n = omega arith

      less : (a b : ℕ) → a < b → min a b ≡ a
      less a b h = omega (arith, h)

  pub read_more : read_names_of so_far ++ record { name = d.name; signals = stands_for (read_names_of so_far) k (view_declared d).kind } ∷ [] ≡ read_names_of (map view_declared (take (k + 1) ds))
  read_more =
      sym (ap read_names_of (mapped_more view_declared ds k d low at)
      ∙ (read_push [] 0 so_far (view_declared d)
      ∙ ap (λ n. read_names_of so_far ++ record { name = d.name; signals = stands_for (read_names_of so_far) n (view_declared d).kind } ∷ []) as_many))

  pub named_more : named_of so_far ++ record { name = d.name; signals = meant (named_of so_far) k (view_declared d).kind } ∷ [] ≡ named_of (map view_declared (take (k + 1) ds))
  named_more =
      sym (ap named_of (mapped_more view_declared ds k d low at)
      ∙ (named_push [] 0 so_far (view_declared d)
      ∙ ap (λ n. named_of so_far ++ record { name = d.name; signals = meant (named_of so_far) n (view_declared d).kind } ∷ []) as_many))
