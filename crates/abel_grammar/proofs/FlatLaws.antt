-- From the laws of a form in which nothing is nested to the verdict on all tokens.
use Rattle.std.proofs.Common.{◌≡◌, Bool, List, [], ◌∷◌, length, Result, Ok, Err, refl, sym, ap, ◌∙◌}
use Rattle.abel_grammar.proofs.Common.{Form, Stop, Reader, SpellsWhole}
use Rattle.abel_grammar.proofs.Laws.{Lawful}

abbrev read_as : (X : Type 0) {T : Type 0} → T × List X → Result (T × List X) (Stop X)
read_as X x = Ok x

same_pair : {X T : Type 0} (x y : T × List X) → read_as X x ≡ read_as X y → x ≡ y
same_pair x y e = cc

module _ {X T : Type 0} (form : Form X T) (read : Reader X T) (first : X → Bool) (goes : T → X → Bool) (null : Bool) (laws : Lawful form form read read first goes null) where
  -- if the tokens spell a tree, it is read, and nothing is left
  reads : (ts : List X) (u : T) → SpellsWhole form ts u → read ts ≡ Ok (u, [])
  reads ts u s = laws.only ts u [] s refl

  -- what was read to the end is spelled
  pub spelled : (ts : List X) (t : T) → read ts ≡ Ok (t, []) → SpellsWhole form ts t
  spelled ts t e = laws.sound ts (t, []) e

  -- and nothing else is
  pub spelled_alone : (ts : List X) (t : T) → read ts ≡ Ok (t, []) → (u : T) → SpellsWhole form ts u → u ≡ t
  spelled_alone ts t e u s = ap (λ (p : T × List X). p.0) (same_pair (u, []) (t, []) (sym (reads ts u s) ∙ e))

  -- tokens at which reading stopped spell nothing
  pub unspelled : (ts : List X) (stop : Stop X) → read ts ≡ Err stop → (u : T) → SpellsWhole form ts u → ⊥
  unspelled ts stop e u s = let d : read_as X (u, []) ≡ Err stop = sym (reads ts u s) ∙ e in cc

  -- nor do those of which some are left
  pub left_behind : (ts : List X) (t : T) (x : X) (rest : List X) → read ts ≡ Ok (t, x ∷ rest) → (u : T) → SpellsWhole form ts u → ⊥
  left_behind ts t x rest e u s =
      let d : [] ≡ x ∷ rest = ap (λ (p : T × List X). p.1) (same_pair (u, []) (t, x ∷ rest) (sym (reads ts u s) ∙ e)) in
      cc
