-- Formulas made of formulas that name certain leaves alone name those alone.
use Rattle.std.proofs.Common.{◌≡◌, ℕ, zero, suc, Bool, true, false, not, ◌||◌, List, [], ◌∷◌, ◌++◌, inl, inr, map, reverse, replicate}
use Rattle.netlist_laws.proofs.Common.{or_cases, reverse-append, Leaf, Formula, Const, Not, names, make_not, make_and, make_or, make_xor}

module _ (P : Leaf → Type 0) where
  -- the formula names such leaves alone
  abbrev pub NamesOnly : Formula → Type 0
  NamesOnly f = (l : Leaf) → names f l ≡ true → P l

  -- each formula of a word does
  abbrev pub EachNames : List Formula → Type 0
  EachNames [] = Unit {0}
  EachNames (f ∷ fs) = NamesOnly f × EachNames fs

  pub of_constant : (b : Bool) → NamesOnly (Const b)
  of_constant b l e = absurd cc

  of_two : (f g : Formula) → NamesOnly f → NamesOnly g → (l : Leaf) → (names f l || names g l) ≡ true → P l
  of_two f g here there l e =
      elim (or_cases (names f l) (names g l) e) [ inl left ↦ here l left | inr right ↦ there l right ]

  pub of_not : (f : Formula) → NamesOnly f → NamesOnly (make_not f).what
  unfolding make_not
  of_not (Const level) here = of_constant (not level)
  of_not (Not f) here = here
  of_not f here = here

  pub of_and : (f g : Formula) → NamesOnly f → NamesOnly g → NamesOnly (make_and f g).what
  unfolding make_and
  of_and (Const false) g here there = of_constant false
  of_and (Const true) g here there = there
  of_and f (Const false) here there = of_constant false
  of_and f (Const true) here there = here
  of_and f g here there = of_two f g here there

  pub of_or : (f g : Formula) → NamesOnly f → NamesOnly g → NamesOnly (make_or f g).what
  unfolding make_or
  of_or (Const true) g here there = of_constant true
  of_or (Const false) g here there = there
  of_or f (Const true) here there = of_constant true
  of_or f (Const false) here there = here
  of_or f g here there = of_two f g here there

  pub of_xor : (f g : Formula) → NamesOnly f → NamesOnly g → NamesOnly (make_xor f g).what
  unfolding make_xor
  of_xor (Const false) g here there = there
  of_xor (Const true) g here there = of_not g there
  of_xor f (Const false) here there = here
  of_xor f (Const true) here there = of_not f here
  of_xor f g here there = of_two f g here there

  -- ---- lists

  pub each_joined : (fs gs : List Formula) → EachNames fs → EachNames gs → EachNames (fs ++ gs)
  each_joined [] gs here there = there
  each_joined (f ∷ fs) gs here there = (here.0, each_joined fs gs here.1 there)

  pub each_constant : (bs : List Bool) → EachNames (map Const bs)
  each_constant [] = tt
  each_constant (b ∷ bs) = (of_constant b, each_constant bs)

  pub each_copy : (n : ℕ) (f : Formula) → NamesOnly f → EachNames (replicate n f)
  each_copy zero f here = tt
  each_copy (suc n) f here = (here, each_copy n f here)

  pub each_reversed : (fs : List Formula) → EachNames fs → EachNames (reverse fs)
  each_reversed [] here = tt
  each_reversed (f ∷ fs) here =
      rw (reverse-append (f ∷ []) fs) (each_joined (reverse fs) (f ∷ []) (each_reversed fs here.1) (here.0, tt))
