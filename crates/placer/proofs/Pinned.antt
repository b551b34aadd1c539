-- The pin of a name, by the place of its signal.
use Rattle.std.proofs.Common.{◌≡◌, ℕ, suc, ◌+◌, ◌<◌, Bool, true, false, Option, None, Some, List, [], ◌∷◌, All, cond, if◌then◌else◌, length, get_or, refl, sym, ap, ◌∙◌, arith, zero-add, bytes_eq, option_map, position}
use Rattle.placer.proofs.Common.{position_from, position_from-zero, All-get_or, Entry, kind_of, names_any, passes, no_name, same_bytes, AreKnown, is_node, node_pin_of, pin_of, with_pins}
use Rattle.std.proofs.lemmas.List.Quantifiers.{position-Some}

module _ (es : List Entry) (name : List ℕ) where
  abbrev pub is_name : ℕ → Bool
  is_name s = bytes_eq name (get_or es s no_name).name

  pin_from : (ss ps all : List ℕ) (base : ℕ) → length ps ≡ length ss → ((k : ℕ) → get_or all (base + k) 0 ≡ get_or ps k 0) → pin_of es (with_pins ss ps) name ≡ option_map (λ k. get_or all k 0) (position_from is_name base ss)
  pin_from [] ps all base each at = refl
  pin_from (s ∷ ss) [] all base each at = absurd (omega (arith, each))
  pin_from (s ∷ ss) (p ∷ ps) all base each at = by (is_name s) (pin_from ss ps all (base + 1) (omega (arith, each)) (λ k. ap (λ n. get_or all n 0) (step base k) ∙ at (suc k)))
    where
      here : p ≡ get_or all base 0
      here = sym (ap (λ n. get_or all n 0) (plus base) ∙ at 0)
        where
          plus : (n : ℕ) → n ≡ n + 0
          plus n = omega arith

      step : (n k : ℕ) → (n + 1) + k ≡ n + suc k
      step n k = omega arith

      by : (b : Bool) → pin_of es (with_pins ss ps) name ≡ option_map (λ k. get_or all k 0) (position_from is_name (base + 1) ss)
          → (if b then Some p else pin_of es (with_pins ss ps) name) ≡ option_map (λ k. get_or all k 0) (cond b (Some base) (position_from is_name (base + 1) ss))
      by true later = ap Some here
      by false later = later

  pub pin_at_place : (ss ps : List ℕ) → length ps ≡ length ss → (o : Option ℕ) → o ≡ position is_name ss → option_map (λ k. get_or ps k 0) o ≡ pin_of es (with_pins ss ps) name
  pin_at_place ss ps each o is =
      ap (option_map (λ k. get_or ps k 0)) (is ∙ position_from-zero is_name ss) ∙ sym (pin_from ss ps ps 0 each (λ k. ap (λ n. get_or ps n 0) (zero-add k)))

  -- a name of no signal has no pin, whatever it is
  pub no_node_pin : (ss ps : List ℕ) → length ps ≡ length ss → position is_name ss ≡ None → None ≡ node_pin_of es (with_pins ss ps) name
  no_node_pin ss ps each is = by (names_any is_node es name)
    where
      by : (b : Bool) → None ≡ (if b then pin_of es (with_pins ss ps) name else None)
      by true = pin_at_place ss ps each None (sym is)
      by false = refl

  -- what the signal is, the name is
  pub node_at_place : AreKnown es → (ss ps : List ℕ) → All (λ s. s < length es) ss → length ps ≡ length ss → (k : ℕ) → position is_name ss ≡ Some k → (b : Bool) → is_node (get_or es (get_or ss k 0) no_name).kind ≡ b
      → (if b then Some (get_or ps k 0) else None) ≡ node_pin_of es (with_pins ss ps) name
  node_at_place known ss ps inside each k is b node =
      sym (ap (λ c. if c then pin_of es (with_pins ss ps) name else None) what ∙ choose b)
    where
      found : (k < length ss) × (is_name (get_or ss k 0) ≡ true) × ((j : ℕ) → j < k → is_name (get_or ss j 0) ≡ false)
      found = position-Some is_name ss k 0 is

      same : name ≡ (get_or es (get_or ss k 0) no_name).name
      same = same_bytes name (get_or es (get_or ss k 0) no_name).name found.1

      what : names_any is_node es name ≡ b
      what = ap (λ n. passes is_node (kind_of es n)) same ∙ (ap (passes is_node) (known (get_or ss k 0) (All-get_or (λ s. s < length es) ss k 0 found.0 inside)) ∙ node)

      choose : (c : Bool) → (if c then pin_of es (with_pins ss ps) name else None) ≡ (if c then Some (get_or ps k 0) else None)
      choose true = sym (pin_at_place ss ps each (Some k) (sym is))
      choose false = refl
