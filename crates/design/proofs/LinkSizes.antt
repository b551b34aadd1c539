-- The links of a design are few, and each leaf has a number that leaves may have.
use Rattle.std.proofs.Common.{◌≡◌, ◌≢◌, ℕ, zero, suc, ◌+◌, ◌<◌, ◌≤◌, Bool, true, false, ◌||◌, eqb, List, [], ◌∷◌, length, map, get_or, Option, Some, None, refl, sym, ap, ◌∙◌, subst, inl, inr, arith, if◌then◌else◌, is_some}
use Rattle.design.proofs.Common.{IsDistinct, option_map, cases_lt, eqb-true, eq-eqb, ne_eqb, get_or-map, length-map, position-Some, slice_get_past, same_Some, has, few, place_of, IsDevice, Table, cell_at, no_cell, Leaf, IsLeaf, Kind, APin, ANode, Entry, is_stored, cell_on, is_on_pin, Design, name_at, no_name, given_formulas, settles, leaf_by, PinsApart, NodesAreFew, cell_by, Link, is_linked, IsLinkOf, AreLinks, AreSignals, is_node_kind}
use Rattle.std.proofs.lemmas.Map.Keys.{IsDistinct-from_apart}
use Rattle.bit_expr.specs.declared.node.Leaf.TheVariants as leaf
use Rattle.netlist_laws.proofs.CellsFound.{has_pin}
use Rattle.netlist_laws.proofs.NodesFound.{next_number, AreNumbered}
use Rattle.gathering.specs.Links.{leaf_in, AreLeaves}
use Rattle.gathering.proofs.LinkSets.{leaf_there}
use Rattle.gathering.proofs.Graphed.{no_link}
use Rattle.gathering.proofs.LinkFacts.{Facts, facts}

-- ---- numbers of nodes

next_low : (n : ℕ) (kind : Kind) → n ≤ next_number n kind
next_low n (ANode m) = omega arith
next_low n _ = omega arith

number_here : (n m : ℕ) (x : Entry) (xs : List Entry) → AreNumbered n (x ∷ xs) → x.kind ≡ ANode m → m ≡ n
number_here n m x xs all is = rw is at all.0

later_number : (n : ℕ) (xs : List Entry) (j m : ℕ) → AreNumbered n xs → (get_or xs j no_name).kind ≡ ANode m → n ≤ m
later_number n [] j m all is = absurd cc
later_number n (x ∷ xs) zero m all is = omega (arith, number_here n m x xs all is)
later_number n (x ∷ xs) (suc j) m all is = omega (arith, next_low n x.kind, later_number (next_number n x.kind) xs j m all.1 is)

-- numbers of nodes rise
rising : (n : ℕ) (xs : List Entry) (i j a b : ℕ) → AreNumbered n xs → i < j → (get_or xs i no_name).kind ≡ ANode a → (get_or xs j no_name).kind ≡ ANode b → a < b
rising n xs i zero a b all less one other = absurd (omega (arith, less))
rising n [] i (suc j) a b all less one other = absurd cc
rising n (x ∷ xs) zero (suc j) a b all less one other =
    omega (arith, number_here n a x xs all one, ap (next_number n) one, later_number (next_number n x.kind) xs j b all.1 other)
rising n (x ∷ xs) (suc i) (suc j) a b all less one other = rising (next_number n x.kind) xs i j a b all.1 (omega (arith, less)) one other

-- ---- numbers of names

-- nodes precede pins
abbrev number_of : Kind → ℕ
number_of (ANode n) = n
number_of (APin pin negated) = 128 + pin
number_of _ = 0

-- a name of a kind is a node or assigned on a cell
abbrev is_linked_by : Table → Entry → Kind → Bool
is_linked_by t x kind = is_node_kind kind || is_some (cell_by t x kind)

module _ (d : Design) (laws : IsDevice d.context.device) (nodes : NodesAreFew d.context) where
  cell_small : (pin c : ℕ) → cell_on d.context.device pin ≡ Some c → (c < 32) × (pin < 32)
  cell_small pin c on =
      let at = position-Some (has_pin pin) d.context.device.cells c no_cell on in
      let same : (cell_at d.context.device c).pin ≡ pin = eqb-true (cell_at d.context.device c).pin pin at.1 in
      let signal = (laws.cells c no_cell at.0).pin in
      (omega (arith, at.0, laws.sizes.few_cells), omega (arith, same, signal.high, laws.sizes.pins_high))

  pin_small : (x : Entry) (pin : ℕ) (negated : Bool) → is_linked_by d.context.device x (APin pin negated) ≡ true → pin < 32
  pin_small x pin negated linked = by x.assigned (cell_on d.context.device pin) refl linked
    where
      by : (b : Bool) (o : Option ℕ) → cell_on d.context.device pin ≡ o → is_some (if b then o else None) ≡ true → pin < 32
      by true (Some c) on is = (cell_small pin c on).1
      by _ _ on is = absurd cc

  leaf_of_pin : (x : Entry) (pin : ℕ) (l : Leaf) (stored settled : Bool) (o : Option ℕ) → cell_on d.context.device pin ≡ o → pin < 32 → (if stored then option_map leaf.Q o else if settled then Some (leaf.Pin pin) else None) ≡ Some l → IsLeaf l
  leaf_of_pin x pin l true settled (Some c) on low is = subst IsLeaf (same_Some (leaf.Q c) l is) (cell_small pin c on).0
  leaf_of_pin x pin l false true o on low is = subst IsLeaf (same_Some (leaf.Pin pin) l is) low
  leaf_of_pin x pin l _ _ _ on low is = absurd cc

  leaf_small : (s : ℕ) (kind : Kind) (l : Leaf) → (name_at d.context s).kind ≡ kind → is_linked_by d.context.device (name_at d.context s) kind ≡ true → leaf_by d.context (name_at d.context s) kind ≡ Some l → IsLeaf l
  leaf_small s (APin pin negated) l kind linked is =
      leaf_of_pin (name_at d.context s) pin l (is_stored (name_at d.context s)) (settles (name_at d.context s)) (cell_on d.context.device pin) refl (pin_small (name_at d.context s) pin negated linked) is
  leaf_small s (ANode n) l kind linked is = subst IsLeaf (same_Some (leaf.Node n) l is) (nodes s n kind)
  leaf_small s _ l kind linked is = absurd cc

  number_small : (s : ℕ) (kind : Kind) → (name_at d.context s).kind ≡ kind → is_linked_by d.context.device (name_at d.context s) kind ≡ true → number_of kind < 256
  number_small s (APin pin negated) kind linked = omega (arith, pin_small (name_at d.context s) pin negated linked)
  number_small s (ANode n) kind linked = omega (arith, nodes s n kind)
  number_small s _ kind linked = omega arith

  module _ (numbered : AreNumbered 0 d.context.names) (apart : PinsApart d.context) where
    -- two linked names have two numbers
    unlike : (s r : ℕ) (one other : Kind) → s < r → (name_at d.context s).kind ≡ one → (name_at d.context r).kind ≡ other → is_linked_by d.context.device (name_at d.context s) one ≡ true → is_linked_by d.context.device (name_at d.context r) other ≡ true → number_of one ≢ number_of other
    unlike s r (ANode a) (ANode b) less one other linked too same = absurd (omega (arith, rising 0 d.context.names s r a b numbered less one other, same))
    unlike s r (ANode a) (APin q negated) less one other linked too same = absurd (omega (arith, nodes s a one, same))
    unlike s r (APin p negated) (ANode b) less one other linked too same = absurd (omega (arith, nodes r b other, same))
    unlike s r (APin p negated) (APin q turned) less one other linked too same =
        let pins : q ≡ p = omega (arith, same) in
        let e = apart p s r (ap (is_on_pin p) one ∙ eq-eqb p p refl) (ap (is_on_pin p) other ∙ eq-eqb q p pins) in
        absurd (omega (arith, less, e))
    unlike s r _ _ less one other linked too same = absurd cc

    module _ (ns : List ℕ) (ls : List Link) (are : AreLinks d.context (given_formulas d) ns ls) where
      known : Facts d.context (given_formulas d) 0 d.context.names ns ls
      known = facts d.context (given_formulas d) 0 d.context.names ns ls are

      abbrev up : ℕ → ℕ
      up v = get_or ns v 0

      link_at : (v : ℕ) → v < length ls → IsLinkOf d.context (given_formulas d) (up v) (name_at d.context (up v)) (get_or ls v no_link) × (is_linked d.context.device (name_at d.context (up v)) ≡ true)
      link_at v low =
          let at = known.here v no_link low in
          let same : at.0 ≡ up v = omega (arith, at.2) in
          subst (λ n. IsLinkOf d.context (given_formulas d) (up v) (name_at d.context n) (get_or ls v no_link) × (is_linked d.context.device (name_at d.context n) ≡ true)) same (at.3, at.4)

      -- ---- leaves

      leaf_by_link : (v : ℕ) (l : Leaf) → v < length ls → leaf_in ls v ≡ Some l → IsLeaf l
      leaf_by_link v l low is =
          let of = link_at v low in
          leaf_small (up v) (name_at d.context (up v)).kind l refl of.1 (sym of.0.leaf ∙ sym (leaf_there ls v no_link low) ∙ is)

      are_leaves : AreLeaves ls
      are_leaves v l is =
          elim (cases_lt v (length ls)) [
            | inl low ↦ leaf_by_link v l low is
            | inr far ↦ absurd (let bad : None ≡ Some l = rw (slice_get_past ls v far) at is in cc)
          ]

      -- ---- how many

      abbrev numbers : List ℕ
      numbers = map (λ s. number_of (name_at d.context s).kind) ns

      number_at : (v z : ℕ) → v < length ls → get_or numbers v z ≡ number_of (name_at d.context (up v)).kind
      number_at v z low = get_or-map (λ s. number_of (name_at d.context s).kind) ns v 0 z (omega (arith, known.count, low))

      long : length numbers ≡ length ls
      long = length-map ns (λ s. number_of (name_at d.context s).kind) ∙ known.count

      once : IsDistinct eqb numbers
      once =
          IsDistinct-from_apart eqb numbers
          (λ i j z less within.
          let low : j < length ls = omega (arith, long, within) in
          let lower : i < length ls = omega (arith, less, low) in
          ne_eqb (get_or numbers i z) (get_or numbers j z)
          (λ e. unlike (up i) (up j) (name_at d.context (up i)).kind (name_at d.context (up j)).kind (known.rises i j less low) refl refl (link_at i lower).1 (link_at j low).1
          (sym (number_at i z lower) ∙ e ∙ number_at j z low)))

      inside : (v : ℕ) → has numbers v ≡ true → v < 256
      inside v there =
          let at = place_of numbers v there in
          let low : at.0 < length ls = omega (arith, long, at.1) in
          let small = number_small (up at.0) (name_at d.context (up at.0)).kind refl (link_at at.0 low).1 in
          omega (arith, small, number_at at.0 0 low, at.2)

      pub are_signals : AreSignals ns ls
      are_signals = record { few = omega (arith, few numbers 256 once inside, long); leaves = are_leaves; count = known.count }
