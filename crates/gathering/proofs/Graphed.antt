-- The graph of links is that of a design's signals.
use Rattle.std.proofs.Common.{◌≡◌, ℕ, ◌<◌, ◌==◌, Bool, true, false, not, ◌&&◌, ◌||◌, List, length, get_or, map, Option, Some, None, eqb, refl, sym, ap, ◌∙◌, subst, arith, All, is_some, IsSome, option_map, position, unwrap_or, if◌then◌else◌}
use Rattle.gathering.proofs.Common.{and_parts, eq-eqb, eqb-true, has, eqb_same, Table, Leaf, Reads, IsLeaf, AreReads, Kind, APin, ANode, Entry, is_stored, Design, name_at, no_name, given_formulas, leaf_by, leaf_of, settles, settles_by, signal_names, signal_reads, is_one_of, reset_equation_reads, is_stored_signal, IsSignalLoop, HasNoSignalLoop, IsSignalPath, HasNoSignalPath, cell_by, Link, has_leaf, has_if_any, leaf_in, is_read_by, link_reads, is_stored_in, AreLeaves, IsFirstChain, HasNoChain, IsRegisterPath, HasNoRegisterPath, is_node_kind, is_linked, IsLinkOf, AreLinks, AssignedHaveCells, reset_names, list_any_at, and-false}
use Rattle.std.proofs.lemmas.List.Quantifiers.{position-Some}
use Rattle.bit_expr.specs.declared.node.Leaf.TheVariants as leaf
use Rattle.pld_device.specs.Pins.{cell_on}
use Rattle.netlist_laws.proofs.SoundLeaves.{some_place}
use Rattle.gathering.proofs.LinkSets.{leaf_there, stored_there, reads_there}
use Rattle.gathering.proofs.LinkFacts.{Facts, facts}
use Rattle.gathering.proofs.Renamed.{no_loop_up, least_up, path_up, no_path_up}

-- each of a list's places is below a number if all that it has is
pub all_below : (xs : List ℕ) (count : ℕ) → ((v : ℕ) → has xs v ≡ true → v < count) → All (λ (v : ℕ). v < count) xs
all_below xs count inside k x low = inside (get_or xs k x) (list_any_at (λ y. eqb (get_or xs k x) y) xs k x low (eqb_same (get_or xs k x)))

-- what represents a link past the last one
pub no_link : Link
no_link = record { leaf = None; reads = record { pins = 0; q = 0; nodes = 0 }; stored = false }

-- ---- leaves among reads

leaf_named : (named : Leaf → Bool) (r : Reads) (l : Leaf) → IsLeaf l → AreReads named r → has_leaf r l ≡ named l
leaf_named named r (leaf.Pin p) low are = are.pins p low
leaf_named named r (leaf.Q c) low are = are.q c low
leaf_named named r (leaf.Node n) low are = are.nodes n low

if_named : (b : Bool) (named : Leaf → Bool) (r : Reads) (o : Option Leaf) → ((l : Leaf) → o ≡ Some l → IsLeaf l) → AreReads (λ l. b && named l) r → has_if_any r o ≡ (b && is_one_of named o)
if_named b named r None low are = sym (and-false b)
if_named b named r (Some l) low are = leaf_named (λ k. b && named k) r l (low l refl) are

-- ---- which names are linked

some_linked : (t : Table) (x : Entry) (kind : Kind) → (is_node_kind kind || is_some (cell_by t x kind)) ≡ true → x.kind ≡ kind → is_linked t x ≡ true
some_linked t x kind linked is = rw is linked

module _ (d : Design) (cells : AssignedHaveCells d.context) where
  pin_linked : (found : Option ℕ) (b : Bool) → b ≡ true → IsSome found → is_some (if b then found else None) ≡ true
  pin_linked (Some c) true assigned some = refl
  pin_linked _ _ assigned some = absurd cc

  assigned_linked : (s pin : ℕ) (negated : Bool) → (name_at d.context s).kind ≡ APin pin negated → (name_at d.context s).assigned ≡ true → is_linked d.context.device (name_at d.context s) ≡ true
  assigned_linked s pin negated kind assigned =
      some_linked d.context.device (name_at d.context s) (APin pin negated) (pin_linked (cell_on d.context.device pin) (name_at d.context s).assigned assigned (cells s pin negated kind assigned)) kind

  settling_linked : (s : ℕ) (kind : Kind) → (name_at d.context s).kind ≡ kind → settles_by (name_at d.context s) kind ≡ true → is_linked d.context.device (name_at d.context s) ≡ true
  settling_linked s (APin pin negated) is settled = assigned_linked s pin negated is (and_parts (name_at d.context s).assigned (not (name_at d.context s).words.registered) settled).0
  settling_linked s (ANode n) is settled = some_linked d.context.device (name_at d.context s) (ANode n) refl is
  settling_linked s _ is settled = absurd cc

  read_pin : (s pin : ℕ) (negated stored settled : Bool) (found : Option ℕ) (l : Leaf) → (stored ≡ true → (name_at d.context s).assigned ≡ true) → (settled ≡ true → (name_at d.context s).assigned ≡ true) → (if stored then option_map leaf.Q found else if settled then Some (leaf.Pin pin) else None) ≡ Some l → (name_at d.context s).assigned ≡ true
  read_pin s pin negated true settled found l by_q by_pin is = by_q refl
  read_pin s pin negated false true found l by_q by_pin is = by_pin refl
  read_pin s pin negated false false found l by_q by_pin is = absurd cc

  settled_assigned : (s pin : ℕ) (negated : Bool) → (name_at d.context s).kind ≡ APin pin negated → settles (name_at d.context s) ≡ true → (name_at d.context s).assigned ≡ true
  settled_assigned s pin negated is settled = (and_parts (name_at d.context s).assigned (not (name_at d.context s).words.registered) (sym (ap (settles_by (name_at d.context s)) is) ∙ settled)).0

  read_linked : (s : ℕ) (kind : Kind) (l : Leaf) → (name_at d.context s).kind ≡ kind → leaf_by d.context (name_at d.context s) kind ≡ Some l → is_linked d.context.device (name_at d.context s) ≡ true
  read_linked s (APin pin negated) l is read =
      assigned_linked s pin negated is
      (read_pin s pin negated (is_stored (name_at d.context s)) (settles (name_at d.context s)) (cell_on d.context.device pin) l (λ stored. (and_parts (name_at d.context s).words.registered (name_at d.context s).assigned stored).1) (settled_assigned s pin negated is) read)
  read_linked s (ANode n) l is read = some_linked d.context.device (name_at d.context s) (ANode n) refl is
  read_linked s _ l is read = absurd cc

  one_linked : (r : ℕ) (named : Leaf → Bool) (o : Option Leaf) → leaf_of d.context r ≡ o → is_one_of named o ≡ true → is_linked d.context.device (name_at d.context r) ≡ true
  one_linked r named None is one = absurd cc
  one_linked r named (Some l) is one = read_linked r (name_at d.context r).kind l refl is

  module _ (ns : List ℕ) (ls : List Link) (leaves : AreLeaves ls) (are : AreLinks d.context (given_formulas d) ns ls) where
    known : Facts d.context (given_formulas d) 0 d.context.names ns ls
    known = facts d.context (given_formulas d) 0 d.context.names ns ls are

    abbrev up : ℕ → ℕ
    up v = get_or ns v 0

    link_of : (v : ℕ) → v < length ls → IsLinkOf d.context (given_formulas d) (up v) (name_at d.context (up v)) (get_or ls v no_link)
    link_of v low =
        let at = known.here v no_link low in
        let same : up v ≡ at.0 = omega (arith, at.2) in
        subst (λ n. IsLinkOf d.context (given_formulas d) (up v) (get_or d.context.names n no_name) (get_or ls v no_link)) (sym same) at.3

    up_in : (v : ℕ) → v < length ls → up v < length d.context.names
    up_in v low = let at = known.here v no_link low in omega (arith, at.1, at.2)

    leaf_same : (v : ℕ) → v < length ls → leaf_in ls v ≡ leaf_of d.context (up v)
    leaf_same v low = leaf_there ls v no_link low ∙ (link_of v low).leaf

    read_same : (b : Bool) (named : Leaf → Bool) (r : Reads) (w : ℕ) → w < length ls → AreReads (λ l. b && named l) r → is_read_by r ls w ≡ (b && is_one_of named (leaf_of d.context (up w)))
    read_same b named r w low reads =
        if_named b named r (leaf_in ls w) (leaves w) reads
        ∙ ap (λ o. b && is_one_of named o) (leaf_same w low)

    same_reads : (v w : ℕ) → v < length ls → w < length ls → link_reads ls v w ≡ signal_reads d (up v) (up w)
    same_reads v w v_in w_in =
        reads_there ls ls v w no_link v_in
        ∙ read_same (settles (name_at d.context (up v))) (signal_names d.context (given_formulas d) (up v)) (get_or ls v no_link).reads w w_in (link_of v v_in).reads

    -- the place of a signal among the links
    abbrev down : ℕ → ℕ
    down s = unwrap_or (position (λ k. k == s) ns) 0

    abbrev IsLinked : ℕ → Type 0
    IsLinked s = (down s < length ls) × (up (down s) ≡ s)

    linked_there : (s : ℕ) → is_linked d.context.device (name_at d.context s) ≡ true → IsLinked s
    linked_there s linked =
        let at = known.each s linked in
        let found = some_place (λ k. k == s) 0 ns at.0 (omega (arith, at.1, known.count)) (eq-eqb (get_or ns at.0 0) s (omega (arith, at.2))) in
        let here = position-Some (λ k. k == s) ns found.0 0 found.1 in
        let is : down s ≡ found.0 = ap (λ o. unwrap_or o 0) found.1 in
        (omega (arith, here.0, known.count, is), ap up is ∙ eqb-true (get_or ns found.0 0) s here.1)

    reader : (s r : ℕ) → signal_reads d s r ≡ true → IsLinked s
    reader s r reads = linked_there s (settling_linked s (name_at d.context s).kind refl (and_parts (settles (name_at d.context s)) (is_one_of (signal_names d.context (given_formulas d) s) (leaf_of d.context r)) reads).0)

    readee : (s r : ℕ) → signal_reads d s r ≡ true → IsLinked r
    readee s r reads = linked_there r (one_linked r (signal_names d.context (given_formulas d) s) (leaf_of d.context r) refl (and_parts (settles (name_at d.context s)) (is_one_of (signal_names d.context (given_formulas d) s) (leaf_of d.context r)) reads).1)

    pub loop_told : (chain : List ℕ) → IsFirstChain ls chain → IsSignalLoop d (map up chain)
    loop_told chain is = least_up up down (length ls) (length d.context.names) known.rises up_in (link_reads ls) (signal_reads d) same_reads reader readee chain is

    pub no_loop_told : HasNoChain ls → HasNoSignalLoop d
    no_loop_told none = no_loop_up up down (length ls) (length d.context.names) known.rises up_in (link_reads ls) (signal_reads d) same_reads reader readee none

    module _ (s : ℕ) (r : Reads) (reset : AreReads (reset_names d s) r) where
      same_starts : (v : ℕ) → v < length ls → is_read_by r ls v ≡ reset_equation_reads d s (up v)
      same_starts v low = read_same true (reset_names d s) r v low reset

      same_ends : (v : ℕ) → v < length ls → is_stored_in ls v ≡ is_stored_signal d.context (up v)
      same_ends v low = stored_there ls v no_link low ∙ (link_of v low).stored

      starter : (n : ℕ) → reset_equation_reads d s n ≡ true → IsLinked n
      starter n reads = linked_there n (one_linked n (reset_names d s) (leaf_of d.context n) refl reads)

      pub path_told : (path : List ℕ) → IsRegisterPath ls r path → IsSignalPath d s (map up path)
      path_told path is = path_up up down (length ls) (length d.context.names) known.rises up_in (link_reads ls) (signal_reads d) same_reads reader readee (is_read_by r ls) (is_stored_in ls) (reset_equation_reads d s) (is_stored_signal d.context) same_starts same_ends starter path is

      pub no_path_told : HasNoRegisterPath ls r → HasNoSignalPath d s
      no_path_told none = no_path_up up down (length ls) (length d.context.names) known.rises up_in (link_reads ls) (signal_reads d) same_reads reader readee (is_read_by r ls) (is_stored_in ls) (reset_equation_reads d s) (is_stored_signal d.context) same_starts same_ends starter none
