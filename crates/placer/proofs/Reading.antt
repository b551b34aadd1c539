-- Every use of a design is a read.
use Rattle.std.proofs.Common.{◌≡◌, ℕ, suc, Bool, true, false, not, ◌||◌, ◌==◌, inl, inr, Option, None, Some, List, [], ◌∷◌, ◌++◌, if◌then◌else◌, map, refl, ap, ap₂, sym, ◌∙◌, append-nil, bytes_eq}
use Rattle.placer.proofs.Common.{list_any, flat_map, or_cases, or_left, or_right, list_any-append, Place, Extension, Named, signals_of_name, signals_of_names, Kind, APin, ANode, AConstant, ADeviceName, Entry, innermost, range_names, Tree, SectionTree, Context, PartTree, parts_in_section, signals_at, signals_in, signals_used, parts_of, read_in, read_parts, reads, stands_for, read_after, read_names_of, flat_map-map, Word, UsedName, names_used, PartRole, Read, Registers, Value, with_parts, reads_as}
use Rattle.abel_meaning.specs.Terms.{Known, term_named, extended_if, term_of, term_meant, known_after, known_of}
use Rattle.design_checks.specs.LocatedUses.{PlacedUse, all_at, names_read, names_to, reads_used, uses_used}
use Rattle.decls.specs.PartUses.{use_to}
use Rattle.netlist_laws.specs.SignalUses.{SignalUse, term_uses}
use Rattle.design_checks.specs.SectionUses.{is_compared, is_read, part_uses}
use Rattle.design_checks.proofs.UsesRead.{extended_uses, names_are_read, under}
use Rattle.placer.proofs.PartsRead.{sections_read}
use Rattle.placer.proofs.UsedSignals.{names_signals}

-- if each gives one that passes in both ways, so do all
alike : {X A B : Type 0} (p : A → Bool) (q : B → Bool) (f : X → List A) (g : X → List B) → ((x : X) → list_any p (f x) ≡ list_any q (g x)) → (xs : List X) → list_any p (flat_map f xs) ≡ list_any q (flat_map g xs)
alike p q f g same [] = refl
alike p q f g same (x ∷ xs) = list_any-append p (f x) (flat_map f xs) ∙ (ap₂ (λ a b. a || b) (same x) (alike p q f g same xs) ∙ sym (list_any-append q (g x) (flat_map g xs)))

module _ (s : ℕ) where
  -- the uses read the signal, wherever they are, and the numbers have it
  abbrev read_by : List SignalUse → Bool
  read_by us = list_any (λ (u : SignalUse). u.signal == s) us

  abbrev pub located_by : List PlacedUse → Bool
  located_by us = list_any (λ (u : PlacedUse). u.read.signal == s) us

  abbrev pub in_numbers : List ℕ → Bool
  in_numbers ns = list_any (λ n. n == s) ns

  under_same : (o : Option Extension) (us : List SignalUse) → read_by (map (under o) us) ≡ read_by us
  under_same o [] = refl
  under_same o (u ∷ us) = ap (λ b. (u.signal == s) || b) (under_same o us)

  at_same : (p : Place) (us : List SignalUse) → located_by (all_at p us) ≡ read_by us
  at_same p [] = refl
  at_same p (u ∷ us) = ap (λ b. (u.signal == s) || b) (at_same p us)

  -- ---- names

  -- each name represents the same in both lists, as far as the signal is read
  abbrev pub AreAlike : List Known → List Named → Type 0
  AreAlike [] [] = Unit {0}
  AreAlike [] (n ∷ ns) = ⊥
  AreAlike (k ∷ ks) [] = ⊥
  AreAlike (k ∷ ks) (n ∷ ns) = (k.name ≡ n.name) × ((read_by (term_uses k.term) ≡ in_numbers n.signals) × AreAlike ks ns)

  name_same : (ks : List Known) (ns : List Named) → AreAlike ks ns → (name : List ℕ) → read_by (term_uses (term_named ks name)) ≡ in_numbers (signals_of_name ns name)
  name_same [] [] are name = refl
  name_same [] (n ∷ ns) are name = absurd are
  name_same (k ∷ ks) [] are name = absurd are
  name_same (k ∷ ks) (n ∷ ns) are name =
      pick (bytes_eq name k.name) (name_same ks ns are.1.1 name) ∙ ap (λ b. in_numbers (if b then n.signals else signals_of_name ns name)) (ap (bytes_eq name) are.0)
    where
      pick : (b : Bool) → read_by (term_uses (term_named ks name)) ≡ in_numbers (signals_of_name ns name) → read_by (term_uses (if b then k.term else term_named ks name)) ≡ in_numbers (if b then n.signals else signals_of_name ns name)
      pick true later = are.1.0
      pick false later = later

  module _ (ks : List Known) (ns : List Named) (are : AreAlike ks ns) where
    names_same : (o : Option Extension) (names : List (List ℕ)) → read_by (names_read ks o names) ≡ in_numbers (signals_of_names ns names)
    names_same o [] = refl
    names_same o (name ∷ names) =
        let t = term_named ks name in
        list_any-append (λ (u : SignalUse). u.signal == s) (term_uses (extended_if o t)) (names_read ks o names)
        ∙ (ap₂ (λ a b. a || b) (ap read_by (extended_uses o t) ∙ (under_same o (term_uses t) ∙ name_same ks ns are name)) (names_same o names)
        ∙ sym (list_any-append (λ n. n == s) (signals_of_name ns name) (signals_of_names ns names)))

    used_same : (u : UsedName) → read_by (reads_used ks None u) ≡ in_numbers (signals_at ns u)
    used_same u = by u.last
      where
        by : (last : Option Word) → read_by (names_read ks (innermost u.extension None) (names_to u.first last)) ≡ in_numbers (signals_used ns (use_to u.first last))
        by None = names_same (innermost u.extension None) (u.first.text ∷ []) ∙ ap in_numbers (append-nil (signals_of_name ns u.first.text))
        by (Some last) = names_same (innermost u.extension None) (range_names u.first.text last.text)

    term_same : (t : Tree) → read_by (term_uses (term_of ks t)) ≡ in_numbers (signals_in ns t)
    term_same t =
        ap read_by (sym (names_are_read ks None t))
        ∙ (alike (λ (u : SignalUse). u.signal == s) (λ n. n == s) (reads_used ks None) (signals_at ns) used_same (names_used None t) ∙ ap in_numbers (names_signals ns None t))

    pub uses_same : (us : List UsedName) → located_by (flat_map (uses_used ks) us) ≡ in_numbers (flat_map (signals_at ns) us)
    uses_same us = alike (λ (u : PlacedUse). u.read.signal == s) (λ n. n == s) (uses_used ks) (signals_at ns) (λ u. at_same u.first.place (reads_used ks None u) ∙ used_same u) us

  -- ---- all names of a list

  meant_same : (ks : List Known) (ns : List Named) → AreAlike ks ns → (i : ℕ) (k : Kind) → read_by (term_uses (term_meant ks i k)) ≡ in_numbers (stands_for ns i k)
  meant_same ks ns are i (APin pin negated) = refl
  meant_same ks ns are i (ANode number) = refl
  meant_same ks ns are i (AConstant value) = term_same ks ns are value
  meant_same ks ns are i ADeviceName = refl

  alike_push : (ks : List Known) (ns : List Named) (k : Known) (n : Named) → AreAlike ks ns → k.name ≡ n.name → read_by (term_uses k.term) ≡ in_numbers n.signals → AreAlike (ks ++ k ∷ []) (ns ++ n ∷ [])
  alike_push [] [] k n are name signals = (name, (signals, tt))
  alike_push [] (m ∷ ns) k n are name signals = absurd are
  alike_push (j ∷ ks) [] k n are name signals = absurd are
  alike_push (j ∷ ks) (m ∷ ns) k n are name signals = (are.0, (are.1.0, alike_push ks ns k n are.1.1 name signals))

  after_same : (ks : List Known) (ns : List Named) → AreAlike ks ns → (i : ℕ) (es : List Entry) → AreAlike (known_after ks i es) (read_after ns i es)
  after_same ks ns are i [] = are
  after_same ks ns are i (e ∷ es) =
      after_same (ks ++ record { name = e.name; term = term_meant ks i e.kind } ∷ []) (ns ++ record { name = e.name; signals = stands_for ns i e.kind } ∷ [])
      (alike_push ks ns (record { name = e.name; term = term_meant ks i e.kind }) (record { name = e.name; signals = stands_for ns i e.kind }) are refl (meant_same ks ns are i e.kind)) (suc i) es

-- ---- parts

module _ (d : Context) (known : d.known ≡ known_of d.names) (s : ℕ) where
  abbrev ns : List Named
  ns = read_names_of d.names

  used : (us : List UsedName) → located_by s (flat_map (uses_used d.known) us) ≡ true → in_numbers s (flat_map (signals_at ns) us) ≡ true
  used us found = sym (ap (λ ks. located_by s (flat_map (uses_used ks) us)) known ∙ uses_same s (known_of d.names) ns (after_same s [] [] tt 0 d.names) us) ∙ found

  part_read : (p : PartTree) → located_by s (part_uses d p) ≡ true → in_numbers s (read_in ns p) ≡ true
  part_read p = by p.role
    where
      unless : (b : Bool) → located_by s (if b then flat_map (uses_used d.known) p.uses else []) ≡ true → located_by s (flat_map (uses_used d.known) p.uses) ≡ true
      unless true found = found
      unless false found = absurd cc

      by : (r : PartRole) → located_by s (if is_read d r then flat_map (uses_used d.known) p.uses else []) ≡ true → in_numbers s (if reads_as r then flat_map (signals_at ns) p.uses else []) ≡ true
      by (Value target) found = used p.uses (unless (not (is_compared d target)) found)
      by Read found = used p.uses found
      by Registers found = used p.uses found
      by _ found = absurd cc

  parts_read : (ps : List PartTree) → located_by s (flat_map (part_uses d) ps) ≡ true → in_numbers s (flat_map (read_in ns) ps) ≡ true
  parts_read [] found = absurd cc
  parts_read (p ∷ ps) found =
      let here = in_numbers s (read_in ns p) in
      let later = in_numbers s (flat_map (read_in ns) ps) in
      let found = sym (list_any-append (λ (u : PlacedUse). u.read.signal == s) (part_uses d p) (flat_map (part_uses d) ps)) ∙ found in
      list_any-append (λ n. n == s) (read_in ns p) (flat_map (read_in ns) ps)
      ∙ elim (or_cases (located_by s (part_uses d p)) (located_by s (flat_map (part_uses d) ps)) found) [ inl one ↦ or_left here later (part_read p one) | inr more ↦ or_right here later (parts_read ps more) ]

  pub of_sections : (xs : List SectionTree) → located_by s (flat_map (part_uses d) (flat_map parts_in_section xs)) ≡ true → list_any (reads ns s) (flat_map read_parts xs) ≡ true
  of_sections xs found =
      sym (sections_read ns s xs)
      ∙ (ap (λ ps. in_numbers s (flat_map (read_in ns) ps)) (flat_map-map parts_of with_parts xs) ∙ parts_read (flat_map parts_in_section xs) found)
