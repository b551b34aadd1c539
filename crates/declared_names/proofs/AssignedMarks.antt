-- What sections assign is what their parts give, and marks find it, and whether it is on the clock.
use Rattle.std.proofs.Common.{◌≡◌, ℕ, Bool, true, ◌||◌, if◌then◌else◌, Option, Some, None, List, [], ◌∷◌, ◌++◌, refl, sym, ap, ◌∙◌, ◌==◌, false, ◌&&◌, ap₂, slice_get, bytes_eq}
use Rattle.declared_names.proofs.Common.{read_names, Assigned, Named, assigned_by, assigned_each, is_clocked_sign, sections_assign, signals_of, signals_of_name, signals_of_names, target_extension, without_extension, Extension, is_data, is_raw, range_names, Tree, SectionTree, Targets, part_gives, sections_give, use_reads, uses_read, list_any, and-false, and-true, is_assigned, is_clocked_target, meant, named_after, named_of, Kind, AConstant, ADeviceName, Entry, is_signal, Mark, is_marked, value_of, all_marks, value_uses}
use Rattle.name_uses.specs.Targets.{targets_in}
use Rattle.abel_tree.specs.declared.words.Extension.TheVariants as ext
use Rattle.name_uses.proofs.AssigningParts.{sections_assigned as parts_assign}
use Rattle.name_uses.proofs.TargetSignals.{targets_give}
use Rattle.declared_names.proofs.Looked.{Standing, marked_in_the_end}
use Rattle.declared_names.proofs.Passing.{at, strong_alone, weighs}

-- ---- what parts give

each_append : (c : Bool) (xs ys : List ℕ) → assigned_each c (xs ++ ys) ≡ assigned_each c xs ++ assigned_each c ys
each_append c [] ys = refl
each_append c (x ∷ xs) ys = ap (λ us. record { signal = x; clocked = c } ∷ us) (each_append c xs ys)

module _ (ks : List Named) where
  -- what a name assigns
  abbrev pub named_by : List ℕ → Bool → List Assigned
  named_by name clocked = assigned_each clocked (signals_of_name ks name)

  each_name : (c : Bool) (names : List (List ℕ)) → read_names named_by c names ≡ assigned_each c (signals_of_names ks names)
  each_name c [] = refl
  each_name c (n ∷ ns) = ap (λ us. named_by n c ++ us) (each_name c ns) ∙ sym (each_append c (signals_of_name ks n) (signals_of_names ks ns))

  pub targets_assign : (c : Bool) (t : Tree) → uses_read named_by c (targets_in t) ≡ assigned_each c (signals_of ks t)
  targets_assign c t =
      targets_give ks (assigned_each c) refl (each_append c) (use_reads named_by c) (λ w. refl) (λ v w. each_name c (range_names v.text w.text)) t

  side_assigns : (e : Option Extension) (c : Bool) (t : Tree) → uses_read named_by (is_raw e || c) (if is_data e then targets_in t else []) ≡ assigned_by e c (signals_of ks t)
  side_assigns None c t = targets_assign c t
  side_assigns (Some ext.D) c t = targets_assign true t
  side_assigns _ c t = refl

  pub sections_assigned : (xs : List SectionTree) → sections_give Targets named_by xs ≡ sections_assign ks xs
  sections_assigned =
      parts_assign ks (part_gives Targets named_by)
      (record {
        target = λ sign t. side_assigns (target_extension t) (is_clocked_sign sign) (without_extension t);
        value = λ target t. refl;
        read = λ t. refl;
        outputs = targets_assign;
        registers = targets_assign true;
        entry = λ t. refl;
      })

-- ---- what is marked

abbrev named : Standing Named Assigned
named = record {
  name_of = λ k. k.name;
  gives = λ k clocked. assigned_each clocked k.signals;
  make = λ ks s e. record { name = e.name; signals = meant ks s e.kind };
  named = λ ks s e. refl;
  look = named_by;
  look_none = λ name clocked. refl;
  look_first = λ k ks name clocked. by (bytes_eq name k.name) clocked k.signals (signals_of_name ks name);
  after = named_after;
  after_none = λ ks s. refl;
  after_more = λ ks s e es. refl;
}
  where
    by : (b clocked : Bool) (xs ys : List ℕ) → assigned_each clocked (if b then xs else ys) ≡ (if b then assigned_each clocked xs else assigned_each clocked ys)
    by true clocked xs ys = refl
    by false clocked xs ys = refl

module _ (es : List Entry) (xs : List SectionTree) (s : ℕ) (x : Entry) (g : slice_get es s ≡ Some x) where
  module _ (any : Bool) (p : Assigned → Bool) (one : (k : ℕ) (c : Bool) → p (record { signal = k; clocked = c }) ≡ ((k == s) && (any || c))) where
    of_kind : (ks : List Named) (k : ℕ) (c : Bool) (kd : Kind)
        → list_any p (assigned_each c (meant ks k kd)) ≡ ((is_signal kd && ((k == s) && (any || c))) || list_any p (uses_read (named_by ks) c (value_uses Targets (value_of kd))))
    of_kind ks k c (AConstant value) = ap (list_any p) (sym (targets_assign ks c value))
    of_kind ks k c ADeviceName = refl
    of_kind ks k c _ = ap (λ b. b || false) (one k c)

    found_by : weighs (λ c. is_signal x.kind && (any || c)) (at (all_marks Targets es xs) s) ≡ list_any p (sections_assign (named_of es) xs)
    found_by = marked_in_the_end named Targets es s x g any p (λ ks k e c. of_kind ks k c e.kind) xs ∙ ap (list_any p) (sections_assigned (named_of es) xs)

  pub is_found : (is_signal x.kind && is_marked (at (all_marks Targets es xs) s)) ≡ is_assigned (sections_assign (named_of es) xs) s
  is_found = any_mark (is_signal x.kind) (at (all_marks Targets es xs) s) ∙ found_by true (λ (a : Assigned). a.signal == s) (λ k c. sym (and-true (k == s)))
    where
      any_mark : (b : Bool) (m : Mark) → (b && is_marked m) ≡ weighs (λ c. b && true) m
      any_mark true m = ap₂ (λ p q. p || q) (sym (and-true m.plain)) (sym (and-true m.strong))
      any_mark false m = ap₂ (λ p q. p || q) (sym (and-false m.plain)) (sym (and-false m.strong))

  pub is_clocked : is_signal x.kind ≡ true → (at (all_marks Targets es xs) s).strong ≡ is_clocked_target (sections_assign (named_of es) xs) s
  is_clocked sig = strong_alone (is_signal x.kind) (at (all_marks Targets es xs) s) sig ∙ found_by false (λ (a : Assigned). a.signal == s && a.clocked) (λ k c. refl)

  -- what is no signal is not assigned
  pub is_no_target : is_signal x.kind ≡ false → is_assigned (sections_assign (named_of es) xs) s ≡ false
  is_no_target none = sym is_found ∙ ap (λ b. b && is_marked (at (all_marks Targets es xs) s)) none
