-- The names by what is marked and held are the names with their kinds.
use Rattle.declared_names.proofs.Common.{enumerate_from, list_any, Flip, Assigned, is_assigned, is_clocked_target, named_of, sections_assign, Words, Entry, is_signal, SectionTree, holds_of, is_held, part_shares, sections_parts, is_registered, with_kind, with_kinds, with_assigned, words_with_kind, Reads, Targets, Held, Mark, all_marks, is_held_at, kind_by, kinds_by, words_by, Declared, view_declared}
use Rattle.std.proofs.Common.{◌≡◌, add-one, ℕ, suc, ◌+◌, Bool, true, false, ◌||◌, if◌then◌else◌, Some, List, [], ◌∷◌, refl, sym, ap, ap₂, subst, ◌∙◌, add-zero, suc-add, add-suc, zero-add, map, slice_get}
use Rattle.declared_names.proofs.AssignedMarks.{is_clocked, is_found}
use Rattle.declared_names.proofs.HeldMarks.{is_read}
use Rattle.declared_names.proofs.Passing.{at}

-- ---- all names

module _ (ds : List Declared) (xs : List SectionTree) (flip : Flip) (marks : List Mark) (held : Held) (assigned : marks ≡ all_marks Targets (map view_declared ds) xs)
    (all : held.all ≡ list_any part_shares (sections_parts xs)) (read : held.read.items ≡ all_marks Reads (map view_declared ds) xs) where
  abbrev es : List Entry
  es = map view_declared ds

  abbrev found : List Assigned
  found = sections_assign (named_of es) xs

  abbrev settled_by : ℕ → Entry → Entry
  settled_by s x = kind_by flip (at marks s) (is_held_at held s) x

  abbrev kind_of : ℕ → Entry → Entry
  kind_of s x = with_kind flip (holds_of es xs) found s x

  settled_one : (s : ℕ) (x : Entry) → slice_get es s ≡ Some x → settled_by s x ≡ kind_of s x
  settled_one s x g =
      ap (λ ms. kind_by flip (at ms s) (is_held_at held s) x) assigned
      ∙ (ap (λ d. record x { words = if is_signal x.kind then by_marks (at (all_marks Targets es xs) s).strong (is_held_at held s) else x.words; assigned = d }) (is_found es xs s x g)
      ∙ ap (λ w. record x { words = w; assigned = is_assigned found s }) (by (is_signal x.kind) refl))
    where
      by_marks : (clocked held : Bool) → Words
      by_marks clocked h = words_by flip h x.words (is_registered x.words clocked)

      stays : is_signal x.kind ≡ true → is_held_at held s ≡ is_held (holds_of es xs) s
      stays e = ap₂ (λ a ms. a || (at ms s).strong) all read ∙ ap (λ b. list_any part_shares (sections_parts xs) || b) (is_read es xs s x g e)

      by : (b : Bool) → is_signal x.kind ≡ b
          → (if b then by_marks (at (all_marks Targets es xs) s).strong (is_held_at held s) else x.words)
          ≡ (if b then words_with_kind flip (holds_of es xs) s x.words (is_registered x.words (is_clocked_target found s)) else x.words)
      by true e = ap₂ by_marks (is_clocked es xs s x g e) (stays e)
      by false e = refl

  all_settled : (i : ℕ) (l : List Declared) → ((j : ℕ) (e : Entry) → slice_get (map view_declared l) j ≡ Some e → settled_by (i + j) e ≡ kind_of (i + j) e)
      → map (λ (x : ℕ × Declared). settled_by x.0 (view_declared x.1)) (enumerate_from i l) ≡ with_kinds flip (holds_of es xs) found i (map view_declared l)
  all_settled i [] f = refl
  all_settled i (d ∷ l) f =
      ap₂ (λ y ys. y ∷ ys)
      (subst (λ k. settled_by k (view_declared d) ≡ kind_of k (view_declared d)) (add-zero i) (f 0 (view_declared d) refl))
      (ap (λ k. map (λ (x : ℕ × Declared). settled_by x.0 (view_declared x.1)) (enumerate_from k l)) (add-one i)
      ∙ all_settled (suc i) l (λ j y h. subst (λ k. settled_by k y ≡ kind_of k y) (add-suc i j ∙ sym (suc-add i j)) (f (suc j) y h)))

  -- the names with their kinds
  pub settled : kinds_by flip marks held ds ≡ with_assigned flip xs es
  settled = all_settled 0 ds (λ j e h. subst (λ k. settled_by k e ≡ kind_of k e) (sym (zero-add j)) (settled_one j e h))
