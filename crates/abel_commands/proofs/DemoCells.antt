-- The number of cells in a summary.
use Rattle.std.proofs.Common.{◌≡◌, ℕ, ◌+◌, ◌^◌, ◌<◌, Bool, true, List, [], ◌∷◌, ◌++◌, length, take, drop, refl, ap, ◌∙◌, append_assoc, arith, codes, is_some}
use Rattle.abel_commands.proofs.Common.{is_ascii_digit, decimal, list_all, prefix_len, range_with_len, length-append, length-range_with_len, Model, device_text, Table, four_hex, fuse_sum_of, design_cells, products_used, summary_of, table_at}
use Rattle.std.proofs.lemmas.Fmt.{digits_decimal}
use Rattle.std.proofs.lemmas.List.Sums.{count_by-le-length}
use Rattle.std.proofs.Math.Seq.{drop-append_seam, take-append_seam}
use Rattle.pld_device.specs.OpenedFuses.{opened_of}
use Rattle.abel_tree.specs.Tree.{ModuleTree}
use Rattle.abel_meaning.specs.Controls.{signal_on}
use Rattle.abel_meaning.specs.Designs.{design_of}
use Rattle.devices.specs.Models.{model_sound}
use Rattle.abel_commands.proofs.Seeds.{digits_are}

-- ---- digits after a front, and then a blank

digits_end : (ds back : List ℕ) → list_all is_ascii_digit ds ≡ true → prefix_len is_ascii_digit (ds ++ 32 ∷ back) ≡ length ds
digits_end [] back all = refl
digits_end (d ∷ ds) back all = grind (arith, digits_end ds back)

module _ (front ds back : List ℕ) (all : list_all is_ascii_digit ds ≡ true) where
  pub behind_is : (text : List ℕ) (n : ℕ) → text ≡ front ++ (ds ++ 32 ∷ back) → n ≡ length front → drop n text ≡ ds ++ 32 ∷ back
  behind_is text n is at = rw (is, at) (drop-append_seam front (ds ++ 32 ∷ back))

  pub digits_behind : (behind : List ℕ) → behind ≡ ds ++ 32 ∷ back → take (prefix_len is_ascii_digit behind) behind ≡ ds
  digits_behind behind is = rw is (ap (λ (n : ℕ). take n (ds ++ 32 ∷ back)) (digits_end ds back all) ∙ take-append_seam ds (32 ∷ back))

-- ---- of a summary

-- seven pieces after a front
regrouped : (x a b c d e f g : List ℕ) → x ++ a ++ b ++ c ++ d ++ e ++ f ++ g ≡ x ++ (a ++ (b ++ (c ++ (d ++ (e ++ (f ++ g))))))
regrouped x a b c d e f g =
    append_assoc (x ++ a ++ b ++ c ++ d ++ e) f g
    ∙ append_assoc (x ++ a ++ b ++ c ++ d) e (f ++ g)
    ∙ append_assoc (x ++ a ++ b ++ c) d (e ++ (f ++ g))
    ∙ append_assoc (x ++ a ++ b) c (d ++ (e ++ (f ++ g)))
    ∙ append_assoc (x ++ a) b (c ++ (d ++ (e ++ (f ++ g))))
    ∙ append_assoc x a (b ++ (c ++ (d ++ (e ++ (f ++ g)))))

module _ (t : Table) (cells : ℕ) (fuses : List Bool) (low : cells < 2 ^ 64) where
  abbrev front : List ℕ
  front = codes "compiled " ++ device_text t.name ++ codes " cells "

  -- what follows the number and its blank
  abbrev back : List ℕ
  back =
      codes "products "
      ++ (decimal (products_used t fuses) ++ (codes " opened " ++ (decimal (opened_of fuses) ++ (codes " sum " ++ (four_hex (fuse_sum_of fuses) ++ codes "\n")))))

  parts : summary_of t cells fuses ≡ front ++ (decimal cells ++ 32 ∷ back)
  parts =
      regrouped (front ++ decimal cells) (codes " products ") (decimal (products_used t fuses)) (codes " opened ") (decimal (opened_of fuses)) (codes " sum ") (four_hex (fuse_sum_of fuses)) (codes "\n")
      ∙ append_assoc front (decimal cells) (32 ∷ back)

  pub cells_behind : (summary : List ℕ) (n : ℕ) → summary ≡ summary_of t cells fuses → n ≡ 9 + length (device_text t.name) + 7
      → take (prefix_len is_ascii_digit (drop n summary)) (drop n summary) ≡ decimal cells
  cells_behind summary n is at =
      let all = digits_decimal digits_are cells low in
      let size = length-append (codes "compiled ") (device_text t.name) in
      let whole = length-append (codes "compiled " ++ device_text t.name) (codes " cells ") in
      digits_behind front (decimal cells) back all (drop n summary)
      (behind_is front (decimal cells) back all summary n (is ∙ parts) (omega (arith, at, size, whole)))

-- ---- a module assigns few cells

few_of : (device : Model) → length (table_at device).cells < 2 ^ 64
few_of device = let few = (model_sound device).sizes.few_cells in omega (arith, few)

pub few_cells : (device : Model) (m : ModuleTree) → design_cells (design_of (table_at device) m).context < 2 ^ 64
few_cells device m =
    let counted = count_by-le-length (λ c. is_some (signal_on (design_of (table_at device) m).context c)) (range_with_len 0 (length (table_at device).cells)) in
    omega (arith, counted, length-range_with_len 0 (length (table_at device).cells), few_of device)
