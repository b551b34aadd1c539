-- Three pieces were appended, one after the other.
use Rattle.std.proofs.Common.{◌≡◌, ℕ, List, ◌++◌, ◌∙◌, ap, append_assoc, codes}
use Rattle.form_commands.specs.Prelude.{four_hex}
use Rattle.form_commands.proofs.dump_lines.put_sums.Goals as goal

three_pieces : (old name one two first second new : List ℕ) → first ≡ old ++ name → second ≡ first ++ one → new ≡ second ++ two
    → new ≡ old ++ (name ++ (one ++ two))
three_pieces old name one two first second new first_is second_is new_is =
    new_is ∙ ap (λ (s : List ℕ). s ++ two) (second_is ∙ ap (λ (f : List ℕ). f ++ one) first_is)
    ∙ append_assoc (old ++ name) one two ∙ append_assoc old name (one ++ two)

pub returns : goal.returns
returns c =
    three_pieces _ c.args.name.now (codes " read " ++ four_hex c.args.read) (codes " found " ++ four_hex c.args.found) _ _ _
    c.in_ok-extend_from_slice.ensures.items c.in_ok-put_sum.ensures c.in_ok-put_sum-2.ensures
