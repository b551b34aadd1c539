-- A piece and a number were appended, and after them another piece and number.
use Rattle.std.proofs.Common.{◌≡◌, ℕ, List, ◌++◌, ◌∙◌, ap, sym, append_assoc, codes}
use Rattle.fuse_reports.proofs.Common.{decimal}
use Rattle.fuse_reports.proofs.sim_faults.put_condition.Goals as goal

two_pieces : (old one piece number middle new : List ℕ) → middle ≡ old ++ one → new ≡ middle ++ (piece ++ number)
    → new ≡ old ++ (one ++ piece ++ number)
two_pieces old one piece number middle new middle_is new_is =
    new_is ∙ ap (λ (m : List ℕ). m ++ (piece ++ number)) middle_is
    ∙ append_assoc old one (piece ++ number) ∙ ap (λ (back : List ℕ). old ++ back) (sym (append_assoc one piece number))

pub returns : goal.returns
returns c =
    two_pieces _ (codes "UnsupportedCondition vector " ++ decimal c.args.vector) (codes " pin ") (decimal c.args.pin) _ _
    c.in_ok-put_numbered.ensures (rw c.from.ensures at c.in_ok-put_numbered-2.ensures)
