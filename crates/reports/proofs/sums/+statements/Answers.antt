-- The statements of a group.
use Rattle.std.proofs.Common.{◌≡◌, ◌++◌, map, OnOk, subst, sym, ap, ◌∙◌}
use Rattle.std.specs.List.{flat_map}
use Rattle.abel_tree.specs.Entries.{entries_of}
use Rattle.abel_tree.specs.View.{view_stmt}
use Rattle.reports.specs.Warnings.{sums_in_statement}
use Rattle.reports.proofs.WarnedSums.{group_sums}
use Rattle.reports.proofs.sums.+statements.Goals as goal

pub find_in_statement-returns-in-Group : goal.find_in_statement-returns-in-Group
find_in_statement-returns-in-Group t c =
    let es = entries_of c.args.names.now in
    subst (λ ws. OnOk c.find_in_statements.result (c.find_in_statements.new.found ≡ c.args.found.now ++ ws))
    (ap (λ xs. flat_map (sums_in_statement es) (map view_stmt xs)) c.as_slice.ensures
    ∙ sym (ap (λ y. sums_in_statement es (view_stmt y)) c.in-Group.is ∙ group_sums es c.in-Group.group))
    c.find_in_statements.ensures
