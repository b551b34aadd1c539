use Rattle.std.proofs.Common.{◌≡◌, true, length, get_or, subst}
use Rattle.pld_order.proofs.Common.{is_on, HasNoneOf, reads_of}
use Rattle.pld_order.proofs.LeadLists.{no_path}
use Rattle.pld_order.proofs.PathSteps.{path_from}
use Rattle.pld_order.proofs.paths.path.Goals as goal

pub returns-in-None-clause-none : goal.returns-in-None-clause-none
returns-in-None-clause-none c =
    no_path (length c.args.reads.now) (reads_of c.args.reads.now) (is_on c.args.ends.now) c.leading-leading.result.items c.leading-leading.ensures.lead c.args.starts.now c.leading-leading.ensures.closed
    (subst (λ xs. HasNoneOf xs c.args.starts.now) c.as_slice.ensures.value c.in-None.ensures.none)

pub returns-in-Some-clause-found : goal.returns-in-Some-clause-found
returns-in-Some-clause-found c =
    path_from (length c.args.reads.now) (reads_of c.args.reads.now) (is_on c.args.starts.now) (is_on c.args.ends.now) (get_or c.as_slice-in-Some.result.now c.in-Some.start 0) c.followed.result.items
    (rw c.as_slice-in-Some.ensures.value (subst (λ xs. is_on c.args.starts.now (get_or xs c.in-Some.start 0) ≡ true) c.as_slice.ensures.value c.in-Some.ensures.found.found))
    c.followed.ensures.path
