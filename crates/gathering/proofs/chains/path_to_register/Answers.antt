use Rattle.std.proofs.Common.{length, Option, Some, None, IfSome, IfNone}
use Rattle.gathering.proofs.Common.{is_on, link_reads, is_read_by, is_stored_in}
use Rattle.gathering.proofs.LinkSets.{path_of_sets, no_path_of_sets}
use Rattle.gathering.proofs.chains.path_to_register.Goals as goal

if_some : {A : Type 0} (P Q : A → Type 0) (o : Option A) → ((a : A) → P a → Q a) → IfSome o P → IfSome o Q
if_some P Q None more is = tt
if_some P Q (Some a) more is = more a is

if_none : {A : Type 0} (P Q : Type 0) (o : Option A) → (P → Q) → IfNone o P → IfNone o Q
if_none P Q None more is = more is
if_none P Q (Some a) more is = tt

pub returns-clause-found : goal.returns-clause-found
returns-clause-found c =
    if_some _ _ c.path.result
    (λ path is. path_of_sets (length c.args.links.now) (link_reads c.args.links.now) c.in_ok-sets.sets.items c.deref.result.now c.deref.ensures.value c.in_ok-sets.ensures.count c.in_ok-sets.ensures.sets
    (is_on c.read_by-starts.result) (is_read_by c.args.from.now c.args.links.now) (is_on c.registers-ends.result) (is_stored_in c.args.links.now) c.read_by-starts.ensures c.registers-ends.ensures path.items is)
    c.path.ensures.found

pub returns-clause-none : goal.returns-clause-none
returns-clause-none c =
    if_none _ _ c.path.result
    (no_path_of_sets (length c.args.links.now) (link_reads c.args.links.now) c.in_ok-sets.sets.items c.deref.result.now c.deref.ensures.value c.in_ok-sets.ensures.count c.in_ok-sets.ensures.sets
    (is_on c.read_by-starts.result) (is_read_by c.args.from.now c.args.links.now) (is_on c.registers-ends.result) (is_stored_in c.args.links.now) c.read_by-starts.ensures c.registers-ends.ensures)
    c.path.ensures.none
