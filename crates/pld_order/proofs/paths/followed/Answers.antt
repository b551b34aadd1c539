use Rattle.std.proofs.Common.{◌≡◌, true, false, length, get_or, sym, ◌∙◌, subst, arith}
use Rattle.pld_order.proofs.Common.{true≢false, is_on, reads_of}
use Rattle.pld_order.proofs.DoneSets.{set_at}
use Rattle.pld_order.proofs.Lists.{few}
use Rattle.pld_order.proofs.LeadLists.{followed_none, followed_more, followed_path, path_once, reads_earlier, first_earlier, in_list}
use Rattle.pld_order.proofs.paths.followed.Goals as goal

pub loop-path-init : goal.loop-path-init
loop-path-init c = rw c.new-path.ensures (followed_none (length c.args.reads.now) (reads_of c.args.reads.now) (is_on c.args.ends.now) c.args.leading.now c.requires.lead c.args.start c.requires.within)

pub push-requires : goal.push-requires
push-requires c =
    let short = few c.args.leading.now (length c.args.reads.now) c.requires.lead.once c.requires.lead.inside in
    let walked = c.loop-path.invariant.short in
    (omega arith, (let bound = c.requires.few in omega (arith, short, walked, bound)))

pub returns-then-contains-clause-path : goal.returns-then-contains-clause-path
returns-then-contains-clause-path c =
    rw c.push.ensures.items
    (followed_path (length c.args.reads.now) (reads_of c.args.reads.now) (is_on c.args.ends.now) c.args.leading.now c.requires.lead c.args.start c.loop-path.path.items c.loop-path.place c.loop-path.invariant (sym c.contains.ensures ∙ c.if-contains.true))

pub returns-then-contains-clause-once : goal.returns-then-contains-clause-once
returns-then-contains-clause-once c =
    rw c.push.ensures.items
    (path_once (length c.args.reads.now) (reads_of c.args.reads.now) (is_on c.args.ends.now) c.args.leading.now c.requires.lead c.args.start c.loop-path.path.items c.loop-path.place c.loop-path.invariant)

pub loop-path-smaller : goal.loop-path-smaller
loop-path-smaller c =
    let count = length c.args.reads.now in
    let vertex = get_or c.args.leading.now c.loop-path.place 0 in
    let inside = c.requires.lead.inside vertex (in_list count (reads_of c.args.reads.now) (is_on c.args.ends.now) c.args.leading.now c.requires.lead c.args.start c.loop-path.path.items c.loop-path.place c.loop-path.invariant) in
    let set = set_at c.args.reads.now c.from.result vertex c.index-reads-from.result inside c.from.ensures c.index-reads-from.is in
    first_earlier count (reads_of c.args.reads.now) (is_on c.args.ends.now) c.args.leading.now c.requires.lead c.args.start c.loop-path.path.items c.loop-path.place c.loop-path.invariant
    (sym c.contains.ensures ∙ c.if-contains.false) c.in-Some.next (λ k less. subst (λ xs. is_on xs (get_or c.args.leading.now k 0) ≡ false) set (c.in-Some.ensures.found.first k less))

pub loop-path-preserved : goal.loop-path-preserved
loop-path-preserved c =
    let count = length c.args.reads.now in
    let vertex = get_or c.args.leading.now c.loop-path.place 0 in
    let inside = c.requires.lead.inside vertex (in_list count (reads_of c.args.reads.now) (is_on c.args.ends.now) c.args.leading.now c.requires.lead c.args.start c.loop-path.path.items c.loop-path.place c.loop-path.invariant) in
    let set = set_at c.args.reads.now c.from.result vertex c.index-reads-from.result inside c.from.ensures c.index-reads-from.is in
    rw c.push.ensures.items
    (followed_more count (reads_of c.args.reads.now) (is_on c.args.ends.now) c.args.leading.now c.requires.lead c.args.start c.loop-path.path.items c.loop-path.place c.loop-path.invariant c.in-Some.next
    (loop-path-smaller c) (subst (λ xs. is_on xs (get_or c.args.leading.now c.in-Some.next 0) ≡ true) set c.in-Some.ensures.found.found))

pub unreachable-requires : goal.unreachable-requires
unreachable-requires c =
    let count = length c.args.reads.now in
    let vertex = get_or c.args.leading.now c.loop-path.place 0 in
    let inside = c.requires.lead.inside vertex (in_list count (reads_of c.args.reads.now) (is_on c.args.ends.now) c.args.leading.now c.requires.lead c.args.start c.loop-path.path.items c.loop-path.place c.loop-path.invariant) in
    let set = set_at c.args.reads.now c.from.result vertex c.index-reads-from.result inside c.from.ensures c.index-reads-from.is in
    let there = reads_earlier count (reads_of c.args.reads.now) (is_on c.args.ends.now) c.args.leading.now c.requires.lead c.args.start c.loop-path.path.items c.loop-path.place c.loop-path.invariant (sym c.contains.ensures ∙ c.if-contains.false) in
    let within = c.loop-path.invariant.within in
    let off = subst (λ xs. is_on xs (get_or c.args.leading.now there.0 0) ≡ false) set (c.in-None.ensures.none there.0 (omega (arith, there.1, within))) in
    true≢false (sym there.2 ∙ off)
