use Rattle.std.proofs.Common.{◌≡◌, ℕ, Bool, List, true, false, ◌==◌, length, sym, ◌∙◌, subst, inl, inr, eqb-true}
use Rattle.pld_order.proofs.Common.{or_cases, or_left, true≢false, is_on, IsPath, HasNoPath, IsWith, reads_of}
use Rattle.pld_order.proofs.DoneSets.{set_at}
use Rattle.pld_order.proofs.Lists.{eqb_same}
use Rattle.pld_order.proofs.LoopPaths.{loop_of, last_is, path_some, on_no_loop}
use Rattle.pld_order.proofs.loops.loop_from.Goals as goal

-- the set of ends has the vertex alone
only_end : (new insert : List Bool) (vertex v : ℕ) → ((w : ℕ) → is_on new w ≡ false) → IsWith new vertex insert → is_on insert v ≡ true → v ≡ vertex
only_end new insert vertex v none with_it on =
    elim (or_cases (v == vertex) (is_on new v) (sym (with_it v) ∙ on)) [
      | inl same ↦ eqb-true v vertex same
      | inr old ↦ absurd (true≢false (sym old ∙ none v))
    ]

pub returns-in-None-clause-none : goal.returns-in-None-clause-none
returns-in-None-clause-none c =
    on_no_loop (length c.args.reads.now) (reads_of c.args.reads.now) c.args.vertex (is_on c.insert.new.self)
    (c.insert.ensures c.args.vertex ∙ or_left (c.args.vertex == c.args.vertex) (is_on c.new-ends.result c.args.vertex) (eqb_same c.args.vertex))
    (subst (λ xs. HasNoPath (length c.args.reads.now) (reads_of c.args.reads.now) (is_on xs) (is_on c.insert.new.self)) (set_at c.args.reads.now c.from.result c.args.vertex c.index-reads-from.result c.requires.inside c.from.ensures c.index-reads-from.is) c.in-None.ensures.none)

-- the path from what the vertex reads to it
path_is : (c : goal.After-last_first) → IsPath (length c.args.reads.now) (reads_of c.args.reads.now) (reads_of c.args.reads.now c.args.vertex) (is_on c.insert.new.self) c.as_slice.result.now
path_is c =
    rw c.as_slice.ensures.value
    (subst (λ xs. IsPath (length c.args.reads.now) (reads_of c.args.reads.now) (is_on xs) (is_on c.insert.new.self) c.in-Some.path.items)
    (set_at c.args.reads.now c.from.result c.args.vertex c.index-reads-from.result c.requires.inside c.from.ensures c.index-reads-from.is) c.in-Some.ensures.found)

pub last_first-requires : goal.last_first-requires
last_first-requires c = record {
  some = rw c.as_slice.ensures.value (path_some (length c.args.reads.now) (reads_of c.args.reads.now) c.args.vertex (is_on c.index-reads-from.result) (is_on c.insert.new.self) c.in-Some.path.items c.in-Some.ensures.found);
  few = c.as_slice.ensures.fits;
}

pub returns-in-Some-clause-found : goal.returns-in-Some-clause-found
returns-in-Some-clause-found c =
    rw c.last_first.ensures
    (loop_of (length c.args.reads.now) (reads_of c.args.reads.now) c.args.vertex (is_on c.insert.new.self) c.as_slice.result.now
    (λ v on. only_end c.new-ends.result c.insert.new.self c.args.vertex v c.new-ends.ensures c.insert.ensures on) (path_is c) (rw c.as_slice.ensures.value c.in-Some.ensures.once))

pub returns-in-Some-clause-first : goal.returns-in-Some-clause-first
returns-in-Some-clause-first c =
    rw c.last_first.ensures
    (last_is (length c.args.reads.now) (reads_of c.args.reads.now) c.args.vertex (is_on c.insert.new.self) c.as_slice.result.now
    (λ v on. only_end c.new-ends.result c.insert.new.self c.args.vertex v c.new-ends.ensures c.insert.ensures on) (path_is c))
