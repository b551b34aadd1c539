-- What the arena keeps beside its nodes, when one is added.
use Rattle.std.proofs.Common.{◌≡◌, ℕ, ◌+◌, ◌-◌, ◌<◌, ◌≤◌, inl, inr, List, [], ◌∷◌, ◌++◌, length, get_or, slice_get, Some, option_map, false, refl, sym, ap, ◌∙◌, subst, arith}
use Rattle.bit_expr.proofs.Common.{map-append, length-map, get_or_append_left, slice_get-map, slice_get_within, get_or_from_slice_get, slice_get_read, Kept, Node, ExprId, arena, formula_of, LiesIn, IsAdded, fresh, Formula, Const, names, nodes_of, AreOverEarlier, AreKept, AreReads}
use Rattle.bit_expr.proofs.ArenaLists.{arena_more, arena_count, split_last, ordered_more, get_new, grew_one}

-- the node of an entry
pub node_kept : (kept : List Kept) (k : ℕ) (x : Kept) → slice_get kept k ≡ Some x → slice_get (nodes_of kept) k ≡ Some x.node
node_kept kept k x e = slice_get-map (λ (x : Kept). x.node) kept k ∙ ap (λ o. option_map (λ (x : Kept). x.node) o) e

nodes_more : (kept : List Kept) (x : Kept) → nodes_of (kept ++ x ∷ []) ≡ nodes_of kept ++ x.node ∷ []
nodes_more kept x = map-append (λ (k : Kept). k.node) kept (x ∷ [])

-- nothing is kept of no node
pub kept_none : AreKept []
kept_none = record { ordered = λ k n e. absurd (cc); reads = λ k x e. absurd (cc) }

-- the formulas before are
same_before : (ns : List Node) (n : Node) (k : ℕ) → k < length ns → get_or (arena ns) (k + 2) (Const false) ≡ get_or (arena (ns ++ n ∷ [])) (k + 2) (Const false)
same_before ns n k h = sym (rw (arena_more ns n) (get_or_append_left (arena ns) (formula_of (arena ns) n ∷ []) (Const false) (k + 2) (omega (arith, arena_count ns))))

-- one more is kept
pub kept_more : (kept : List Kept) (x : Kept) → AreKept kept → LiesIn (length (arena (nodes_of kept))) x.node → AreReads (λ leaf. names (formula_of (arena (nodes_of kept)) x.node) leaf) x.reads → AreKept (kept ++ x ∷ [])
kept_more kept x known lies reads =
    record {
      ordered = subst AreOverEarlier (sym (nodes_more kept x)) (ordered_more (nodes_of kept) x.node known.ordered lies);
      reads = λ k y e. subst (λ ns. AreReads (λ leaf. names (get_or (arena ns) (k + 2) (Const false)) leaf) y.reads) (sym (nodes_more kept x))
          (elim (split_last kept x y k e) [
            | inl old ↦ subst (λ (f : Formula). AreReads (λ leaf. names f leaf) y.reads)
                (same_before (nodes_of kept) x.node k (subst (λ l. k < l) (sym (length-map kept (λ (z : Kept). z.node))) (slice_get_within kept k y old)))
                (known.reads k y old)
            | inr last ↦ subst (λ (z : Kept). AreReads (λ leaf. names (get_or (arena (nodes_of kept ++ x.node ∷ [])) (k + 2) (Const false)) leaf) z.reads) last.1
                (subst (λ (f : Formula). AreReads (λ leaf. names f leaf) x.reads)
                (sym (ap (λ j. get_or (arena (nodes_of kept ++ x.node ∷ [])) (j + 2) (Const false)) (last.0 ∙ sym (length-map kept (λ (z : Kept). z.node)))
                ∙ get_or_from_slice_get (arena (nodes_of kept ++ x.node ∷ [])) (length (nodes_of kept) + 2) (formula_of (arena (nodes_of kept)) x.node) (Const false) (get_new (nodes_of kept) x.node)))
                reads)
          ]);
    }

-- an id after the constants is that of an entry
pub entry_within : (kept : List Kept) (i : ℕ) → i < length (arena (nodes_of kept)) → 2 ≤ i → i - 2 < length kept
entry_within kept i h low = omega (arith, arena_count (nodes_of kept), length-map kept (λ (x : Kept). x.node))

pub entry_read : (kept : List Kept) (i : ℕ) (x : Kept) → i < length (arena (nodes_of kept)) → 2 ≤ i → x ≡ get_or kept (i - 2) x → slice_get kept (i - 2) ≡ Some x
entry_read kept i x h low e = slice_get_read kept (length kept) (i - 2) x refl (entry_within kept i h low) e

-- one that is added is made
pub added_kept : (most : ℕ) (kept : List Kept) (x : Kept) (ns : List Node) (id : ExprId) → nodes_of kept ≡ ns → length kept < most → id.0 ≡ length kept + 2 → IsAdded (most + 2) (arena ns) (arena (nodes_of (kept ++ x ∷ []))) id (fresh (formula_of (arena ns) x.node))
added_kept most kept x ns id same below place =
    subst (λ ns. IsAdded (most + 2) (arena ns) (arena (nodes_of (kept ++ x ∷ []))) id (fresh (formula_of (arena ns) x.node))) same
    (subst (λ more. IsAdded (most + 2) (arena (nodes_of kept)) (arena more) id (fresh (formula_of (arena (nodes_of kept)) x.node))) (sym (nodes_more kept x))
    (record {
      formula = subst (λ i. slice_get (arena (nodes_of kept ++ x.node ∷ [])) i ≡ Some (formula_of (arena (nodes_of kept)) x.node))
          (ap (λ l. l + 2) (length-map kept (λ (z : Kept). z.node)) ∙ sym place) (get_new (nodes_of kept) x.node);
      grew = grew_one (nodes_of kept) x.node;
      within = λ p. omega (arith, p.1, arena_count (nodes_of kept), length-map kept (λ (z : Kept). z.node));
    }))
