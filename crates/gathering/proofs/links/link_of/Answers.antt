use Rattle.std.proofs.Common.{◌≡◌, Bool, ◌&&◌, ◌||◌, sym, ap, ap₂, ◌∙◌, subst}
use Rattle.gathering.proofs.Common.{Leaf, Reads, AreReads, function_names, names_if_any, signal_names, contributions_in}
use Rattle.bit_expr.specs.declared.node.Leaf.TheVariants as leaf
use Rattle.gathering.proofs.links.link_of.Goals.{then-settles, else-settles}
use Rattle.gathering.proofs.links.link_of.Goals as goal

reads_same : (f g : Leaf → Bool) (r s : Reads) → s ≡ r → ((l : Leaf) → f l ≡ g l) → AreReads f r → AreReads g s
reads_same f g r s is same are =
    subst (AreReads g) (sym is)
    (record {
      pins = λ p below. are.pins p below ∙ same (leaf.Pin p);
      q = λ c below. are.q c below ∙ same (leaf.Q c);
      nodes = λ n below. are.nodes n below ∙ same (leaf.Node n);
    })

pub returns : goal.returns
returns g c = λ d first list s on given. record {
  leaf = c.leaf_of.ensures d on;
  reads = elim c.if-settles.branch [
    | then-settles b ↦
        reads_same _ _ b.both.result c.if-settles.result b.result-is
        (λ l. ap₂ (λ (x y : Bool). x && y) (sym b.if-settles.true ∙ c.settles.ensures) (ap₂ (λ f o. function_names f l || names_if_any o l) (given.function.is d) (given.enable.is d)))
        (b.both.ensures _ _ b.function_reads.ensures b.control_reads.ensures)
    | else-settles b ↦
        reads_same _ _ b.nothing.result c.if-settles.result b.result-is
        (λ l. ap (λ (x : Bool). x && signal_names d (contributions_in first list) s l) (sym b.if-settles.false ∙ c.settles.ensures))
        b.nothing.ensures
  ];
  stored = c.is_stored.ensures;
}
