use Rattle.bit_expr.proofs.Common.{names, arena, formula_at}
use Rattle.bit_expr.proofs.arena.Exprs.reads_of.Goals as goal

pub returns-in-And : goal.returns-in-And
returns-in-And c =
    rw c.in-And.is (c.union.ensures (λ leaf. names (formula_at (arena c.args.self.now) c.in-And.a) leaf) (λ leaf. names (formula_at (arena c.args.self.now) c.in-And.b) leaf)
    c.reads-in-And.ensures c.reads-in-And-2.ensures)

pub returns-in-Or : goal.returns-in-Or
returns-in-Or c =
    rw c.in-Or.is (c.union-in-Or.ensures (λ leaf. names (formula_at (arena c.args.self.now) c.in-Or.a) leaf) (λ leaf. names (formula_at (arena c.args.self.now) c.in-Or.b) leaf)
    c.reads-in-Or.ensures c.reads-in-Or-2.ensures)

pub returns-in-Xor : goal.returns-in-Xor
returns-in-Xor c =
    rw c.in-Xor.is (c.union-in-Xor.ensures (λ leaf. names (formula_at (arena c.args.self.now) c.in-Xor.a) leaf) (λ leaf. names (formula_at (arena c.args.self.now) c.in-Xor.b) leaf)
    c.reads-in-Xor.ensures c.reads-in-Xor-2.ensures)
