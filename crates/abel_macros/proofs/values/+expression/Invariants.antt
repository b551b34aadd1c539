-- Each call reads what is nearer to the operands, or is nested deeper.
use Rattle.std.proofs.Common.{◌≡◌, ◌≤◌, ◌+◌, ◌*◌, ℕ}
use Rattle.abel_macros.proofs.Common.{Priority, ahead, tables_of, item, level, chain_on, operand}
use Rattle.abel_macros.specs.declared.operator.Priority.TheVariants as priority
use Rattle.abel_macros.proofs.values.+expression.Given as goal

abbrev rank : Priority → ℕ
rank priority.Relation = 6
rank priority.Sum = 4
rank priority.Product = 2

abbrev pub decreases-read_operand : goal.decreases-read_operand
decreases-read_operand l = 9 * l.most + 1

abbrev pub decreases-read_prefixed : goal.decreases-read_prefixed
decreases-read_prefixed l = 9 * l.most + 8

abbrev pub decreases-read_item : goal.decreases-read_item
decreases-read_item l = 9 * l.most + rank l.priority

abbrev pub decreases-read_chain : goal.decreases-read_chain
decreases-read_chain l = 9 * l.most + rank l.priority + 1

-- what follows, after the value so far, leads to the value of all
abbrev pub invariant-read_chain-items : goal.invariant-read_chain-items
invariant-read_chain-items l =
    record {
      read : chain_on l.priority (item l.priority (operand l.most l.tables.radix (tables_of l.tables).values)) l.more l.value (ahead l.at)
          ≡ level l.priority (operand l.most l.tables.radix (tables_of l.tables).values) (ahead l.fn.at);
      whole : l.at.whole ≡ l.fn.at.whole;
      further : l.fn.at.passed ≤ l.at.passed;
    }

abbrev pub decreases-read_chain-items : goal.decreases-read_chain-items
decreases-read_chain-items l = l.more
