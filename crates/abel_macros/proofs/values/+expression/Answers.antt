-- The turns and the ends of a chain, and an operand by what it begins with.
use Rattle.std.proofs.Common.{◌≡◌, ℕ, List, Option, None, Some, IfOk, IfSome, IfNone, sym, ap, subst, ◌∙◌, arith}
use Rattle.abel_macros.proofs.Common.{Look, ahead, Operator, Prefix, sign, gap, behind_sign, under, Read, applied, operator_of, item, level, operand, past_prefix}
use Rattle.abel_macros.proofs.Chains.{chain_ends, chain_broken, chain_undefined, chain_goes_on}
use Rattle.abel_macros.proofs.Operands.{operand_plain, operand_nested}
use Rattle.abel_macros.proofs.values.+expression.Goals as goal

pub read_chain-returns-in_default-2-clause-some : goal.read_chain-returns-in_default-2-clause-some
read_chain-returns-in_default-2-clause-some t c =
    let items : List ℕ → Read = item c.args.priority (operand c.args.most c.args.tables.now.radix (under c.args.tables.now.values)) in
    let none : operator_of c.args.priority (sign (gap (ahead c.items.at))) ≡ None = sym c.in_ok-operator.ensures.operator ∙ c.in_default-2.is in
    let same : c.read_operator.new.at ≡ c.items.at = subst (λ (o : Option Operator). IfNone o (c.read_operator.new.at ≡ c.items.at)) c.in_default-2.is c.in_ok-operator.ensures.none in
    chain_ends c.args.priority items c.items.more c.items.value (ahead c.items.at) (level c.args.priority (operand c.args.most c.args.tables.now.radix (under c.args.tables.now.values)) (ahead c.args.at.now)) c.items.invariant.read (omega arith) none
    ∙ ap (λ (a : Look). Some (c.items.value, ahead a)) (sym same)

pub read_chain-returns-in_default-3-clause-none : goal.read_chain-returns-in_default-3-clause-none
read_chain-returns-in_default-3-clause-none t c =
    let items : List ℕ → Read = item c.args.priority (operand c.args.most c.args.tables.now.radix (under c.args.tables.now.values)) in
    let found : operator_of c.args.priority (sign (gap (ahead c.items.at))) ≡ Some c.in-Some-2.operator = sym c.in_ok-operator.ensures.operator ∙ c.in-Some-2.is in
    let behind : ahead c.read_operator.new.at ≡ behind_sign (ahead c.items.at) = subst (λ (o : Option Operator). IfSome o (λ v. ahead c.read_operator.new.at ≡ behind_sign (ahead c.items.at))) c.in-Some-2.is c.in_ok-operator.ensures.some in
    let missing : items (ahead c.read_operator.new.at) ≡ None = subst (λ (o : Option ℕ). IfNone o (items (ahead c.read_operator.new.at) ≡ None)) c.in_default-3.is c.in_ok-item.ensures.none in
    chain_broken c.args.priority items c.items.more c.items.value (ahead c.items.at) (level c.args.priority (operand c.args.most c.args.tables.now.radix (under c.args.tables.now.values)) (ahead c.args.at.now)) c.items.invariant.read (omega arith) c.in-Some-2.operator found
    (ap items (sym behind) ∙ missing)

pub read_chain-returns-in_default-applied-clause-none : goal.read_chain-returns-in_default-applied-clause-none
read_chain-returns-in_default-applied-clause-none t c =
    let items : List ℕ → Read = item c.args.priority (operand c.args.most c.args.tables.now.radix (under c.args.tables.now.values)) in
    let found : operator_of c.args.priority (sign (gap (ahead c.items.at))) ≡ Some c.in-Some-2.operator = sym c.in_ok-operator.ensures.operator ∙ c.in-Some-2.is in
    let behind : ahead c.read_operator.new.at ≡ behind_sign (ahead c.items.at) = subst (λ (o : Option Operator). IfSome o (λ v. ahead c.read_operator.new.at ≡ behind_sign (ahead c.items.at))) c.in-Some-2.is c.in_ok-operator.ensures.some in
    let read : items (ahead c.read_operator.new.at) ≡ Some (c.in-Some-3.item, ahead c.read_item-in-items.new.at) =
    subst (λ (o : Option ℕ). IfSome o (λ v. items (ahead c.read_operator.new.at) ≡ Some (v, ahead c.read_item-in-items.new.at))) c.in-Some-3.is c.in_ok-item.ensures.some in
    let undefined : applied c.in-Some-2.operator c.items.value c.in-Some-3.item ≡ None = sym c.applied.ensures ∙ c.in_default-applied.is in
    chain_undefined c.args.priority items c.items.more c.items.value (ahead c.items.at) (level c.args.priority (operand c.args.most c.args.tables.now.radix (under c.args.tables.now.values)) (ahead c.args.at.now)) c.items.invariant.read (omega arith) c.in-Some-2.operator found
    c.in-Some-3.item (ahead c.read_item-in-items.new.at) (ap items (sym behind) ∙ read) undefined

pub read_chain-items-preserved : goal.read_chain-items-preserved
read_chain-items-preserved t c =
    let items : List ℕ → Read = item c.args.priority (operand c.args.most c.args.tables.now.radix (under c.args.tables.now.values)) in
    let found : operator_of c.args.priority (sign (gap (ahead c.items.at))) ≡ Some c.in-Some-2.operator = sym c.in_ok-operator.ensures.operator ∙ c.in-Some-2.is in
    let behind : ahead c.read_operator.new.at ≡ behind_sign (ahead c.items.at) = subst (λ (o : Option Operator). IfSome o (λ v. ahead c.read_operator.new.at ≡ behind_sign (ahead c.items.at))) c.in-Some-2.is c.in_ok-operator.ensures.some in
    let read : items (ahead c.read_operator.new.at) ≡ Some (c.in-Some-3.item, ahead c.read_item-in-items.new.at) =
    subst (λ (o : Option ℕ). IfSome o (λ v. items (ahead c.read_operator.new.at) ≡ Some (v, ahead c.read_item-in-items.new.at))) c.in-Some-3.is c.in_ok-item.ensures.some in
    let defined : applied c.in-Some-2.operator c.items.value c.in-Some-3.item ≡ Some c.in-Some-applied.next = sym c.applied.ensures ∙ c.in-Some-applied.is in
    record {
      read =
          chain_goes_on c.args.priority items c.items.more c.items.value (ahead c.items.at) (level c.args.priority (operand c.args.most c.args.tables.now.radix (under c.args.tables.now.values)) (ahead c.args.at.now)) c.items.invariant.read (omega arith) c.in-Some-2.operator found
          c.in-Some-3.item (ahead c.read_item-in-items.new.at) (ap items (sym behind) ∙ read) c.in-Some-applied.next defined;
      whole = c.read_item-in-items.ensures.whole ∙ c.read_operator.ensures.whole ∙ c.items.invariant.whole;
      further = omega (arith, c.read_item-in-items.ensures.further, c.read_operator.ensures.further, c.items.invariant.further);
    }

pub read_operand-returns-in-Plain-clause-some : goal.read_operand-returns-in-Plain-clause-some
read_operand-returns-in-Plain-clause-some t c =
    let plain = operand_plain c.args.most c.args.tables.now.radix (under c.args.tables.now.values) (ahead c.args.at.now) (ahead c.read_prefix.new.at) (sym c.in-Plain.is ∙ c.in_ok-prefix.ensures.prefix)
    (c.in_ok-prefix.ensures.ahead ∙ ap (λ (p : Prefix). past_prefix p (ahead c.args.at.now)) c.in-Plain.is) in
    subst (λ (z : Read). IfOk c.read_primary.result (λ o. IfSome o (λ v. z ≡ Some (v, ahead c.read_primary.new.at)))) (sym plain) c.read_primary.ensures.some

pub read_operand-returns-in-Plain-clause-none : goal.read_operand-returns-in-Plain-clause-none
read_operand-returns-in-Plain-clause-none t c =
    let plain = operand_plain c.args.most c.args.tables.now.radix (under c.args.tables.now.values) (ahead c.args.at.now) (ahead c.read_prefix.new.at) (sym c.in-Plain.is ∙ c.in_ok-prefix.ensures.prefix)
    (c.in_ok-prefix.ensures.ahead ∙ ap (λ (p : Prefix). past_prefix p (ahead c.args.at.now)) c.in-Plain.is) in
    subst (λ (z : Read). IfOk c.read_primary.result (λ o. IfNone o (z ≡ None))) (sym plain) c.read_primary.ensures.none

pub read_operand-returns-else-most-eq0 : goal.read_operand-returns-else-most-eq0
read_operand-returns-else-most-eq0 t c =
    let nested =
    operand_nested c.in_ok-prefix.prefix c.args.most c.args.tables.now.radix (under c.args.tables.now.values) (ahead c.args.at.now) (ahead c.read_prefix.new.at) (omega arith)
    c.in_ok-prefix.ensures.prefix c.in_ok-prefix.ensures.ahead c.in_default.not-Plain in
    record {
      some = subst (λ (z : Read). IfOk c.read_prefixed.result (λ o. IfSome o (λ v. z ≡ Some (v, ahead c.read_prefixed.new.at)))) (sym nested) c.read_prefixed.ensures.some;
      none = subst (λ (z : Read). IfOk c.read_prefixed.result (λ o. IfNone o (z ≡ None))) (sym nested) c.read_prefixed.ensures.none;
      whole = c.read_prefixed.ensures.whole ∙ c.read_prefix.ensures.whole;
      further = omega (arith, c.read_prefixed.ensures.further, c.read_prefix.ensures.further);
    }
