-- What is found at the front is what is there.
use Rattle.std.proofs.Common.{rules, ◌≡◌, ◌⊎◌, Some, refl}
use Rattle.abel_lexer.proofs.Common.{ScanFault, OutOfMemory, fault_of, IsFaultAt}
use Rattle.abel_lexer.proofs.Found.{nothing_found, fault_found, token_sound, not_zero}
use Rattle.abel_lexer.proofs.scanning.token_at.Goals as goal

pub returns-then-count-eq0-clause-fault : goal.returns-then-count-eq0-clause-fault
returns-then-count-eq0-clause-fault c = nothing_found c.args.place c.args.radix c.args.front.now c.longest_at-kind.result c.longest_at-kind.ensures.value c.if-count-eq0.true c.requires.some c.requires.plain

pub returns-in_err-value-clause-fault : goal.returns-in_err-value-clause-fault
returns-in_err-value-clause-fault c =
    let found : (f : ScanFault) → fault_of c.args.radix c.longest_at-kind.result.0 c.split_at.result.0.now c.args.place ≡ Some f → (f ≡ OutOfMemory) ⊎ IsFaultAt c.args.place c.args.radix c.args.front.now f = λ f wrong.
    fault_found c.args.place c.args.radix c.args.front.now c.split_at.result.0.now c.split_at.result.1.now c.longest_at-kind.result f c.longest_at-kind.ensures.value (not_zero _ c.if-count-eq0.false) c.split_at.ensures.front c.split_at.ensures.back wrong in
    search (rules, found)

pub returns-clause-token : goal.returns-clause-token
returns-clause-token c =
    token_sound c.args.place c.args.radix c.args.front.now c.split_at.result.0.now c.split_at.result.1.now c.longest_at-kind.result
    (record { kind = c.longest_at-kind.result.0; text = c.in_ok-text.text; place = c.args.place; value = c.in_ok-value.value })
    c.longest_at-kind.ensures.value (not_zero _ c.if-count-eq0.false) c.split_at.ensures.front c.split_at.ensures.back c.in_ok-value.ensures.sound refl c.in_ok-text.ensures refl c.in_ok-value.ensures.value
