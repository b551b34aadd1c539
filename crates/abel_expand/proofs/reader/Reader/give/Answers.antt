-- One byte more is given: a byte that waits, or one of the rest.
use Rattle.std.proofs.Common.{◌≡◌, ◌-◌, ◌+◌, ◌++◌, ◌∙◌, ap, sym, refl, ℕ, List, ◌∷◌, None, length, take, drop, arith, length-drop}
use Rattle.abel_expand.proofs.Common.{Reading, bytes_waiting}
use Rattle.abel_expand.proofs.Giving.{stands_given, said_next, said_out, copied_next, behind_copied}
use Rattle.abel_expand.proofs.Ending.{own_next, to_come_is, length_to_come, said_there, copied_there}
use Rattle.abel_expand.proofs.reader.Reader.give.Goals as goal

pub invariant_of-self : goal.invariant_of-self
invariant_of-self c =
    let i = c.self.inside in
    let p = c.place_past-self-inside.ensures in (
      omega arith,
      λ r. (stands_given i.text.now i.turns i.given i.done i.rewritings i.tables (drop i.at i.said.items) i.copied i.rest i.place (c.self.invariant.1 r) c.index-byte.result.now (drop (i.at + 1) i.said.items ++ take i.copied i.rest) (drop (i.at + 1) i.said.items) i.copied i.rest
          c.place_past-self-inside.result
          (said_next i.said.items (take i.copied i.rest) i.at c.index-byte.result.now (omega arith) ∙ ap (λ (n : ℕ). n ∷ (drop (i.at + 1) i.said.items ++ take i.copied i.rest)) (sym c.index-byte.ensures))
          refl refl p.value (omega (arith, p.line)) (omega (arith, p.column)) (omega (arith, p.first))).1,
      c.self.invariant.2,
      c.self.invariant.3,
      c.self.invariant.4,
      c.self.invariant.5,
      omega (arith, c.said_at-self-inside.ensures.form, c.self.invariant.5),
      c.self.invariant.7,
    )

pub returns-then-self-len-clause-some : goal.returns-then-self-len-clause-some
returns-then-self-len-clause-some c =
    let i = c.self.inside in
    let p = c.place_past-self-inside.ensures in
    let r : i.refused ≡ None = ap (λ (x : Reading). x.refused) c.self.view_is ∙ c.requires in
    ap bytes_waiting (sym c.self.view_is) ∙ (stands_given i.text.now i.turns i.given i.done i.rewritings i.tables (drop i.at i.said.items) i.copied i.rest i.place (c.self.invariant.1 r) c.index-byte.result.now (drop (i.at + 1) i.said.items ++ take i.copied i.rest) (drop (i.at + 1) i.said.items) i.copied i.rest
    c.place_past-self-inside.result
    (said_next i.said.items (take i.copied i.rest) i.at c.index-byte.result.now (omega arith) ∙ ap (λ (n : ℕ). n ∷ (drop (i.at + 1) i.said.items ++ take i.copied i.rest)) (sym c.index-byte.ensures))
    refl refl p.value (omega (arith, p.line)) (omega (arith, p.column)) (omega (arith, p.first))).0

pub invariant_of-self-in-Some : goal.invariant_of-self-in-Some
invariant_of-self-in-Some c =
    let i = c.self.inside in
    let p = c.place_past-self-inside-in-Some.ensures in
    let more : List ℕ = c.take_byte.new.self in (
      omega arith,
      λ r. (stands_given i.text.now i.turns i.given i.done i.rewritings i.tables (drop i.at i.said.items) i.copied i.rest i.place (c.self.invariant.1 r) c.in-Some.byte (drop i.at i.said.items ++ take (i.copied - 1) more) (drop i.at i.said.items) (i.copied - 1) more
          c.place_past-self-inside-in-Some.result (copied_next i.said.items i.at i.copied c.in-Some.byte i.rest more (omega arith) (omega arith) c.in-Some.ensures.some) refl
          (behind_copied i.copied c.in-Some.byte i.rest more (omega arith) c.in-Some.ensures.some) p.value (omega (arith, p.line)) (omega (arith, p.column)) (omega (arith, p.first))).1,
      λ r. own_next i.text.now i.turns i.own i.rest (c.self.invariant.2 r) c.in-Some.byte more c.in-Some.ensures.some,
      c.self.invariant.3,
      c.self.invariant.4,
      c.self.invariant.5,
      c.copied_at-self-inside.ensures.within,
      c.self.invariant.7,
    )

pub returns-in-Some-clause-some : goal.returns-in-Some-clause-some
returns-in-Some-clause-some c =
    let i = c.self.inside in
    let p = c.place_past-self-inside-in-Some.ensures in
    let more : List ℕ = c.take_byte.new.self in
    let r : i.refused ≡ None = ap (λ (x : Reading). x.refused) c.self.view_is ∙ c.requires in
    ap bytes_waiting (sym c.self.view_is) ∙ (stands_given i.text.now i.turns i.given i.done i.rewritings i.tables (drop i.at i.said.items) i.copied i.rest i.place (c.self.invariant.1 r) c.in-Some.byte (drop i.at i.said.items ++ take (i.copied - 1) more) (drop i.at i.said.items) (i.copied - 1) more
    c.place_past-self-inside-in-Some.result (copied_next i.said.items i.at i.copied c.in-Some.byte i.rest more (omega arith) (omega arith) c.in-Some.ensures.some) refl
    (behind_copied i.copied c.in-Some.byte i.rest more (omega arith) c.in-Some.ensures.some) p.value (omega (arith, p.line)) (omega (arith, p.column)) (omega (arith, p.first))).0

pub returns-then-self-len-clause-there : goal.returns-then-self-len-clause-there
returns-then-self-len-clause-there c =
    let i = c.self.inside in
    let p = c.place_past-self-inside.ensures in
    let q = c.said_at-self-inside.ensures in
    let r : i.refused ≡ None = ap (λ (x : Reading). x.refused) c.self.view_is ∙ c.requires in
    let s = (stands_given i.text.now i.turns i.given i.done i.rewritings i.tables (drop i.at i.said.items) i.copied i.rest i.place (c.self.invariant.1 r) c.index-byte.result.now (drop (i.at + 1) i.said.items ++ take i.copied i.rest) (drop (i.at + 1) i.said.items) i.copied i.rest
    c.place_past-self-inside.result
    (said_next i.said.items (take i.copied i.rest) i.at c.index-byte.result.now (omega arith) ∙ ap (λ (n : ℕ). n ∷ (drop (i.at + 1) i.said.items ++ take i.copied i.rest)) (sym c.index-byte.ensures))
    refl refl p.value (omega (arith, p.line)) (omega (arith, p.column)) (omega (arith, p.first))).1 in
    let l = length_to_come i.text.now i.turns (i.given + 1) i.done i.rewritings i.tables (drop (i.at + 1) i.said.items) i.copied i.rest c.place_past-self-inside.result s in
    said_there (record { text = i.text.now; turns = i.turns; given = i.given + 1; refused = i.refused; standing = c.said_at-self-inside.result })
    c.index-byte.result.now i.own (c.len-then-self-len.result - i.at + c.len-then-self-len-2.result) (c.self.invariant.2 r).counted (omega (arith, l, length-drop (i.at + 1) i.said.items, c.len-then-self-len.ensures, c.len-then-self-len-2.ensures.value, ap length c.rest.ensures)) q.source q.call q.before

pub returns-in-Some-clause-there : goal.returns-in-Some-clause-there
returns-in-Some-clause-there c =
    let i = c.self.inside in
    let p = c.place_past-self-inside-in-Some.ensures in
    let q = c.copied_at-self-inside.ensures in
    let more : List ℕ = c.take_byte.new.self in
    let r : i.refused ≡ None = ap (λ (x : Reading). x.refused) c.self.view_is ∙ c.requires in
    let s = (stands_given i.text.now i.turns i.given i.done i.rewritings i.tables (drop i.at i.said.items) i.copied i.rest i.place (c.self.invariant.1 r) c.in-Some.byte (drop i.at i.said.items ++ take (i.copied - 1) more) (drop i.at i.said.items) (i.copied - 1) more
    c.place_past-self-inside-in-Some.result (copied_next i.said.items i.at i.copied c.in-Some.byte i.rest more (omega arith) (omega arith) c.in-Some.ensures.some) refl
    (behind_copied i.copied c.in-Some.byte i.rest more (omega arith) c.in-Some.ensures.some) p.value (omega (arith, p.line)) (omega (arith, p.column)) (omega (arith, p.first))).1 in
    let f = to_come_is i.text.now i.turns (i.given + 1) i.done i.rewritings i.tables (drop i.at i.said.items) (i.copied - 1) more c.place_past-self-inside-in-Some.result s in
    copied_there (record { text = i.text.now; turns = i.turns; given = i.given + 1; refused = i.refused; standing = c.copied_at-self-inside.result })
    c.in-Some.byte i.own c.len-left.result i.rest more (c.len-left.ensures.value ∙ ap length c.rest-2.ensures) (c.self.invariant.2 r) c.in-Some.ensures.some (f ∙ ap (λ (w : List ℕ). w ++ more) (said_out i.said.items i.at (omega arith))) q.source q.call q.before
