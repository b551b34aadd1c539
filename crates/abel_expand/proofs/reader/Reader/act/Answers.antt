-- What each front makes of the parts of a reader, and which refusal it is.
use Rattle.std.proofs.Common.{◌≡◌, ◌-◌, ◌+◌, ◌<◌, ◌++◌, ◌∙◌, ap, sym, subst, ℕ, List, [], None, false, length, take, drop, refl, arith}
use Rattle.abel_expand.proofs.Common.{Kept, tables_of, move, BadDirective, Unsupported, TooLong, ExpansionLimit, changed, IsFront, DefinesNone, Reading, bytes_given, bytes_waiting, after, IsRefusal, goes_on, lesser, IsOwnEnd, Stands, left_to_do}
use Rattle.abel_expand.specs.declared.fault.ExpandFault.TheVariants as fault
use Rattle.text_rewriting.specs.declared.front.Front.{Front}
use Rattle.text_rewriting.specs.Gathering.{Gathering}
use Rattle.abel_expand.proofs.Ending.{own_done, own_rewritten, call_done, next_is, call_rewritten}
use Rattle.abel_expand.proofs.Turning.{rest_is, move_is, copy_turn, said_turn, rewriting_turn, limit_refused, too_long, refused_as, is_refused, room}
use Rattle.abel_expand.proofs.reader.Reader.act.Goals as goal

pub look-requires-clause-room : goal.look-requires-clause-room
look-requires-clause-room c =
    let i = c.self.inside in
    let r : i.refused ≡ None = ap (λ (x : Reading). x.refused) c.self.view_is ∙ c.requires.going in
    let none : drop i.given (after i.turns i.text.now).done ≡ [] = ap bytes_waiting c.self.view_is ∙ c.requires.given in
    let s = c.self.invariant.1 r in
    omega (arith, room i.text.now i.turns i.given i.done i.rewritings i.tables (drop i.at i.said.items) i.copied i.rest i.place s none)

pub look-requires-clause-undefined : goal.look-requires-clause-undefined
look-requires-clause-undefined c =
    let i = c.self.inside in
    let r : i.refused ≡ None = ap (λ (x : Reading). x.refused) c.self.view_is ∙ c.requires.going in
    let none : drop i.given (after i.turns i.text.now).done ≡ [] = ap bytes_waiting c.self.view_is ∙ c.requires.given in
    let s = c.self.invariant.1 r in
    let known = subst (λ (v : Reading). c.args.may_define ≡ false → DefinesNone (after v.turns v.text).rest) (sym c.self.view_is) c.requires.undefined in
    λ e. subst DefinesNone (rest_is i.text.now i.turns i.given i.done i.rewritings i.tables (drop i.at i.said.items) i.copied i.rest i.place s none) (known e)

pub overflow_add-self : goal.overflow_add-self
overflow_add-self c =
    let i = c.self.inside in
    let r : i.refused ≡ None = ap (λ (x : Reading). x.refused) c.self.view_is ∙ c.requires.going in
    let none : drop i.given (after i.turns i.text.now).done ≡ [] = ap bytes_waiting c.self.view_is ∙ c.requires.given in
    let s = c.self.invariant.1 r in
    let f = subst (λ (x : Front). IsFront (tables_of i.tables) i.rest (1048576 - i.done) (move (tables_of i.tables) i.rest) x) c.in-Copy.is c.in_ok-count.ensures in
    omega (arith, f.2, room i.text.now i.turns i.given i.done i.rewritings i.tables (drop i.at i.said.items) i.copied i.rest i.place s none)

pub invariant_of-self : goal.invariant_of-self
invariant_of-self c =
    let i = c.self.inside in
    let r : i.refused ≡ None = ap (λ (x : Reading). x.refused) c.self.view_is ∙ c.requires.going in
    let none : drop i.given (after i.turns i.text.now).done ≡ [] = ap bytes_waiting c.self.view_is ∙ c.requires.given in
    let s = c.self.invariant.1 r in
    let f = subst (λ (x : Front). IsFront (tables_of i.tables) i.rest (1048576 - i.done) (move (tables_of i.tables) i.rest) x) c.in-Copy.is c.in_ok-count.ensures in
    (c.self.invariant.0, λ _. (copy_turn i.text.now i.turns i.given i.done i.rewritings i.tables (drop i.at i.said.items) i.copied i.rest i.place s none (1048576 - i.done) c.in-Copy.count f).0, λ n. own_done i.text.now i.turns i.own i.rest (c.self.invariant.2 r) (tables_of i.tables) (take c.in-Copy.count i.rest) (drop c.in-Copy.count i.rest) 0 i.rest (move_is i.text.now i.turns i.given i.done i.rewritings i.tables (drop i.at i.said.items) i.copied i.rest i.place s none ∙ f.0) refl (omega arith), c.self.invariant.3, c.self.invariant.4, c.self.invariant.5, c.self.invariant.6, λ n. call_done i.text.now i.turns i.call (tables_of i.tables) (take c.in-Copy.count i.rest) (drop c.in-Copy.count i.rest) (c.self.invariant.7 r) (move_is i.text.now i.turns i.given i.done i.rewritings i.tables (drop i.at i.said.items) i.copied i.rest i.place s none ∙ f.0))

pub invariant_of-self-in-Said : goal.invariant_of-self-in-Said
invariant_of-self-in-Said c =
    let i = c.self.inside in
    let r : i.refused ≡ None = ap (λ (x : Reading). x.refused) c.self.view_is ∙ c.requires.going in
    let none : drop i.given (after i.turns i.text.now).done ≡ [] = ap bytes_waiting c.self.view_is ∙ c.requires.given in
    let s = c.self.invariant.1 r in
    let f = subst (λ (x : Front). IsFront (tables_of i.tables) i.rest (1048576 - i.done) (move (tables_of i.tables) i.rest) x) c.in-Said.is c.in_ok-count.ensures in
    (omega arith, λ _. subst (λ (n : ℕ). Stands i.text.now (i.turns + 1) i.given (i.done + n) i.rewritings c.change_tables.new.tables c.in-Said.bytes.items 0 c.skip.new.self i.place) (omega (arith, c.len.ensures)) (said_turn i.text.now i.turns i.given i.done i.rewritings i.tables (drop i.at i.said.items) i.copied i.rest i.place s none c.change_tables.new.tables (1048576 - i.done) c.in-Said.change c.in-Said.bytes c.in-Said.end c.skip.new.self f c.in_ok-change_tables-in-Said.ensures c.skip.ensures).0, λ n. own_done i.text.now i.turns i.own i.rest (c.self.invariant.2 r) (changed c.in-Said.change (tables_of i.tables)) c.in-Said.bytes.items (drop c.in-Said.end i.rest) c.in-Said.end c.skip.new.self (move_is i.text.now i.turns i.given i.done i.rewritings i.tables (drop i.at i.said.items) i.copied i.rest i.place s none ∙ f.0) c.skip.ensures f.2, c.self.invariant.3, c.self.invariant.4, c.copied_at-here.ensures.within, c.self.invariant.6, λ n. call_done i.text.now i.turns i.call (changed c.in-Said.change (tables_of i.tables)) c.in-Said.bytes.items (drop c.in-Said.end i.rest) (c.self.invariant.7 r) (move_is i.text.now i.turns i.given i.done i.rewritings i.tables (drop i.at i.said.items) i.copied i.rest i.place s none ∙ f.0))

pub returns-then-self-eq65536-clause-refused : goal.returns-then-self-eq65536-clause-refused
returns-then-self-eq65536-clause-refused c =
    let i = c.self.inside in
    let r : i.refused ≡ None = ap (λ (x : Reading). x.refused) c.self.view_is ∙ c.requires.going in
    let none : drop i.given (after i.turns i.text.now).done ≡ [] = ap bytes_waiting c.self.view_is ∙ c.requires.given in
    let s = c.self.invariant.1 r in
    let f = subst (λ (x : Front). IsFront (tables_of i.tables) i.rest (1048576 - i.done) (move (tables_of i.tables) i.rest) x) c.in-Rewritten.is c.in_ok-count.ensures in
    let some = subst (λ (v : Reading). (after v.turns v.text).rest ≡ [] → ⊥) (sym c.self.view_is) c.requires.some in
    subst (λ (v : Reading). IsRefusal v.text (bytes_given v) (fault.ExpansionLimit i.place)) c.self.view_is (s.placed, is_refused i.text.now i.turns i.given i.done i.rewritings i.tables (drop i.at i.said.items) i.copied i.rest i.place s none ExpansionLimit (limit_refused i.text.now i.turns i.given i.done i.rewritings i.tables (drop i.at i.said.items) i.copied i.rest i.place s none c.in-Rewritten.result.text (drop c.in-Rewritten.end i.rest) f.0 (omega (arith, c.if-self-eq65536.true))) some)

pub keep-requires : goal.keep-requires
keep-requires c =
    let i = c.self.inside in
    let f = subst (λ (x : Front). IsFront (tables_of i.tables) i.rest (1048576 - i.done) (move (tables_of i.tables) i.rest) x) c.in-Rewritten.is c.in_ok-count.ensures in
    f.3

pub invariant_of-self-in-Rewritten : goal.invariant_of-self-in-Rewritten
invariant_of-self-in-Rewritten c =
    let i = c.self.inside in
    let r : i.refused ≡ None = ap (λ (x : Reading). x.refused) c.self.view_is ∙ c.requires.going in
    let none : drop i.given (after i.turns i.text.now).done ≡ [] = ap bytes_waiting c.self.view_is ∙ c.requires.given in
    let s = c.self.invariant.1 r in
    let f = subst (λ (x : Front). IsFront (tables_of i.tables) i.rest (1048576 - i.done) (move (tables_of i.tables) i.rest) x) c.in-Rewritten.is c.in_ok-count.ensures in
    let whole : c.put_all.new.self ≡ c.in-Rewritten.result.text ++ drop c.in-Rewritten.end i.rest =
    c.in_ok-put_all-in-Rewritten.ensures.ok ∙ ap (λ (w : List ℕ). w ++ c.skip-in-Rewritten.new.self) (c.pieces.ensures.text ∙ ap (λ (g : Gathering). g.text) c.in_ok-keep-in-Rewritten.ensures.text) ∙ ap (λ (w : List ℕ). c.in-Rewritten.result.text ++ w) c.skip-in-Rewritten.ensures in
    let own : c.own_behind-self-inside.result ≡ lesser i.own (length (drop c.in-Rewritten.end i.rest)) = c.own_behind-self-inside.ensures ∙ ap (lesser i.own) (c.len-in-Rewritten.ensures.value ∙ ap length (c.rest-in-Rewritten.ensures ∙ c.skip-in-Rewritten.ensures)) in (
      c.self.invariant.0,
      λ _. subst (λ (k : Kept). Stands i.text.now (i.turns + 1) i.given i.done (i.rewritings + 1) k (drop i.at i.said.items) 0 c.put_all.new.self i.place) (sym c.in_ok-keep-in-Rewritten.ensures.tables)
          (rewriting_turn i.text.now i.turns i.given i.done i.rewritings i.tables (drop i.at i.said.items) i.copied i.rest i.place s none c.in-Rewritten.result.text (drop c.in-Rewritten.end i.rest) f.0 c.put_all.new.self (λ e. omega (arith, e, c.if-self-eq65536.false)) (omega (arith, f.1, room i.text.now i.turns i.given i.done i.rewritings i.tables (drop i.at i.said.items) i.copied i.rest i.place s none)) whole).0,
      λ n. subst (λ (m : ℕ). IsOwnEnd i.text.now (i.turns + 1) m c.put_all.new.self) (sym own)
          (own_rewritten i.text.now i.turns i.own i.rest (c.self.invariant.2 r) c.in-Rewritten.result.text (drop c.in-Rewritten.end i.rest) c.in-Rewritten.end c.put_all.new.self (move_is i.text.now i.turns i.given i.done i.rewritings i.tables (drop i.at i.said.items) i.copied i.rest i.place s none ∙ f.0) refl f.2 whole),
      omega (arith, own, c.self.invariant.3),
      c.copied_at-here.ensures.within,
      c.self.invariant.5,
      c.self.invariant.6,
      λ n. call_rewritten i.text.now i.turns c.in-Rewritten.result.text (drop c.in-Rewritten.end i.rest) (move_is i.text.now i.turns i.given i.done i.rewritings i.tables (drop i.at i.said.items) i.copied i.rest i.place s none ∙ f.0)
          ∙ next_is i.text.now i.turns i.own i.call i.rest (c.self.invariant.2 r).counted (c.self.invariant.7 r) (rest_is i.text.now i.turns i.given i.done i.rewritings i.tables (drop i.at i.said.items) i.copied i.rest i.place s none)
          ∙ ap (λ (n : ℕ). goes_on (length i.text.now) i.own n i.call) (sym (c.len-left.ensures.value ∙ ap length c.rest.ensures)) ∙ sym c.copied_at-here.ensures.place,
    )

pub returns-then-self-eq65536-2-clause-refused : goal.returns-then-self-eq65536-2-clause-refused
returns-then-self-eq65536-2-clause-refused c =
    let i = c.self.inside in
    let r : i.refused ≡ None = ap (λ (x : Reading). x.refused) c.self.view_is ∙ c.requires.going in
    let none : drop i.given (after i.turns i.text.now).done ≡ [] = ap bytes_waiting c.self.view_is ∙ c.requires.given in
    let s = c.self.invariant.1 r in
    let f = subst (λ (x : Front). IsFront (tables_of i.tables) i.rest (1048576 - i.done) (move (tables_of i.tables) i.rest) x) c.in-TooLong.is c.in_ok-count.ensures in
    let some = subst (λ (v : Reading). (after v.turns v.text).rest ≡ [] → ⊥) (sym c.self.view_is) c.requires.some in
    subst (λ (v : Reading). IsRefusal v.text (bytes_given v) (fault.ExpansionLimit i.place)) c.self.view_is (s.placed, is_refused i.text.now i.turns i.given i.done i.rewritings i.tables (drop i.at i.said.items) i.copied i.rest i.place s none ExpansionLimit (limit_refused i.text.now i.turns i.given i.done i.rewritings i.tables (drop i.at i.said.items) i.copied i.rest i.place s none f.0 f.1 f.2 (omega (arith, c.if-self-eq65536-2.true))) some)

pub returns-in-TooLong-clause-refused : goal.returns-in-TooLong-clause-refused
returns-in-TooLong-clause-refused c =
    let i = c.self.inside in
    let r : i.refused ≡ None = ap (λ (x : Reading). x.refused) c.self.view_is ∙ c.requires.going in
    let none : drop i.given (after i.turns i.text.now).done ≡ [] = ap bytes_waiting c.self.view_is ∙ c.requires.given in
    let s = c.self.invariant.1 r in
    let f = subst (λ (x : Front). IsFront (tables_of i.tables) i.rest (1048576 - i.done) (move (tables_of i.tables) i.rest) x) c.in-TooLong.is c.in_ok-count.ensures in
    let some = subst (λ (v : Reading). (after v.turns v.text).rest ≡ [] → ⊥) (sym c.self.view_is) c.requires.some in
    subst (λ (v : Reading). IsRefusal v.text (bytes_given v) (fault.TooLong i.place)) c.self.view_is (s.placed, is_refused i.text.now i.turns i.given i.done i.rewritings i.tables (drop i.at i.said.items) i.copied i.rest i.place s none TooLong (too_long i.text.now i.turns i.given i.done i.rewritings i.tables (drop i.at i.said.items) i.copied i.rest i.place s none f.0 f.1 f.2 (λ e. omega (arith, e, c.if-self-eq65536-2.false)) (omega (arith, f.3, room i.text.now i.turns i.given i.done i.rewritings i.tables (drop i.at i.said.items) i.copied i.rest i.place s none))) some)

pub returns-in-BadDirective-clause-refused : goal.returns-in-BadDirective-clause-refused
returns-in-BadDirective-clause-refused c =
    let i = c.self.inside in
    let r : i.refused ≡ None = ap (λ (x : Reading). x.refused) c.self.view_is ∙ c.requires.going in
    let none : drop i.given (after i.turns i.text.now).done ≡ [] = ap bytes_waiting c.self.view_is ∙ c.requires.given in
    let s = c.self.invariant.1 r in
    let f = subst (λ (x : Front). IsFront (tables_of i.tables) i.rest (1048576 - i.done) (move (tables_of i.tables) i.rest) x) c.in-BadDirective.is c.in_ok-count.ensures in
    let some = subst (λ (v : Reading). (after v.turns v.text).rest ≡ [] → ⊥) (sym c.self.view_is) c.requires.some in
    subst (λ (v : Reading). IsRefusal v.text (bytes_given v) (fault.BadDirective i.place)) c.self.view_is (s.placed, is_refused i.text.now i.turns i.given i.done i.rewritings i.tables (drop i.at i.said.items) i.copied i.rest i.place s none BadDirective (refused_as i.text.now i.turns i.given i.done i.rewritings i.tables (drop i.at i.said.items) i.copied i.rest i.place s none BadDirective f) some)

pub returns-in-Unsupported-clause-refused : goal.returns-in-Unsupported-clause-refused
returns-in-Unsupported-clause-refused c =
    let i = c.self.inside in
    let r : i.refused ≡ None = ap (λ (x : Reading). x.refused) c.self.view_is ∙ c.requires.going in
    let none : drop i.given (after i.turns i.text.now).done ≡ [] = ap bytes_waiting c.self.view_is ∙ c.requires.given in
    let s = c.self.invariant.1 r in
    let f = subst (λ (x : Front). IsFront (tables_of i.tables) i.rest (1048576 - i.done) (move (tables_of i.tables) i.rest) x) c.in-Unsupported.is c.in_ok-count.ensures in
    let some = subst (λ (v : Reading). (after v.turns v.text).rest ≡ [] → ⊥) (sym c.self.view_is) c.requires.some in
    subst (λ (v : Reading). IsRefusal v.text (bytes_given v) (fault.Unsupported i.place)) c.self.view_is (s.placed, is_refused i.text.now i.turns i.given i.done i.rewritings i.tables (drop i.at i.said.items) i.copied i.rest i.place s none Unsupported (refused_as i.text.now i.turns i.given i.done i.rewritings i.tables (drop i.at i.said.items) i.copied i.rest i.place s none Unsupported f) some)

pub returns-in-Copy-clause-falls : goal.returns-in-Copy-clause-falls
returns-in-Copy-clause-falls c =
    let i = c.self.inside in
    let r : i.refused ≡ None = ap (λ (x : Reading). x.refused) c.self.view_is ∙ c.requires.going in
    let none : drop i.given (after i.turns i.text.now).done ≡ [] = ap bytes_waiting c.self.view_is ∙ c.requires.given in
    let s = c.self.invariant.1 r in
    let f = subst (λ (x : Front). IsFront (tables_of i.tables) i.rest (1048576 - i.done) (move (tables_of i.tables) i.rest) x) c.in-Copy.is c.in_ok-count.ensures in
    subst (λ (v : Reading). left_to_do (after (i.turns + 1) i.text.now) < left_to_do (after v.turns v.text)) c.self.view_is (copy_turn i.text.now i.turns i.given i.done i.rewritings i.tables (drop i.at i.said.items) i.copied i.rest i.place s none (1048576 - i.done) c.in-Copy.count f).1

pub returns-in_ok-change_tables-in-Said-clause-falls : goal.returns-in_ok-change_tables-in-Said-clause-falls
returns-in_ok-change_tables-in-Said-clause-falls c =
    let i = c.self.inside in
    let r : i.refused ≡ None = ap (λ (x : Reading). x.refused) c.self.view_is ∙ c.requires.going in
    let none : drop i.given (after i.turns i.text.now).done ≡ [] = ap bytes_waiting c.self.view_is ∙ c.requires.given in
    let s = c.self.invariant.1 r in
    let f = subst (λ (x : Front). IsFront (tables_of i.tables) i.rest (1048576 - i.done) (move (tables_of i.tables) i.rest) x) c.in-Said.is c.in_ok-count.ensures in
    subst (λ (v : Reading). left_to_do (after (i.turns + 1) i.text.now) < left_to_do (after v.turns v.text)) c.self.view_is (said_turn i.text.now i.turns i.given i.done i.rewritings i.tables (drop i.at i.said.items) i.copied i.rest i.place s none c.change_tables.new.tables (1048576 - i.done) c.in-Said.change c.in-Said.bytes c.in-Said.end c.skip.new.self f c.in_ok-change_tables-in-Said.ensures c.skip.ensures).1

pub returns-in_ok-put_all-in-Rewritten-clause-falls : goal.returns-in_ok-put_all-in-Rewritten-clause-falls
returns-in_ok-put_all-in-Rewritten-clause-falls c =
    let i = c.self.inside in
    let r : i.refused ≡ None = ap (λ (x : Reading). x.refused) c.self.view_is ∙ c.requires.going in
    let none : drop i.given (after i.turns i.text.now).done ≡ [] = ap bytes_waiting c.self.view_is ∙ c.requires.given in
    let s = c.self.invariant.1 r in
    let f = subst (λ (x : Front). IsFront (tables_of i.tables) i.rest (1048576 - i.done) (move (tables_of i.tables) i.rest) x) c.in-Rewritten.is c.in_ok-count.ensures in
    subst (λ (v : Reading). left_to_do (after (i.turns + 1) i.text.now) < left_to_do (after v.turns v.text)) c.self.view_is (rewriting_turn i.text.now i.turns i.given i.done i.rewritings i.tables (drop i.at i.said.items) i.copied i.rest i.place s none c.in-Rewritten.result.text (drop c.in-Rewritten.end i.rest) f.0 c.put_all.new.self (λ e. omega (arith, e, c.if-self-eq65536.false)) (omega (arith, f.1, room i.text.now i.turns i.given i.done i.rewritings i.tables (drop i.at i.said.items) i.copied i.rest i.place s none)) (c.in_ok-put_all-in-Rewritten.ensures.ok ∙ ap (λ (w : List ℕ). w ++ c.skip-in-Rewritten.new.self) (c.pieces.ensures.text ∙ ap (λ (g : Gathering). g.text) c.in_ok-keep-in-Rewritten.ensures.text) ∙ ap (λ (w : List ℕ). c.in-Rewritten.result.text ++ w) c.skip-in-Rewritten.ensures)).1
