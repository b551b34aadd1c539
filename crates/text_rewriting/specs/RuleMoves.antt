-- The moves that the rules ask for, as the code gives them.
use Rattle.std.specs.Prelude.{◌≡◌, ℕ, ◌<◌, ◌≤◌, ◌^◌, List, [], ◌++◌, length, take, drop, replicate, codes, Some, None}
use Rattle.text_rewriting.specs.Prelude.{concat, Look, ahead, joined, Kept, tables_of, before, word, replaced, standing_for, names, texts, digits_in, Tables, Move, Done, Rewritten, Refused, BadDirective, Unsupported, with_name, line_feeds, shown_in, each_replaced, named, token_len, directed}
use Rattle.abel_macros.specs.declared.directive.Directive.{Directive}
use Rattle.text_pieces.specs.declared.mode.Mode.TheVariants as mode
use Rattle.text_rewriting.specs.declared.rules.Rewriting.{Rewriting}
use Rattle.text_rewriting.specs.declared.rules.Rewriting.TheVariants as rewriting
use Rattle.text_rewriting.specs.declared.rules.Rule.{Rule}
use Rattle.text_rewriting.specs.declared.rules.Rule.TheVariants as rule

-- the digits of a value in a radix
unfoldable pub digits : ℕ → ℕ → List ℕ
digits radix value = digits_in 32 radix value

-- the result of a rewriting
abbrev pub rewriting_text : Rewriting → List ℕ
rewriting_text rewriting.Nothing = []
rewriting_text (rewriting.Block w) = joined w.items
rewriting_text (rewriting.Repeated n w) = concat (replicate n (joined w.items))
rewriting_text (rewriting.Each e) = each_replaced e.parameter.items (texts e.arguments.items) (joined e.block.items)
rewriting_text (rewriting.Valued w v r) = joined w.items ++ digits r v
rewriting_text (rewriting.Plain w) = joined w.now
rewriting_text (rewriting.Called c) = replaced (standing_for (names c.parameters.now) (texts c.arguments.items)) 0 (joined c.block.now)

-- its numbers are within bounds
abbrev pub IsRewriting : Rewriting → Type 0
IsRewriting rewriting.Nothing = Unit {0}
IsRewriting (rewriting.Block w) = Unit {0}
IsRewriting (rewriting.Repeated n w) = Unit {0}
IsRewriting (rewriting.Each e) = length (joined e.block.items) < 2 ^ 63
IsRewriting (rewriting.Valued w v r) = (2 ≤ r) × (r ≤ 16)
IsRewriting (rewriting.Plain w) = Unit {0}
IsRewriting (rewriting.Called c) = (length (joined c.block.now) < 2 ^ 63) × (length c.block.now < 2 ^ 58)

-- a call is one of a macro of these tables
abbrev pub IsCallOf : Tables → Rewriting → Type 0
IsCallOf t rewriting.Nothing = Unit {0}
IsCallOf t (rewriting.Block w) = Unit {0}
IsCallOf t (rewriting.Repeated n w) = Unit {0}
IsCallOf t (rewriting.Each e) = Unit {0}
IsCallOf t (rewriting.Valued w v r) = Unit {0}
IsCallOf t (rewriting.Plain w) = Unit {0}
IsCallOf t (rewriting.Called c) = t.macros c.name.items ≡ Some (record { parameters = Some (names c.parameters.now); block = joined c.block.now })

-- the move of a text by a rule, which leaves what follows
abbrev pub rule_move : Tables → List ℕ → List ℕ → Rule → Move
rule_move t text behind rule.Comment = Done t (codes " ") behind
rule_move t text behind rule.Copy = Done t (before text behind) behind
rule_move t text behind (rule.Define n m) = Done (record t { macros = with_name n.items m t.macros }) (line_feeds (before text behind)) behind
rule_move t text behind (rule.Keep n v) = Done (record t { values = with_name n.items v t.values }) (line_feeds (before text behind)) behind
rule_move t text behind (rule.Radix r) = Done (record t { radix = r }) (shown_in mode.Plain (before text behind)) behind
rule_move t text behind (rule.Rewrite w) = Rewritten (rewriting_text w) behind
rule_move t text behind rule.BadDirective = Refused BadDirective
rule_move t text behind rule.Unsupported = Refused Unsupported

-- the numbers of a rule are within bounds
abbrev pub IsRule : Rule → Type 0
IsRule rule.Comment = Unit {0}
IsRule rule.Copy = Unit {0}
IsRule (rule.Define n m) = Unit {0}
IsRule (rule.Keep n v) = Unit {0}
IsRule (rule.Radix r) = (2 ≤ r) × (r ≤ 16)
IsRule (rule.Rewrite w) = IsRewriting w
IsRule rule.BadDirective = Unit {0}
IsRule rule.Unsupported = Unit {0}

-- a call by a rule is one of a macro of these tables
abbrev pub IsRuleOf : Tables → Rule → Type 0
IsRuleOf t rule.Comment = Unit {0}
IsRuleOf t rule.Copy = Unit {0}
IsRuleOf t (rule.Define n m) = Unit {0}
IsRuleOf t (rule.Keep n v) = Unit {0}
IsRuleOf t (rule.Radix r) = Unit {0}
IsRuleOf t (rule.Rewrite w) = IsCallOf t w
IsRuleOf t rule.BadDirective = Unit {0}
IsRuleOf t rule.Unsupported = Unit {0}

-- a rule that fits these tables
abbrev pub Fits : Kept → Rule → Type 0
Fits k r = IsRule r × IsRuleOf (tables_of k) r

-- the move of a text that begins with a word or another token
abbrev pub plain_move : Tables → List ℕ → Move
plain_move t text = elim (word text) [ Some behind ↦ named t text behind | None ↦ Done t (take (token_len text) text) (drop (token_len text) text) ]

-- a directive, whose word was passed, asks for this rule, which leaves what is ahead then
abbrev pub IsDirected : Directive → Kept → Look → Look → Rule → Type 0
IsDirected d k old new r = directed d (tables_of k) old.whole (ahead old) ≡ rule_move (tables_of k) old.whole (ahead new) r

-- so does a name that was passed
abbrev pub IsNamed : Kept → Look → Look → Rule → Type 0
IsNamed k old new r = named (tables_of k) old.whole (ahead old) ≡ rule_move (tables_of k) old.whole (ahead new) r
