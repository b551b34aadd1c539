-- What the front of the rest asks for, as the code gives it.
use Rattle.std.specs.Prelude.{◌≡◌, ℕ, ◌+◌, ◌<◌, ◌≤◌, List, length, take, drop, Option, IfSome}
use Rattle.text_rewriting.specs.Prelude.{Tables, Move, Done, Rewritten, Refused, BadDirective, Unsupported, with_name, IsResult, texts}
use Rattle.abel_macros.specs.declared.call.Call.{Call}
use Rattle.text_rewriting.specs.declared.front.Change.{Change}
use Rattle.text_rewriting.specs.declared.front.Change.TheVariants as change
use Rattle.text_rewriting.specs.declared.front.Front.{Front}
use Rattle.text_rewriting.specs.declared.front.Front.TheVariants as front

-- the tables after a change
abbrev pub changed : Change → Tables → Tables
changed change.Nothing t = t
changed (change.Define n m) t = record t { macros = with_name n.items m t.macros }
changed (change.Keep n v) t = record t { values = with_name n.items v t.values }
changed (change.Radix r) t = record t { radix = r }

-- a radix that is set is within bounds
abbrev pub IsChange : Change → Type 0
IsChange change.Nothing = Unit {0}
IsChange (change.Define n m) = Unit {0}
IsChange (change.Keep n v) = Unit {0}
IsChange (change.Radix r) = (2 ≤ r) × (r ≤ 16)

-- a call has this result by the macros of these tables
abbrev pub IsMade : Tables → List ℕ → Option Call → Type 0
IsMade t w o = IfSome o (λ c. IsResult t.macros c.name.items (texts c.arguments.items) w)

-- a move of a text is what the code reports, if the rest may have so many bytes
abbrev pub IsFront : Tables → List ℕ → ℕ → Move → Front → Type 0
IsFront t text most m (front.Copy n) = (m ≡ Done t (take n text) (drop n text)) × (0 < n) × (n ≤ length text)
IsFront t text most m (front.Said c bytes end) = (m ≡ Done (changed c t) bytes.items (drop end text)) × (0 < end) × (end ≤ length text) × (length bytes.items ≤ end) × IsChange c
IsFront t text most m (front.Rewritten result end call) = (m ≡ Rewritten result.text (drop end text)) × (length result.text + length (drop end text) ≤ most) × (end ≤ length text) × IsMade t result.text call
IsFront t text most m front.TooLong = (result : List ℕ) × (behind : List ℕ) × (m ≡ Rewritten result behind) × (most < length result + length behind)
IsFront t text most m front.BadDirective = m ≡ Refused BadDirective
IsFront t text most m front.Unsupported = m ≡ Refused Unsupported

-- a result is put in place of so many bytes if there is room for it, and is too long else
abbrev pub IsRewritten : Tables → List ℕ → ℕ → ℕ → Front → Type 0
IsRewritten t w room end (front.Rewritten result e call) = (result.text ≡ w) × (length w ≤ room) × (e ≡ end) × IsMade t w call
IsRewritten t w room end front.TooLong = room < length w
IsRewritten t w room end (front.Copy n) = ⊥
IsRewritten t w room end (front.Said c bytes e) = ⊥
IsRewritten t w room end front.BadDirective = ⊥
IsRewritten t w room end front.Unsupported = ⊥
