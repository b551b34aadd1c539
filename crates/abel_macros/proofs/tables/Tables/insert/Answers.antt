-- One name more.
use Rattle.std.proofs.Common.{◌≡◌, ap, ◌∙◌, ℕ, List, Option}
use Rattle.abel_macros.proofs.Common.{Kept, under, by_bytes, Macro, Tables, with_name}
use Rattle.abel_macros.proofs.Looked.{inserted_table}
use Rattle.abel_macros.proofs.tables.Tables.insert.Goals as goal

pub returns : goal.returns
returns c =
    let e : under (by_bytes c.insert.new.self.entries) ≡ with_name c.args.name.items c.args.entry (under (by_bytes c.self.inside.macros.entries)) =
    ap (λ es. under (by_bytes es)) c.in_ok-insert.ensures.entries ∙ inserted_table c.self.inside.macros.entries c.args.name c.args.entry in
    let now : (List ℕ → Option Macro) → Tables = λ ms. record { macros = ms; values = under (by_bytes c.self.inside.values.entries); radix = c.self.inside.radix } in
    let then : Kept → Tables = λ k. record { macros = with_name c.args.name.items c.args.entry (under k.macros); values = under k.values; radix = k.radix } in
    ap now e ∙ ap then c.self.view_is
