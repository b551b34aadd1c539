-- One name more.
use Rattle.std.proofs.Common.{◌≡◌, ap, ◌∙◌, ℕ, List, Option}
use Rattle.abel_macros.proofs.Common.{Kept, under, by_bytes, Tables, with_name}
use Rattle.abel_macros.proofs.Looked.{inserted_table}
use Rattle.abel_macros.proofs.tables.Tables.keep.Goals as goal

pub returns : goal.returns
returns c =
    let e : under (by_bytes c.insert.new.self.entries) ≡ with_name c.args.name.items c.args.value (under (by_bytes c.self.inside.values.entries)) =
    ap (λ es. under (by_bytes es)) c.in_ok-insert.ensures.entries ∙ inserted_table c.self.inside.values.entries c.args.name c.args.value in
    let now : (List ℕ → Option ℕ) → Tables = λ ms. record { macros = under (by_bytes c.self.inside.macros.entries); values = ms; radix = c.self.inside.radix } in
    let then : Kept → Tables = λ k. record { macros = under k.macros; values = with_name c.args.name.items c.args.value (under k.values); radix = k.radix } in
    ap now e ∙ ap then c.self.view_is
