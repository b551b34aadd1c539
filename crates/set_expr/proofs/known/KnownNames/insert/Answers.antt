use Rattle.std.proofs.Common.{◌≡◌, Some, None, ap, ◌∙◌, bytes_eq, if◌then◌else◌}
use Rattle.set_expr.proofs.Common.{option_or, Table, under, by_bytes}
use Rattle.set_expr.proofs.NamesMore.{inserted}
use Rattle.set_expr.proofs.known.KnownNames.insert.Goals as goal

pub returns-clause-names : goal.returns-clause-names
returns-clause-names c w =
    let free : under (by_bytes c.self.inside.names.entries) c.args.name.items ≡ None = ap (λ (t : Table). under t.names c.args.name.items) c.self.view_is ∙ c.requires in
    ap (λ es. under (by_bytes es) w) c.in_ok-insert.ensures.entries
    ∙ inserted c.self.inside.names.entries c.args.name c.args.known w free
    ∙ ap (λ (t : Table). option_or (under t.names w) (if bytes_eq w c.args.name.items then Some c.args.known else None)) c.self.view_is
