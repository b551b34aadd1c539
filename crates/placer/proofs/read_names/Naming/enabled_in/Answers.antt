-- What it names, if it is a target that is an enable.
use Rattle.std.proofs.Common.{[], if◌then◌else◌, sym, ap, ◌∙◌}
use Rattle.placer.proofs.Common.{signals_of, without_extension, view_part, enabled_in}
use Rattle.placer.proofs.Joins.{no_numbers, numbers_answer, numbers_same}
use Rattle.placer.proofs.read_names.Naming.enabled_in.Goals as goal

pub returns-then-is_enabling : goal.returns-then-is_enabling
returns-then-is_enabling c =
    let p = view_part c.args.part.now in
    numbers_answer c.args.self.now.targets c.of_left_side.result (λ ks. signals_of ks (without_extension p.tree)) (λ ks. enabled_in ks p)
    (λ ks. ap (λ b. if b then signals_of ks (without_extension p.tree) else []) (sym c.if-is_enabling.true ∙ c.is_enabling.ensures)) c.of_left_side.ensures

pub returns-else-is_enabling : goal.returns-else-is_enabling
returns-else-is_enabling c =
    let p = view_part c.args.part.now in
    numbers_same c.args.self.now.targets (λ ks. []) (λ ks. enabled_in ks p) 0
    (λ ks. ap (λ b. if b then signals_of ks (without_extension p.tree) else []) (sym c.if-is_enabling.false ∙ c.is_enabling.ensures)) (no_numbers c.args.self.now.targets)
