-- The names that it uses, if it is read.
use Rattle.std.proofs.Common.{[], map, if◌then◌else◌, sym, ap, ◌∙◌}
use Rattle.placer.proofs.Common.{flat_map, view_part, view_use, read_in, signals_at}
use Rattle.placer.proofs.Joins.{no_numbers, numbers_answer, numbers_same}
use Rattle.placer.proofs.read_names.Naming.read_in.Goals as goal

pub returns-then-reads_as : goal.returns-then-reads_as
returns-then-reads_as c =
    let p = view_part c.args.part.now in
    numbers_answer c.args.self.now.reading c.of_uses.result (λ ks. flat_map (signals_at ks) (map view_use c.as_slice.result.now)) (λ ks. read_in ks p)
    (λ ks. ap (λ us. flat_map (signals_at ks) (map view_use us)) c.as_slice.ensures.value
    ∙ ap (λ b. if b then flat_map (signals_at ks) p.uses else []) (sym c.if-reads_as.true ∙ c.reads_as.ensures)) c.of_uses.ensures

pub returns-else-reads_as : goal.returns-else-reads_as
returns-else-reads_as c =
    let p = view_part c.args.part.now in
    numbers_same c.args.self.now.reading (λ ks. []) (λ ks. read_in ks p) 0
    (λ ks. ap (λ b. if b then flat_map (signals_at ks) p.uses else []) (sym c.if-reads_as.false ∙ c.reads_as.ensures)) (no_numbers c.args.self.now.reading)
