-- What refines another still does so with the same cells exchanged in both.
use Rattle.pld_machine.proofs.Common.{ExchangedRefines, ExchangedValues, exchanged_at, in_sense}
use Rattle.pld_machine.proofs.ExchangedPoints.{point_exchanged}

pub exchanged_refines : ExchangedRefines
exchanged_refines x d s r = record {
  same_cells = record { cells = r.same_cells.cells; pin = r.same_cells.pin; stores = r.same_cells.stores; clock = r.same_cells.clock };
  is_node = r.is_node;
  allows = λ at is.
      let here = r.allows (exchanged_at x at) (point_exchanged x at is) in
      record {
        enabled = here.enabled;
        level = here.level;
        reset = here.reset;
        preset = here.preset;
        next = λ c within kept v. here.next c within kept (in_sense (x c) v);
      };
  node = λ at is. r.node (exchanged_at x at) (point_exchanged x at is);
}

pub values_exchanged : ExchangedValues
values_exchanged x m values others same at is = same (exchanged_at x at) (point_exchanged x at is)
