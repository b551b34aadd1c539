-- The first entry of the name has more words.
use Rattle.std.proofs.Common.{map, sym, ap, ◌∙◌}
use Rattle.decls.proofs.Common.{kept, view_said}
use Rattle.std.specs.Option.{option_copied_mut}
use Rattle.decls.proofs.Found.{number_found}
use Rattle.decls.proofs.Told.{rows_told, none_told}
use Rattle.decls.proofs.table.NameTable.say_one.Goals as goal

pub returns-in-Some-get_index_mut : goal.returns-in-Some-get_index_mut
returns-in-Some-get_index_mut c = λ t s sh. record {
  pins = sh.pins;
  ground = sh.ground;
  rows =
      rows_told t c.args.self.now.names.entries s.entries c.args.name.now c.in-Some.number c.in-Some-get_index_mut.known.now (view_said c.args.said) c.said_by_both-known.result sh.rows
      (sym (number_found t c.args.self.now.names.entries s.entries c.args.name.now sh.rows) ∙ (sym c.get_index_of.ensures.index ∙ c.in-Some.is))
      (sym c.get_index_mut.ensures.value ∙ ap option_copied_mut c.in-Some-get_index_mut.is) c.said_by_both-known.ensures;
  device = sh.device;
  nodes = sh.nodes;
  taken = sh.taken;
  waiting = sh.waiting;
  first = sh.first;
}

pub returns-in_default : goal.returns-in_default
returns-in_default c = λ t s sh. record {
  pins = sh.pins;
  ground = sh.ground;
  rows =
      sh.rows
      ∙ ap (map (kept t)) (none_told (view_said c.args.said) s.entries c.args.name.now
      (sym (number_found t c.args.self.now.names.entries s.entries c.args.name.now sh.rows) ∙ (sym c.get_index_of.ensures.index ∙ c.in_default.is)));
  device = sh.device;
  nodes = sh.nodes;
  taken = sh.taken;
  waiting = sh.waiting;
  first = sh.first;
}
