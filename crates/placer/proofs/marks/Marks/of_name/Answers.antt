-- A name has the mark that the map has, and none else.
use Rattle.std.proofs.Common.{sym, ap, ◌∙◌, option_copied}
use Rattle.placer.proofs.Common.{number_in}
use Rattle.placer.proofs.Known.{known_mark, unknown_mark}
use Rattle.placer.proofs.marks.Marks.of_name.Goals as goal

pub returns-in-Some : goal.returns-in-Some
returns-in-Some c = λ signals ks small are.
    known_mark signals ks c.args.name.now (number_in c.args.self.now.map.entries c.args.name.now) c.in-Some.mark.now
    (sym c.get.ensures.value ∙ ap option_copied c.in-Some.is) (are c.args.name.now)

pub returns-in-None : goal.returns-in-None
returns-in-None c = λ signals ks small are.
    unknown_mark signals small ks c.args.name.now (number_in c.args.self.now.map.entries c.args.name.now)
    (sym c.get.ensures.value ∙ ap option_copied c.in-None.is) (are c.args.name.now)
