-- What a name represents if it is read.
use Rattle.std.proofs.Common.{List, ◌==◌, sym, subst}
use Rattle.placer.proofs.Common.{IfOk-weaker, Named, view_meaning, view, AreMarks, HasMark, IsMarkOf, signals_in, stands_for}
use Rattle.placer.proofs.Joins.{none_marked}
use Rattle.placer.proofs.read_names.Naming.read_mark.Goals as goal

pub returns-in-Pin : goal.returns-in-Pin
returns-in-Pin c = λ ks are. subst (λ m. HasMark c.args.signals.now (stands_for ks c.args.number (view_meaning m)) c.mark_of.result) (sym c.in-Pin.is) c.mark_of.ensures

pub returns-in-Node : goal.returns-in-Node
returns-in-Node c = λ ks are. subst (λ m. HasMark c.args.signals.now (stands_for ks c.args.number (view_meaning m)) c.mark_of-in-Node.result) (sym c.in-Node.is) c.mark_of-in-Node.ensures

pub returns-in-Constant : goal.returns-in-Constant
returns-in-Constant c =
    IfOk-weaker c.of_expr.result (IsMarkOf c.args.self.now.reading (λ ks. signals_in ks (view c.in-Constant.value)))
    (λ mark. (ks : List Named) → AreMarks c.args.signals.now ks c.args.self.now.reading → HasMark c.args.signals.now (stands_for ks c.args.number (view_meaning c.args.meaning.now)) mark)
    (λ mark is ks are. subst (λ m. HasMark c.args.signals.now (stands_for ks c.args.number (view_meaning m)) mark) (sym c.in-Constant.is) (is c.args.signals.now ks c.requires are))
    c.of_expr.ensures

pub returns-in-DeviceName : goal.returns-in-DeviceName
returns-in-DeviceName c = λ ks are. subst (λ m. HasMark c.args.signals.now (stands_for ks c.args.number (view_meaning m)) 0) (sym c.in-DeviceName.is) (none_marked c.args.signals.now c.requires (λ s n. n == s))
