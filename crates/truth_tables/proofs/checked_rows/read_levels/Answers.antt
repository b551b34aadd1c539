-- An entry that is refused, and one that isn't.
use Rattle.std.proofs.Common.{◌≡◌, false, List, [], ◌∷◌, map, refl, ap, sym, ◌∙◌, subst}
use Rattle.truth_tables.proofs.Common.{none-some, Tree, view, Context, entry_levels, level_of_mark, marks_of, Term, term_of, SectionFault, names_found, Mark, IsEntryRead, view_mark, entry_refused, holds_pulse, levels_of, level_refused}
use Rattle.truth_tables.proofs.HeaderLaws.{first}
use Rattle.truth_tables.proofs.checked_rows.read_levels.Goals as goal

level_plain : (d : Context) (r : SectionFault) (h : Term) (t : Tree) → holds_pulse (names_found d.names) t ≡ false → level_refused d r h t ≡ entry_refused d r h t
level_plain d r h t e = rw e refl

levels_split : (ms : List Mark) → levels_of ms ≡ map level_of_mark (map view_mark ms)
levels_split [] = refl
levels_split (m ∷ ms) = ap (λ ls. level_of_mark (view_mark m) ∷ ls) (levels_split ms)

-- the levels of the marks of an entry
levels_given : (d : Context) (h e : Term) (ms : List Mark) → map view_mark ms ≡ marks_of d h e → levels_of ms ≡ entry_levels d h e
levels_given d h e ms m = levels_split ms ∙ ap (map level_of_mark) m

pub returns-in-Refused : goal.returns-in-Refused
returns-in-Refused c d is =
    let h = term_of d.known (view c.args.header.now) in
    let t = view c.args.entry.now in
    let r = subst (IsEntryRead d c.args.row h t) c.in-Refused.is (c.in_ok-fault.ensures d is) in
    let plain = subst (λ es. holds_pulse (names_found es) t ≡ false) (sym is.names) (sym c.in_ok-holds_pulse.ensures ∙ c.if-branch.false) in
    record {
      fault = sym (ap first (level_plain d c.args.row h t plain) ∙ r);
      given = λ n. absurd (none-some c.in-Refused.fault (sym n));
    }

pub returns-in_ok-levels-in-Marks : goal.returns-in_ok-levels-in-Marks
returns-in_ok-levels-in-Marks c d is =
    let h = term_of d.known (view c.args.header.now) in
    let t = view c.args.entry.now in
    let r = subst (IsEntryRead d c.args.row h t) c.in-Marks.is (c.in_ok-fault.ensures d is) in
    let plain = subst (λ es. holds_pulse (names_found es) t ≡ false) (sym is.names) (sym c.in_ok-holds_pulse.ensures ∙ c.if-branch.false) in
    record {
      fault = sym (ap first (level_plain d c.args.row h t plain ∙ r.0));
      given = λ n. c.from_vec-in-Marks.ensures ∙ c.in_ok-levels-in-Marks.ensures ∙ ap levels_of c.as_slice.ensures.value ∙ levels_given d h (term_of d.known t) c.in-Marks.marks.items r.1;
    }
