use Rattle.std.proofs.Common.{rules, false, ◌≡◌, length, refl, sym, ◌∙◌, subst}
use Rattle.fitter.proofs.Common.{get_or_from_slice_get, slice_get_read, Flip, pin_complements, form_at}
use Rattle.fitter.proofs.Entries.{entry_more, entry_skipped}
use Rattle.fitter.proofs.fitting.add_entry.Goals as goal

pub returns-in_default : goal.returns-in_default
returns-in_default g c =
    entry_skipped g.D.Device.table c.args.fit.now.over.net.now c.args.rows.now.plans.items c.args.rows.now.forms.items c.args.cell c.args.list.now.items c.requires.before (sym c.cell_wanted.ensures ∙ c.in_default.is)

pub returns : goal.returns
returns g c =
    rw c.in_ok-push.ensures.items
    (entry_more g.D.Device.table c.args.fit.now.over.net.now c.args.rows.now.plans.items c.args.rows.now.forms.items c.args.cell c.args.list.now.items _ c.requires.before refl
    (record {
      cell = c.in-Some.wanted;
      wanted = sym c.cell_wanted.ensures ∙ c.in-Some.is;
      inverted = subst (λ (f : Flip). c.pin_complements.result ≡ pin_complements f c.in-Some.wanted.registered (form_at c.args.rows.now.forms.items c.args.cell).inverted) c.args.fit.now.flip
          (rw (get_or_from_slice_get c.args.rows.now.forms.items c.args.cell c.index.result.now (record { inverted = false; registered = false })
          (slice_get_read c.args.rows.now.forms.items (length c.args.rows.now.forms.items) c.args.cell c.index.result.now refl c.requires.forms c.index.ensures)) c.pin_complements.ensures);
      plan = c.index-2.result.now;
      there = slice_get_read c.args.rows.now.plans.items (length c.args.rows.now.plans.items) c.args.cell c.index-2.result.now refl c.requires.plans c.index-2.ensures;
      rows = search rules;
    }))
